-- From look-ups at a book to what they say of its rules.
use Rattle.std.proofs.Common.{◌≡◌, ℕ, Bool, true, false, not, ◌&&◌, ◌||◌, List, [], ◌∷◌, length, ℤ, Some, None, Option, is_some, unwrap_or, sym, refl, ap, ◌∙◌}
use Rattle.std.specs.List.{slice_get, list_all, list_any}
use Rattle.std.proofs.Math.Bool.{and-true}
use Rattle.base.specs.Search.{least}
use Rattle.base.proofs.Search.{some_place}
use Rattle.book.specs.Rules.{Rule, kind_of, head_size, body_size, head_atom, body_literal}
use Rattle.book.specs.declared.kind.Kind.TheVariants.{Plain}
use Rattle.sheet.specs.Lists.{passes}
use Rattle.sheet.specs.Marks.{Atoms}
use Rattle.sheet.specs.Bodies.{body_of, unmet_at, first_unmet, literal_true, true_under}
use Rattle.sheet.specs.Judges.{some_head, some_literal}
use Rattle.sheet.specs.AnswerSets.{head_broken, broken}

-- a place of a head whose atom passes is found where an atom of it passes
pub any_head_place : (p : ℕ → Bool) (o : Option Rule) → is_some (least (λ at. passes p (head_atom o at)) (unwrap_or (head_size o) 0)) ≡ some_head p o
unfolding some_head
any_head_place p None = refl
any_head_place p (Some ρ) = some_place p (λ at. passes p (slice_get ρ.head at)) ρ.head (λ i a e. sym (ap (passes p) e))

-- and a place of a body whose literal passes, where a literal of it does
pub any_literal_place : (p : ℤ → Bool) (o : Option Rule) → is_some (least (λ at. passes p (body_literal o at)) (unwrap_or (body_size o) 0)) ≡ some_literal p o
unfolding some_literal
any_literal_place p None = refl
any_literal_place p (Some ρ) = some_place p (λ at. passes p (slice_get ρ.body at)) ρ.body (λ i z e. sym (ap (passes p) e))

-- the size of a body is its length
pub body_length : (o : Option Rule) → unwrap_or (body_size o) 0 ≡ length (body_of o)
body_length None = refl
body_length (Some ρ) = refl

-- not (not a or b) is a and not b
de_morgan : (a b : Bool) → not (not a || b) ≡ (a && not b)
de_morgan true b = refl
de_morgan false b = refl

-- no element fails the test where every one passes it
every_not_some : (q : ℤ → Bool) (zs : List ℤ) → not (list_any (λ z. not (q z)) zs) ≡ list_all q zs
every_not_some q [] = refl
every_not_some q (z ∷ zs) = de_morgan (q z) (list_any (λ y. not (q y)) zs) ∙ ap (q z &&◌) (every_not_some q zs)

-- a plain rule without a true head is broken where no literal is untrue
pub plain_broken : (A : Atoms) (o : Option Rule) → Some Plain ≡ kind_of o → passes (λ ρ. list_any A ρ.head) o ≡ false → not (is_some (first_unmet (literal_true A A) o)) ≡ passes (broken A) o
unfolding first_unmet
plain_broken A None e h = cc
plain_broken A (Some ρ) e h =
    let test = literal_true A A in
    let plain : ρ.kind ≡ Plain = cc in
    let head : head_broken A ρ.kind ρ.head ≡ true = ap (λ k. head_broken A k ρ.head) plain ∙ ap not h in
    let found = some_place (λ z. not (test z)) (unmet_at test (Some ρ)) ρ.body (λ i z at. sym (ap (passes (λ y. not (test y))) at)) in
    ap not found ∙ every_not_some test ρ.body ∙ sym (and-true (true_under A ρ)) ∙ ap (true_under A ρ &&◌) (sym head)
