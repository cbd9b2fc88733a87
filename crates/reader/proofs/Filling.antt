-- The lists of the caller, filled statement by statement.
use Rattle.std.proofs.Common.{◌≡◌, ℕ, ◌+◌, ◌≤◌, true, List, [], ◌∷◌, length, ℤ, sym, ap, ◌∙◌, subst, arith, length-append}
use Rattle.base.specs.Pens.{Page, page, has_room, filled}
use Rattle.base.specs.PensLawful.{pen_laws}
use Rattle.base.specs.declared.pen.Pen.{Pen}
use Rattle.book.specs.Encoding.{starts_from}
use Rattle.reader.specs.Statements.{Stmt, rules_in}
use Rattle.reader.specs.Fill.{integers_in, parts_in, starts_in}

pub filled_none : {X : Type 0} (p : Pen X) (xs : List X) → xs ≡ [] → filled p xs p
filled_none p xs e = subst (λ ys. filled p ys p) (sym e) (pen_laws.nothing p).1

-- a part of what statements hold

module _ {X : Type 0} (part : Stmt → List X) where
  pub part_none : (p : Pen X) → filled p (parts_in part []) p
  unfolding parts_in
  part_none p = (pen_laws.nothing p).1

  module _ (p : Pen X) (s : Stmt) (ss : List Stmt) where
    pub part_first : has_room (page p) (parts_in part (s ∷ ss)) ≡ true → has_room (page p) (part s) ≡ true
    unfolding parts_in
    part_first h = pen_laws.first p (part s) (parts_in part ss) h

    pub part_rest : (q : Pen X) → has_room (page p) (parts_in part (s ∷ ss)) ≡ true → filled p (part s) q → has_room (page q) (parts_in part ss) ≡ true
    unfolding parts_in
    part_rest q h e = pen_laws.rest p q (part s) (parts_in part ss) (part_first h) e ∙ h

    pub part_then : (q r : Pen X) → filled p (part s) q → filled q (parts_in part ss) r → filled p (parts_in part (s ∷ ss)) r
    unfolding parts_in
    part_then q r e f = pen_laws.both p q r (part s) (parts_in part ss) e f

-- the integers of rules, and where each rule starts

pub record RoomFor (p : Pen ℤ) (q : Pen ℕ) (zs : List ℤ) (ns : List ℕ) : Type 0 where
  pub integers : has_room (page p) zs ≡ true
  pub starts : has_room (page q) ns ≡ true
  pub few : p.at + length zs ≤ 16384

pub record BothPut (p : Pen ℤ) (q : Pen ℕ) (zs : List ℤ) (ns : List ℕ) (t : Pen ℤ) (u : Pen ℕ) : Type 0 where
  pub integers : filled p zs t
  pub starts : filled q ns u

abbrev pub RoomForRules : Pen ℤ → Pen ℕ → List Stmt → Type 0
RoomForRules p q ss = RoomFor p q (parts_in integers_in ss) (starts_in p.at ss)

abbrev pub RulesPut : Pen ℤ → Pen ℕ → List Stmt → Pen ℤ → Pen ℕ → Type 0
RulesPut p q ss t u = BothPut p q (parts_in integers_in ss) (starts_in p.at ss) t u

pub rules_none : (p : Pen ℤ) (q : Pen ℕ) → RulesPut p q [] p q
unfolding starts_in
rules_none p q = record { integers = part_none integers_in p; starts = (pen_laws.nothing q).1 }

module _ (p : Pen ℤ) (q : Pen ℕ) (s : Stmt) (ss : List Stmt) where
  pub rules_first : RoomForRules p q (s ∷ ss) → RoomFor p q (integers_in s) (starts_from p.at (rules_in s))
  unfolding parts_in starts_in
  rules_first h = record {
    integers = part_first integers_in p s ss h.integers;
    starts = pen_laws.first q (starts_from p.at (rules_in s)) (starts_in (p.at + length (integers_in s)) ss) h.starts;
    few = omega (arith, h.few, length-append (integers_in s) (parts_in integers_in ss));
  }

  module _ (t : Pen ℤ) (u : Pen ℕ) (one : BothPut p q (integers_in s) (starts_from p.at (rules_in s)) t u) where
    next_start : t.at ≡ p.at + length (integers_in s)
    next_start = ap (λ (P : Page _). P.at) one.integers.0

    pub rules_rest : RoomForRules p q (s ∷ ss) → RoomForRules t u ss
    unfolding parts_in starts_in
    rules_rest h =
        let first = rules_first h in
        record {
          integers = part_rest integers_in p s ss t h.integers one.integers;
          starts = ap (λ n. has_room (page u) (starts_in n ss)) next_start ∙ pen_laws.rest q u (starts_from p.at (rules_in s)) (starts_in (p.at + length (integers_in s)) ss) first.starts one.starts ∙ h.starts;
          few = omega (arith, h.few, next_start, length-append (integers_in s) (parts_in integers_in ss));
        }

    pub rules_then : (v : Pen ℤ) (w : Pen ℕ) → RulesPut t u ss v w → RulesPut p q (s ∷ ss) v w
    unfolding starts_in
    rules_then v w h = record {
      integers = part_then integers_in p s ss t v one.integers h.integers;
      starts = pen_laws.both q u w (starts_from p.at (rules_in s)) (starts_in (p.at + length (integers_in s)) ss) one.starts (subst (λ n. filled u (starts_in n ss) w) next_start h.starts);
    }
