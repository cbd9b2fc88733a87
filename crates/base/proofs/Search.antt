-- What it tells of numbers, and of the places of lists, that the first one that passes a test was found, or none.
use Rattle.std.proofs.Common.{◌≡◌, ℕ, zero, suc, ◌+◌, ◌<◌, ◌≤◌, Bool, true, false, ◌||◌, cond, List, [], ◌∷◌, ◌++◌, length, Some, None, Option, is_some, sym, refl, ap, ◌∙◌, subst, inl, inr, add-zero, zero-add, arith}
use Rattle.std.proofs.lemmas.Bool.{cases_eq, cases_lt, and_parts, and_from}
use Rattle.std.specs.List.{AllByRecursion as Each, list_all, list_any, range_with_len, slice_get}
use Rattle.std.proofs.lemmas.List.Folds.{list_any-append}
use Rattle.std.specs.Option.{option_or}
use Rattle.base.specs.Search.{least}

-- the number n, if it passes
abbrev last : Bool → ℕ → Option ℕ
last b n = cond b (Some n) None

module _ (p : ℕ → Bool) where
  here : (i : ℕ) → true ≡ p i → least p i ≡ None → Some i ≡ least p (suc i)
  here i t e = ap (λ b. last b i) t ∙ sym (ap (λ o. option_or o (last (p i) i)) e)

  pub least_found : (i n : ℕ) → i < n → true ≡ p i → least p i ≡ None → Some i ≡ least p n
  least_found i zero h t e = absurd (omega arith)
  least_found i (suc n) h t e = elim (cases_eq i n) [
    | inl same ↦ subst (λ k. Some i ≡ least p (suc k)) same (here i t e)
    | inr ne ↦ ap (λ o. option_or o (last (p n) n)) (least_found i n (omega arith) t e)
  ]

none_parts : (n : ℕ) (o : Option ℕ) (b : Bool) → option_or o (last b n) ≡ None → (o ≡ None) × (b ≡ false)
none_parts n None true e = absurd cc
none_parts n None false e = (refl, refl)
none_parts n (Some k) b e = absurd cc

-- where nothing is found, nothing passes
pub none_passes : (p : ℕ → Bool) (n i : ℕ) → i < n → least p n ≡ None → p i ≡ false
none_passes p zero i h e = absurd (omega arith)
none_passes p (suc n) i h e =
    let s = none_parts n (least p n) (p n) e in
    elim (cases_eq i n) [ inl same ↦ ap p same ∙ s.1 | inr ne ↦ none_passes p n i (omega arith) s.0 ]

-- where nothing passes, nothing is found
pub none_found : (p : ℕ → Bool) (n : ℕ) → ((i : ℕ) → i < n → p i ≡ false) → least p n ≡ None
none_found p zero h = refl
none_found p (suc n) h =
    ap (λ o. option_or o (last (p n) n)) (none_found p n (λ i l. h i (omega arith))) ∙ ap (λ b. last b n) (h n (omega arith))

range_more : (k n : ℕ) → range_with_len k (suc n) ≡ range_with_len k n ++ (k + n) ∷ []
range_more k zero = simp add-zero
range_more k (suc n) = let next : k + 1 + n ≡ k + suc n = omega arith in ap (k ∷◌) (range_more (k + 1) n ∙ ap (λ j. range_with_len (k + 1) n ++ j ∷ []) next)

found_either : (n : ℕ) (o : Option ℕ) (b : Bool) → is_some (option_or o (last b n)) ≡ (is_some o || (b || false))
found_either n None true = refl
found_either n None false = refl
found_either n (Some k) b = refl

-- something is found where one of the numbers passes
some_least : (q : ℕ → Bool) (n : ℕ) → is_some (least q n) ≡ list_any q (range_with_len 0 n)
some_least q zero = refl
some_least q (suc n) =
    found_either n (least q n) (q n) ∙ ap (λ b. b || (q n || false)) (some_least q n) ∙ sym (list_any-append q (range_with_len 0 n) (n ∷ [])) ∙ ap (list_any q) (sym (range_more 0 n ∙ simp zero-add))

-- of the places of a list, one passes where an element does
module _ {X : Type 0} (p : X → Bool) where
  any_above : (q : ℕ → Bool) (k : ℕ) (xs : List X) → ((i : ℕ) (x : X) → Some x ≡ slice_get xs i → q (k + i) ≡ p x) → list_any q (range_with_len k (length xs)) ≡ list_any p xs
  any_above q k [] h = refl
  any_above q k (x ∷ xs) h =
      let here : q k ≡ p x = rw add-zero at (h 0 x refl) in
      let rest = λ (i : ℕ) (y : X) (e : Some y ≡ slice_get xs i). let next : k + 1 + i ≡ k + suc i = omega arith in ap q next ∙ h (suc i) y e in
      ap (λ b. b || list_any q (range_with_len (k + 1) (length xs))) here ∙ ap (p x ||◌) (any_above q (k + 1) xs rest)

  pub some_place : (q : ℕ → Bool) (xs : List X) → ((i : ℕ) (x : X) → Some x ≡ slice_get xs i → q i ≡ p x) → is_some (least q (length xs)) ≡ list_any p xs
  some_place q xs h = some_least q (length xs) ∙ any_above q 0 xs (λ i x e. ap q (zero-add i) ∙ h i x e)

-- none that passes stands below what is found
least_le_by : (p : ℕ → Bool) (m n x : ℕ) (o : Option ℕ) (b : Bool) → p m ≡ true → least p n ≡ o → p n ≡ b → ((y : ℕ) → Some y ≡ o → y ≤ m) → Some x ≡ option_or o (last b n) → x ≤ m
least_le_by p m n x (Some y) b t e f h g = h x g
least_le_by p m n x None true t e f h g = let same : x ≡ n = cc in elim (cases_lt m n) [
  | inr low ↦ omega arith
  | inl high ↦ absurd (cc (none_passes p n m high e))
]
least_le_by p m n x None false t e f h g = absurd cc

pub least_le : (p : ℕ → Bool) (m : ℕ) → p m ≡ true → (n x : ℕ) → Some x ≡ least p n → x ≤ m
least_le p m t zero x g = absurd cc
least_le p m t (suc n) x g = least_le_by p m n x (least p n) (p n) t refl refl (least_le p m t n) g

-- where every element passes, what passing tells holds of each, and the other way round
pub every_all : {X : Type 0} (p : X → Bool) (P : X → Type 0) → ((x : X) → p x ≡ true → P x) → (xs : List X) → list_all p xs ≡ true → Each P xs
every_all p P f [] h = tt
every_all p P f (x ∷ xs) h = let b = and_parts (p x) (list_all p xs) h in (f x b.0, every_all p P f xs b.1)

pub all_every : {X : Type 0} (p : X → Bool) (P : X → Type 0) → ((x : X) → P x → p x ≡ true) → (xs : List X) → Each P xs → list_all p xs ≡ true
all_every p P f [] h = refl
all_every p P f (x ∷ xs) h = and_from (p x) (list_all p xs) (f x h.0) (all_every p P f xs h.1)
