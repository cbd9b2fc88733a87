-- Elements of lists, and what tests of a list tell of them.
use Rattle.std.proofs.Common.{◌≡◌, ℕ, zero, suc, ◌<◌, ◌≤◌, Bool, true, eqb, ◌⊎◌, List, [], ◌∷◌, length, take, Some, sym, refl, ap, ◌∙◌, subst, inl, inr, arith}
use Rattle.std.specs.List.{AllByRecursion as Each, slice_get, list_all, list_any}
use Rattle.std.proofs.lemmas.Bool.{or_cases, or_left, or_right, eq-eqb, eqb-true, false≢true}
use Rattle.base.proofs.Search.{every_all, all_every}
use Rattle.sheet.specs.Lists.{has}

abbrev pub In : {X : Type 0} → X → List X → Type 0
In x [] = ⊥
In x (y ∷ ys) = (y ≡ x) ⊎ In x ys

pub all_in : {X : Type 0} (P : X → Type 0) (xs : List X) (x : X) → Each P xs → In x xs → P x
all_in P [] x h i = absurd i
all_in P (y ∷ ys) x h (inl q) = subst P q h.0
all_in P (y ∷ ys) x h (inr i) = all_in P ys x h.1 i

pub all_from : {X : Type 0} (P : X → Type 0) (xs : List X) → ((x : X) → In x xs → P x) → Each P xs
all_from P [] h = tt
all_from P (x ∷ xs) h = (h x (inl refl), all_from P xs (λ y i. h y (inr i)))

module _ {X : Type 0} (p : X → Bool) (xs : List X) where
  pub every_at : (x : X) → list_all p xs ≡ true → In x xs → p x ≡ true
  every_at x e = all_in (λ y. p y ≡ true) xs x (every_all p (λ y. p y ≡ true) (λ _ h. h) xs e)

  pub every_from : ((x : X) → In x xs → p x ≡ true) → list_all p xs ≡ true
  every_from h = all_every p (λ y. p y ≡ true) (λ _ e. e) xs (all_from (λ y. p y ≡ true) xs h)

module _ {X : Type 0} (p : X → Bool) where
  pub some_at : (xs : List X) → list_any p xs ≡ true → (x : X) × In x xs × (p x ≡ true)
  some_at [] e = absurd (false≢true e)
  some_at (y ∷ ys) e = elim (or_cases (p y) (list_any p ys) e) [
    | inl h ↦ (y, inl refl, h)
    | inr h ↦ let r = some_at ys h in (r.0, inr r.1, r.2)
  ]

  pub some_from : (xs : List X) (x : X) → In x xs → p x ≡ true → list_any p xs ≡ true
  some_from [] x i h = absurd i
  some_from (y ∷ ys) x (inl q) h = or_left (p y) (list_any p ys) (subst (λ v. p v ≡ true) (sym q) h)
  some_from (y ∷ ys) x (inr i) h = or_right (p y) (list_any p ys) (some_from ys x i h)

-- a test that passes more often
module _ {X : Type 0} (p q : X → Bool) (h : (x : X) → p x ≡ true → q x ≡ true) (xs : List X) where
  pub every_more : list_all p xs ≡ true → list_all q xs ≡ true
  every_more e = every_from q xs (λ x i. h x (every_at p xs x e i))

  pub some_more : list_any p xs ≡ true → list_any q xs ≡ true
  some_more e = let r = some_at p xs e in some_from q xs r.0 r.1 (h r.0 r.2)

pub has_in : (xs : List ℕ) (a : ℕ) → In a xs → has xs a ≡ true
has_in xs a i = some_from (eqb a) xs a i (eq-eqb a a refl)

pub in_has : (xs : List ℕ) (a : ℕ) → has xs a ≡ true → In a xs
in_has xs a e = let r = some_at (eqb a) xs e in rw (eqb-true a r.0 r.2) r.1

-- elements and places
module _ {X : Type 0} where
  pub nth_in : (xs : List X) (k : ℕ) (x : X) → slice_get xs k ≡ Some x → In x xs
  nth_in [] k x e = absurd cc
  nth_in (y ∷ ys) zero x e = inl (cc)
  nth_in (y ∷ ys) (suc k) x e = inr (nth_in ys k x e)

  pub in_nth : (xs : List X) (x : X) → In x xs → (k : ℕ) × (k < length xs) × (slice_get xs k ≡ Some x)
  in_nth [] x i = absurd i
  in_nth (y ∷ ys) x (inl q) = (0, omega arith, ap Some q)
  in_nth (y ∷ ys) x (inr i) = let r = in_nth ys x i in (suc r.0, omega (arith, r.1), r.2)

  -- what stands before a place
  pub in_take : (xs : List X) (k n : ℕ) (x : X) → slice_get xs k ≡ Some x → k < n → In x (take n xs)
  in_take [] k n x e l = absurd cc
  in_take (y ∷ ys) k zero x e l = absurd (omega arith)
  in_take (y ∷ ys) zero (suc n) x e l = inl (cc)
  in_take (y ∷ ys) (suc k) (suc n) x e l = inr (in_take ys k n x e (omega arith))

  pub in_take_more : (xs : List X) (n : ℕ) (x : X) → In x (take n xs) → In x (take (suc n) xs)
  in_take_more [] zero x i = i
  in_take_more [] (suc n) x i = i
  in_take_more (y ∷ ys) zero x i = absurd i
  in_take_more (y ∷ ys) (suc n) x (inl q) = inl q
  in_take_more (y ∷ ys) (suc n) x (inr i) = inr (in_take_more ys n x i)

  pub only_one : (xs : List X) → length xs ≤ 1 → (x y : X) → In x xs → In y xs → x ≡ y
  only_one [] l x y i j = absurd i
  only_one (z ∷ []) l x y (inl p) (inl q) = sym p ∙ q
  only_one (z ∷ []) l x y (inl p) (inr j) = absurd j
  only_one (z ∷ []) l x y (inr i) j = absurd i
  only_one (z ∷ w ∷ zs) l x y i j = absurd (omega arith)
