-- What stands at a place of a list that is made of others.
use Rattle.std.proofs.Common.{◌≡◌, ℕ, zero, suc, ◌+◌, ◌<◌, List, [], ◌∷◌, ◌++◌, length, drop, Some, Option, ◌∙◌, add-one, arith}
use Rattle.std.specs.List.{slice_get}

-- a list made piece by piece from the elements of another: one piece more, and none left
module _ {X Y : Type 0} (F : List X → List Y) (G : Option X → List Y) (cons : (x : X) (xs : List X) → F (x ∷ xs) ≡ G (Some x) ++ F xs) where
  pub pieces_more : (xs : List X) (i : ℕ) → i < length xs → F (drop i xs) ≡ G (slice_get xs i) ++ F (drop (i + 1) xs)
  pieces_more [] i h = absurd (omega arith)
  pieces_more (x ∷ xs) zero h = cons x xs
  pieces_more (x ∷ xs) (suc i) h = pieces_more xs i (omega arith) ∙ simp add-one
