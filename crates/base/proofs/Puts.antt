-- What is put into a list piece by piece.
use Rattle.std.proofs.Common.{◌≡◌, ℕ, ◌+◌, ◌≤◌, List, ◌++◌, length, take, drop, sym, ap, ◌∙◌, append_assoc, zero-add, arith, drop-drop}
use lib.Seq.{sets, sets-eq}
use borrow.Rule.Slice.PartMut.{put_mid}
use Rattle.std.proofs.lemmas.Bool.Decides.{nat_tests}
use Rattle.base.specs.Printed.{front_into}
use Rattle.base.specs.Puts.{put_into}

-- from the front: what was put, and then what stood there before
pub sets_front : {X : Type 0} (l vs : List X) → length vs ≤ length l → sets l 0 vs ≡ vs ++ drop (length vs) l
sets_front l vs h = sets-eq vs l 0 (omega arith) ∙ rw zero-add

-- what a copy into `out[a..a + k]` leaves
pub sets_part : {X : Type 0} (a k : ℕ) (l vs ws : List X) → ws ≡ vs → k ≡ length vs → a + k ≤ length l → put_mid a k l ws ≡ sets l a vs
sets_part a k l vs ws e m h =
    ap (put_mid a k l) e ∙ ap (λ n. take a l ++ (vs ++ drop n (drop a l))) m ∙ ap (λ t. take a l ++ (vs ++ t)) (drop-drop (length vs) a l)
    ∙ sym (append_assoc (take a l) vs (drop (a + length vs) l)) ∙ sym (sets-eq vs l a (omega arith))

-- what is put from the front on stands before what was there
pub put_front : (l m bs : List ℕ) → m ≡ put_into l 0 bs → m ≡ front_into bs l
put_front l m bs e = grind (arith, nat_tests, sets_front {X = ℕ})
