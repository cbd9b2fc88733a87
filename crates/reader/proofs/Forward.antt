-- A line ends after where it began, so there are never more lines than bytes.
use Rattle.std.proofs.Common.{◌≡◌, ℕ, zero, suc, ◌+◌, ◌-◌, ◌<◌, ◌≤◌, cond, eqb, ltb, List, length, get_or, ℤ, pos, negsuc, IfOk, Ok, Err, Result, refl, ap, arith}
use Rattle.std.proofs.lemmas.Result.{IfOk-weaker}
use Rattle.std.proofs.lemmas.Bool.{cond_both, cond-false, le-ltb}
use Rattle.aspif.specs.declared.error.TextError.{TextError}
use Rattle.aspif.specs.declared.error.TextError.TheVariants.{OverLimit, UnexpectedEnd}
use Rattle.reader.specs.Fields.{and_then, minus_at, digits_from, digits_count, field_at, Field}
use Rattle.reader.specs.Rows.{count_limit, count_fault, count_judged, after_count, count_at, allowed, after_item, item_at, Row, before, row_at}
use Rattle.reader.specs.Statements.{Stmt}
use Rattle.reader.specs.Read.{EveryTextHasItsVerdict}
use Rattle.reader.specs.Scan.{nothing, with_one, keeps, before as then, list_by, statements_from}
use Rattle.reader.specs.declared.pieces.Counts.{Counts}
use Rattle.book.specs.Encoding.{kind_told}
use Rattle.book.specs.declared.kind.Kind.{Kind}
use Rattle.book.specs.declared.kind.NoSuchKind.{NoSuchKind}
use Rattle.reader.specs.Lines.{Line, ended, said, counted_at, headed_by, head_judged, head_type_at, body_judged, body_type_at, rule_at, name_end_at, output_at, assumption_at, rest_of, skipped_at, passed_over, by_kind, line_at}
use Rattle.reader.specs.declared.pieces.After.{After}
use Rattle.reader.specs.declared.pieces.After.TheVariants.{Space, ByKind}
use Rattle.reader.specs.declared.pieces.Count.{Count}
use Rattle.reader.specs.declared.pieces.Count.TheVariants as count
use Rattle.reader.specs.declared.pieces.Items.{Items}
use Rattle.reader.specs.declared.pieces.Items.TheVariants as items
use Rattle.reader.proofs.Moves.{start_after, field_moves}

pub then_made : {X Y : Type 0} (P : X → Type 0) (Q : Y → Type 0) (r : Result X TextError) (k : X → Result Y TextError) → IfOk r P → ((x : X) → P x → IfOk (k x) Q) → IfOk (and_then r k) Q
then_made P Q (Ok x) k h go = go x h
then_made P Q (Err e) k h go = tt

-- a field at a place goes on after it
abbrev AfterPlace : ℕ → Field → Type 0
AfterPlace at f = at < f.next

field_after : (after : After) (text : List ℕ) (at : ℕ) → IfOk (field_at after text at) (AfterPlace at)
field_after after text at = IfOk-weaker (field_at after text at) (λ f. (at < f.next) × (f.next ≤ length text)) (AfterPlace at) (λ f h. h.0) (field_moves after text at)

-- counts, types, rows

count_by : (c : Count) (at n : ℕ) (z : ℤ) (next : ℕ) → at ≤ next → IfOk (count_judged c n (record { value = z; ending = 0; next = next })) (λ m. at ≤ m.next)
count_by c at n (pos m) next h = cond_both (ltb (count_limit c) m) (Err (count_fault c n)) (Ok (record { count = m; next = next })) (λ r. IfOk r (λ k. at ≤ k.next)) (λ _. tt) (λ _. h)
count_by c at n (negsuc m) next h = tt

count_after : (c : Count) (text : List ℕ) (at : ℕ) → IfOk (count_at c text at) (λ m. at ≤ m.next)
unfolding count_at
count_after c text at = then_made (AfterPlace at) (λ m. at ≤ m.next) (field_at (after_count c) text at) (count_judged c at) (field_after (after_count c) text at) (λ f h. count_by c at at f.value f.next (omega arith))

item_after : (i : Items) (more : ℕ) (text : List ℕ) (at : ℕ) → IfOk (item_at i more text at) (AfterPlace at)
unfolding item_at
item_after i more text at = then_made (AfterPlace at) (AfterPlace at) (field_at (after_item i more) text at) _ (field_after (after_item i more) text at) (λ f h. cond_both (allowed i f.value) (Ok f) (Err _) (λ r. IfOk r (AfterPlace at)) (λ _. h) (λ _. tt))

before_after : (at : ℕ) (z : ℤ) (r : Result Row TextError) → IfOk r (λ w. at ≤ w.next) → IfOk (before z r) (λ w. at ≤ w.next)
before_after at z (Ok r) h = h
before_after at z (Err e) h = tt

later : (i : Items) (n : ℕ) (text : List ℕ) (at next : ℕ) → at ≤ next → IfOk (row_at i n text next) (λ w. next ≤ w.next) → IfOk (row_at i n text next) (λ w. at ≤ w.next)
later i n text at next l h = IfOk-weaker (row_at i n text next) (λ w. next ≤ w.next) (λ w. at ≤ w.next) (λ w k. omega arith) h

row_after : (i : Items) (n : ℕ) (text : List ℕ) (at : ℕ) → IfOk (row_at i n text at) (λ w. at ≤ w.next)
unfolding row_at
row_after i zero text at = omega arith
row_after i (suc n) text at = then_made (AfterPlace at) (λ w. at ≤ w.next) (item_at i n text at) _ (item_after i n text at) (λ f h. before_after at f.value (row_at i n text f.next) (later i n text at f.next (omega arith) (row_after i n text f.next)))

counted_after : (c : Count) (i : Items) (text : List ℕ) (at : ℕ) → IfOk (counted_at c i text at) (λ w. at ≤ w.next)
unfolding counted_at
counted_after c i text at = then_made (λ m. at ≤ m.next) (λ w. at ≤ w.next) (count_at c text at) _ (count_after c text at) (λ m h. later i m.count text at m.next h (row_after i m.count text m.next))

head_by : (at n next : ℕ) (r : Result Kind NoSuchKind) → at ≤ next → IfOk (headed_by n next r) (λ m. at ≤ m.next)
head_by at n next (Ok k) h = h
head_by at n next (Err e) h = tt

head_after : (text : List ℕ) (at : ℕ) → IfOk (head_type_at text at) (λ m. at ≤ m.next)
unfolding head_type_at
head_after text at = then_made (AfterPlace at) (λ m. at ≤ m.next) (field_at Space text at) (head_judged at) (field_after Space text at) (λ f h. head_by at at f.next (kind_told f.value) (omega arith))

body_by : (at n : ℕ) (z : ℤ) (next : ℕ) → at ≤ next → IfOk (body_judged n (record { value = z; ending = 0; next = next })) (λ m. at ≤ m)
body_by at n (pos m) next h = cond_both (eqb m 0) _ _ (λ r. IfOk r (λ k. at ≤ k)) (λ _. h) (λ _. cond_both (eqb m 1) (Err _) (Err _) (λ r. IfOk r (λ k. at ≤ k)) (λ _. tt) (λ _. tt))
body_by at n (negsuc m) next h = tt

body_after : (text : List ℕ) (at : ℕ) → IfOk (body_type_at text at) (λ m. at ≤ m)
unfolding body_type_at
body_after text at = then_made (AfterPlace at) (λ m. at ≤ m) (field_at Space text at) (body_judged at) (field_after Space text at) (λ f h. body_by at at f.value f.next (omega arith))

-- whole lines

unfoldable pub end_of : Line → ℕ
end_of (ended end) = end
end_of (said s end) = end

abbrev pub EndsAfter : ℕ → Result Line TextError → Type 0
EndsAfter at r = IfOk r (λ l. at ≤ end_of l)

rule_after : (text : List ℕ) (at : ℕ) → EndsAfter at (rule_at text at)
unfolding rule_at end_of
rule_after text at =
    then_made (λ h. at ≤ h.next) (λ l. at ≤ end_of l) (head_type_at text at) _ (head_after text at) (λ h a.
    then_made (λ w. h.next ≤ w.next) (λ l. at ≤ end_of l) (counted_at (count.Heads h.kind) items.Heads text h.next) _ (counted_after (count.Heads h.kind) items.Heads text h.next) (λ w b.
    then_made (λ n. w.next ≤ n) (λ l. at ≤ end_of l) (body_type_at text w.next) _ (body_after text w.next) (λ n d.
    then_made (λ v. n ≤ v.next) (λ l. at ≤ end_of l) (counted_at count.Literals items.Literals text n) _ (counted_after count.Literals items.Literals text n) (λ v e. omega arith))))

name_after : (text : List ℕ) (end : ℕ) → IfOk (name_end_at text end) (λ n. end ≤ n)
name_after text end = cond_both (ltb end (length text)) _ _ (λ r. IfOk r (λ n. end ≤ n)) (λ _. cond_both (eqb (get_or text end 0) 32) (Ok (end + 1)) (Err _) (λ r. IfOk r (λ n. end ≤ n)) (λ _. omega arith) (λ _. tt)) (λ _. tt)

output_after : (text : List ℕ) (at : ℕ) → EndsAfter at (output_at text at)
unfolding output_at end_of
output_after text at =
    then_made (λ n. at ≤ n.next) (λ l. at ≤ end_of l) (count_at count.Name text at) _ (count_after count.Name text at) (λ n a.
    then_made (λ e. n.next + n.count ≤ e) (λ l. at ≤ end_of l) (name_end_at text (n.next + n.count)) _ (name_after text (n.next + n.count)) (λ e b.
    then_made (λ w. e ≤ w.next) (λ l. at ≤ end_of l) (counted_at count.Literals items.Literals text e) _ (counted_after count.Literals items.Literals text e) (λ w d. omega arith)))

assumption_after : (text : List ℕ) (at : ℕ) → EndsAfter at (assumption_at text at)
unfolding assumption_at end_of
assumption_after text at = then_made (λ w. at ≤ w.next) (λ l. at ≤ end_of l) (counted_at count.Assumed items.Literals text at) _ (counted_after count.Assumed items.Literals text at) (λ w h. h)

skipped_after : (kind : ℕ) (text : List ℕ) (at : ℕ) → EndsAfter (at + 1) (skipped_at kind text at)
unfolding skipped_at end_of
skipped_after kind text at = cond_both (ltb (at + rest_of text at) (length text)) _ _ (EndsAfter (at + 1)) (λ _. omega arith) (λ _. tt)

sooner : (a b : ℕ) (r : Result Line TextError) → a ≤ b → EndsAfter b r → EndsAfter a r
sooner a b r h e = IfOk-weaker r (λ l. b ≤ end_of l) (λ l. a ≤ end_of l) (λ l k. omega arith) e

kind_by : (text : List ℕ) (at n : ℕ) (z : ℤ) (next : ℕ) → at < next → EndsAfter (at + 1) (by_kind text n (record { value = z; ending = 0; next = next }))
unfolding end_of
kind_by text at n (pos k) next h =
    let E = EndsAfter (at + 1) in
    cond_both (eqb k 0) _ _ E (λ _. omega arith) (λ _.
    cond_both (eqb k 1) _ _ E (λ _. sooner (at + 1) next (rule_at text next) (omega arith) (rule_after text next)) (λ _.
    cond_both (eqb k 4) _ _ E (λ _. sooner (at + 1) next (output_at text next) (omega arith) (output_after text next)) (λ _.
    cond_both (eqb k 6) _ _ E (λ _. sooner (at + 1) next (assumption_at text next) (omega arith) (assumption_after text next)) (λ _.
    cond_both (passed_over k) _ _ E (λ _. sooner (at + 1) (next - 1 + 1) (skipped_at k text (next - 1)) (omega arith) (skipped_after k text (next - 1))) (λ _. tt)))))
kind_by text at n (negsuc k) next h = tt

pub line_after : (text : List ℕ) (at : ℕ) → EndsAfter (at + 1) (line_at text at)
unfolding line_at
line_after text at = then_made (AfterPlace at) (λ l. at + 1 ≤ end_of l) (field_at ByKind text at) (by_kind text at) (field_after ByKind text at) (λ f h. kind_by text at at f.value f.next h)

-- no line begins at the end of the text

no_field : (after : After) (text : List ℕ) (at : ℕ) → length text ≤ at → field_at after text at ≡ Err (UnexpectedEnd (length text))
unfolding field_at
no_field after text at h =
    let from = digits_from text at in
    let start : at ≤ from = start_after at (minus_at text at) in
    cond-false _ _ _ (le-ltb (from + digits_count text from) (length text) (omega arith))

no_line : (text : List ℕ) (at : ℕ) → length text ≤ at → line_at text at ≡ Err (UnexpectedEnd (length text))
unfolding line_at
no_line text at h = ap (λ r. and_then r (by_kind text at)) (no_field ByKind text at h)

same_by : (f g : Counts → ℕ → Result (List Stmt) TextError) (C : Counts) (text : List ℕ) (at : ℕ) (r : Result Line TextError) → EndsAfter (at + 1) r → ((D : Counts) (b : ℕ) → at + 1 ≤ b → f D b ≡ g D b) → and_then r (list_by f C text at) ≡ and_then r (list_by g C text at)
unfolding end_of
same_by f g C text at (Ok (ended e)) h go = refl
same_by f g C text at (Ok (said s e)) h go = ap (λ q. cond (keeps (with_one C s)) (then s q) (Err (OverLimit at))) (go (with_one C s) e h)
same_by f g C text at (Err x) h go = refl

-- as many lines as there are bytes left are enough
pub enough : (n k : ℕ) (C : Counts) (text : List ℕ) (at : ℕ) → n ≤ k → length text ≤ at + n → statements_from k C text at ≡ statements_from n C text at
unfolding statements_from
enough zero zero C text at m h = refl
enough zero (suc k) C text at m h = ap (λ r. and_then r (list_by (λ D b. statements_from k D text b) C text at)) (no_line text at (omega arith))
enough (suc n) zero C text at m h = absurd (omega arith)
enough (suc n) (suc k) C text at m h = same_by (λ D b. statements_from k D text b) (λ D b. statements_from n D text b) C text at (line_at text at) (line_after text at) (λ D b l. enough n k D text b (omega arith) (omega arith))

pub every_text_has_its_verdict : (text : List ℕ) → EveryTextHasItsVerdict text
every_text_has_its_verdict text lines h = enough (length text) lines nothing text 10 h (omega arith)
