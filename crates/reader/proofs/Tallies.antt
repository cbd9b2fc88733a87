-- How many numbers the parts of a statement have.
use Rattle.std.proofs.Common.{◌≡◌, ◌≤◌, true, [], ◌∷◌, ◌++◌, map, length, ℤ, pos, nat_abs, sym, ap, ◌∙◌, subst, arith}
use lib.ListN.{length-map}
use Rattle.std.specs.List.{list_all}
use Rattle.book.specs.Encoding.{head_type, encode_rule}
use Rattle.numbers.proofs.Spelled.{heads_back}
use Rattle.reader.specs.Rows.{allowed}
use Rattle.reader.specs.Seen.{numbers_in, rule_meant}
use Rattle.reader.specs.declared.statement.Numbers.{Numbers}
use Rattle.reader.specs.declared.statement.Rule.{Rule}
use Rattle.reader.proofs.Moves.{row_few, row_allowed}
use Rattle.reader.proofs.Steps.{row_length}

pub numbers_count : (ns : Numbers) → length (numbers_in ns) ≡ ns.count
numbers_count ns = row_length ns.items ns.count ns.start.text.now ns.start.at ns.reads

pub count_short : (ns : Numbers) → ns.count ≤ 65536
count_short ns = omega (arith, row_few ns.items ns.count ns.start.text.now ns.start.at ns.start.inside ns.reads, ns.start.short)

-- the integers of a rule, piece by piece
pub rule_pieces : (r : Rule) (t : ℤ) → t ≡ head_type r.kind → encode_rule (rule_meant r) ≡ (t ∷ pos r.heads.count ∷ []) ++ (numbers_in r.heads ++ ((pos 0 ∷ pos r.body.count ∷ []) ++ numbers_in r.body))
rule_pieces r t e =
    let vs = numbers_in r.heads in
    let ws = numbers_in r.body in
    let hs = r.heads in
    let atoms = subst (λ i. list_all (allowed i) vs ≡ true) r.atoms (row_allowed hs.items hs.count hs.start.text.now hs.start.at) in
    ap (λ n. head_type r.kind ∷ pos n ∷ (map pos (map nat_abs vs) ++ (pos 0 ∷ pos (length ws) ∷ ws))) (length-map vs nat_abs ∙ numbers_count hs)
    ∙ ap (λ zs. head_type r.kind ∷ pos hs.count ∷ (zs ++ (pos 0 ∷ pos (length ws) ∷ ws))) (heads_back 1024 vs atoms)
    ∙ ap (λ n. head_type r.kind ∷ pos hs.count ∷ (vs ++ (pos 0 ∷ pos n ∷ ws))) (numbers_count r.body)
    ∙ ap (λ z. z ∷ pos hs.count ∷ (vs ++ (pos 0 ∷ pos r.body.count ∷ ws))) (sym e)
