use Rattle.std.proofs.Common.{length, refl, ap, ◌∙◌, arith}
use Rattle.reader.specs.Statements.{assumed_in}
use Rattle.reader.specs.Scan.{nothing, with_all}
use Rattle.reader.specs.Read.{statements_of, integers_after, starts_after, assumed_after, unnamed, names_after}
use Rattle.reader.specs.Seen.{statements_left}
use Rattle.reader.specs.Fill.{NameLists, both, listed, integers_in, parts_in, starts_in, with_names}
use Rattle.reader.proofs.Surveyed.{surveyed, same_held, roomy}
use Rattle.reader.proofs.lists.Lists.fill.Goals as goal

pub fill_rules-requires : goal.fill_rules-requires
fill_rules-requires c =
    let v = surveyed c.args.text.now c.args.counts c.requires.counted in
    let room = roomy c.args.counts _ _ _ _ _ c.requires.room in
    let left = c.new.ensures in
    let integers = ap (λ ss. length (parts_in integers_in ss)) left in
    record { integers = omega (arith, integers, v.integers, room.for_integers); starts = omega (arith, ap (λ ss. length (starts_in 0 ss)) left, v.starts, room.for_starts); few = omega (arith, integers, v.integers, v.bounded) }

pub fill_assumed-requires : goal.fill_assumed-requires
fill_assumed-requires c =
    let v = surveyed c.args.text.now c.args.counts c.requires.counted in
    record { room = omega (arith, ap (λ ss. length (parts_in assumed_in ss)) c.new-2.ensures, v.assumed, (roomy c.args.counts _ _ _ _ _ c.requires.room).for_assumed) }

pub returns : goal.returns
unfolding integers_after starts_after assumed_after names_after
returns c =
    let v = surveyed c.args.text.now c.args.counts c.requires.counted in
    let n = (with_all nothing (listed (statements_of c.args.text.now))).atoms in
    let old_places = c.args.self.now.places.now in
    let old_lengths = c.args.self.now.lengths.now in
    let places = c.clear_front.ensures ∙ ap (λ k. unnamed k old_places) v.atoms in
    let lengths = c.clear_front-2.ensures ∙ ap (λ k. unnamed k old_lengths) v.atoms in
    let ss = statements_left c.new-3.result in
    let names = ap (λ xs. with_names (both xs c.clear_front-2.new.list) ss) places ∙ ap (λ xs. with_names (both (unnamed n old_places) xs) ss) lengths
    ∙ ap (with_names (both (unnamed n old_places) (unnamed n old_lengths))) c.new-3.ensures in
    record {
      done = refl;
      lists = same_held
          (c.fill_rules.ensures.integers ∙ ap (λ qs. integers_after qs c.args.self.now.integers.now) c.new.ensures)
          (c.fill_rules.ensures.starts ∙ ap (λ qs. starts_after qs c.args.self.now.starts.now) c.new.ensures)
          (c.fill_names.ensures.places ∙ ap (λ (N : NameLists). N.starts) names)
          (c.fill_names.ensures.lengths ∙ ap (λ (N : NameLists). N.lengths) names)
          (c.fill_assumed.ensures.list ∙ ap (λ qs. assumed_after qs c.args.self.now.assumed.now) c.new-2.ensures);
      same = record { integers = refl; starts = refl; places = refl; lengths = refl; assumed = refl };
    }
