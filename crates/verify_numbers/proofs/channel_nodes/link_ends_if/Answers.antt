use Rattle.std.proofs.Common.{◌≡◌, ◌∙◌, sym, refl, ap, ◌+◌, ◌*◌, ◌-◌, ◌<◌, ◌∷◌, [], ◌++◌, true, false, cond, not, map, length, take, drop, suc, None, Some, slice_index_or, arith}
use Rattle.verify_sketches.specs.Numbered.{end_of, own}
use Rattle.verify_sketches.specs.View.{block_view, channel_view, sketch_view, start_view}
use Rattle.verify_numbers.specs.Columns.{linked}
use Rattle.verify_numbers.specs.Counts.{Counts, at, at_in}
use Rattle.verify_numbers.proofs.Edges.{added_there, built, built_alone, linked_none, then_linked, there_is}
use Rattle.verify_numbers.proofs.channel_nodes.link_ends_if.Goals as goal

pub returns : goal.returns
returns c =
    let s = sketch_view c.args.sketch.now in
    sym (linked_none c.args.nodes.now)
    ∙ ap (λ b. linked c.args.nodes.now (cond b (at_in s (own c.args.number) ∷ end_of (at_in s) c.args.other) [])) (sym c.if-is_first.false)
