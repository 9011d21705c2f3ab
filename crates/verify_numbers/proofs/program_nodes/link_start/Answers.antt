use Rattle.std.proofs.Common.{◌≡◌, ◌∙◌, sym, refl, ap, ◌+◌, ◌*◌, ◌-◌, ◌<◌, ◌∷◌, [], ◌++◌, true, false, cond, not, map, length, take, drop, suc, None, Some, slice_index_or, arith}
use Rattle.verify_sketches.specs.Numbered.{start_edges}
use Rattle.verify_sketches.specs.View.{block_view, channel_view, sketch_view, start_view}
use Rattle.verify_numbers.specs.Columns.{linked}
use Rattle.verify_numbers.specs.Counts.{Counts, at, at_in}
use Rattle.verify_numbers.proofs.Edges.{added_there, built, built_alone, linked_none, then_linked, there_is}
use Rattle.verify_numbers.proofs.program_nodes.link_start.Goals as goal

pub returns-in-Nothing : goal.returns-in-Nothing
returns-in-Nothing c =
    let s = sketch_view c.args.sketch.now in
    sym (linked_none c.args.nodes.now) ∙ ap (λ k. linked c.args.nodes.now (start_edges s (at_in s) (start_view k))) (sym c.in-Nothing.is)
