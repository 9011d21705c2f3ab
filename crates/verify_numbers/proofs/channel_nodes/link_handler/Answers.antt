use Rattle.std.proofs.Common.{◌≡◌, ◌∙◌, sym, refl, ap, ◌+◌, ◌*◌, ◌-◌, ◌<◌, ◌∷◌, [], ◌++◌, true, false, cond, not, map, length, take, drop, suc, None, Some, slice_index_or, arith}
use Rattle.law_typing.specs.Graph.{listed_if}
use Rattle.verify_sketches.specs.Numbered.{programs_of}
use Rattle.verify_sketches.specs.View.{block_view, channel_view, sketch_view, start_view}
use Rattle.verify_numbers.specs.Columns.{linked}
use Rattle.verify_numbers.specs.Counts.{Counts, at, at_in}
use Rattle.verify_numbers.proofs.Edges.{added_there, built, built_alone, linked_none, then_linked, there_is}
use Rattle.verify_numbers.proofs.channel_nodes.link_handler.Goals as goal

pub returns-in-None : goal.returns-in-None
returns-in-None c =
    let s = sketch_view c.args.sketch.now in
    sym (linked_none c.args.nodes.now) ∙ ap (λ o. linked c.args.nodes.now (programs_of s (at_in s) (listed_if o))) (sym c.in-None.is)
