use Rattle.std.proofs.Common.{◌≡◌, ◌∙◌, sym, refl, ap, ◌+◌, ◌*◌, ◌-◌, ◌<◌, ◌∷◌, [], ◌++◌, true, false, cond, not, map, length, take, drop, suc, None, Some, slice_index_or, arith}
use Rattle.verify_sketches.specs.Numbered.{connected_node, group}
use Rattle.verify_sketches.specs.View.{block_view, channel_view, sketch_view, start_view}
use Rattle.verify_numbers.specs.Columns.{linked}
use Rattle.verify_numbers.specs.Counts.{Counts, at, at_in}
use Rattle.verify_numbers.proofs.Edges.{added_there, built, built_alone, linked_none, then_linked, there_is}
use Rattle.verify_sketches.specs.Pointwise.{inside}
use Rattle.verify_numbers.proofs.channel_nodes.add_connected.Goals as goal

pub returns : goal.returns
returns c =
    let s = sketch_view c.args.sketch.now in
    let y = connected_node s (at_in s) c.args.handlers c.args.number (channel_view c.args.channel.now) in
    built c.args.nodes.now c.add.new.self c.link_groups.new.nodes y c.greatest_of.result c.greatest_of-2.result (map (λ g. at_in s (group g)) (inside (length s.groups) c.as_slice.result.now)) c.in_ok-add.ensures c.greatest_of.ensures c.greatest_of-2.ensures
    c.in_ok-link_groups.ensures (ap (λ gs. map (λ g. at_in s (group g)) (inside (length s.groups) gs)) c.as_slice.ensures.value)
