use Rattle.std.proofs.Common.{◌≡◌, ◌∙◌, sym, refl, ap, ◌+◌, ◌∷◌, [], ◌++◌, cond, map, length, suc}
use Rattle.verify_sketches.specs.Numbered.{start_node}
use Rattle.verify_sketches.specs.View.{block_view, channel_view, sketch_view, start_view}
use Rattle.verify_numbers.specs.Columns.{linked}
use Rattle.verify_numbers.specs.Counts.{Counts, at, at_in}
use Rattle.verify_numbers.proofs.Edges.{added_there, built, built_alone, linked_none, then_linked, there_is}
use Rattle.verify_numbers.proofs.program_nodes.add_start.Goals as goal

pub returns : goal.returns
returns c =
    let s = sketch_view c.args.sketch.now in
    let y = start_node s (at_in s) c.args.number (start_view c.args.start.now) in
    built c.args.nodes.now c.add.new.self c.link_start.new.nodes y c.start_cost.result c.start_depth.result y.edges c.in_ok-add.ensures c.start_cost.ensures c.start_depth.ensures
    c.in_ok-link_start.ensures refl
