use Rattle.std.proofs.Common.{◌≡◌, ◌∙◌, sym, refl, ap, ◌+◌, ◌∷◌, [], ◌++◌, cond, map, length, suc}
use Rattle.verify_sketches.specs.Numbered.{group_node}
use Rattle.verify_sketches.specs.View.{block_view, channel_view, sketch_view, start_view}
use Rattle.verify_numbers.specs.Columns.{linked}
use Rattle.verify_numbers.specs.Counts.{Counts, at, at_in}
use Rattle.verify_numbers.proofs.Edges.{added_there, built, built_alone, linked_none, then_linked, there_is}
use Rattle.verify_numbers.proofs.program_nodes.add_group.Goals as goal

pub returns : goal.returns
returns c =
    let s = sketch_view c.args.sketch.now in
    let y = group_node s (at_in s) c.args.number c.args.programs.now in
    built c.args.nodes.now c.add.new.self c.link_programs.new.nodes y c.greatest_of.result c.greatest_of-2.result y.edges c.in_ok-add.ensures c.greatest_of.ensures c.greatest_of-2.ensures
    c.in_ok-link_programs.ensures refl
