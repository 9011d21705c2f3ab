use Rattle.std.proofs.Common.{◌++◌, ◌∙◌, ap}
use Rattle.verify_sketches.specs.View.{sketch_view}
use Rattle.verify_numbers.specs.Columns.{with_nodes}
use Rattle.verify_numbers.specs.Laid.{all_of_blocks, all_of_channels, all_of_programs, laid}
use Rattle.verify_numbers.proofs.Rows.{then_more}
use Rattle.verify_numbers.proofs.reckonings.nodes_of.Goals as goal

pub returns : goal.returns
returns c =
    let s = sketch_view c.args.sketch.now in
    then_more c.new-nodes.result c.add_channels.new.nodes c.add_blocks.new.nodes (all_of_channels s c.args.handlers) (all_of_programs s ++ all_of_blocks s) c.in_ok-add_channels.ensures
    (then_more c.add_channels.new.nodes c.add_others.new.nodes c.add_blocks.new.nodes (all_of_programs s) (all_of_blocks s) c.in_ok-add_others.ensures c.in_ok-add_blocks.ensures)
    ∙ ap (λ x. with_nodes x (laid s c.args.handlers)) c.new-nodes.ensures
