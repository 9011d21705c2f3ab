use Rattle.std.proofs.Common.{◌++◌}
use Rattle.verify_sketches.specs.View.{sketch_view}
use Rattle.verify_numbers.specs.Laid.{block_nodes}
use Rattle.verify_numbers.specs.declared.block_nodes.BlockPart.TheVariants as of_block
use Rattle.verify_numbers.proofs.Rows.{then_more}
use Rattle.verify_numbers.proofs.reckonings.add_blocks.Goals as goal

pub returns : goal.returns
returns c =
    let s = sketch_view c.args.sketch.now in
    then_more c.args.nodes.now c.add_block_parts.new.nodes c.add_block_parts-3.new.nodes (block_nodes s of_block.Block) (block_nodes s of_block.Passes ++ (block_nodes s of_block.Next)) c.in_ok-add_block_parts.ensures
    (then_more c.add_block_parts.new.nodes c.add_block_parts-2.new.nodes c.add_block_parts-3.new.nodes (block_nodes s of_block.Passes) (block_nodes s of_block.Next) c.in_ok-add_block_parts-2.ensures
    (c.in_ok-add_block_parts-3.ensures))
