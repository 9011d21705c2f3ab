use Rattle.std.proofs.Common.{map}
use Rattle.bytecode.specs.View.{block_view}
use Rattle.engine_links.specs.Steps.{LinksBlock, tables_alone}
use Rattle.engine_links.proofs.Linking.{item_seen, pairwise_more, seen_more}
use Rattle.engine_links.proofs.programs.Names.program.Goals as goal

pub loop-block-preserved : goal.loop-block-preserved
loop-block-preserved c =
    let names = c.args.self.now in
    let blocks = c.args.program.now.blocks.items in
    let i = c.loop-block.block-index in
    let block = c.block-item.result in
    let links = c.in_ok-block.field-0 in
    pairwise_more (LinksBlock names.definition.now (tables_alone names.tables.now)) (map block_view blocks) i (block_view block)
    (map (λ b. b.items) c.loop-block.blocks.items) (map (λ b. b.items) c.push.new.self.items) links.items
    (item_seen block_view blocks c.deref-block-items.result.now i block c.deref-block-items.ensures.value c.loop-block-test.true c.block-item.is)
    (seen_more (λ b. b.items) c.loop-block.blocks.items c.push.new.self.items links c.in_ok-push.ensures.items) c.in_ok-block.ensures c.loop-block.invariant
