use Rattle.std.proofs.Common.{map}
use Rattle.bytecode.specs.View.{instruction_view}
use Rattle.engine_links.specs.Linked.{IsLink}
use Rattle.engine_links.specs.Steps.{tables_alone}
use Rattle.engine_links.proofs.Linking.{item_seen, pairwise_more}
use Rattle.engine_links.proofs.programs.Names.block.Goals as goal

pub loop-instruction-preserved : goal.loop-instruction-preserved
loop-instruction-preserved c =
    let names = c.args.self.now in
    let code = c.args.block.now.code.items in
    let i = c.loop-instruction.instruction-index in
    let instruction = c.instruction-item.result in
    pairwise_more (IsLink names.definition.now (tables_alone names.tables.now)) (map instruction_view code) i (instruction_view instruction)
    c.loop-instruction.links.items c.push.new.self.items c.in_ok-link.field-0
    (item_seen instruction_view code c.deref-instruction-items.result.now i instruction c.deref-instruction-items.ensures.value c.loop-instruction-test.true c.instruction-item.is)
    c.in_ok-push.ensures.items c.in_ok-link.ensures c.loop-instruction.invariant
