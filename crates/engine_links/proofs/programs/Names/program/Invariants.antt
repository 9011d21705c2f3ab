use Rattle.std.proofs.Common.{map, take}
use Rattle.bytecode.specs.View.{block_view}
use Rattle.engine_links.specs.Steps.{ArePairwise, LinksBlock, tables_alone}
use Rattle.engine_links.proofs.programs.Names.program.Given as goal

abbrev pub invariant-loop-block : goal.invariant-loop-block
invariant-loop-block l =
    ArePairwise (LinksBlock l.self.definition.now (tables_alone l.self.tables.now)) (take l.block-index (map block_view l.program.blocks.items)) (map (λ b. b.items) l.blocks.items)
