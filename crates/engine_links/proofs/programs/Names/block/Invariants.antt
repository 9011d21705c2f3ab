use Rattle.std.proofs.Common.{map, take}
use Rattle.bytecode.specs.View.{instruction_view}
use Rattle.engine_links.specs.Linked.{IsLink}
use Rattle.engine_links.specs.Steps.{ArePairwise, tables_alone}
use Rattle.engine_links.proofs.programs.Names.block.Given as goal

abbrev pub invariant-loop-instruction : goal.invariant-loop-instruction
invariant-loop-instruction l =
    ArePairwise (IsLink l.self.definition.now (tables_alone l.self.tables.now)) (take l.instruction-index (map instruction_view l.block.code.items)) l.links.items
