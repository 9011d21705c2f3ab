use Rattle.std.proofs.Common.{◌-◌, map, take, length}
use Rattle.engine_links.specs.Steps.{ArePairwise, LinksBlocks, tables_alone}
use Rattle.engine_links.proofs.programs.link_programs.Given as goal

abbrev pub invariant-loop-program : goal.invariant-loop-program
invariant-loop-program l =
    ArePairwise (LinksBlocks l.definition (tables_alone l.tables)) (take l.number l.definition.programs) (map (λ p. map (λ b. b.items) p.items) l.programs.items)

abbrev pub decreases-loop-program : goal.decreases-loop-program
decreases-loop-program l = length l.definition.programs - l.number
