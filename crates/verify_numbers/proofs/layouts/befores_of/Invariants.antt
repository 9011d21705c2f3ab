use Rattle.std.proofs.Common.{◌≡◌, ◌+◌, ◌++◌, drop, map}
use Rattle.verify_sketches.specs.View.{block_view}
use Rattle.verify_numbers.specs.Counts.{befores_from, block_count}
use Rattle.verify_numbers.proofs.layouts.befores_of.Given as goal

abbrev pub invariant-loop-number : goal.invariant-loop-number
invariant-loop-number l = record {
  befores : l.befores.items ++ befores_from l.blocks (drop l.number (map (λ v. map block_view v.items) l.programs)) ≡ befores_from 0 (map (λ v. map block_view v.items) l.programs);
  blocks : l.blocks + block_count (drop l.number (map (λ v. map block_view v.items) l.programs)) ≡ block_count (map (λ v. map block_view v.items) l.programs);
}
