use Rattle.std.proofs.Common.{◌≡◌, [], All, map, drop}
use Rattle.json_trees.specs.View.{view}
use Rattle.bytecode.specs.View.{instruction_view}
use Rattle.bytecode.specs.Known.{HasKnownKinds}
use Rattle.bytecode.specs.Reading.Each.{each}
use Rattle.handler_code.specs.Reading.ReaderViews.{scope_view}
use Rattle.bytecode.specs.Reading.Programs.{with_next_instruction}
use Rattle.handler_code.proofs.reading.code.code_of.Given as goal

abbrev pub invariant-items : goal.invariant-items
invariant-items l = record {
  read : each (with_next_instruction (scope_view l.scope) l.block) l.at (map instruction_view l.code.items) (map view (drop l.at l.items))
      ≡ each (with_next_instruction (scope_view l.scope) l.block) 0 [] (map view l.items);
  known : All (λ i. HasKnownKinds l.scope.types.now i) l.code.items;
}
