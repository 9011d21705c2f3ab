use Rattle.std.proofs.Common.{◌≡◌, [], All, map, drop}
use Rattle.bytecode.specs.View.{block_view}
use Rattle.bytecode.specs.Known.{HasKnownCode}
use Rattle.bytecode.specs.Reading.Each.{each}
use Rattle.handler_code.specs.Reading.ReaderViews.{scope_view, block_outline_view}
use Rattle.bytecode.specs.Reading.Programs.{code_step}
use Rattle.handler_code.proofs.reading.code.blocks_of.Given as goal

abbrev pub invariant-outlines : goal.invariant-outlines
invariant-outlines l = record {
  read : each (code_step (scope_view l.scope)) l.number (map block_view l.blocks.items) (map block_outline_view (drop l.number l.outlines))
      ≡ each (code_step (scope_view l.scope)) 0 [] (map block_outline_view l.outlines);
  known : All (λ b. HasKnownCode l.scope.types.now b) l.blocks.items;
}
