use Rattle.std.proofs.Common.{◌≡◌, [], All, map, drop}
use Rattle.json_trees.specs.View.{view}
use Rattle.bytecode.specs.Known.{IsKnownRegister}
use Rattle.bytecode.specs.View.{register_kind_view}
use Rattle.handler_code.specs.Reading.ReaderViews.{names_view}
use Rattle.bytecode.specs.Reading.Each.{each}
use Rattle.bytecode.specs.Reading.OutlineFaults.{part_view}
use Rattle.bytecode.specs.Reading.Outline.{kind_step}
use Rattle.handler_code.proofs.reading.outline_parts.kinds_of.Given as goal

abbrev pub invariant-items : goal.invariant-items
invariant-items l = record {
  read : each (kind_step (names_view l.names) l.may_be_unset (part_view l.fn.part)) l.index (map register_kind_view l.kinds.items) (map view (drop l.index l.items))
      ≡ each (kind_step (names_view l.names) l.may_be_unset (part_view l.fn.part)) 0 [] (map view l.items);
  known : All (λ k. IsKnownRegister l.names.types.now k) l.kinds.items;
}
