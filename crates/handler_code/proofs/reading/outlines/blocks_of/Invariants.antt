use Rattle.std.proofs.Common.{◌≡◌, [], map, drop}
use Rattle.json_trees.specs.View.{view}
use Rattle.bytecode.specs.View.{register_kind_view}
use Rattle.handler_code.specs.Reading.ReaderViews.{names_view, block_outline_view}
use Rattle.bytecode.specs.Reading.Each.{each}
use Rattle.bytecode.specs.Reading.Outline.{block_step}
use Rattle.handler_code.proofs.reading.outlines.blocks_of.Given as goal

abbrev pub invariant-items : goal.invariant-items
invariant-items l =
    each (block_step (names_view l.names) (map register_kind_view l.params) l.registers) l.number (map block_outline_view l.blocks.items) (map view (drop l.number l.items))
    ≡ each (block_step (names_view l.names) (map register_kind_view l.params) l.registers) 0 [] (map view l.items)
