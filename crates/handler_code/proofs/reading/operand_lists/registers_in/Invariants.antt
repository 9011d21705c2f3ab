use Rattle.std.proofs.Common.{◌≡◌, ◌++◌, map, drop, option_map}
use Rattle.json_trees.specs.View.{items_view}
use Rattle.bytecode.specs.View.{number_of}
use Rattle.bytecode.specs.Reading.Operands.{registers_of}
use Rattle.handler_code.proofs.reading.operand_lists.registers_in.Given as goal

abbrev pub invariant-loop-item : goal.invariant-loop-item
invariant-loop-item l =
    option_map (λ rs. map number_of l.read.items ++ rs) (registers_of l.registers (items_view (drop l.item-index l.items)))
    ≡ registers_of l.registers (items_view l.items)
