use Rattle.std.proofs.Common.{◌≡◌, ◌+◌, length, drop}
use Rattle.ui_machine.specs.Seq.{total}
use Rattle.bytecode.proofs.shapes.has_too_many.Given as goal

abbrev pub invariant-loop-block : goal.invariant-loop-block
invariant-loop-block l =
    total (λ b. length b.code.items) l.blocks + l.room
    ≡ 512 + total (λ b. length b.code.items) (drop l.block-index l.blocks)
