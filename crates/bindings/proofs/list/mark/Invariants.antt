use Rattle.std.proofs.Common.{◌≡◌, ◌++◌, take, drop}
use Rattle.ui_machine.specs.State.Bindings.{with_busy}
use Rattle.bindings.proofs.list.mark.Given as goal

abbrev pub invariant-loop-one : goal.invariant-loop-one
invariant-loop-one l =
    l.bound ≡ with_busy l.number l.setting (take l.one-index l.fn.bound) ++ drop l.one-index l.fn.bound
