use Rattle.std.proofs.Common.{◌≡◌, take}
use Rattle.engine_instructions.specs.UnbindView.{without_numbers}
use Rattle.engine_instructions.proofs.unbinds.unbind_numbered.Given as goal

abbrev pub invariant-loop-number : goal.invariant-loop-number
invariant-loop-number l = l.bindings ≡ record l.initial.bindings { bindings = without_numbers (take l.number-index l.numbers) l.initial.bindings.bindings }
