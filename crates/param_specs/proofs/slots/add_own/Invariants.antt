use Rattle.std.proofs.Common.{◌≡◌, ◌++◌}
use Rattle.ui_machine.specs.Seq.{listed}
use Rattle.param_specs.specs.SlotRows.{own_place}
use Rattle.param_specs.proofs.slots.add_own.Given as goal

abbrev pub invariant-loop-at : goal.invariant-loop-at
invariant-loop-at l = l.row.items ≡ l.initial.row.items ++ listed (own_place l.t) l.at
