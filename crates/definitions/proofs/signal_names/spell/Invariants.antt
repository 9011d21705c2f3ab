use Rattle.std.proofs.Common.{◌≡◌, ◌≤◌, length, take}
use Rattle.ui_machine.specs.Definition.Names.{canonical}
use Rattle.definitions.proofs.signal_names.spell.Given as goal

abbrev pub invariant-bytes : goal.invariant-bytes
invariant-bytes l = record { room : length l.name ≤ length l.room; done : take l.at l.room ≡ canonical (take l.at l.name) }
