use Rattle.std.proofs.Common.{◌≡◌, drop}
use Rattle.ui_machine.specs.Definition.Names.{same_name, canonical}
use Rattle.type_tree.proofs.member_name.spells.Given as goal

abbrev pub invariant-bytes : goal.invariant-bytes
invariant-bytes l = same_name (drop l.place l.stored) (canonical (drop l.place l.name)) ≡ same_name l.stored (canonical l.name)
