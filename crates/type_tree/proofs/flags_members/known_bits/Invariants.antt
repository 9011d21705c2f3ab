use Rattle.std.proofs.Common.{◌≡◌, map, drop, bit_or}
use Rattle.ui_machine.specs.Rules.Transform.{known_bits}
use Rattle.type_tree.specs.Entry.{flags_member}
use Rattle.type_tree.proofs.flags_members.known_bits.Given as goal

abbrev pub invariant-loop-member : goal.invariant-loop-member
invariant-loop-member l = bit_or l.bits (known_bits (map flags_member (drop l.member-index l.members))) ≡ known_bits (map flags_member l.members)
