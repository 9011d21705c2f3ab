use Rattle.std.proofs.Common.{◌≡◌, ◌++◌, drop, map, string_bytes}
use Rattle.type_tree.proofs.enum_members.names_of.Given as goal

abbrev pub invariant-loop-member : goal.invariant-loop-member
invariant-loop-member l = map (λ w. w.now) l.names.items ++ map (λ m. string_bytes m.name) (drop l.member-index l.members) ≡ map (λ m. string_bytes m.name) l.members
