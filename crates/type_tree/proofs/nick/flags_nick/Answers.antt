use Rattle.type_tree.proofs.Nicks.{no_bits}
use Rattle.type_tree.proofs.nick.flags_nick.Goals as goal

pub returns-in_default : goal.returns-in_default
returns-in_default c = no_bits c.args.members.now c.args.number c.ranges.number (λ h. c.in_default.ensures h)
