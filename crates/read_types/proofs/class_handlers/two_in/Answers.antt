use Rattle.std.proofs.Common.{arith}
use Rattle.read_parts.proofs.Sections.{not_two}
use Rattle.read_types.proofs.class_handlers.two_in.Goals as goal

pub returns-in-len1 : goal.returns-in-len1
returns-in-len1 c = not_two c.args.items.now (λ two. omega (arith, two, c.in-len1.len_below))

pub returns-in-len3-up : goal.returns-in-len3-up
returns-in-len3-up c = not_two c.args.items.now (λ two. omega (arith, two, c.in-len3-up.len_at_least))
