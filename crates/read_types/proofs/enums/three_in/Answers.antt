use Rattle.std.proofs.Common.{arith}
use Rattle.read_parts.proofs.Sections.{not_three}
use Rattle.read_types.proofs.enums.three_in.Goals as goal

pub returns-in-len1 : goal.returns-in-len1
returns-in-len1 c = not_three c.args.items.now (λ three. omega (arith, three, c.in-len1.len_below))

pub returns-in-len2 : goal.returns-in-len2
returns-in-len2 c = not_three c.args.items.now (λ three. omega (arith, three, c.in-len2.len_below))

pub returns-in-len4-up : goal.returns-in-len4-up
returns-in-len4-up c = not_three c.args.items.now (λ three. omega (arith, three, c.in-len4-up.len_at_least))
