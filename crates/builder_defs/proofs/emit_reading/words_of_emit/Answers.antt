use Rattle.std.proofs.Common.{arith}
use Rattle.builder_defs.proofs.Words.{not_three_or_four}
use Rattle.builder_defs.proofs.emit_reading.words_of_emit.Goals as goal

pub returns-in-len1 : goal.returns-in-len1
returns-in-len1 c = not_three_or_four c.args.items.now (λ e. omega (arith, e, c.in-len1.len_below)) (λ e. omega (arith, e, c.in-len1.len_below))

pub returns-in-len2 : goal.returns-in-len2
returns-in-len2 c = not_three_or_four c.args.items.now (λ e. omega (arith, e, c.in-len2.len_below)) (λ e. omega (arith, e, c.in-len2.len_below))

pub returns-in-len5-up : goal.returns-in-len5-up
returns-in-len5-up c = not_three_or_four c.args.items.now (λ e. omega (arith, e, c.in-len5-up.len_at_least)) (λ e. omega (arith, e, c.in-len5-up.len_at_least))
