use Rattle.verify_rules.proofs.OpenBrackets.{read_within, read_behind}
use Rattle.verify_rules.proofs.open_brackets.count_of.Goals as goal

pub returns-then-register-counts : goal.returns-then-register-counts
returns-then-register-counts c = read_within c.args.counts.now c.args.register.0 c.if-register-counts.true

pub returns-else-register-counts : goal.returns-else-register-counts
returns-else-register-counts c = read_behind c.args.counts.now c.args.register.0 c.if-register-counts.false
