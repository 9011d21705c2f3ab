use Rattle.std.proofs.Common.{sym, subst}
use Rattle.std.specs.Prelude.{IfOk}
use Rattle.verify_rules.specs.BracketSteps.{Goes, step_view}
use Rattle.verify_rules.proofs.open_brackets.go_before.Goals as goal

pub returns-in-Freeze : goal.returns-in-Freeze
returns-in-Freeze c =
    subst (λ s. IfOk c.open.result (λ kept. Goes kept c.open.new.counts.items c.args.counts.now.items (step_view s))) (sym c.in-Freeze.is) c.open.ensures
