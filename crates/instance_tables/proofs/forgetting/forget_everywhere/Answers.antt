use Rattle.std.proofs.Common.{sym, ◌∙◌}
use Rattle.instance_tables.specs.View.{instances_at}
use Rattle.instance_tables.proofs.Naming.{all_known}
use Rattle.instance_tables.proofs.forgetting.forget_everywhere.Goals as goal

pub returns-then-is_given_up-clause-known : goal.returns-then-is_given_up-clause-known
returns-then-is_given_up-clause-known c =
    all_known c.args.namers.now (instances_at c.forget.new.self) (sym c.is_given_up.ensures ∙ c.if-is_given_up.true)
