use Rattle.std.proofs.Common.{ap, sym, ◌∙◌}
use Rattle.engine_tasks.specs.TurnView.{given_by}
use Rattle.engine_tasks.proofs.TurnTaking.{class_given}
use Rattle.engine_tasks.proofs.turns.Invocation.new.Goals as goal

pub returns-in-Class-clause-given : goal.returns-in-Class-clause-given
returns-in-Class-clause-given c e is = class_given e c.args.instance.0 is ∙ sym (ap (given_by e) c.in-Class.is)

pub returns-in-Handler-clause-given : goal.returns-in-Handler-clause-given
returns-in-Handler-clause-given c e is = c.of_handler.ensures.given e is ∙ sym (ap (given_by e) c.in-Handler.is)
