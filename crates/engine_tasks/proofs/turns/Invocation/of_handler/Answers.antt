use Rattle.std.proofs.Common.{ap, sym, ◌∙◌}
use Rattle.instance_tables.specs.Store.{id_of}
use Rattle.signal_core.specs.declared.turn.Turn.TheVariants as turns
use Rattle.engine_tasks.specs.TurnView.{given_by, value_of}
use Rattle.engine_tasks.proofs.TurnTaking.{handler_given, swapped_given}
use Rattle.engine_tasks.proofs.turns.Invocation.of_handler.Goals as goal

pub returns-then-swapped-clause-given : goal.returns-then-swapped-clause-given
returns-then-swapped-clause-given c e is =
    swapped_given e c.args.instance.0 (value_of (id_of c.args.arg)) is ∙ sym (ap (λ b. given_by e (turns.Handler c.args.program b c.args.arg)) c.if-swapped.true)

pub returns-clause-given : goal.returns-clause-given
returns-clause-given c e is =
    handler_given e c.args.instance.0 (value_of (id_of c.args.arg)) is ∙ sym (ap (λ b. given_by e (turns.Handler c.args.program b c.args.arg)) c.if-swapped.false)
