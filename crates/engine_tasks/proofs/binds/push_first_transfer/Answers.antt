use Rattle.std.proofs.Common.{◌≡◌, true, List, ◌++◌, ap, sym, ◌∙◌}
use Rattle.ui_machine.specs.Definition.Properties.{has_flags}
use Rattle.ui_machine.specs.State.Tasks.{Task}
use Rattle.definition_format.specs.Meaning.{bind_view}
use Rattle.engine_world.specs.TaskView.{agenda_of}
use Rattle.engine_tasks.proofs.Binding.{first_on}
use Rattle.engine_tasks.proofs.binds.push_first_transfer.Goals as goal

pub returns-clause-agenda : goal.returns-clause-agenda
returns-clause-agenda c d =
    let on : has_flags 2 c.args.bind.now.flags.0 ≡ true = sym (c.if-not-contains.ensures tt) in
    c.push_task.ensures.agenda d ∙ ap (λ (ts : List Task). ts ++ agenda_of d c.args.engine.now) (sym (first_on c.args.number (bind_view c.args.bind.now) on))
