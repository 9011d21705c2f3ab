use Rattle.std.proofs.Common.{List, Option, ◌++◌, map, ap, ◌∙◌}
use Rattle.ui_machine.specs.State.Tasks.{Registers}
use Rattle.bytecode.specs.Computing.{registers_of}
use Rattle.g_values.specs.View.{value_view}
use Rattle.g_values.specs.declared.value.Value.{Value}
use Rattle.instance_tables.specs.Store.{id_of}
use Rattle.engine_tasks.specs.TurnView.{value_of}
use Rattle.engine_tasks.proofs.TurnTaking.{filled, filled_around}
use Rattle.engine_tasks.proofs.turns.Invocation.give.Goals as goal

pub returns : goal.returns
returns c =
    let before = value_of (id_of c.args.self.now.before) in
    let args = map value_view c.args.args.now in
    let behind = value_of (id_of c.args.self.now.behind) in
    let first = c.in_ok-add_object.ensures ∙ ap (λ (rs : List (Option Value)). registers_of rs ++ filled before) c.requires.none in
    record {
      given =
          c.in_ok-add_object-2.ensures
          ∙ ap (λ (l : Registers). l ++ filled behind) (c.in_ok-add_copies.ensures ∙ ap (λ (l : Registers). l ++ filled args) first)
          ∙ filled_around before args behind;
    }
