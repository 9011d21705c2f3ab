use Rattle.std.proofs.Common.{ℕ, [], ◌∷◌, Option, ap, ◌∙◌, rules}
use Rattle.ui_machine.specs.Definition.Values.{Value}
use Rattle.ui_machine.specs.State.Tasks.{Setting}
use Rattle.ui_machine.specs.State.Config.{starts}
use Rattle.ui_machine.specs.declared.arm.Arm.TheVariants as arms
use Rattle.ui_machine.specs.Outcome.{known, ◌>>=◌}
use Rattle.ui_machine.specs.Rules.Build.{held_object}
use Rattle.ui_machine.specs.Rules.Events.{set_from_event, set_given}
use Rattle.ui_machine.specs.Rules.Sets.{spec_at}
use Rattle.g_values.specs.View.{value_view}
use Rattle.definition_format.specs.Meaning.{given_view}
use Rattle.engine_world.specs.View.{world_of}
use Rattle.engine_world.specs.TaskView.{agenda_of}
use Rattle.engine_world.proofs.Left.{left_with}
use Rattle.engine_world.proofs.Ableness.{in_uncounted}
use Rattle.engine_tasks.proofs.Settable.{sets_on}
use Rattle.engine_tasks.proofs.events.set_from_event.Goals as goal

pub returns : goal.returns
unfolding set_from_event set_given
returns c = record {
  step =
      let a = c.args in
      let d = a.definition.now in
      let w = world_of a.engine.now.world in
      let given = given_view a.given in
      let set = λ (id : ℕ). set_given w id a.slot given in
      let object = c.held_object-object.result.0 in
      let is = sets_on (held_object w a.place.0) (λ (id : ℕ). spec_at d w.objects id a.slot) set object c.held_object-object.ensures (in_uncounted _ _ _ c.requires.able)
      ∙ ap (λ (o : Option Value). known arms.Operand o >>= λ v. starts w (Setting object a.slot v ∷ [])) c.operand-value.ensures in
      left_with (world_of c.push_task.new.engine.world) (agenda_of d c.push_task.new.engine) a.engine.now.counted c.push_task.new.engine.counted (agenda_of d a.engine.now) _ w
      (Setting object a.slot (value_view c.operand-value.result)) is c.push_task.ensures.world (c.push_task.ensures.agenda d) c.push_task.ensures.same;
  quiet = search rules;
  counted = search rules;
  room = search rules;
}
