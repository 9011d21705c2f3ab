use Rattle.std.proofs.Common.{◌≡◌, ◌∙◌, [], List, refl, sym, ap, subst, arith, rules}
use Rattle.std.specs.Prelude.{OnErr}
use Rattle.ui_machine.specs.Definition.{Definition}
use Rattle.ui_machine.specs.Outcome.{Answer}
use Rattle.ui_machine.specs.Rules.Accumulation.{ending, resulting}
use Rattle.ui_machine.specs.Seq.{total}
use Rattle.ui_machine.specs.State.Config.{Config, World}
use Rattle.ui_machine.specs.State.References.{in_register, in_task, same}
use Rattle.ui_machine.specs.State.Tasks.{Task}
use Rattle.ui_machine.specs.Steps.{left}
use Rattle.engine_world.specs.Able.{Leads}
use Rattle.engine_world.specs.Counting.{OnlyTasks, nothing}
use Rattle.engine_world.specs.EngineView.{config_of}
use Rattle.engine_world.specs.FirstEmissions.{first_emitted}
use Rattle.engine_stack.specs.FirstEmissions.{Emitted, emission_view, emitted_of}
use Rattle.engine_world.specs.FirstPrograms.{rest_of}
use Rattle.engine_world.specs.Quiet.{IsQuiet}
use Rattle.engine_world.specs.TaskView.{agenda_of}
use Rattle.engine_world.specs.View.{world_of}
use Rattle.engine_stack.specs.declared.emission_frames.EmissionFrame.{EmissionFrame}
use Rattle.engine_world.specs.declared.engine.Engine.{Engine}
use Rattle.engine_world.proofs.Ableness.{able_as}
use Rattle.engine_world.proofs.Counts.{taken_alike}
use Rattle.engine_world.proofs.FirstEmissions.{begins}
use Rattle.engine_world.proofs.Registers.{tasks_world}
use Rattle.engine_tasks.proofs.emission.end_first.Goals as goal

-- how an emission ends goes by no argument of it
ends_alike : (d : Definition) (w : World) (x : Emitted) (rest : List Task) → ending d w (emission_view x) rest ≡ ending d w (emission_view (record x { args = [] })) rest
unfolding ending resulting
ends_alike d w x rest = refl

-- what ends is the emission that was taken off, above the tasks that were behind it
ends_off : (d : Definition) (e m : Engine) (f : EmissionFrame) → emitted_of f ≡ record (first_emitted e) { args = [] } → agenda_of d m ≡ rest_of d e → OnlyTasks e m
    → left e.counted (ending d (world_of e.world) (emission_view (first_emitted e)) (rest_of d e)) ≡ left m.counted (ending d (world_of m.world) (emission_view (emitted_of f)) (agenda_of d m))
ends_off d e m f own behind only =
    ap (λ a. left e.counted a) (ends_alike d (world_of e.world) (first_emitted e) (rest_of d e))
    ∙ ap (λ (x : Emitted). left e.counted (ending d (world_of e.world) (emission_view x) (rest_of d e))) (sym own)
    ∙ ap (λ (ts : List Task). left e.counted (ending d (world_of e.world) (emission_view (emitted_of f)) ts)) (sym behind)
    ∙ ap (λ (w : World). left e.counted (ending d w (emission_view (emitted_of f)) (agenda_of d m))) (sym (tasks_world e m only))
    ∙ ap (λ n. left n (ending d (world_of m.world) (emission_view (emitted_of f)) (agenda_of d m))) (sym (ap (λ (x : Engine). x.counted) only.beside))

pub drop_emission-rest-requires : goal.drop_emission-rest-requires
drop_emission-rest-requires c = record {
  first = c.requires.first;
  held = λ o.
      let d = c.args.definition.now in
      let before = ap (λ (ts : List Task). total (in_task o) ts) (begins d c.args.engine.now c.requires.first) in
      omega (arith, c.requires.counted.exact o, before);
}

pub end_emission-requires : goal.end_emission-requires
end_emission-requires c =
    let d = c.args.definition.now in
    let e = c.args.engine.now in
    let m = c.drop_emission-rest.new.engine in
    let ended = c.drop_emission-rest.ensures.ended in
    record {
      able = able_as (ends_off d e m c.drop_emission-rest.result ended (c.drop_emission-rest.ensures.agenda d) c.drop_emission-rest.ensures.only) c.requires.able;
      counted =
          taken_alike d m _ _
          (λ o. let object = ap (λ (x : Emitted). same o x.walk.object) ended in let value = ap (λ (x : Emitted). in_register o x.walk.value) ended in omega (arith, object, value))
          (c.drop_emission-rest.ensures.counted d nothing c.requires.counted);
    }

pub returns : goal.returns
returns c = record {
  step =
      let d = c.args.definition.now in
      let e = c.args.engine.now in
      let m = c.drop_emission-rest.new.engine in
      subst (λ (a : Answer Config). Leads c.end_emission.result a (config_of d c.end_emission.new.engine))
      (sym (ends_off d e m c.drop_emission-rest.result c.drop_emission-rest.ensures.ended (c.drop_emission-rest.ensures.agenda d) c.drop_emission-rest.ensures.only)) c.end_emission.ensures.step;
  quiet =
      subst (λ (w : World). OnErr c.end_emission.result (IsQuiet w (world_of c.end_emission.new.engine.world))) (tasks_world c.args.engine.now c.drop_emission-rest.new.engine c.drop_emission-rest.ensures.only)
      c.end_emission.ensures.quiet;
  counted = search rules;
  room = search rules;
}
