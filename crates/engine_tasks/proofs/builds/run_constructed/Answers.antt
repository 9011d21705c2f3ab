use Rattle.bytecode.specs.Computing.{registers_of}
use Rattle.frames.specs.FrameView.{set_values}
use Rattle.frames.proofs.FrameRegisters.{given_set, given_values}
use Rattle.std.proofs.Common.{◌∷◌, ◌++◌, [], Some, List, ap, refl, sym, subst, ◌∙◌, arith, Option, rules}
use Rattle.ui_machine.specs.Definition.Values as values
use Rattle.ui_machine.specs.Outcome.{Answer}
use Rattle.ui_machine.specs.State.Config.{Config}
use Rattle.g_values.specs.declared.value.Value.{Value}
use Rattle.engine_world.specs.Able.{Leads}
use Rattle.engine_world.specs.Counting.{nothing}
use Rattle.engine_world.specs.EngineView.{config_of}
use Rattle.engine_world.specs.FirstConstructions.{first_constructed}
use Rattle.engine_stack.specs.FirstConstructions.{constructing_task}
use Rattle.engine_world.specs.FirstPrograms.{rest_of}
use Rattle.engine_world.specs.TaskView.{agenda_of}
use Rattle.engine_world.specs.View.{world_of}
use Rattle.engine_world.proofs.Ableness.{able_as}
use Rattle.engine_world.proofs.FirstConstructions.{begins}
use Rattle.engine_world.proofs.Registers.{on_ok}
use Rattle.engine_tasks.proofs.TurnTaking.{begins_as}
use Rattle.engine_tasks.proofs.ProgramStarts.{begins_before}
use Rattle.law_typing.specs.Good.Living.{NamesLiving}
use Rattle.law_typing.specs.Verdict.Accepted.{Each}
use Rattle.engine_tasks.proofs.builds.run_constructed.Goals as goal

pub begin_program-requires : goal.begin_program-requires
begin_program-requires c =
    let d = c.args.definition.now in
    let e = c.args.engine.now in
    let own = first_constructed e in
    let args : List values.Value = values.object (Some own.object) ∷ [] in
    let filled = ap (λ (rs : List (Option Value)). registers_of rs) c.in_ok-push.ensures.items
    ∙ ap (λ (rs : List (Option Value)). registers_of (rs ++ Some c.object_value.result ∷ [])) c.take-registers.ensures ∙ ap (λ (v : values.Value). Some v ∷ []) c.object_value.ensures
    ∙ ap (λ id. Some (values.object (Some id)) ∷ []) c.first_object-object.ensures in
    let given = given_values (registers_of c.push.new.self.items) args filled in
    let started = begins_as d (agenda_of d e) (constructing_task own ∷ rest_of d e) e.counted e.counted (world_of e.world) (world_of e.world) c.args.program c.args.program (set_values (registers_of c.push.new.self.items)) args
    (begins d e c.requires.first) refl refl refl given
    ∙ sym (begins_before d (world_of e.world) c.args.program args (constructing_task own ∷ []) (rest_of d e) e.counted) in
    record {
      able = able_as (sym started) c.requires.able;
      set = given_set (registers_of c.push.new.self.items) args filled;
      counted = record { taken = nothing; counts = c.requires.counted; little = λ o. omega arith };
      room = c.requires.room;
      names = subst (λ (vs : List values.Value). Each (NamesLiving (world_of e.world)) vs) (sym given) (c.requires.live, tt);
    }

pub returns : goal.returns
returns c = record {
  step =
      let d = c.args.definition.now in
      let e = c.args.engine.now in
      let own = first_constructed e in
      let args : List values.Value = values.object (Some own.object) ∷ [] in
      let filled = ap (λ (rs : List (Option Value)). registers_of rs) c.in_ok-push.ensures.items
      ∙ ap (λ (rs : List (Option Value)). registers_of (rs ++ Some c.object_value.result ∷ [])) c.take-registers.ensures ∙ ap (λ (v : values.Value). Some v ∷ []) c.object_value.ensures
      ∙ ap (λ id. Some (values.object (Some id)) ∷ []) c.first_object-object.ensures in
      let given = given_values (registers_of c.push.new.self.items) args filled in
      let started = begins_as d (agenda_of d e) (constructing_task own ∷ rest_of d e) e.counted e.counted (world_of e.world) (world_of e.world) c.args.program c.args.program (set_values (registers_of c.push.new.self.items)) args
      (begins d e c.requires.first) refl refl refl given
      ∙ sym (begins_before d (world_of e.world) c.args.program args (constructing_task own ∷ []) (rest_of d e) e.counted) in
      subst (λ (a : Answer Config). Leads c.begin_program.result a (config_of d c.begin_program.new.engine)) started c.begin_program.ensures.acts.step;
  quiet = search rules;
  counted = on_ok c.begin_program.result (λ kept. kept.at nothing c.requires.counted) c.begin_program.ensures.acts.counted;
  room = search rules;
}
