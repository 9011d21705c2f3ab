use Rattle.std.proofs.Common.{◌∙◌, List, sym, ap, subst, arith, rules}
use Rattle.ui_machine.specs.Definition.Values as values
use Rattle.ui_machine.specs.Outcome.{Answer}
use Rattle.ui_machine.specs.State.Config.{Config}
use Rattle.law_typing.specs.Good.Living.{NamesLiving}
use Rattle.law_typing.specs.Verdict.Accepted.{Each}
use Rattle.bytecode.specs.Computing.{registers_of}
use Rattle.frames.specs.FrameView.{set_values}
use Rattle.frames.proofs.FrameRegisters.{given_set, given_values}
use Rattle.engine_world.specs.Able.{Leads}
use Rattle.engine_world.specs.Counting.{Counts, nothing}
use Rattle.engine_world.specs.EngineView.{config_of}
use Rattle.engine_world.specs.FirstEmissions.{first_emitted}
use Rattle.engine_stack.specs.FirstEmissions.{Emitted, emission_view}
use Rattle.engine_world.specs.Room.{HasRoom}
use Rattle.engine_world.specs.TaskView.{agenda_of}
use Rattle.engine_world.specs.View.{world_of}
use Rattle.engine_world.specs.declared.engine.Engine.{Engine}
use Rattle.engine_world.proofs.Ableness.{able_as}
use Rattle.engine_stack.proofs.FirstEmissions.{emission_found}
use Rattle.engine_world.proofs.Named.{begins_names}
use Rattle.engine_world.proofs.Registers.{on_ok}
use Rattle.engine_tasks.specs.TurnView.{given_by}
use Rattle.engine_tasks.proofs.TurnTaking.{begins_as}
use Rattle.engine_tasks.proofs.emission.take_turn.Goals as goal

pub begin_program-requires : goal.begin_program-requires
begin_program-requires c =
    let d = c.args.definition.now in
    let e = c.args.engine.now in
    let b = c.turn_registers.new.engine in
    let same = c.turn_registers.ensures.same in
    let own = emission_found e.stack c.in-Some.emission.now (sym c.in-Some.ensures) in
    let m = emission_view (first_emitted e) in
    let runs = c.new-runs.result in
    let rs = registers_of c.in_ok-registers.registers.items in
    let given = given_values rs _ c.in_ok-registers.ensures.given ∙ c.new-runs.ensures.given m (ap (λ (x : Emitted). x.walk.object) own ∙ sym c.object.ensures) in
    let begins = begins_as d (agenda_of d b) _ b.counted e.counted (world_of b.world) (world_of e.world) runs.program _ (set_values rs) _
    (ap (λ (x : Engine). agenda_of d x) same) (ap (λ (x : Engine). x.counted) same) (ap (λ (x : Engine). world_of x.world) same) c.new-runs.ensures.program given in
    record {
      able = able_as (sym begins) c.requires.able;
      set = given_set rs _ c.in_ok-registers.ensures.given;
      counted = record { taken = nothing; counts = subst (λ (x : Engine). Counts d nothing x) (sym same) c.requires.counted; little = λ o. omega arith };
      names =
          subst (λ (vs : List values.Value). Each (NamesLiving (world_of b.world)) vs) (sym given)
          (subst (λ (x : Engine). Each (NamesLiving (world_of x.world)) (given_by m c.args.turn)) (sym same)
          (begins_names e.counted _ d (world_of e.world) _ (given_by m c.args.turn) c.requires.able c.requires.names));
      room = subst (λ (x : Engine). HasRoom 1 x) (sym same) c.requires.room;
    }

pub returns : goal.returns
returns c = record {
  step =
      let d = c.args.definition.now in
      let e = c.args.engine.now in
      let b = c.turn_registers.new.engine in
      let same = c.turn_registers.ensures.same in
      let own = emission_found e.stack c.in-Some.emission.now (sym c.in-Some.ensures) in
      let m = emission_view (first_emitted e) in
      let runs = c.new-runs.result in
      let rs = registers_of c.in_ok-registers.registers.items in
      let given = given_values rs _ c.in_ok-registers.ensures.given ∙ c.new-runs.ensures.given m (ap (λ (x : Emitted). x.walk.object) own ∙ sym c.object.ensures) in
      subst (λ (a : Answer Config). Leads c.begin_program.result a (config_of d c.begin_program.new.engine))
      (begins_as d (agenda_of d b) _ b.counted e.counted (world_of b.world) (world_of e.world) runs.program _ (set_values rs) _
      (ap (λ (x : Engine). agenda_of d x) same) (ap (λ (x : Engine). x.counted) same) (ap (λ (x : Engine). world_of x.world) same) c.new-runs.ensures.program given)
      c.begin_program.ensures.acts.step;
  quiet = search rules;
  counted =
      let d = c.args.definition.now in
      on_ok c.begin_program.result (λ kept. kept.at nothing (subst (λ (x : Engine). Counts d nothing x) (sym c.turn_registers.ensures.same) c.requires.counted)) c.begin_program.ensures.acts.counted;
  room = search rules;
}
