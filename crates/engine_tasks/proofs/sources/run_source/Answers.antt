use Rattle.bytecode.specs.Computing.{registers_of}
use Rattle.frames.specs.FrameView.{set_values}
use Rattle.frames.proofs.FrameRegisters.{given_set, given_values}
use Rattle.std.proofs.Common.{◌∷◌, [], ap, refl, sym, subst, ◌∙◌, rules}
use Rattle.ui_machine.specs.Outcome.{Answer}
use Rattle.ui_machine.specs.Rules.MainLoop.{source_data, sourcing}
use Rattle.ui_machine.specs.State.Config.{Config, Started}
use Rattle.ui_machine.specs.State.Tasks.{Answering}
use Rattle.ui_machine.specs.Steps.{uncounted}
use Rattle.instance_tables.specs.Store.{id_of}
use Rattle.engine_world.specs.EngineView.{config_of}
use Rattle.engine_world.specs.View.{world_of}
use Rattle.engine_world.specs.TaskView.{agenda_of}
use Rattle.ui_machine.specs.State.Sources.{source_of}
use Rattle.engine_world.proofs.Counts.{keeps_on, still_counted}
use Rattle.engine_world.proofs.SourceCounts.{found_none}
use Rattle.engine_world.proofs.Registers.{on_ok}
use Rattle.engine_tasks.proofs.TurnTaking.{begins_as}
use Rattle.engine_tasks.proofs.ProgramStarts.{begins_before}
use Rattle.engine_tasks.proofs.Sourcing.{source_absent, source_begins}
use Rattle.engine_world.specs.Able.{Leads}
use Rattle.engine_world.proofs.Ableness.{able_as, in_uncounted, no_arm}
use Rattle.engine_world.proofs.Named.{begins_names, names_as}
use Rattle.engine_world.proofs.RoomLeft.{room_for_next}
use Rattle.engine_tasks.proofs.sources.run_source.Goals as goal

pub unreachable-requires : goal.unreachable-requires
unreachable-requires c =
    let d = c.args.definition.now in
    let e = c.args.engine.now in
    let none = found_none (source_of c.args.source e.world.context.sources) c.find.result c.find.ensures c.in_default.not-Some in
    no_arm (sourcing d (world_of e.world) c.args.source) _ (in_uncounted _ _ _ c.requires.able) (source_absent d (world_of e.world) c.args.source none)

pub begin_program-requires : goal.begin_program-requires
begin_program-requires c =
    let d = c.args.definition.now in
    let e = c.args.engine.now in
    let b = c.push_task.new.engine in
    let due = c.in-Some.due in
    let given = source_data (id_of due.arg) in
    let so = ap (λ (a : Answer Started). uncounted (agenda_of d e) e.counted a) (source_begins d (world_of e.world) c.args.source due c.in-Some.ensures) in
    let begins = begins_as d (agenda_of d b) _ b.counted e.counted (world_of b.world) (world_of e.world) due.program due.program (set_values (registers_of c.give_data.new.registers.items)) given
    (c.push_task.ensures.agenda d) c.push_task.ensures.same c.push_task.ensures.world refl (given_values (registers_of c.give_data.new.registers.items) given c.in_ok-give_data.ensures.given)
    ∙ sym (begins_before d (world_of e.world) due.program given (Answering c.args.source ∷ []) (agenda_of d e) e.counted)
    ∙ sym so in
    record {
      able = able_as (sym begins) c.requires.able;
      set = given_set (registers_of c.give_data.new.registers.items) given c.in_ok-give_data.ensures.given;
      counted = still_counted d e b (c.push_task.ensures.counted d) c.requires.counted;
      room = room_for_next e b c.push_task.ensures.room c.requires.room;
      names = begins_names b.counted (agenda_of d b) d (world_of b.world) due.program (set_values (registers_of c.give_data.new.registers.items)) (able_as (sym begins) c.requires.able) (names_as (sym begins) c.requires.names);
    }

pub returns : goal.returns
returns c = record {
  step =
      let d = c.args.definition.now in
      let e = c.args.engine.now in
      let b = c.push_task.new.engine in
      let due = c.in-Some.due in
      let given = source_data (id_of due.arg) in
      let so = ap (λ (a : Answer Started). uncounted (agenda_of d e) e.counted a) (source_begins d (world_of e.world) c.args.source due c.in-Some.ensures) in
      let begins = begins_as d (agenda_of d b) _ b.counted e.counted (world_of b.world) (world_of e.world) due.program due.program (set_values (registers_of c.give_data.new.registers.items)) given
      (c.push_task.ensures.agenda d) c.push_task.ensures.same c.push_task.ensures.world refl (given_values (registers_of c.give_data.new.registers.items) given c.in_ok-give_data.ensures.given)
      ∙ sym (begins_before d (world_of e.world) due.program given (Answering c.args.source ∷ []) (agenda_of d e) e.counted)
      ∙ sym so in
      subst (λ (a : Answer Config). Leads c.begin_program.result a (config_of d c.begin_program.new.engine)) begins c.begin_program.ensures.acts.step;
  quiet = search rules;
  counted =
      let d = c.args.definition.now in
      on_ok c.begin_program.result (λ kept. keeps_on d _ _ _ (c.push_task.ensures.counted d) kept) c.begin_program.ensures.acts.counted;
  room = search rules;
}
