use Rattle.std.proofs.Common.{ℕ, List, ◌∷◌, Option, ap, sym, subst, ◌∙◌, arith, rules}
use Rattle.ui_machine.specs.Seq.{total}
use Rattle.ui_machine.specs.State.References.{in_register}
use Rattle.ui_machine.specs.Definition.Types.{GType}
use Rattle.ui_machine.specs.Output.Lines as lines
use Rattle.ui_machine.specs.Output.Text.{text_of_line}
use Rattle.ui_machine.specs.State.Tasks.{Running}
use Rattle.bytecode.specs.Computing.{registers_of}
use Rattle.frames.specs.FrameView.{AreSet, set_values}
use Rattle.g_values.specs.declared.value.Value.{Value}
use Rattle.bytecode.specs.View.{program_view}
use Rattle.signal_core.specs.Connected.{Connected}
use Rattle.engine_world.specs.View.{with_line, world_of}
use Rattle.engine_world.specs.TaskView.{agenda_of}
use Rattle.engine_stack.specs.TaskView.{tasks_of}
use Rattle.ui_machine.specs.State.Config.{World}
use Rattle.engine_world.proofs.Counts.{keeps_on, keeps_said}
use Rattle.engine_world.proofs.Left.{left_with}
use Rattle.engine_tasks.proofs.ProgramStarts.{begins_program, begins_unknown, begins_fit}
use Rattle.ui_machine.specs.declared.arm.Arm.TheVariants as arms
use Rattle.ui_machine.specs.Rules.Programs.{beginning_program, first_frame}
use Rattle.engine_world.proofs.Ableness.{in_uncounted, no_arm}
use Rattle.engine_world.proofs.Begun.{set_total}
use Rattle.engine_world.proofs.Held.{values_live}
use Rattle.engine_tasks.proofs.programs.begin_program.Goals as goal

pub unreachable-requires : goal.unreachable-requires
unreachable-requires c =
    let d = c.args.definition.now in
    let w = world_of c.args.engine.now.world in
    let args = set_values (registers_of c.args.registers.items) in
    no_arm (beginning_program d w c.args.number args) arms.Code (in_uncounted _ _ _ c.requires.able) (begins_unknown d w c.args.number args (sym c.in_default.ensures.program))

pub push_program-requires-clause-set : goal.push_program-requires-clause-set
push_program-requires-clause-set c = subst (λ (rs : List (Option Value)). AreSet (registers_of rs)) (sym c.in_ok-registers.ensures.same) c.requires.set

pub push_program-requires-clause-may : goal.push_program-requires-clause-may
push_program-requires-clause-may c o held =
    let d = c.args.definition.now in
    let e = c.args.engine.now in
    let rs = registers_of c.args.registers.items in
    let same = ap (λ (rs : List (Option Value)). total (in_register o) (registers_of rs)) c.in_ok-registers.ensures.same in
    record {
      d = d;
      counted = c.requires.counted;
      lives = values_live (world_of e.world) o (set_values rs) c.requires.names (omega (arith, held, same, set_total o rs c.requires.set));
    }

pub returns-clause-acts : goal.returns-clause-acts
returns-clause-acts c = record {
  step =
      let d = c.args.definition.now in
      let e = c.args.engine.now in
      let b = c.push_program.new.engine in
      let p = program_view c.in-Some.program.now in
      let args = set_values (registers_of c.args.registers.items) in
      let is = sym c.in-Some.ensures.program in
      let fit = begins_fit d (world_of e.world) c.args.number args p is (in_uncounted _ _ _ c.requires.able) in
      let line = c.in_ok-line.ensures ∙ ap (λ (types : List GType). text_of_line types (lines.run c.as_str.result.now)) c.types.ensures.types
      ∙ ap (λ (name : List ℕ). text_of_line d.types (lines.run name)) c.as_str.ensures.value in
      let world = c.in_ok-say.ensures.ok ∙ ap (λ (text : List ℕ). with_line text (world_of b.world)) line ∙ ap (λ (w : World). with_line (text_of_line d.types (lines.run p.name)) w) c.push_program.ensures.world in
      let agenda = ap (λ (h : Connected). tasks_of d h.handlers b.stack) c.say.ensures.handlers ∙ c.push_program.ensures.agenda d
      ∙ ap (λ (rs : List (Option Value)). Running (first_frame c.args.number p (set_values (registers_of rs))) ∷ agenda_of d e) c.in_ok-registers.ensures.same in
      left_with _ _ e.counted _ (agenda_of d e) _ _ _
      (begins_program d (world_of e.world) c.args.number args p is fit) world agenda c.push_program.ensures.same;
  quiet = search rules;
  counted =
      let d = c.args.definition.now in
      keeps_on d _ _ _ (c.push_program.ensures.counted d) (keeps_said d c.push_program.new.engine c.say.new.self c.say.ensures.beside);
  room = search rules;
}
