use Rattle.std.proofs.Common.{rules, ◌≡◌, ◌<◌, ℕ, Option, Some, Result, Ok, Err, List, drop, ap, refl, subst, suc, sym, ◌∙◌, arith}
use Rattle.std.specs.Prelude.{OnOk}
use Rattle.std.specs.declared.alloc.AllocError.{AllocError}
use Rattle.ui_machine.specs.Definition.Lookups.{program_at}
use Rattle.ui_machine.specs.Definition.{Definition}
use Rattle.ui_machine.specs.Definition.Programs.{Program}
use Rattle.ui_machine.specs.Instructions.{instruction_step, running}
use Rattle.ui_machine.specs.Outcome.{Answer}
use Rattle.ui_machine.specs.Seq.{total}
use Rattle.ui_machine.specs.State.Config.{Config}
use Rattle.ui_machine.specs.State.References.{in_register, in_task}
use Rattle.ui_machine.specs.State.Tasks.{Frame, Registers, Task}
use Rattle.ui_machine.specs.Steps.{counted_left, left, most_steps}
use Rattle.frames.specs.FrameView.{Taken, frame_view, taken_in}
use Rattle.frames.specs.declared.frame.Frame as code
use Rattle.bytecode.specs.View.{instruction_view, program_view}
use Rattle.engine_world.specs.Counting.{Counts, PassesGot, nothing}
use Rattle.engine_world.specs.EngineView.{config_of}
use Rattle.engine_world.specs.Able.{LeadsWithoutGone}
use Rattle.engine_world.specs.FirstPrograms.{IsProgram, first_frame, rest_of}
use Rattle.engine_stack.specs.FirstPrograms.{IsRewritten, stack_frame}
use Rattle.engine_stack.specs.KnownHandlers.{AllTakeKnownHandlers}
use Rattle.engine_world.proofs.Ableness.{able_as, in_counted_left, no_arm}
use Rattle.engine_world.proofs.FirstPrograms.{begins}
use Rattle.engine_world.proofs.Registers.{stack_same_held}
use Rattle.engine_world.specs.View.{world_of}
use Rattle.engine_world.specs.declared.engine.Engine.{Engine}
use Rattle.engine_stack.specs.declared.stacks.Frames.{Frames}
use Rattle.engine_world.proofs.Counts.{keeps_same}
use Rattle.engine_world.proofs.Named.{names_as}
use Rattle.engine_instructions.specs.ClosedPeers.{LeavesClosed}
use Rattle.engine_dispatches.specs.TaskClosings.{ProgramLeaves, TakenLeaves}
use Rattle.engine_instructions.proofs.KnownCode.{taken_known}
use Rattle.engine_instructions.proofs.Programs.{left_counted, no_instruction, taken_keeps, taken_there, takes_instruction, unknown_program}
use Rattle.engine_world.proofs.RoomLeft.{places_kept}
use Rattle.engine_dispatches.proofs.program_steps.run_program.Goals as goal

-- an engine that has counted the step, and then its stack with the instruction taken
module _ (d : Definition) (e b : Engine) (is : b ≡ record e { counted = suc e.counted }) where
  frame_same : first_frame b ≡ first_frame e
  frame_same = ap (λ (g : Engine). first_frame g) is

  -- the program that was found is the one that runs
  found : (r : code.Frame) (o : Option Program) → frame_view r ≡ first_frame b → o ≡ program_at d r.program → program_at d (first_frame e).program ≡ o
  found r o at there = ap (λ (g : Frame). program_at d g.program) (sym (at ∙ frame_same)) ∙ sym there

  took : (p : Program) (o : Option Taken) → taken_in p (first_frame b) ≡ o → taken_in p (first_frame e) ≡ o
  took p o at = ap (λ (g : Frame). taken_in p g) (sym frame_same) ∙ at

  module _ (p : Program) (at : program_at d (first_frame e).program ≡ Some p) (s : Frames) (rewritten : IsRewritten b.stack s) (t : Taken) (taken : taken_in p (first_frame e) ≡ Some t)
      (few : e.counted < most_steps) where
    abbrev after : Engine
    after = record b { stack = s }

    rest_same : rest_of d after ≡ rest_of d b
    rest_same = ap (λ (ts : List Task). drop 1 ts) (rewritten.tasks d b.world.handlers.handlers)

    -- what the counted step leads to is what the instruction does there
    whole : counted_left e.counted (running d (world_of e.world) (rest_of d e) (first_frame e))
        ≡ left after.counted (instruction_step d (world_of after.world) (rest_of d after) t.frame t.instruction)
    whole =
        left_counted e.counted (running d (world_of e.world) (rest_of d e) (first_frame e)) few
        ∙ ap (left (suc e.counted)) (takes_instruction d (world_of e.world) (rest_of d e) (first_frame e) p at t taken)
        ∙ ap (λ (g : Engine). left g.counted (instruction_step d (world_of g.world) (rest_of d g) t.frame t.instruction)) (sym is)
        ∙ ap (λ (ts : List Task). left b.counted (instruction_step d (world_of b.world) ts t.frame t.instruction)) (sym rest_same)

    -- it holds what it held
    holds : IsProgram e → t.frame ≡ stack_frame s → ((last : ℕ) → AllTakeKnownHandlers last b.stack → AllTakeKnownHandlers last s) → Counts d nothing e → Counts d nothing after
    holds first frame begun h =
        let same = keeps_same d e b (ap (λ (g : Engine). g.world.table) is) (ap (λ (g : Engine). g.world.weak) is) (ap (λ (g : Engine). g.links) is) (subst (λ (g : Engine). PassesGot d g) (sym is)) (ap (λ (g : Engine). g.world.context) is) (ap (λ (g : Engine). g.world.builder) is) (ap (λ (g : Engine). g.stack) is) (ap (λ (g : Engine). g.world.handlers) is) in
        let first_b : IsProgram b = subst (λ (g : Engine). IsProgram g) (sym is) first in
        stack_same_held d b s
        (λ o.
        let before = ap (λ (ts : List Task). total (in_task o) ts) (begins d b first_b) in
        let now = ap (λ (ts : List Task). total (in_task o) ts) (rewritten.tasks d b.world.handlers.handlers) in
        let registers = ap (λ (rs : Registers). total (in_register o) rs) (ap (λ (g : Frame). g.registers) (sym frame) ∙ (taken_keeps p (first_frame e) t taken).0 ∙ ap (λ (g : Frame). g.registers) (sym frame_same)) in
        omega (arith, before, now, registers))
        begun nothing (same.at nothing h)

pub count-requires : goal.count-requires
count-requires c = record { few = (in_counted_left c.args.engine.now.counted _ c.requires.able).0 }

pub first_frame-requires : goal.first_frame-requires
first_frame-requires c = record { first = subst (λ (g : Engine). IsProgram g) (sym c.count.ensures) c.requires.first }

pub unreachable-requires : goal.unreachable-requires
unfolding left
unreachable-requires c =
    let d = c.args.definition.now in
    let e = c.args.engine.now in
    let few = (in_counted_left e.counted _ c.requires.able).0 in
    let none = found d e c.count.new.engine c.count.ensures c.first_frame.result.now _ c.first_frame.ensures c.in_default.ensures.program in
    no_arm _ _ c.requires.able (left_counted e.counted _ few ∙ ap (left (suc e.counted)) (unknown_program d (world_of e.world) (rest_of d e) (first_frame e) none))

pub unreachable-requires-in_default-take_first : goal.unreachable-requires-in_default-take_first
unfolding left
unreachable-requires-in_default-take_first c =
    let d = c.args.definition.now in
    let e = c.args.engine.now in
    let p = program_view c.in-Some.program.now in
    let few = (in_counted_left e.counted _ c.requires.able).0 in
    let at = found d e c.count.new.engine c.count.ensures c.first_frame.result.now (Some p) c.first_frame.ensures c.in-Some.ensures.program in
    no_arm _ _ c.requires.able
    (left_counted e.counted _ few
    ∙ ap (left (suc e.counted)) (no_instruction d (world_of e.world) (rest_of d e) (first_frame e) p at (took d e c.count.new.engine c.count.ensures p _ c.in_default-take_first.ensures.taken)))

pub execute-requires : goal.execute-requires
execute-requires c =
    let d = c.args.definition.now in
    let e = c.args.engine.now in
    let b = c.count.new.engine in
    let is = c.count.ensures in
    let s = c.take_first.new.self in
    let p = program_view c.in-Some.program.now in
    let t : Taken = record { instruction = instruction_view c.in-Some-take_first.instruction.now; frame = stack_frame s } in
    let few = (in_counted_left e.counted _ c.requires.able).0 in
    let at = found d e b is c.first_frame.result.now (Some p) c.first_frame.ensures c.in-Some.ensures.program in
    let taken = took d e b is p (Some t) c.in-Some-take_first.ensures.taken in
    let kept = taken_keeps p (first_frame e) t taken in
    let all = whole d e b is p at s c.take_first.ensures.rewritten t taken few in
    record {
      first = c.take_first.ensures.rewritten.first;
      room =
          places_kept 1 b.stack.tasks s.tasks c.take_first.ensures.room c.take_first.ensures.frames (rw is c.requires.room);
      meanings = rw is c.requires.meanings;
      program = ap (program_at d) kept.1 ∙ at;
      taken = taken_there d p (first_frame e) t at taken;
      result = c.in-Some.ensures.known.2;
      known = taken_known d.types c.in-Some.program.now (first_frame e) (stack_frame s) c.in-Some-take_first.instruction.now c.in-Some.ensures.known taken;
      able = able_as all c.requires.able;
      names = names_as all c.requires.names;
      counted = holds d e b is p at s c.take_first.ensures.rewritten t taken few c.requires.first refl c.take_first.ensures.begun c.requires.counted;
    }

on_ok : (r : Result (Unit {0}) AllocError) (P Q : Type 0) → (P → Q) → OnOk r P → OnOk r Q
on_ok (Ok x) P Q on h = on h
on_ok (Err e) P Q on h = h

pub returns-clause-executes : goal.returns-clause-executes
returns-clause-executes c = record {
  step =
      let d = c.args.definition.now in
      let e = c.args.engine.now in
      let b = c.count.new.engine in
      let is = c.count.ensures in
      let s = c.take_first.new.self in
      let p = program_view c.in-Some.program.now in
      let t : Taken = record { instruction = instruction_view c.in-Some-take_first.instruction.now; frame = stack_frame s } in
      let few = (in_counted_left e.counted _ c.requires.able).0 in
      let at = found d e b is c.first_frame.result.now (Some p) c.first_frame.ensures c.in-Some.ensures.program in
      let taken = took d e b is p (Some t) c.in-Some-take_first.ensures.taken in
      subst (λ (a : Answer Config). LeadsWithoutGone c.execute.result a (config_of d c.execute.new.engine)) (sym (whole d e b is p at s c.take_first.ensures.rewritten t taken few)) c.execute.ensures.executes.step;
  quiet = search rules;
  counted = search rules;
  room = search rules;
}

pub returns-clause-closing : goal.returns-clause-closing
returns-clause-closing c =
    let d = c.args.definition.now in
    let e = c.args.engine.now in
    let b = c.count.new.engine in
    let is = c.count.ensures in
    let s = c.take_first.new.self in
    let f = first_frame e in
    let p = program_view c.in-Some.program.now in
    let new = c.execute.new.engine.closing in
    let t : Taken = record { instruction = instruction_view c.in-Some-take_first.instruction.now; frame = stack_frame s } in
    let at = found d e b is c.first_frame.result.now (Some p) c.first_frame.ensures c.in-Some.ensures.program in
    let taken = took d e b is p (Some t) c.in-Some-take_first.ensures.taken in
    on_ok c.execute.result _ _ (λ left.
    subst (λ (o : Option Program). ProgramLeaves (world_of e.world) f o e.closing new) (sym at)
    (subst (λ (o : Option Taken). TakenLeaves (world_of e.world) o e.closing new) (sym taken)
    (subst (λ (g : Engine). LeavesClosed t.instruction (world_of g.world) t.frame g.closing new) is left))) c.execute.ensures.closing
