use Rattle.engine_stack.specs.TaskFrames.{args_used, registers_used}
use Rattle.engine_stack.proofs.Vectors.{framed_set, stocked_set}
use Rattle.engine_stack.specs.Stocks.{is_usual}
use Rattle.std.proofs.Common.{ap, ◌≡◌, ◌∙◌, ◌-◌, Option, option_map, slice_set, vec_len, refl, subst, sym}
use Rattle.ui_machine.specs.Definition.Programs.{Instruction, Program}
use Rattle.ui_machine.specs.State.Tasks as config
use Rattle.frames.specs.FrameView.{Takes, frame_view, taken_in}
use Rattle.frames.specs.declared.frame.Frame.{Frame}
use Rattle.engine_stack.specs.FirstPrograms.{stack_frame}
use Rattle.engine_stack.specs.declared.stacks.Frames.{Frames}
use Rattle.engine_stack.specs.declared.task.Task.TheVariants as tasks
use Rattle.engine_stack.proofs.FirstPrograms.{Ending, ending, frame_last, frame_now, kept_so, rewritten}
use Rattle.bytecode.specs.View.{instruction_view, program_view}
use Rattle.engine_stack.proofs.stacks.Frames.take_first.Goals as goal

pub invariant_of-self : goal.invariant_of-self
invariant_of-self c =
    let s = c.args.self.now in
    let e = ending (vec_len s.tasks) s.tasks.items (tasks.Running c.in-Running.frame) (tasks.Running c.in-Running.frame) s.tasks.ok.0 c.in-Some.ensures.item.3.0 (sym c.in-Running.is ∙ c.in-Some.ensures.item.3.1 (tasks.Running c.in-Running.frame)) in
    let k = kept_so s c.in-Running.frame c.take.new.self e in
    record {
      within = k.within;
      above = k.above;
      programs = stocked_set registers_used s.tasks s.registers s.programs _ refl (tasks.Running c.in-Running.frame) (tasks.Running c.take.new.self) e refl (ap (λ v. is_usual s.registers.room v) c.take.ensures.kept);
      emissions = stocked_set args_used s.tasks s.args s.emissions _ refl (tasks.Running c.in-Running.frame) (tasks.Running c.take.new.self) e refl refl;
    }

pub returns-clause-rewritten : goal.returns-clause-rewritten
returns-clause-rewritten c =
    let s = c.args.self.now in
    let e = ending (vec_len s.tasks) s.tasks.items (tasks.Running c.in-Running.frame) (tasks.Running c.in-Running.frame) s.tasks.ok.0 c.in-Some.ensures.item.3.0 (sym c.in-Running.is ∙ c.in-Some.ensures.item.3.1 (tasks.Running c.in-Running.frame)) in
    rewritten s _ c.in-Running.frame c.take.new.self e refl

-- what was taken, of the stack's frames
taken_of_stack : (s new : Frames) (was now : Frame) (e : Ending (vec_len s.tasks) s.tasks.items (tasks.Running was))
    → new.tasks.items ≡ slice_set s.tasks.items (vec_len s.tasks - 1) (tasks.Running now) → (p : Program) (r : Option Instruction)
    → Takes r (taken_in p (frame_view was)) (frame_view now) → Takes r (taken_in p (stack_frame s)) (stack_frame new)
taken_of_stack s new was now e is p r takes =
    subst (λ (g : config.Frame). Takes r (taken_in p g) (stack_frame new)) (sym (frame_last s was e))
    (subst (λ (g : config.Frame). Takes r (taken_in p (frame_view was)) g) (sym (frame_now s new was now e is)) takes)

pub returns-clause-taken : goal.returns-clause-taken
returns-clause-taken c =
    let s = c.args.self.now in
    let e = ending (vec_len s.tasks) s.tasks.items (tasks.Running c.in-Running.frame) (tasks.Running c.in-Running.frame) s.tasks.ok.0 c.in-Some.ensures.item.3.0 (sym c.in-Running.is ∙ c.in-Some.ensures.item.3.1 (tasks.Running c.in-Running.frame)) in
    taken_of_stack s _ c.in-Running.frame c.take.new.self e refl (program_view c.args.program.now) (option_map (λ i. instruction_view i.now) c.take.result) c.take.ensures.taken

pub returns-clause-frames : goal.returns-clause-frames
returns-clause-frames c =
    let s = c.args.self.now in
    let e = ending (vec_len s.tasks) s.tasks.items (tasks.Running c.in-Running.frame) (tasks.Running c.in-Running.frame) s.tasks.ok.0 c.in-Some.ensures.item.3.0 (sym c.in-Running.is ∙ c.in-Some.ensures.item.3.1 (tasks.Running c.in-Running.frame)) in
    framed_set s.tasks (slice_set s.tasks.items (vec_len s.tasks - 1) (tasks.Running c.take.new.self)) (tasks.Running c.in-Running.frame) (tasks.Running c.take.new.self) e refl refl
