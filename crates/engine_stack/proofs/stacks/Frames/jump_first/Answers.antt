use Rattle.engine_stack.specs.TaskFrames.{args_used, registers_used}
use Rattle.engine_stack.proofs.Vectors.{framed_set, stocked_set}
use Rattle.engine_stack.specs.Stocks.{is_usual}
use Rattle.std.proofs.Common.{◌∙◌, Some, option_map, slice_get, vec_len, ap, refl, sym, ◌-◌, slice_set}
use Rattle.ui_machine.specs.State.Tasks as config
use Rattle.frames.specs.FrameView.{at_block}
use Rattle.engine_stack.specs.declared.task.Task.TheVariants as tasks
use Rattle.engine_stack.proofs.FirstPrograms.{ending, frame_last, frame_now, kept_so, rewritten}
use Rattle.bytecode.specs.View.{program_view}
use Rattle.engine_stack.proofs.stacks.Frames.jump_first.Goals as goal

pub invariant_of-self : goal.invariant_of-self
invariant_of-self c =
    let s = c.args.self.now in
    let e = ending (vec_len s.tasks) s.tasks.items (tasks.Running c.in-Running.frame) (tasks.Running c.in-Running.frame) s.tasks.ok.0 c.in-Some.ensures.item.3.0 (sym c.in-Running.is ∙ c.in-Some.ensures.item.3.1 (tasks.Running c.in-Running.frame)) in
    let k = kept_so s c.in-Running.frame c.jump.new.self e in
    record {
      within = k.within;
      above = k.above;
      programs = stocked_set registers_used s.tasks s.registers s.programs _ refl (tasks.Running c.in-Running.frame) (tasks.Running c.jump.new.self) e refl (ap (λ v. is_usual s.registers.room v) c.jump.ensures.kept);
      emissions = stocked_set args_used s.tasks s.args s.emissions _ refl (tasks.Running c.in-Running.frame) (tasks.Running c.jump.new.self) e refl refl;
    }

pub returns-clause-rewritten : goal.returns-clause-rewritten
returns-clause-rewritten c =
    let s = c.args.self.now in
    let e = ending (vec_len s.tasks) s.tasks.items (tasks.Running c.in-Running.frame) (tasks.Running c.in-Running.frame) s.tasks.ok.0 c.in-Some.ensures.item.3.0 (sym c.in-Running.is ∙ c.in-Some.ensures.item.3.1 (tasks.Running c.in-Running.frame)) in
    rewritten s _ c.in-Running.frame c.jump.new.self e refl

pub returns-clause-jumped : goal.returns-clause-jumped
returns-clause-jumped c =
    let s = c.args.self.now in
    let e = ending (vec_len s.tasks) s.tasks.items (tasks.Running c.in-Running.frame) (tasks.Running c.in-Running.frame) s.tasks.ok.0 c.in-Some.ensures.item.3.0 (sym c.in-Running.is ∙ c.in-Some.ensures.item.3.1 (tasks.Running c.in-Running.frame)) in
    ap (λ (g : config.Frame). option_map (at_block c.args.to.0 g) (slice_get (program_view c.args.program.now).blocks c.args.to.0)) (frame_last s c.in-Running.frame e)
    ∙ c.jump.ensures.jumped
    ∙ ap (λ (g : config.Frame). Some g) (sym (frame_now s _ c.in-Running.frame c.jump.new.self e refl))

pub returns-clause-frames : goal.returns-clause-frames
returns-clause-frames c =
    let s = c.args.self.now in
    let e = ending (vec_len s.tasks) s.tasks.items (tasks.Running c.in-Running.frame) (tasks.Running c.in-Running.frame) s.tasks.ok.0 c.in-Some.ensures.item.3.0 (sym c.in-Running.is ∙ c.in-Some.ensures.item.3.1 (tasks.Running c.in-Running.frame)) in
    framed_set s.tasks (slice_set s.tasks.items (vec_len s.tasks - 1) (tasks.Running c.jump.new.self)) (tasks.Running c.in-Running.frame) (tasks.Running c.jump.new.self) e refl refl
