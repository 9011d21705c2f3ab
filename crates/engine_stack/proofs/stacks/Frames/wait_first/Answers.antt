use Rattle.engine_stack.specs.TaskFrames.{args_used, registers_used}
use Rattle.engine_stack.proofs.Vectors.{framed_set, stocked_set}
use Rattle.std.proofs.Common.{◌∙◌, option_map, vec_len, ap, refl, sym, ◌-◌, slice_set}
use Rattle.ui_machine.specs.State.Tasks as config
use Rattle.engine_stack.specs.declared.task.Task.TheVariants as tasks
use Rattle.engine_stack.proofs.FirstPrograms.{ending, frame_last, frame_now, kept_so, rewritten}
use Rattle.bytecode.specs.View.{number_of}
use Rattle.engine_stack.proofs.stacks.Frames.wait_first.Goals as goal

pub invariant_of-self : goal.invariant_of-self
invariant_of-self c =
    let s = c.args.self.now in
    let e = ending (vec_len s.tasks) s.tasks.items (tasks.Running c.in-Running.frame) (tasks.Running c.in-Running.frame) s.tasks.ok.0 c.in-Some.ensures.item.3.0 (sym c.in-Running.is ∙ c.in-Some.ensures.item.3.1 (tasks.Running c.in-Running.frame)) in
    let k = kept_so s c.in-Running.frame (record c.in-Running.frame { into = c.args.into }) e in
    record {
      within = k.within;
      above = k.above;
      programs = stocked_set registers_used s.tasks s.registers s.programs _ refl (tasks.Running c.in-Running.frame) (tasks.Running (record c.in-Running.frame { into = c.args.into })) e refl refl;
      emissions = stocked_set args_used s.tasks s.args s.emissions _ refl (tasks.Running c.in-Running.frame) (tasks.Running (record c.in-Running.frame { into = c.args.into })) e refl refl;
    }

pub returns-clause-rewritten : goal.returns-clause-rewritten
returns-clause-rewritten c =
    let s = c.args.self.now in
    let e = ending (vec_len s.tasks) s.tasks.items (tasks.Running c.in-Running.frame) (tasks.Running c.in-Running.frame) s.tasks.ok.0 c.in-Some.ensures.item.3.0 (sym c.in-Running.is ∙ c.in-Some.ensures.item.3.1 (tasks.Running c.in-Running.frame)) in
    rewritten s _ c.in-Running.frame (record c.in-Running.frame { into = c.args.into }) e refl

pub returns-clause-waits : goal.returns-clause-waits
returns-clause-waits c =
    let s = c.args.self.now in
    let e = ending (vec_len s.tasks) s.tasks.items (tasks.Running c.in-Running.frame) (tasks.Running c.in-Running.frame) s.tasks.ok.0 c.in-Some.ensures.item.3.0 (sym c.in-Running.is ∙ c.in-Some.ensures.item.3.1 (tasks.Running c.in-Running.frame)) in
    frame_now s _ c.in-Running.frame (record c.in-Running.frame { into = c.args.into }) e refl
    ∙ ap (λ (g : config.Frame). record g { into = option_map number_of c.args.into }) (sym (frame_last s c.in-Running.frame e))

pub returns-clause-frames : goal.returns-clause-frames
returns-clause-frames c =
    let s = c.args.self.now in
    let e = ending (vec_len s.tasks) s.tasks.items (tasks.Running c.in-Running.frame) (tasks.Running c.in-Running.frame) s.tasks.ok.0 c.in-Some.ensures.item.3.0 (sym c.in-Running.is ∙ c.in-Some.ensures.item.3.1 (tasks.Running c.in-Running.frame)) in
    framed_set s.tasks (slice_set s.tasks.items (vec_len s.tasks - 1) (tasks.Running (record c.in-Running.frame { into = c.args.into }))) (tasks.Running c.in-Running.frame) (tasks.Running (record c.in-Running.frame { into = c.args.into })) e refl refl
