use Rattle.engine_stack.specs.TaskFrames.{args_used, registers_used}
use Rattle.engine_stack.proofs.Vectors.{framed_set, stocked_set}
use Rattle.std.proofs.Common.{cond, nat_eq, ◌∙◌, ◌<◌, None, length, option_map, vec_len, ap, refl, subst, sym, ◌-◌, slice_set}
use Rattle.ui_machine.specs.State.Tasks as config
use Rattle.frames.specs.FrameView.{frame_view}
use Rattle.engine_stack.specs.declared.task.Task.TheVariants as tasks
use Rattle.engine_stack.proofs.FirstPrograms.{ending, frame_last, frame_now, kept_so, rewritten}
use Rattle.ui_machine.specs.Seq.{read, write}
use Rattle.ui_machine.specs.State.Tasks.{Registers}
use Rattle.g_values.specs.View.{value_view}
use Rattle.engine_stack.proofs.stacks.Frames.put_first.Goals as goal

pub invariant_of-self : goal.invariant_of-self
invariant_of-self c =
    let s = c.args.self.now in
    let e = ending (vec_len s.tasks) s.tasks.items (tasks.Running c.in-Running.frame) (tasks.Running c.in-Running.frame) s.tasks.ok.0 c.in-Some.ensures.item.3.0 (sym c.in-Running.is ∙ c.in-Some.ensures.item.3.1 (tasks.Running c.in-Running.frame)) in
    let k = kept_so s c.in-Running.frame c.put.new.self e in
    record {
      within = k.within;
      above = k.above;
      programs = stocked_set registers_used s.tasks s.registers s.programs _ refl (tasks.Running c.in-Running.frame) (tasks.Running c.put.new.self) e refl (ap (λ n. cond (nat_eq n s.registers.room) 1 0) c.put.ensures.room);
      emissions = stocked_set args_used s.tasks s.args s.emissions _ refl (tasks.Running c.in-Running.frame) (tasks.Running c.put.new.self) e refl refl;
    }

pub returns-clause-rewritten : goal.returns-clause-rewritten
returns-clause-rewritten c =
    let s = c.args.self.now in
    let e = ending (vec_len s.tasks) s.tasks.items (tasks.Running c.in-Running.frame) (tasks.Running c.in-Running.frame) s.tasks.ok.0 c.in-Some.ensures.item.3.0 (sym c.in-Running.is ∙ c.in-Some.ensures.item.3.1 (tasks.Running c.in-Running.frame)) in
    rewritten s _ c.in-Running.frame c.put.new.self e refl

pub put-requires : goal.put-requires
put-requires c =
    let s = c.args.self.now in
    let e = ending (vec_len s.tasks) s.tasks.items (tasks.Running c.in-Running.frame) (tasks.Running c.in-Running.frame) s.tasks.ok.0 c.in-Some.ensures.item.3.0 (sym c.in-Running.is ∙ c.in-Some.ensures.item.3.1 (tasks.Running c.in-Running.frame)) in
    record { register = subst (λ (g : config.Frame). c.args.to.0 < length g.registers) (frame_last s c.in-Running.frame e) c.requires.register }

pub returns-clause-written : goal.returns-clause-written
returns-clause-written c =
    let s = c.args.self.now in
    let e = ending (vec_len s.tasks) s.tasks.items (tasks.Running c.in-Running.frame) (tasks.Running c.in-Running.frame) s.tasks.ok.0 c.in-Some.ensures.item.3.0 (sym c.in-Running.is ∙ c.in-Some.ensures.item.3.1 (tasks.Running c.in-Running.frame)) in
    let to = c.args.to.0 in
    let v = option_map value_view c.args.value in
    frame_now s _ c.in-Running.frame c.put.new.self e refl
    ∙ c.put.ensures.beside
    ∙ ap (λ (rs : Registers). record (frame_view c.in-Running.frame) { registers = rs }) c.put.ensures.written
    ∙ ap (λ (g : config.Frame). record g { registers = write None g.registers to v }) (sym (frame_last s c.in-Running.frame e))

pub returns-clause-held : goal.returns-clause-held
returns-clause-held c =
    let s = c.args.self.now in
    let e = ending (vec_len s.tasks) s.tasks.items (tasks.Running c.in-Running.frame) (tasks.Running c.in-Running.frame) s.tasks.ok.0 c.in-Some.ensures.item.3.0 (sym c.in-Running.is ∙ c.in-Some.ensures.item.3.1 (tasks.Running c.in-Running.frame)) in
    c.put.ensures.held ∙ ap (λ (g : config.Frame). read None g.registers c.args.to.0) (sym (frame_last s c.in-Running.frame e))

pub returns-clause-frames : goal.returns-clause-frames
returns-clause-frames c =
    let s = c.args.self.now in
    let e = ending (vec_len s.tasks) s.tasks.items (tasks.Running c.in-Running.frame) (tasks.Running c.in-Running.frame) s.tasks.ok.0 c.in-Some.ensures.item.3.0 (sym c.in-Running.is ∙ c.in-Some.ensures.item.3.1 (tasks.Running c.in-Running.frame)) in
    framed_set s.tasks (slice_set s.tasks.items (vec_len s.tasks - 1) (tasks.Running c.put.new.self)) (tasks.Running c.in-Running.frame) (tasks.Running c.put.new.self) e refl refl
