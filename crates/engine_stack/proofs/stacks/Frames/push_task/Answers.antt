use Rattle.std.proofs.Common.{◌≡◌, ◌∙◌, List, drop, false, subst, sym}
use Rattle.std.specs.List.{list_any}
use Rattle.engine_stack.specs.BuildTasks.{is_of_build}
use Rattle.engine_stack.specs.declared.task.Task.{Task}
use Rattle.engine_stack.specs.TaskFrames.{args_used, registers_used}
use Rattle.engine_stack.proofs.Vectors.{any_more, any_none, framed_plain, no_args, no_registers, stocked_plain}
use Rattle.engine_stack.proofs.stacks.Frames.push_task.Goals as goal

pub invariant_of-self-clause-programs : goal.invariant_of-self-clause-programs
invariant_of-self-clause-programs c =
    let s = c.args.self.now in
    let t = c.args.task in
    stocked_plain registers_used s.tasks c.push_reserved.new.self s.registers c.push_reserved.ensures.capacity s.programs t c.push_reserved.ensures.items (no_registers s.registers.room t c.requires.frameless.program)

pub invariant_of-self-clause-emissions : goal.invariant_of-self-clause-emissions
invariant_of-self-clause-emissions c =
    let s = c.args.self.now in
    let t = c.args.task in
    stocked_plain args_used s.tasks c.push_reserved.new.self s.args c.push_reserved.ensures.capacity s.emissions t c.push_reserved.ensures.items (no_args s.args.room t c.requires.frameless.emission)

pub invariant_of-self-else-is_of_build-clause-programs : goal.invariant_of-self-else-is_of_build-clause-programs
invariant_of-self-else-is_of_build-clause-programs c =
    let s = c.args.self.now in
    let t = c.args.task in
    stocked_plain registers_used s.tasks c.push_reserved.new.self s.registers c.push_reserved.ensures.capacity s.programs t c.push_reserved.ensures.items (no_registers s.registers.room t c.requires.frameless.program)

pub invariant_of-self-else-is_of_build-clause-emissions : goal.invariant_of-self-else-is_of_build-clause-emissions
invariant_of-self-else-is_of_build-clause-emissions c =
    let s = c.args.self.now in
    let t = c.args.task in
    stocked_plain args_used s.tasks c.push_reserved.new.self s.args c.push_reserved.ensures.capacity s.emissions t c.push_reserved.ensures.items (no_args s.args.room t c.requires.frameless.emission)

pub invariant_of-self-clause-above : goal.invariant_of-self-clause-above
invariant_of-self-clause-above c = any_none c.len-self.result c.push_reserved.new.self.items (c.len-self.ensures ∙ c.push_reserved.new.self.ok.0)

pub invariant_of-self-else-is_of_build-clause-above : goal.invariant_of-self-else-is_of_build-clause-above
invariant_of-self-else-is_of_build-clause-above c =
    let s = c.args.self.now in
    subst (λ (l : List Task). list_any is_of_build (drop s.lowest l) ≡ false) (sym c.push_reserved.ensures.items)
    (any_more s.lowest s.tasks.items c.args.task (sym c.is_of_build-is_of_build.ensures ∙ c.if-is_of_build.false) s.above)

pub returns-then-is_of_build-clause-frames : goal.returns-then-is_of_build-clause-frames
returns-then-is_of_build-clause-frames c = framed_plain c.args.self.now.tasks c.push_reserved.new.self c.args.task c.requires.frameless c.push_reserved.ensures.items

pub returns-else-is_of_build-clause-frames : goal.returns-else-is_of_build-clause-frames
returns-else-is_of_build-clause-frames c = framed_plain c.args.self.now.tasks c.push_reserved.new.self c.args.task c.requires.frameless c.push_reserved.ensures.items
