use Rattle.std.proofs.Common.{◌≡◌, List, drop, false, subst, sym}
use Rattle.std.specs.List.{list_any}
use Rattle.engine_stack.specs.BuildTasks.{is_of_build}
use Rattle.engine_stack.specs.TaskFrames.{args_used, registers_used}
use Rattle.engine_stack.specs.declared.task.Task.{Task}
use Rattle.engine_stack.proofs.ListedFrames.{pushed}
use Rattle.engine_stack.proofs.Vectors.{any_more, args_left, framed_most, registers_left, stocked_more}
use Rattle.engine_stack.proofs.stacks.Frames.push.Goals as goal

pub framed_task-task-requires-clause-registers : goal.framed_task-task-requires-clause-registers
framed_task-task-requires-clause-registers c = let s = c.args.self.now in registers_left s.tasks s.registers s.programs c.requires.places

pub framed_task-task-requires-clause-args : goal.framed_task-task-requires-clause-args
framed_task-task-requires-clause-args c = let s = c.args.self.now in args_left s.tasks s.args s.emissions c.requires.places

pub invariant_of-self-clause-programs : goal.invariant_of-self-clause-programs
invariant_of-self-clause-programs c =
    let s = c.args.self.now in
    let t = c.framed_task-task in
    stocked_more registers_used s.tasks c.push_reserved.new.self s.registers c.push_reserved.ensures.capacity s.programs t.result t.new.registers c.push_reserved.ensures.items
    t.ensures.registers.0 t.ensures.registers.1

pub invariant_of-self-clause-emissions : goal.invariant_of-self-clause-emissions
invariant_of-self-clause-emissions c =
    let s = c.args.self.now in
    let t = c.framed_task-task in
    stocked_more args_used s.tasks c.push_reserved.new.self s.args c.push_reserved.ensures.capacity s.emissions t.result t.new.args c.push_reserved.ensures.items
    t.ensures.args.0 t.ensures.args.1

pub invariant_of-self-clause-above : goal.invariant_of-self-clause-above
invariant_of-self-clause-above c =
    let s = c.args.self.now in
    let t = c.framed_task-task in
    subst (λ (l : List Task). list_any is_of_build (drop s.lowest l) ≡ false) (sym c.push_reserved.ensures.items)
    (any_more s.lowest s.tasks.items t.result t.ensures.other s.above)

pub returns-clause-pushed : goal.returns-clause-pushed
returns-clause-pushed c =
    let t = c.framed_task-task in
    pushed c.args.self.now.tasks.items c.push_reserved.new.self.items t.result _ c.push_reserved.ensures.items t.ensures.listed

pub returns-clause-frames : goal.returns-clause-frames
returns-clause-frames c = framed_most c.args.self.now.tasks c.push_reserved.new.self c.framed_task-task.result c.push_reserved.ensures.items
