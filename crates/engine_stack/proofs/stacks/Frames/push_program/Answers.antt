use Rattle.std.specs.List.{list_any}
use Rattle.engine_stack.specs.BuildTasks.{is_of_build}
use Rattle.std.proofs.Common.{◌≡◌, ◌∙◌, ℕ, drop, false, subst, List, ◌∷◌, Option, Vec, cond, nat_eq, vec_capacity, ap, map, refl, reverse, sym, arith}
use Rattle.std.specs.Global.{Global}
use Rattle.ui_machine.specs.State.Tasks as config
use Rattle.bytecode.specs.Computing.{registers_of}
use Rattle.g_values.specs.declared.value.Value.{Value}
use Rattle.engine_stack.specs.TaskFrames.{args_used, registers_used}
use Rattle.engine_stack.specs.TaskView.{task_of, tasks_of}
use Rattle.engine_stack.specs.declared.task.Task.{Task}
use Rattle.engine_stack.specs.declared.task.Task.TheVariants as tasks
use Rattle.engine_stack.proofs.FirstPrograms.{first_of_last}
use Rattle.engine_stack.proofs.Vectors.{any_more, framed_more, known_more, registers_left, stocked_more, stocked_plain}
use Rattle.engine_stack.proofs.stacks.Frames.push_program.Goals as goal

pub keep-registers-requires : goal.keep-registers-requires
keep-registers-requires c = let s = c.args.self.now in record { left = registers_left s.tasks s.registers s.programs c.requires.room }

pub new-frame-requires : goal.new-frame-requires
new-frame-requires c = record {
  room = (let same = ap (λ (v : Vec (Option Value) Global). vec_capacity v) c.keep-registers.ensures.kept in omega (arith, c.requires.list, same));
}

pub invariant_of-self-clause-programs : goal.invariant_of-self-clause-programs
invariant_of-self-clause-programs c =
    let s = c.args.self.now in
    let f = c.new-frame.result in
    let k = c.keep-registers in
    let had = ap {B = ℕ} (λ n. cond (nat_eq n s.registers.room) 1 0) c.new-frame.ensures.room in
    stocked_more registers_used s.tasks c.push_reserved.new.self s.registers c.push_reserved.ensures.capacity s.programs (tasks.Running f) k.new.self c.push_reserved.ensures.items
    (omega (arith, k.ensures.taken, had)) k.ensures.beside

pub invariant_of-self-clause-emissions : goal.invariant_of-self-clause-emissions
invariant_of-self-clause-emissions c =
    let s = c.args.self.now in
    stocked_plain args_used s.tasks c.push_reserved.new.self s.args c.push_reserved.ensures.capacity s.emissions (tasks.Running c.new-frame.result) c.push_reserved.ensures.items refl

pub returns-clause-tasks : goal.returns-clause-tasks
returns-clause-tasks c d hs args same =
    let s = c.args.self.now in
    ap (λ (l : List Task). reverse (map (task_of d hs) l)) c.push_reserved.ensures.items
    ∙ first_of_last d hs s.tasks.items (tasks.Running c.new-frame.result)
    ∙ ap (λ (f : config.Frame). config.Running f ∷ tasks_of d hs s)
    (c.new-frame.ensures.frame args (ap (λ (v : Vec (Option Value) Global). registers_of v.items) c.keep-registers.ensures.kept ∙ same))

pub returns-clause-begun : goal.returns-clause-begun
returns-clause-begun c last all = rw (c.push_reserved.ensures.items) (known_more last c.args.self.now.tasks.items (tasks.Running c.new-frame.result) tt all)

pub invariant_of-self-clause-above : goal.invariant_of-self-clause-above
invariant_of-self-clause-above c =
    let s = c.args.self.now in
    subst (λ (l : List Task). list_any is_of_build (drop s.lowest l) ≡ false) (sym c.push_reserved.ensures.items) (any_more s.lowest s.tasks.items (tasks.Running c.new-frame.result) refl s.above)

pub returns-clause-frames : goal.returns-clause-frames
returns-clause-frames c = framed_more c.args.self.now.tasks c.push_reserved.new.self (tasks.Running c.new-frame.result) refl c.push_reserved.ensures.items
