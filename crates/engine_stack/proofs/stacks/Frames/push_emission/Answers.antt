use Rattle.std.specs.List.{list_any}
use Rattle.engine_stack.specs.BuildTasks.{is_of_build}
use Rattle.std.proofs.Common.{◌≡◌, ◌∙◌, drop, false, subst, List, ◌∷◌, Vec, ap, map, refl, reverse, sym}
use Rattle.std.specs.Global.{Global}
use Rattle.g_values.specs.declared.value.Value.{Value}
use Rattle.engine_stack.specs.FirstEmissions.{emitting}
use Rattle.engine_stack.specs.TaskFrames.{args_used, registers_used}
use Rattle.engine_stack.specs.TaskView.{task_of, tasks_of}
use Rattle.engine_stack.specs.declared.emission_frames.EmissionFrame.{EmissionFrame}
use Rattle.engine_stack.specs.declared.task.Task.{Task}
use Rattle.engine_stack.specs.declared.task.Task.TheVariants as tasks
use Rattle.engine_stack.proofs.FirstPrograms.{first_of_last}
use Rattle.engine_stack.proofs.Vectors.{any_more, args_left, framed_more, known_more, stocked_more, stocked_plain}
use Rattle.engine_stack.proofs.stacks.Frames.push_emission.Goals as goal

pub keep-args-requires : goal.keep-args-requires
keep-args-requires c = let s = c.args.self.now in record { left = args_left s.tasks s.args s.emissions c.requires.room }

pub invariant_of-self-clause-programs : goal.invariant_of-self-clause-programs
invariant_of-self-clause-programs c =
    let s = c.args.self.now in
    let f : EmissionFrame = record { cursor = c.args.cursor; args = c.keep-args.result; by_event = c.args.by_event; transfers = c.args.transfers } in
    stocked_plain registers_used s.tasks c.push_reserved.new.self s.registers c.push_reserved.ensures.capacity s.programs (tasks.Emitting f) c.push_reserved.ensures.items refl

pub invariant_of-self-clause-emissions : goal.invariant_of-self-clause-emissions
invariant_of-self-clause-emissions c =
    let s = c.args.self.now in
    let k = c.keep-args in
    let f : EmissionFrame = record { cursor = c.args.cursor; args = k.result; by_event = c.args.by_event; transfers = c.args.transfers } in
    stocked_more args_used s.tasks c.push_reserved.new.self s.args c.push_reserved.ensures.capacity s.emissions (tasks.Emitting f) k.new.self c.push_reserved.ensures.items k.ensures.taken k.ensures.beside

pub returns-clause-tasks : goal.returns-clause-tasks
returns-clause-tasks c d hs =
    let s = c.args.self.now in
    let f : EmissionFrame = record { cursor = c.args.cursor; args = c.keep-args.result; by_event = c.args.by_event; transfers = c.args.transfers } in
    ap (λ (l : List Task). reverse (map (task_of d hs) l)) c.push_reserved.ensures.items
    ∙ first_of_last d hs s.tasks.items (tasks.Emitting f)
    ∙ ap (λ (v : Vec Value Global). emitting (record { walk = c.args.cursor; args = v.items; by_event = c.args.by_event; transfers = c.args.transfers }) hs ∷ tasks_of d hs s) c.keep-args.ensures.kept

pub returns-clause-begun : goal.returns-clause-begun
returns-clause-begun c last known all =
    let f : EmissionFrame = record { cursor = c.args.cursor; args = c.keep-args.result; by_event = c.args.by_event; transfers = c.args.transfers } in
    rw (c.push_reserved.ensures.items) (known_more last c.args.self.now.tasks.items (tasks.Emitting f) known all)

pub invariant_of-self-clause-above : goal.invariant_of-self-clause-above
invariant_of-self-clause-above c =
    let s = c.args.self.now in
    let f : EmissionFrame = record { cursor = c.args.cursor; args = c.keep-args.result; by_event = c.args.by_event; transfers = c.args.transfers } in
    subst (λ (l : List Task). list_any is_of_build (drop s.lowest l) ≡ false) (sym c.push_reserved.ensures.items) (any_more s.lowest s.tasks.items (tasks.Emitting f) refl s.above)

pub returns-clause-frames : goal.returns-clause-frames
returns-clause-frames c =
    let f : EmissionFrame = record { cursor = c.args.cursor; args = c.keep-args.result; by_event = c.args.by_event; transfers = c.args.transfers } in
    framed_more c.args.self.now.tasks c.push_reserved.new.self (tasks.Emitting f) refl c.push_reserved.ensures.items
