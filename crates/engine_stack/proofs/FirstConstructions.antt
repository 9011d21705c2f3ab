-- A construction that is the first task goes on in its place.
use Rattle.std.proofs.Common.{◌≡◌, ◌-◌, IsSome, is_some, vec_len, List, [], ◌∷◌, ◌++◌, drop, slice_set, Option, Some, ap, sym, ◌∙◌}
use Rattle.ui_machine.specs.Definition as machine
use Rattle.ui_machine.specs.State.Handlers.{Handler}
use Rattle.engine_stack.specs.FirstConstructions.{Constructed, IsReconstructed, constructed_in, constructed_of, constructing_task, construction_in, first_construction, stack_construction}
use Rattle.engine_stack.specs.TaskView.{tasks_of}
use Rattle.engine_stack.specs.declared.construction_frames.ConstructionFrame.{ConstructionFrame}
use Rattle.engine_stack.specs.declared.stacks.Frames.{Frames}
use Rattle.engine_stack.specs.declared.task.Task.{Task}
use Rattle.engine_stack.specs.declared.task.Task.TheVariants as tasks
use Rattle.engine_stack.proofs.FirstPrograms.{Ending, begun_written, found, found_written, last_gives, last_has, starts_by, tasks_written}

-- ** the first construction

is_constructing : (t : Task) (f : ConstructionFrame) → construction_in t ≡ Some f → t ≡ tasks.Constructing f
is_constructing (tasks.Constructing g) f is = let same : g ≡ f = cc is in ap (λ x. tasks.Constructing x) same
is_constructing (tasks.Setting id slot v) f is = absurd (cc is)
is_constructing (tasks.Notifying id slot) f is = absurd (cc is)
is_constructing (tasks.Beginning e) f is = absurd (cc is)
is_constructing (tasks.Emitting emission) f is = absurd (cc is)
is_constructing (tasks.Running frame) f is = absurd (cc is)
is_constructing (tasks.Transferring number back) f is = absurd (cc is)
is_constructing (tasks.Unsetting number) f is = absurd (cc is)
is_constructing (tasks.Thawing id slots) f is = absurd (cc is)
is_constructing (tasks.Building place forwards) f is = absurd (cc is)
is_constructing (tasks.Adopting place forwards) f is = absurd (cc is)
is_constructing (tasks.Binding number) f is = absurd (cc is)
is_constructing (tasks.Connecting place number) f is = absurd (cc is)
is_constructing (tasks.Answering source) f is = absurd (cc is)
is_constructing (tasks.Calling call) f is = absurd (cc is)
is_constructing (tasks.Handling event) f is = absurd (cc is)
is_constructing (tasks.Due source) f is = absurd (cc is)

-- the construction of a frame that was found
pub construction_found : (s : Frames) (f : ConstructionFrame) → first_construction s.tasks.items ≡ Some f → stack_construction s ≡ constructed_of f
unfolding stack_construction
construction_found s f is = ap (λ (o : Option ConstructionFrame). constructed_in o) is

-- a stack whose first task is a construction
pub starts : (d : machine.Definition) (hs : List Handler) (s : Frames) → IsSome (first_construction s.tasks.items)
    → tasks_of d hs s ≡ constructing_task (stack_construction s) ∷ drop 1 (tasks_of d hs s)
starts d hs s some =
    let f = found (first_construction s.tasks.items) some in
    let last = last_has construction_in s.tasks.items f.0 f.1 in
    starts_by d hs s last.front (tasks.Constructing f.0) (last.whole ∙ ap (λ (t : Task). last.front ++ t ∷ []) (is_constructing last.task f.0 last.has))
    ∙ ap (λ (c : Constructed). constructing_task c ∷ drop 1 (tasks_of d hs s)) (sym (construction_found s f.0 f.1))

-- ** a construction that goes on in its place

pub constructed_last : (s : Frames) (was : ConstructionFrame) → Ending (vec_len s.tasks) s.tasks.items (tasks.Constructing was) → stack_construction s ≡ constructed_of was
constructed_last s was e = construction_found s was (last_gives construction_in e.front s.tasks.items (tasks.Constructing was) e.whole)

module _ (s new : Frames) (was now : ConstructionFrame) (e : Ending (vec_len s.tasks) s.tasks.items (tasks.Constructing was))
    (is : new.tasks.items ≡ slice_set s.tasks.items (vec_len s.tasks - 1) (tasks.Constructing now)) where
  construction_now : first_construction new.tasks.items ≡ Some now
  construction_now = found_written s (tasks.Constructing was) (tasks.Constructing now) e new is construction_in

  pub constructed_now : stack_construction new ≡ constructed_of now
  constructed_now = construction_found new now construction_now

  pub reconstructed : IsReconstructed s new
  reconstructed = record {
    first = ap (λ (o : Option ConstructionFrame). is_some o) construction_now;
    tasks = λ d hs. tasks_written s (tasks.Constructing was) (tasks.Constructing now) e new is d hs ∙ ap (λ (c : Constructed). constructing_task c ∷ drop 1 (tasks_of d hs s)) (sym constructed_now);
    begun = λ last begun. begun_written s (tasks.Constructing was) (tasks.Constructing now) e new is last tt begun;
  }
