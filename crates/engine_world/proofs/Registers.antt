-- What the registers of a program hold as one is written, and the results that programs take.
use Rattle.engine_stack.specs.KnownHandlers.{AllTakeKnownHandlers}
use Rattle.engine_world.proofs.Counts.{stays, restacked}
use Rattle.std.proofs.Common.{◌≡◌, ◌∙◌, refl, ap, sym, map, option_map, reverse, IsSome, is_some, Bool, true, false, not, ℕ, ◌+◌, ◌<◌, length, List, [], ◌∷◌, Option, None, Some, Result, Ok, Err, zero, suc, arith}
use Rattle.std.specs.Prelude.{OnOk}
use Rattle.ui_machine.specs.declared.arm.Arm.TheVariants as arms
use Rattle.ui_machine.specs.Definition.{Definition}
use Rattle.ui_machine.specs.Definition.Values.{Value}
use Rattle.ui_machine.specs.Instructions.Registers.{goes_on, with_register, written_to}
use Rattle.ui_machine.specs.Instructions.{in_front}
use Rattle.ui_machine.specs.State.Config.{Started, World}
use Rattle.ui_machine.specs.Steps.{left}
use Rattle.ui_machine.specs.declared.arm.Halt.TheVariants as halts
use Rattle.ui_machine.specs.Outcome.{Answer, Stops, only_if, ◌>>=◌}
use Rattle.ui_machine.specs.Rules.Accumulation.{passed_down, received, received_by, taken}
use Rattle.ui_machine.specs.Seq.{read, total, write}
use Rattle.ui_machine.specs.State.Handlers.{Handler}
use Rattle.ui_machine.specs.State.References.{in_object, in_task, same}
use Rattle.ui_machine.specs.State.Tasks.{Frame, Registers, Running, Task}
use Rattle.ui_machine.specs.State.Objects.{Objects}
use Rattle.instance_tables.specs.Store.{Store, count_of}
use Rattle.engine_world.specs.Counting.{Counts, KeepsCounts, OnlyCounts, OnlyTasks}
use Rattle.engine_stack.specs.HeldByTasks.{in_frame}
use Rattle.engine_world.specs.Able.{Able}
use Rattle.std.proofs.lemmas.Bool.Decides.{nat_tests}
use Rattle.engine_stack.specs.FirstPrograms.{first_program}
use Rattle.engine_world.proofs.Ableness.{first, no_arm, tested}
use Rattle.engine_stack.proofs.FirstPrograms.{starts_else}
use Rattle.engine_world.proofs.Emits.{stops_on}
use Rattle.ui_machine.specs.declared.arm.Halt.{Halt}
use Rattle.engine_world.specs.View.{world_of}
use Rattle.engine_world.specs.TaskView.{agenda_of}
use Rattle.engine_stack.specs.TaskView.{task_of, tasks_of}
use Rattle.engine_world.specs.declared.engine.Engine.{Engine}
use Rattle.engine_stack.specs.declared.stacks.Frames.{Frames}
use Rattle.engine_stack.specs.declared.task.Task as code
use Rattle.engine_stack.specs.declared.task.Task.TheVariants as tasks
use Rattle.frames.specs.declared.frame.Frame as frames

-- ** registers

pub total_written : {A : Type 0} (f : Option A → ℕ) → f None ≡ 0 → (xs : List (Option A)) (i : ℕ) (x : Option A)
    → total f (write None xs i x) + f (read None xs i) ≡ total f xs + f x
total_written f none [] zero x = omega (arith, none)
total_written f none [] (suc i) x = omega (arith, none, total_written f none [] i x)
total_written f none (y ∷ xs) zero x = omega arith
total_written f none (y ∷ xs) (suc i) x = omega (arith, total_written f none xs i x)

-- a register that can be written is there
pub is_there : (to : ℕ) (v : Option Value) (rs : Registers) → Able (with_register to v rs) → to < length rs
is_there to v rs able = let inside = tested _ arms.Code (Ok (write None rs to v)) able in grind (arith, nat_tests, inside)

-- and so it is written
pub writes_there : (to : ℕ) (v : Option Value) (rs : Registers) → Able (with_register to v rs) → with_register to v rs ≡ Ok (write None rs to v)
writes_there to v rs able = ap (λ b. only_if b arms.Code (Ok (write None rs to v))) (tested _ arms.Code (Ok (write None rs to v)) able)

-- ** results

-- a program that takes one
pub receives : (f : Frame) (rest : List Task) (to : ℕ) (v : Option Value) (a : Answer Registers) → with_register to v f.registers ≡ a
    → received_by f rest to v ≡ (a >>= λ new. Ok (Running (record f { into = None; registers = new }) ∷ rest))
unfolding received_by
receives f rest to v a is = ap (λ (x : Answer Registers). x >>= λ new. Ok (Running (record f { into = None; registers = new }) ∷ rest)) is

-- a task that is none of a program takes none
pub passes_by : (d : Definition) (hs : List Handler) (t : code.Task) (rest : List Task) (v : Option Value) → ((f : frames.Frame) → t ≡ tasks.Running f → ⊥)
    → passed_down (task_of d hs t ∷ rest) v ≡ Ok (task_of d hs t ∷ rest)
passes_by d hs (tasks.Running frame) rest v other = absurd (other frame refl)
passes_by d hs (tasks.Setting id slot x) rest v other = refl
passes_by d hs (tasks.Notifying id slot) rest v other = refl
passes_by d hs (tasks.Beginning emission) rest v other = refl
passes_by d hs (tasks.Emitting emission) rest v other = refl
passes_by d hs (tasks.Thawing id slots) rest v other = refl
passes_by d hs (tasks.Constructing construction) rest v other = refl
passes_by d hs (tasks.Building place forwards) rest v other = refl
passes_by d hs (tasks.Adopting place forwards) rest v other = refl
passes_by d hs (tasks.Transferring number back) rest v other = refl
passes_by d hs (tasks.Unsetting number) rest v other = refl
passes_by d hs (tasks.Binding number) rest v other = refl
passes_by d hs (tasks.Connecting place number) rest v other = refl
passes_by d hs (tasks.Answering source) rest v other = refl
passes_by d hs (tasks.Calling call) rest v other = refl
passes_by d hs (tasks.Due source) rest v other = refl
passes_by d hs (tasks.Handling event) rest v other = refl

-- a task that is none of a program takes no answer
pub not_received : (d : Definition) (hs : List Handler) (t : code.Task) (rest : List Task) (to : ℕ) (v : Option Value) → ((f : frames.Frame) → t ≡ tasks.Running f → ⊥)
    → received (task_of d hs t ∷ rest) to v ≡ Err arms.Code
not_received d hs (tasks.Running frame) rest to v other = absurd (other frame refl)
not_received d hs (tasks.Setting id slot x) rest to v other = refl
not_received d hs (tasks.Notifying id slot) rest to v other = refl
not_received d hs (tasks.Beginning emission) rest to v other = refl
not_received d hs (tasks.Emitting emission) rest to v other = refl
not_received d hs (tasks.Thawing id slots) rest to v other = refl
not_received d hs (tasks.Constructing construction) rest to v other = refl
not_received d hs (tasks.Building place forwards) rest to v other = refl
not_received d hs (tasks.Adopting place forwards) rest to v other = refl
not_received d hs (tasks.Transferring number back) rest to v other = refl
not_received d hs (tasks.Unsetting number) rest to v other = refl
not_received d hs (tasks.Binding number) rest to v other = refl
not_received d hs (tasks.Connecting place number) rest to v other = refl
not_received d hs (tasks.Answering source) rest to v other = refl
not_received d hs (tasks.Calling call) rest to v other = refl
not_received d hs (tasks.Due source) rest to v other = refl
not_received d hs (tasks.Handling event) rest to v other = refl

-- whether a program was found, or an emission
module _ {X Y : Type 0} (g : X → Y) where
  pub none_found : (o : Option X) (p : Option Y) (b : Bool) → option_map g o ≡ p → is_some o ≡ not b → b ≡ true → p ≡ None
  none_found None p b is none so = sym is
  none_found (Some x) p true is none so = absurd (cc none)
  none_found (Some x) p false is none so = absurd (cc so)

  pub some_found : (o : Option X) (p : Option Y) (b : Bool) → option_map g o ≡ p → is_some o ≡ not b → b ≡ false → IsSome p
  some_found None p true is none so = absurd (cc so)
  some_found None p false is none so = absurd (cc none)
  some_found (Some x) p b is none so = ap (λ (o : Option Y). is_some o) (sym is)

-- where no program is the first of some tasks
module _ (d : Definition) (hs : List Handler) (v : Option Value) where
  -- none takes a result
  pub none_waits : (items : List code.Task) → first_program items ≡ None
      → passed_down (reverse (map (task_of d hs) items)) v ≡ Ok (reverse (map (task_of d hs) items))
  none_waits [] none = refl
  none_waits (x ∷ xs) none =
      let s = starts_else d hs x xs none in
      ap (λ (ts : List Task). passed_down ts v) s.first ∙ passes_by d hs s.task s.behind v s.other ∙ ap (λ (ts : List Task). Ok ts) (sym s.first)

  -- and none an answer
  pub waits_there : (items : List code.Task) (to : ℕ) → Able (received (reverse (map (task_of d hs) items)) to v) → IsSome (first_program items)
  waits_there items to able = by (first_program items) refl
    where
      none_there : (items : List code.Task) → first_program items ≡ None → received (reverse (map (task_of d hs) items)) to v ≡ Err arms.Code
      none_there [] none = refl
      none_there (x ∷ xs) none =
          let s = starts_else d hs x xs none in
          ap (λ (ts : List Task). received ts to v) s.first ∙ not_received d hs s.task s.behind to v s.other

      by : (o : Option frames.Frame) → first_program items ≡ o → IsSome (first_program items)
      by None is = absurd (no_arm _ _ able (none_there items is))
      by (Some f) is = ap (λ (o : Option frames.Frame). is_some o) is

-- ** counts

-- the rest of a program goes on to hold what its registers name
pub pushed_frame : (d : Definition) (e : Engine) (s : Frames) (taken : ℕ → ℕ) (f : Frame) → tasks_of d e.world.handlers.handlers s ≡ Running f ∷ agenda_of d e
    → ((last : ℕ) → AllTakeKnownHandlers last e.stack → AllTakeKnownHandlers last s) → Counts d (λ o. taken o + in_frame o f) e → Counts d taken (record e { stack = s })
pushed_frame d e s taken f first begun h = record {
  knows = h.knows;
  links = h.links;
  passes = h.passes;
  connects = restacked d e s begun h.connects;
  exact = λ o. omega (arith, h.exact o, ap (λ (ts : List Task). total (in_task o) ts) first);
}

-- nothing of the world but counts differs
pub tasks_world : (e b : Engine) → OnlyTasks e b → world_of b.world ≡ world_of e.world
tasks_world e b only =
    ap (λ (x : Engine). world_of x.world) only.beside
    ∙ ap (λ (os : Objects). record (world_of e.world) { objects = os; floating = b.world.table.floating }) only.table.objects
    ∙ ap (λ floating. record (world_of e.world) { floating = floating }) only.table.floating

-- a register that was written: it holds the new, and the old was let go
pub register_moved : (d : Definition) (e : Engine) (t : Store) (taken before after : ℕ → ℕ) → OnlyCounts e.world.table t
    → ((o : ℕ) → count_of t.counts o + before o ≡ count_of e.world.table.counts o + after o)
    → Counts d (λ o. taken o + before o) e → Counts d (λ o. taken o + after o) (record e { world = record e.world { table = t } })
register_moved d e t taken before after only counts h = record {
  knows = h.knows;
  links = h.links;
  passes = h.passes;
  connects = stays d e _ refl refl h.connects;
  exact = λ o.
      let objects : total (in_object d o) t.objects ≡ total (in_object d o) e.world.table.objects = ap (total (in_object d o)) only.objects in
      let floats : total (same o) t.floating ≡ total (same o) e.world.table.floating = ap (total (same o)) only.floating in
      omega (arith, objects, floats, counts o, h.exact o);
}

-- what stops the write stops the program
-- a register is there where the program is not stuck that takes a result
pub receives_able : (f : Frame) (rest : List Task) (to : ℕ) (v : Option Value) → Able (received_by f rest to v) → Able (with_register to v f.registers)
unfolding received_by
receives_able f rest to v able = first (with_register to v f.registers) (λ new. Ok (Running (record f { into = None; registers = new }) ∷ rest)) able

-- whatever tasks there are behind it
pub takes_able : (f : Frame) (rest : List Task) (v : Option Value) → Able (passed_down (Running f ∷ rest) v) → Able (taken f.into f [] v)
unfolding received_by
takes_able f rest v able = by f.into v able
  where
    of : (a : Answer Registers) → Able (a >>= λ new. Ok (Running (record f { into = None; registers = new }) ∷ rest)) → Able (a >>= λ new. Ok (Running (record f { into = None; registers = new }) ∷ []))
    of (Ok new) may = tt
    of (Err arm) may = may

    by : (into : Option ℕ) (v : Option Value) → Able (taken into f rest v) → Able (taken into f [] v)
    by None v may = tt
    by (Some to) None may = may
    by (Some to) (Some x) may = of (with_register to (Some x) f.registers) may

-- other tasks that hold the same
pub stack_same : (d : Definition) (e : Engine) (s : Frames) → tasks_of d e.world.handlers.handlers s ≡ agenda_of d e
    → ((last : ℕ) → AllTakeKnownHandlers last e.stack → AllTakeKnownHandlers last s) → KeepsCounts d e (record e { stack = s })
stack_same d e s same_tasks begun = record {
  at = λ taken h. record {
    knows = h.knows;
    links = h.links;
    passes = h.passes;
    connects = restacked d e s begun h.connects;
    exact = λ o. omega (arith, h.exact o, ap (λ (ts : List Task). total (in_task o) ts) same_tasks);
  };
}

-- other tasks by which as much is held
pub stack_same_held : (d : Definition) (e : Engine) (s : Frames) → ((o : ℕ) → total (in_task o) (tasks_of d e.world.handlers.handlers s) ≡ total (in_task o) (agenda_of d e))
    → ((last : ℕ) → AllTakeKnownHandlers last e.stack → AllTakeKnownHandlers last s) → (taken : ℕ → ℕ) → Counts d taken e → Counts d taken (record e { stack = s })
stack_same_held d e s held begun taken h = record {
  knows = h.knows;
  links = h.links;
  passes = h.passes;
  connects = restacked d e s begun h.connects;
  exact = λ o. omega (arith, h.exact o, held o);
}

-- a program that was taken off
pub popped_frame : (d : Definition) (e : Engine) (s : Frames) (taken : ℕ → ℕ) (f : Frame) → agenda_of d e ≡ Running f ∷ tasks_of d e.world.handlers.handlers s
    → ((last : ℕ) → AllTakeKnownHandlers last e.stack → AllTakeKnownHandlers last s) → Counts d taken e → Counts d (λ o. taken o + in_frame o f) (record e { stack = s })
popped_frame d e s taken f first begun h = record {
  knows = h.knows;
  links = h.links;
  passes = h.passes;
  connects = restacked d e s begun h.connects;
  exact = λ o. omega (arith, h.exact o, ap (λ (ts : List Task). total (in_task o) ts) first);
}

pub on_ok : {A E P Q : Type 0} (r : Result A E) → (P → Q) → OnOk r P → OnOk r Q
on_ok (Ok x) f p = f p
on_ok (Err e) f p = tt

-- ** a register that an instruction writes

pub write_stops : (w : World) (f : Frame) (to : ℕ) (v : Option Value) (halt : Halt) → Stops halt (with_register to v f.registers) → Stops halt (written_to w to v f)
unfolding written_to
write_stops w f to v halt s = stops_on halt (with_register to v f.registers) (λ registers. goes_on w [] (record f { registers = registers })) s

pub writes_register : (w : World) (f : Frame) (to : ℕ) (v : Option Value) (rs : Registers) → with_register to v f.registers ≡ Ok rs → written_to w to v f ≡ goes_on w [] (record f { registers = rs })
unfolding written_to
writes_register w f to v rs is = ap (λ (a : Answer Registers). a >>= λ registers. goes_on w [] (record f { registers = registers })) is

pub stops_left : (n : ℕ) (rest : List Task) (a : Answer Started) (halt : Halt) → Stops halt a → Stops halt (left n (in_front rest a))
unfolding left in_front
stops_left n rest a halts.OutOfMemory s = tt
stops_left n rest a (halts.Stuck arm) s = ap (λ (x : Answer Started). left n (in_front rest x)) s

-- nothing but counts differs
pub table_world : (e : Engine) (t : Store) → OnlyCounts e.world.table t → world_of (record e.world { table = t }) ≡ world_of e.world
table_world e t only =
    ap (λ (os : Objects). record (world_of e.world) { objects = os; floating = t.floating }) only.objects
    ∙ ap (λ floating. record (world_of e.world) { floating = floating }) only.floating

-- a program that goes on in this world is all that is put in front
pub going_left : (n : ℕ) (rest : List Task) (a : Answer Started) (w : World) (f : Frame) (world' : World) (agenda' : List Task) (counted' : ℕ) → a ≡ goes_on w [] f
    → world' ≡ w → agenda' ≡ Running f ∷ rest → counted' ≡ n → left n (in_front rest a) ≡ Ok (record { world = world'; agenda = agenda'; counted = counted' })
unfolding left in_front
going_left n rest a w f world' agenda' counted' is world agenda count = ap (λ (x : Answer Started). left n (in_front rest x)) is ∙ rw (world, agenda, count) refl
