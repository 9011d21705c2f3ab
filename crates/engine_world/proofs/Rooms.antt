-- Room for what is held: no count comes to its end.
use Rattle.std.proofs.Common.{◌≡◌, ℕ, ◌+◌, ◌-◌, ◌*◌, ◌<◌, ◌≤◌, ◌^◌, ◌&&◌, Bool, List, [], ◌∷◌, ◌++◌, true, false, is_some, length, map, nat_lt, reverse, Option, Some, None, IsSome, refl, sym, ap, ◌∙◌, Vec, vec_len, arith}
use Rattle.std.proofs.lemmas.Bool.Decides.{nat_tests}
use Rattle.std.proofs.lemmas.List.{length-map, length-reverse, reverse-append}
use Rattle.std.specs.Option.{option_map}
use Rattle.ui_machine.specs.Definition as machine
use Rattle.ui_machine.specs.Definition.Values as values
use Rattle.ui_machine.specs.Seq.{total}
use Rattle.ui_machine.specs.State.Config as config
use Rattle.ui_machine.specs.State.Handlers.{Handler}
use Rattle.ui_machine.specs.State.Objects.{living}
use Rattle.ui_machine.specs.State.References.{in_held, in_object, in_option, in_register, in_source, in_task, in_value, same}
use Rattle.std.specs.Global.{Global}
use Rattle.g_values.specs.declared.value.Value.{Value}
use Rattle.g_values.specs.View.{value_view}
use Rattle.bytecode.specs.Computing.{registers_of}
use Rattle.law_typing.specs.Good.Agenda.{frames, is_frame}
use Rattle.instance_tables.proofs.Few.{same_most, value_most}
use Rattle.instance_tables.specs.Store.{Store, count_of, may_hold}
use Rattle.engine_stack.proofs.Lists.{total-append}
use Rattle.frames.specs.FrameView.{frame_view}
use Rattle.frames.specs.declared.frame.Frame.{Frame}
use Rattle.engine_world.specs.Counting.{Counts, IsCounted}
use Rattle.engine_stack.specs.HeldByTasks.{in_frame}
use Rattle.engine_stack.specs.TaskFrames.{framed, is_framed}
use Rattle.engine_world.specs.TaskView.{agenda_of, task_in}
use Rattle.engine_stack.specs.TaskView.{task_of, tasks_of}
use Rattle.engine_world.specs.View.{held_of}
use Rattle.engine_world.specs.declared.engine.Engine.{Engine}
use Rattle.engine_stack.specs.declared.stacks.Frames.{Frames}
use Rattle.engine_stack.specs.declared.task.Task.{Task}
use Rattle.engine_stack.specs.declared.task.Task.TheVariants as tasks

-- ** sums

-- where each counts at most once, no more than there are
total_ones : {A : Type 0} (f : A → ℕ) → ((x : A) → f x ≤ 1) → (xs : List A) → total f xs ≤ length xs
total_ones f one [] = omega arith
total_ones f one (x ∷ xs) = omega (arith, one x, total_ones f one xs)

-- where each counts at most 2^63 + 1 times
total_tasks : {A : Type 0} (f : A → ℕ) → ((x : A) → f x ≤ 9223372036854775809) → (xs : List A)
    → total f xs ≤ length xs * 9223372036854775809
total_tasks f most [] = omega arith
total_tasks f most (x ∷ xs) = omega (arith, most x, total_tasks f most xs)

total_mapped : {A B : Type 0} (f : B → ℕ) (g : A → B) (xs : List A) → total f (map g xs) ≡ total (λ x. f (g x)) xs
total_mapped f g [] = refl
total_mapped f g (x ∷ xs) = ap (λ n. f (g x) + n) (total_mapped f g xs)

total_reversed : {A : Type 0} (f : A → ℕ) (xs : List A) → total f (reverse xs) ≡ total f xs
total_reversed f [] = refl
total_reversed f (x ∷ xs) =
    let split : total f (reverse xs ++ x ∷ []) ≡ total f (reverse xs) + total f (x ∷ []) = total-append f (reverse xs) (x ∷ []) in
    ap (total f) (reverse-append (x ∷ []) xs) ∙ omega (arith, split, total_reversed f xs)

-- ** what tasks hold

pub register_most : (o : ℕ) (r : Option values.Value) → in_register o r ≤ 1
register_most o None = omega arith
register_most o (Some v) = value_most o v

option_most : (o : ℕ) (i : Option ℕ) → in_option o i ≤ 1
option_most o None = omega arith
option_most o (Some i) = same_most o i

held_most : (o : ℕ) (h : config.BuilderEntry) → in_held o h ≤ 1
held_most o config.unbuilt = omega arith
held_most o (config.built i) = same_most o i
held_most o config.released = omega arith

-- a task of the engine holds an object at most 2^63 + 1 times: its lists are no longer than memory
pub task_most : (d : machine.Definition) (hs : List Handler) (o : ℕ) (t : Task) → in_task o (task_of d hs t) ≤ 9223372036854775809
task_most d hs o (tasks.Setting id slot v) = omega (arith, same_most o id.0)
task_most d hs o (tasks.Notifying id slot) = omega (arith, same_most o id.0)
task_most d hs o (tasks.Beginning e) =
    omega (
      arith,
      same_most o e.object.0,
      total_ones (in_value o) (value_most o) (map value_view e.args.items),
      length-map e.args.items value_view,
      e.args.ok.0,
      e.args.ok.1,
      e.args.small,
    )
task_most d hs o (tasks.Emitting f) =
    omega (
      arith,
      same_most o f.cursor.object,
      register_most o f.cursor.value,
      total_ones (in_value o) (value_most o) (map value_view f.args.items),
      length-map f.args.items value_view,
      f.args.ok.0,
      f.args.ok.1,
      f.args.small,
    )
task_most d hs o (tasks.Running frame) =
    omega (
      arith,
      total_ones (in_register o) (register_most o) (registers_of frame.registers.items),
      length-map frame.registers.items (option_map value_view),
      frame.registers.ok.0,
      frame.registers.ok.1,
      frame.registers.small,
    )
task_most d hs o (tasks.Thawing id slots) = omega (arith, same_most o id.0)
task_most d hs o (tasks.Constructing f) = omega (arith, same_most o f.object.0)
task_most d hs o (tasks.Building place forwards) = omega arith
task_most d hs o (tasks.Adopting place forwards) = omega arith
task_most d hs o (tasks.Transferring number back) = omega arith
task_most d hs o (tasks.Unsetting number) = omega arith
task_most d hs o (tasks.Binding number) = omega arith
task_most d hs o (tasks.Connecting place number) = omega arith
task_most d hs o (tasks.Answering source) = omega arith
task_most d hs o (tasks.Calling call) =
    omega (
      arith,
      same_most o call.object.0,
      total_ones (in_value o) (value_most o) (map value_view call.args.items),
      length-map call.args.items value_view,
      call.args.ok.0,
      call.args.ok.1,
      call.args.small,
    )
task_most d hs o (tasks.Due source) = omega arith
task_most d hs o (tasks.Handling event) = omega arith

-- the same of registers that a program is given
pub registers_most : (o : ℕ) (rs : Vec (Option Value) Global) → total (in_register o) (registers_of rs.items) ≤ 2 ^ 64
registers_most o rs =
    omega (arith, total_ones (in_register o) (register_most o) (registers_of rs.items), length-map rs.items (option_map value_view), rs.ok.0, rs.ok.1, rs.small)

-- so a task that was taken off adds little to what is counted
pub task_counted : (d : machine.Definition) (e : Engine) (t : Task) → Counts d (λ o. in_task o (task_in d e t)) e → IsCounted d e
task_counted d e t h = record { taken = λ o. in_task o (task_in d e t); counts = h; little = λ o. omega (arith, task_most d e.world.handlers.handlers o t) }

-- so does the rest of a program
pub frame_counted : (d : machine.Definition) (e : Engine) (f : Frame) → Counts d (λ o. in_frame o (frame_view f)) e → IsCounted d e
frame_counted d e f h = record { taken = λ o. in_frame o (frame_view f); counts = h; little = λ o. omega (arith, task_most d e.world.handlers.handlers o (tasks.Running f)) }

agenda_most : (d : machine.Definition) (hs : List Handler) (s : Frames) (o : ℕ)
    → total (in_task o) (tasks_of d hs s) ≤ length s.tasks.items * 9223372036854775809
agenda_most d hs s o =
    omega (
      arith,
      total_reversed (in_task o) (map (task_of d hs) s.tasks.items),
      total_mapped (in_task o) (task_of d hs) s.tasks.items,
      total_tasks (λ t. in_task o (task_of d hs t)) (task_most d hs o) s.tasks.items,
    )

-- as many tasks are left as lie in the stack
pub tasks_counted : (d : machine.Definition) (hs : List Handler) (s : Frames) → length (tasks_of d hs s) ≡ vec_len s.tasks
tasks_counted d hs s = length-reverse (map (task_of d hs) s.tasks.items) ∙ length-map s.tasks.items (task_of d hs) ∙ sym s.tasks.ok.0

-- each program and each emission among them is a frame
framed_is_frame : (d : machine.Definition) (hs : List Handler) (t : Task) → is_framed t ≤ is_frame (task_of d hs t)
framed_is_frame d hs (tasks.Setting id slot v) = omega arith
framed_is_frame d hs (tasks.Notifying id slot) = omega arith
framed_is_frame d hs (tasks.Beginning e) = omega arith
framed_is_frame d hs (tasks.Emitting f) = omega arith
framed_is_frame d hs (tasks.Running frame) = omega arith
framed_is_frame d hs (tasks.Thawing id slots) = omega arith
framed_is_frame d hs (tasks.Constructing f) = omega arith
framed_is_frame d hs (tasks.Building place forwards) = omega arith
framed_is_frame d hs (tasks.Adopting place forwards) = omega arith
framed_is_frame d hs (tasks.Transferring number back) = omega arith
framed_is_frame d hs (tasks.Unsetting number) = omega arith
framed_is_frame d hs (tasks.Binding number) = omega arith
framed_is_frame d hs (tasks.Connecting place number) = omega arith
framed_is_frame d hs (tasks.Answering source) = omega arith
framed_is_frame d hs (tasks.Calling call) = omega arith
framed_is_frame d hs (tasks.Due source) = omega arith
framed_is_frame d hs (tasks.Handling event) = omega arith

total_framed : (d : machine.Definition) (hs : List Handler) (ts : List Task) → total is_framed ts ≤ total (λ t. is_frame (task_of d hs t)) ts
total_framed d hs [] = omega arith
total_framed d hs (t ∷ ts) = omega (arith, framed_is_frame d hs t, total_framed d hs ts)

pub frames_few : (d : machine.Definition) (hs : List Handler) (s : Frames) → framed s.tasks ≤ frames (tasks_of d hs s)
frames_few d hs s =
    omega (
      arith,
      total_framed d hs s.tasks.items,
      total_mapped is_frame (task_of d hs) s.tasks.items,
      total_reversed is_frame (map (task_of d hs) s.tasks.items),
    )

-- ** all that holds an object

module _ (d : machine.Definition) (taken : ℕ → ℕ) (e : Engine)
    (few : (d : machine.Definition) (o : ℕ) → total (in_object d o) e.world.table.objects + total (same o) e.world.table.floating ≤ 2 ^ 127)
    (sources : length e.world.context.sources ≤ 256) (counts : Counts d taken e) (o : ℕ) (little : taken o ≤ 2 ^ 64) where
  -- where each object is counted as often as it is mentioned, it may be held so often more
  pub room_left : count_of e.world.table.counts o + 2 ^ 64 < 2 ^ 128
  room_left =
      let built : total (in_held o) (map held_of e.world.builder.items) ≤ length (map held_of e.world.builder.items) =
      total_ones (in_held o) (held_most o) (map held_of e.world.builder.items) in
      let agenda : total (in_task o) (agenda_of d e) ≤ length e.stack.tasks.items * 9223372036854775809 =
      agenda_most d e.world.handlers.handlers e.stack o in
      let attached : total (in_source o) e.world.context.sources ≤ length e.world.context.sources =
      total_ones (in_source o) (λ s. option_most o s.arg) e.world.context.sources in
      omega (
        arith,
        counts.exact o,
        little,
        few d o,
        built,
        length-map e.world.builder.items held_of,
        e.world.builder.ok.0,
        e.world.builder.ok.1,
        e.world.builder.small,
        attached,
        sources,
        agenda,
        e.stack.tasks.ok.0,
        e.stack.tasks.ok.1,
        e.stack.tasks.small,
      )

  -- so that what lives may be held once more
  pub has_room : IsSome (living e.world.table.objects o) → may_hold e.world.table o ≡ true
  has_room lives =
      let small : count_of e.world.table.counts o < 340282366920938463463374607431768211455 = omega (arith, room_left) in
      let fits : nat_lt (count_of e.world.table.counts o) 340282366920938463463374607431768211455 ≡ true = grind (arith, nat_tests) in
      rw (lives, fits) refl

-- what may be held is not held as often as may be
pub held_room : (t : Store) (id : ℕ) → may_hold t id ≡ true → count_of t.counts id < 2 ^ 128 - 1
held_room t id may = by (is_some (living t.objects id)) may
  where
    by : (lives : Bool) → lives && nat_lt (count_of t.counts id) 340282366920938463463374607431768211455 ≡ true → count_of t.counts id < 2 ^ 128 - 1
    by true fits = grind (arith, nat_tests, fits)
    by false fits = absurd (cc fits)
