-- The rest of a program that was put before the other tasks, and what instructions on objects leave behind it.
use Rattle.std.proofs.Common.{◌≡◌, ◌∙◌, refl, sym, ap, subst, drop, ℕ, suc, ◌+◌, Bool, true, false, not, nat_lt, List, ◌∷◌, map, Option, None, Some, IsSome, is_some, Result, Ok, Err, arith}
use Rattle.std.specs.Prelude.{IfOk, is_none}
use Rattle.ui_machine.specs.declared.arm.Arm.TheVariants as arms
use Rattle.ui_machine.specs.declared.arm.Halt.{Halt}
use Rattle.ui_machine.specs.declared.ids.ObjectId.{ObjectId}
use Rattle.ui_machine.specs.Definition.{Definition}
use Rattle.ui_machine.specs.Definition.Values as values
use Rattle.ui_machine.specs.Instructions.{in_front}
use Rattle.ui_machine.specs.Instructions.Objects.{adopting}
use Rattle.ui_machine.specs.Instructions.Properties.{then_goes_on}
use Rattle.ui_machine.specs.Instructions.Registers.{operand_in, written_to}
use Rattle.ui_machine.specs.Outcome.{After, Answer, Stops, only_if}
use Rattle.ui_machine.specs.Rules.Build.{to_connect, to_make}
use Rattle.ui_machine.specs.Rules.Children.{updated, with_parent, without_child}
use Rattle.ui_machine.specs.Rules.NotifyQueue.{frozen_more, most_freezes}
use Rattle.ui_machine.specs.State.Config.{Config, Started, World}
use Rattle.ui_machine.specs.State.Config as config
use Rattle.ui_machine.specs.State.Objects.{Object, Objects, living}
use Rattle.ui_machine.specs.State.References.{in_object}
use Rattle.ui_machine.specs.State.Tasks.{Frame, Running, Task}
use Rattle.ui_machine.specs.Steps.{left, uncounted}
use Rattle.instance_tables.specs.Family.{Leaves, Sinks, refusal_in}
use Rattle.instance_tables.specs.Store.{Store, id_of, with_objects}
use Rattle.instance_tables.proofs.Exact.{leave_exact}
use Rattle.frames.specs.FrameView.{frame_view}
use Rattle.frames.specs.declared.frame.Frame as code
use Rattle.engine_world.specs.Counting.{Counts, KeepsCounts, nothing}
use Rattle.engine_stack.specs.HeldByTasks.{in_frame}
use Rattle.engine_world.specs.Able.{Able, Leads}
use Rattle.ui_machine.specs.declared.arm.Halt.TheVariants as halts
use Rattle.engine_world.proofs.Ableness.{first, no_arm, none_stops}
use Rattle.std.specs.declared.alloc.AllocError.{AllocError}
use Rattle.engine_world.specs.EngineView.{config_of}
use Rattle.engine_world.specs.KinView.{joined}
use Rattle.engine_world.specs.FirstPrograms.{IsProgram, first_frame, rest_of}
use Rattle.engine_stack.specs.FirstPrograms.{first_program, stack_frame}
use Rattle.engine_stack.specs.declared.stacks.Frames.{Frames}
use Rattle.engine_world.specs.TaskView.{agenda_of}
use Rattle.engine_world.specs.View.{held_of, world_of}
use Rattle.engine_world.specs.declared.engine.Engine.{Engine}
use Rattle.engine_instructions.proofs.Adopting.{adopt_stops, adopts, adopts_somewhere}
use Rattle.engine_world.proofs.Counts.{Alike, beside_of, from_counted, keeps_by, sunk_exact, taken_alike, to_counted, with_table, stays}
use Rattle.engine_world.proofs.FirstPrograms.{begins}
use Rattle.engine_world.proofs.Left.{same_agenda}
use Rattle.engine_world.proofs.Registers.{stops_left}
use Rattle.engine_instructions.proofs.Starting.{leads_then, stops_as, stops_elsewhere, written_elsewhere}

uncounted_able : (rest : List Task) (n : ℕ) (a : Answer Started) → Able a → Able (uncounted rest n a)
uncounted_able rest n (Ok s) able = tt
uncounted_able rest n (Err arm) able = able

module _ (d : Definition) (e b : Engine) (f : Frame) where
  -- it goes on to hold what its registers name
  pub frame_held : ((taken : ℕ → ℕ) → Counts d (λ o. taken o + in_frame o f) e → Counts d taken b) → Counts d (λ o. in_frame o f) e → Counts d nothing b
  frame_held pushed h = pushed nothing (taken_alike d e (λ o. in_frame o f) (λ o. nothing o + in_frame o f) (λ o. omega arith) h)

  module _ (beside : b ≡ record e { stack = b.stack }) where
    pub world_pushed : world_of b.world ≡ world_of e.world
    world_pushed = ap (λ (x : Engine). world_of x.world) beside

    pub count_pushed : b.counted ≡ e.counted
    count_pushed = ap (λ (x : Engine). x.counted) beside

    -- what lives still does
    pub lives_pushed : (id : ℕ) → IsSome (living e.world.table.objects id) → IsSome (living b.world.table.objects id)
    lives_pushed id lives = subst (λ (w : World). IsSome (living w.objects id)) (sym world_pushed) lives

    -- what a step before it comes to
    pub leads_before : {X : Type 0} (result : Result X AllocError) (a : World → Answer Started) (new : Config) → agenda_of d b ≡ Running f ∷ rest_of d e
        → Leads result (uncounted (agenda_of d b) b.counted (a (world_of b.world))) new
        → Leads result (left e.counted (in_front (rest_of d e) (then_goes_on f (a (world_of e.world))))) new
    leads_before {X} result a new agenda leads =
        leads_then e.counted (rest_of d e) result f (a (world_of e.world)) new
        (subst (λ (w : World). Leads result (uncounted (Running f ∷ rest_of d e) e.counted (a w)) new) world_pushed
        (subst (λ n. Leads result (uncounted (Running f ∷ rest_of d e) n (a (world_of b.world))) new) count_pushed
        (subst (λ (ts : List Task). Leads result (uncounted ts b.counted (a (world_of b.world))) new) agenda leads)))

    pub raising_able : (a : World → Answer Started) → Able (then_goes_on f (a (world_of e.world))) → Able (uncounted (agenda_of d b) b.counted (a (world_of b.world)))
    unfolding then_goes_on
    raising_able a able =
        subst (λ (w : World). Able (uncounted (agenda_of d b) b.counted (a w))) (sym world_pushed)
        (uncounted_able (agenda_of d b) b.counted (a (world_of e.world)) (first (a (world_of e.world)) _ able))

-- a program that was taken off holds what its registers name
pub popped_counts : (d : Definition) (m : Engine) (r : code.Frame) → Counts d (λ o. nothing o + in_frame o (frame_view r)) m → Counts d (λ o. in_frame o (frame_view r)) m
popped_counts d m r h = taken_alike d m (λ o. nothing o + in_frame o (frame_view r)) (λ o. in_frame o (frame_view r)) (λ o. omega arith) h

-- ** behind a program

-- a program makes nothing of the build, and connects nothing of it
module _ (d : Definition) (e : Engine) (first : IsProgram e) where
  pub makes_behind : to_make (agenda_of d e) ≡ to_make (rest_of d e)
  makes_behind = let is = ap (λ (ts : List Task). to_make ts) (begins d e first) in omega (arith, is)

  pub connects_behind : to_connect (agenda_of d e) ≡ to_connect (rest_of d e)
  connects_behind = let is = ap (λ (ts : List Task). to_connect ts) (begins d e first) in omega (arith, is)

-- ** a stack that is the same

module _ (e m : Engine) (same : m.stack ≡ e.stack) where
  -- the first task is the program that it was
  pub program_kept : IsProgram e → IsProgram m
  program_kept first = subst (λ (s : Frames). IsSome (first_program s.tasks.items)) (sym same) first

  pub frame_kept : first_frame m ≡ first_frame e
  frame_kept = ap stack_frame same

  -- and the tasks behind it are those that they were
  pub rest_kept : (d : Definition) → m.world.handlers ≡ e.world.handlers → rest_of d m ≡ rest_of d e
  rest_kept d handlers = ap (λ (ts : List Task). drop 1 ts) (same_agenda d e m same handlers)

  -- what is written to it is written to that program
  pub written_by : (d : Definition) (w : World) (to : ℕ) (v : Option values.Value)
      → left m.counted (in_front (rest_of d m) (written_to w to v (first_frame e))) ≡ left m.counted (in_front (rest_of d m) (written_to w to v (first_frame m)))
  written_by d w to v = ap (λ (g : Frame). left m.counted (in_front (rest_of d m) (written_to w to v g))) (sym frame_kept)

-- ** what a change of the table leaves

-- an object that no longer floats
pub sunk_world : (e : Engine) (t : Store) (id : ℕ) → Sinks id e.world.table t → world_of (with_table e t).world ≡ config.sunk (world_of e.world) id
sunk_world e t id sinks = ap (λ (s : Store). record (world_of e.world) { objects = s.objects; floating = s.floating }) sinks.beside

pub sunk_keeps : (d : Definition) (e : Engine) (t : Store) (id : ℕ) → Sinks id e.world.table t → KeepsCounts d e (with_table e t)
sunk_keeps d e t id sinks = keeps_by d e (with_table e t) refl refl (λ g. g) refl (stays d e (with_table e t) refl refl) (λ taken _ h. sunk_exact d taken e.world.table t (map held_of e.world.builder.items) (agenda_of d e) id sinks h)

-- other objects
pub objects_world : (e : Engine) (t : Store) → t ≡ with_objects e.world.table t.objects → world_of (with_table e t).world ≡ config.with_objects (world_of e.world) t.objects
objects_world e t beside = ap (λ (s : Store). record (world_of e.world) { objects = s.objects; floating = s.floating }) beside

-- one more freeze leaves what an object holds
pub freeze_alike : (d : Definition) → Alike d frozen_more
freeze_alike d x = by (nat_lt x.freezes most_freezes)
  where
    by : (b : Bool) → IfOk (only_if b arms.Freeze (Ok (record { state = record x { freezes = suc x.freezes }; answer = tt }))) (λ (r : After Object (Unit {0})). (o : ℕ) → in_object d o (Some r.state) ≡ in_object d o (Some x))
    by true = λ o. refl
    by false = tt

-- ** an object that leaves its parent

-- an identity that is there or not
pub none_named : (found : Option ObjectId) → is_some found ≡ false → id_of found ≡ None
none_named None none = refl
none_named (Some id) none = cc none

pub one_named : (found : Option ObjectId) → is_some found ≡ true → (id : ℕ) × (id_of found ≡ Some id)
one_named None some = cc some
one_named (Some id) some = (id.0, refl)

module _ (e : Engine) (t : Store) (parent child : ℕ) (leaves : Leaves parent child e.world.table t) where
  pub left_world : world_of (with_table e t).world ≡ config.with_objects (world_of e.world) (updated (with_parent None) child (updated (without_child child) parent e.world.table.objects))
  left_world =
      ap (λ (os : Objects). record (world_of e.world) { objects = os; floating = t.floating }) leaves.objects
      ∙ ap (λ floating. record (world_of e.world) { objects = updated (with_parent None) child (updated (without_child child) parent e.world.table.objects); floating = floating }) leaves.floating

  pub left_keeps : (d : Definition) → KeepsCounts d e (with_table e t)
  left_keeps d = keeps_by d e (with_table e t) refl refl (λ g. g) refl (stays d e (with_table e t) refl refl) (λ taken _ h.
      let b = map held_of e.world.builder.items in
      let a = agenda_of d e in
      from_counted d taken t b a (leave_exact d (beside_of taken b a) e.world.table t parent child leaves (to_counted d taken e.world.table b a h)))

-- ** an object that becomes another's child

pub none_as : {A : Type 0} (found : Option A) (b : Bool) → is_some found ≡ not b → is_none found ≡ b
none_as None true so = refl
none_as None false so = cc so
none_as (Some x) true so = cc so
none_as (Some x) false so = refl

module _ (d : Definition) (e mid : Engine) (f : Frame) (to parent child p c : ℕ) (above : operand_in (world_of e.world) f parent ≡ Ok p) (below : operand_in (world_of e.world) f child ≡ Ok c)
    (free : Bool) (may : is_none (refusal_in e.world.table p c) ≡ free) where
  abbrev adopting_so : Answer Config
  adopting_so = left e.counted (in_front (rest_of d e) (adopting d (world_of e.world) f to parent child))

  abbrev writing_so : Answer Config
  writing_so = left e.counted (in_front (rest_of d e) (written_to (world_of e.world) to (Some (values.bool free)) f))

  -- where the register can't be written
  pub unwritten : (halt : Halt) → Stops halt writing_so → Stops halt adopting_so
  unwritten halt s =
      let there = adopts_somewhere d (world_of e.world) f to parent child p above c below free may in
      stops_as halt adopting_so _ (ap (λ (a : Answer Started). left e.counted (in_front (rest_of d e) a)) there.1)
      (stops_elsewhere e.counted (rest_of d e) to (Some (values.bool free)) f (world_of e.world) there.0 halt s)

  module _ (wrote : writing_so ≡ Ok (config_of d mid)) where
    pub world_written : world_of mid.world ≡ world_of e.world
    world_written = (written_elsewhere e.counted (rest_of d e) to (Some (values.bool free)) f (world_of e.world) (world_of e.world) (config_of d mid) wrote).0

    -- where the instruction is not stuck its part is not
    pub adopts_able : Able adopting_so → Able (joined d (world_of mid.world) p c)
    adopts_able able =
        subst (λ (w : World). Able (joined d w p c)) (sym world_written)
        (none_stops (joined d (world_of e.world) p c) (λ arm stuck. no_arm adopting_so arm able
        (stops_left e.counted (rest_of d e) (adopting d (world_of e.world) f to parent child) (halts.Stuck arm)
        (adopt_stops d (world_of e.world) f to parent child p above c below (halts.Stuck arm) stuck))))

    pub adopts_behind : {X : Type 0} (result : Result X AllocError) (new : Engine) → Leads result (joined d (world_of mid.world) p c) (world_of new.world)
        → (new.stack ≡ mid.stack) × (new.counted ≡ mid.counted) → new.world.handlers ≡ mid.world.handlers → Leads result adopting_so (config_of d new)
    adopts_behind {X} result new leads same handlers = by result (subst (λ (w : World). Leads result (joined d w p c) (world_of new.world)) world_written leads)
      where
        by : (result : Result X AllocError) → Leads result (joined d (world_of e.world) p c) (world_of new.world) → Leads result adopting_so (config_of d new)
        by (Ok x) is =
            ap (λ (a : Answer Started). left e.counted (in_front (rest_of d e) a)) (adopts d (world_of e.world) f to parent child p above c below free may (world_of new.world) is)
            ∙ (written_elsewhere e.counted (rest_of d e) to (Some (values.bool free)) f (world_of e.world) (world_of new.world) (config_of d mid) wrote).1
            ∙ rw (same_agenda d mid new same.0 handlers, same.1) refl
        by (Err error) leads = tt
