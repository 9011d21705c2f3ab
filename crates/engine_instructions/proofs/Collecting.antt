-- What an emission collects of its programs, and where else a program's result goes.
use Rattle.std.specs.Prelude.{MatchOption}
use Rattle.std.proofs.Common.{◌≡◌, ◌≤◌, ◌∙◌, refl, sym, ap, subst, ℕ, ◌+◌, ◌++◌, Bool, true, false, cond, List, [], ◌∷◌, map, Option, None, Some, Ok, Err, arith}
use Rattle.ui_machine.specs.declared.arm.Arm.{Arm}
use Rattle.ui_machine.specs.declared.arm.Arm.TheVariants as arms
use Rattle.ui_machine.specs.Definition.{Definition}
use Rattle.ui_machine.specs.Definition.Signals.{Accumulator, Signal}
use Rattle.ui_machine.specs.Definition.Values.{Value}
use Rattle.ui_machine.specs.Outcome.{Answer, known, only_if, ◌>>=◌}
use Rattle.ui_machine.specs.Rules.Accumulation.{collecting, down_to_emission, entries_after, down_to_source, given_down, is_last, left_by_stop, suits}
use Rattle.ui_machine.specs.Rules.Accumulation as machine
use Rattle.ui_machine.specs.Rules.EmissionPlan.{signal_at, signal_of}
use Rattle.ui_machine.specs.Rules.MainLoop.{kept_source}
use Rattle.ui_machine.specs.Rules.Transform.{kind_fits}
use Rattle.ui_machine.specs.Seq.{total}
use Rattle.ui_machine.specs.State.Config.{Left, World, leaves}
use Rattle.ui_machine.specs.State.Handlers.{Handler}
use Rattle.ui_machine.specs.State.Objects.{Object, asked, class_in, living}
use Rattle.ui_machine.specs.State.References.{in_object, in_register, in_task, in_value, same}
use Rattle.ui_machine.specs.State.Tasks.{Answering, Emission, Emitting, PlanEntry, Task}
use Rattle.g_values.specs.declared.value.Value as values
use Rattle.instance_tables.specs.Store.{Store, count_of}
use Rattle.signal_core.specs.Emission.{Due, Walk, is_over, stopped}
use Rattle.engine_world.specs.Able.{Able}
use Rattle.engine_world.specs.FirstEmissions.{IsEmission, first_emitted}
use Rattle.engine_stack.specs.FirstEmissions.{EmitsKnown, Emitted, IsReemitted, emission_view, emitting, entries_left}
use Rattle.engine_stack.specs.KnownHandlers.{AllTakeKnownHandlers, EndsWithoutTransfers}
use Rattle.engine_instructions.specs.CollectView.{collected_by, collects, stops_at}
use Rattle.engine_world.specs.Counting.{Counts, KeepsCounts, MayHold, OnlyTasks}
use Rattle.engine_world.specs.TaskView.{agenda_of}
use Rattle.engine_stack.specs.TaskView.{emission_of, entries_to_come, task_of, tasks_of}
use Rattle.engine_world.specs.declared.engine.Engine.{Engine}
use Rattle.engine_stack.specs.declared.stacks.Frames.{Frames}
use Rattle.engine_stack.specs.declared.task.Task as code
use Rattle.engine_stack.specs.declared.task.Task.TheVariants as tasks
use Rattle.engine_world.proofs.Ableness.{able_as, first}
use Rattle.engine_world.proofs.Counts.{restacked}
use Rattle.engine_world.proofs.FirstEmissions.{begins}
use Rattle.engine_stack.proofs.FirstEmissions.{first_begun}
use Rattle.engine_world.specs.View.{world_of}
use Rattle.g_values.specs.View.{value_view}
use Rattle.engine_instructions.proofs.Tested.{passes}
use Rattle.engine_instructions.proofs.StoppedEmissions.{over_leaves, stop_leaves, stop_same, turns_alike}
use Rattle.engine_stack.specs.TransferView.{due_later, due_now, entries_due_of}
use Rattle.engine_stack.specs.declared.task.Transfers.{Transfers}
use Rattle.engine_stack.specs.declared.task.Transfers.TheVariants as at
use Rattle.engine_world.proofs.SameTurns.{entries}

-- ** what an emission takes

module _ (w : Walk) (hs : List Handler) (args : List values.Value) (by_event : Bool) where
  abbrev own : Emission
  own = emission_of w args by_event

  abbrev rest_of : Walk → Transfers → Task
  rest_of u ts = Emitting (emission_of u args by_event) (entries_to_come u hs ts)

  module _ (ts : Transfers) (ends : EndsWithoutTransfers w ts) where
    abbrev left : List PlanEntry
    left = entries_to_come w hs ts

    module _ (v : Value) where
      abbrev with_it : Walk
      with_it = record w { value = Some v }

      same_left : left ≡ entries_to_come with_it hs ts
      same_left =
          sym (ap (λ (dues : List Due). entries_due_of (due_now ts) ++ entries (entries_due_of (due_later ts)) dues) (turns_alike w hs w.stage w.stage (Some v)))

      -- before its cleanup stage it takes a value, which may stop it
      takes : (last : Bool) → Emitting (record own { value = Some v }) (entries_after last own left) ≡ rest_of (cond last (stopped with_it) with_it) (cond last (at.Due []) ts)
      takes false = ap (Emitting (emission_of with_it args by_event)) same_left
      takes true =
          ap (λ (es : List PlanEntry). Emitting (emission_of with_it args by_event) (left_by_stop own es)) same_left
          ∙ ap (Emitting (emission_of with_it args by_event)) (stop_leaves with_it hs args by_event ts ends)
          ∙ ap (λ (e : Emission). Emitting e (entries_to_come (stopped with_it) hs (at.Due []))) (stop_same with_it hs args by_event)

      takes_by : (over last : Bool) → is_over w.stage ≡ over
          → cond over (Emitting own left) (Emitting (record own { value = Some v }) (entries_after last own left)) ≡ rest_of (cond over w (cond last (stopped with_it) with_it)) (cond last (at.Due []) ts)
      takes_by true true is = ap (Emitting own) (over_leaves w hs args by_event ts ends is)
      takes_by true false is = refl
      takes_by false last is = takes last

    -- what code leaves is the machine's
    pub collected_as : (s : Signal) (given : Option Value) → machine.collected s own left given ≡ rest_of (collects s.accumulator given w) (cond (stops_at s.accumulator given) (at.Due []) ts)
    collected_as s None = refl
    collected_as s (Some v) = takes_by v (is_over w.stage) (is_last s.accumulator v) refl

    -- and no transfer is due at its end
    pub still_ends : (a : Option Accumulator) (given : Option Value) → EndsWithoutTransfers (collects a given w) (cond (stops_at a given) (at.Due []) ts)
    still_ends a None = ends
    still_ends a (Some v) = by (is_over w.stage) (is_last a v)
      where
        by : (over last : Bool) → EndsWithoutTransfers (cond over w (cond last (stopped (record w { value = Some v })) (record w { value = Some v }))) (cond last (at.Due []) ts)
        by over true = λ _. refl
        by true false = ends
        by false false = ends

  -- it is an emission by the same object
  pub collects_object : (a : Option Accumulator) (given : Option Value) → (collects a given w).object ≡ w.object
  collects_object a None = refl
  collects_object a (Some v) = by (is_over w.stage) (is_last a v)
    where
      by : (over last : Bool) → (cond over w (cond last (stopped (record w { value = Some v })) (record w { value = Some v }))).object ≡ w.object
      by true last = refl
      by false true = refl
      by false false = refl

-- and it takes no handler that it did not take before
collects_bound : (w : Walk) (a : Option Accumulator) (given : Option Value) → (collects a given w).greatest ≡ w.greatest
collects_bound w a None = refl
collects_bound w a (Some v) = by (is_over w.stage) (is_last a v)
  where
    by : (over last : Bool) → (cond over w (cond last (stopped (record w { value = Some v })) (record w { value = Some v }))).greatest ≡ w.greatest
    by true last = refl
    by false true = refl
    by false false = refl

pub still_known : (last : ℕ) (hs : List Handler) (own : Emitted) (a : Option Accumulator) (given : Option Value) → EmitsKnown last own → EmitsKnown last (collected_by a given own)
still_known last hs own a given known =
    (subst (λ n. n ≤ last) (sym (collects_bound own.walk a given)) known.0, still_ends own.walk hs own.args own.by_event own.transfers known.1 a given)

-- ** by the signal

module _ (d : Definition) (w : World) (e : Emission) (entries : List PlanEntry) (rest : List Task) (given : Option Value) where
  abbrev take_by : Signal → Answer Task
  take_by s = only_if (suits (kind_fits (class_in w.objects) d.types) given s.result) arms.Result (Ok (machine.collected s e entries given))

  abbrev take : ℕ → Answer Task
  take class = known arms.Code (signal_of d class e.signal) >>= take_by

  abbrev leave : Answer Task → Answer Left
  leave a = a >>= λ task. leaves w (task ∷ rest)

  down_by : (r : Answer ℕ) → asked w.objects e.object (λ o. Ok o.class) ≡ r → down_to_emission d w e entries rest given ≡ leave (r >>= take)
  unfolding asked collecting down_to_emission signal_at
  down_by r h = ap leave (by (living w.objects e.object) ∙ ap (λ (a : Answer ℕ). a >>= take) h)
    where
      by : (o : Option Object) → (known arms.Operand o >>= λ x. take x.class) ≡ ((known arms.Operand o >>= λ x. Ok x.class) >>= take)
      by None = refl
      by (Some x) = refl

  pub collect_unheard : (arm : Arm) → asked w.objects e.object (λ o. Ok o.class) ≡ Err arm → down_to_emission d w e entries rest given ≡ Err arm
  collect_unheard arm h = down_by (Err arm) h

  module _ (class : ℕ) (of : asked w.objects e.object (λ o. Ok o.class) ≡ Ok class) where
    pub collect_unknown : signal_of d class e.signal ≡ None → down_to_emission d w e entries rest given ≡ Err arms.Code
    collect_unknown none = down_by (Ok class) of ∙ ap (λ (s : Option Signal). leave (known arms.Code s >>= take_by)) none

    module _ (s : Signal) (some : signal_of d class e.signal ≡ Some s) where
      abbrev take_all : Answer Task
      take_all = Ok (machine.collected s e entries given)

      suited : Bool
      suited = suits (kind_fits (class_in w.objects) d.types) given s.result

      collect_by : down_to_emission d w e entries rest given ≡ leave (only_if suited arms.Result take_all)
      unfolding suited
      collect_by = down_by (Ok class) of ∙ ap (λ (s : Option Signal). leave (known arms.Code s >>= take_by)) some

      -- what no arm stops is taken
      pub collect_suited : Able (down_to_emission d w e entries rest given) → down_to_emission d w e entries rest given ≡ leaves w (machine.collected s e entries given ∷ rest)
      collect_suited able =
          let fits = first (only_if suited arms.Result take_all) (λ task. leaves w (task ∷ rest)) (able_as collect_by able) in
          collect_by ∙ ap leave (passes suited arms.Result take_all fits)

-- what the emission in its place becomes
pub accumulates : (d : Definition) (e : Engine) (class : ℕ) (own : Emitted) (rest : List Task) (given : Option Value) → EndsWithoutTransfers own.walk own.transfers
    → asked (world_of e.world).objects own.walk.object (λ o. Ok o.class) ≡ Ok class → (s : Signal) → signal_of d class own.walk.signal ≡ Some s
    → Able (down_to_emission d (world_of e.world) (emission_view own) (entries_left own e.world.handlers.handlers) rest given)
    → down_to_emission d (world_of e.world) (emission_view own) (entries_left own e.world.handlers.handlers) rest given
    ≡ leaves (world_of e.world) (emitting (collected_by s.accumulator given own) e.world.handlers.handlers ∷ rest)
accumulates d e class own rest given ends of s declared able =
    collect_suited d (world_of e.world) (emission_view own) (entries_left own e.world.handlers.handlers) rest given class of s declared able
    ∙ ap (λ (t : Task). leaves (world_of e.world) (t ∷ rest)) (collected_as own.walk e.world.handlers.handlers own.args own.by_event own.transfers ends s given)

-- ** to other tasks

-- a program above a task that is no emission's and no source's gives none
abbrev gives_none : World → List Task → Option Value → Answer Left
gives_none w agenda None = leaves w agenda
gives_none w agenda (Some v) = Err arms.Result

pub gives_last : (d : Definition) (w : World) (given : Option Value) → given_down d w [] given ≡ gives_none w [] given
gives_last d w None = refl
gives_last d w (Some v) = refl

-- a task that takes nothing of what a program gives
abbrev pub TakesNone : code.Task → Type 0
TakesNone (tasks.Emitting emission) = ⊥
TakesNone (tasks.Answering source) = ⊥
TakesNone _ = Unit {0}

module _ (d : Definition) (hs : List Handler) (w : World) (rest : List Task) where
  abbrev GivesNone : code.Task → Option Value → Type 0
  GivesNone t given = given_down d w (task_of d hs t ∷ rest) given ≡ gives_none w (task_of d hs t ∷ rest) given

  -- a task that is no emission's and no source's is given nothing
  pub gives_other : (t : code.Task) (given : Option Value) → TakesNone t → GivesNone t given
  gives_other (tasks.Emitting emission) given other = absurd other
  gives_other (tasks.Setting id slot x) None other = refl
  gives_other (tasks.Setting id slot x) (Some v) other = refl
  gives_other (tasks.Notifying id slot) None other = refl
  gives_other (tasks.Notifying id slot) (Some v) other = refl
  gives_other (tasks.Beginning e) None other = refl
  gives_other (tasks.Beginning e) (Some v) other = refl
  gives_other (tasks.Running frame) None other = refl
  gives_other (tasks.Running frame) (Some v) other = refl
  gives_other (tasks.Thawing id slots) None other = refl
  gives_other (tasks.Thawing id slots) (Some v) other = refl
  gives_other (tasks.Constructing construction) None other = refl
  gives_other (tasks.Constructing construction) (Some v) other = refl
  gives_other (tasks.Building place forwards) None other = refl
  gives_other (tasks.Building place forwards) (Some v) other = refl
  gives_other (tasks.Adopting place forwards) None other = refl
  gives_other (tasks.Adopting place forwards) (Some v) other = refl
  gives_other (tasks.Transferring number back) None other = refl
  gives_other (tasks.Transferring number back) (Some v) other = refl
  gives_other (tasks.Unsetting number) None other = refl
  gives_other (tasks.Unsetting number) (Some v) other = refl
  gives_other (tasks.Binding number) None other = refl
  gives_other (tasks.Binding number) (Some v) other = refl
  gives_other (tasks.Connecting place number) None other = refl
  gives_other (tasks.Connecting place number) (Some v) other = refl
  gives_other (tasks.Answering source) given other = absurd other
  gives_other (tasks.Calling call) None other = refl
  gives_other (tasks.Calling call) (Some v) other = refl
  gives_other (tasks.Due source) None other = refl
  gives_other (tasks.Handling event) None other = refl
  gives_other (tasks.Due source) (Some v) other = refl
  gives_other (tasks.Handling event) (Some v) other = refl

-- where no arm stops it nothing is given, above the same tasks
pub gives_nothing : (d : Definition) (w : World) (given : Option Value) (old new tasks : List Task) → old ≡ tasks → new ≡ tasks → given_down d w tasks given ≡ gives_none w tasks given
    → Able (given_down d w old given) → given_down d w old given ≡ leaves w new
gives_nothing d w given old new tasks first back is able =
    let same : given_down d w old given ≡ gives_none w tasks given = ap (λ (ts : List Task). given_down d w ts given) first ∙ is in
    same ∙ by given (able_as same able) ∙ ap (leaves w) (sym back)
  where
    by : (given : Option Value) → Able (gives_none w tasks given) → gives_none w tasks given ≡ leaves w tasks
    by None able = refl
    by (Some v) able = absurd able

-- ** counts

-- what it has collected may be held where what it is given may be, and what it had
pub collected_may : (t : Store) (w : Walk) (a : Option Accumulator) (given : Option Value) → MayHold t (λ o. in_register o given) → MayHold t (λ o. in_register o w.value)
    → MayHold t (λ o. in_register o (collects a given w).value)
collected_may t w a None may again = again
collected_may t w a (Some v) may again = by (is_over w.stage) (is_last a v)
  where
    by : (over last : Bool) → MayHold t (λ o. in_register o (cond over w (cond last (stopped (record w { value = Some v })) (record w { value = Some v }))).value)
    by true last = again
    by false true = may
    by false false = may

-- an emission that goes on in its place with what it has collected
pub collected_keeps : (d : Definition) (e new : Engine) → IsEmission e → OnlyTasks e new → IsReemitted e.stack new.stack → (x : Emitted) → first_emitted new ≡ x
    → ((o : ℕ) → count_of new.world.table.counts o + in_register o (first_emitted e).walk.value ≡ count_of e.world.table.counts o + in_register o x.walk.value)
    → x.walk.object ≡ (first_emitted e).walk.object → x.args ≡ (first_emitted e).args
    → ((last : ℕ) → EmitsKnown last (first_emitted e) → EmitsKnown last x) → KeepsCounts d e new
collected_keeps d e new first only emits x now counts object args known = record {
  at = λ taken h.
      let hs = e.world.handlers.handlers in
      subst (λ (y : Engine). Counts d taken y) (sym only.beside) record {
        knows = h.knows;
        links = h.links;
        passes = h.passes;
        connects = record {
          most = h.connects.most;
          to_come = h.connects.to_come;
          begun = (let last = e.world.handlers.last in emits.begun last (subst (λ (y : Emitted). EmitsKnown last y) (sym now) (known last (first_begun last e.stack first h.connects.begun))) h.connects.begun);
        };
        exact = λ o.
            let objects : total (in_object d o) new.world.table.objects ≡ total (in_object d o) e.world.table.objects = ap (total (in_object d o)) only.table.objects in
            let floats : total (same o) new.world.table.floating ≡ total (same o) e.world.table.floating = ap (total (same o)) only.table.floating in
            let was = ap (λ (ts : List Task). total (in_task o) ts) (begins d e first) in
            let is = ap (λ (ts : List Task). total (in_task o) ts) (emits.tasks d hs) in
            let own = ap (λ (y : Emitted). in_task o (emitting y hs)) now in
            omega (arith, objects, floats, counts o, was, is, own, ap (same o) object, ap (λ (vs : List values.Value). total (in_value o) (map value_view vs)) args, h.exact o);
      };
}

-- the same world and the same tasks
pub leaves_as : (w v : World) (ts us : List Task) → w ≡ v → ts ≡ us → leaves w ts ≡ leaves v us
leaves_as w v ts us world agenda = rw (world, agenda) refl

-- ** to a source

-- no arm stops the source where none stops the program above it
pub source_able : (d : Definition) (w : World) (source : ℕ) (rest : List Task) (given : Option Value) → Able (given_down d w (Answering source ∷ rest) given) → Able (kept_source w source given)
unfolding down_to_source
source_able d w source rest given able = first (kept_source w source given) (λ k. leaves k rest) able

-- what a program gives to the source below it
pub gives_source : (d : Definition) (w : World) (source : ℕ) (rest : List Task) (given : Option Value) (v : World) (new : List Task) → new ≡ rest
    → kept_source w source given ≡ Ok v → given_down d w (Answering source ∷ rest) given ≡ leaves v new
unfolding down_to_source
gives_source d w source rest given v new back kept = ap (λ (a : Answer World). a >>= λ k. leaves k rest) kept ∙ ap (leaves v) (sym back)

-- what is left once the first task was taken off is what was behind it
pub popped_behind : (d : Definition) (hs : List Handler) (o : Option code.Task) (old new : List Task) (t : Task) (rest : List Task) → old ≡ t ∷ rest
    → MatchOption o ((old ≡ []) × (new ≡ [])) (λ task. old ≡ task_of d hs task ∷ new) → old ≡ t ∷ new
popped_behind d hs None old new t rest first none = let never : t ∷ rest ≡ [] = sym first ∙ none.0 in absurd (cc never)
popped_behind d hs (Some task) old new t rest first off =
    let both : task_of d hs task ∷ new ≡ t ∷ rest = sym off ∙ first in
    let behind : new ≡ rest = cc both in
    first ∙ ap (λ (ts : List Task). t ∷ ts) (sym behind)

-- its task held nothing
pub popped_source : (d : Definition) (e : Engine) (s : Frames) (taken : ℕ → ℕ) (source : ℕ) → agenda_of d e ≡ Answering source ∷ tasks_of d e.world.handlers.handlers s
    → ((last : ℕ) → AllTakeKnownHandlers last e.stack → AllTakeKnownHandlers last s) → Counts d taken e → Counts d taken (record e { stack = s })
popped_source d e s taken source first begun h = record {
  knows = h.knows;
  links = h.links;
  passes = h.passes;
  connects = restacked d e s begun h.connects;
  exact = λ o. omega (arith, h.exact o, ap (λ (ts : List Task). total (in_task o) ts) first);
}
