-- What a stop leaves of an emission, and of the tasks.
use Rattle.engine_stack.specs.KnownHandlers.{AllTakeKnownHandlers, EndsWithoutTransfers, TakesKnownHandlers}
use Rattle.engine_stack.specs.FirstEmissions.{StopsBelow, stop_in, with_last}
use Rattle.engine_stack.specs.FirstPrograms.{first_program, stack_frame}
use Rattle.engine_stack.specs.declared.stacks.Frames.{Frames}
use Rattle.engine_stack.proofs.FirstPrograms.{first_of_last, starts}
use Rattle.engine_world.proofs.OtherFirst.{head_same}
use Rattle.engine_world.proofs.Registers.{stack_same_held}
use Rattle.engine_stack.proofs.StopsBelow.{Lasts, below_known, has_last, last_changed, lasts, no_last}
use Rattle.engine_stack.proofs.Vectors.{front_known, last_known}
use Rattle.std.specs.Prelude.{All}
use Rattle.std.proofs.Common.{IsSome, drop, ◌≡◌, ◌∙◌, refl, sym, ap, subst, ℕ, ◌++◌, Bool, true, false, cond, map, nat_eq, reverse, List, [], ◌∷◌, Option, None, Some, arith}
use Rattle.std.specs.List.{filter}
use Rattle.std.proofs.lemmas.List.Elements.{filter-append}
use Rattle.ui_machine.specs.Definition.{Definition}
use Rattle.ui_machine.specs.Definition.Properties.{has_flags}
use Rattle.ui_machine.specs.Definition.Values.{Value}
use Rattle.ui_machine.specs.Rules.Accumulation.{is_of_cleanup, left_by_stop}
use Rattle.ui_machine.specs.Rules.Accumulation as machine
use Rattle.ui_machine.specs.Seq.{total}
use Rattle.ui_machine.specs.State.Handlers.{Handler}
use Rattle.ui_machine.specs.State.References.{in_task}
use Rattle.ui_machine.specs.State.Tasks as config
use Rattle.ui_machine.specs.State.Tasks.{Emission, Emitting, PlanEntry, Task, class_handler}
use Rattle.g_values.specs.declared.value.Value as values
use Rattle.signal_core.specs.Emission.{Due, Walk, due, from_after, from_before, from_cleanup, from_last, from_transfers, is_ahead, is_over, of_bindings, of_class, of_handler, of_handlers, stopped, to_come, turns_from}
use Rattle.signal_core.specs.declared.stage.Stage.{Stage}
use Rattle.signal_core.specs.declared.stage.Stage.TheVariants as stages
use Rattle.signal_core.specs.declared.turn.Turn.TheVariants as turns
use Rattle.bindings.specs.declared.due.DueTransfer.{DueTransfer}
use Rattle.engine_world.specs.Counting.{Counts, nothing}
use Rattle.engine_world.specs.TaskView.{agenda_of}
use Rattle.engine_stack.specs.TaskView.{emission_of, entries_to_come, task_of, tasks_of}
use Rattle.engine_world.specs.declared.engine.Engine.{Engine}
use Rattle.engine_stack.specs.declared.task.Task as code
use Rattle.engine_stack.specs.declared.task.Task.TheVariants as tasks
use Rattle.engine_stack.specs.TransferView.{due_later, due_now, entries_due_of}
use Rattle.engine_stack.specs.declared.task.Transfers.{Transfers}
use Rattle.engine_stack.specs.declared.task.Transfers.TheVariants as at
use Rattle.engine_world.proofs.SameTurns.{both_entries, entries}

-- ** stops

-- no transfer is of the cleanup stage
no_transfers : (due : List DueTransfer) → filter is_of_cleanup (entries_due_of due) ≡ []
no_transfers [] = refl
no_transfers (t ∷ due) = no_transfers due

module _ (l : List DueTransfer) where
  abbrev of : List PlanEntry
  of = entries_due_of l

  -- those of the cleanup stage
  abbrev of_cleanup : List Due → List PlanEntry
  of_cleanup dues = filter is_of_cleanup (entries of dues)

  -- what comes before it goes
  goes : (xs ys : List Due) → of_cleanup xs ≡ [] → of_cleanup (xs ++ ys) ≡ of_cleanup ys
  goes xs ys none =
      ap (filter is_of_cleanup) (both_entries of xs ys) ∙ filter-append is_of_cleanup (entries of xs) (entries of ys) ∙ ap (λ l. l ++ of_cleanup ys) none

  handlers_go : (w : Walk) (given : ℕ) (after : Bool) (stage : ℕ → Stage) (hs : List Handler) → of_cleanup (of_handlers w given after stage hs) ≡ []
  handlers_go w given after stage [] = refl
  handlers_go w given after stage (h ∷ hs) = by (is_ahead w given after h) (handlers_go w given after stage hs)
    where
      by : (b : Bool) → of_cleanup (of_handlers w given after stage hs) ≡ []
          → of_cleanup (map (of_handler stage) (cond b (h ∷ filter (is_ahead w given after) hs) (filter (is_ahead w given after) hs))) ≡ []
      by true rest = rest
      by false rest = rest

  class_goes : (runs : Bool) (program : Option ℕ) (next : Stage) → is_over next ≡ false → of_cleanup (of_class runs program next) ≡ []
  class_goes runs None next early = refl
  class_goes false (Some program) next early = refl
  class_goes true (Some program) next early = ap (λ b. filter is_of_cleanup (entries_with b)) early
    where
      entries_with : Bool → List PlanEntry
      entries_with b = class_handler program b ∷ []

  class_stays : (runs : Bool) (program : Option ℕ) → of_cleanup (of_class runs program stages.Over) ≡ entries of (of_class runs program stages.Over)
  class_stays runs None = refl
  class_stays false (Some program) = refl
  class_stays true (Some program) = refl

  module _ (w : Walk) (hs : List Handler) where
    cleanup_stays : of_cleanup (from_cleanup w) ≡ entries of (from_cleanup w)
    cleanup_stays = class_stays (has_flags 4 w.flags) w.class_program

    after_left : (given : ℕ) → of_cleanup (from_after given w hs) ≡ entries of (from_cleanup w)
    after_left given = goes (of_handlers w given true stages.After hs) (from_cleanup w) (handlers_go w given true stages.After hs) ∙ cleanup_stays

    last_left : of_cleanup (from_last w hs) ≡ entries of (from_cleanup w)
    last_left =
        let class = of_class (has_flags 2 w.flags) w.class_program (stages.After 0) in
        goes class (from_after 0 w hs) (class_goes (has_flags 2 w.flags) w.class_program (stages.After 0) refl) ∙ after_left 0

    before_left : (given : ℕ) → of_cleanup (from_before given w hs) ≡ entries of (from_cleanup w)
    before_left given = goes (of_handlers w given false stages.Before hs) (from_last w hs) (handlers_go w given false stages.Before hs) ∙ last_left

    bindings_go : of_cleanup (of_bindings w) ≡ []
    bindings_go = by (nat_eq w.signal 0)
      where
        by : (b : Bool) → of_cleanup (cond b (due turns.Transfers (stages.Before 0) ∷ []) []) ≡ []
        by true = filter-append is_of_cleanup of [] ∙ ap (λ (es : List PlanEntry). es ++ []) (no_transfers l)
        by false = refl

    transfers_left : of_cleanup (from_transfers w hs) ≡ entries of (from_cleanup w)
    transfers_left = goes (of_bindings w) (from_before 0 w hs) bindings_go ∙ before_left 0

    -- a stop leaves the cleanup stage, and in it does nothing
    stop_at : (stage : Stage) → cond (is_over stage) (entries of (turns_from stage w hs)) (of_cleanup (turns_from stage w hs)) ≡ entries of (turns_from (cond (is_over stage) stages.Over stages.Cleanup) w hs)
    stop_at stages.First =
        let class = of_class (has_flags 1 w.flags) w.class_program stages.Transfers in
        goes class (from_transfers w hs) (class_goes (has_flags 1 w.flags) w.class_program stages.Transfers refl) ∙ transfers_left
    stop_at stages.Transfers = transfers_left
    stop_at (stages.Before given) = before_left given
    stop_at stages.Last = last_left
    stop_at (stages.After given) = after_left given
    stop_at stages.Cleanup = cleanup_stays
    stop_at stages.Over = refl

    -- what is left makes no transfers
    left_plain : (over : Bool) → entries of (turns_from (cond over stages.Over stages.Cleanup) w hs) ≡ entries [] (turns_from (cond over stages.Over stages.Cleanup) w hs)
    left_plain true = refl
    left_plain false = by (has_flags 4 w.flags) w.class_program
      where
        by : (runs : Bool) (program : Option ℕ) → entries of (of_class runs program stages.Over) ≡ entries [] (of_class runs program stages.Over)
        by runs None = refl
        by true (Some program) = refl
        by false (Some program) = refl

-- where it is and what it has accumulated make no difference to the turns from a stage on
pub turns_alike : (w : Walk) (hs : List Handler) (at stage : Stage) (v : Option Value) → turns_from at (record w { stage = stage; value = v }) hs ≡ turns_from at w hs
turns_alike w hs stages.First stage v = refl
turns_alike w hs stages.Transfers stage v = refl
turns_alike w hs (stages.Before given) stage v = refl
turns_alike w hs stages.Last stage v = refl
turns_alike w hs (stages.After given) stage v = refl
turns_alike w hs stages.Cleanup stage v = refl
turns_alike w hs stages.Over stage v = refl

over_stays : (stage : Stage) → is_over (cond (is_over stage) stages.Over stages.Cleanup) ≡ is_over stage
over_stays stages.First = refl
over_stays stages.Transfers = refl
over_stays (stages.Before given) = refl
over_stays stages.Last = refl
over_stays (stages.After given) = refl
over_stays stages.Cleanup = refl
over_stays stages.Over = refl

module _ (w : Walk) (hs : List Handler) (args : List values.Value) (by_event : Bool) where
  abbrev own : Emission
  own = emission_of w args by_event

  module _ (ts : Transfers) (ends : EndsWithoutTransfers w ts) where
    abbrev now : List PlanEntry
    now = entries_due_of (due_now ts)

    abbrev behind : List PlanEntry
    behind = entries (entries_due_of (due_later ts)) (to_come w hs)

    -- the transfers that are due go
    turns_left : (over : Bool) → is_over w.stage ≡ over → cond over (now ++ behind) (filter is_of_cleanup (now ++ behind)) ≡ cond over behind (filter is_of_cleanup behind)
    turns_left true is = ap (λ (l : List DueTransfer). entries_due_of l ++ behind) (ends is)
    turns_left false is = filter-append is_of_cleanup now behind ∙ ap (λ (es : List PlanEntry). es ++ filter is_of_cleanup behind) (no_transfers (due_now ts))

    pub stop_leaves : left_by_stop own (entries_to_come w hs ts) ≡ entries_to_come (stopped w) hs (at.Due [])
    stop_leaves =
        let next = cond (is_over w.stage) stages.Over stages.Cleanup in
        turns_left (is_over w.stage) refl
        ∙ stop_at (due_later ts) w hs w.stage
        ∙ left_plain (due_later ts) w hs (is_over w.stage)
        ∙ ap (entries []) (sym (turns_alike w hs next next w.value))

    -- at its end nothing is left
    pub over_leaves : is_over w.stage ≡ true → entries_to_come w hs ts ≡ entries_to_come w hs (at.Due [])
    over_leaves over =
        let none = ends over in
        ap (λ (l : List DueTransfer). entries_due_of l ++ behind) none
        ∙ by w.stage over
      where
        by : (stage : Stage) → is_over stage ≡ true → entries (entries_due_of (due_later ts)) (turns_from stage w hs) ≡ entries [] (turns_from stage w hs)
        by stages.First e = cc e
        by stages.Transfers e = cc e
        by (stages.Before given) e = cc e
        by stages.Last e = cc e
        by (stages.After given) e = cc e
        by stages.Cleanup e = cc e
        by stages.Over e = refl

  pub stop_same : own ≡ emission_of (stopped w) args by_event
  stop_same = ap (λ b. record own { cleanup = b }) (sym (over_stays w.stage))

-- ** tasks

module _ (d : Definition) (hs : List Handler) where
  -- the last of a list, which is the first that is done, is stopped where it is an emission
  stops_last : (t : code.Task) (rest : List Task) (last : ℕ) → TakesKnownHandlers last t → task_of d hs (stop_in t) ∷ rest ≡ machine.stopped (task_of d hs t ∷ rest)
  stops_last (tasks.Emitting f) rest last known =
      ap (λ (m : Emission). Emitting m (entries_to_come (stopped f.cursor) hs (at.Due [])) ∷ rest) (sym (stop_same f.cursor hs f.args.items f.by_event))
      ∙ ap (λ (entries : List PlanEntry). Emitting (emission_of f.cursor f.args.items f.by_event) entries ∷ rest) (sym (stop_leaves f.cursor hs f.args.items f.by_event f.transfers known.1))
  stops_last (tasks.Setting id slot v) rest last known = refl
  stops_last (tasks.Notifying id slot) rest last known = refl
  stops_last (tasks.Beginning e) rest last known = refl
  stops_last (tasks.Running frame) rest last known = refl
  stops_last (tasks.Thawing id slots) rest last known = refl
  stops_last (tasks.Constructing construction) rest last known = refl
  stops_last (tasks.Building place forwards) rest last known = refl
  stops_last (tasks.Adopting place forwards) rest last known = refl
  stops_last (tasks.Transferring number back) rest last known = refl
  stops_last (tasks.Unsetting number) rest last known = refl
  stops_last (tasks.Binding number) rest last known = refl
  stops_last (tasks.Connecting place number) rest last known = refl
  stops_last (tasks.Answering source) rest last known = refl
  stops_last (tasks.Calling call) rest last known = refl
  stops_last (tasks.Due source) rest last known = refl
  stops_last (tasks.Handling event) rest last known = refl

  stops_below : (below : List code.Task) (last : ℕ) → All (TakesKnownHandlers last) below
      → reverse (map (task_of d hs) (with_last stop_in below)) ≡ machine.stopped (reverse (map (task_of d hs) below))
  stops_below below last known = by (lasts below) known
    where
      by : {xs : List code.Task} → Lasts xs → All (TakesKnownHandlers last) xs → reverse (map (task_of d hs) (with_last stop_in xs)) ≡ machine.stopped (reverse (map (task_of d hs) xs))
      by no_last known = refl
      by (has_last front t) known =
          ap (λ (l : List code.Task). reverse (map (task_of d hs) l)) (last_changed stop_in front t)
          ∙ first_of_last d hs front (stop_in t)
          ∙ stops_last t (reverse (map (task_of d hs) front)) last (last_known last front t known)
          ∙ ap (λ (ts : List Task). machine.stopped ts) (sym (first_of_last d hs front t))

-- the tasks of a stack in which the emission below the program that is the first task was stopped
pub below_stopped : (d : Definition) (hs : List Handler) (s new : Frames) (last : ℕ) → StopsBelow s new → IsSome (first_program s.tasks.items) → AllTakeKnownHandlers last s
    → tasks_of d hs new ≡ config.Running (stack_frame s) ∷ machine.stopped (drop 1 (tasks_of d hs s))
below_stopped d hs s new last stops first known =
    let all = subst (λ (l : List code.Task). All (TakesKnownHandlers last) l) stops.was known in
    let before : tasks_of d hs s ≡ task_of d hs stops.first ∷ reverse (map (task_of d hs) stops.below) = ap (λ (l : List code.Task). reverse (map (task_of d hs) l)) stops.was ∙ first_of_last d hs stops.below stops.first in
    let runs : task_of d hs stops.first ≡ config.Running (stack_frame s) = head_same (sym before ∙ starts d hs s first) in
    ap (λ (l : List code.Task). reverse (map (task_of d hs) l)) stops.now
    ∙ first_of_last d hs (with_last stop_in stops.below) stops.first
    ∙ ap (λ (t : Task). t ∷ reverse (map (task_of d hs) (with_last stop_in stops.below))) runs
    ∙ ap (λ (ts : List Task). config.Running (stack_frame s) ∷ ts) (stops_below d hs stops.below last (front_known last stops.below stops.first all))
    ∙ ap (λ (ts : List Task). config.Running (stack_frame s) ∷ machine.stopped ts) (sym (ap (λ (ts : List Task). drop 1 ts) before))

-- a stop changes what no task holds
pub stopped_holds : (d : Definition) (o : ℕ) (ts : List Task) → total (in_task o) (machine.stopped ts) ≡ total (in_task o) ts
stopped_holds d o [] = refl
stopped_holds d o (Emitting e entries ∷ rest) = refl
stopped_holds d o (config.Setting id slot v ∷ rest) = refl
stopped_holds d o (config.Notifying id slot ∷ rest) = refl
stopped_holds d o (config.Beginning e ∷ rest) = refl
stopped_holds d o (config.Transferring number back ∷ rest) = refl
stopped_holds d o (config.Unsetting number ∷ rest) = refl
stopped_holds d o (config.Thawing id slots ∷ rest) = refl
stopped_holds d o (config.Running f ∷ rest) = refl
stopped_holds d o (config.Answering source ∷ rest) = refl
stopped_holds d o (config.Calling call ∷ rest) = refl
stopped_holds d o (config.Constructing id steps held ∷ rest) = refl
stopped_holds d o (config.Building items ∷ rest) = refl
stopped_holds d o (config.Handling request ∷ rest) = refl
stopped_holds d o (config.Due source ∷ rest) = refl

pub below_counts : (d : Definition) (e : Engine) (s : Frames) → StopsBelow e.stack s → IsSome (first_program e.stack.tasks.items) → Counts d nothing e → Counts d nothing (record e { stack = s })
below_counts d e s stops first h = stack_same_held d e s
    (λ o.
    let hs = e.world.handlers.handlers in
    let after = ap (λ (ts : List Task). total (in_task o) ts) (below_stopped d hs e.stack s e.world.handlers.last stops first h.connects.begun) in
    let before = ap (λ (ts : List Task). total (in_task o) ts) (starts d hs e.stack first) in
    omega (arith, after, before, stopped_holds d o (drop 1 (agenda_of d e))))
    (λ last known. subst (λ (l : List code.Task). All (TakesKnownHandlers last) l) (sym stops.now) (below_known last stops.below stops.first (subst (λ (l : List code.Task). All (TakesKnownHandlers last) l) stops.was known))) nothing h
