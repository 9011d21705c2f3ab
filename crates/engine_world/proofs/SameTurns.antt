-- Handlers that change without another turn: they are blocked or free, or were connected after an emission began.
use Rattle.std.proofs.Common.{◌≡◌, ◌<◌, ◌≤◌, ◌∙◌, ◌&&◌, not, nat_le, nat_lt, refl, sym, ap, append_assoc, ℕ, ◌++◌, Bool, true, false, cond, map, List, [], ◌∷◌, reverse, arith}
use Rattle.std.proofs.lemmas.Bool.Decides.{nat_tests}
use Rattle.std.proofs.lemmas.List.Elements.{All-cons, All-head, All-nil, All-tail}
use Rattle.std.specs.Prelude.{All}
use Rattle.ui_machine.specs.Rules.EmissionPlan.{runs_for}
use Rattle.engine_stack.specs.KnownHandlers.{AllTakeKnownHandlers, TakesKnownHandlers}
use Rattle.std.specs.List.{flat_map, filter}
use Rattle.ui_machine.specs.Definition.{Definition}
use Rattle.ui_machine.specs.Definition.Properties.{has_flags}
use Rattle.ui_machine.specs.State.Handlers.{Handler}
use Rattle.ui_machine.specs.State.Tasks.{PlanEntry, Emitting, handler}
use Rattle.ui_machine.specs.State.Tasks as config
use Rattle.signal_core.specs.Emission.{Due, Walk, from_after, from_before, from_cleanup, from_last, from_transfers, is_ahead, of_bindings, of_class, of_handler, of_handlers, turns_from}
use Rattle.signal_core.specs.Laws.{entries_of, number_at}
use Rattle.signal_core.specs.declared.stage.Stage.{Stage}
use Rattle.signal_core.specs.declared.stage.Stage.TheVariants as stages
use Rattle.engine_stack.specs.TaskView.{emission_of, entries_to_come, task_of, tasks_of}
use Rattle.engine_stack.specs.TransferView.{due_later, due_now, entries_due_of}
use Rattle.engine_stack.specs.declared.task.Transfers.{Transfers}
use Rattle.engine_stack.specs.declared.stacks.Frames.{Frames}
use Rattle.engine_stack.specs.declared.task.Task as code
use Rattle.engine_stack.specs.declared.task.Task.TheVariants as tasks

-- the entries of these turns, where the bindings have these transfers
abbrev pub entries : List PlanEntry → List Due → List PlanEntry
entries transfers dues = flat_map (entries_of transfers) dues

module _ (of : List PlanEntry) where
  pub both_entries : (xs ys : List Due) → entries of (xs ++ ys) ≡ entries of xs ++ entries of ys
  both_entries [] ys = refl
  both_entries (x ∷ xs) ys = ap (λ l. entries_of of x ++ l) (both_entries xs ys) ∙ sym (append_assoc (entries_of of x) (entries of xs) (entries of ys))

  same_append : (xs ys us vs : List Due) → entries of xs ≡ entries of us → entries of ys ≡ entries of vs → entries of (xs ++ ys) ≡ entries of (us ++ vs)
  same_append xs ys us vs first later =
      both_entries xs ys ∙ ap (λ l. l ++ entries of ys) first ∙ ap (λ l. entries of us ++ l) later ∙ sym (both_entries us vs)

-- each stage has the same turns of these handlers and of those
abbrev pub SameAhead : List PlanEntry → Walk → List Handler → List Handler → Type 0
SameAhead of w hs ks = (given : ℕ) (after : Bool) (stage : ℕ → Stage) → entries of (of_handlers w given after stage hs) ≡ entries of (of_handlers w given after stage ks)

module _ (of : List PlanEntry) (w : Walk) (hs ks : List Handler) (same : SameAhead of w hs ks) where
  after_same : (given : ℕ) → entries of (from_after given w hs) ≡ entries of (from_after given w ks)
  after_same given =
      same_append of (of_handlers w given true stages.After hs) (from_cleanup w) (of_handlers w given true stages.After ks) (from_cleanup w) (same given true stages.After) refl

  last_same : entries of (from_last w hs) ≡ entries of (from_last w ks)
  last_same =
      let class = of_class (has_flags 2 w.flags) w.class_program (stages.After 0) in
      same_append of class (from_after 0 w hs) class (from_after 0 w ks) refl (after_same 0)

  before_same : (given : ℕ) → entries of (from_before given w hs) ≡ entries of (from_before given w ks)
  before_same given =
      same_append of (of_handlers w given false stages.Before hs) (from_last w hs) (of_handlers w given false stages.Before ks) (from_last w ks) (same given false stages.Before) last_same

  transfers_same : entries of (from_transfers w hs) ≡ entries of (from_transfers w ks)
  transfers_same = same_append of (of_bindings w) (from_before 0 w hs) (of_bindings w) (from_before 0 w ks) refl (before_same 0)

  turns_same : (stage : Stage) → entries of (turns_from stage w hs) ≡ entries of (turns_from stage w ks)
  turns_same stages.First =
      let class = of_class (has_flags 1 w.flags) w.class_program stages.Transfers in
      same_append of class (from_transfers w hs) class (from_transfers w ks) refl transfers_same
  turns_same stages.Transfers = transfers_same
  turns_same (stages.Before given) = before_same given
  turns_same stages.Last = last_same
  turns_same (stages.After given) = after_same given
  turns_same stages.Cleanup = refl
  turns_same stages.Over = refl

  entries_alike : entries of (turns_from w.stage w hs) ≡ entries of (turns_from w.stage w ks)
  entries_alike = turns_same w.stage

-- and so all that is to come is the same
pub entries_same : (w : Walk) (ts : Transfers) (hs ks : List Handler) → SameAhead (entries_due_of (due_later ts)) w hs ks → entries_to_come w hs ts ≡ entries_to_come w ks ts
entries_same w ts hs ks same = ap (λ l. entries_due_of (due_now ts) ++ l) (entries_alike (entries_due_of (due_later ts)) w hs ks same)

-- ** tasks

-- what holds of the emission of a task that goes on
abbrev pub OfEmission : (Walk → Transfers → Type 0) → code.Task → Type 0
OfEmission P (tasks.Emitting f) = P f.cursor f.transfers
OfEmission P _ = Unit {0}

abbrev pub OfEmissions : (Walk → Transfers → Type 0) → List code.Task → Type 0
OfEmissions P [] = Unit {0}
OfEmissions P (t ∷ ts) = OfEmission P t × OfEmissions P ts

module _ (d : Definition) (hs ks : List Handler) where
  abbrev Same : Walk → Transfers → Type 0
  Same w ts = entries_to_come w hs ts ≡ entries_to_come w ks ts

  task_same : (t : code.Task) → OfEmission Same t → task_of d hs t ≡ task_of d ks t
  task_same (tasks.Setting id slot v) is = refl
  task_same (tasks.Notifying id slot) is = refl
  task_same (tasks.Beginning e) is = refl
  task_same (tasks.Emitting f) is = ap (Emitting (emission_of f.cursor f.args.items f.by_event)) is
  task_same (tasks.Running frame) is = refl
  task_same (tasks.Thawing id slots) is = refl
  task_same (tasks.Constructing construction) is = refl
  task_same (tasks.Building place forwards) is = refl
  task_same (tasks.Adopting place forwards) is = refl
  task_same (tasks.Transferring number back) is = refl
  task_same (tasks.Unsetting number) is = refl
  task_same (tasks.Binding number) is = refl
  task_same (tasks.Connecting place number) is = refl
  task_same (tasks.Answering source) is = refl
  task_same (tasks.Calling call) is = refl
  task_same (tasks.Due source) is = refl
  task_same (tasks.Handling event) is = refl

  all_same : (ts : List code.Task) → OfEmissions Same ts → map (task_of d hs) ts ≡ map (task_of d ks) ts
  all_same [] is = refl
  all_same (t ∷ ts) is = ap (λ x. x ∷ map (task_of d hs) ts) (task_same t is.0) ∙ ap (λ l. task_of d ks t ∷ l) (all_same ts is.1)

  pub tasks_same : (s : Frames) → OfEmissions Same s.tasks.items → tasks_of d hs s ≡ tasks_of d ks s
  tasks_same s is = ap (λ (l : List config.Task). reverse l) (all_same s.tasks.items is)

-- ** blocks

-- a handler that changes, but for its blocks, in nothing
abbrev pub OnlyBlocks : (Handler → Handler) → Type 0
OnlyBlocks change = (h : Handler) → change h ≡ record h { blocks = (change h).blocks }

-- some of them change so
pub some_blocks : (change : Handler → Handler) (meant : Handler → Bool) → OnlyBlocks change → OnlyBlocks (λ h. cond (meant h) (change h) h)
some_blocks change meant only h = by (meant h)
  where
    by : (b : Bool) → cond b (change h) h ≡ record h { blocks = (cond b (change h) h).blocks }
    by true = only h
    by false = refl

module _ (of : List PlanEntry) (change : Handler → Handler) (only : OnlyBlocks change) (w : Walk) (given : ℕ) (after : Bool) (stage : ℕ → Stage) where
  ahead_same : (h : Handler) → is_ahead w given after (change h) ≡ is_ahead w given after h
  ahead_same h = ap (is_ahead w given after) (only h)

  handlers_same : (hs : List Handler) → entries of (of_handlers w given after stage (map change hs)) ≡ entries of (of_handlers w given after stage hs)
  handlers_same [] = refl
  handlers_same (h ∷ hs) =
      ap (λ b. entries of (map (of_handler stage) (cond b (change h ∷ filter (is_ahead w given after) (map change hs)) (filter (is_ahead w given after) (map change hs))))) (ahead_same h)
      ∙ by (is_ahead w given after h) (handlers_same hs)
    where
      changed : List PlanEntry
      changed = entries of (of_handlers w given after stage (map change hs))

      by : (b : Bool) → entries of (of_handlers w given after stage (map change hs)) ≡ entries of (of_handlers w given after stage hs)
          → entries of (map (of_handler stage) (cond b (change h ∷ filter (is_ahead w given after) (map change hs)) (filter (is_ahead w given after) (map change hs))))
          ≡ entries of (map (of_handler stage) (cond b (h ∷ filter (is_ahead w given after) hs) (filter (is_ahead w given after) hs)))
      by true rest = ap (λ (k : Handler). handler (number_at (stage k.number)) ∷ changed) (only h) ∙ ap (λ l. handler (number_at (stage h.number)) ∷ l) rest
      by false rest = rest

-- the tasks stay
module _ (d : Definition) (change : Handler → Handler) (only : OnlyBlocks change) (hs : List Handler) where
  all_turns : (ts : List code.Task) → OfEmissions (Same d (map change hs) hs) ts
  all_turns [] = tt
  all_turns (t ∷ ts) = (by t, all_turns ts)
    where
      by : (t : code.Task) → OfEmission (Same d (map change hs) hs) t
      by (tasks.Emitting f) = entries_same f.cursor f.transfers (map change hs) hs (λ given after stage. handlers_same (entries_due_of (due_later f.transfers)) change only f.cursor given after stage hs)
      by (tasks.Setting id slot v) = tt
      by (tasks.Notifying id slot) = tt
      by (tasks.Beginning e) = tt
      by (tasks.Running frame) = tt
      by (tasks.Thawing id slots) = tt
      by (tasks.Constructing construction) = tt
      by (tasks.Building place forwards) = tt
      by (tasks.Adopting place forwards) = tt
      by (tasks.Transferring number back) = tt
      by (tasks.Unsetting number) = tt
      by (tasks.Binding number) = tt
      by (tasks.Connecting place number) = tt
      by (tasks.Answering source) = tt
      by (tasks.Calling call) = tt
      by (tasks.Due source) = tt
      by (tasks.Handling event) = tt

  pub blocks_same : (s : Frames) → tasks_of d (map change hs) s ≡ tasks_of d hs s
  blocks_same s = tasks_same d (map change hs) hs s (all_turns s.tasks.items)

-- ** a handler more

-- one that is connected after an emission began has no turn in it
module _ (of : List PlanEntry) (w : Walk) (h : Handler) (later : w.greatest < h.number) (given : ℕ) (after : Bool) (stage : ℕ → Stage) where
  not_ahead : is_ahead w given after h ≡ false
  not_ahead = by (nat_lt given h.number)
    where
      too_great : nat_le h.number w.greatest ≡ false
      too_great = grind (arith, nat_tests)

      by : (b : Bool) → ((b && nat_le h.number w.greatest) && (runs_for w.object w.signal w.detail h && cond after h.after (not h.after))) ≡ false
      by true = ap (λ x. x && (runs_for w.object w.signal w.detail h && cond after h.after (not h.after))) too_great
      by false = refl

  ahead_without : (hs : List Handler) → filter (is_ahead w given after) (hs ++ h ∷ []) ≡ filter (is_ahead w given after) hs
  ahead_without [] = ap (λ b. cond b (h ∷ []) []) not_ahead
  ahead_without (k ∷ hs) = ap (λ l. cond (is_ahead w given after k) (k ∷ l) l) (ahead_without hs)

  later_same : (hs : List Handler) → entries of (of_handlers w given after stage (hs ++ h ∷ [])) ≡ entries of (of_handlers w given after stage hs)
  later_same hs = ap (λ l. entries of (map (of_handler stage) l)) (ahead_without hs)

-- the tasks stay
module _ (d : Definition) (h : Handler) (hs : List Handler) (last : ℕ) (later : last < h.number) where
  begun_turns : (ts : List code.Task) → All (TakesKnownHandlers last) ts → OfEmissions (Same d (hs ++ h ∷ []) hs) ts
  begun_turns [] begun = tt
  begun_turns (t ∷ ts) begun = (by t (All-head (TakesKnownHandlers last) t ts begun), begun_turns ts (All-tail (TakesKnownHandlers last) t ts begun))
    where
      by : (t : code.Task) → TakesKnownHandlers last t → OfEmission (Same d (hs ++ h ∷ []) hs) t
      by (tasks.Emitting f) begun =
          let b : f.cursor.greatest ≤ last = begun.0 in
          entries_same f.cursor f.transfers (hs ++ h ∷ []) hs (λ given after stage. later_same (entries_due_of (due_later f.transfers)) f.cursor h (omega (arith, later, b)) given after stage hs)
      by (tasks.Setting id slot v) begun = tt
      by (tasks.Notifying id slot) begun = tt
      by (tasks.Beginning e) begun = tt
      by (tasks.Running frame) begun = tt
      by (tasks.Thawing id slots) begun = tt
      by (tasks.Constructing construction) begun = tt
      by (tasks.Building place forwards) begun = tt
      by (tasks.Adopting place forwards) begun = tt
      by (tasks.Transferring number back) begun = tt
      by (tasks.Unsetting number) begun = tt
      by (tasks.Binding number) begun = tt
      by (tasks.Connecting place number) begun = tt
      by (tasks.Answering source) begun = tt
      by (tasks.Calling call) begun = tt
      by (tasks.Due source) begun = tt
      by (tasks.Handling event) begun = tt

  pub connected_same : (s : Frames) → AllTakeKnownHandlers last s → tasks_of d (hs ++ h ∷ []) s ≡ tasks_of d hs s
  connected_same s begun = tasks_same d (hs ++ h ∷ []) hs s (begun_turns s.tasks.items begun)

-- what was begun with numbers up to one was so with numbers up to a greater one
pub begun_more : (last more : ℕ) → last ≤ more → (s : Frames) → AllTakeKnownHandlers last s → AllTakeKnownHandlers more s
begun_more last more few s begun = all_more s.tasks.items begun
  where
    one_more : (t : code.Task) → TakesKnownHandlers last t → TakesKnownHandlers more t
    one_more (tasks.Emitting f) begun = let b : f.cursor.greatest ≤ last = begun.0 in (omega (arith, few, b), begun.1)
    one_more (tasks.Setting id slot v) begun = tt
    one_more (tasks.Notifying id slot) begun = tt
    one_more (tasks.Beginning e) begun = tt
    one_more (tasks.Running frame) begun = tt
    one_more (tasks.Thawing id slots) begun = tt
    one_more (tasks.Constructing construction) begun = tt
    one_more (tasks.Building place forwards) begun = tt
    one_more (tasks.Adopting place forwards) begun = tt
    one_more (tasks.Transferring number back) begun = tt
    one_more (tasks.Unsetting number) begun = tt
    one_more (tasks.Binding number) begun = tt
    one_more (tasks.Connecting place number) begun = tt
    one_more (tasks.Answering source) begun = tt
    one_more (tasks.Calling call) begun = tt
    one_more (tasks.Due source) begun = tt
    one_more (tasks.Handling event) begun = tt

    all_more : (ts : List code.Task) → All (TakesKnownHandlers last) ts → All (TakesKnownHandlers more) ts
    all_more [] begun = All-nil (TakesKnownHandlers more)
    all_more (t ∷ ts) begun = All-cons (TakesKnownHandlers more) t ts (one_more t (All-head (TakesKnownHandlers last) t ts begun)) (all_more ts (All-tail (TakesKnownHandlers last) t ts begun))
