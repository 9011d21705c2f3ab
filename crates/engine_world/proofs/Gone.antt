-- Which handlers are gone, and what emissions have of them.
use Rattle.std.proofs.Common.{◌≡◌, ◌∙◌, refl, sym, ap, append_assoc, ℕ, ◌<◌, ◌≤◌, ◌&&◌, ◌++◌, Bool, true, false, cond, not, map, nat_eq, nat_le, List, [], ◌∷◌, reverse, Option, None, Some, is_some, arith}
use Rattle.std.specs.List.{filter, flat_map, list_all}
use Rattle.std.proofs.lemmas.Bool.{false≢true}
use Rattle.std.proofs.lemmas.Bool.Decides.{nat_tests}
use Rattle.std.proofs.lemmas.List.Elements.{filter-append}
use Rattle.ui_machine.specs.Definition.{Definition}
use Rattle.ui_machine.specs.Definition.Properties.{has_flags}
use Rattle.ui_machine.specs.State.Bindings.{Binding, binding_of}
use Rattle.ui_machine.specs.State.Config as config
use Rattle.ui_machine.specs.State.Handlers.{Handler, handler_of}
use Rattle.ui_machine.specs.State.Tasks.{Emission, Emitting, PlanEntry, Task, class_handler, handler, transfer}
use Rattle.machine_laws.proofs.GoneProofs.{given_are_gone}
use Rattle.machine_laws.specs.GoneLaws.{AreGone, Gone, is_next, pruned, stays}
use Rattle.bindings.specs.Due.{entry_of}
use Rattle.bindings.specs.declared.due.DueTransfer.{DueTransfer}
use Rattle.signal_core.specs.Connected.{Numbered}
use Rattle.signal_core.specs.Emission.{Due, Walk, due, from_after, from_before, from_cleanup, from_last, from_transfers, is_ahead, of_class, of_handler, of_handlers, to_come, turns_from}
use Rattle.signal_core.specs.Laws.{entries_of, is_passed_over, number_at}
use Rattle.signal_core.specs.declared.stage.Stage.{Stage}
use Rattle.signal_core.specs.declared.stage.Stage.TheVariants as stages
use Rattle.signal_core.specs.declared.turn.Turn.TheVariants as turns
use Rattle.signal_core.proofs.Numbers.{numbered_lower, numbered_within}
use Rattle.engine_stack.specs.declared.stacks.Frames.{Frames}
use Rattle.engine_stack.specs.declared.task.Task as code
use Rattle.engine_stack.specs.declared.task.Task.TheVariants as tasks
use Rattle.engine_world.specs.Standing.{entries_due, gone_handlers, makes_no_transfer, past_turns, with_first}
use Rattle.engine_stack.specs.TaskView.{emission_of, entries_to_come, task_of, tasks_of}
use Rattle.engine_stack.specs.TransferView.{due_later, due_now, entries_due_of}
use Rattle.engine_stack.specs.declared.task.Transfers.{Transfers}
use Rattle.engine_world.proofs.Notified.{reverse-map}

-- ** who is gone

both_true : (a b : Bool) → (a && b) ≡ true → (a ≡ true) × (b ≡ true)
both_true true b h = (refl, h)
both_true false b h = absurd (false≢true h)

pub none_stands : (w : config.World) (number : ℕ) → (gone_handlers w).handlers number ≡ true → handler_of number w.handlers ≡ None
none_stands w number is = by (handler_of number w.handlers) (both_true (nat_le number w.last_handler) (not (is_some (handler_of number w.handlers))) is).1
  where
    by : (o : Option Handler) → not (is_some o) ≡ true → o ≡ None
    by None none = refl
    by (Some h) none = absurd (false≢true none)

-- they are passed over
pub gone_passed : (w : config.World) (number : ℕ) → (gone_handlers w).handlers number ≡ true → is_passed_over (handler_of number w.handlers) ≡ true
gone_passed w number is = ap is_passed_over (none_stands w number is)

-- handlers that are gone are so by the laws
pub handlers_are_gone : (w : config.World) → AreGone (gone_handlers w) w
handlers_are_gone w = record { handlers = (given_are_gone w).handlers; bindings = all w.bindings }
  where
    all : (bs : List Binding) → list_all (λ (b : Binding). not false) bs ≡ true
    all [] = refl
    all (b ∷ bs) = all bs

went : (b : Bool) → not b ≡ false → b ≡ true
went true e = refl
went false e = sym e

-- ** turns that are passed over

module _ (w : config.World) where
  -- what is left of some entries, and which of them stay
  still_due : List PlanEntry → List PlanEntry
  still_due entries = entries_due w entries

  abbrev staying : List PlanEntry → List PlanEntry
  staying entries = filter (stays (gone_handlers w)) entries

  -- an entry that is passed over, or stays
  one_left : (entry : PlanEntry) (passed : Bool) → ((es : List PlanEntry) → still_due (entry ∷ es) ≡ cond passed (still_due es) (entry ∷ es))
      → (stays (gone_handlers w) entry ≡ false → passed ≡ true) → (entries : List PlanEntry) → staying (still_due entries) ≡ still_due (staying entries) → staying (still_due (entry ∷ entries)) ≡ still_due (staying (entry ∷ entries))
  one_left entry passed is over entries same = ap staying (is entries) ∙ by passed (stays (gone_handlers w) entry) refl refl
    where
      again : (p : Bool) → passed ≡ p → still_due (entry ∷ staying entries) ≡ cond p (still_due (staying entries)) (entry ∷ staying entries)
      again p e = is (staying entries) ∙ ap (λ b. cond b (still_due (staying entries)) (entry ∷ staying entries)) e

      by : (p s : Bool) → passed ≡ p → stays (gone_handlers w) entry ≡ s → staying (cond p (still_due entries) (entry ∷ entries)) ≡ still_due (cond s (entry ∷ staying entries) (staying entries))
      by true true e f = same ∙ sym (again true e)
      by true false e f = same
      by false true e f = ap (λ b. cond b (entry ∷ staying entries) (staying entries)) f ∙ sym (again false e)
      by false false e f = absurd (false≢true (sym e ∙ over f))

  -- what is passed over as an emission comes first is gone, blocked or setting, whether those that are gone were left out before or not
  pub left_stays : (entries : List PlanEntry) → staying (entries_due w entries) ≡ entries_due w (staying entries)
  unfolding still_due
  left_stays [] = refl
  left_stays (class_handler program cleanup ∷ entries) = refl
  left_stays (transfer number back ∷ entries) =
      one_left (transfer number back) (makes_no_transfer (binding_of number w.bindings)) (λ es. refl) (λ e. absurd (false≢true (sym e))) entries (left_stays entries)
  left_stays (handler number ∷ entries) =
      one_left (handler number) (is_passed_over (handler_of number w.handlers)) (λ es. refl) (λ e. gone_passed w number (went ((gone_handlers w).handlers number) e)) entries (left_stays entries)

  pub first_stays : (task : Task) → pruned (gone_handlers w) (past_turns w task) ≡ past_turns w (pruned (gone_handlers w) task)
  first_stays (Emitting e entries) = ap (Emitting e) (left_stays entries)
  first_stays task = refl

  pub with_first_stays : (agenda : List Task)
      → map (pruned (gone_handlers w)) (with_first w agenda) ≡ with_first w (map (pruned (gone_handlers w)) agenda)
  with_first_stays [] = refl
  with_first_stays (task ∷ rest) = ap (λ t. t ∷ map (pruned (gone_handlers w)) rest) (first_stays task)

  -- the first turn that is left is of none that is gone
  left_stands : (e : Emission) (rest : List Task) (entries : List PlanEntry) → is_next (gone_handlers w) (Emitting e (entries_due w entries) ∷ rest) ≡ false
  left_stands e rest [] = refl
  left_stands e rest (class_handler program cleanup ∷ entries) = refl
  left_stands e rest (transfer number back ∷ entries) = by (makes_no_transfer (binding_of number w.bindings)) (left_stands e rest entries)
    where
      by : (b : Bool) → is_next (gone_handlers w) (Emitting e (entries_due w entries) ∷ rest) ≡ false
          → is_next (gone_handlers w) (Emitting e (cond b (entries_due w entries) (transfer number back ∷ entries)) ∷ rest) ≡ false
      by true later = later
      by false later = refl
  left_stands e rest (handler number ∷ entries) = by (is_passed_over (handler_of number w.handlers)) refl (left_stands e rest entries)
    where
      stood : (g : Bool) → (gone_handlers w).handlers number ≡ g → is_passed_over (handler_of number w.handlers) ≡ false → g ≡ false
      stood true so free = absurd (false≢true (sym free ∙ gone_passed w number so))
      stood false not_so free = refl

      by : (b : Bool) → is_passed_over (handler_of number w.handlers) ≡ b → is_next (gone_handlers w) (Emitting e (entries_due w entries) ∷ rest) ≡ false
          → is_next (gone_handlers w) (Emitting e (cond b (entries_due w entries) (handler number ∷ entries)) ∷ rest) ≡ false
      by true passed later = later
      by false free later = stood ((gone_handlers w).handlers number) refl free

  pub first_stands : (agenda : List Task) → is_next (gone_handlers w) (with_first w agenda) ≡ false
  first_stands [] = refl
  first_stands (Emitting e entries ∷ rest) = left_stands e rest entries
  first_stands (task ∷ rest) = refl

-- ** what is to come, where some handlers go

-- of each of these handlers, whether it is gone
abbrev pub AreLeft : Gone → (Handler → Bool) → List Handler → Type 0
AreLeft gone keeps [] = Unit {0}
AreLeft gone keeps (h ∷ hs) = (not (gone.handlers h.number) ≡ keeps h) × AreLeft gone keeps hs

module _ (gone : Gone) (keeps : Handler → Bool) (of : List PlanEntry) (stay : filter (stays gone) of ≡ of) where
  abbrev kept_entries : List Due → List PlanEntry
  kept_entries dues = filter (stays gone) (flat_map (entries_of of) dues)

  -- the turns of two lists have the same entries, but for those that are gone
  abbrev Alike : List Due → List Due → Type 0
  Alike dues left = kept_entries dues ≡ flat_map (entries_of of) left

  flat-append : (xs ys : List Due) → flat_map (entries_of of) (xs ++ ys) ≡ flat_map (entries_of of) xs ++ flat_map (entries_of of) ys
  flat-append [] ys = refl
  flat-append (d ∷ xs) ys = ap (λ l. entries_of of d ++ l) (flat-append xs ys) ∙ sym (append_assoc (entries_of of d) (flat_map (entries_of of) xs) (flat_map (entries_of of) ys))

  alike_append : (xs ys us vs : List Due) → Alike xs us → Alike ys vs → Alike (xs ++ ys) (us ++ vs)
  alike_append xs ys us vs first later =
      ap (filter (stays gone)) (flat-append xs ys)
      ∙ filter-append (stays gone) (flat_map (entries_of of) xs) (flat_map (entries_of of) ys)
      ∙ ap (λ l. l ++ kept_entries ys) first ∙ ap (λ l. flat_map (entries_of of) us ++ l) later ∙ sym (flat-append us vs)

  class_alike : (runs : Bool) (program : Option ℕ) (next : Stage) → Alike (of_class runs program next) (of_class runs program next)
  class_alike runs None next = refl
  class_alike true (Some program) next = refl
  class_alike false (Some program) next = refl

  handlers_alike : (stage : ℕ → Stage) → ((n : ℕ) → number_at (stage n) ≡ n) → (meant : Handler → Bool) (hs : List Handler) → AreLeft gone keeps hs
      → Alike (map (of_handler stage) (filter meant hs)) (map (of_handler stage) (filter meant (filter keeps hs)))
  handlers_alike stage same meant [] left = refl
  handlers_alike stage same meant (h ∷ hs) left = by (meant h) refl (keeps h) left.0 (handlers_alike stage same meant hs left.1)
    where
      whole : List PlanEntry
      whole = flat_map (entries_of of) (map (of_handler stage) (filter meant hs))

      fewer : List PlanEntry
      fewer = flat_map (entries_of of) (map (of_handler stage) (filter meant (filter keeps hs)))

      Rest : Type 0
      Rest = filter (stays gone) whole ≡ fewer

      by : (m : Bool) → meant h ≡ m → (k : Bool) → not (gone.handlers h.number) ≡ k → Rest
          → Alike (map (of_handler stage) (cond m (h ∷ filter meant hs) (filter meant hs))) (map (of_handler stage) (filter meant (cond k (h ∷ filter keeps hs) (filter keeps hs))))
      by true so true stays_on rest =
          ap (λ n. filter (stays gone) (handler n ∷ whole)) (same h.number)
          ∙ ap (λ b. cond b (handler h.number ∷ filter (stays gone) whole) (filter (stays gone) whole)) stays_on
          ∙ ap (λ l. handler h.number ∷ l) rest
          ∙ ap (λ n. handler n ∷ fewer) (sym (same h.number))
          ∙ ap (λ b. flat_map (entries_of of) (map (of_handler stage) (cond b (h ∷ filter meant (filter keeps hs)) (filter meant (filter keeps hs))))) (sym so)
      by true so false goes rest =
          ap (λ n. filter (stays gone) (handler n ∷ whole)) (same h.number)
          ∙ ap (λ b. cond b (handler h.number ∷ filter (stays gone) whole) (filter (stays gone) whole)) goes ∙ rest
      by false not_so true stays_on rest = rest ∙ ap (λ b. flat_map (entries_of of) (map (of_handler stage) (cond b (h ∷ filter meant (filter keeps hs)) (filter meant (filter keeps hs))))) (sym not_so)
      by false not_so false goes rest = rest

  module _ (w : Walk) (hs : List Handler) (left : AreLeft gone keeps hs) where
    fewer_now : List Handler
    fewer_now = filter keeps hs

    cleanup_alike : Alike (from_cleanup w) (from_cleanup w)
    cleanup_alike = class_alike (has_flags 4 w.flags) w.class_program stages.Over

    after_alike : (given : ℕ) → Alike (from_after given w hs) (from_after given w (filter keeps hs))
    after_alike given =
        alike_append (of_handlers w given true stages.After hs) (from_cleanup w) (of_handlers w given true stages.After (filter keeps hs)) (from_cleanup w)
        (handlers_alike stages.After (λ n. refl) (is_ahead w given true) hs left) cleanup_alike

    last_alike : Alike (from_last w hs) (from_last w (filter keeps hs))
    last_alike =
        alike_append (of_class (has_flags 2 w.flags) w.class_program (stages.After 0)) (from_after 0 w hs) (of_class (has_flags 2 w.flags) w.class_program (stages.After 0)) (from_after 0 w (filter keeps hs))
        (class_alike (has_flags 2 w.flags) w.class_program (stages.After 0)) (after_alike 0)

    before_alike : (given : ℕ) → Alike (from_before given w hs) (from_before given w (filter keeps hs))
    before_alike given =
        alike_append (of_handlers w given false stages.Before hs) (from_last w hs) (of_handlers w given false stages.Before (filter keeps hs)) (from_last w (filter keeps hs))
        (handlers_alike stages.Before (λ n. refl) (is_ahead w given false) hs left) last_alike

    transfers_alike : Alike (from_transfers w hs) (from_transfers w (filter keeps hs))
    transfers_alike = by (nat_eq w.signal 0) (before_alike 0)
      where
        by : (b : Bool) → Alike (from_before 0 w hs) (from_before 0 w (filter keeps hs))
            → Alike (cond b (due turns.Transfers (stages.Before 0) ∷ []) [] ++ from_before 0 w hs) (cond b (due turns.Transfers (stages.Before 0) ∷ []) [] ++ from_before 0 w (filter keeps hs))
        by true rest =
            filter-append (stays gone) of (flat_map (entries_of of) (from_before 0 w hs))
            ∙ ap (λ l. l ++ kept_entries (from_before 0 w hs)) stay ∙ ap (λ l. of ++ l) rest
        by false rest = rest

    turns_alike : (stage : Stage) → Alike (turns_from stage w hs) (turns_from stage w (filter keeps hs))
    turns_alike stages.First =
        alike_append (of_class (has_flags 1 w.flags) w.class_program stages.Transfers) (from_transfers w hs) (of_class (has_flags 1 w.flags) w.class_program stages.Transfers) (from_transfers w (filter keeps hs))
        (class_alike (has_flags 1 w.flags) w.class_program stages.Transfers) transfers_alike
    turns_alike stages.Transfers = transfers_alike
    turns_alike (stages.Before given) = before_alike given
    turns_alike stages.Last = last_alike
    turns_alike (stages.After given) = after_alike given
    turns_alike stages.Cleanup = cleanup_alike
    turns_alike stages.Over = refl

    turns_left : kept_entries (to_come w hs) ≡ flat_map (entries_of of) (to_come w (filter keeps hs))
    turns_left = turns_alike w.stage

-- transfers stay, where only handlers are gone
abbrev pub OnlyHandlers : Gone → Type 0
OnlyHandlers gone = (number : ℕ) → gone.bindings number ≡ false

pub transfers_stay : (gone : Gone) → OnlyHandlers gone → (due : List DueTransfer) → filter (stays gone) (entries_due_of due) ≡ entries_due_of due
transfers_stay gone free [] = refl
transfers_stay gone free (t ∷ due) =
    ap (λ b. cond (not b) (entry_of t ∷ filter (stays gone) (entries_due_of due)) (filter (stays gone) (entries_due_of due))) (free t.number)
    ∙ ap (λ l. entry_of t ∷ l) (transfers_stay gone free due)

module _ (gone : Gone) (free : OnlyHandlers gone) (keeps : Handler → Bool) where
  entries_alike : (w : Walk) (ts : Transfers) (hs : List Handler) → AreLeft gone keeps hs → filter (stays gone) (entries_to_come w hs ts) ≡ entries_to_come w (filter keeps hs) ts
  entries_alike w ts hs left =
      let now = entries_due_of (due_now ts) in
      let later = entries_due_of (due_later ts) in
      let turns = flat_map (entries_of later) (to_come w hs) in
      filter-append (stays gone) now turns
      ∙ ap (λ l. l ++ filter (stays gone) turns) (transfers_stay gone free (due_now ts))
      ∙ ap (λ l. now ++ l) (turns_left gone keeps later (transfers_stay gone free (due_later ts)) w hs left)

  module _ (d : Definition) (hs : List Handler) (left : AreLeft gone keeps hs) where
    task_alike : (t : code.Task) → pruned gone (task_of d hs t) ≡ task_of d (filter keeps hs) t
    task_alike (tasks.Setting id slot v) = refl
    task_alike (tasks.Notifying id slot) = refl
    task_alike (tasks.Beginning e) = refl
    task_alike (tasks.Emitting f) = ap (Emitting (emission_of f.cursor f.args.items f.by_event)) (entries_alike f.cursor f.transfers hs left)
    task_alike (tasks.Running frame) = refl
    task_alike (tasks.Thawing id slots) = refl
    task_alike (tasks.Constructing construction) = refl
    task_alike (tasks.Building place forwards) = refl
    task_alike (tasks.Adopting place forwards) = refl
    task_alike (tasks.Transferring number back) = refl
    task_alike (tasks.Unsetting number) = refl
    task_alike (tasks.Binding number) = refl
    task_alike (tasks.Connecting place number) = refl
    task_alike (tasks.Answering source) = refl
    task_alike (tasks.Calling call) = refl
    task_alike (tasks.Due source) = refl
    task_alike (tasks.Handling event) = refl

    all_alike : (ts : List code.Task) → map (pruned gone) (map (task_of d hs) ts) ≡ map (task_of d (filter keeps hs)) ts
    all_alike [] = refl
    all_alike (t ∷ ts) = ap (λ x. x ∷ map (pruned gone) (map (task_of d hs) ts)) (task_alike t) ∙ ap (λ l. task_of d (filter keeps hs) t ∷ l) (all_alike ts)

    -- the tasks of the engine, where some handlers are gone
    pub tasks_alike : (s : Frames) → map (pruned gone) (tasks_of d hs s) ≡ tasks_of d (filter keeps hs) s
    tasks_alike s =
        ap (map (pruned gone)) (reverse-map (task_of d hs) s.tasks.items) ∙ all_alike (reverse s.tasks.items)
        ∙ sym (reverse-map (task_of d (filter keeps hs)) s.tasks.items)

-- ** who stays, by the handlers that are kept

other_number : (n m : ℕ) → n < m → nat_eq n m ≡ false
other_number n m less = grind (arith, nat_tests)

own_number : (n : ℕ) → nat_eq n n ≡ true
own_number n = grind (arith, nat_tests)

-- a number below all of them is none's
below_none : (keeps : Handler → Bool) (number : ℕ) (hs : List Handler) (last : ℕ) → Numbered number hs last → handler_of number (filter keeps hs) ≡ None
below_none keeps number [] last n = refl
below_none keeps number (h ∷ hs) last n = by (keeps h) (below_none keeps number hs last (numbered_lower number h.number hs last (omega (arith, n.0)) n.1))
  where
    differs : nat_eq h.number number ≡ false
    differs = let less : number < h.number = n.0 in grind (arith, nat_tests)

    by : (b : Bool) → handler_of number (filter keeps hs) ≡ None → handler_of number (cond b (h ∷ filter keeps hs) (filter keeps hs)) ≡ None
    by true rest = ap (λ c. cond c (Some h) (handler_of number (filter keeps hs))) differs ∙ rest
    by false rest = rest

-- whether one that was is among those that are kept
abbrev StandAs : (Handler → Bool) → List Handler → List Handler → Type 0
StandAs keeps all [] = Unit {0}
StandAs keeps all (h ∷ hs) = (is_some (handler_of h.number (filter keeps all)) ≡ keeps h) × StandAs keeps all hs

stand_behind : (keeps : Handler → Bool) (first : Handler) (all hs : List Handler) (last : ℕ) → Numbered first.number hs last → StandAs keeps all hs → StandAs keeps (first ∷ all) hs
stand_behind keeps first all [] last n s = tt
stand_behind keeps first all (h ∷ hs) last n s = (
  by (keeps first) ∙ s.0,
  stand_behind keeps first all hs last (numbered_lower first.number h.number hs last (omega (arith, n.0)) n.1) s.1,
)
  where
    by : (b : Bool) → is_some (handler_of h.number (cond b (first ∷ filter keeps all) (filter keeps all))) ≡ is_some (handler_of h.number (filter keeps all))
    by true = ap (λ c. is_some (cond c (Some first) (handler_of h.number (filter keeps all)))) (other_number first.number h.number n.0)
    by false = refl

stand_as : (keeps : Handler → Bool) (above : ℕ) (hs : List Handler) (last : ℕ) → Numbered above hs last → StandAs keeps hs hs
stand_as keeps above [] last n = tt
stand_as keeps above (h ∷ hs) last n = (
  by (keeps h),
  stand_behind keeps h hs hs last n.1 (stand_as keeps h.number hs last n.1),
)
  where
    by : (b : Bool) → is_some (handler_of h.number (cond b (h ∷ filter keeps hs) (filter keeps hs))) ≡ b
    by true = ap (λ c. is_some (cond c (Some h) (handler_of h.number (filter keeps hs)))) (own_number h.number)
    by false = ap (λ o. is_some o) (below_none keeps h.number hs last n.1)

are_left : (keeps : Handler → Bool) (v : config.World) (all hs : List Handler) (above : ℕ) → v.handlers ≡ filter keeps all → Numbered above hs v.last_handler → StandAs keeps all hs
    → AreLeft (gone_handlers v) keeps hs
are_left keeps v all [] above is n s = tt
are_left keeps v all (h ∷ hs) above is n s = (
  ap (λ (hs : List Handler). not (nat_le h.number v.last_handler && not (is_some (handler_of h.number hs)))) is
      ∙ ap (λ b. not (b && not (is_some (handler_of h.number (filter keeps all))))) within
      ∙ ap (λ b. not (not b)) s.0 ∙ twice (keeps h),
  are_left keeps v all hs h.number is n.1 s.1,
)
  where
    within : nat_le h.number v.last_handler ≡ true
    within = let less : h.number ≤ v.last_handler = numbered_within h.number hs v.last_handler n.1 in grind (arith, nat_tests)

    twice : (b : Bool) → not (not b) ≡ b
    twice true = refl
    twice false = refl

-- in a world where some are kept
pub kept_left : (keeps : Handler → Bool) (v : config.World) (hs : List Handler) → v.handlers ≡ filter keeps hs → Numbered 0 hs v.last_handler → AreLeft (gone_handlers v) keeps hs
kept_left keeps v hs is n = are_left keeps v hs hs 0 is n (stand_as keeps 0 hs v.last_handler n)

-- ** where none goes

-- the tasks of the engine have no turn that is gone
all_kept : (p : Handler → Bool) (hs : List Handler) → list_all p hs ≡ true → filter p hs ≡ hs
all_kept p [] all = refl
all_kept p (h ∷ hs) all =
    let parts = both_true (p h) (list_all p hs) all in
    ap (λ b. cond b (h ∷ filter p hs) (filter p hs)) parts.0 ∙ ap (λ l. h ∷ l) (all_kept p hs parts.1)

left_by_itself : (gone : Gone) (hs : List Handler) → AreLeft gone (λ (h : Handler). not (gone.handlers h.number)) hs
left_by_itself gone [] = tt
left_by_itself gone (h ∷ hs) = (refl, left_by_itself gone hs)

pub none_gone : (d : Definition) (gone : Gone) → OnlyHandlers gone → (hs : List Handler) (s : Frames) → list_all (λ (h : Handler). not (gone.handlers h.number)) hs ≡ true → map (pruned gone) (tasks_of d hs s) ≡ tasks_of d hs s
none_gone d gone free hs s apart =
    tasks_alike gone free (λ (h : Handler). not (gone.handlers h.number)) d hs (left_by_itself gone hs) s
    ∙ ap (λ (l : List Handler). tasks_of d l s) (all_kept (λ (h : Handler). not (gone.handlers h.number)) hs apart)
