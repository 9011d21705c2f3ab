-- An emission that is the first task goes on in its place.
use Rattle.std.proofs.Common.{◌≡◌, ℕ, suc, ◌-◌, IsSome, is_some, vec_len, List, [], ◌∷◌, ◌++◌, length, map, drop, reverse, slice_get, slice_set, Option, None, Some, option_and_then, refl, ap, sym, subst, ◌∙◌, arith}
use Rattle.std.specs.Prelude.{All}
use Rattle.std.proofs.lemmas.List.{reverse-append}
use Rattle.std.proofs.lemmas.List.Elements.{All-head, All-tail}
use Rattle.ui_machine.specs.Definition as machine
use Rattle.ui_machine.specs.State.Handlers.{Handler}
use Rattle.ui_machine.specs.State.Tasks as config
use Rattle.engine_stack.specs.FirstEmissions.{EmitsKnown, Emitted, IsReemitted, emission_in, emitted_in, emitted_of, emitting, first_emission, stack_emission}
use Rattle.engine_stack.specs.KnownHandlers.{AllTakeKnownHandlers, TakesKnownHandlers}
use Rattle.engine_stack.specs.TaskView.{task_of, tasks_of}
use Rattle.engine_stack.specs.declared.emission_frames.EmissionFrame.{EmissionFrame}
use Rattle.engine_stack.specs.declared.stacks.Frames.{Frames}
use Rattle.engine_stack.specs.declared.task.Task.{Task}
use Rattle.engine_stack.specs.declared.task.Task.TheVariants as tasks
use Rattle.engine_stack.proofs.FirstPrograms.{Ending, IsKeptSo, begun_written, found, found_written, kept_last, last_gives, last_has, starts_by, tasks_written}

-- ** the first emission

pub is_emitting : (t : Task) (f : EmissionFrame) → emission_in t ≡ Some f → t ≡ tasks.Emitting f
is_emitting (tasks.Emitting g) f is = let same : g ≡ f = cc is in ap (λ x. tasks.Emitting x) same
is_emitting (tasks.Setting id slot v) f is = absurd (cc is)
is_emitting (tasks.Notifying id slot) f is = absurd (cc is)
is_emitting (tasks.Beginning e) f is = absurd (cc is)
is_emitting (tasks.Running frame) f is = absurd (cc is)
is_emitting (tasks.Transferring number back) f is = absurd (cc is)
is_emitting (tasks.Unsetting number) f is = absurd (cc is)
is_emitting (tasks.Thawing id slots) f is = absurd (cc is)
is_emitting (tasks.Constructing construction) f is = absurd (cc is)
is_emitting (tasks.Building place forwards) f is = absurd (cc is)
is_emitting (tasks.Adopting place forwards) f is = absurd (cc is)
is_emitting (tasks.Binding number) f is = absurd (cc is)
is_emitting (tasks.Connecting place number) f is = absurd (cc is)
is_emitting (tasks.Answering source) f is = absurd (cc is)
is_emitting (tasks.Calling call) f is = absurd (cc is)
is_emitting (tasks.Handling event) f is = absurd (cc is)
is_emitting (tasks.Due source) f is = absurd (cc is)

-- the tasks of a list whose last one is an emission
pub record Emits (items : List Task) (f : EmissionFrame) : Type 0 where
  pub front : List Task
  pub whole : items ≡ front ++ tasks.Emitting f ∷ []

pub emits : (items : List Task) (f : EmissionFrame) → first_emission items ≡ Some f → Emits items f
emits items f is =
    let last = last_has emission_in items f is in
    record { front = last.front; whole = last.whole ∙ ap (λ (t : Task). last.front ++ t ∷ []) (is_emitting last.task f last.has) }

-- the emission of a frame that was found
pub emission_found : (s : Frames) (f : EmissionFrame) → first_emission s.tasks.items ≡ Some f → stack_emission s ≡ emitted_of f
unfolding stack_emission
emission_found s f is = ap (λ (o : Option EmissionFrame). emitted_in o) is

module _ (s : Frames) (f : EmissionFrame) (is : first_emission s.tasks.items ≡ Some f) where
  tasks_so : (d : machine.Definition) (hs : List Handler) → tasks_of d hs s ≡ emitting (emitted_of f) hs ∷ drop 1 (tasks_of d hs s)
  tasks_so d hs =
      let w = emits s.tasks.items f is in
      starts_by d hs s w.front (tasks.Emitting f) w.whole

  begun_so : (last : ℕ) → AllTakeKnownHandlers last s → EmitsKnown last (emitted_of f)
  begun_so last begun =
      let w = emits s.tasks.items f is in
      last_of w.front (subst (λ (l : List Task). All (TakesKnownHandlers last) l) w.whole begun)
    where
      last_of : (front : List Task) → All (TakesKnownHandlers last) (front ++ tasks.Emitting f ∷ []) → EmitsKnown last (emitted_of f)
      last_of [] all = All-head (TakesKnownHandlers last) (tasks.Emitting f) [] all
      last_of (t ∷ ts) all = last_of ts (All-tail (TakesKnownHandlers last) t (ts ++ tasks.Emitting f ∷ []) all)

-- a stack whose first task is an emission
pub starts : (d : machine.Definition) (hs : List Handler) (s : Frames) → IsSome (first_emission s.tasks.items)
    → tasks_of d hs s ≡ emitting (stack_emission s) hs ∷ drop 1 (tasks_of d hs s)
starts d hs s some =
    let f = found (first_emission s.tasks.items) some in
    subst (λ (e : Emitted). tasks_of d hs s ≡ emitting e hs ∷ drop 1 (tasks_of d hs s)) (sym (emission_found s f.0 f.1)) (tasks_so s f.0 f.1 d hs)

-- it takes handlers that are known, where all tasks do
pub first_begun : (last : ℕ) (s : Frames) → IsSome (first_emission s.tasks.items) → AllTakeKnownHandlers last s → EmitsKnown last (stack_emission s)
first_begun last s some begun =
    let f = found (first_emission s.tasks.items) some in
    subst (λ (e : Emitted). EmitsKnown last e) (sym (emission_found s f.0 f.1)) (begun_so s f.0 f.1 last begun)

-- tasks of which the first is no emission
pub record StartsElse (d : machine.Definition) (hs : List Handler) (items : List Task) : Type 0 where
  pub task : Task
  pub behind : List config.Task
  pub first : reverse (map (task_of d hs) items) ≡ task_of d hs task ∷ behind
  pub other : emission_in task ≡ None

pub starts_else : (d : machine.Definition) (hs : List Handler) (x : Task) (xs : List Task) → first_emission (x ∷ xs) ≡ None → StartsElse d hs (x ∷ xs)
starts_else d hs x [] is = record { task = x; behind = []; first = refl; other = is }
starts_else d hs x (y ∷ ys) is =
    let shorter : suc (suc (length ys)) - 1 ≡ suc (suc (length ys) - 1) = omega arith in
    let rest = starts_else d hs y ys (subst (λ n. option_and_then emission_in (slice_get (x ∷ y ∷ ys) n) ≡ None) shorter is) in
    record {
      task = rest.task;
      behind = rest.behind ++ task_of d hs x ∷ [];
      first = reverse-append (task_of d hs x ∷ []) (map (task_of d hs) (y ∷ ys)) ∙ ap (λ (l : List config.Task). l ++ task_of d hs x ∷ []) rest.first;
      other = rest.other;
    }

-- ** an emission that goes on in its place

pub emitted_last : (s : Frames) (was : EmissionFrame) → Ending (vec_len s.tasks) s.tasks.items (tasks.Emitting was) → stack_emission s ≡ emitted_of was
emitted_last s was e = emission_found s was (last_gives emission_in e.front s.tasks.items (tasks.Emitting was) e.whole)

module _ (s new : Frames) (was now : EmissionFrame) (e : Ending (vec_len s.tasks) s.tasks.items (tasks.Emitting was))
    (is : new.tasks.items ≡ slice_set s.tasks.items (vec_len s.tasks - 1) (tasks.Emitting now)) where
  emission_now : first_emission new.tasks.items ≡ Some now
  emission_now = found_written s (tasks.Emitting was) (tasks.Emitting now) e new is emission_in

  pub emitted_now : stack_emission new ≡ emitted_of now
  emitted_now = emission_found new now emission_now

  pub reemitted : IsReemitted s new
  reemitted = record {
    first = ap (λ (o : Option EmissionFrame). is_some o) emission_now;
    tasks = λ d hs. tasks_written s (tasks.Emitting was) (tasks.Emitting now) e new is d hs ∙ ap (λ (g : Emitted). emitting g hs ∷ drop 1 (tasks_of d hs s)) (sym emitted_now);
    begun = λ last known begun. begun_written s (tasks.Emitting was) (tasks.Emitting now) e new is last (subst (λ (g : Emitted). EmitsKnown last g) emitted_now known) begun;
  }

-- what lies in the stack of the build lies there still
pub kept_so : (s : Frames) (was now : EmissionFrame) → Ending (vec_len s.tasks) s.tasks.items (tasks.Emitting was)
    → IsKeptSo s (slice_set s.tasks.items (vec_len s.tasks - 1) (tasks.Emitting now))
kept_so s was now e = kept_last s (tasks.Emitting was) (tasks.Emitting now) e refl
