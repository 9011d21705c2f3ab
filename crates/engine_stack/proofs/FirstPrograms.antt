-- A program that is the first task is written in its place.
use Rattle.std.proofs.Common.{◌≡◌, ℕ, zero, suc, ◌-◌, ◌<◌, ◌≤◌, Bool, true, false, IsSome, is_some, vec_len, ◌||◌, List, [], ◌∷◌, ◌++◌, length, map, drop, reverse, get_or, slice_get, slice_set, Option, None, Some, option_and_then, refl, ap, sym, subst, ◌∙◌, arith}
use Rattle.std.specs.List.{list_any}
use Rattle.std.specs.Prelude.{All}
use Rattle.std.proofs.Math.Seq.{set-append_seam}
use Rattle.std.proofs.lemmas.List.{length-set, map-append, reverse-append}
use Rattle.std.proofs.lemmas.List.Elements.{All-cons, All-head, All-nil, All-tail}
use Rattle.ui_machine.specs.Definition as machine
use Rattle.ui_machine.specs.State.Handlers.{Handler}
use Rattle.ui_machine.specs.State.Tasks as config
use Rattle.engine_stack.specs.BuildTasks.{is_of_build}
use Rattle.engine_stack.specs.TaskView.{task_of, tasks_of}
use Rattle.engine_stack.specs.declared.stacks.Frames.{Frames}
use Rattle.engine_stack.specs.KnownHandlers.{AllTakeKnownHandlers, TakesKnownHandlers}
use Rattle.engine_stack.specs.declared.task.Task.{Task}
use Rattle.engine_stack.specs.declared.task.Task.TheVariants as tasks
use Rattle.engine_stack.specs.FirstPrograms.{IsRewritten, first_program, frame_in, program_in, stack_frame}
use Rattle.frames.specs.FrameView.{frame_view}
use Rattle.frames.specs.declared.frame.Frame.{Frame}

-- a list with a last entry, and what is before it
pub record Ending {A : Type 0} (n : ℕ) (xs : List A) (x : A) : Type 0 where
  pub front : List A
  pub whole : xs ≡ front ++ x ∷ []
  pub count : length front ≡ n - 1

ends : {A : Type 0} (xs : List A) (x d : A) → 0 < length xs → x ≡ get_or xs (length xs - 1) d → Ending (length xs) xs x
ends [] x d some is = absurd (omega (arith, some))
ends (y ∷ []) x d some is = record { front = []; whole = ap (λ z. z ∷ []) (sym is); count = refl }
ends (y ∷ z ∷ zs) x d some is =
    let shorter : suc (suc (length zs)) - 1 ≡ suc (suc (length zs) - 1) = omega arith in
    let rest = ends (z ∷ zs) x d (omega arith) (subst (λ n. x ≡ get_or (y ∷ z ∷ zs) n d) shorter is) in
    record { front = y ∷ rest.front; whole = ap (λ l. y ∷ l) rest.whole; count = (let c = rest.count in omega (arith, c)) }

pub ending : {A : Type 0} (n : ℕ) (xs : List A) (x d : A) → n ≡ length xs → 0 < length xs → x ≡ get_or xs (n - 1) d → Ending n xs x
ending n xs x d len some is = subst (λ m. Ending m xs x) (sym len) (ends xs x d some (subst (λ m. x ≡ get_or xs (m - 1) d) len is))

-- its last entry is written
pub ends_with : {A : Type 0} (n : ℕ) (xs : List A) (x y : A) (e : Ending n xs x) → slice_set xs (n - 1) y ≡ e.front ++ y ∷ []
ends_with n xs x y e =
    ap (λ k. slice_set xs k y) (sym e.count) ∙ ap (λ l. slice_set l (length e.front) y) e.whole ∙ set-append_seam e.front x [] y

-- none of the build is among what is left, where another one of none is the last
any_last : (xs : List Task) (x y : Task) → is_of_build y ≡ false → list_any is_of_build (xs ++ x ∷ []) ≡ false → list_any is_of_build (xs ++ y ∷ []) ≡ false
any_last [] x y other none = ap (λ b. b || false) other
any_last (z ∷ zs) x y other none = by (is_of_build z) (list_any is_of_build (zs ++ x ∷ [])) (any_last zs x y other) none
  where
    by : (a b : Bool) → (b ≡ false → list_any is_of_build (zs ++ y ∷ []) ≡ false) → (a || b) ≡ false → (a || list_any is_of_build (zs ++ y ∷ [])) ≡ false
    by true b on is = absurd (cc is)
    by false b on is = on is

pub none_behind : (n : ℕ) (xs : List Task) (x y : Task) → is_of_build y ≡ false → list_any is_of_build (drop n (xs ++ x ∷ [])) ≡ false → list_any is_of_build (drop n (xs ++ y ∷ [])) ≡ false
none_behind zero xs x y other none = any_last xs x y other none
none_behind (suc zero) [] x y other none = refl
none_behind (suc (suc n)) [] x y other none = refl
none_behind (suc n) (z ∷ zs) x y other none = none_behind n zs x y other none

-- the tasks of a list, the last of which is the first
pub first_of_last : (d : machine.Definition) (hs : List Handler) (xs : List Task) (x : Task) → reverse (map (task_of d hs) (xs ++ x ∷ [])) ≡ task_of d hs x ∷ reverse (map (task_of d hs) xs)
first_of_last d hs xs x = ap (λ l. reverse l) (map-append (task_of d hs) xs (x ∷ [])) ∙ reverse-append (map (task_of d hs) xs) (task_of d hs x ∷ [])

-- ** the last task of a list, which is the first that is done

pub last_found : {A : Type 0} (xs : List A) (x : A) → slice_get (xs ++ x ∷ []) (length (xs ++ x ∷ []) - 1) ≡ Some x
last_found [] x = refl
last_found (y ∷ []) x = refl
last_found (y ∷ z ∷ zs) x =
    let n = length (zs ++ x ∷ []) in
    let shorter : suc (suc n) - 1 ≡ suc (suc n - 1) = omega arith in
    ap (λ k. slice_get (y ∷ z ∷ (zs ++ x ∷ [])) k) shorter ∙ last_found (z ∷ zs) x

-- what is found in it
pub last_gives : {A : Type 0} (of : Task → Option A) (front items : List Task) (x : Task) → items ≡ front ++ x ∷ []
    → option_and_then of (slice_get items (length items - 1)) ≡ of x
last_gives of front items x at =
    ap (λ (l : List Task). option_and_then of (slice_get l (length l - 1))) at ∙ ap (λ (o : Option Task). option_and_then of o) (last_found front x)

-- a list in whose last task something is found
pub record LastHas {A : Type 0} (of : Task → Option A) (items : List Task) (a : A) : Type 0 where
  pub front : List Task
  pub task : Task
  pub whole : items ≡ front ++ task ∷ []
  pub has : of task ≡ Some a

pub last_has : {A : Type 0} (of : Task → Option A) (items : List Task) (a : A) → option_and_then of (slice_get items (length items - 1)) ≡ Some a → LastHas of items a
last_has of [] a is = absurd (cc is)
last_has of (x ∷ []) a is = record { front = []; task = x; whole = refl; has = is }
last_has of (x ∷ y ∷ ys) a is =
    let shorter : suc (suc (length ys)) - 1 ≡ suc (suc (length ys) - 1) = omega arith in
    let rest = last_has of (y ∷ ys) a (subst (λ n. option_and_then of (slice_get (x ∷ y ∷ ys) n) ≡ Some a) shorter is) in
    record { front = x ∷ rest.front; task = rest.task; whole = ap (λ (l : List Task). x ∷ l) rest.whole; has = rest.has }

-- what is there
pub found : {A : Type 0} (o : Option A) → IsSome o → (a : A) × (o ≡ Some a)
found None none = cc none
found (Some a) some = (a, refl)

-- the tasks of a stack whose last one is known
pub starts_by : (d : machine.Definition) (hs : List Handler) (s : Frames) (front : List Task) (x : Task) → s.tasks.items ≡ front ++ x ∷ []
    → tasks_of d hs s ≡ task_of d hs x ∷ drop 1 (tasks_of d hs s)
starts_by d hs s front x whole =
    let first : tasks_of d hs s ≡ task_of d hs x ∷ reverse (map (task_of d hs) front) = ap (λ (l : List Task). reverse (map (task_of d hs) l)) whole ∙ first_of_last d hs front x in
    first ∙ ap (λ (l : List config.Task). task_of d hs x ∷ l) (sym (ap (λ (l : List config.Task). drop 1 l) first))

-- all of a list is so where another last one is so too
pub all_last : (last : ℕ) (front : List Task) (x y : Task) → TakesKnownHandlers last y → All (TakesKnownHandlers last) (front ++ x ∷ []) → All (TakesKnownHandlers last) (front ++ y ∷ [])
all_last last [] x y so all = All-cons (TakesKnownHandlers last) y [] so (All-nil (TakesKnownHandlers last))
all_last last (t ∷ ts) x y so all =
    All-cons (TakesKnownHandlers last) t (ts ++ y ∷ []) (All-head (TakesKnownHandlers last) t (ts ++ x ∷ []) all)
    (all_last last ts x y so (All-tail (TakesKnownHandlers last) t (ts ++ x ∷ []) all))

-- what lies in the stack of the build lies there still
pub record IsKeptSo (s : Frames) (items : List Task) : Type 0 where
  pub within : s.lowest ≤ length items
  pub above : list_any is_of_build (drop s.lowest items) ≡ false

-- the last task is written in its place
module _ (s : Frames) (was now : Task) (e : Ending (vec_len s.tasks) s.tasks.items was) where
  pub kept_last : is_of_build now ≡ false → IsKeptSo s (slice_set s.tasks.items (vec_len s.tasks - 1) now)
  kept_last other = record {
    within = subst (λ n. s.lowest ≤ n) (sym (length-set s.tasks.items (vec_len s.tasks - 1) now)) s.within;
    above =
        subst (λ (ts : List Task). list_any is_of_build (drop s.lowest ts) ≡ false) (sym (ends_with (vec_len s.tasks) s.tasks.items was now e))
        (none_behind s.lowest e.front was now other (subst (λ (ts : List Task). list_any is_of_build (drop s.lowest ts) ≡ false) e.whole s.above));
  }

  module _ (new : Frames) (is : new.tasks.items ≡ slice_set s.tasks.items (vec_len s.tasks - 1) now) where
    pub items_written : new.tasks.items ≡ e.front ++ now ∷ []
    items_written = is ∙ ends_with (vec_len s.tasks) s.tasks.items was now e

    -- what is found in it
    pub found_written : {A : Type 0} (of : Task → Option A) → option_and_then of (slice_get new.tasks.items (length new.tasks.items - 1)) ≡ of now
    found_written of = last_gives of e.front new.tasks.items now items_written

    pub tasks_written : (d : machine.Definition) (hs : List Handler) → tasks_of d hs new ≡ task_of d hs now ∷ drop 1 (tasks_of d hs s)
    tasks_written d hs =
        let before : tasks_of d hs s ≡ task_of d hs was ∷ reverse (map (task_of d hs) e.front) = ap (λ (l : List Task). reverse (map (task_of d hs) l)) e.whole ∙ first_of_last d hs e.front was in
        ap (λ (l : List Task). reverse (map (task_of d hs) l)) items_written
        ∙ first_of_last d hs e.front now
        ∙ ap (λ (l : List config.Task). task_of d hs now ∷ l) (sym (ap (λ (l : List config.Task). drop 1 l) before))

    pub begun_written : (last : ℕ) → TakesKnownHandlers last now → AllTakeKnownHandlers last s → AllTakeKnownHandlers last new
    begun_written last known begun =
        subst (λ (l : List Task). All (TakesKnownHandlers last) l) (sym items_written)
        (all_last last e.front was now known (subst (λ (l : List Task). All (TakesKnownHandlers last) l) e.whole begun))

-- ** the first program

-- a stack whose first task is a program
pub record StartsWith (d : machine.Definition) (hs : List Handler) (items : List Task) (f : Frame) : Type 0 where
  pub behind : List config.Task
  pub first : reverse (map (task_of d hs) items) ≡ config.Running (frame_view f) ∷ behind

pub is_running : (t : Task) (f : Frame) → program_in t ≡ Some f → t ≡ tasks.Running f
is_running (tasks.Running g) f is = let same : g ≡ f = cc is in ap (λ x. tasks.Running x) same
is_running (tasks.Setting id slot v) f is = absurd (cc is)
is_running (tasks.Notifying id slot) f is = absurd (cc is)
is_running (tasks.Beginning e) f is = absurd (cc is)
is_running (tasks.Emitting emission) f is = absurd (cc is)
is_running (tasks.Transferring number back) f is = absurd (cc is)
is_running (tasks.Unsetting number) f is = absurd (cc is)
is_running (tasks.Thawing id slots) f is = absurd (cc is)
is_running (tasks.Constructing construction) f is = absurd (cc is)
is_running (tasks.Building place forwards) f is = absurd (cc is)
is_running (tasks.Adopting place forwards) f is = absurd (cc is)
is_running (tasks.Binding number) f is = absurd (cc is)
is_running (tasks.Connecting place number) f is = absurd (cc is)
is_running (tasks.Answering source) f is = absurd (cc is)
is_running (tasks.Calling call) f is = absurd (cc is)
is_running (tasks.Handling event) f is = absurd (cc is)
is_running (tasks.Due source) f is = absurd (cc is)

pub starts_with : (d : machine.Definition) (hs : List Handler) (items : List Task) (f : Frame) → first_program items ≡ Some f → StartsWith d hs items f
starts_with d hs [] f is = absurd (cc is)
starts_with d hs (x ∷ []) f is = record { behind = []; first = ap (λ (t : Task). task_of d hs t ∷ []) (is_running x f is) }
starts_with d hs (x ∷ y ∷ ys) f is =
    let shorter : suc (suc (length ys)) - 1 ≡ suc (suc (length ys) - 1) = omega arith in
    let rest = starts_with d hs (y ∷ ys) f (subst (λ n. option_and_then program_in (slice_get (x ∷ y ∷ ys) n) ≡ Some f) shorter is) in
    record {
      behind = rest.behind ++ task_of d hs x ∷ [];
      first = reverse-append (task_of d hs x ∷ []) (map (task_of d hs) (y ∷ ys)) ∙ ap (λ (l : List config.Task). l ++ task_of d hs x ∷ []) rest.first;
    }

-- a stack whose first task is a program
pub starts : (d : machine.Definition) (hs : List Handler) (s : Frames) → IsSome (first_program s.tasks.items)
    → tasks_of d hs s ≡ config.Running (stack_frame s) ∷ drop 1 (tasks_of d hs s)
unfolding stack_frame
starts d hs s some = by (first_program s.tasks.items) refl some
  where
    by : (o : Option Frame) → first_program s.tasks.items ≡ o → IsSome o
        → tasks_of d hs s ≡ config.Running (frame_in (first_program s.tasks.items)) ∷ drop 1 (tasks_of d hs s)
    by None is found = absurd (cc found)
    by (Some f) is found =
        let w = starts_with d hs s.tasks.items f is in
        let behind : drop 1 (tasks_of d hs s) ≡ w.behind = ap (λ (l : List config.Task). drop 1 l) w.first in
        let frame : frame_in (first_program s.tasks.items) ≡ frame_view f = ap (λ (o : Option Frame). frame_in o) is in
        w.first
        ∙ ap (λ (g : config.Frame). config.Running g ∷ w.behind) (sym frame)
        ∙ ap (λ (l : List config.Task). config.Running (frame_in (first_program s.tasks.items)) ∷ l) (sym behind)

-- the frame of a program that was found
pub frame_found : (s : Frames) (f : Frame) → first_program s.tasks.items ≡ Some f → stack_frame s ≡ frame_view f
unfolding stack_frame
frame_found s f is = ap (λ (o : Option Frame). frame_in o) is

-- tasks of which the first is no program
pub record StartsElse (d : machine.Definition) (hs : List Handler) (items : List Task) : Type 0 where
  pub task : Task
  pub behind : List config.Task
  pub first : reverse (map (task_of d hs) items) ≡ task_of d hs task ∷ behind
  pub other : (f : Frame) → task ≡ tasks.Running f → ⊥

pub starts_else : (d : machine.Definition) (hs : List Handler) (x : Task) (xs : List Task) → first_program (x ∷ xs) ≡ None → StartsElse d hs (x ∷ xs)
starts_else d hs x [] is = record {
  task = x;
  behind = [];
  first = refl;
  other = λ f running. let some : ◌≡◌ {A = Option Frame} (Some f) None = sym (ap (λ (t : Task). program_in t) running) ∙ is in cc some;
}
starts_else d hs x (y ∷ ys) is =
    let shorter : suc (suc (length ys)) - 1 ≡ suc (suc (length ys) - 1) = omega arith in
    let rest = starts_else d hs y ys (subst (λ n. option_and_then program_in (slice_get (x ∷ y ∷ ys) n) ≡ None) shorter is) in
    record {
      task = rest.task;
      behind = rest.behind ++ task_of d hs x ∷ [];
      first = reverse-append (task_of d hs x ∷ []) (map (task_of d hs) (y ∷ ys)) ∙ ap (λ (l : List config.Task). l ++ task_of d hs x ∷ []) rest.first;
      other = rest.other;
    }

-- ** a program that is rewritten in its place

pub frame_last : (s : Frames) (was : Frame) → Ending (vec_len s.tasks) s.tasks.items (tasks.Running was) → stack_frame s ≡ frame_view was
frame_last s was e = frame_found s was (last_gives program_in e.front s.tasks.items (tasks.Running was) e.whole)

module _ (s new : Frames) (was now : Frame) (e : Ending (vec_len s.tasks) s.tasks.items (tasks.Running was))
    (is : new.tasks.items ≡ slice_set s.tasks.items (vec_len s.tasks - 1) (tasks.Running now)) where
  program_now : first_program new.tasks.items ≡ Some now
  program_now = found_written s (tasks.Running was) (tasks.Running now) e new is program_in

  pub frame_now : stack_frame new ≡ frame_view now
  frame_now = frame_found new now program_now

  pub rewritten : IsRewritten s new
  rewritten = record {
    first = ap (λ (o : Option Frame). is_some o) program_now;
    tasks = λ d hs. tasks_written s (tasks.Running was) (tasks.Running now) e new is d hs ∙ ap (λ (g : config.Frame). config.Running g ∷ drop 1 (tasks_of d hs s)) (sym frame_now);
  }

pub kept_so : (s : Frames) (was now : Frame) → Ending (vec_len s.tasks) s.tasks.items (tasks.Running was)
    → IsKeptSo s (slice_set s.tasks.items (vec_len s.tasks - 1) (tasks.Running now))
kept_so s was now e = kept_last s (tasks.Running was) (tasks.Running now) e refl
