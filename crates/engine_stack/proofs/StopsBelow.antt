-- An emission is stopped below the first task.
use Rattle.std.proofs.Common.{◌≡◌, ◌∙◌, ℕ, zero, suc, ◌-◌, ◌≤◌, false, ◌||◌, List, [], ◌∷◌, ◌++◌, drop, length, slice_set, Vec, vec_capacity, refl, ap, sym, subst, arith}
use Rattle.std.specs.Global.{Global}
use Rattle.std.specs.List.{list_any}
use Rattle.std.specs.Prelude.{All}
use Rattle.std.proofs.lemmas.List.Elements.{All-cons, All-head, All-tail}
use Rattle.ui_machine.specs.Seq.{total}
use Rattle.engine_stack.specs.Stocks.{Kept}
use Rattle.engine_stack.specs.BuildTasks.{is_of_build}
use Rattle.engine_stack.specs.FirstEmissions.{stop_in, with_last}
use Rattle.engine_stack.specs.KnownHandlers.{TakesKnownHandlers}
use Rattle.engine_stack.specs.TaskFrames.{IsStocked, args_used, framed, is_framed, registers_used}
use Rattle.engine_stack.specs.declared.emission_frames.EmissionFrame.{EmissionFrame}
use Rattle.engine_stack.specs.declared.task.Task.{Task}
use Rattle.engine_stack.specs.declared.task.Task.TheVariants as tasks
use Rattle.engine_stack.proofs.FirstPrograms.{Ending, ends_with}

-- ** a list with its last changed

-- a list that is empty or has a last
pub data Lasts {A : Type 0} : List A → Type 0 where
  no_last : Lasts []
  has_last : (front : List A) (x : A) → Lasts (front ++ x ∷ [])

pub lasts : {A : Type 0} (xs : List A) → Lasts xs
lasts [] = no_last
lasts (x ∷ xs) = more (lasts xs)
  where
    more : {ys : List _} → Lasts ys → Lasts (x ∷ ys)
    more no_last = has_last [] x
    more (has_last front y) = has_last (x ∷ front) y

pub last_changed : {A : Type 0} (f : A → A) (front : List A) (x : A) → with_last f (front ++ x ∷ []) ≡ front ++ f x ∷ []
last_changed f [] x = refl
last_changed f (y ∷ []) x = refl
last_changed f (y ∷ z ∷ zs) x = ap (λ l. y ∷ l) (last_changed f (z ∷ zs) x)

length_changed : {A : Type 0} (f : A → A) (xs : List A) → length (with_last f xs) ≡ length xs
length_changed f [] = refl
length_changed f (x ∷ []) = refl
length_changed f (x ∷ y ∷ ys) = ap (λ n. suc n) (length_changed f (y ∷ ys))

-- ** what a stop leaves of a task

stop_registers : (room : ℕ) (t : Task) → registers_used room (stop_in t) ≡ registers_used room t
stop_registers room (tasks.Emitting f) = refl
stop_registers room (tasks.Setting id slot v) = refl
stop_registers room (tasks.Notifying id slot) = refl
stop_registers room (tasks.Beginning e) = refl
stop_registers room (tasks.Running frame) = refl
stop_registers room (tasks.Thawing id slots) = refl
stop_registers room (tasks.Constructing construction) = refl
stop_registers room (tasks.Building place forwards) = refl
stop_registers room (tasks.Adopting place forwards) = refl
stop_registers room (tasks.Transferring number back) = refl
stop_registers room (tasks.Unsetting number) = refl
stop_registers room (tasks.Binding number) = refl
stop_registers room (tasks.Connecting place number) = refl
stop_registers room (tasks.Answering source) = refl
stop_registers room (tasks.Calling call) = refl
stop_registers room (tasks.Due source) = refl
stop_registers room (tasks.Handling event) = refl

stop_args : (room : ℕ) (t : Task) → args_used room (stop_in t) ≡ args_used room t
stop_args room (tasks.Emitting f) = refl
stop_args room (tasks.Setting id slot v) = refl
stop_args room (tasks.Notifying id slot) = refl
stop_args room (tasks.Beginning e) = refl
stop_args room (tasks.Running frame) = refl
stop_args room (tasks.Thawing id slots) = refl
stop_args room (tasks.Constructing construction) = refl
stop_args room (tasks.Building place forwards) = refl
stop_args room (tasks.Adopting place forwards) = refl
stop_args room (tasks.Transferring number back) = refl
stop_args room (tasks.Unsetting number) = refl
stop_args room (tasks.Binding number) = refl
stop_args room (tasks.Connecting place number) = refl
stop_args room (tasks.Answering source) = refl
stop_args room (tasks.Calling call) = refl
stop_args room (tasks.Due source) = refl
stop_args room (tasks.Handling event) = refl

stop_framed : (t : Task) → is_framed (stop_in t) ≡ is_framed t
stop_framed (tasks.Emitting f) = refl
stop_framed (tasks.Setting id slot v) = refl
stop_framed (tasks.Notifying id slot) = refl
stop_framed (tasks.Beginning e) = refl
stop_framed (tasks.Running frame) = refl
stop_framed (tasks.Thawing id slots) = refl
stop_framed (tasks.Constructing construction) = refl
stop_framed (tasks.Building place forwards) = refl
stop_framed (tasks.Adopting place forwards) = refl
stop_framed (tasks.Transferring number back) = refl
stop_framed (tasks.Unsetting number) = refl
stop_framed (tasks.Binding number) = refl
stop_framed (tasks.Connecting place number) = refl
stop_framed (tasks.Answering source) = refl
stop_framed (tasks.Calling call) = refl
stop_framed (tasks.Due source) = refl
stop_framed (tasks.Handling event) = refl

stop_build : (t : Task) → is_of_build (stop_in t) ≡ is_of_build t
stop_build (tasks.Emitting f) = refl
stop_build (tasks.Setting id slot v) = refl
stop_build (tasks.Notifying id slot) = refl
stop_build (tasks.Beginning e) = refl
stop_build (tasks.Running frame) = refl
stop_build (tasks.Thawing id slots) = refl
stop_build (tasks.Constructing construction) = refl
stop_build (tasks.Building place forwards) = refl
stop_build (tasks.Adopting place forwards) = refl
stop_build (tasks.Transferring number back) = refl
stop_build (tasks.Unsetting number) = refl
stop_build (tasks.Binding number) = refl
stop_build (tasks.Connecting place number) = refl
stop_build (tasks.Answering source) = refl
stop_build (tasks.Calling call) = refl
stop_build (tasks.Due source) = refl
stop_build (tasks.Handling event) = refl

stop_known : (last : ℕ) (t : Task) → TakesKnownHandlers last t → TakesKnownHandlers last (stop_in t)
stop_known last (tasks.Emitting f) known = (known.0, λ _. refl)
stop_known last (tasks.Setting id slot v) known = tt
stop_known last (tasks.Notifying id slot) known = tt
stop_known last (tasks.Beginning e) known = tt
stop_known last (tasks.Running frame) known = tt
stop_known last (tasks.Thawing id slots) known = tt
stop_known last (tasks.Constructing construction) known = tt
stop_known last (tasks.Building place forwards) known = tt
stop_known last (tasks.Adopting place forwards) known = tt
stop_known last (tasks.Transferring number back) known = tt
stop_known last (tasks.Unsetting number) known = tt
stop_known last (tasks.Binding number) known = tt
stop_known last (tasks.Connecting place number) known = tt
stop_known last (tasks.Answering source) known = tt
stop_known last (tasks.Calling call) known = tt
stop_known last (tasks.Due source) known = tt
stop_known last (tasks.Handling event) known = tt

-- any other task than an emission stays as it is
pub stop_other : (t : Task) → ((f : EmissionFrame) → t ≡ tasks.Emitting f → ⊥) → stop_in t ≡ t
stop_other (tasks.Emitting f) other = absurd (other f refl)
stop_other (tasks.Setting id slot v) other = refl
stop_other (tasks.Notifying id slot) other = refl
stop_other (tasks.Beginning e) other = refl
stop_other (tasks.Running frame) other = refl
stop_other (tasks.Thawing id slots) other = refl
stop_other (tasks.Constructing construction) other = refl
stop_other (tasks.Building place forwards) other = refl
stop_other (tasks.Adopting place forwards) other = refl
stop_other (tasks.Transferring number back) other = refl
stop_other (tasks.Unsetting number) other = refl
stop_other (tasks.Binding number) other = refl
stop_other (tasks.Connecting place number) other = refl
stop_other (tasks.Answering source) other = refl
stop_other (tasks.Calling call) other = refl
stop_other (tasks.Due source) other = refl
stop_other (tasks.Handling event) other = refl

-- the last one is written as it is stopped
pub last_set : (n : ℕ) (xs : List Task) (was now : Task) → Ending n xs was → stop_in was ≡ now → slice_set xs (n - 1) now ≡ with_last stop_in xs
last_set n xs was now e is =
    ends_with n xs was now e
    ∙ ap (λ (t : Task). e.front ++ t ∷ []) (sym is)
    ∙ sym (last_changed stop_in e.front was)
    ∙ sym (ap (λ (l : List Task). with_last stop_in l) e.whole)

-- ** and of tasks below another

below_total : (used : Task → ℕ) → ((t : Task) → used (stop_in t) ≡ used t) → (below : List Task) (first : Task)
    → total used (with_last stop_in below ++ first ∷ []) ≡ total used (below ++ first ∷ [])
below_total used same [] first = refl
below_total used same (x ∷ []) first = omega (arith, same x)
below_total used same (x ∷ y ∷ ys) first = omega (arith, below_total used same (y ∷ ys) first)

any_alike : (below : List Task) (first : Task) → list_any is_of_build (with_last stop_in below ++ first ∷ []) ≡ list_any is_of_build (below ++ first ∷ [])
any_alike [] first = refl
any_alike (x ∷ []) first = ap (λ b. b || list_any is_of_build (first ∷ [])) (stop_build x)
any_alike (x ∷ y ∷ ys) first = ap (λ b. is_of_build x || b) (any_alike (y ∷ ys) first)

below_build : (n : ℕ) (below : List Task) (first : Task) → list_any is_of_build (drop n (with_last stop_in below ++ first ∷ [])) ≡ list_any is_of_build (drop n (below ++ first ∷ []))
below_build zero below first = any_alike below first
below_build (suc n) [] first = refl
below_build (suc zero) (x ∷ []) first = refl
below_build (suc (suc n)) (x ∷ []) first = refl
below_build (suc n) (x ∷ y ∷ ys) first = below_build n (y ∷ ys) first

pub below_known : (last : ℕ) (below : List Task) (first : Task) → All (TakesKnownHandlers last) (below ++ first ∷ []) → All (TakesKnownHandlers last) (with_last stop_in below ++ first ∷ [])
below_known last [] first all = all
below_known last (x ∷ []) first all =
    All-cons (TakesKnownHandlers last) (stop_in x) (first ∷ []) (stop_known last x (All-head (TakesKnownHandlers last) x (first ∷ []) all)) (All-tail (TakesKnownHandlers last) x (first ∷ []) all)
below_known last (x ∷ y ∷ ys) first all =
    All-cons (TakesKnownHandlers last) x (with_last stop_in (y ∷ ys) ++ first ∷ []) (All-head (TakesKnownHandlers last) x (y ∷ ys ++ first ∷ []) all)
    (below_known last (y ∷ ys) first (All-tail (TakesKnownHandlers last) x (y ∷ ys ++ first ∷ []) all))

-- ** stocks

-- what tasks come to, where a stop leaves it of each
total_stays : (of : Task → ℕ) → ((t : Task) → of (stop_in t) ≡ of t) → (tasks new : Vec Task Global) (below : List Task) (first : Task)
    → tasks.items ≡ below ++ first ∷ [] → new.items ≡ with_last stop_in below ++ first ∷ [] → total of new.items ≡ total of tasks.items
total_stays of same tasks new below first was now = ap (total of) now ∙ below_total of same below first ∙ sym (ap (total of) was)

module _ (used : ℕ → Task → ℕ) (same : (room : ℕ) (t : Task) → used room (stop_in t) ≡ used room t) (tasks new : Vec Task Global) (stock : Kept) (s : IsStocked used tasks stock)
    (room : vec_capacity new ≡ vec_capacity tasks) (below : List Task) (first : Task) (was : tasks.items ≡ below ++ first ∷ []) (now : new.items ≡ with_last stop_in below ++ first ∷ []) where
  still_stocked : IsStocked used new stock
  still_stocked = record {
    left = (let sum = total_stays (used stock.room) (same stock.room) tasks new below first was now in omega (arith, s.left, sum));
    enough = omega (arith, s.enough, room);
  }

pub registers_stay : (tasks new : Vec Task Global) (stock : Kept) → IsStocked registers_used tasks stock → vec_capacity new ≡ vec_capacity tasks → (below : List Task) (first : Task)
    → tasks.items ≡ below ++ first ∷ [] → new.items ≡ with_last stop_in below ++ first ∷ [] → IsStocked registers_used new stock
registers_stay = still_stocked registers_used stop_registers

pub args_stay : (tasks new : Vec Task Global) (stock : Kept) → IsStocked args_used tasks stock → vec_capacity new ≡ vec_capacity tasks → (below : List Task) (first : Task)
    → tasks.items ≡ below ++ first ∷ [] → new.items ≡ with_last stop_in below ++ first ∷ [] → IsStocked args_used new stock
args_stay = still_stocked args_used stop_args

pub frames_stay : (tasks new : Vec Task Global) (below : List Task) (first : Task)
    → tasks.items ≡ below ++ first ∷ [] → new.items ≡ with_last stop_in below ++ first ∷ [] → framed new ≡ framed tasks
frames_stay = total_stays is_framed stop_framed

module _ (tasks new : Vec Task Global) (below : List Task) (first : Task) (was : tasks.items ≡ below ++ first ∷ []) (now : new.items ≡ with_last stop_in below ++ first ∷ []) where
  pub within_stays : (lowest : ℕ) → lowest ≤ length tasks.items → lowest ≤ length new.items
  within_stays lowest within =
      let same : length new.items ≡ length tasks.items = ap (λ (l : List Task). length l) now ∙ length_below below ∙ sym (ap (λ (l : List Task). length l) was) in
      omega (arith, within, same)
    where
      length_below : (below : List Task) → length (with_last stop_in below ++ first ∷ []) ≡ length (below ++ first ∷ [])
      length_below [] = refl
      length_below (x ∷ []) = refl
      length_below (x ∷ y ∷ ys) = ap (λ n. suc n) (length_below (y ∷ ys))

  pub above_stays : (lowest : ℕ) → list_any is_of_build (drop lowest tasks.items) ≡ false → list_any is_of_build (drop lowest new.items) ≡ false
  above_stays lowest none =
      ap (λ (l : List Task). list_any is_of_build (drop lowest l)) now ∙ below_build lowest below first
      ∙ subst (λ (l : List Task). list_any is_of_build (drop lowest l) ≡ false) was none
