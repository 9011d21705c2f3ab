-- Stocks of vectors, as tasks that have some of them come and go.
use Rattle.std.specs.Prelude.{All, IfSome, MatchOption}
use Rattle.std.proofs.lemmas.List.Elements.{All-cons, All-head, All-nil, All-tail}
use Rattle.ui_machine.specs.Definition as machine
use Rattle.ui_machine.specs.State.Handlers.{Handler}
use Rattle.ui_machine.specs.State.Tasks as config
use Rattle.engine_stack.specs.KnownHandlers.{TakesKnownHandlers}
use Rattle.engine_stack.specs.TaskView.{task_of}
use Rattle.std.specs.List.{list_any}
use Rattle.std.proofs.lemmas.Bool.Decides.{nat_tests}
use Rattle.engine_stack.specs.BuildTasks.{is_of_build}
use Rattle.std.proofs.Common.{◌≡◌, ◌∙◌, ◌||◌, zero, suc, min, nat_lt, drop, map, reverse, ℕ, ◌+◌, ◌-◌, ◌≤◌, ◌<◌, List, [], ◌∷◌, ◌++◌, Option, None, Some, is_some, option_and_then, Vec, vec_capacity, vec_len, length, nat_eq, Bool, true, false, cond, slice_get, slice_set, refl, ap, sym, subst, arith}
use Rattle.std.specs.Global.{Global}
use Rattle.std.specs.Option.{option_to_list}
use Rattle.ui_machine.specs.Seq.{total}
use Rattle.engine_stack.specs.Stocks.{Kept, is_usual}
use Rattle.frames.specs.declared.frame.Frame.{Frame}
use Rattle.engine_stack.specs.FirstEmissions.{first_emission}
use Rattle.engine_stack.specs.FirstPrograms.{first_program}
use Rattle.engine_stack.specs.TaskFrames.{HasPlaces, IsFrameless, IsStocked, args_had, args_used, emission_in, framed, is_framed, program_in, registers_had, registers_used}
use Rattle.engine_stack.specs.declared.emission_frames.EmissionFrame.{EmissionFrame}
use Rattle.engine_stack.specs.declared.task.Task.{Task}
use Rattle.engine_stack.proofs.FirstPrograms.{Ending, ends_with, first_of_last, last_found}
use Rattle.engine_stack.proofs.Lists.{total-append}

-- one of the usual room, or none
usual_most : {T : Type 0} (room : ℕ) (v : Vec T Global) → is_usual room v ≤ 1
usual_most room v = by (nat_eq (vec_capacity v) room)
  where
    by : (b : Bool) → cond b 1 0 ≤ 1
    by true = omega arith
    by false = omega arith

-- only a program has a vector for registers, and only an emission one for arguments
registers_most : (room : ℕ) (t : Task) → registers_used room t ≤ is_framed t
registers_most room t = by (program_in t) (is_some (emission_in t))
  where
    by : (o : Option Frame) (b : Bool) → registers_had room o ≤ cond (is_some o || b) 1 0
    by None true = omega arith
    by None false = omega arith
    by (Some f) b = usual_most room f.registers

args_most : (room : ℕ) (t : Task) → args_used room t ≤ is_framed t
args_most room t = by (is_some (program_in t)) (emission_in t)
  where
    by : (b : Bool) (o : Option EmissionFrame) → args_had room o ≤ cond (b || is_some o) 1 0
    by true None = omega arith
    by false None = omega arith
    by true (Some f) = usual_most room f.args
    by false (Some f) = usual_most room f.args

total_few : (used most : Task → ℕ) → ((t : Task) → used t ≤ most t) → (ts : List Task) → total used ts ≤ total most ts
total_few used most few [] = omega arith
total_few used most few (t ∷ ts) = omega (arith, few t, total_few used most few ts)

-- ** a vector is left while programs and emissions are fewer than half of what has room

left_one : (used : ℕ → Task → ℕ) → ((room : ℕ) (t : Task) → used room t ≤ is_framed t) → (tasks : Vec Task Global) (stock : Kept) → IsStocked used tasks stock
    → HasPlaces 1 tasks → 0 < stock.count
left_one used few tasks stock s room = omega (arith, s.left, s.enough, room.1, total_few (used stock.room) is_framed (few stock.room) tasks.items)

pub registers_left : (tasks : Vec Task Global) (stock : Kept) → IsStocked registers_used tasks stock → HasPlaces 1 tasks → 0 < stock.count
registers_left = left_one registers_used registers_most

pub args_left : (tasks : Vec Task Global) (stock : Kept) → IsStocked args_used tasks stock → HasPlaces 1 tasks → 0 < stock.count
args_left = left_one args_used args_most

-- ** tasks that come and go

-- one more of them
total_more : (of : Task → ℕ) (tasks new : Vec Task Global) (t : Task) → new.items ≡ tasks.items ++ t ∷ [] → total of new.items ≡ total of tasks.items + of t
total_more of tasks new t items =
    let sum : total of new.items ≡ total of tasks.items + total of (t ∷ []) = ap (total of) items ∙ total-append of tasks.items (t ∷ []) in
    omega (arith, sum)

-- another last one
total_set : (of : Task → ℕ) (tasks : Vec Task Global) (new : List Task) (was now : Task) → Ending (vec_len tasks) tasks.items was → new ≡ slice_set tasks.items (vec_len tasks - 1) now
    → of now ≡ of was → total of new ≡ total of tasks.items
total_set of tasks new was now e items same =
    let before : total of tasks.items ≡ total of e.front + total of (was ∷ []) = ap (total of) e.whole ∙ total-append of e.front (was ∷ []) in
    let after : total of new ≡ total of e.front + total of (now ∷ []) = ap (total of) (items ∙ ends_with (vec_len tasks) tasks.items was now e) ∙ total-append of e.front (now ∷ []) in
    omega (arith, before, after, same)

module _ (used : ℕ → Task → ℕ) (tasks new : Vec Task Global) (stock : Kept) (room : vec_capacity new ≡ vec_capacity tasks) (s : IsStocked used tasks stock) (t : Task) where
  -- one comes with what it took of the stock
  pub stocked_more : (taken : Kept) → new.items ≡ tasks.items ++ t ∷ [] → taken.count + used stock.room t ≡ stock.count → taken ≡ record stock { count = taken.count } → IsStocked used new taken
  stocked_more taken items count beside =
      subst (λ (k : Kept). IsStocked used new k) (sym beside) (record {
        left = (let sum = total_more (used stock.room) tasks new t items in omega (arith, s.left, sum, count));
        enough = omega (arith, s.enough, room);
      })

  -- one that took nothing
  pub stocked_plain : new.items ≡ tasks.items ++ t ∷ [] → used stock.room t ≡ 0 → IsStocked used new stock
  stocked_plain items none = record { left = (let sum = total_more (used stock.room) tasks new t items in omega (arith, s.left, sum, none)); enough = omega (arith, s.enough, room) }

  -- one goes, and gives back what it had
  pub stocked_less : (given : Kept) → tasks.items ≡ new.items ++ t ∷ [] → given ≡ record stock { count = stock.count + used stock.room t } → IsStocked used new given
  stocked_less given items is =
      subst (λ (k : Kept). IsStocked used new k) (sym is)
      (record { left = (let sum = total_more (used stock.room) new tasks t items in omega (arith, s.left, sum)); enough = omega (arith, s.enough, room) })

  -- one that had nothing
  pub stocked_gone : tasks.items ≡ new.items ++ t ∷ [] → used stock.room t ≡ 0 → IsStocked used new stock
  stocked_gone items none = record { left = (let sum = total_more (used stock.room) new tasks t items in omega (arith, s.left, sum, none)); enough = omega (arith, s.enough, room) }

  -- there is a place for what it had
  pub has_place : tasks.items ≡ new.items ++ t ∷ [] → stock.count + used stock.room t ≤ stock.most
  has_place items = let sum = total_more (used stock.room) new tasks t items in omega (arith, s.left, sum)

-- the last one changes, and has what it had
pub stocked_set : (used : ℕ → Task → ℕ) (tasks : Vec Task Global) (stock : Kept) → IsStocked used tasks stock → (new : Vec Task Global) → vec_capacity new ≡ vec_capacity tasks
    → (was now : Task) → Ending (vec_len tasks) tasks.items was → new.items ≡ slice_set tasks.items (vec_len tasks - 1) now → used stock.room now ≡ used stock.room was
    → IsStocked used new stock
stocked_set used tasks stock s new room was now e items same = record {
  left = (let sum = total_set (used stock.room) tasks new.items was now e items same in omega (arith, s.left, sum));
  enough = omega (arith, s.enough, room);
}

-- ** how many are programs and emissions

pub framed_more : (tasks new : Vec Task Global) (t : Task) → is_framed t ≡ 1 → new.items ≡ tasks.items ++ t ∷ [] → framed new ≡ framed tasks + 1
framed_more tasks new t one items = let sum = total_more is_framed tasks new t items in omega (arith, sum, one)

-- a task that is neither is none of them
not_framed : (t : Task) → IsFrameless t → is_framed t ≡ 0
not_framed t none = rw (none.program, none.emission) refl

pub framed_plain : (tasks new : Vec Task Global) (t : Task) → IsFrameless t → new.items ≡ tasks.items ++ t ∷ [] → framed new ≡ framed tasks
framed_plain tasks new t none items = let sum = total_more is_framed tasks new t items in let zero = not_framed t none in omega (arith, sum, zero)

-- any other counts for one at most
framed_one : (t : Task) → is_framed t ≤ 1
framed_one t = by (is_some (program_in t) || is_some (emission_in t))
  where
    by : (b : Bool) → cond b 1 0 ≤ 1
    by true = omega arith
    by false = omega arith

pub framed_most : (tasks new : Vec Task Global) (t : Task) → new.items ≡ tasks.items ++ t ∷ [] → framed new ≤ framed tasks + 1
framed_most tasks new t items = let sum = total_more is_framed tasks new t items in omega (arith, sum, framed_one t)

pub framed_least : (tasks new : Vec Task Global) (t : Task) → new.items ≡ tasks.items ++ t ∷ [] → framed tasks ≤ framed new
framed_least tasks new t items = let sum = total_more is_framed tasks new t items in omega (arith, sum)

pub framed_set : (tasks : Vec Task Global) (new : List Task) (was now : Task) → Ending (vec_len tasks) tasks.items was → new ≡ slice_set tasks.items (vec_len tasks - 1) now
    → is_framed now ≡ is_framed was → total is_framed new ≡ framed tasks
framed_set = total_set is_framed

-- ** what was taken off

-- a task that was taken off is what was found in the last place
pub taken_found : {A : Type 0} (of : Task → Option A) (items rest : List Task) (t : Task) → items ≡ rest ++ t ∷ []
    → option_and_then of (slice_get items (length items - 1)) ≡ of t
taken_found of items rest t is = ap (λ (l : List Task). option_and_then of (slice_get l (length l - 1))) is ∙ ap (λ (o : Option Task). option_and_then of o) (last_found rest t)

-- where the last was no frame, it has no vector
pub frameless : (items rest : List Task) (t : Task) → items ≡ rest ++ t ∷ [] → first_program items ≡ None → first_emission items ≡ None → IsFrameless t
frameless items rest t is program emission = record {
  program = sym (taken_found program_in items rest t is) ∙ program;
  emission = sym (taken_found emission_in items rest t is) ∙ emission;
}

pub no_registers : (room : ℕ) (t : Task) → program_in t ≡ None → registers_used room t ≡ 0
no_registers room t none = ap (registers_had room) none

pub no_args : (room : ℕ) (t : Task) → emission_in t ≡ None → args_used room t ≡ 0
no_args room t none = ap (args_had room) none

-- ** tasks that are taken off

pub stocked_pop : (used : ℕ → Task → ℕ) (tasks new : Vec Task Global) (stock : Kept) → vec_capacity new ≡ vec_capacity tasks → IsStocked used tasks stock → (o : Option Task)
    → tasks.items ≡ new.items ++ option_to_list o → ((t : Task) → o ≡ Some t → used stock.room t ≡ 0) → IsStocked used new stock
stocked_pop used tasks new stock room s None items none = record {
  left =
      let had = used stock.room in
      let sum : total had tasks.items ≡ total had new.items + total had [] = ap (total had) items ∙ total-append had new.items [] in
      omega (arith, s.left, sum);
  enough = omega (arith, s.enough, room);
}
stocked_pop used tasks new stock room s (Some t) items none = stocked_gone used tasks new stock room s t items (none t refl)

pub framed_pop : (tasks new : Vec Task Global) (o : Option Task) → tasks.items ≡ new.items ++ option_to_list o → ((t : Task) → o ≡ Some t → IsFrameless t) → framed new ≡ framed tasks
framed_pop tasks new None items none =
    let sum : framed tasks ≡ framed new + total is_framed [] = ap (total is_framed) items ∙ total-append is_framed new.items [] in
    omega (arith, sum)
framed_pop tasks new (Some t) items none = sym (framed_plain new tasks t (none t refl) items)

pub popped_frameless : (items rest : List Task) (o : Option Task) → items ≡ rest ++ option_to_list o → first_program items ≡ None → first_emission items ≡ None → IfSome o IsFrameless
popped_frameless items rest None is program emission = tt
popped_frameless items rest (Some t) is program emission = frameless items rest t is program emission

pub frameless_at : (items rest : List Task) (o : Option Task) → items ≡ rest ++ option_to_list o → first_program items ≡ None → first_emission items ≡ None
    → (t : Task) → o ≡ Some t → IsFrameless t
frameless_at items rest o is program emission t at = frameless items rest t (is ∙ ap (λ (o : Option Task). rest ++ option_to_list o) at) program emission

-- the tasks behind one that was taken off
pub tasks_off : (d : machine.Definition) (hs : List Handler) (items rest : List Task) (t : Task) → items ≡ rest ++ t ∷ []
    → reverse (map (task_of d hs) rest) ≡ drop 1 (reverse (map (task_of d hs) items))
tasks_off d hs items rest t is =
    sym (ap (λ (l : List config.Task). drop 1 l) (ap (λ (l : List Task). reverse (map (task_of d hs) l)) is ∙ first_of_last d hs rest t))

pub front_known : (last : ℕ) (front : List Task) (t : Task) → All (TakesKnownHandlers last) (front ++ t ∷ []) → All (TakesKnownHandlers last) front
front_known last [] t all = All-nil (TakesKnownHandlers last)
front_known last (x ∷ xs) t all =
    All-cons (TakesKnownHandlers last) x xs (All-head (TakesKnownHandlers last) x (xs ++ t ∷ []) all) (front_known last xs t (All-tail (TakesKnownHandlers last) x (xs ++ t ∷ []) all))

pub known_more : (last : ℕ) (front : List Task) (t : Task) → TakesKnownHandlers last t → All (TakesKnownHandlers last) front → All (TakesKnownHandlers last) (front ++ t ∷ [])
known_more last [] t known all = All-cons (TakesKnownHandlers last) t [] known (All-nil (TakesKnownHandlers last))
known_more last (x ∷ xs) t known all =
    All-cons (TakesKnownHandlers last) x (xs ++ t ∷ []) (All-head (TakesKnownHandlers last) x xs all) (known_more last xs t known (All-tail (TakesKnownHandlers last) x xs all))

-- what is found in the last place is in what was taken off
none_in : {A : Type 0} (of : Task → Option A) (items : List Task) → length items ≡ 0 → option_and_then of (slice_get items (length items - 1)) ≡ None
none_in of [] empty = refl
none_in of (x ∷ xs) empty = absurd (omega (arith, empty))

pub popped_in : {A : Type 0} (of : Task → Option A) (v new : Vec Task Global) (o : Option Task) → v.items ≡ new.items ++ option_to_list o
    → MatchOption o ((vec_len v ≡ 0) × (vec_len new ≡ 0)) (λ _. vec_len new + 1 ≡ vec_len v) → option_and_then of o ≡ option_and_then of (slice_get v.items (length v.items - 1))
popped_in of v new None items cases = sym (none_in of v.items (sym v.ok.0 ∙ cases.0))
popped_in of v new (Some t) items cases = sym (taken_found of v.items new.items t items)

pub last_known : (last : ℕ) (front : List Task) (t : Task) → All (TakesKnownHandlers last) (front ++ t ∷ []) → TakesKnownHandlers last t
last_known last [] t all = All-head (TakesKnownHandlers last) t [] all
last_known last (x ∷ xs) t all = last_known last xs t (All-tail (TakesKnownHandlers last) x (xs ++ t ∷ []) all)

pub popped_known : (items rest : List Task) (o : Option Task) → items ≡ rest ++ option_to_list o → IfSome o (λ t. (last : ℕ) → All (TakesKnownHandlers last) items → TakesKnownHandlers last t)
popped_known items rest None is = tt
popped_known items rest (Some t) is = λ last all. last_known last rest t (subst (λ (l : List Task). All (TakesKnownHandlers last) l) is all)

-- ** the tasks of the build

neither : (a b : Bool) → (a || b) ≡ false → (a ≡ false) × (b ≡ false)
neither true b is = absurd (cc is)
neither false b is = (refl, is)

any_front : (rest tail : List Task) → list_any is_of_build (rest ++ tail) ≡ false → list_any is_of_build rest ≡ false
any_front [] tail none = refl
any_front (x ∷ rest) tail none =
    let p = neither (is_of_build x) (list_any is_of_build (rest ++ tail)) none in
    ap (λ b. b || list_any is_of_build rest) p.0 ∙ any_front rest tail p.1

-- none of it is among what is left above the lowest
pub any_left : (n : ℕ) (rest tail : List Task) → list_any is_of_build (drop n (rest ++ tail)) ≡ false → list_any is_of_build (drop n rest) ≡ false
any_left zero rest tail none = any_front rest tail none
any_left (suc n) [] tail none = refl
any_left (suc n) (x ∷ rest) tail none = any_left n rest tail none

none_past : (rest : List Task) → list_any is_of_build (drop (length rest) rest) ≡ false
none_past [] = refl
none_past (x ∷ rest) = none_past rest

-- however many are looked through, up to all that are left
pub any_least : (n m : ℕ) (rest tail : List Task) → m ≡ min n (length rest) → list_any is_of_build (drop n (rest ++ tail)) ≡ false → list_any is_of_build (drop m rest) ≡ false
any_least n m rest tail is none = by (nat_lt n (length rest)) refl
  where
    by : (b : Bool) → nat_lt n (length rest) ≡ b → list_any is_of_build (drop m rest) ≡ false
    by true e = let same : m ≡ n = grind (arith, nat_tests, e, is) in subst (λ k. list_any is_of_build (drop k rest) ≡ false) (sym same) (any_left n rest tail none)
    by false e = let all : m ≡ length rest = grind (arith, nat_tests, e, is) in subst (λ k. list_any is_of_build (drop k rest) ≡ false) (sym all) (none_past rest)

-- one more that is none of it
any_behind : (items : List Task) (t : Task) → is_of_build t ≡ false → list_any is_of_build items ≡ false → list_any is_of_build (items ++ t ∷ []) ≡ false
any_behind [] t other none = ap (λ b. b || false) other
any_behind (x ∷ items) t other none =
    let p = neither (is_of_build x) (list_any is_of_build items) none in
    ap (λ b. b || list_any is_of_build (items ++ t ∷ [])) p.0 ∙ any_behind items t other p.1

pub any_more : (n : ℕ) (items : List Task) (t : Task) → is_of_build t ≡ false → list_any is_of_build (drop n items) ≡ false → list_any is_of_build (drop n (items ++ t ∷ [])) ≡ false
any_more zero items t other none = any_behind items t other none
any_more (suc zero) [] t other none = refl
any_more (suc (suc n)) [] t other none = refl
any_more (suc n) (x ∷ items) t other none = any_more n items t other none

pub any_none : (n : ℕ) (items : List Task) → n ≡ length items → list_any is_of_build (drop n items) ≡ false
any_none n items is = subst (λ k. list_any is_of_build (drop k items) ≡ false) (sym is) (none_past items)
