-- The signals of a definition's objects, in the order in which they are connected.
use Rattle.std.proofs.Common.{◌≡◌, Ok, Err, ℕ, zero, suc, ◌+◌, ◌-◌, ◌<◌, ◌≤◌, nat_lt, min, Bool, true, false, cond, List, [], ◌∷◌, ◌++◌, length, drop, get_or, map, Option, Some, None, slice_get, refl, sym, ap, ◌∙◌, arith}
use Rattle.std.proofs.lemmas.Bool.Decides.{nat_tests}
use Rattle.std.proofs.lemmas.List.{length-drop}
use Rattle.std.proofs.Math.Seq.{drop-cons}
use Rattle.ui_machine.specs.Rules.Connections.{detail_at, greatest_handler, signal_number}
use Rattle.engine_world.specs.ConnectView.{Takes, attached_at}
use Rattle.engine_stack.proofs.Lists.{total-append}
use Rattle.ui_machine.specs.Definition.{Definition}
use Rattle.ui_machine.specs.Definition.Lookups.{place_at}
use Rattle.ui_machine.specs.Definition.Places.{Attached, Bind, Place}
use Rattle.ui_machine.specs.Rules.Build.{adopts_if, building_handler, connected_items, held_data, held_object, is_connecting, made_items, numbered, of_items, with_signal}
use Rattle.ui_machine.specs.Seq.{total}
use Rattle.ui_machine.specs.declared.arm.Arm.TheVariants as arms
use Rattle.ui_machine.specs.Outcome.{Answer, known, ◌>>=◌}
use Rattle.ui_machine.specs.State.Config.{World, starts}
use Rattle.ui_machine.specs.State.Tasks.{Building, Item, Task, connects}
use Rattle.ui_machine.specs.State.Tasks as tasks
use Rattle.engine_stack.specs.TaskView.{binds_from, build_end, build_from, connects_from, item_of, signals_of}
use Rattle.engine_stack.specs.declared.task.ForwardReference.{ForwardReference}
use Rattle.definition_format.specs.Meaning.{IsBasic, object_count}
use Rattle.engine_world.proofs.Prototypes.{connected_past, signals_past}

drop_past : {A : Type 0} (xs : List A) (i : ℕ) → length xs ≤ i → drop i xs ≡ []
drop_past [] zero past = refl
drop_past [] (suc i) past = refl
drop_past (x ∷ xs) zero past = absurd (omega arith)
drop_past (x ∷ xs) (suc i) past = drop_past xs i (omega arith)

-- the signals from an object on are its own, and then those of the objects behind it
from_place : (k : ℕ) (ps : List Place)
    → connected_items k ps ≡ numbered (connects k) 0 (signals_of (slice_get ps 0)) ++ connected_items (suc k) (drop 1 ps)
from_place k [] = refl
from_place k (p ∷ ps) = refl

first_of : {A : Type 0} (xs : List A) (i : ℕ) → slice_get (drop i xs) 0 ≡ slice_get xs i
first_of [] zero = refl
first_of [] (suc i) = refl
first_of (x ∷ xs) zero = refl
first_of (x ∷ xs) (suc i) = first_of xs i

rest_of : {A : Type 0} (xs : List A) (i : ℕ) → drop 1 (drop i xs) ≡ drop (suc i) xs
rest_of [] zero = refl
rest_of [] (suc i) = refl
rest_of (x ∷ xs) zero = refl
rest_of (x ∷ xs) (suc i) = rest_of xs i

module _ (d : Definition) where
  connects_at : (k : ℕ) → connected_items k (drop k d.places) ≡ connects_from d k 0
  connects_at k =
      from_place k (drop k d.places)
      ∙ ap (λ (p : Option Place). numbered (connects k) 0 (signals_of p) ++ connected_items (suc k) (drop 1 (drop k d.places))) (first_of d.places k)
      ∙ ap (λ ps. numbered (connects k) 0 (signals_of (place_at d k)) ++ connected_items (suc k) ps) (rest_of d.places k)

  -- all of them are those from the first of the first object on
  pub connects_all : connected_items 0 d.places ≡ connects_from d 0 0
  connects_all = connects_at 0

  -- behind the last signal of an object come those of the next one
  pub next_place : (k first : ℕ) → length (signals_of (place_at d k)) ≤ first → connects_from d k first ≡ connects_from d (suc k) 0
  next_place k first past =
      ap (λ (xs : List Attached). numbered (connects k) first xs ++ connected_items (suc k) (drop (suc k) d.places)) (drop_past (signals_of (place_at d k)) first past)
      ∙ connects_at (suc k)

  -- a signal that is there is the next one
  pub next_there : (k first : ℕ) → first < length (signals_of (place_at d k)) → connects_from d k first ≡ connects k first ∷ connects_from d k (suc first)
  next_there k first within = by (signals_of (place_at d k)) within
    where
      by : (xs : List Attached) → first < length xs
          → numbered (connects k) first (drop first xs) ++ connected_items (suc k) (drop (suc k) d.places)
          ≡ connects k first ∷ (numbered (connects k) (suc first) (drop (suc first) xs) ++ connected_items (suc k) (drop (suc k) d.places))
      by [] less = absurd (omega arith)
      by (x ∷ xs) less = ap (λ ys. numbered (connects k) first ys ++ connected_items (suc k) (drop (suc k) d.places)) (drop-cons (x ∷ xs) first x less)

  -- behind the last object come none
  pub none_left : IsBasic d → (k first : ℕ) → object_count d ≤ k → connects_from d k first ≡ []
  none_left basic k first past =
      ap (λ (xs : List Attached). numbered (connects k) first (drop first xs) ++ connected_items (suc k) (drop (suc k) d.places)) (signals_past d basic k past)
      ∙ ap (λ xs. numbered (connects k) first xs ++ connected_items (suc k) (drop (suc k) d.places)) (drop_past [] first (omega arith))
      ∙ connected_past d basic (suc k) (omega (arith, past))

-- ** how many they are

number_of : (item : ℕ → Item) (n : ℕ) (xs : List Attached) → ((k : ℕ) → is_connecting (item k) ≡ 1) → total is_connecting (numbered item n xs) ≡ length xs
number_of item n [] one = refl
number_of item n (x ∷ xs) one = omega (arith, one n, number_of item (suc n) xs one)

pub count_from : (d : Definition) (k first : ℕ)
    → total is_connecting (connects_from d k first) ≡ (length (signals_of (place_at d k)) - first) + total is_connecting (connects_from d (suc k) 0)
count_from d k first =
    total-append is_connecting (numbered (connects k) first (drop first (signals_of (place_at d k)))) (connected_items (suc k) (drop (suc k) d.places))
    ∙ ap (λ n. n + total is_connecting (connected_items (suc k) (drop (suc k) d.places))) (number_of (connects k) first (drop first (signals_of (place_at d k))) (λ i. refl) ∙ length-drop first (signals_of (place_at d k)))
    ∙ ap (λ items. (length (signals_of (place_at d k)) - first) + total is_connecting items) (connects_at d (suc k))

-- ** numbers that are taken

-- a number that is too great stays so
pub taken_more : (t c : ℕ) → Takes t c (min (t + c) greatest_handler)
taken_more t c more = grind (arith, nat_tests)

-- and so for what is still to come
pub taken_step : (t c rest next : ℕ) → next ≡ min (t + c) greatest_handler → (more : ℕ)
    → nat_lt (next + rest + more) greatest_handler ≡ nat_lt (t + (c + rest) + more) greatest_handler
taken_step t c rest next is more =
    ap (λ n. nat_lt n greatest_handler) (let e : next + rest + more ≡ next + (rest + more) = omega arith in e)
    ∙ ap (λ n. nat_lt (n + (rest + more)) greatest_handler) is
    ∙ taken_more t c (rest + more)
    ∙ ap (λ n. nat_lt n greatest_handler) (let e : t + c + (rest + more) ≡ t + (c + rest) + more = omega arith in e)

-- ** of the tasks that are left

-- the builder is to connect all signals, where it has still to make bindings
pub bind_count : (d : Definition) (number : ℕ) → total is_connecting (binds_from d number) ≡ total is_connecting (connects_from d 0 0)
bind_count d number =
    omega (
      arith,
      total-append is_connecting (numbered tasks.binds number (drop number d.bindings)) (connected_items 0 d.places),
      none_bound number (drop number d.bindings),
      ap (total is_connecting) (connects_all d),
    )
  where
    none_bound : (n : ℕ) (bs : List Bind) → total is_connecting (numbered tasks.binds n bs) ≡ 0
    none_bound n [] = refl
    none_bound n (b ∷ bs) = omega (arith, none_bound (suc n) bs)

-- and so where it has still to make objects
pub build_count : (d : Definition) (place : ℕ) (fs : List ForwardReference) → total is_connecting (build_from d place fs) ≡ total is_connecting (connects_from d 0 0)
build_count d place fs =
    omega (
      arith,
      total-append is_connecting (made_items place (drop place d.places)) (build_end d fs),
      none_made place (drop place d.places),
      total-append is_connecting (map item_of fs) (binds_from d 0),
      none_forward fs,
      bind_count d 0,
    )
  where
    none_adopted : (place : ℕ) (parent : Option ℕ) → total is_connecting (adopts_if place parent) ≡ 0
    none_adopted place None = refl
    none_adopted place (Some p) = refl

    none_of : (b : Bool) (place : ℕ) (parent : Option ℕ) → total is_connecting (cond b [] (tasks.makes place ∷ adopts_if place parent)) ≡ 0
    none_of true place parent = refl
    none_of false place parent = omega (arith, none_adopted place parent)

    none_made : (place : ℕ) (ps : List Place) → total is_connecting (made_items place ps) ≡ 0
    none_made place [] = refl
    none_made place (p ∷ ps) =
        omega (
          arith,
          total-append is_connecting (cond p.is_prototype [] (tasks.makes place ∷ adopts_if place p.parent)) (made_items (suc place) ps),
          none_of p.is_prototype place p.parent,
          none_made (suc place) ps,
        )

    none_forward : (fs : List ForwardReference) → total is_connecting (map item_of fs) ≡ 0
    none_forward [] = refl
    none_forward (f ∷ fs) = omega (arith, none_forward fs)

-- and so where an object is still to become its parent's child
pub adopt_count : (d : Definition) (at place : ℕ) (fs : List ForwardReference)
    → total is_connecting (tasks.adopts at ∷ build_from d place fs) ≡ total is_connecting (connects_from d 0 0)
adopt_count d at place fs = omega (arith, build_count d place fs)

-- one task after the other
pub tasks_left : {A : Type 0} (g : Item → ℕ) (f : A → Task) (xs : List A) (i : ℕ) (x : A) → i < length xs → x ≡ get_or xs i x
    → total (of_items g) (map f (drop i xs)) ≡ of_items g (f x) + total (of_items g) (map f (drop (i + 1) xs))
tasks_left g f xs i x within is =
    ap (λ ys. total (of_items g) (map f ys)) (drop-cons xs i x within)
    ∙ ap (λ y. of_items g (f y) + total (of_items g) (map f (drop (suc i) xs))) (sym is)
    ∙ ap (λ k. of_items g (f x) + total (of_items g) (map f (drop k xs))) (let e : suc i ≡ i + 1 = omega arith in e)

-- ** a signal that is connected

pub bind_same : {A B C : Type 0} (a : Answer A) (f : A → Answer B) (g : A → Answer C) (k : C → Answer B) → ((x : A) → f x ≡ (g x >>= k)) → (a >>= f) ≡ ((a >>= g) >>= k)
bind_same (Ok x) f g k h = h x
bind_same (Err arm) f g k h = refl

-- it is connected with what the definition says
pub connects_attached : (d : Definition) (w : World) (place number : ℕ) (items : List Item)
    → building_handler d w place number items ≡ (attached_at d w place number >>= λ c. starts (with_signal w c) (Building items ∷ []))
unfolding building_handler
connects_attached d w place number items =
    bind_same (known arms.Code (place_at d place)) _ _ _ (λ p. bind_same (known arms.Code (slice_get p.signals number)) _ _ _ (λ a. bind_same (held_object w place) _ _ _ (λ id.
    bind_same (held_data w a.with) _ _ _ (λ arg. bind_same (known arms.Code (signal_number d p.class a.signal)) _ _ _ (λ signal. bind_same (detail_at d p.class signal a.detail) _ _ _ (λ detail. refl))))))
