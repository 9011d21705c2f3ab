-- The build of a definition: what each step of it starts.
use Rattle.std.proofs.Common.{◌≡◌, ℕ, zero, suc, ◌+◌, ◌<◌, ◌≤◌, Bool, true, false, cond, not, List, [], ◌∷◌, ◌++◌, length, map, reverse, take, drop, Option, Some, None, Ok, Err, slice_get, refl, sym, ap, ◌∙◌, arith, append_assoc, length-append}
use Rattle.std.specs.List.{flat_map, list_all}
use Rattle.std.proofs.lemmas.Option.{slice_get_within, get_or_from_slice_get}
use Rattle.std.proofs.lemmas.List.{reverse-append}
use Rattle.std.proofs.lemmas.List.Sums.{count_by-le-length}
use Rattle.std.proofs.Math.Seq.{drop-cons}
use Rattle.ui_machine.specs.declared.arm.Arm.{Arm}
use Rattle.ui_machine.specs.declared.arm.Arm.TheVariants as arms
use Rattle.ui_machine.specs.Definition.Properties.{Spec}
use Rattle.ui_machine.specs.Definition.{Definition}
use Rattle.ui_machine.specs.Definition.Places.{GivenProperty, Place}
use Rattle.ui_machine.specs.Definition.Values as values
use Rattle.ui_machine.specs.Seq.{read}
use Rattle.ui_machine.specs.Definition.Lookups.{type_of, specs_of}
use Rattle.ui_machine.specs.Output.Lines as lines
use Rattle.ui_machine.specs.State.Tasks.{ConstructStep, sets, thaws, Item, makes, Task, Constructing, Building}
use Rattle.ui_machine.specs.State.Config.{Config, World, Started, starts, said}
use Rattle.ui_machine.specs.Outcome.{Answer, ◌>>=◌, known, only_if}
use Rattle.ui_machine.specs.Rules.Construction.{is_forward, not_forward, or_default, given_at, given_value, set_of, no_spec, is_at_construction, construct_sets, constructed_runs, construction, given_sets, new_object, with_object, making, has_valid_default}
use Rattle.ui_machine.specs.Rules.Build.{made_items, adopts_if, forward_of, forward_items, peer_for, building, building_object}
use Rattle.ui_machine.specs.Steps.{uncounted}
use Rattle.g_values.specs.declared.value.Value.{Value}
use Rattle.g_values.specs.View.{value_view}
use Rattle.definition_format.specs.Meaning.{IsPlain, IsBasic, is_object, object_count}
use Rattle.engine_stack.specs.declared.task.ForwardReference.{ForwardReference}
use Rattle.engine_world.specs.Able.{Able}
use Rattle.engine_world.specs.PeerPlaces.{own_peer}
use Rattle.engine_stack.specs.TaskView.{forwards_of_place, forwards_at, adopts_of, build_from, build_end, build_behind}
use Rattle.engine_stack.specs.declared.task.ConstructStep as code
use Rattle.engine_world.specs.MakingView.{later_steps, making_of_object}
use Rattle.engine_stack.specs.MakingView.{making_of_code, making_steps}
use Rattle.engine_world.proofs.Prototypes.{made_past, object_there}

-- ** lists

one_more : {A : Type 0} (xs : List A) (x : A) (ys : List A) → xs ++ x ∷ ys ≡ (xs ++ x ∷ []) ++ ys
one_more [] x ys = refl
one_more (z ∷ xs) x ys = ap (λ zs. z ∷ zs) (one_more xs x ys)

pub drop_at : {A : Type 0} (xs : List A) (i : ℕ) (x : A) → slice_get xs i ≡ Some x → drop i xs ≡ x ∷ drop (suc i) xs
drop_at xs i x at = drop-cons xs i x (slice_get_within xs i x at) ∙ ap (λ y. y ∷ drop (suc i) xs) (get_or_from_slice_get xs i x x at)

-- ** constructions

one_early : (b : Bool) (g : GivenProperty) (gs all : List GivenProperty) → length gs ≤ length all → length (cond b (g ∷ gs) gs) ≤ suc (length all)
one_early true g gs all few = omega (arith, few)
one_early false g gs all few = omega (arith, few)

-- forward references are left out
pub few_early : (place : ℕ) (given : List GivenProperty) → length (not_forward place given) ≤ length given
few_early place [] = omega arith
few_early place (g ∷ gs) = one_early (not (is_forward place g.given)) g (not_forward place gs) gs (few_early place gs)

one_set : (b : Bool) (slot : ℕ) (v : values.Value) (steps : List ConstructStep)
    → length (cond b (sets slot v ∷ []) [] ++ steps) ≤ suc (length steps)
one_set true slot v steps = omega arith
one_set false slot v steps = omega arith

few_construct : (w : World) (given : List GivenProperty) (slot : ℕ) (specs : List Spec)
    → length (construct_sets w given slot specs) ≤ length specs
few_construct w given slot [] = omega arith
few_construct w given slot (s ∷ specs) =
    let v = or_default (given_at w given slot) s.default in
    let one = one_set (is_at_construction s) slot v (construct_sets w given (suc slot) specs) in
    let more = few_construct w given (suc slot) specs in
    omega (arith, one, more)

one_given : (b : Bool) (v : Option values.Value) (slot : ℕ) (steps : List ConstructStep)
    → length (cond b [] (set_of v slot) ++ steps) ≤ suc (length steps)
one_given true v slot steps = omega arith
one_given false None slot steps = omega arith
one_given false (Some v) slot steps = omega arith

few_given : (w : World) (specs : List Spec) (given : List GivenProperty) → length (given_sets w specs given) ≤ length given
few_given w specs [] = omega arith
few_given w specs (g ∷ gs) =
    let one = one_given (is_at_construction (read no_spec specs g.slot)) (given_value w g.given) g.slot (given_sets w specs gs) in
    let more = few_given w specs gs in
    omega (arith, one, more)

-- no more than one for each property and each given value, the programs, and the thaw
pub few_steps : (d : Definition) (w : World) (class : ℕ) (given : List GivenProperty)
    → length (making_of_object d w class given) ≤ suc (length (specs_of d class) + length (constructed_runs d class) + length given)
few_steps d w class given =
    let specs = specs_of d class in
    let first = length-append (construct_sets w given 0 specs) (constructed_runs d class ++ later_steps w specs given) in
    let next = length-append (constructed_runs d class) (later_steps w specs given) in
    let last = length-append (given_sets w specs given) (thaws ∷ []) in
    omega (arith, first, next, last, few_construct w given 0 specs, few_given w specs given)

each_valid : (d : Definition) (specs : List Spec) → ((i : ℕ) (s : Spec) → slice_get specs i ≡ Some s → IsPlain d.types s) → list_all (has_valid_default d) specs ≡ true
each_valid d [] plain = refl
each_valid d (s ∷ specs) plain = rw (let e = (plain 0 s refl).default in e) (each_valid d specs (λ i t at. plain (suc i) t at))

-- nothing is made of a place that is not there
pub made_nowhere : (d : Definition) (w : World) (place : ℕ) (peer : Option ℕ) (held : Bool) → slice_get d.places place ≡ None → making d w place peer held ≡ Err arms.Code
unfolding making
made_nowhere d w place peer held none = rw none refl

-- nor of an abstract class
pub makes_concrete : (d : Definition) (w : World) (place : ℕ) (p : Place) → slice_get d.places place ≡ Some p → (peer : Option ℕ) (held : Bool)
    → Able (making d w place peer held) → (type_of d p.class).is_abstract ≡ false
unfolding making
makes_concrete d w place p at peer held able = by (type_of d p.class).is_abstract _ (rw at at able)
  where
    by : (b : Bool) (a : Answer Started) → Able (only_if (not b) arms.Abstract a) → b ≡ false
    by false a may = refl
    by true a may = absurd may

-- what is made of a place
abbrev made_of : (d : Definition) (w : World) (place : ℕ) (peer : Option ℕ) → Bool → Place → Answer Started
made_of d w place peer held p =
    only_if (not (type_of d p.class).is_abstract) arms.Abstract
    (only_if (list_all (has_valid_default d) (specs_of d p.class)) arms.Value
    (starts (said d (with_object d w (new_object d place p peer)) (lines.construct (suc (length w.objects)) (type_of d p.class).name)) (Constructing (suc (length w.objects)) (construction d w place p) held ∷ [])))

-- who holds it makes no difference
pub makes_any : (d : Definition) (w : World) (place : ℕ) (peer : Option ℕ) (b c : Bool) → Able (making d w place peer b) → Able (making d w place peer c)
unfolding making
makes_any d w place peer b c able = by (slice_get d.places place) able
  where
    of : (concrete valid : Bool) (x y : Started) → Able (only_if concrete arms.Abstract (only_if valid arms.Value (Ok x))) → Able (only_if concrete arms.Abstract (only_if valid arms.Value (Ok y)))
    of true true x y may = tt
    of true false x y may = may
    of false valid x y may = may

    by : (p : Option Place) → Able (known arms.Code p >>= made_of d w place peer b) → Able (known arms.Code p >>= made_of d w place peer c)
    by None may = may
    by (Some p) may = of (not (type_of d p.class).is_abstract) (list_all (has_valid_default d) (specs_of d p.class)) _ _ may

module _ (d : Definition) (basic : IsBasic d) where
  module _ (w : World) (place : ℕ) (p : Place) (at : slice_get d.places place ≡ Some p) where
    pub valid_defaults : list_all (has_valid_default d) (specs_of d p.class) ≡ true
    valid_defaults = each_valid d (specs_of d p.class) (λ i s has. basic.plain p.class i s has)

    pub made_there : (peer : Option ℕ) (held : Bool) → (type_of d p.class).is_abstract ≡ false
        → making d w place peer held ≡ starts (said d (with_object d w (new_object d place p peer)) (lines.construct (suc (length w.objects)) (type_of d p.class).name)) (Constructing (suc (length w.objects)) (making_of_object d w p.class (not_forward place p.given)) held ∷ [])
    unfolding making
    made_there peer held concrete = rw (at, concrete, valid_defaults) refl

    pub next_made : p.is_prototype ≡ false → (fs : List ForwardReference) → build_from d place fs ≡ makes place ∷ build_behind d place fs
    next_made object fs =
        let others = made_items (suc place) (drop (suc place) d.places) in
        ap (λ ps. made_items place ps ++ build_end d fs) (drop_at d.places place p at)
        ∙ ap (λ b. (cond b [] (makes place ∷ adopts_if place p.parent) ++ others) ++ build_end d fs) object
        ∙ ap (λ items. makes place ∷ items) (append_assoc (adopts_if place p.parent) others (build_end d fs))
        ∙ ap (λ found. makes place ∷ adopts_of place found ++ build_from d (suc place) fs) (sym at)

    -- an item that waits below what making starts
    below : (rest : List Task) (n : ℕ) (items : List Item) (a : Answer Started)
        → uncounted (Building items ∷ rest) n a ≡ uncounted rest n (a >>= λ m. starts m.world (m.tasks ++ Building items ∷ []))
    below rest n items (Ok s) = ap (λ tasks. Ok (record { world = s.world; agenda = tasks; counted = n })) (one_more s.tasks (Building items) rest)
    below rest n items (Err arm) = refl

    module _ (object : p.is_prototype ≡ false) (fs : List ForwardReference) (rest : List Task) (n : ℕ) where
      -- what is made of the peer that the object has for its own
      abbrev made_with : Answer (Option ℕ) → Answer Config
      made_with peer = uncounted rest n (peer >>= λ q. making d w place q true >>= λ m. starts m.world (m.tasks ++ Building (build_behind d place fs) ∷ []))

      builds_by : uncounted rest n (building d w (build_from d place fs)) ≡ made_with (own_peer d w place)
      unfolding building_object
      builds_by =
          ap (λ items. uncounted rest n (building d w items)) (next_made object fs)
          ∙ ap (λ (found : Option Place). uncounted rest n (known arms.Code found >>= λ q. peer_for d w q >>= λ peer. making d w place peer true >>= λ m. starts m.world (m.tasks ++ Building (build_behind d place fs) ∷ []))) at
          ∙ ap (λ (found : Option Place). made_with (known arms.Code found >>= λ (q : Place). peer_for d w q)) (sym at)

      pub builds_next : (peer : Option ℕ) → own_peer d w place ≡ Ok peer
          → uncounted rest n (building d w (build_from d place fs)) ≡ uncounted (Building (build_behind d place fs) ∷ rest) n (making d w place peer true)
      builds_next peer is = builds_by ∙ ap made_with is ∙ sym (below rest n (build_behind d place fs) (making d w place peer true))

      pub builds_stuck : (arm : Arm) → own_peer d w place ≡ Err arm → uncounted rest n (building d w (build_from d place fs)) ≡ Err arm
      builds_stuck arm is = builds_by ∙ ap made_with is

pub no_place : (d : Definition) (w : World) (place : ℕ) (peer : Option ℕ) (held : Bool) → slice_get d.places place ≡ None → making d w place peer held ≡ Err arms.Code
unfolding making
no_place d w place peer held none = rw none refl

-- the forward references of an object come before those of the objects behind it
pub forwards_before : (d : Definition) (place : ℕ) (p : Place) → slice_get d.places place ≡ Some p → p.is_prototype ≡ false
    → forward_items place (drop place d.places) ≡ forwards_at d place ++ forward_items (suc place) (drop (suc place) d.places)
forwards_before d place p at object =
    let others = forward_items (suc place) (drop (suc place) d.places) in
    ap (forward_items place) (drop_at d.places place p at)
    ∙ ap (λ b. cond b [] (flat_map (forward_of place) p.given) ++ others) object
    ∙ ap (λ (found : Option Place). forwards_of_place place found ++ others) (sym at)

-- where all objects are made, the forward references are left
pub only_forwards : (d : Definition) → IsBasic d → (place : ℕ) (fs : List ForwardReference) → object_count d ≤ place → build_from d place fs ≡ build_end d fs
only_forwards d basic place fs past = ap (λ items. items ++ build_end d fs) (made_past d basic place past)

-- ** the steps of a construction

pub mapped_more : {A B : Type 0} (f : A → B) (xs : List A) (x : A) → map f (xs ++ x ∷ []) ≡ map f xs ++ f x ∷ []
mapped_more f [] x = refl
mapped_more f (y ∷ xs) x = ap (λ ys. f y ∷ ys) (mapped_more f xs x)

pub one_step_more : (steps : List code.ConstructStep) (step : code.ConstructStep) → making_steps (steps ++ step ∷ []) ≡ making_of_code step ∷ making_steps steps
one_step_more steps step = ap reverse (mapped_more making_of_code steps step) ∙ reverse-append (map making_of_code steps) (making_of_code step ∷ [])

-- ** the defaults of a class

pub all_taken : (specs : List Spec) (slot : ℕ) → slice_get specs slot ≡ None → take slot specs ≡ specs
all_taken [] zero none = refl
all_taken [] (suc slot) none = refl
all_taken (s ∷ specs) zero none = cc
all_taken (s ∷ specs) (suc slot) none = ap (λ ss. s ∷ ss) (all_taken specs slot none)

pub one_taken : (specs : List Spec) (slot : ℕ) (s : Spec) → slice_get specs slot ≡ Some s → take (suc slot) specs ≡ take slot specs ++ s ∷ []
one_taken [] slot s at = cc
one_taken (t ∷ specs) zero s at = cc
one_taken (t ∷ specs) (suc slot) s at = ap (λ ss. t ∷ ss) (one_taken specs slot s at)

pub one_default_more : (specs : List Spec) (slot : ℕ) (s : Spec) (values : List Value) (v : Value) → slice_get specs slot ≡ Some s → value_view v ≡ s.default
    → map value_view values ≡ map (λ (t : Spec). t.default) (take slot specs) → map value_view (values ++ v ∷ []) ≡ map (λ (t : Spec). t.default) (take (suc slot) specs)
one_default_more specs slot s values v at default before =
    mapped_more value_view values v
    ∙ ap (λ vs. vs ++ value_view v ∷ []) before
    ∙ ap (λ x. map (λ (t : Spec). t.default) (take slot specs) ++ x ∷ []) default
    ∙ sym (mapped_more (λ (t : Spec). t.default) (take slot specs) s)
    ∙ ap (map (λ (t : Spec). t.default)) (sym (one_taken specs slot s at))

-- ** the objects of a definition, by place

place_within : (places : List Place) (i : ℕ) → i < length places → (p : Place) × (slice_get places i ≡ Some p)
place_within [] i small = absurd (omega arith)
place_within (p ∷ places) zero small = (p, refl)
place_within (p ∷ places) (suc i) small = place_within places i (omega arith)

-- an object is at each place before the prototypes
pub object_within : (d : Definition) → IsBasic d → (place : ℕ) → place < object_count d → (p : Place) × (slice_get d.places place ≡ Some p) × (p.is_prototype ≡ false)
object_within d basic place small =
    let there = place_within d.places place (omega (arith, small, count_by-le-length is_object d.places)) in
    (there.0, there.1, object_there d basic place there.0 there.1 small)
