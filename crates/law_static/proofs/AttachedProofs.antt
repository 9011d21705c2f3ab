-- The signals that the definition names for its objects.
use Rattle.std.proofs.Common.{◌≡◌, refl, sym, ap, subst, ◌∙◌, ℕ, zero, suc, ◌+◌, true, List, [], ◌∷◌, Some, slice_get, arith}
use Rattle.std.specs.Prelude.{option_map}
use Rattle.std.specs.List.{filter}
use Rattle.std.proofs.lemmas.Bool.{eq-eqb}
use Rattle.ui_machine.specs.Definition.{Definition}
use Rattle.ui_machine.specs.Definition.Places.{Attached, Place}
use Rattle.ui_machine.specs.Definition.Lookups.{place_at}
use Rattle.ui_machine.specs.State.Tasks.{connects}
use Rattle.law_typing.specs.Rules.RegisterKinds.{class_at}
use Rattle.law_typing.specs.Rules.Faults.{handler_signature}
use Rattle.law_typing.specs.Rules.Faults as faults
use Rattle.law_typing.specs.Rules.Handlers.{unless, attached_fits, class_faults, attached_faults, place_faults}
use Rattle.law_typing.specs.Graph.Channels.{Channel, constructed, property, signal, of_class}
use Rattle.law_typing.specs.Graph.{Raised, place_of_channel, can_mean, signals_of, attached_to, attached_for, handlers_for}
use Rattle.law_typing.specs.Graph.Tables.{Tables, of_program}
use Rattle.law_typing.specs.Laws.{IsIn}
use Rattle.law_typing.specs.Good.Handlers.{connecting_cost}
use Rattle.law_typing.proofs.Lists.{both_empty, map_in, filter_in}
use Rattle.law_static.specs.Attached.{IsAttached, AttachedFit, AttachedArePaid}
use Rattle.law_static.specs.Raises.{raised_there}
use Rattle.law_static.proofs.ConstructionProofs.{no_fault}
use Rattle.law_static.proofs.MeansProofs.{handlers_mean, raised_known}
use Rattle.law_static.proofs.SubclassProofs.{get_in}

-- ** it takes what it is given

of_object : (d : Definition) (place : ℕ) (p : Place) (n i : ℕ) (xs : List Attached) (x : Attached) → attached_faults d place p n xs ≡ [] → slice_get xs i ≡ Some x → attached_fits d place p x ≡ true
of_object d place p n i [] x none is = absurd (cc)
of_object d place p n zero (y ∷ ys) x none is =
    let same : y ≡ x = cc in
    let e = both_empty (unless (attached_fits d place p y) (handler_signature (faults.attached place n))) (attached_faults d place p (suc n) ys) none in
    ap (attached_fits d place p) (sym same) ∙ no_fault (attached_fits d place p y) (handler_signature (faults.attached place n)) e.0
of_object d place p n (suc i) (y ∷ ys) x none is =
    let e = both_empty (unless (attached_fits d place p y) (handler_signature (faults.attached place n))) (attached_faults d place p (suc n) ys) none in
    of_object d place p (suc n) i ys x e.1 is

of_places : (d : Definition) (n i : ℕ) (ps : List Place) (p : Place) (number : ℕ) (x : Attached) → place_faults d n ps ≡ [] → slice_get ps i ≡ Some p → slice_get p.signals number ≡ Some x →
    attached_fits d (n + i) p x ≡ true
of_places d n i [] p number x none at is = absurd (cc)
of_places d n zero (q ∷ ps) p number x none at is =
    let same : q ≡ p = cc in
    let e = both_empty (attached_faults d n q 0 q.signals) (place_faults d (suc n) ps) none in
    let here : n ≡ n + 0 = omega arith in
    let own : slice_get q.signals number ≡ Some x = ap (λ (p : Place). slice_get p.signals number) same ∙ is in
    ap (λ n. attached_fits d n p x) (sym here) ∙ (ap (λ (p : Place). attached_fits d n p x) (sym same) ∙ of_object d n q 0 number q.signals x e.0 own)
of_places d n (suc i) (q ∷ ps) p number x none at is =
    let e = both_empty (attached_faults d n q 0 q.signals) (place_faults d (suc n) ps) none in
    let same : suc n + i ≡ n + suc i = omega arith in
    ap (λ n. attached_fits d n p x) (sym same) ∙ of_places d (suc n) i ps p number x e.1 at is

pub attached_fit : AttachedFit
attached_fit d a place number p x is =
    let none = (both_empty (class_faults d 0 d.classes) (place_faults d 0 d.places) a.handlers).1 in
    let same : 0 + place ≡ place = omega arith in
    ap (λ n. attached_fits d n p x) (sym same) ∙ of_places d 0 place d.places p number x none is.at is.is

-- ** it is paid for

module _ (d : Definition) (costs : Tables) (place number : ℕ) (p : Place) (x : Attached) (is : IsAttached d place number p x) where
  item_pays : (c : Channel) → place_of_channel c ≡ place → can_mean d p.class c x.signal x.detail ≡ true → connecting_cost d costs c (connects place number) ≡ of_program costs x.program
  item_pays c same means = rw (eq-eqb (place_of_channel c) place same, is.at, is.is, means) refl

  -- it is among those that the definition's objects run there
  among : (c : Channel) → place_of_channel c ≡ place → can_mean d p.class c x.signal x.detail ≡ true → IsIn x.program (attached_for d c p.class)
  among c same means =
      map_in (λ (a : Attached). a.program) (filter (λ (a : Attached). can_mean d p.class c a.signal a.detail) (attached_to d (place_of_channel c))) x
      (filter_in (λ (a : Attached). can_mean d p.class c a.signal a.detail) (attached_to d (place_of_channel c)) x means
      (subst (λ o. IsIn x (signals_of o)) (sym (ap (place_at d) same ∙ is.at)) (get_in p.signals number x is.is)))

  class_is : (c : Channel) → place_of_channel c ≡ place → class_at d (place_of_channel c) ≡ Some p.class
  class_is c same = ap (class_at d) same ∙ ap (option_map (λ (p : Place). p.class)) is.at

  in_handlers : (c : Channel) → place_of_channel c ≡ place → can_mean d p.class c x.signal x.detail ≡ true → IsIn x.program (handlers_for d c)
  in_handlers (constructed q) same means = absurd (cc)
  in_handlers (property q slot) same means =
      subst (λ o. IsIn x.program (of_class (attached_for d (property q slot)) o)) (sym (class_is (property q slot) same)) (among (property q slot) same means)
  in_handlers (signal q n) same means =
      subst (λ o. IsIn x.program (of_class (attached_for d (signal q n)) o)) (sym (class_is (signal q n) same)) (among (signal q n) same means)

pub attached_are_paid : AttachedArePaid
attached_are_paid d types costs place number p x h is named stands runs_it r there same runs =
    let known = raised_known d r there in
    let class = class_is d costs place number p x is r.channel same in
    let means = handlers_mean d types p.class x.signal x.detail h r.channel named stands class known.1 runs in
    let pays = item_pays d costs place number p x is r.channel same means in
    let own = ap (of_program costs) runs_it in (
      omega (arith, pays, own),
      subst (λ (y : Raised). IsIn h.program y.handlers) (sym known.0)
          (subst (λ program. IsIn program (raised_there d r.channel).handlers) (sym runs_it) (in_handlers d costs place number p x is r.channel same means)),
    )
