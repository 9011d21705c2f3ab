-- What each step is to keep holds at both.
use Rattle.std.proofs.Common.{◌≡◌, refl, sym, subst, ℕ, zero, suc, true, List, [], ◌∷◌, Option, None, Some, slice_get, arith}
use Rattle.std.specs.Prelude.{⊤}
use Rattle.std.proofs.lemmas.Bool.{leb-true}
use Rattle.ui_machine.specs.Definition.Values.{Value}
use Rattle.ui_machine.specs.Definition.Kinds as kinds
use Rattle.ui_machine.specs.Definition.Properties.{Spec}
use Rattle.ui_machine.specs.Definition.{Definition}
use Rattle.ui_machine.specs.Definition.Places.{Place}
use Rattle.ui_machine.specs.State.Objects.{Object, Objects}
use Rattle.ui_machine.specs.State.Config.{BuilderEntry, built}
use Rattle.ui_machine.specs.State.Peers.{Peer}
use Rattle.ui_machine.specs.Definition.Lookups.{spec_of}
use Rattle.ui_machine.specs.State.Objects as heap
use Rattle.law_typing.specs.Rules.Typing.{data_in, passing, two_numbers, two_passing, moving, reckoning, comparing, sameness, negating, combining, joining, converting, property_of, get_property, changing_none, set_property, place_for, look_up_object, adopting, arguments, emitting, program_named, connecting, on_handlers, attaching, methods_for, method_named, calling, entering, branching, branching_null, returning}
use Rattle.law_typing.specs.Rules.Brackets.{is_empty}
use Rattle.law_typing.specs.Graph.{Raised, graph, place_of_channel}
use Rattle.law_typing.specs.Verdict.Accepted.{Each}
use Rattle.law_typing.specs.Good.Standing.{Standing, standing, RegistersFit}
use Rattle.law_typing.specs.Good.Objects.{ValueGood, ObjectGood, PoolGood, PeersGood}
use Rattle.law_typing.specs.Good.Handlers.{ChannelGood}
use Rattle.law_typing.specs.Good.Bindings.{HeldGood}
use Rattle.law_typing.specs.Good.Freezes.{QueueGood}
use Rattle.law_typing.specs.Good.{Good}
use Rattle.law_typing.specs.Examples.FirstRun as first_run
use Rattle.law_typing.specs.Examples.Freezes as freezes
use Rattle.law_typing.specs.Laws.Beginnings.{costs_of, depths_of}
use Rattle.law_typing.specs.Laws.MidRun as case
use Rattle.law_typing.proofs.Numbered.{all_from, all_from_get}

-- the value of a slot, if it has a spec
abbrev ValueIf : Definition → Standing → Option Value → Option Spec → Type 0
ValueIf d s v None = ⊤
ValueIf d s v (Some spec) = ValueGood d s spec v

-- what the builder has built of a place is at that place
abbrev HeldAt : Standing → (place : ℕ) → BuilderEntry → Type 0
HeldAt s place (built id) = s id ≡ Some place
HeldAt s place held = ⊤

-- where no place names a peer none is asked for
no_peers : (d : Definition) (peers : List Peer) (made : ℕ) → all_from (λ n (p : Place). is_empty p.peers) 0 d.places ≡ true → PeersGood d peers made
no_peers d peers made e place p is = none p.peers (all_from_get (λ n (p : Place). is_empty p.peers) d.places place p e is)
  where
    none : (names : List (List ℕ)) → is_empty names ≡ true → Each (PoolGood d peers made place p) names
    none [] e = tt
    none (x ∷ names) e = absurd (cc)

-- ** first_run

abbrev first_run_os : Objects
first_run_os = case.at_notification.world.objects

first_run_only : (id : ℕ) (x : Object) → heap.living first_run_os id ≡ Some x → (id ≡ 1) × (case.box (case.int 5 ∷ []) 0 [] ≡ x)
first_run_only zero x e = absurd (cc)
first_run_only (suc zero) x e = (refl, (cc))
first_run_only (suc (suc n)) x e = absurd (cc)

first_run_value : (slot : ℕ) (spec : Spec) → spec_of first_run.definition 2 slot ≡ Some spec →
    ValueGood first_run.definition (standing first_run_os) spec (slice_get (case.box (case.int 5 ∷ []) 0 []).values slot)
first_run_value zero spec e = subst (ValueIf first_run.definition (standing first_run_os) (Some (case.int 5))) e (record { value = (case.int 5); is = refl; valid = refl })
first_run_value (suc n) spec e = absurd (cc)

first_run_object : ObjectGood first_run.definition case.at_notification.world (standing first_run_os) 1 (case.box (case.int 5 ∷ []) 0 [])
first_run_object = record { place = _; is = refl; class = refl; values = first_run_value; children = tt; parent = tt; queue = tt; apart = refl; peer = refl }

first_run_held : HeldGood (standing first_run_os) case.at_notification.world.builder
first_run_held zero id e = subst (HeldAt (standing first_run_os) 0) e refl
first_run_held (suc n) id e = absurd (cc)

first_run_channels : (id place : ℕ) → standing first_run_os id ≡ Some place →
    Each (λ (r : Raised). place_of_channel r.channel ≡ place → ChannelGood first_run.definition (costs_of first_run.definition) (depths_of first_run.definition) case.at_notification.agenda id case.at_notification.world.handlers r) (graph first_run.definition).raised
unfolding data_in passing two_numbers two_passing moving reckoning comparing sameness negating combining joining converting property_of get_property changing_none set_property place_for look_up_object adopting arguments emitting program_named connecting on_handlers attaching methods_for method_named calling entering branching branching_null returning
first_run_channels zero place e = absurd (cc)
first_run_channels (suc zero) place e = ((λ f. record { own = leb-true _ _ refl; connected = tt; own_shallow = tt; connected_shallow = tt }), tt)
first_run_channels (suc (suc n)) place e = absurd (cc)

first_run_queue : QueueGood first_run.definition (depths_of first_run.definition) 1 case.at_notification.agenda case.at_notification.counted 1 (case.box (case.int 5 ∷ []) 0 [])
unfolding data_in passing two_numbers two_passing moving reckoning comparing sameness negating combining joining converting property_of get_property changing_none set_property place_for look_up_object adopting arguments emitting program_named connecting on_handlers attaching methods_for method_named calling entering branching branching_null returning
first_run_queue = record { count = refl; few = leb-true 0 1 refl; none = λ e. refl; deep = tt }

pub first_run_good : Good first_run.definition (costs_of first_run.definition) (depths_of first_run.definition) 65 1 case.at_notification
unfolding data_in passing two_numbers two_passing moving reckoning comparing sameness negating combining joining converting property_of get_property changing_none set_property place_for look_up_object adopting arguments emitting program_named connecting on_handlers attaching methods_for method_named calling entering branching branching_null returning
first_run_good = record {
  objects = λ id x e. (let o = first_run_only id x e in
      subst (λ i. ObjectGood first_run.definition case.at_notification.world (standing first_run_os) i x) (sym o.0)
      (subst (ObjectGood first_run.definition case.at_notification.world (standing first_run_os) 1) o.1 first_run_object));
  handlers = record { each = tt; rising = tt; numbered = tt; few = λ id number. omega arith; channels = first_run_channels };
  bindings = record { each = tt; rising = tt; made = tt };
  sources = tt;
  peers = no_peers first_run.definition case.at_notification.world.peers 1 refl;
  build = (record { all = refl; each = (tt, tt) }, refl);
  held = first_run_held;
  floating = tt;
  sets = record { alone = refl; first = refl; held = λ h. absurd (omega (arith, h)) };
  objects_first = record { before = λ h. absurd (omega (arith, h)); one = omega arith };
  budget = 1;
  agenda = (1, 1, 0, (tt, record { due = record { place = 0; is = refl; spec = _; has = refl; cheap = leb-true _ 1 refl; shallow = leb-true _ 1 refl }; readable = refl }), leb-true 1 1 refl, leb-true 1 1 refl, tt);
  queues = λ id x e. (let o = first_run_only id x e in
      subst (λ i. QueueGood first_run.definition (depths_of first_run.definition) 1 case.at_notification.agenda case.at_notification.counted i x) (sym o.0)
      (subst (QueueGood first_run.definition (depths_of first_run.definition) 1 case.at_notification.agenda case.at_notification.counted 1) o.1 first_run_queue));
  few = leb-true 1 64 refl;
  spent = leb-true 2 65 refl;
}

-- ** freezes

abbrev freezes_os : Objects
freezes_os = case.at_freeze.world.objects

freezes_only : (id : ℕ) (x : Object) → heap.living freezes_os id ≡ Some x → (id ≡ 1) × (case.box (case.int 1 ∷ case.int 0 ∷ []) 1 (0 ∷ []) ≡ x)
freezes_only zero x e = absurd (cc)
freezes_only (suc zero) x e = (refl, (cc))
freezes_only (suc (suc n)) x e = absurd (cc)

freezes_value : (slot : ℕ) (spec : Spec) → spec_of freezes.definition 2 slot ≡ Some spec →
    ValueGood freezes.definition (standing freezes_os) spec (slice_get (case.box (case.int 1 ∷ case.int 0 ∷ []) 1 (0 ∷ [])).values slot)
freezes_value zero spec e = subst (ValueIf freezes.definition (standing freezes_os) (Some (case.int 1))) e (record { value = (case.int 1); is = refl; valid = refl })
freezes_value (suc zero) spec e = subst (ValueIf freezes.definition (standing freezes_os) (Some (case.int 0))) e (record { value = (case.int 0); is = refl; valid = refl })
freezes_value (suc (suc n)) spec e = absurd (cc)

freezes_object : ObjectGood freezes.definition case.at_freeze.world (standing freezes_os) 1 (case.box (case.int 1 ∷ case.int 0 ∷ []) 1 (0 ∷ []))
freezes_object = record { place = _; is = refl; class = refl; values = freezes_value; children = tt; parent = tt; queue = ((_, refl, refl), tt); apart = refl; peer = refl }

freezes_held : HeldGood (standing freezes_os) case.at_freeze.world.builder
freezes_held zero id e = subst (HeldAt (standing freezes_os) 0) e refl
freezes_held (suc n) id e = absurd (cc)

freezes_channels : (id place : ℕ) → standing freezes_os id ≡ Some place →
    Each (λ (r : Raised). place_of_channel r.channel ≡ place → ChannelGood freezes.definition (costs_of freezes.definition) (depths_of freezes.definition) case.at_freeze.agenda id case.at_freeze.world.handlers r) (graph freezes.definition).raised
unfolding data_in passing two_numbers two_passing moving reckoning comparing sameness negating combining joining converting property_of get_property changing_none set_property place_for look_up_object adopting arguments emitting program_named connecting on_handlers attaching methods_for method_named calling entering branching branching_null returning
freezes_channels zero place e = absurd (cc)
freezes_channels (suc zero) place e = ((λ f. record { own = leb-true _ _ refl; connected = tt; own_shallow = tt; connected_shallow = tt }), ((λ f. record { own = leb-true _ _ refl; connected = tt; own_shallow = tt; connected_shallow = tt }), ((λ f. record { own = leb-true _ _ refl; connected = tt; own_shallow = (leb-true _ _ refl, tt); connected_shallow = tt }), tt)))
freezes_channels (suc (suc n)) place e = absurd (cc)

freezes_queue : QueueGood freezes.definition (depths_of freezes.definition) 3 case.at_freeze.agenda case.at_freeze.counted 1 (case.box (case.int 1 ∷ case.int 0 ∷ []) 1 (0 ∷ []))
unfolding data_in passing two_numbers two_passing moving reckoning comparing sameness negating combining joining converting property_of get_property changing_none set_property place_for look_up_object adopting arguments emitting program_named connecting on_handlers attaching methods_for method_named calling entering branching branching_null returning
freezes_queue = record { count = refl; few = leb-true 1 5 refl; none = λ e. absurd (cc); deep = (leb-true 3 3 refl, tt) }

registers_fit : RegistersFit freezes.definition (standing freezes_os) (kinds.some 2 ∷ kinds.plain (kinds.whole kinds.int) ∷ []) case.frame.registers
registers_fit zero = refl
registers_fit (suc zero) = refl
registers_fit (suc (suc n)) = refl

pub freezes_good : Good freezes.definition (costs_of freezes.definition) (depths_of freezes.definition) 77 3 case.at_freeze
unfolding data_in passing two_numbers two_passing moving reckoning comparing sameness negating combining joining converting property_of get_property changing_none set_property place_for look_up_object adopting arguments emitting program_named connecting on_handlers attaching methods_for method_named calling entering branching branching_null returning
freezes_good = record {
  objects = λ id x e. (let o = freezes_only id x e in
      subst (λ i. ObjectGood freezes.definition case.at_freeze.world (standing freezes_os) i x) (sym o.0)
      (subst (ObjectGood freezes.definition case.at_freeze.world (standing freezes_os) 1) o.1 freezes_object));
  handlers = record { each = (record { at = record { place = 0; is = refl; allowed = (2, _, refl, refl, refl) }; arg = tt }, tt); rising = (leb-true 0 1 refl, tt); numbered = (leb-true 1 1 refl, tt); few = λ id number. leb-true 0 0 refl; channels = freezes_channels };
  bindings = record { each = tt; rising = tt; made = tt };
  sources = tt;
  peers = no_peers freezes.definition case.at_freeze.world.peers 1 refl;
  build = (record { all = refl; each = (tt, tt) }, refl);
  held = freezes_held;
  floating = tt;
  sets = record { alone = refl; first = refl; held = λ h. absurd (omega (arith, h)) };
  objects_first = record { before = λ h. absurd (omega (arith, h)); one = omega arith };
  budget = 8;
  agenda = (
    8,
    2,
    0,
    (
      tt,
      record {
        p = _;
        is = refl;
        b = _;
        in_block = refl;
        inside = leb-true 4 9 refl;
        few = leb-true 1 1 refl;
        counted = refl;
        ks = kinds.some 2 ∷ kinds.plain (kinds.whole kinds.int) ∷ [];
        fit = registers_fit;
        comes = tt;
        kept = refl;
        at_site = refl;
        typed = refl;
        bracketed = refl;
        cheap = leb-true _ 8 refl;
        shallow = leb-true _ 2 refl;
      },
    ),
    leb-true 3 3 refl,
    leb-true 8 8 refl,
    (
      0,
      1,
      0,
      record {
        fits = record { place = 0; class = 2; sig = _; is = refl; of_class = refl; has = refl; args = refl; value = λ v e. absurd (cc) };
        suits = refl;
        turns_fit = tt;
        cheap = leb-true 0 0 refl;
        shallow = tt;
        one = leb-true 1 1 refl;
      },
      leb-true 1 3 refl,
      leb-true 0 0 refl,
      tt,
    ),
  );
  queues = λ id x e. (let o = freezes_only id x e in
      subst (λ i. QueueGood freezes.definition (depths_of freezes.definition) 3 case.at_freeze.agenda case.at_freeze.counted i x) (sym o.0)
      (subst (QueueGood freezes.definition (depths_of freezes.definition) 3 case.at_freeze.agenda case.at_freeze.counted 1) o.1 freezes_queue));
  few = leb-true 1 64 refl;
  spent = leb-true 14 77 refl;
}
