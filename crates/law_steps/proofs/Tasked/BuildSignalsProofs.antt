-- The build connects a signal of the definition.
use Rattle.std.proofs.Common.{◌≡◌, refl, sym, ap, subst, ◌∙◌, ℕ, zero, suc, ◌+◌, ◌<◌, Bool, true, false, cond, List, [], ◌∷◌, ◌++◌, length, Option, None, Some, Ok, slice_get, arith}
use Rattle.std.specs.Prelude.{◌&&◌, ◌||◌, not, nat_eq, is_some, option_map}
use Rattle.std.proofs.lemmas.Bool.{eqb-true}
use Rattle.ui_machine.specs.Seq.{read, total}
use Rattle.ui_machine.specs.Definition.{Definition}
use Rattle.ui_machine.specs.Definition.Kinds.{RegisterKind}
use Rattle.ui_machine.specs.Definition.Kinds as kinds
use Rattle.ui_machine.specs.Definition.Places.{Attached, Place}
use Rattle.ui_machine.specs.Definition.Lookups.{slot_of, place_at, program_at}
use Rattle.ui_machine.specs.Definition.Properties.{has_flags}
use Rattle.ui_machine.specs.Definition.Signals.{Signal}
use Rattle.ui_machine.specs.Rules.Build.{is_making, held_data, connection, with_signal, building_handler}
use Rattle.ui_machine.specs.Rules.Connections.{Connection, signal_number, may_stand, detail_for, detail_at, is_too_late, new_handler, with_handler}
use Rattle.ui_machine.specs.Rules.EmissionPlan.{signal_of, signal_at}
use Rattle.ui_machine.specs.State.Bindings.{Binding}
use Rattle.ui_machine.specs.State.Config.{BuilderEntry, World, unbuilt, built, starts}
use Rattle.ui_machine.specs.State.Handlers.{Handler}
use Rattle.ui_machine.specs.State.Tasks.{Item, connects, Task, Building}
use Rattle.ui_machine.specs.Steps.{uncounted}
use Rattle.law_typing.specs.Rules.RegisterKinds.{class_at}
use Rattle.law_typing.specs.Rules.Signatures.{takes_detail, is_taken_by, given_kinds}
use Rattle.law_typing.specs.Rules.Handlers.{at_signal}
use Rattle.law_typing.specs.Verdict.Accepted.{Each}
use Rattle.law_typing.specs.Laws.WellRead.{HasNotify, IsObject, IsObjectIf, PlaceRead}
use Rattle.law_typing.specs.Laws.StepsKeepGood.{IsGood}
use Rattle.law_typing.specs.Good.Standing.{standing, view, LivesIf}
use Rattle.law_typing.specs.Good.Agenda.{AgendaGood}
use Rattle.law_typing.specs.Good.Bindings.{BindingsGood}
use Rattle.law_typing.specs.Good.Builds.{is_for_builder, BuildGood}
use Rattle.law_typing.specs.Good.ComingDown.{none}
use Rattle.law_typing.specs.Good.Handlers.{data_kind, HandlerGood, HandlersGood}
use Rattle.law_typing.proofs.Lists.{both_parts, each_in}
use Rattle.law_static.specs.Items.{ComesTo}
use Rattle.law_static.proofs.AttachedProofs.{attached_fit, attached_are_paid}
use Rattle.law_static.proofs.ItemsProofs.{signals_come_last}
use Rattle.law_static.proofs.RequestProofs.{object_below}
use Rattle.law_static.proofs.SubclassProofs.{get_in}
use Rattle.law_steps.specs.Kept.Attach.{MayAttach}
use Rattle.law_steps.proofs.Kept.AttachProofs.{handler_attaches, handlers_wait_less}
use Rattle.law_steps.proofs.Kept.Left.{each_to}
use Rattle.law_steps.proofs.Kept.Lists.{objects_stay}
use Rattle.law_steps.specs.Tasked.BuildSignals.{SignalsAreFine}
use Rattle.law_steps.proofs.Tasked.First.{First, good_of, fine_where, StepIsFine, fine_of, costs, depths, most}

-- ** what is known of the signal

-- what an attached signal's test says
pub record Signed (d : Definition) (class : ℕ) (name : List ℕ) (test : ℕ → Signal → Bool) : Type 0 where
  pub number : ℕ
  pub is : signal_number d class name ≡ Some number
  pub s : Signal
  pub has : signal_of d class number ≡ Some s
  pub passes : test number s ≡ true

signed : (d : Definition) (class : ℕ) (name : List ℕ) (test : ℕ → Signal → Bool) → at_signal d class (signal_number d class name) test ≡ true → Signed d class name test
signed d class name test e = go (signal_number d class name) refl e
  where
    by : (number : ℕ) (o : Option Signal) → signal_number d class name ≡ Some number → signal_of d class number ≡ o → at_signal d class (Some number) test ≡ true → Signed d class name test
    by number None is has e = absurd (let f : false ≡ true = rw has at e in cc)
    by number (Some s) is has e = record { number = number; is = is; s = s; has = has; passes = (let f : test number s ≡ true = rw has at e in f) }

    go : (o : Option ℕ) → signal_number d class name ≡ o → at_signal d class o test ≡ true → Signed d class name test
    go None is e = absurd (cc)
    go (Some number) is e = by number (signal_of d class number) is refl e

-- a detail that a class's signal takes may be kept at it
stands_there : (d : Definition) (class number : ℕ) (s : Signal) (detail : Option (List ℕ)) → HasNotify d class → signal_of d class number ≡ Some s → takes_detail d class number s detail ≡ true →
    may_stand d class number s detail ≡ true
stands_there d class number s None notify has e = refl
stands_there d class number s (Some x) notify has e = go (nat_eq number 0) refl e
  where
    go : (b : Bool) → nat_eq number 0 ≡ b → cond b (is_some (slot_of d class x)) (has_flags 16 s.flags) ≡ true → may_stand d class number s (Some x) ≡ true
    go false z e = ap (λ b. b && (not (nat_eq number 0) || is_some (slot_of d class x))) e ∙ ap (λ b. not b || is_some (slot_of d class x)) z
    go true z e =
        let same : s ≡ notify.signal = (let f = ap (λ n. signal_of d class n) (sym (eqb-true number 0 z)) ∙ has in let g = notify.is in cc) in
        let flags : has_flags 16 s.flags ≡ true = ap (λ (s : Signal). has_flags 16 s.flags) same ∙ ap (has_flags 16) notify.flags in
        ap (λ b. b && (not (nat_eq number 0) || is_some (slot_of d class x))) flags ∙ (ap (λ b. not b || is_some (slot_of d class x)) z ∙ e)

-- ** what the builder holds

pub held_below : (builder : List BuilderEntry) → Each (λ (h : BuilderEntry). (id : ℕ) × (h ≡ built id)) builder → (place : ℕ) → place < length builder → (id : ℕ) × (read unbuilt builder place ≡ built id)
held_below [] all place low = absurd (omega (arith, low))
held_below (h ∷ hs) all zero low = all.0
held_below (h ∷ hs) all (suc place) low = held_below hs all.1 place (omega (arith, low))

-- the data of a signal lives at its place
pub record HasDatum (d : Definition) (w : World) (with : Option ℕ) : Type 0 where
  pub arg : Option ℕ
  pub is : held_data w with ≡ Ok arg
  pub lives : LivesIf (standing w.objects) arg
  pub kind : data_kind (standing w.objects) arg ≡ option_map kinds.at with

no_datum : (w : World) → held_data w None ≡ Ok None
unfolding held_data
no_datum w = refl

one_datum : (w : World) (place id : ℕ) → read unbuilt w.builder place ≡ built id → held_data w (Some place) ≡ Ok (Some id)
unfolding held_data
one_datum w place id e = rw e refl

-- ** what the machine does

builds : (d : Definition) (w : World) (place number : ℕ) (items : List Item) (p : Place) (x : Attached) (id : ℕ) (arg : Option ℕ) (signal : ℕ) (s : Signal) → place_at d place ≡ Some p →
    slice_get p.signals number ≡ Some x → read unbuilt w.builder place ≡ built id → held_data w x.with ≡ Ok arg → signal_number d p.class x.signal ≡ Some signal → signal_of d p.class signal ≡ Some s →
    may_stand d p.class signal s x.detail ≡ true →
    building_handler d w place number items ≡ starts (with_signal w (connection id signal (detail_for signal x.detail) x arg)) (Building items ∷ [])
unfolding building_handler detail_at signal_at
builds d w place number items p x id arg signal s at is held given named has stands = rw (at, is, held, given, named, has, stands) refl

-- ** the step

module _ {d : Definition} (place number : ℕ) (items : List Item) (t : First d (Building (connects place number ∷ items))) where
  open t use {well, a, w, rest, n, g}

  abbrev before : List Item
  before = g.build.0

  comes : ComesTo d before place number
  comes = signals_come_last d a before items place number g.build.1

  abbrev p : Place
  p = comes.p

  abbrev x : Attached
  x = comes.x

  read_well : PlaceRead d place p
  read_well = well.places place p comes.attached.at

  -- a prototype has no signals
  object : IsObject d place
  object = (p, comes.attached.at, go p.is_prototype refl)
    where
      none_there : (xs : List Attached) → xs ≡ [] → slice_get xs number ≡ Some x → ⊥
      none_there xs e is = let f = ap (λ (xs : List Attached). slice_get xs number) e in let h : slice_get [] number ≡ Some x = sym f ∙ is in cc

      go : (b : Bool) → p.is_prototype ≡ b → p.is_prototype ≡ false
      go true e = absurd (none_there p.signals (read_well.silent e) comes.attached.is)
      go false e = e

  -- the builder holds each object
  held : (q : ℕ) → IsObject d q → (id : ℕ) × (read unbuilt w.builder q ≡ built id)
  held q o =
      held_below w.builder g.build.3 q
      (let below = object_below d well q o in
      let made = comes.made in
      let count = g.build.2 in
      let alone = ap (total is_for_builder) g.agenda.3.1 in
      omega (arith, below, made, count, alone))

  id : (id : ℕ) × (read unbuilt w.builder place ≡ built id)
  id = held place object

  stands : standing w.objects id.0 ≡ Some place
  stands = g.held place id.0 id.1

  datum : HasDatum d w x.with
  datum = go x.with (each_in (λ (a : Attached). IsObjectIf d a.with) p.signals read_well.signals x (get_in p.signals number x comes.attached.is))
    where
      go : (with : Option ℕ) → IsObjectIf d with → HasDatum d w with
      go None o = record { arg = None; is = no_datum w; lives = tt; kind = refl }
      go (Some q) o =
          let h = held q o in
          let here = g.held q h.0 h.1 in
          record {
            arg = Some h.0;
            is = one_datum w q h.0 h.1;
            lives = record { place = q; is = here; allowed = tt };
            kind = ap (λ o. option_map kinds.at o) here;
          }

  sig : Signed d p.class x.signal (λ number s. takes_detail d p.class number s x.detail && is_taken_by d (program_at d x.program) (given_kinds x.swapped (kinds.at place) s.params (option_map kinds.at x.with)) s.result)
  sig = signed d p.class x.signal _ (attached_fit d a place number p x comes.attached)

  parts : (takes_detail d p.class sig.number sig.s x.detail ≡ true) × (is_taken_by d (program_at d x.program) (given_kinds x.swapped (kinds.at place) sig.s.params (option_map kinds.at x.with)) sig.s.result ≡ true)
  parts = both_parts (takes_detail d p.class sig.number sig.s x.detail) _ sig.passes

  abbrev c : Connection
  c = connection id.0 sig.number (detail_for sig.number x.detail) x datum.arg

  abbrev h : Handler
  h = new_handler (suc w.last_handler) c

  class_is : class_at d place ≡ Some p.class
  class_is = ap (option_map (λ (p : Place). p.class)) comes.attached.at

  good : HandlerGood d (standing w.objects) h
  good = record {
    at = record {
      place = place;
      is = stands;
      allowed = (
        p.class,
        sig.s,
        class_is,
        sig.has,
        ap (λ k. is_taken_by d (program_at d x.program) (given_kinds x.swapped (kinds.at place) sig.s.params k) sig.s.result) datum.kind ∙ parts.1,
      );
    };
    arg = datum.lives;
  }

  may : MayAttach d (costs t) (standing w.objects) w.last_handler place number h
  may = record {
    next = refl;
    by_definition = refl;
    good = good;
    at = stands;
    paid = λ r there same runs. attached_are_paid d well.types (costs t) place number p x h comes.attached sig.is refl refl r there same runs;
  }

  abbrev agenda : List Task
  agenda = Building items ∷ rest

  bindings_good : BindingsGood d (standing w.objects) agenda w.bindings
  bindings_good = record {
    each = each_to _ _ w.bindings
        (λ (b : Binding) old. record { bind = old.bind; is = old.is; name = old.name; slots = old.slots; source = old.source; target = old.target; setting = old.setting }) g.bindings.each;
    rising = g.bindings.rising;
    made = each_to _ _ w.bindings (λ (b : Binding) low. omega (arith, low)) g.bindings.made;
  }

  build_good : BuildGood d w.builder agenda agenda
  build_good = (
    before ++ connects place number ∷ [],
    g.build.1 ∙ sym (one_on before (connects place number) items),
    (let count = g.build.2 in let split = total_on before (connects place number) in omega (arith, count, split)),
    g.build.3,
  )
    where
      one_on : (xs : List Item) (i : Item) (ys : List Item) → (xs ++ i ∷ []) ++ ys ≡ xs ++ i ∷ ys
      one_on [] i ys = refl
      one_on (x ∷ xs) i ys = ap (λ (zs : List Item). x ∷ zs) (one_on xs i ys)

      total_on : (xs : List Item) (i : Item) → total is_making (xs ++ i ∷ []) ≡ total is_making xs + is_making i
      total_on [] i = omega arith
      total_on (x ∷ xs) i = let h = total_on xs i in omega (arith, h)

  -- with the handlers of this world, and what else it reads as before
  leads_well : (hs : List Handler) (last : ℕ) → HandlersGood d (costs t) (depths t) (standing w.objects) agenda last hs →
      IsGood d a t.most_counted (record { world = record w { handlers = hs; last_handler = last }; agenda = agenda; counted = n })
  leads_well hs last handlers =
      good_of t (record w { handlers = hs; last_handler = last }) agenda
      (record {
        objects = refl;
        whole = record {
          objects = objects_stay d w (record w { handlers = hs; last_handler = last }) g.objects;
          handlers = handlers;
          bindings = bindings_good;
          sources = g.sources;
          held = g.held;
          floating = g.floating;
          objects_first = record { before = g.objects_first.before; one = g.objects_first.one };
        };
        pool = g.peers;
        to_make = omega arith;
        makes = omega arith;
        build = build_good;
        frozen = λ id. refl;
        lowest = λ id some. omega arith;
        no_set = (let none = g.sets.first in omega (arith, none));
        no_source = g.sets.alone;
        budget = g.agenda.0 + g.agenda.2;
        less = omega arith;
        good = (
          g.agenda.0,
          g.agenda.1,
          g.agenda.2,
          (tt, g.agenda.3.1, (let cheap = g.agenda.3.2 in omega (arith, cheap)), g.agenda.3.3.1),
          g.agenda.4,
          omega arith,
          subst (λ r. AgendaGood d (costs t) (depths t) (view (record w { handlers = hs; last_handler = last })) (most t) none r g.agenda.2) (sym g.agenda.3.1) tt,
        );
      })

  connect_fine : StepIsFine t
  connect_fine =
      go (is_too_late w.objects id.0 datum.arg)
      (ap (uncounted rest n)
      (builds d w place number items p x id.0 datum.arg sig.number sig.s comes.attached.at comes.attached.is id.1 datum.is sig.is sig.has
      (stands_there d p.class sig.number sig.s x.detail (well.types.first p.class sig.number sig.s sig.has) sig.has parts.0)))
    where
      go : (late : Bool) → uncounted rest n (building_handler d w place number items) ≡ Ok (record { world = cond late w (with_handler w c); agenda = agenda; counted = n }) → StepIsFine t
      go true leads =
          fine_where t (record { world = w; agenda = agenda; counted = n }) leads
          (leads_well w.handlers w.last_handler
          (handlers_wait_less d (costs t) (depths t) (standing w.objects) (Building (connects place number ∷ items) ∷ rest) agenda w.last_handler w.handlers (λ f. omega arith) g.handlers))
      go false leads =
          fine_where t (record { world = with_handler w c; agenda = agenda; counted = n }) leads
          (leads_well (w.handlers ++ h ∷ []) (suc w.last_handler)
          (handler_attaches d (costs t) (depths t) (standing w.objects) items rest w.last_handler place number w.handlers h may g.handlers))

pub signals_are_fine : SignalsAreFine
signals_are_fine place number items = fine_of (λ d t. connect_fine place number items t)
