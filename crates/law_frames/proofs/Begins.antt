-- What falls still falls where an emission begins.
use Rattle.std.proofs.Common.{◌≡◌, refl, sym, ap, subst, ◌∙◌, ℕ, zero, suc, ◌+◌, ◌<◌, ◌≤◌, Bool, true, false, cond, List, [], ◌∷◌, length, map, Option, None, Some, slice_get, arith}
use Rattle.std.specs.List.{list_all, list_any}
use Rattle.std.specs.Prelude.{IfOk, nat_eq, not, option_map, ◌&&◌}
use Rattle.std.proofs.lemmas.Bool.{eq-eqb, eqb-true}
use Rattle.ui_machine.specs.declared.arm.Arm.TheVariants as arms
use Rattle.ui_machine.specs.Definition.{Class, Definition}
use Rattle.ui_machine.specs.Definition.Lookups.{no_class, spec_of, specs_of, type_of}
use Rattle.ui_machine.specs.Definition.Names.{place_from, same_name}
use Rattle.ui_machine.specs.Definition.Places.{Place}
use Rattle.ui_machine.specs.Definition.Properties.{Spec}
use Rattle.ui_machine.specs.Definition.Signals.{Signal}
use Rattle.ui_machine.specs.Seq.{read}
use Rattle.ui_machine.specs.Outcome.{known}
use Rattle.ui_machine.specs.Output.Lines as lines
use Rattle.ui_machine.specs.Rules.EmissionPlan.{beginning_emission, class_handler_of, emission_plan, fits_detail, notification, notify_plan, notifying, runs_for, signal_at, signal_of}
use Rattle.ui_machine.specs.Rules.Programs.{all_fit}
use Rattle.ui_machine.specs.Rules.Transform.{kind_fits}
use Rattle.ui_machine.specs.State.Bindings.{transfers}
use Rattle.ui_machine.specs.State.Config.{World, said}
use Rattle.ui_machine.specs.State.Handlers.{Handler}
use Rattle.ui_machine.specs.State.Objects.{Object, class_in, living, object_at}
use Rattle.ui_machine.specs.State.Tasks.{Beginning, Emission, Emitting, Notifying, PlanEntry, Task}
use Rattle.machine_laws.proofs.KeptProofs.{bind_keeps, only_keeps}
use Rattle.law_typing.specs.Good.Handlers.{runs_at}
use Rattle.law_typing.specs.Good.Standing.{Standing, standing}
use Rattle.law_typing.specs.Graph.{channel_for, class_handler_for, graph, listed_if}
use Rattle.law_typing.specs.Graph.Channels.{Channel, is_channel, is_readable_one, of_class, property, signal, source_of, target_of}
use Rattle.law_typing.specs.Graph.Channels as channels
use Rattle.law_typing.specs.Graph.Costs.{other_end}
use Rattle.law_typing.specs.Graph.Depths.{depth_within, depth_within_if, property_depth}
use Rattle.law_typing.specs.Graph.Tables.{Tables, entry}
use Rattle.law_typing.specs.Laws.StepsKeepGood.{IsGood}
use Rattle.law_typing.specs.Laws.WellRead.{HasNotify, TypesRead, WellRead, no_two}
use Rattle.law_typing.specs.Rules.RegisterKinds.{class_at}
use Rattle.law_typing.specs.Verdict.Accepted.{Accepted, Each}
use Rattle.law_typing.specs.Verdict.Report.{property_name}
use Rattle.law_typing.proofs.Lists.{any_true, both_parts, map_in}
use Rattle.law_static.proofs.SubclassProofs.{get_in}
use Rattle.law_static.specs.Raises.{raised_there}
use Rattle.law_static.proofs.RaisesProofs.{channels_known}
use Rattle.law_steps.proofs.Tasked.BeginningProofs.{signal_is_channel}
use Rattle.law_steps.proofs.Tasked.Planned.{Emitted}
use Rattle.law_frames.proofs.Emissions.{known_is}
use Rattle.law_frames.proofs.Leading.{plain}
use Rattle.law_frames.proofs.Plans.{plan_falls, transfers_fall}
use Rattle.law_frames.proofs.Tasks.{LeadsStarted, Nothing}
use Rattle.law_frames.specs.Frames.{FallsAt, TurnFalls, Under, IsApart, channel_at, channel_of, height, height_if, named_at, within}

-- ** own names

name_itself : (s : List ℕ) → same_name s s ≡ true
name_itself [] = refl
name_itself (x ∷ xs) = ap (λ b. cond b (same_name xs xs) false) (eq-eqb x x refl) ∙ name_itself xs

-- among distinct names the first that is called so is the one
finds_own : (xs : List Spec) (i slot : ℕ) (s : Spec) → no_two same_name (map (λ (s : Spec). s.name) xs) ≡ true → slice_get xs slot ≡ Some s →
    place_from (λ (s : Spec). s.name) i xs s.name ≡ Some (i + slot)
finds_own [] i slot s two e = absurd (cc)
finds_own (x ∷ xs) i zero s two e =
    let same : s ≡ x = cc in
    let here : same_name x.name s.name ≡ true = ap (λ (x : Spec). same_name x.name s.name) (sym same) ∙ name_itself s.name in
    ap (λ b. cond b (Some i) (place_from (λ (s : Spec). s.name) (suc i) xs s.name)) here ∙ ap (λ (n : ℕ). Some n) (let z : i ≡ i + 0 = omega arith in z)
finds_own (x ∷ xs) i (suc slot) s two e = go (finds_own xs (suc i) slot s parts.1 e) (same_name x.name s.name) refl
  where
    parts : (not (list_any (same_name x.name) (map (λ (s : Spec). s.name) xs)) ≡ true) × (no_two same_name (map (λ (s : Spec). s.name) xs) ≡ true)
    parts = both_parts (not (list_any (same_name x.name) (map (λ (s : Spec). s.name) xs))) (no_two same_name (map (λ (s : Spec). s.name) xs)) two

    go : place_from (λ (s : Spec). s.name) (suc i) xs s.name ≡ Some (suc i + slot) → (b : Bool) → same_name x.name s.name ≡ b →
        cond b (Some i) (place_from (λ (s : Spec). s.name) (suc i) xs s.name) ≡ Some (i + suc slot)
    go later true t =
        absurd (let found = any_true (same_name x.name) (map (λ (s : Spec). s.name) xs) s.name (map_in (λ (s : Spec). s.name) xs s (get_in xs slot s e)) t in
        let none = parts.0 in let k = ap not found in let z : true ≡ false = sym none ∙ k in cc)
    go later false t = later ∙ ap (λ (n : ℕ). Some n) (let z : suc i + slot ≡ i + suc slot = omega arith in z)

class_names : (cs : List Class) (i slot : ℕ) (s : Spec) → list_all (λ (c : Class). no_two same_name (map (λ (s : Spec). s.name) c.specs)) cs ≡ true → slice_get (read no_class cs i).specs slot ≡ Some s →
    no_two same_name (map (λ (s : Spec). s.name) (read no_class cs i).specs) ≡ true
class_names [] i slot s all e = absurd (cc)
class_names (c ∷ cs) zero slot s all e = (both_parts (no_two same_name (map (λ (s : Spec). s.name) c.specs)) _ all).0
class_names (c ∷ cs) (suc i) slot s all e = class_names cs i slot s (both_parts (no_two same_name (map (λ (s : Spec). s.name) c.specs)) _ all).1 e

own_name : (d : Definition) → TypesRead d → (place class slot : ℕ) (s : Spec) → spec_of d class slot ≡ Some s → named_at d place (Some class) (Some s.name) ≡ Some (property place slot)
own_name d types place class slot s e =
    ap (channel_for (property place)) (finds_own (specs_of d class) 0 slot s (class_names d.classes class slot s types.names e) e ∙ ap (λ (n : ℕ). Some n) (let z : 0 + slot ≡ slot = omega arith in z))

-- ** a notification begins

module _ (d : Definition) (well : WellRead d) (a : Accepted d) (most_counted : ℕ) (w : World) (id slot : ℕ) (rest : List Task) (n : ℕ)
    (g : IsGood d a most_counted (record { world = w; agenda = Notifying id slot ∷ rest; counted = n }))
    (f : FallsAt d a.weighed.depths (record { world = w; agenda = Notifying id slot ∷ rest; counted = n })) where
  abbrev table : Tables
  table = a.weighed.depths

  module _ (o : Object) (lives : living w.objects id ≡ Some o) (p : Spec) (has : spec_of d o.class slot ≡ Some p) (s : Signal) (is : signal_of d o.class 0 ≡ Some s) where
    stands : standing w.objects id ≡ Some o.place
    stands = ap (option_map (λ (o : Object). o.place)) lives

    in_class : class_at d o.place ≡ Some o.class
    in_class =
        let good = g.objects id o lives in
        ap (option_map (λ (p : Place). p.class)) good.is ∙ ap (λ (c : ℕ). Some c) (sym good.class)

    known_class : o.class < length d.types
    known_class = let good = g.objects id o lives in subst (λ c. c < length d.types) (sym good.class) (well.places o.place good.place good.is).known

    notify : HasNotify d o.class
    notify =
        let good = g.objects id o lives in
        well.types.notify o.class known_class (ap (λ c. (type_of d c).sort) good.class ∙ (well.places o.place good.place good.is).class)

    named_notify : s.name ≡ notify.signal.name
    named_notify = let one : ◌≡◌ {A = Option Signal} (Some s) (Some notify.signal) = sym is ∙ notify.is in let same : s ≡ notify.signal = cc one in ap (λ (s : Signal). s.name) same

    abbrev c : Channel
    c = property o.place slot

    there : is_channel d c ≡ true
    there =
        let due = g.agenda.3.1.due in
        let one : ◌≡◌ {A = Option ℕ} (Some due.place) (Some o.place) = sym due.is ∙ stands in
        let same : due.place ≡ o.place = cc one in
        subst (λ place. is_channel d (property place slot) ≡ true) same (ap is_readable_one due.has ∙ g.agenda.3.1.readable)

    spec_is : channels.spec_at d o.place slot ≡ Some p
    spec_is = ap (channels.spec_if d slot) in_class ∙ has

    abbrev e : Emission
    e = notification id p.name

    runs_there : (h : Handler) → runs_for id 0 (Some p.name) h ≡ true → runs_at d h c ≡ true
    runs_there h runs =
        let parts = both_parts (nat_eq h.object id && nat_eq h.signal 0) (fits_detail h.detail (Some p.name)) runs in
        let first = both_parts (nat_eq h.object id) (nat_eq h.signal 0) parts.0 in
        ap (λ o. nat_eq h.signal 0 && fits_detail h.detail (Some (property_name o))) spec_is ∙ (ap (λ b. b && fits_detail h.detail (Some p.name)) first.1 ∙ parts.1)

    by_class : (raised_there d c).class_handler ≡ listed_if (class_handler_of d o.class s.name)
    by_class = ap (of_class (class_handler_for d c)) in_class ∙ ap (λ name. listed_if (class_handler_of d o.class name)) (sym notify.name ∙ sym named_notify)

    emitted : Emitted d a w (Notifying id slot ∷ rest) e
    emitted = record {
      types = well.types;
      handlers = g.handlers;
      place = o.place;
      class = o.class;
      sig = s;
      stands = stands;
      of_class = in_class;
      has = is;
      known = known_class;
      r = raised_there d c;
      there = (channels_known d a c there).known;
      at = refl;
      by_class = by_class;
      runs = runs_there;
    }

    more : within d table c < entry table.channels c
    more =
        let known = channels_known d a c there in
        let here = ap (depth_within_if table) known.found in
        let deep = known.deep in
        let room = own_within (other_end (graph d) c) in
        omega (arith, here, deep, room)
      where
        own_within : (o : Option Channel) → 1 + depth_within table (raised_there d c) ≤ property_depth (graph d) table (raised_there d c) o
        own_within None = omega arith
        own_within (Some other) = omega arith

    abbrev turns : List PlanEntry
    turns = notify_plan d w s o.class id slot p.name

    turns_fall : Each (TurnFalls d table w.handlers c) turns
    unfolding emitted
    turns_fall = plan_falls d a w (Notifying id slot ∷ rest) e emitted c there refl s.flags (transfers id slot w.bindings) (transfers_fall d table w (Notifying id slot ∷ rest) id o.place slot stands g.bindings)

    at_channel : (z : Standing) → z id ≡ Some o.place → channel_of d z e ≡ Some c
    at_channel z at = ap (channel_at d e) at ∙ (ap (λ class. named_at d o.place class (Some p.name)) in_class ∙ own_name d well.types o.place o.class slot p has)

    same_f : f.agenda.0.place ≡ o.place
    same_f = let one : ◌≡◌ {A = Option ℕ} (Some f.agenda.0.place) (Some o.place) = sym f.agenda.0.is ∙ stands in cc one

    begun : LeadsStarted d a most_counted w (Notifying id slot) rest n g f Nothing (suc n) (record { world = said d w (lines.notify id p.name); tasks = Emitting e turns ∷ [] })
    begun =
        let v = said d w (lines.notify id p.name) in
        plain d a most_counted w (Notifying id slot) rest n g f Nothing v (Emitting e turns ∷ []) (suc n)
        (λ good goes same falls. (
          (
            record {
              channel = c;
              is = at_channel (standing w.objects) stands;
              there = there;
              more = more;
              under = subst (λ place. Under d table (standing w.objects) (height d table rest (property place slot)) rest) same_f f.agenda.0.under;
              turns_fall = turns_fall;
            },
            λ x at. (
                let one : ◌≡◌ {A = Option Channel} (Some c) (Some x) = sym (at_channel (standing w.objects) stands) ∙ at in
                let is : c ≡ x = cc one in
                subst (IsApart d (standing w.objects) rest) is (subst (λ place. IsApart d (standing w.objects) rest (property place slot)) same_f f.agenda.0.apart)),
          ),
          falls,
        ))
        (λ id. refl)
        (λ good goes falls id slot o is there none. absurd none)

  pub notifies_one : IfOk (notifying d w id slot) (LeadsStarted d a most_counted w (Notifying id slot) rest n g f Nothing (suc n))
  unfolding notifying signal_at
  notifies_one = bind_keeps (object_at w.objects id) _ _ (λ o lives. bind_keeps (known arms.Code (spec_of d o.class slot)) _ _ (λ p has. bind_keeps (signal_at d o.class 0) _ _ (λ s is.
      begun o (known_is arms.Operand (living w.objects id) o lives) p (known_is arms.Code (spec_of d o.class slot) p has) s (known_is arms.Code (signal_of d o.class 0) s is))))

-- ** an emission begins

module _ (d : Definition) (well : WellRead d) (a : Accepted d) (most_counted : ℕ) (w : World) (e : Emission) (rest : List Task) (n : ℕ)
    (g : IsGood d a most_counted (record { world = w; agenda = Beginning e ∷ rest; counted = n }))
    (f : FallsAt d a.weighed.depths (record { world = w; agenda = Beginning e ∷ rest; counted = n })) where
  module _ (o : Object) (lives : living w.objects e.object ≡ Some o) (s : Signal) (is : signal_of d o.class e.signal ≡ Some s) where
    there_stands : standing w.objects e.object ≡ Some o.place
    there_stands = ap (option_map (λ (o : Object). o.place)) lives

    of_place : class_at d o.place ≡ Some o.class
    of_place =
        let good = g.objects e.object o lives in
        ap (option_map (λ (p : Place). p.class)) good.is ∙ ap (λ (c : ℕ). Some c) (sym good.class)

    has_class : o.class < length d.types
    has_class = let good = g.objects e.object o lives in subst (λ c. c < length d.types) (sym good.class) (well.places o.place good.place good.is).known

    abbrev sc : Channel
    sc = signal o.place e.signal

    is_there : is_channel d sc ≡ true
    is_there = signal_is_channel d o.place o.class e.signal s of_place is g.agenda.3.1.not_notify

    runs_here : (h : Handler) → runs_for e.object e.signal e.detail h ≡ true → runs_at d h sc ≡ true
    runs_here h runs = (both_parts _ _ (both_parts _ (fits_detail h.detail e.detail) runs).0).1

    signals : Emitted d a w (Beginning e ∷ rest) e
    signals = record {
      types = well.types;
      handlers = g.handlers;
      place = o.place;
      class = o.class;
      sig = s;
      stands = there_stands;
      of_class = of_place;
      has = is;
      known = has_class;
      r = raised_there d sc;
      there = (channels_known d a sc is_there).known;
      at = refl;
      by_class = rw (of_place, is) refl;
      runs = runs_here;
    }

    more_here : within d a.weighed.depths sc < entry a.weighed.depths.channels sc
    more_here =
        let known = channels_known d a sc is_there in
        let here = ap (depth_within_if a.weighed.depths) known.found in
        let deep = known.deep in
        omega (arith, here, deep)

    all_fall : Each (TurnFalls d a.weighed.depths w.handlers sc) (emission_plan d w s o.class e)
    unfolding signals
    all_fall = plan_falls d a w (Beginning e ∷ rest) e signals sc is_there refl s.flags [] tt

    here_is : channel_of d (standing w.objects) e ≡ Some sc
    here_is = ap (channel_at d e) there_stands ∙ by (nat_eq e.signal 0) refl
      where
        by : (b : Bool) → nat_eq e.signal 0 ≡ b → cond (nat_eq e.signal 0) (named_at d o.place (class_at d o.place) e.detail) (Some sc) ≡ Some sc
        by true z = absurd (let none = eqb-true e.signal 0 z in let some = g.agenda.3.1.not_notify in omega (arith, none, some))
        by false z = ap (λ b. cond b (named_at d o.place (class_at d o.place) e.detail) (Some sc)) z

    begins_here : LeadsStarted d a most_counted w (Beginning e) rest n g f Nothing (suc n)
        (record { world = said d w (lines.emit e.object s.name e.detail e.args); tasks = Emitting e (emission_plan d w s o.class e) ∷ [] })
    begins_here =
        plain d a most_counted w (Beginning e) rest n g f Nothing (said d w (lines.emit e.object s.name e.detail e.args)) (Emitting e (emission_plan d w s o.class e) ∷ []) (suc n)
        (λ good goes same falls. (
          (
            record {
              channel = sc;
              is = here_is;
              there = is_there;
              more = more_here;
              under = subst (λ m. Under d a.weighed.depths (standing w.objects) m rest) (ap (height_if d a.weighed.depths rest) here_is) f.agenda.0.0;
              turns_fall = all_fall;
            },
            λ x at. f.agenda.0.1 x at,
          ),
          falls,
        ))
        (λ id. refl)
        (λ good goes falls id slot o is there none. absurd none)

  pub emission_begins : IfOk (beginning_emission d w e) (LeadsStarted d a most_counted w (Beginning e) rest n g f Nothing (suc n))
  unfolding beginning_emission signal_at
  emission_begins = bind_keeps (object_at w.objects e.object) _ _ (λ o lives. bind_keeps (signal_at d o.class e.signal) _ _ (λ s is.
      only_keeps (all_fit (kind_fits (class_in w.objects) d.types) e.args s.params) arms.Argument _ _
      (begins_here o (known_is arms.Operand (living w.objects e.object) o lives) s (known_is arms.Code (signal_of d o.class e.signal) s is))))
