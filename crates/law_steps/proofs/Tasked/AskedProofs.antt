-- A request sets a property or emits a signal: what it gives fits, so that the set is due, or the emission.
use Rattle.std.proofs.Common.{◌≡◌, refl, sym, ap, subst, ◌∙◌, ℕ, ◌+◌, ◌≤◌, true, false, List, [], ◌∷◌, ◌++◌, Option, None, Some, Ok, arith}
use Rattle.std.specs.Prelude.{option_map, ◌&&◌}
use Rattle.std.specs.List.{AllZip, flat_map}
use Rattle.ui_machine.specs.Seq.{read}
use Rattle.ui_machine.specs.Definition.{Definition}
use Rattle.ui_machine.specs.Definition.Kinds.{Kind}
use Rattle.ui_machine.specs.Definition.Places.{Given, value, named, Place}
use Rattle.ui_machine.specs.Definition.Properties.{Spec, is_writable, is_construct_only}
use Rattle.ui_machine.specs.Definition.Signals.{Signal}
use Rattle.ui_machine.specs.Definition.Values.{Value}
use Rattle.ui_machine.specs.Definition.Values as values
use Rattle.ui_machine.specs.Rules.Build.{is_making}
use Rattle.ui_machine.specs.Rules.Connections.{may_stand, detail_for, detail_at, detail_in}
use Rattle.ui_machine.specs.Rules.Construction.{given_value, object_held}
use Rattle.ui_machine.specs.Rules.EmissionPlan.{signal_of, signal_at, new_emission}
use Rattle.ui_machine.specs.Rules.Events.{set_given, set_from_event, given_values, emit_from_event}
use Rattle.ui_machine.specs.Rules.Programs.{all_fit}
use Rattle.ui_machine.specs.Rules.Sets.{spec_at}
use Rattle.ui_machine.specs.Rules.Transform.{is_one, kind_fits}
use Rattle.ui_machine.specs.State.Config.{World, unbuilt, built, starts}
use Rattle.ui_machine.specs.State.Objects.{Object, living}
use Rattle.ui_machine.specs.State.References.{mentions}
use Rattle.ui_machine.specs.State.Tasks.{Emission, Task, Setting, Beginning, Handling}
use Rattle.ui_machine.specs.State.Tasks as config
use Rattle.ui_machine.specs.Steps.{uncounted}
use Rattle.law_typing.specs.Rules.RegisterKinds.{class_at}
use Rattle.law_typing.specs.Graph.{graph, number_for}
use Rattle.law_typing.specs.Graph.Channels.{Channel, signal}
use Rattle.law_typing.specs.Graph.Costs.{with_other, node_cost, other_end}
use Rattle.law_typing.specs.Graph.Tables.{Tables, entry}
use Rattle.law_typing.specs.Verdict.Accepted.{Each}
use Rattle.law_typing.specs.Laws.StepsKeepGood.{IsGood}
use Rattle.law_typing.specs.Laws.WellRead.{GivenFits}
use Rattle.law_typing.specs.Good.Standing.{standing, view, class_by}
use Rattle.law_typing.specs.Good.ComingDown.{result_of_emission}
use Rattle.law_typing.specs.Good.Emissions.{EmissionFits}
use Rattle.law_steps.specs.Kept.Alike.{Alike}
use Rattle.law_static.proofs.ConstructionProofs.{given_fits}
use Rattle.law_static.proofs.StartProofs.{due_within}
use Rattle.law_steps.proofs.Instructed.ReadProofs.{spec_is}
use Rattle.law_steps.proofs.Instructed.RegisterProofs.{fits_anywhere}
use Rattle.law_steps.proofs.Instructed.SetProofs.{held_from}
use Rattle.law_steps.proofs.Tasked.BeginningProofs.{placed}
use Rattle.law_steps.proofs.Tasked.Changed.{AsFrozen, no_sets, queue_moved, changed_well}
use Rattle.law_steps.proofs.Tasked.First.{First, StepIsFine, fine_where, whole_told, pool_alike, build_alike, costs, depths, most}
use Rattle.law_steps.proofs.Tasked.Lowest.{lowest_above}
use Rattle.law_steps.proofs.Tasked.NotifyingProofs.{may_come}
use Rattle.law_steps.proofs.Tasked.SettingProofs.{owns}

-- ** what is given

module _ (d : Definition) (w : World) (held : (place id : ℕ) → read unbuilt w.builder place ≡ built id → standing w.objects id ≡ Some place) where
  -- the builder has the object of a place
  abbrev IsHeld : ℕ → Type 0
  IsHeld place = (id : ℕ) × (read unbuilt w.builder place ≡ built id)

  -- a value that is given, of the kind
  record IsGiven (g : Given) (kind : Kind) : Type 0 where
    pub v : Value
    pub is : given_value w g ≡ Some v
    pub fits : kind_fits (class_by d (standing w.objects)) d.types v kind ≡ true

  plain_given : (v : Value) (kind : Kind) → GivenFits d kind (value v) → IsGiven (value v) kind
  plain_given v kind fits = record { v = v; is = refl; fits = fits_anywhere (class_by d (standing w.objects)) d.types v kind fits }

  named_given : (to : ℕ) (kind : Kind) → GivenFits d kind (named to) → IsHeld to → IsGiven (named to) kind
  named_given to kind fits h = record { v = values.object (Some h.0); is = ap object_held h.1; fits = subst (λ kind. kind_fits (class_by d (standing w.objects)) d.types (values.object (Some h.0)) kind ≡ true) (sym fits.4) at }
    where
      stands : class_by d (standing w.objects) h.0 ≡ Some fits.0.class
      stands = ap (number_for (class_at d)) (held to h.0 h.1) ∙ ap (option_map (λ (p : Place). p.class)) fits.2

      at : is_one d.types fits.1 (class_by d (standing w.objects) h.0) ≡ true
      at = ap (is_one d.types fits.1) stands ∙ fits.5

  record AllGiven (gs : List Given) (ks : List Kind) : Type 0 where
    pub vs : List Value
    pub is : given_values w gs ≡ Ok vs
    pub fits : all_fit (kind_fits (class_by d (standing w.objects)) d.types) vs ks ≡ true

  one_more : (g : Given) (gs : List Given) (kind : Kind) (ks : List Kind) → IsGiven g kind → AllGiven gs ks → AllGiven (g ∷ gs) (kind ∷ ks)
  unfolding given_values
  one_more g gs kind ks one more =
      let a = one.is in
      let b = more.is in
      record { vs = one.v ∷ more.vs; is = rw (a, b) refl; fits = ap (λ b. b && all_fit (kind_fits (class_by d (standing w.objects)) d.types) more.vs ks) one.fits ∙ more.fits }

  all_given : (f : Given → List ℕ) → ((v : Value) → f (value v) ≡ []) → ((to : ℕ) → f (named to) ≡ to ∷ []) → (gs : List Given) (ks : List Kind) → AllZip (λ g kind. GivenFits d kind g) gs ks →
      Each IsHeld (flat_map f gs) → AllGiven gs ks
  unfolding given_values
  all_given f empty one [] [] fits held = record { vs = []; is = refl; fits = refl }
  all_given f empty one [] (k ∷ ks) fits held = absurd fits
  all_given f empty one (g ∷ gs) [] fits held = absurd fits
  all_given f empty one (value v ∷ gs) (kind ∷ ks) fits held =
      let rest = subst (λ xs. Each IsHeld (xs ++ flat_map f gs)) (empty v) held in
      one_more (value v) gs kind ks (plain_given v kind fits.0) (all_given f empty one gs ks fits.1 rest)
  all_given f empty one (named to ∷ gs) (kind ∷ ks) fits held =
      let rest = subst (λ xs. Each IsHeld (xs ++ flat_map f gs)) (one to) held in
      one_more (named to) gs kind ks (named_given to kind fits.0 rest.0) (all_given f empty one gs ks fits.1 rest.1)

-- ** a set

set_leads : (d : Definition) (w : World) (place slot id : ℕ) (given : Given) (s : Spec) (v : Value) → read unbuilt w.builder place ≡ built id → spec_at d w.objects id slot ≡ Ok s → is_writable s ≡ true →
    is_construct_only s ≡ false → given_value w given ≡ Some v → set_from_event d w place slot given ≡ starts w (Setting id slot v ∷ [])
unfolding set_from_event set_given
set_leads d w place slot id given s v held at writable free is = rw (held, at, writable, free, is) refl

module _ {d : Definition} (place slot : ℕ) (given : Given) (t : First d (Handling (config.set place slot given))) where
  open t use {a, w, rest, n, g}

  abbrev task : Task
  task = Handling (config.set place slot given)

  module _ (id : ℕ) (held : read unbuilt w.builder place ≡ built id) (v : Value) (is : given_value w given ≡ Some v) where
    abbrev later : List Task
    later = Setting id slot v ∷ rest

    now_alike : Alike (task ∷ rest) later
    now_alike = record { items = λ f. omega arith; unset = λ number. omega arith; request_step = omega arith; makes = omega arith }

    as_later : AsFrozen d (task ∷ rest) later
    as_later = record {
      frozen = λ id. omega arith;
      lowest = λ x some. (
          let above = lowest_above d x (Setting id slot v) rest (omega (arith, some)) in
          let was = lowest_above d x task rest (omega (arith, some)) in
          omega (arith, above, was));
    }

    set_good : IsGood d a t.most_counted (record { world = w; agenda = later; counted = n })
    set_good =
        let asks = g.agenda.3.2 in
        let fits = asks.fits in
        let due = due_within d a rest place slot in
        let cheap = asks.cheap in
        let shallow = asks.shallow in
        let kind = given_fits d (standing w.objects) w.builder w refl g.held fits.1.kind given v fits.5 is in
        changed_well t w later n
        (record {
          whole = whole_told t later w.transcript w.result now_alike;
          pool = pool_alike t later now_alike;
          build = build_alike t later now_alike;
          sets = record {
            alone = g.sets.alone;
            first = g.sets.first;
            held = λ some. held_from (mentions d (record { world = w; agenda = task ∷ rest; counted = n })) _ (λ o. omega arith) 1 w.objects t.settled;
          };
          queues = λ id o is. queue_moved d (depths t) (most t) (task ∷ rest) later n n id o as_later (omega arith) (g.queues id o is);
          alive = refl;
          to_make = now_alike.items is_making;
          makes = (let same = now_alike.makes in omega (arith, same));
          budget = g.agenda.0 + g.agenda.2;
          good = (
            g.agenda.0,
            g.agenda.1,
            g.agenda.2,
            (
              tt,
              record {
                due = record {
                  place = place;
                  is = g.held place id held;
                  spec = fits.1;
                  has = fits.2;
                  cheap = (let node = due.0 in omega (arith, node, cheap));
                  shallow = (let deep = due.1 in omega (arith, deep, shallow));
                };
                kind = kind.kind_is;
                lives = kind.lives;
              },
            ),
            g.agenda.4,
            omega arith,
            g.agenda.6,
          );
          spent = omega arith;
        })

    set_fine : StepIsFine t
    set_fine =
        let fits = g.agenda.3.2.fits in
        let p = owns d w g.objects id place slot fits.1 (g.held place id held) fits.2 in
        fine_where t (record { world = w; agenda = later; counted = n })
        (ap (uncounted rest n) (set_leads d w place slot id given fits.1 v held (spec_is d w id slot p.o fits.1 p.lives p.has) fits.3 fits.4 is))
        set_good

pub set_request_fine : {d : Definition} (place slot : ℕ) (given : Given) (t : First d (Handling (config.set place slot given))) → StepIsFine t
set_request_fine {d} place slot (value v) t =
    let asks = t.g.agenda.3.2 in
    set_fine place slot (value v) t asks.held.0.0 asks.held.0.1 v refl
set_request_fine {d} place slot (named to) t =
    let asks = t.g.agenda.3.2 in
    set_fine place slot (named to) t asks.held.0.0 asks.held.0.1 (values.object (Some asks.held.1.0.0)) (ap object_held asks.held.1.0.1)

-- ** an emission

emit_leads : (d : Definition) (w : World) (place number id : ℕ) (args : List Given) (detail : Option (List ℕ)) (o : Object) (sig : Signal) (vs : List Value) → read unbuilt w.builder place ≡ built id →
    living w.objects id ≡ Some o → signal_of d o.class number ≡ Some sig → may_stand d o.class number sig detail ≡ true → given_values w args ≡ Ok vs →
    emit_from_event d w place number args detail ≡ starts w (Beginning (new_emission id number (detail_for number detail) vs true) ∷ [])
unfolding emit_from_event detail_in detail_at signal_at
emit_leads d w place number id args detail o sig vs held lives has stands is = rw (held, lives, has, stands, is) refl

own_of_node : (d : Definition) (costs : Tables) (c : Channel) → entry costs.channels c ≤ node_cost (graph d) costs c
own_of_node d costs c = go (other_end (graph d) c)
  where
    go : (o : Option Channel) → entry costs.channels c ≤ with_other costs (entry costs.channels c) o
    go None = omega arith
    go (Some other) = omega arith

module _ {d : Definition} (place number : ℕ) (args : List Given) (detail : Option (List ℕ)) (t : First d (Handling (config.emit place number args detail))) where
  open t use {well, a, w, rest, n, g}

  abbrev asked : Task
  asked = Handling (config.emit place number args detail)

  module _ (id : ℕ) (held : read unbuilt w.builder place ≡ built id) (vs : AllGiven d w g.held args g.agenda.3.2.fits.2.params) where
    abbrev e : Emission
    e = new_emission id number (detail_for number detail) vs.vs true

    abbrev emitting : List Task
    emitting = Beginning e ∷ rest

    emits_alike : Alike (asked ∷ rest) emitting
    emits_alike = record { items = λ f. omega arith; unset = λ number. omega arith; request_step = omega arith; makes = omega arith }

    as_emitting : AsFrozen d (asked ∷ rest) emitting
    as_emitting = record {
      frozen = λ id. omega arith;
      lowest = λ x some. (
          let above = lowest_above d x (Beginning e) rest (omega (arith, some)) in
          let was = lowest_above d x asked rest (omega (arith, some)) in
          omega (arith, above, was));
    }

    abbrev fits : EmissionFits d (standing w.objects) e
    fits =
        let asks = g.agenda.3.2.fits in
        record {
          place = place;
          class = asks.1;
          sig = asks.2;
          is = g.held place id held;
          of_class = asks.3;
          has = asks.4;
          args = vs.fits;
          value = λ v some. absurd (cc);
        }

    emit_good : IsGood d a t.most_counted (record { world = w; agenda = emitting; counted = n })
    emit_good =
        let asks = g.agenda.3.2 in
        let cheap = asks.cheap in
        let own = own_of_node d (costs t) (signal place number) in
        changed_well t w emitting n
        (record {
          whole = whole_told t emitting w.transcript w.result emits_alike;
          pool = pool_alike t emitting emits_alike;
          build = build_alike t emitting emits_alike;
          sets = no_sets d (record { world = w; agenda = emitting; counted = n }) (let unset = g.sets.first in omega (arith, unset)) g.sets.alone;
          queues = λ id o is. queue_moved d (depths t) (most t) (asked ∷ rest) emitting n n id o as_emitting (omega arith) (g.queues id o is);
          alive = refl;
          to_make = emits_alike.items is_making;
          makes = (let same = emits_alike.makes in omega (arith, same));
          budget = g.agenda.0 + g.agenda.2;
          good = (
            g.agenda.0,
            g.agenda.1,
            g.agenda.2,
            (tt, record { fits = fits; not_notify = asks.fits.5; cheap = omega (arith, cheap, own); shallow = asks.shallow }),
            g.agenda.4,
            omega arith,
            may_come d (costs t) (depths t) (view w) (most t) (result_of_emission d (standing w.objects) e) rest g.agenda.2 g.agenda.6,
          );
          spent = omega arith;
        })

    emit_fine : StepIsFine t
    emit_fine =
        let asks = g.agenda.3.2.fits in
        let p = placed d well w g.objects id place (g.held place id held) in
        let same : asks.1 ≡ p.o.class = (let f = sym asks.3 ∙ p.in_class in cc) in
        fine_where t (record { world = w; agenda = emitting; counted = n })
        (ap (uncounted rest n)
        (emit_leads d w place number id args detail p.o asks.2 vs.vs held p.lives (ap (λ c. signal_of d c number) (sym same) ∙ asks.4) (ap (λ c. may_stand d c number asks.2 detail) (sym same) ∙ asks.7) vs.is))
        emit_good

pub emit_request_fine : {d : Definition} (place number : ℕ) (args : List Given) (detail : Option (List ℕ)) (t : First d (Handling (config.emit place number args detail))) → StepIsFine t
emit_request_fine {d} place number args detail t =
    let asks = t.g.agenda.3.2 in
    emit_fine place number args detail t asks.held.0.0 asks.held.0.1 (all_given d t.w t.g.held _ (λ v. refl) (λ to. refl) args asks.fits.2.params asks.fits.6 asks.held.1)
