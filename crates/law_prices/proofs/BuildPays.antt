-- The items of the build.
use Rattle.std.proofs.Common.{◌≡◌, refl, sym, ap, subst, ◌∙◌, ℕ, suc, ◌+◌, ◌≤◌, Bool, true, false, cond, List, [], ◌∷◌, ◌++◌, Option, None, Some, Ok, slice_get, arith}
use Rattle.std.specs.Prelude.{codes, nat_eq, not, ◌||◌}
use Rattle.ui_machine.specs.declared.arm.Arm.{Arm}
use Rattle.ui_machine.specs.declared.arm.Arm.TheVariants as arms
use Rattle.ui_machine.specs.Seq.{read, total}
use Rattle.ui_machine.specs.Definition.{Definition}
use Rattle.ui_machine.specs.Definition.Lookups.{place_at, type_of}
use Rattle.ui_machine.specs.Definition.Places.{Attached, Bind, Place}
use Rattle.ui_machine.specs.Definition.Properties.{has_flags, is_construct_only, is_writable}
use Rattle.ui_machine.specs.Definition.Values.{Value}
use Rattle.ui_machine.specs.Definition.Values as values
use Rattle.ui_machine.specs.Outcome.{After, known, only_if}
use Rattle.ui_machine.specs.Output.Lines as lines
use Rattle.ui_machine.specs.Rules.Build.{building, building_binding, building_child, building_forward, building_handler, building_object, connection, first_transfer, held_data, held_object, new_binding, of_items, peer_for, set_forward, with_binding, with_signal}
use Rattle.ui_machine.specs.Rules.Children.{adopted, is_unadoptable, updated, with_child, with_family, with_parent}
use Rattle.ui_machine.specs.Rules.Connections.{Connection, detail_at, detail_for, is_too_late, may_stand, new_handler, signal_number, with_handler}
use Rattle.ui_machine.specs.Rules.EmissionPlan.{signal_at}
use Rattle.ui_machine.specs.Rules.Construction.{construction, making, new_object, with_object}
use Rattle.ui_machine.specs.Rules.Sets.{is_disposed, spec_at}
use Rattle.ui_machine.specs.State.Config.{Config, Started, World, said, starts}
use Rattle.ui_machine.specs.State.Handlers.{Handler}
use Rattle.ui_machine.specs.State.Objects.{Object, Objects, living, object_at}
use Rattle.ui_machine.specs.State.Tasks.{Building, Constructing, Item, Setting, Task, Transferring, adopts, binds, connects, forwards, makes}
use Rattle.ui_machine.specs.Steps.{uncounted}
use Rattle.law_typing.specs.Good.Builds.{is_for_builder}
use Rattle.law_typing.specs.Good.DueCosts.{unsets}
use Rattle.law_typing.specs.Good.Freezes.{frozen_by}
use Rattle.law_typing.specs.Good.Handlers.{HandlerGood, connecting_cost}
use Rattle.law_typing.specs.Good.Standing.{standing}
use Rattle.law_typing.specs.Graph.Channels.{is_pair, property, target_of}
use Rattle.law_typing.specs.Graph.Tables.{Tables, entry}
use Rattle.law_typing.specs.Laws.StepsKeepGood.{IsGood}
use Rattle.law_static.proofs.AttachedProofs.{attached_are_paid}
use Rattle.law_static.proofs.MakingsProofs.{items_cost_less}
use Rattle.law_static.proofs.BuildCostProofs.{read_making}
use Rattle.law_steps.specs.Kept.New.{next_identity}
use Rattle.law_steps.proofs.Instructed.Inverse.{bound, known_is, only}
use Rattle.law_steps.proofs.Kept.AttachProofs.{handler_attaches}
use Rattle.law_steps.proofs.Tasked.First.{First}
use Rattle.law_prices.specs.Deeds.{PriceList}
use Rattle.law_prices.specs.Potential.{agenda_price, due_price, queued_price, seen, transfer_by, transfer_price}
use Rattle.law_prices.specs.Prices.{SolvesPrices, carry_price, first_price, node_price, price_of, put_price}
use Rattle.law_prices.proofs.ConnectPays.{last_of}
use Rattle.law_prices.proofs.EasyTasks.{StepPays}
use Rattle.law_prices.proofs.MakePays.{construction_paid, floating_made, made_is, objects_made, paid_made}
use Rattle.law_prices.proofs.MovePays.{standing_updated, updated_price}
use Rattle.law_prices.proofs.Nodes.{due_within}
use Rattle.law_prices.proofs.Pays.{ok_is, paid_in}
use Rattle.law_prices.proofs.RequestPays.{held_at}
use Rattle.law_prices.proofs.TaskFalls.{Falls, PaidHere, leads_to, moved, starts_to, steady, uncounted_is}
use Rattle.law_prices.proofs.Whole.{floating_without, objects_price}

module _ (d : Definition) (P : PriceList) (t : Tables) where
  -- ** its end

  pub built_pays : (x : First d (Building [])) → StepPays d P t x (uncounted x.rest x.n (building d x.w []))
  built_pays x paid e h =
      let s = uncounted_is x.rest x.n _ e h in
      leads_to d P t x s.0 x.n e s.2
      (starts_to d P t x s.0 x.w [] (ok_is {E = Arm} (record { world = x.w; tasks = [] }) s.0 s.1)
      (steady d P t x x.w x.rest (record { objects = refl; handlers = refl; last = refl; sources = refl; floating = omega arith; makes = omega arith; items = λ f. omega arith }) (omega arith) paid))

  -- ** children

  module _ (place : ℕ) (items : List Item) (x : First d (Building (adopts place ∷ items))) (paid : PaidHere d P t x) where
    open x use {w, rest}

    family : (parent child : ℕ) → Falls d P t x (with_family d w parent child) (Building items ∷ rest)
    family parent child =
        let v = with_family d w parent child in
        let making = total is_for_builder (Building items ∷ rest) in
        let stands : standing v.objects ≡ standing w.objects = standing_updated (with_parent (Some parent)) (λ o. refl) child (updated (with_child child) parent w.objects) ∙ standing_updated (with_child child) (λ o. refl) parent w.objects in
        let one = updated_price d P t making (with_child child) (λ o. refl) parent w.objects in
        let two = updated_price d P t making (with_parent (Some parent)) (λ o. refl) child (updated (with_child child) parent w.objects) in
        moved d P t x v (Building items ∷ rest)
        (record { stands = stands; handlers = refl; last = refl; sources = refl; floating = floating_without d P t (standing w.objects) child w.floating; items = λ f. omega arith })
        (omega (arith, one, two)) paid

    adopted_falls : (s : Started) → building_child d w place items ≡ Ok s → Falls d P t x s.world (s.tasks ++ rest)
    unfolding building_child adopted
    adopted_falls s e =
        let p = bound (known arms.Code (place_at d place)) _ s e in
        let above = bound (known arms.Code p.0.parent) _ s p.2 in
        let parent = bound (held_object w above.0) _ s above.2 in
        let child = bound (held_object w place) _ s parent.2 in
        let family = bound (adopted d w parent.0 child.0) _ s child.2 in
        let o = bound (object_at w.objects parent.0) _ family.0 family.1 in
        let c = bound (object_at w.objects child.0) _ family.0 o.2 in
        go parent.0 child.0 (is_unadoptable parent.0 o.0 child.0 c.0) family.0 (ok_is {E = Arm} _ family.0 c.2) (ok_is {E = Arm} _ s family.2)
      where
        go : (parent child : ℕ) (un : Bool) (after : After World Bool) → cond un (record { state = said d w (lines.limit (codes "adopt")); answer = false }) (record { state = with_family d w parent child; answer = true }) ≡ after →
            record { world = after.state; tasks = Building items ∷ [] } ≡ s → Falls d P t x s.world (s.tasks ++ rest)
        go parent child true after is leads =
            let v = said d w (lines.limit (codes "adopt")) in
            starts_to d P t x s v (Building items ∷ []) (ap (λ (x : After World Bool). record { world = x.state; tasks = Building items ∷ [] }) is ∙ leads)
            (steady d P t x v (Building items ∷ rest) (record { objects = refl; handlers = refl; last = refl; sources = refl; floating = omega arith; makes = omega arith; items = λ f. omega arith }) (omega arith) paid)
        go parent child false after is leads =
            starts_to d P t x s (with_family d w parent child) (Building items ∷ []) (ap (λ (x : After World Bool). record { world = x.state; tasks = Building items ∷ [] }) is ∙ leads) (family parent child)

  pub adopts_pays : (place : ℕ) (items : List Item) (x : First d (Building (adopts place ∷ items))) → StepPays d P t x (uncounted x.rest x.n (building d x.w (adopts place ∷ items)))
  adopts_pays place items x paid e h = let s = uncounted_is x.rest x.n _ e h in leads_to d P t x s.0 x.n e s.2 (adopted_falls place items x paid s.0 s.1)

  -- ** forward references

  module _ (place slot to : ℕ) (items : List Item) (x : First d (Building (forwards place slot to ∷ items))) (paid : PaidHere d P t x) where
    open x use {w, rest}

    sets_forward : (id : ℕ) (v : Value) → standing w.objects id ≡ Some place → Falls d P t x w (Setting id slot v ∷ Building items ∷ rest)
    sets_forward id v is =
        let set = ap (price_of (λ place. put_price d P (property place slot) + due_price d P t (Building items ∷ rest) (property place slot))) is in
        let due = due_within d P t (Building items ∷ rest) (property place slot) in
        steady d P t x w (Setting id slot v ∷ Building items ∷ rest)
        (record { objects = refl; handlers = refl; last = refl; sources = refl; floating = omega arith; makes = omega arith; items = λ f. omega arith }) (omega (arith, set, due)) paid

    forward_falls : (s : Started) → building_forward d w place slot to items ≡ Ok s → Falls d P t x s.world (s.tasks ++ rest)
    unfolding building_forward set_forward
    forward_falls s e =
        let id = bound (held_object w place) _ s e in
        let spec = bound (spec_at d w.objects id.0 slot) _ s id.2 in
        let sets = set_forward w id.0 slot to items in
        let k = only (is_writable spec.0) arms.Flags (only_if (not (is_construct_only spec.0)) arms.ConstructOnly sets) s spec.2 in
        let l = only (not (is_construct_only spec.0)) arms.ConstructOnly sets s k.1 in
        let target = bound (held_object w to) _ s l.1 in
        let v = values.object (Some target.0) in
        starts_to d P t x s w (Setting id.0 slot v ∷ Building items ∷ []) (ok_is {E = Arm} (record { world = w; tasks = Setting id.0 slot v ∷ Building items ∷ [] }) s target.2)
        (sets_forward id.0 v (held_at d P t x place id.0 id.1))

  pub forwards_pays : (place slot to : ℕ) (items : List Item) (x : First d (Building (forwards place slot to ∷ items))) → StepPays d P t x (uncounted x.rest x.n (building d x.w (forwards place slot to ∷ items)))
  forwards_pays place slot to items x paid e h = let s = uncounted_is x.rest x.n _ e h in leads_to d P t x s.0 x.n e s.2 (forward_falls place slot to items x paid s.0 s.1)

  -- ** bindings

  module _ (number : ℕ) (items : List Item) (x : First d (Building (binds number ∷ items))) (paid : PaidHere d P t x) where
    open x use {w, rest}

    -- what is carried over at once is within what a first transfer costs
    first_less : (b : Bind) → transfer_price d P t (Building items ∷ rest) number false b ≤ carry_price d P number (target_of b) + node_price d P t (target_of b)
    first_less b = go (is_pair b) (nat_eq (total (unsets number) (Building items ∷ rest)) 0)
      where
        go : (p f : Bool) → cond p (cond f (carry_price d P number (target_of b) + entry t.channels (target_of b)) 0) (carry_price d P number (target_of b) + node_price d P t (target_of b)) ≤ carry_price d P number (target_of b) + node_price d P t (target_of b)
        go true true = omega arith
        go true false = omega arith
        go false f = omega arith

    bound_falls : (b : Bind) → slice_get d.bindings number ≡ Some b → (source target : ℕ) → Falls d P t x (with_binding w (new_binding number b source target)) (first_transfer number b ++ Building items ∷ rest)
    bound_falls b is source target = go (has_flags 2 b.flags) refl
      where
        v : World
        v = with_binding w (new_binding number b source target)

        raises : price_of (first_price d P t number) (slice_get d.bindings number) ≡ first_price d P t number b
        raises = ap (price_of (first_price d P t number)) is

        go : (f : Bool) → has_flags 2 b.flags ≡ f → Falls d P t x (with_binding w (new_binding number b source target)) (cond f (Transferring number false ∷ []) [] ++ Building items ∷ rest)
        go true f =
            let first = ap (λ f. cond f (carry_price d P number (target_of b) + node_price d P t (target_of b)) 0) f in
            let r = raises in
            let less = first_less b in
            let due = ap (transfer_by d P t (Building items ∷ rest) number false) is in
            steady d P t x (with_binding w (new_binding number b source target)) (Transferring number false ∷ Building items ∷ rest)
            (record { objects = refl; handlers = refl; last = refl; sources = refl; floating = omega arith; makes = omega arith; items = λ f. omega arith }) (omega (arith, first, r, less, due)) paid
        go false f =
            steady d P t x (with_binding w (new_binding number b source target)) (Building items ∷ rest)
            (record { objects = refl; handlers = refl; last = refl; sources = refl; floating = omega arith; makes = omega arith; items = λ f. omega arith }) (omega arith) paid

    binding_falls : (s : Started) → building_binding d w number items ≡ Ok s → Falls d P t x s.world (s.tasks ++ rest)
    unfolding building_binding
    binding_falls s e =
        let b = bound (known arms.Code (slice_get d.bindings number)) _ s e in
        let source = bound (held_object w b.0.source) _ s b.2 in
        let target = bound (held_object w b.0.target) _ s source.2 in
        go b.0 (known_is arms.Code (slice_get d.bindings number) b.0 b.1) source.0 target.0 (is_disposed (living w.objects source.0) || is_disposed (living w.objects target.0)) target.2
      where
        more : (b : Bind) (f : Bool) → (cond f (Transferring number false ∷ []) [] ++ Building items ∷ []) ++ rest ≡ cond f (Transferring number false ∷ []) [] ++ Building items ∷ rest
        more b true = refl
        more b false = refl

        go : (b : Bind) → slice_get d.bindings number ≡ Some b → (source target : ℕ) (late : Bool) →
            cond late (starts w (Building items ∷ [])) (starts (with_binding w (new_binding number b source target)) (first_transfer number b ++ Building items ∷ [])) ≡ Ok s → Falls d P t x s.world (s.tasks ++ rest)
        go b is source target true e =
            starts_to d P t x s w (Building items ∷ []) (ok_is {E = Arm} (record { world = w; tasks = Building items ∷ [] }) s e)
            (steady d P t x w (Building items ∷ rest) (record { objects = refl; handlers = refl; last = refl; sources = refl; floating = omega arith; makes = omega arith; items = λ f. omega arith }) (omega arith) paid)
        go b is source target false e =
            starts_to d P t x s (with_binding w (new_binding number b source target)) (first_transfer number b ++ Building items ∷ []) (ok_is {E = Arm} _ s e)
            (subst (Falls d P t x (with_binding w (new_binding number b source target))) (sym (more b (has_flags 2 b.flags))) (bound_falls b is source target))

  pub binds_pays : (number : ℕ) (items : List Item) (x : First d (Building (binds number ∷ items))) → StepPays d P t x (uncounted x.rest x.n (building d x.w (binds number ∷ items)))
  binds_pays number items x paid e h = let s = uncounted_is x.rest x.n _ e h in leads_to d P t x s.0 x.n e s.2 (binding_falls number items x paid s.0 s.1)

  -- ** signals

  module _ (place number : ℕ) (items : List Item) (x : First d (Building (connects place number ∷ items))) (paid : PaidHere d P t x) where
    open x use {well, a, w, rest, n, g}

    -- it is too late for it
    late_falls : Falls d P t x w (Building items ∷ rest)
    late_falls = steady d P t x w (Building items ∷ rest) (record { objects = refl; handlers = refl; last = refl; sources = refl; floating = omega arith; makes = omega arith; items = λ f. omega arith }) (omega arith) paid

    module _ (p : Place) (z : Attached) (id : ℕ) (arg : Option ℕ) (signal : ℕ) (at : place_at d place ≡ Some p) (is : slice_get p.signals number ≡ Some z) (stands : standing w.objects id ≡ Some place)
        (named : signal_number d p.class z.signal ≡ Some signal) where
      abbrev c : Connection
      c = connection id signal (detail_for signal z.detail) z arg

      abbrev h : Handler
      h = new_handler (suc w.last_handler) c

      attached_falls : HandlerGood d (standing w.objects) h → Falls d P t x (with_handler w c) (Building items ∷ rest)
      attached_falls good =
          let none = ap (agenda_price d P t (seen w)) g.agenda.3.1 in
          let now = ap (agenda_price d P t (seen (with_handler w c))) g.agenda.3.1 in
          record {
            falls = omega (arith, none, now);
            paid = λ costs. handler_attaches d costs a.weighed.depths (standing w.objects) items rest w.last_handler place number w.handlers h
                (record {
                  next = refl;
                  by_definition = refl;
                  good = good;
                  at = stands;
                  paid = λ r there same runs. attached_are_paid d well.types costs place number p z h (record { at = at; is = is }) named refl refl r there same runs;
                }) (paid costs);
          }

    signal_falls : (s : Started) → building_handler d w place number items ≡ Ok s → IsGood d a x.most_counted (record { world = s.world; agenda = s.tasks ++ rest; counted = n }) → Falls d P t x s.world (s.tasks ++ rest)
    unfolding building_handler detail_at
    signal_falls s e good =
        let p = bound (known arms.Code (place_at d place)) _ s e in
        let z = bound (known arms.Code (slice_get p.0.signals number)) _ s p.2 in
        let id = bound (held_object w place) _ s z.2 in
        let arg = bound (held_data w z.0.with) _ s id.2 in
        let signal = bound (known arms.Code (signal_number d p.0.class z.0.signal)) _ s arg.2 in
        let detail = bound (detail_at d p.0.class signal.0 z.0.detail) _ s signal.2 in
        let sig = bound (signal_at d p.0.class signal.0) _ detail.0 detail.1 in
        let k = only (may_stand d p.0.class signal.0 sig.0 z.0.detail) arms.Code (Ok (detail_for signal.0 z.0.detail)) detail.0 sig.2 in
        let kept = ok_is {E = Arm} (detail_for signal.0 z.0.detail) detail.0 k.1 in
        let leads = ap (λ o. record { world = with_signal w (connection id.0 signal.0 o z.0 arg.0); tasks = Building items ∷ [] }) kept ∙ ok_is {E = Arm} _ s detail.2 in
        go p.0 z.0 id.0 arg.0 signal.0 (known_is arms.Code (place_at d place) p.0 p.1) (known_is arms.Code (slice_get p.0.signals number) z.0 z.1) (held_at d P t x place id.0 id.1)
        (known_is arms.Code (signal_number d p.0.class z.0.signal) signal.0 signal.1) leads
      where
        go : (p : Place) (z : Attached) (id : ℕ) (arg : Option ℕ) (signal : ℕ) → place_at d place ≡ Some p → slice_get p.signals number ≡ Some z → standing w.objects id ≡ Some place → signal_number d p.class z.signal ≡ Some signal →
            record { world = with_signal w (connection id signal (detail_for signal z.detail) z arg); tasks = Building items ∷ [] } ≡ s → Falls d P t x s.world (s.tasks ++ rest)
        go p z id arg signal at is stands named leads = by (is_too_late w.objects id arg) leads
          where
            by : (late : Bool) → record { world = cond late w (with_handler w (connection id signal (detail_for signal z.detail) z arg)); tasks = Building items ∷ [] } ≡ s → Falls d P t x s.world (s.tasks ++ rest)
            by true leads = starts_to d P t x s w (Building items ∷ []) leads late_falls
            by false leads =
                let v = with_handler w (connection id signal (detail_for signal z.detail) z arg) in
                let there = subst (λ (s : Started). IsGood d a x.most_counted (record { world = s.world; agenda = s.tasks ++ rest; counted = n })) (sym leads) good in
                starts_to d P t x s v (Building items ∷ []) leads
                (attached_falls p z id arg signal at is stands named (last_of d P t (HandlerGood d (standing w.objects)) w.handlers _ there.handlers.each))

  pub connects_pays : (place number : ℕ) (items : List Item) (x : First d (Building (connects place number ∷ items))) → PaidHere d P t x → (e : Config) → IsGood d x.a x.most_counted e →
      uncounted x.rest x.n (building d x.w (connects place number ∷ items)) ≡ Ok e → Falls d P t x e.world e.agenda
  connects_pays place number items x paid e good h =
      let s = uncounted_is x.rest x.n _ e h in
      leads_to d P t x s.0 x.n e s.2 (signal_falls place number items x paid s.0 s.1 (subst (IsGood d x.a x.most_counted) (sym s.2) good))

  -- ** objects

  -- where nothing waits it is all the same how many objects the builder makes
  none_waits : (less more : ℕ) (os : Objects) → ((i : ℕ) (y : Object) → read None os i ≡ Some y → y.queue ≡ []) → objects_price d P t less os ≡ objects_price d P t more os
  none_waits less more [] none = refl
  none_waits less more (None ∷ os) none = let h = none_waits less more os (λ i y e. none (suc i) y e) in omega (arith, h)
  none_waits less more (Some o ∷ os) none =
      let h = none_waits less more os (λ i y e. none (suc i) y e) in
      let empty = none 0 o refl in
      let a = ap (λ q. total (queued_price d P t less o.place) q) empty in
      let b = ap (λ q. total (queued_price d P t more o.place) q) empty in
      omega (arith, h, a, b)

  module _ (solves : SolvesPrices d P t) (place : ℕ) (items : List Item) (x : First d (Building (makes place ∷ items))) (paid : PaidHere d P t x) where
    open x use {well, a, w, rest, n, g}

    none_below : (f : Task → ℕ) → total f rest ≡ 0
    none_below f = ap (total f) g.agenda.3.1

    waits_none : (i : ℕ) (y : Object) → read None w.objects i ≡ Some y → y.queue ≡ []
    waits_none i y is =
        let q = g.queues (suc i) y is in
        let alone = none_below (frozen_by d (suc i)) in
        q.none (let old = q.count in omega (arith, old, alone))

    module _ (p : Place) (at : place_at d place ≡ Some p) (peer : Option ℕ) where
      abbrev made : World
      made = said d (with_object d w (new_object d place p peer)) (lines.construct (next_identity w) (type_of d p.class).name)

      abbrev agenda : List Task
      agenda = Constructing (next_identity w) (construction d w place p) true ∷ Building items ∷ rest

      makes_falls : Falls d P t x made agenda
      makes_falls =
          let none = ap (agenda_price d P t (seen w)) g.agenda.3.1 in
          let now = ap (agenda_price d P t (seen made)) g.agenda.3.1 in
          let objects = objects_made d P t w place p peer at (total is_for_builder agenda) in
          let same = none_waits (total is_for_builder agenda) (total is_for_builder (Building (makes place ∷ items) ∷ rest)) w.objects waits_none in
          let fs = floating_made d P t w place p peer at g.floating in
          let c = construction_paid d P t w place p peer at a solves (well.places place p at) (Building items ∷ rest) true in
          let raised = ap (total (node_price d P t)) (read_making d 0 place place d.places p (omega arith) at).0 in
          record {
            falls = omega (arith, none, now, objects, same, fs, c, raised);
            paid = paid_in d a (record made { transcript = w.transcript }) made (Building (makes place ∷ items) ∷ rest) agenda refl refl refl (λ f. omega arith)
                (paid_made d a w place p peer (Building (makes place ∷ items) ∷ rest)
                (λ costs r there same. (let less = items_cost_less d costs g.build.0 (makes place ∷ items) g.build.1 r there in let alone = none_below (of_items (connecting_cost d costs r.channel)) in omega (arith, less, alone))) paid);
          }

    object_falls : (s : Started) → building_object d w place items ≡ Ok s → Falls d P t x s.world (s.tasks ++ rest)
    unfolding building_object
    object_falls s e =
        let p = bound (known arms.Code (place_at d place)) _ s e in
        let peer = bound (peer_for d w p.0) _ s p.2 in
        let made = bound (making d w place peer.0 true) _ s peer.2 in
        let m = made_is d w place peer.0 true made.0 made.1 in
        starts_to d P t x s (said d (with_object d w (new_object d place m.p peer.0)) (lines.construct (next_identity w) (type_of d m.p.class).name)) (Constructing (next_identity w) (construction d w place m.p) true ∷ Building items ∷ [])
        (ap (λ (made : Started). record { world = made.world; tasks = made.tasks ++ Building items ∷ [] }) m.leaves ∙ ok_is {E = Arm} _ s made.2)
        (makes_falls m.p m.is peer.0)

  pub makes_pays : SolvesPrices d P t → (place : ℕ) (items : List Item) (x : First d (Building (makes place ∷ items))) → StepPays d P t x (uncounted x.rest x.n (building d x.w (makes place ∷ items)))
  makes_pays solves place items x paid e h = let s = uncounted_is x.rest x.n _ e h in leads_to d P t x s.0 x.n e s.2 (object_falls solves place items x paid s.0 s.1)
