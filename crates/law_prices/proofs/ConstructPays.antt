-- A construction thaws its object and ends.
use Rattle.std.proofs.Common.{◌≡◌, refl, sym, ap, ◌∙◌, ℕ, zero, suc, ◌+◌, ◌-◌, ◌≤◌, ◌<◌, Bool, true, false, cond, List, [], ◌∷◌, ◌++◌, Some, Ok, arith}
use Rattle.std.specs.Prelude.{nat_eq, nat_lt, ◌&&◌, ◌||◌}
use Rattle.std.specs.List.{list_any}
use Rattle.std.proofs.lemmas.Bool.{eqb-true, eq-eqb}
use Rattle.ui_machine.specs.declared.arm.Arm.{Arm}
use Rattle.ui_machine.specs.declared.arm.Arm.TheVariants as arms
use Rattle.ui_machine.specs.Seq.{total}
use Rattle.ui_machine.specs.Definition.{Definition}
use Rattle.ui_machine.specs.Definition.Places.{Bind}
use Rattle.ui_machine.specs.Outcome.{After, ◌>>=◌}
use Rattle.ui_machine.specs.Rules.Construction.{constructed, constructing, thawing_made}
use Rattle.ui_machine.specs.Rules.NotifyQueue.{frozen_less, less_frozen}
use Rattle.ui_machine.specs.State.Config.{Started, builder_entry, built, is_unbuilt, starts, sunk, with_builder_entry, with_objects}
use Rattle.ui_machine.specs.State.Objects.{Object, Objects, changed, living, object_at, put}
use Rattle.ui_machine.specs.State.Tasks.{Constructing, ConstructStep, Task, Thawing, thaws}
use Rattle.ui_machine.specs.Steps.{uncounted}
use Rattle.law_typing.specs.Good.Builds.{is_for_builder}
use Rattle.law_typing.specs.Good.Standing.{standing}
use Rattle.law_typing.specs.Graph.Channels.{is_pair, property, same_channel, source_of, target_of}
use Rattle.law_typing.specs.Graph.Tables.{Tables}
use Rattle.law_typing.specs.Rules.Brackets.{has_pair, is_among}
use Rattle.law_steps.proofs.Instructed.Inverse.{bound, known_is, only}
use Rattle.law_steps.proofs.Kept.NewProofs.{at_place}
use Rattle.law_steps.proofs.Tasked.First.{First}
use Rattle.law_prices.specs.Deeds.{PriceList}
use Rattle.law_prices.specs.Deeds as deeds
use Rattle.law_prices.specs.Potential.{due_price, object_price, queued_price}
use Rattle.law_prices.specs.Prices.{SolvesPrices, by_number, late_price, node_price, over_price, pair_price, price_of}
use Rattle.law_prices.specs.Steps.{construct_deeds}
use Rattle.law_prices.proofs.EasyTasks.{StepPays, constructing_is}
use Rattle.law_prices.proofs.Nodes.{due_within, no_pair, no_way}
use Rattle.law_prices.proofs.NotifyPays.{total_reverse}
use Rattle.law_prices.proofs.Pays.{ok_is}
use Rattle.law_prices.proofs.SendPays.{some_same}
use Rattle.law_prices.proofs.Sums.{total_less}
use Rattle.law_prices.proofs.TaskFalls.{Falls, PaidHere, done_is, leads_to, moved, starts_to, steady, uncounted_is}
use Rattle.law_prices.proofs.Whole.{floating_without, objects_price, objects_put, standing_put}

-- a place that is in no pair is at neither end of one
ends_apart : (place : ℕ) (b : Bind) (slot : ℕ) → (nat_eq place b.source || (nat_eq place b.target || false)) ≡ false → (same_channel (source_of b) (property place slot) ≡ false) × (same_channel (target_of b) (property place slot) ≡ false)
ends_apart place b slot e = go (nat_eq place b.source) (nat_eq place b.target) refl refl e
  where
    differs : (p q s u : ℕ) → nat_eq p q ≡ false → same_channel (property q u) (property p s) ≡ false
    differs p q s u e = of (nat_eq q p) refl
      where
        of : (x : Bool) → nat_eq q p ≡ x → (nat_eq q p && nat_eq u s) ≡ false
        of true f = absurd (let h = eq-eqb p q (sym (eqb-true q p f)) in let k = sym e ∙ h in cc)
        of false f = ap (λ x. x && nat_eq u s) f

    go : (x y : Bool) → nat_eq place b.source ≡ x → nat_eq place b.target ≡ y → (x || (y || false)) ≡ false → (same_channel (source_of b) (property place slot) ≡ false) × (same_channel (target_of b) (property place slot) ≡ false)
    go true y f g e = absurd (cc)
    go false true f g e = absurd (cc)
    go false false f g e = (differs place b.source slot b.source_slot f, differs place b.target slot b.target_slot g)

module _ (d : Definition) (P : PriceList) (t : Tables) where
  -- over its pairs a property of such a place costs nothing
  unpaired_from : (place slot n : ℕ) (bs : List Bind) → list_any (λ (b : Bind). is_pair b && is_among (b.source ∷ b.target ∷ []) place) bs ≡ false → by_number (pair_price d P t (property place slot)) n bs ≡ 0
  unpaired_from place slot n [] e = refl
  unpaired_from place slot n (b ∷ bs) e = go (is_pair b) refl e (unpaired_from place slot (suc n) bs)
    where
      neither : (x y : Bool) → (x || y) ≡ false → (x ≡ false) × (y ≡ false)
      neither false false e = (refl, refl)
      neither true y e = absurd (cc)
      neither false true e = absurd (cc)

      go : (p : Bool) → is_pair b ≡ p → ((p && (nat_eq place b.source || (nat_eq place b.target || false))) || list_any (λ (b : Bind). is_pair b && is_among (b.source ∷ b.target ∷ []) place) bs) ≡ false →
          (list_any (λ (b : Bind). is_pair b && is_among (b.source ∷ b.target ∷ []) place) bs ≡ false → by_number (pair_price d P t (property place slot)) (suc n) bs ≡ 0) → by_number (pair_price d P t (property place slot)) n (b ∷ bs) ≡ 0
      go false f e rec = let h = rec (neither false (list_any (λ (b : Bind). is_pair b && is_among (b.source ∷ b.target ∷ []) place) bs) e).1 in let z = no_pair d P t (property place slot) n b f in omega (arith, h, z)
      go true f e rec =
          let parts = neither (nat_eq place b.source || (nat_eq place b.target || false)) (list_any (λ (b : Bind). is_pair b && is_among (b.source ∷ b.target ∷ []) place) bs) e in
          let h = rec parts.1 in
          let ends = ends_apart place b slot parts.0 in
          let z = no_way d P t (property place slot) n b ends.0 ends.1 in
          omega (arith, h, z)

  unpaired_over : (place slot : ℕ) → has_pair d place ≡ false → over_price d P t (property place slot) ≡ 0
  unpaired_over place slot none = unpaired_from place slot 0 d.bindings none

  -- ** it ends

  ended : (id : ℕ) (held : Bool) (x : First d (Constructing id [] held)) → PaidHere d P t x → (s : Started) → constructed x.w id held ≡ Ok s → SolvesPrices d P t → Falls d P t x s.world (s.tasks ++ x.rest)
  unfolding constructed
  ended id false x paid s e solves =
      let place = x.g.agenda.3.1.place in
      let is = x.g.agenda.3.1.is in
      let deed = done_is d P t (λ place. deeds.construct place ∷ []) (standing x.w.objects id) place is in
      let was = constructing_is d P t solves x.w x.rest id [] false place is in
      starts_to d P t x s x.w [] (ok_is {E = Arm} (record { world = x.w; tasks = [] }) s e)
      (steady d P t x x.w x.rest (record { objects = refl; handlers = refl; last = refl; sources = refl; floating = omega arith; makes = omega arith; items = λ f. omega arith }) (omega (arith, deed, was)) paid)
  ended id true x paid s e solves =
      let place = x.g.agenda.3.1.place in
      let is = x.g.agenda.3.1.is in
      let deed = done_is d P t (λ place. deeds.construct place ∷ []) (standing x.w.objects id) place is in
      let was = constructing_is d P t solves x.w x.rest id [] true place is in
      let o = bound (object_at x.w.objects id) _ s e in
      let after = sunk (with_builder_entry x.w o.0.place (built id)) id in
      let k = only (is_unbuilt (builder_entry x.w o.0.place)) arms.Code (starts after []) s o.2 in
      let few = floating_without d P t (standing x.w.objects) id x.w.floating in
      starts_to d P t x s after [] (ok_is {E = Arm} (record { world = after; tasks = [] }) s k.1)
      (steady d P t x after x.rest (record { objects = refl; handlers = refl; last = refl; sources = refl; floating = few; makes = omega arith; items = λ f. omega arith }) (omega (arith, deed, was)) paid)

  module _ (solves : SolvesPrices d P t) where
    pub construction_ends : (id : ℕ) (held : Bool) (x : First d (Constructing id [] held)) → StepPays d P t x (uncounted x.rest x.n (constructing d x.w id [] held))
    construction_ends id held x paid e h = let s = uncounted_is x.rest x.n _ e h in leads_to d P t x s.0 x.n e s.2 (ended id held x paid s.0 s.1 solves)

    -- ** it thaws its object

    module _ (id : ℕ) (steps : List ConstructStep) (held : Bool) (x : First d (Constructing id (thaws ∷ steps) held)) (paid : PaidHere d P t x) where
      open x use {a, w, rest, n, g}

      abbrev place : ℕ
      place = g.agenda.3.1.place

      abbrev making : ℕ
      making = total is_for_builder (Constructing id (thaws ∷ steps) held ∷ rest)

      abbrev below : List Task
      below = Constructing id steps held ∷ rest

      -- what waits is all paid: while the builder makes an object also over pairs, and what a program makes is in none
      waits_paid : (slot : ℕ) → late_price d P (property place slot) + due_price d P t below (property place slot) ≤ queued_price d P t making place slot
      waits_paid slot = go held refl
        where
          within : due_price d P t below (property place slot) ≤ node_price d P t (property place slot)
          within = due_within d P t below (property place slot)

          go : (b : Bool) → held ≡ b → late_price d P (property place slot) + due_price d P t below (property place slot) ≤ queued_price d P t making place slot
          go true e =
              let one = ap {B = ℕ} (λ b. cond b 1 0) e in
              let some : nat_eq making 0 ≡ false = not_zero making (omega (arith, one)) in
              let all = ap (λ b. cond b 0 (over_price d P t (property place slot))) some in
              let due = within in
              omega (arith, due, all)
            where
              not_zero : (n : ℕ) → 0 < n → nat_eq n 0 ≡ false
              not_zero n some = of (nat_eq n 0) refl
                where
                  of : (b : Bool) → nat_eq n 0 ≡ b → b ≡ false
                  of true e = absurd (let none = eqb-true n 0 e in omega (arith, none, some))
                  of false e = refl
          go false e = let none = unpaired_over place slot (g.agenda.3.1.for_program e) in let due = within in omega (arith, none, due)

      module _ (o : Object) (lives : living w.objects id ≡ Some o) (at : o.place ≡ place) where
        thawed_falls : (m : ℕ) → Falls d P t x (with_objects w (put w.objects id (Some (less_frozen m o).state))) (Thawing id (less_frozen m o).answer ∷ below)
        thawed_falls m =
            let new = (less_frozen m o).state in
            let is = g.agenda.3.1.is in
            let deed = done_is d P t (λ place. construct_deeds place thaws) (standing w.objects id) place is in
            let was = constructing_is d P t solves w rest id (thaws ∷ steps) held place is in
            let next = constructing_is d P t solves w rest id steps held place is in
            let due = ap (price_of (λ place. total (λ slot. late_price d P (property place slot) + due_price d P t below (property place slot)) (less_frozen m o).answer)) is in
            let costs = objects_put d P t making id w.objects o new lives in
            let queue = taken m in
            let made : total is_for_builder (Thawing id (less_frozen m o).answer ∷ below) ≡ making = omega arith in
            let os = ap (λ k. objects_price d P t k (put w.objects id (Some new))) made in
            moved d P t x (with_objects w (put w.objects id (Some new))) (Thawing id (less_frozen m o).answer ∷ below)
            (record { stands = standing_put w.objects id o new lives (place_kept m); handlers = refl; last = refl; sources = refl; floating = omega arith; items = λ f. omega arith })
            (omega (arith, deed, was, next, due, costs, queue, os)) paid
          where
            place_kept : (m : ℕ) → (less_frozen m o).state.place ≡ o.place
            place_kept zero = refl
            place_kept (suc m) = refl

            taken : (m : ℕ) → total (λ slot. late_price d P (property place slot) + due_price d P t below (property place slot)) (less_frozen m o).answer + object_price d P t making (less_frozen m o).state ≤ object_price d P t making o
            taken zero =
                let f = λ (slot : ℕ). late_price d P (property place slot) + due_price d P t below (property place slot) in
                let back = total_reverse f o.queue in
                let less = total_less f (queued_price d P t making place) o.queue waits_paid in
                let here = ap (λ place. total (queued_price d P t making place) o.queue) at in
                omega (arith, back, less, here)
            taken (suc m) = omega arith

      thaws_made : (s : Started) → thawing_made w id steps held ≡ Ok s → Falls d P t x s.world (s.tasks ++ rest)
      unfolding thawing_made changed
      thaws_made s e =
          let thaw = bound (changed w.objects id frozen_less) _ s e in
          let o = bound (object_at w.objects id) (λ (o : Object). frozen_less o >>= (λ (new : After Object (List ℕ)). Ok (record { state = put w.objects id (Some new.state); answer = new.answer }))) thaw.0 thaw.1 in
          let new = bound (frozen_less o.0) (λ (new : After Object (List ℕ)). Ok (record { state = put w.objects id (Some new.state); answer = new.answer })) thaw.0 o.2 in
          let k = only (nat_lt 0 o.0.freezes) arms.Freeze (Ok (less_frozen (o.0.freezes - 1) o.0)) new.0 new.1 in
          let lives = known_is _ (living w.objects id) o.0 o.1 in
          let made = ok_is {E = Arm} _ new.0 k.1 in
          let after = ok_is {E = Arm} _ thaw.0 new.2 in
          let whole : record { state = put w.objects id (Some (less_frozen (o.0.freezes - 1) o.0).state); answer = (less_frozen (o.0.freezes - 1) o.0).answer } ≡ thaw.0 =
          ap (λ (new : After Object (List ℕ)). record { state = put w.objects id (Some new.state); answer = new.answer }) made ∙ after in
          let there = at_place w.objects id place g.agenda.3.1.is in
          let at : o.0.place ≡ place = ap (λ (o : Object). o.place) (some_same o.0 there.0 (sym lives ∙ there.1)) ∙ there.2 in
          starts_to d P t x s (with_objects w (put w.objects id (Some (less_frozen (o.0.freezes - 1) o.0).state))) (Thawing id (less_frozen (o.0.freezes - 1) o.0).answer ∷ Constructing id steps held ∷ [])
          (ap (λ (x : After Objects (List ℕ)). record { world = with_objects w x.state; tasks = Thawing id x.answer ∷ Constructing id steps held ∷ [] }) whole ∙ ok_is {E = Arm} _ s thaw.2)
          (thawed_falls o.0 lives at (o.0.freezes - 1))

    pub thaw_step_pays : (id : ℕ) (steps : List ConstructStep) (held : Bool) (x : First d (Constructing id (thaws ∷ steps) held)) → StepPays d P t x (uncounted x.rest x.n (constructing d x.w id (thaws ∷ steps) held))
    thaw_step_pays id steps held x paid e h = let s = uncounted_is x.rest x.n _ e h in leads_to d P t x s.0 x.n e s.2 (thaws_made id steps held x paid s.0 s.1)
