-- A notification or another emission begins: its turns are within what is due.
use Rattle.std.proofs.Common.{◌≡◌, refl, sym, ap, ◌∙◌, ℕ, suc, ◌+◌, Bool, true, false, cond, List, [], ◌∷◌, ◌++◌, Some, Ok, arith}
use Rattle.std.specs.Prelude.{not, ◌&&◌, ◌||◌}
use Rattle.ui_machine.specs.declared.arm.Arm.{Arm}
use Rattle.ui_machine.specs.declared.arm.Arm.TheVariants as arms
use Rattle.ui_machine.specs.Seq.{total}
use Rattle.ui_machine.specs.Definition.{Definition}
use Rattle.ui_machine.specs.Definition.Lookups.{spec_of, type_of}
use Rattle.ui_machine.specs.Definition.Places.{Bind}
use Rattle.ui_machine.specs.Definition.Properties.{Spec}
use Rattle.ui_machine.specs.Definition.Signals.{Signal}
use Rattle.ui_machine.specs.Outcome.{known}
use Rattle.ui_machine.specs.Output.Lines as lines
use Rattle.ui_machine.specs.Rules.EmissionPlan.{beginning_emission, class_handler_of, emission_plan, notification, notify_plan, notifying, signal_at, signal_of}
use Rattle.ui_machine.specs.Rules.Programs.{all_fit}
use Rattle.ui_machine.specs.Rules.Transform.{kind_fits}
use Rattle.ui_machine.specs.State.Config.{Started, said, starts}
use Rattle.ui_machine.specs.State.Objects.{Object, class_in, living, object_at}
use Rattle.ui_machine.specs.State.Tasks.{Beginning, Emission, Emitting, Notifying}
use Rattle.ui_machine.specs.Steps.{counted}
use Rattle.law_typing.specs.Good.Standing.{standing}
use Rattle.law_typing.specs.Graph.{listed_if, stages_of}
use Rattle.law_typing.specs.Graph.Channels.{is_channel, is_pair, is_readable_one, property, signal, target_of}
use Rattle.law_typing.specs.Graph.Channels as channels
use Rattle.law_typing.specs.Graph.Tables.{Tables, entry}
use Rattle.law_typing.specs.Laws.WellRead.{HasNotify}
use Rattle.law_typing.specs.Rules.RegisterKinds.{class_at}
use Rattle.law_typing.specs.Verdict.Report.{property_name}
use Rattle.law_static.specs.Raises.{raised_there}
use Rattle.law_static.proofs.RaisesProofs.{channels_known}
use Rattle.law_steps.proofs.Instructed.Inverse.{bound, known_is, only}
use Rattle.law_steps.proofs.Tasked.BeginningProofs.{Placed, placed, signal_is_channel}
use Rattle.law_steps.proofs.Tasked.First.{First}
use Rattle.law_prices.specs.Deeds.{PriceList}
use Rattle.law_prices.specs.Deeds as deeds
use Rattle.law_prices.specs.Potential.{due_price, seen, told_price, turn_price}
use Rattle.law_prices.specs.Prices.{SolvesPrices, by_number, carry_price, node_price, price_of, turn_over}
use Rattle.law_prices.proofs.EasyTasks.{StepPays, emitting_is}
use Rattle.law_prices.proofs.Equations.{channel_is}
use Rattle.law_prices.proofs.NotifyPlans.{notify_price}
use Rattle.law_prices.proofs.Pays.{ok_is}
use Rattle.law_prices.proofs.Plans.{plan_price}
use Rattle.law_prices.proofs.SendPays.{some_same}
use Rattle.law_prices.proofs.TaskFalls.{Falls, PaidHere, counted_is, done_is, leads_to, starts_to, steady}

module _ (d : Definition) (P : PriceList) (t : Tables) (solves : SolvesPrices d P t) where
  -- ** notifications

  module _ (id slot : ℕ) (x : First d (Notifying id slot)) (paid : PaidHere d P t x) where
    open x use {well, a, w, rest, n, g}

    abbrev place : ℕ
    place = g.agenda.3.1.due.place

    abbrev spec : Spec
    spec = g.agenda.3.1.due.spec

    p : Placed d w id place
    p = placed d well w g.objects id place g.agenda.3.1.due.is

    there : is_channel d (property place slot) ≡ true
    there = ap is_readable_one g.agenda.3.1.due.has ∙ g.agenda.3.1.readable

    notify_falls : (o : Object) (q : Spec) (s : Signal) → living w.objects id ≡ Some o → spec_of d o.class slot ≡ Some q → signal_of d o.class 0 ≡ Some s → (l : List (List ℕ)) →
        Falls d P t x (record w { transcript = l }) (Emitting (notification id q.name) (notify_plan d w s o.class id slot q.name) ∷ rest)
    notify_falls o q s lives has is l =
        let k = p in
        let same : k.o ≡ o = some_same k.o o (sym k.lives ∙ lives) in
        let class : class_at d place ≡ Some o.class = k.in_class ∙ ap (λ (o : Object). Some o.class) same in
        let spec_is : q ≡ spec = some_same q spec (sym has ∙ (sym (ap (channels.spec_if d slot) class) ∙ g.agenda.3.1.due.has)) in
        let sort = (well.places k.o.place k.good.place k.good.is).class in
        let notify : HasNotify d k.o.class = well.types.notify k.o.class k.known (ap (λ c. (type_of d c).sort) k.good.class ∙ sort) in
        let signal_is : notify.signal ≡ s = some_same notify.signal s (sym notify.is ∙ (ap (λ (o : Object). signal_of d o.class 0) same ∙ is)) in
        let plan = notify_price d a P t solves w (Notifying id slot ∷ rest) rest id place slot o.class s
        (record {
          stands = g.agenda.3.1.due.is;
          of_class = class;
          readable = there;
          called = ap (λ (s : Signal). s.name) (sym signal_is) ∙ notify.name;
          flags = ap (λ (s : Signal). s.flags) (sym signal_is) ∙ notify.flags;
        }) paid g.bindings in
        let name : property_name (channels.spec_at d place slot) ≡ q.name = ap property_name g.agenda.3.1.due.has ∙ ap (λ (s : Spec). s.name) (sym spec_is) in
        let named = ap (λ name. total (turn_price d P t (seen w) rest place 0) (notify_plan d w s o.class id slot name)) name in
        let deed = done_is d P t (λ place. deeds.notify place slot ∷ []) (standing w.objects id) place g.agenda.3.1.due.is in
        let was = ap (price_of (λ place. due_price d P t rest (property place slot))) g.agenda.3.1.due.is in
        let next = emitting_is d P t solves w rest (notification id q.name) (notify_plan d w s o.class id slot q.name) place g.agenda.3.1.due.is in
        steady d P t x (record w { transcript = l }) (Emitting (notification id q.name) (notify_plan d w s o.class id slot q.name) ∷ rest)
        (record { objects = refl; handlers = refl; last = refl; sources = refl; floating = omega arith; makes = omega arith; items = λ f. omega arith }) (omega (arith, plan, named, deed, was, next)) paid

    notified : (s : Started) → notifying d w id slot ≡ Ok s → Falls d P t x s.world (s.tasks ++ rest)
    unfolding notifying signal_at
    notified s e =
        let o = bound (object_at w.objects id) _ s e in
        let q = bound (known arms.Code (spec_of d o.0.class slot)) _ s o.2 in
        let sig = bound (signal_at d o.0.class 0) _ s q.2 in
        starts_to d P t x s _ _ (ok_is {E = Arm} _ s sig.2)
        (notify_falls o.0 q.0 sig.0 (known_is arms.Operand (living w.objects id) o.0 o.1) (known_is arms.Code (spec_of d o.0.class slot) q.0 q.1) (known_is arms.Code (signal_of d o.0.class 0) sig.0 sig.1) _)

  pub notifying_pays : (id slot : ℕ) (x : First d (Notifying id slot)) → StepPays d P t x (counted x.rest x.n (notifying d x.w id slot))
  notifying_pays id slot x paid e h = let s = counted_is x.rest x.n _ e h in leads_to d P t x s.0 (suc x.n) e s.2 (notified id slot x paid s.0 s.1)

  -- ** other emissions

  -- a signal leads no binding
  no_turns : (place number : ℕ) (n : ℕ) (bs : List Bind) → by_number (turn_over d P t place number (signal place number)) n bs ≡ 0
  no_turns place number n [] = refl
  no_turns place number n (b ∷ bs) =
      let h = no_turns place number (suc n) bs in
      let z = none (is_pair b) in
      omega (arith, h, z)
    where
      none : (p : Bool) → cond (false || (p && false)) (P (deeds.turn place number)) 0 + cond (not p && false) (carry_price d P n (target_of b) + node_price d P t (target_of b)) 0 ≡ 0
      none true = omega arith
      none false = omega arith

  module _ (e : Emission) (x : First d (Beginning e)) (paid : PaidHere d P t x) where
    open x use {well, a, w, rest, n, g}

    abbrev at_place : ℕ
    at_place = g.agenda.3.1.fits.place

    k : Placed d w e.object at_place
    k = placed d well w g.objects e.object at_place g.agenda.3.1.fits.is

    begin_falls : (o : Object) (s : Signal) → living w.objects e.object ≡ Some o → signal_of d o.class e.signal ≡ Some s → (l : List (List ℕ)) → Falls d P t x (record w { transcript = l }) (Emitting e (emission_plan d w s o.class e) ∷ rest)
    begin_falls o s lives has l =
        let same : k.o ≡ o = some_same k.o o (sym k.lives ∙ lives) in
        let class : class_at d at_place ≡ Some o.class = k.in_class ∙ ap (λ (o : Object). Some o.class) same in
        let c = signal at_place e.signal in
        let r = raised_there d c in
        let there : is_channel d c ≡ true = signal_is_channel d at_place o.class e.signal s class has g.agenda.3.1.not_notify in
        let by_class : r.class_handler ≡ listed_if (class_handler_of d o.class s.name) = rw (class, has) refl in
        let staged : r.stages ≡ stages_of (Some s) = rw (class, has) refl in
        let plan = plan_price d a P t w (Beginning e ∷ rest) rest r e.object at_place e.signal o.class s e.detail paid g.agenda.3.1.fits.is (channels_known d a c there).known refl by_class staged in
        let is = channel_is d P t solves a c there in
        let none = no_turns at_place e.signal 0 d.bindings in
        let deed = done_is d P t (λ place. deeds.emit place e.signal ∷ []) (standing w.objects e.object) at_place g.agenda.3.1.fits.is in
        let was = ap (price_of (λ place. entry t.channels (signal place e.signal) + told_price P e place)) g.agenda.3.1.fits.is in
        let next = emitting_is d P t solves w rest e (emission_plan d w s o.class e) at_place g.agenda.3.1.fits.is in
        steady d P t x (record w { transcript = l }) (Emitting e (emission_plan d w s o.class e) ∷ rest)
        (record { objects = refl; handlers = refl; last = refl; sources = refl; floating = omega arith; makes = omega arith; items = λ f. omega arith }) (omega (arith, plan, is, none, deed, was, next)) paid

    begun_emission : (s : Started) → beginning_emission d w e ≡ Ok s → Falls d P t x s.world (s.tasks ++ rest)
    unfolding beginning_emission signal_at
    begun_emission s h =
        let o = bound (object_at w.objects e.object) _ s h in
        let sig = bound (signal_at d o.0.class e.signal) _ s o.2 in
        let v = said d w (lines.emit e.object sig.0.name e.detail e.args) in
        let fit = only (all_fit (kind_fits (class_in w.objects) d.types) e.args sig.0.params) arms.Argument (starts v (Emitting e (emission_plan d w sig.0 o.0.class e) ∷ [])) s sig.2 in
        starts_to d P t x s _ _ (ok_is {E = Arm} _ s fit.1)
        (begin_falls o.0 sig.0 (known_is arms.Operand (living w.objects e.object) o.0 o.1) (known_is arms.Code (signal_of d o.0.class e.signal) sig.0 sig.1) _)

  pub beginning_pays : (e : Emission) (x : First d (Beginning e)) → StepPays d P t x (counted x.rest x.n (beginning_emission d x.w e))
  beginning_pays e x paid c h = let s = counted_is x.rest x.n _ c h in leads_to d P t x s.0 (suc x.n) c s.2 (begun_emission e x paid s.0 s.1)
