-- Tasks that hand a result down: an emission that ends, and a call that is answered.
use Rattle.std.proofs.Common.{◌≡◌, refl, sym, ap, subst, ◌∙◌, ℕ, ◌+◌, ◌≤◌, Bool, true, false, cond, List, [], ◌∷◌, Option, None, Some, Ok, arith}
use Rattle.std.specs.Prelude.{option_map}
use Rattle.ui_machine.specs.declared.arm.Arm.{Arm}
use Rattle.ui_machine.specs.declared.arm.Arm.TheVariants as arms
use Rattle.ui_machine.specs.Seq.{total}
use Rattle.ui_machine.specs.Definition.{Definition}
use Rattle.ui_machine.specs.Definition.Places.{Place}
use Rattle.ui_machine.specs.Definition.Values.{Value}
use Rattle.ui_machine.specs.Instructions.Peers.{call_line, called, calling_on, left_with, replied, uncalled, with_method}
use Rattle.ui_machine.specs.Instructions.Registers.{with_register}
use Rattle.ui_machine.specs.Outcome.{Answer, known}
use Rattle.ui_machine.specs.Output.Lines as lines
use Rattle.ui_machine.specs.Rules.Accumulation.{ending, or_zero, passed_down, received, received_by, resulting, taken, told}
use Rattle.ui_machine.specs.Rules.Build.{of_items}
use Rattle.ui_machine.specs.Rules.Construction.{nearest_shape}
use Rattle.ui_machine.specs.Rules.Transform.{zero_value}
use Rattle.ui_machine.specs.State.Config.{Config, Left, World, is_asked, peer_at, said, with_peer_state}
use Rattle.ui_machine.specs.State.Objects.{Object, class_in, living}
use Rattle.ui_machine.specs.State.Peers.{Peer, Reply, method_of}
use Rattle.ui_machine.specs.State.Tasks.{Answering, Beginning, Building, Call, Calling, Constructing, Due, Emission, Emitting, Frame, Handling, Item, Notifying, Registers, Running, Setting, Task, Thawing, Transferring, Unsetting}
use Rattle.ui_machine.specs.Steps.{left}
use Rattle.law_typing.specs.Good.Builds.{is_for_builder}
use Rattle.law_typing.specs.Good.Standing.{standing}
use Rattle.law_typing.specs.Rules.RegisterKinds.{class_at}
use Rattle.law_typing.specs.Graph.Tables.{Tables}
use Rattle.law_steps.proofs.Instructed.Inverse.{bound}
use Rattle.law_steps.proofs.Kept.NewProofs.{at_place}
use Rattle.law_steps.proofs.Tasked.First.{First}
use Rattle.law_prices.specs.Deeds.{Deed, PriceList}
use Rattle.law_prices.specs.Deeds as deeds
use Rattle.law_prices.specs.Potential.{Seen, agenda_price, seen, told_price}
use Rattle.law_prices.specs.Prices.{SolvesPrices, answer_price, price_of, shape_at, shape_number}
use Rattle.law_prices.specs.Steps.{answer_deeds, end_deeds}
use Rattle.law_prices.proofs.EasyTasks.{StepPays, emitting_is}
use Rattle.law_prices.proofs.Pays.{ok_is}
use Rattle.law_prices.proofs.TaskFalls.{Falls, PaidHere, done_is, left_is, steady}

-- an agenda that costs as much as another and builds as much
record Alike (d : Definition) (P : PriceList) (t : Tables) (rest agenda : List Task) : Type 0 where
  pub price : (w : Seen) → agenda_price d P t w agenda ≡ agenda_price d P t w rest
  pub makes : total is_for_builder agenda ≡ total is_for_builder rest
  pub items : (f : Item → ℕ) → total (of_items f) agenda ≡ total (of_items f) rest

module _ (d : Definition) (P : PriceList) (t : Tables) where
  itself : (rest agenda : List Task) → ◌≡◌ {A = Answer (List Task)} (Ok rest) (Ok agenda) → Alike d P t rest agenda
  itself rest agenda e = subst (Alike d P t rest) (ok_is {E = Arm} rest agenda e) (record { price = λ w. refl; makes = refl; items = λ f. refl })

  received_alike : (f : Frame) (rest : List Task) (to : ℕ) (v : Option Value) (agenda : List Task) → received_by f rest to v ≡ Ok agenda → Alike d P t (Running f ∷ rest) agenda
  unfolding received_by
  received_alike f rest to v agenda e =
      let b = bound (with_register to v f.registers) (λ (new : Registers). Ok (Running (record f { into = None; registers = new }) ∷ rest)) agenda e in
      subst (Alike d P t (Running f ∷ rest)) (ok_is {E = Arm} (Running (record f { into = None; registers = b.0 }) ∷ rest) agenda b.2) (record { price = λ w. refl; makes = refl; items = λ f. refl })

  taken_alike : (into : Option ℕ) (f : Frame) (rest : List Task) (v : Option Value) (agenda : List Task) → taken into f rest v ≡ Ok agenda → Alike d P t (Running f ∷ rest) agenda
  taken_alike None f rest v agenda e = itself (Running f ∷ rest) agenda e
  taken_alike (Some to) f rest None agenda e = absurd (cc)
  taken_alike (Some to) f rest (Some v) agenda e = received_alike f rest to (Some v) agenda e

  passed_alike : (rest : List Task) (v : Option Value) (agenda : List Task) → passed_down rest v ≡ Ok agenda → Alike d P t rest agenda
  passed_alike (Running f ∷ rest) v agenda e = taken_alike f.into f rest v agenda e
  passed_alike [] v agenda e = itself [] agenda e
  passed_alike (Setting id slot x ∷ rest) v agenda e = itself (Setting id slot x ∷ rest) agenda e
  passed_alike (Notifying id slot ∷ rest) v agenda e = itself (Notifying id slot ∷ rest) agenda e
  passed_alike (Beginning x ∷ rest) v agenda e = itself (Beginning x ∷ rest) agenda e
  passed_alike (Emitting x turns ∷ rest) v agenda e = itself (Emitting x turns ∷ rest) agenda e
  passed_alike (Transferring number back ∷ rest) v agenda e = itself (Transferring number back ∷ rest) agenda e
  passed_alike (Unsetting number ∷ rest) v agenda e = itself (Unsetting number ∷ rest) agenda e
  passed_alike (Thawing id slots ∷ rest) v agenda e = itself (Thawing id slots ∷ rest) agenda e
  passed_alike (Answering source ∷ rest) v agenda e = itself (Answering source ∷ rest) agenda e
  passed_alike (Calling call ∷ rest) v agenda e = itself (Calling call ∷ rest) agenda e
  passed_alike (Constructing id steps held ∷ rest) v agenda e = itself (Constructing id steps held ∷ rest) agenda e
  passed_alike (Building items ∷ rest) v agenda e = itself (Building items ∷ rest) agenda e
  passed_alike (Handling request ∷ rest) v agenda e = itself (Handling request ∷ rest) agenda e
  passed_alike (Due source ∷ rest) v agenda e = itself (Due source ∷ rest) agenda e

  answered_alike : (rest : List Task) (to : ℕ) (v : Option Value) (agenda : List Task) → received rest to v ≡ Ok agenda → Alike d P t rest agenda
  answered_alike (Running f ∷ rest) to v agenda e = received_alike f rest to v agenda e
  answered_alike [] to v agenda e = absurd (cc)
  answered_alike (Setting id slot x ∷ rest) to v agenda e = absurd (cc)
  answered_alike (Notifying id slot ∷ rest) to v agenda e = absurd (cc)
  answered_alike (Beginning x ∷ rest) to v agenda e = absurd (cc)
  answered_alike (Emitting x turns ∷ rest) to v agenda e = absurd (cc)
  answered_alike (Transferring number back ∷ rest) to v agenda e = absurd (cc)
  answered_alike (Unsetting number ∷ rest) to v agenda e = absurd (cc)
  answered_alike (Thawing id slots ∷ rest) to v agenda e = absurd (cc)
  answered_alike (Answering source ∷ rest) to v agenda e = absurd (cc)
  answered_alike (Calling call ∷ rest) to v agenda e = absurd (cc)
  answered_alike (Constructing id steps held ∷ rest) to v agenda e = absurd (cc)
  answered_alike (Building items ∷ rest) to v agenda e = absurd (cc)
  answered_alike (Handling request ∷ rest) to v agenda e = absurd (cc)
  answered_alike (Due source ∷ rest) to v agenda e = absurd (cc)

  left_at : {task : Task} (x : First d task) (l : Left) (e : Config) → record { world = l.world; agenda = l.agenda; counted = x.n } ≡ e → Falls d P t x l.world l.agenda → Falls d P t x e.world e.agenda
  left_at x l e is falls = subst (λ (e : Config). Falls d P t x e.world e.agenda) is falls

  -- ** an emission ends

  told_only : (w : World) (by_event : Bool) (v : Option Value) → (lines : List (List ℕ)) × (value : Option Value) × (told d w by_event v ≡ record w { transcript = lines; result = value })
  told_only w by_event None = (w.transcript, w.result, refl)
  told_only w false (Some v) = (w.transcript, w.result, refl)
  told_only w true (Some v) = ((said d w (lines.result v)).transcript, Some v, refl)

  end_is : (e : Emission) (place : ℕ) → total P (end_deeds e place) ≡ P (deeds.end place e.signal) + told_price P e place
  end_is e place = go e.by_event
    where
      go : (b : Bool) → total P (deeds.end place e.signal ∷ cond b (deeds.tell place e.signal ∷ []) []) ≡ P (deeds.end place e.signal) + cond b (P (deeds.tell place e.signal)) 0
      go true = omega arith
      go false = omega arith

  module _ (solves : SolvesPrices d P t) where
    pub ending_pays : (em : Emission) (x : First d (Emitting em [])) → StepPays d P t x (left x.n (ending d x.w em x.rest))
    unfolding ending
    ending_pays em x paid e h =
        let l = left_is x.n (ending d x.w em x.rest) e h in
        let v = bound (resulting d x.w em) _ l.0 l.1 in
        let agenda = bound (passed_down x.rest v.0) _ l.0 v.2 in
        let alike = passed_alike x.rest v.0 agenda.0 agenda.1 in
        let told = told_only x.w em.by_event v.0 in
        let same = ap (λ (w : World). record { world = w; agenda = agenda.0 }) (sym told.2) ∙ ok_is {E = Arm} _ l.0 agenda.2 in
        let place = x.g.agenda.3.fits.place in
        let is = x.g.agenda.3.fits.is in
        let deed = done_is d P t (end_deeds em) (standing x.w.objects em.object) place is in
        let was = emitting_is d P t solves x.w x.rest em [] place is in
        let end = end_is em place in
        let price = alike.price (seen x.w) in
        let makes = alike.makes in
        left_at x l.0 e l.2
        (subst (λ (l : Left). Falls d P t x l.world l.agenda) same
        (steady d P t x (record x.w { transcript = told.0; result = told.1 }) agenda.0
        (record { objects = refl; handlers = refl; last = refl; sources = refl; floating = omega arith; makes = omega (arith, makes); items = λ f. (let items = alike.items f in omega (arith, items)) })
        (omega (arith, deed, was, end, price)) paid))

  -- ** a call is answered

  answer_is : (w : World) (call : Call) (o : Object) → living w.objects call.object ≡ Some o → class_at d o.place ≡ Some o.class → total P (answer_deeds d w call) ≤ answer_price d P o.place call.method
  answer_is w call o lives class =
      let in_class : class_in w.objects call.object ≡ Some o.class = ap (option_map (λ (o : Object). o.class)) lives in
      let deed = done_is d P t (λ class. deeds.answer (shape_number d (nearest_shape d class)) call.method ∷ []) (class_in w.objects call.object) o.class in_class in
      let shape : shape_at d o.place ≡ nearest_shape d o.class = rw class in
      let price = ap (λ s. P (deeds.answer (shape_number d s) call.method)) shape in
      omega (arith, deed, price)

  module _ (call : Call) (x : First d (Calling call)) (paid : PaidHere d P t x) where
    open x use {a, w, rest, n, g}

    -- the program goes on, in a world with another peer
    goes_on : (peers : List Peer) (line : List (List ℕ)) (agenda : List Task) → Alike d P t rest agenda → Falls d P t x (record w { peers = peers; transcript = line }) agenda
    goes_on peers line agenda alike =
        let place = g.agenda.3.1.lives in
        let o = at_place w.objects call.object place.place place.is in
        let good = g.objects call.object o.0 o.1 in
        let at : class_at d o.0.place ≡ Some good.place.class = ap (option_map (λ (p : Place). p.class)) good.is in
        let class = at ∙ ap Some (sym good.class) in
        let deed = answer_is w call o.0 o.1 class in
        let was = ap (price_of (λ place. answer_price d P place call.method)) place.is in
        let here = ap (λ place. answer_price d P place call.method) o.2 in
        let price = alike.price (seen w) in
        let makes = alike.makes in
        steady d P t x (record w { peers = peers; transcript = line }) agenda
        (record { objects = refl; handlers = refl; last = refl; sources = refl; floating = omega arith; makes = omega (arith, makes); items = λ f. (let items = alike.items f in omega (arith, items)) })
        (omega (arith, deed, was, here, price)) paid

    with_answer : (peers : List Peer) (line : List (List ℕ)) (v : Value) (l : Left) → left_with (record w { peers = peers; transcript = line }) rest call.to v ≡ Ok l → Falls d P t x l.world l.agenda
    unfolding left_with
    with_answer peers line v l e =
        let b = bound (received rest call.to (Some v)) _ l e in
        let same = ok_is {E = Arm} (record { world = record w { peers = peers; transcript = line }; agenda = b.0 }) l b.2 in
        subst (λ (l : Left). Falls d P t x l.world l.agenda) same (goes_on peers line b.0 (answered_alike rest call.to (Some v) b.0 b.1))

    is_called : (reply : Reply) (l : Left) → called d w call rest reply ≡ Ok l → Falls d P t x l.world l.agenda
    unfolding called with_method
    is_called reply l e =
        let p = bound (known arms.Call (peer_at w call.peer)) _ l e in
        let m = bound (known arms.Call (method_of p.0 call.method)) _ l p.2 in
        let v = said d (with_peer_state w call.peer p.0 reply.state) (call_line p.0 m.0 call.args reply.answer) in
        with_answer v.peers v.transcript (or_zero d m.0.result reply.answer) l m.2

    is_closed : (l : Left) → uncalled d w call rest ≡ Ok l → Falls d P t x l.world l.agenda
    unfolding uncalled with_method
    is_closed l e =
        let p = bound (known arms.Call (peer_at w call.peer)) _ l e in
        let m = bound (known arms.Call (method_of p.0 call.method)) _ l p.2 in
        let v = said d w (lines.closed p.0.name m.0.name call.args) in
        with_answer v.peers v.transcript (zero_value d.types m.0.result) l m.2

    by_reply : (reply : Option Reply) (l : Left) → replied d w call rest reply ≡ Ok l → Falls d P t x l.world l.agenda
    by_reply None l e = absurd (cc)
    by_reply (Some reply) l e = is_called reply l e

    by_peer : (asked : Bool) (reply : Option Reply) (l : Left) → cond asked (replied d w call rest reply) (uncalled d w call rest) ≡ Ok l → Falls d P t x l.world l.agenda
    by_peer true reply l e = by_reply reply l e
    by_peer false reply l e = is_closed l e

  pub calling_pays : (call : Call) (x : First d (Calling call)) → StepPays d P t x (left x.n (calling_on d x.w call x.rest x.reply))
  calling_pays call x paid e h =
      let l = left_is x.n (calling_on d x.w call x.rest x.reply) e h in
      left_at x l.0 e l.2 (by_peer call x paid (is_asked x.w call.peer) x.reply l.0 l.1)
