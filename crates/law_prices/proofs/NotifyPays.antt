-- Instructions that may notify: notify and thaw.
use Rattle.std.proofs.Common.{◌≡◌, refl, sym, ap, subst, ◌∙◌, ℕ, zero, suc, ◌+◌, ◌-◌, ◌≤◌, Bool, true, false, cond, List, [], ◌∷◌, ◌++◌, map, Some, Ok, arith}
use Rattle.std.specs.Prelude.{nat_eq, nat_lt, reverse}
use Rattle.std.proofs.lemmas.List.{reverse-append}
use Rattle.ui_machine.specs.declared.arm.Arm.{Arm}
use Rattle.ui_machine.specs.declared.arm.Arm.TheVariants as arms
use Rattle.ui_machine.specs.Seq.{total}
use Rattle.ui_machine.specs.Definition.{Definition}
use Rattle.ui_machine.specs.Definition.Lookups.{slot_of}
use Rattle.ui_machine.specs.Definition.Programs as words
use Rattle.ui_machine.specs.Definition.Properties.{is_readable}
use Rattle.ui_machine.specs.Instructions.Jumps.{past}
use Rattle.ui_machine.specs.Instructions.Objects.{thaw_notify}
use Rattle.ui_machine.specs.Instructions.Properties.{notify_from_program, slot_at, then_goes_on}
use Rattle.ui_machine.specs.Instructions.Registers.{goes_on, operand_in}
use Rattle.ui_machine.specs.Outcome.{After, ◌>>=◌}
use Rattle.ui_machine.specs.Rules.NotifyQueue.{frozen_less, less_frozen, queued, raised}
use Rattle.ui_machine.specs.Rules.Sets.{raising, spec_at}
use Rattle.ui_machine.specs.State.Config.{Left, Started, with_objects}
use Rattle.ui_machine.specs.State.Objects.{Object, Objects, changed, living, object_at, put}
use Rattle.ui_machine.specs.State.Tasks.{Notifying, Running, Task, Thawing}
use Rattle.law_typing.specs.Good.Builds.{is_for_builder}
use Rattle.law_typing.specs.Good.Standing.{Standing}
use Rattle.law_typing.specs.Graph.{over, paired_at}
use Rattle.law_typing.specs.Graph.Channels.{Channel, property}
use Rattle.law_typing.specs.Graph.Tables.{Tables, entry, greatest}
use Rattle.law_typing.specs.Laws.WellRead.{no_two}
use Rattle.law_typing.specs.Verdict.Accepted.{Accepted}
use Rattle.law_typing.specs.Rules.RegisterKinds.{kind_in, places}
use Rattle.law_typing.specs.Rules.Typing as typing
use Rattle.law_typing.proofs.Lists.{greatest_in, map_in}
use Rattle.law_steps.proofs.Instructed.Around.{Due, r, taken}
use Rattle.law_steps.proofs.Instructed.Inverse.{bound, known_is, only}
use Rattle.law_steps.proofs.Instructed.NotifyProofs.{put_itself, queued_more}
use Rattle.law_steps.proofs.Instructed.Typed.{changing_none_is}
use Rattle.law_prices.specs.Deeds.{PriceList}
use Rattle.law_prices.specs.Potential.{due_price, floating_price, object_price, queued_price, seen}
use Rattle.law_prices.specs.Prices.{SolvesPrices, all_over, late_price, node_price, over_price, price_of, waited_price}
use Rattle.law_prices.proofs.Nodes.{due_within, in_all_over, in_places, node_reached, queue_over}
use Rattle.law_prices.proofs.Pays.{PaidThere, Pays, in_front_is, ok_is, paid_in, quiet}
use Rattle.law_prices.proofs.RegisterPays.{InstructionPays}
use Rattle.law_prices.proofs.SendPays.{Operand, operand, property_operand, sends, slot_found, some_same}
use Rattle.law_prices.proofs.Sums.{cond_less_than, total_both, total_less, total_plus}
use Rattle.law_prices.proofs.Whole.{agenda_alike, objects_price, objects_put, standing_put}

-- ** lists

pub total_reverse : {A : Type 0} (f : A → ℕ) (xs : List A) → total f (reverse xs) ≡ total f xs
total_reverse f [] = refl
total_reverse f (x ∷ xs) =
    let back = ap (total f) (reverse-append (x ∷ []) xs) in
    let split = total_both f (reverse xs) (x ∷ []) in
    let h = total_reverse f xs in
    omega (arith, back, split, h)

-- ** what a raise leads to

pub raised_now : (os : Objects) (id slot : ℕ) (o : Object) → living os id ≡ Some o → nat_eq o.freezes 0 ≡ true → changed os id (raised slot) ≡ Ok (record { state = put os id (Some o); answer = true })
unfolding changed
raised_now os id slot o lives thawed = rw (lives, thawed) refl

pub raised_later : (os : Objects) (id slot : ℕ) (o : Object) → living os id ≡ Some o → nat_eq o.freezes 0 ≡ false →
    changed os id (raised slot) ≡ Ok (record { state = put os id (Some (record o { queue = queued o.queue slot })); answer = false })
unfolding changed
raised_later os id slot o lives frozen = rw (lives, frozen) refl

module _ (d : Definition) (P : PriceList) (t : Tables) where
  -- what waits carries no more than what waited
  pub queued_within : (making place slot : ℕ) → queued_price d P t making place slot ≤ waited_price d P t (property place slot)
  queued_within making place slot =
      let c = cond_less_than (nat_eq making 0) (over_price d P t (property place slot)) in omega (arith, c)

  pub queued_has : (making place slot : ℕ) → late_price d P (property place slot) + entry t.channels (property place slot) ≤ queued_price d P t making place slot
  queued_has making place slot = omega arith

  -- an object with one more notification that waits
  pub queued_object : (making slot : ℕ) (o : Object) → object_price d P t making (record o { queue = queued o.queue slot }) ≤ object_price d P t making o + queued_price d P t making o.place slot
  queued_object making slot o = let h = queued_more (queued_price d P t making o.place) o.queue slot in omega (arith, h)

  module _ (solves : SolvesPrices d P t) where
    -- ** notify

    module _ (object : ℕ) (name : List ℕ) (u : Due d (words.notify object name)) (paid : PaidThere u P t) (l : Left) (s : Started) (is : record { world = s.world; agenda = s.tasks ++ u.rest } ≡ l) (id slot : ℕ) (o : Operand u object id)
        (found : slot_of d o.o.class name ≡ Some slot) where
      abbrev c : Channel
      c = property o.o.place slot

      node : node_price d P t c ≤ greatest (node_price d P t) (over d (λ class. slot_of d class name) property (places d (kind_in (r u).ks object)))
      node =
          node_reached d P t u.a solves (λ class. slot_of d class name) property (places d (kind_in (r u).ks object)) o.o.place o.o.class slot
          (in_places d P t u.a solves (r u).ks object o.o.place o.o.class o.covered o.class_is) o.class_is found

      late : late_price d P c ≤ greatest (late_price d P) (all_over d (λ class. slot_of d class name) property (places d (kind_in (r u).ks object)))
      late =
          greatest_in (late_price d P) (all_over d (λ class. slot_of d class name) property (places d (kind_in (r u).ks object))) c
          (in_all_over d P t u.a solves (λ class. slot_of d class name) property (places d (kind_in (r u).ks object)) o.o.place o.o.class slot
          (in_places d P t u.a solves (r u).ks object o.o.place o.o.class o.covered o.class_is) o.class_is found)

      abbrev waits : Object
      waits = record o.o { queue = queued o.o.queue slot }

      of_raise : (thawed : Bool) (raise : After Objects Bool) → nat_eq o.o.freezes 0 ≡ thawed → record { state = put u.w.objects id (Some (cond thawed o.o waits)); answer = thawed } ≡ raise →
          record { world = with_objects u.w raise.state; tasks = cond raise.answer (Notifying id slot ∷ []) [] ++ Running (past u.f) ∷ [] } ≡ s → Pays u P t l
      of_raise true raise e made leads =
          let os : u.w.objects ≡ raise.state = sym (put_itself u.w.objects id o.o o.lives) ∙ ap (λ (x : After Objects Bool). x.state) made in
          let answer : true ≡ raise.answer = ap (λ (x : After Objects Bool). x.answer) made in
          let due = due_within d P t (Running (past u.f) ∷ u.rest) c in
          let at = ap (price_of (λ place. due_price d P t (Running (past u.f) ∷ u.rest) (property place slot))) o.at in
          let n = node in
          subst (Pays u P t)
          (ap (λ os. record { world = with_objects u.w os; agenda = Notifying id slot ∷ Running (past u.f) ∷ u.rest }) os
          ∙ (ap (λ b. record { world = with_objects u.w raise.state; agenda = (cond b (Notifying id slot ∷ []) [] ++ Running (past u.f) ∷ []) ++ u.rest }) answer
          ∙ (ap (λ (s : Started). record { world = s.world; agenda = s.tasks ++ u.rest }) leads ∙ is)))
          (sends d P t u paid (past u.f) refl (Notifying id slot) refl (λ f. refl) (omega (arith, n, due, at)))
      of_raise false raise e made leads =
          let os : put u.w.objects id (Some waits) ≡ raise.state = ap (λ (x : After Objects Bool). x.state) made in
          let answer : false ≡ raise.answer = ap (λ (x : After Objects Bool). x.answer) made in
          let making = total is_for_builder (Running (past u.f) ∷ u.rest) in
          let costs = objects_put d P t making id u.w.objects o.o waits o.lives in
          let one = queued_object making slot o.o in
          let most = queued_within making o.o.place slot in
          let n = node in
          let l1 = late in
          let v = with_objects u.w (put u.w.objects id (Some waits)) in
          let alike = agenda_alike d P t (seen u.w) (seen v) u.rest (standing_put u.w.objects id o.o waits o.lives refl) refl refl in
          let fs = ap (λ (s : Standing). floating_price d P s u.w.floating) (standing_put u.w.objects id o.o waits o.lives refl) in
          subst (Pays u P t)
          (ap (λ os. record { world = with_objects u.w os; agenda = Running (past u.f) ∷ u.rest }) os
          ∙ (ap (λ b. record { world = with_objects u.w raise.state; agenda = (cond b (Notifying id slot ∷ []) [] ++ Running (past u.f) ∷ []) ++ u.rest }) answer
          ∙ (ap (λ (s : Started). record { world = s.world; agenda = s.tasks ++ u.rest }) leads ∙ is)))
          (record {
            falls = omega (arith, costs, one, most, n, l1, alike, fs);
            paid = paid_in d u.a u.w v (Running u.f ∷ u.rest) (Running (past u.f) ∷ u.rest) (standing_put u.w.objects id o.o waits o.lives refl) refl refl (λ f. omega arith) paid;
          })

      by_raising : (x : Started) → raising u.w id slot ≡ Ok x → goes_on x.world x.tasks (past u.f) ≡ Ok s → Pays u P t l
      unfolding raising
      by_raising x e leads =
          let raise = bound (changed u.w.objects id (raised slot)) _ x e in
          let at = ok_is {E = Arm} _ x raise.2 in
          let to_s = ap (λ (x : Started). record { world = x.world; tasks = x.tasks ++ Running (past u.f) ∷ [] }) at ∙ ok_is {E = Arm} _ s leads in
          by (nat_eq o.o.freezes 0) refl raise.0 raise.1 to_s
        where
          by : (thawed : Bool) → nat_eq o.o.freezes 0 ≡ thawed → (raise : After Objects Bool) → changed u.w.objects id (raised slot) ≡ Ok raise →
              record { world = with_objects u.w raise.state; tasks = cond raise.answer (Notifying id slot ∷ []) [] ++ Running (past u.f) ∷ [] } ≡ s → Pays u P t l
          by true thawed raise e to_s = of_raise true raise thawed (ok_is {E = Arm} _ raise (sym (raised_now u.w.objects id slot o.o o.lives thawed) ∙ e)) to_s
          by false thawed raise e to_s = of_raise false raise thawed (ok_is {E = Arm} _ raise (sym (raised_later u.w.objects id slot o.o o.lives thawed) ∙ e)) to_s

      go : (readable : Bool) → cond readable (then_goes_on (past u.f) (raising u.w id slot)) (goes_on u.w [] (past u.f)) ≡ Ok s → Pays u P t l
      unfolding then_goes_on
      go true e = let x = bound (raising u.w id slot) _ s e in by_raising x.0 x.1 x.2
      go false e =
          subst (Pays u P t) (ap (λ (s : Started). record { world = s.world; agenda = s.tasks ++ u.rest }) (ok_is {E = Arm} _ s e) ∙ is)
          (quiet u P t u.w (record { objects = refl; handlers = refl; last = refl; sources = refl; floating = omega arith }) (past u.f) (omega arith) refl paid)

    notified_is : (object : ℕ) (name : List ℕ) (u : Due d (words.notify object name)) → PaidThere u P t → (l : Left) → (s : Started) → notify_from_program d u.w (past u.f) object name ≡ Ok s →
        record { world = s.world; agenda = s.tasks ++ u.rest } ≡ l → Pays u P t l
    unfolding notify_from_program
    notified_is object name u paid l s e is =
        let id = bound (operand_in u.w (past u.f) object) _ s e in
        let slot = bound (slot_at d u.w id.0 name) _ s id.2 in
        let spec = bound (spec_at d u.w.objects id.0 slot.0) _ s slot.2 in
        let x = changing_none_is (r u).ks (typing.property_of d (r u).ks object name) _ (taken u).typed in
        let class = property_operand d (r u).ks object name x.0 x.1 in
        let o = operand u object class.0 id.0 class.1 id.1 in
        go object name u paid l s is id.0 slot.0 o (slot_found d u.w id.0 slot.0 name o.o o.lives slot.1) (is_readable spec.0) spec.2

    pub notify_pays : (object : ℕ) (name : List ℕ) → InstructionPays d P t (words.notify object name)
    notify_pays object name u paid l e = let x = in_front_is u.rest _ l e in notified_is object name u paid l x.0 x.1 x.2

    -- ** thaw

    -- all that waits is within what waited and what the thaw pays over pairs
    thaw_cheap : (below : List Task) (making place : ℕ) (queue : List ℕ) → no_two nat_eq queue ≡ true → (a : Accepted d) →
        total (λ slot. late_price d P (property place slot) + due_price d P t below (property place slot)) (reverse queue)
        ≤ total (queued_price d P t making place) queue + total (waited_price d P t) (paired_at d place)
    thaw_cheap below making place queue apart a =
        let f = λ (slot : ℕ). late_price d P (property place slot) + due_price d P t below (property place slot) in
        let back = total_reverse f queue in
        let less = total_less f (λ slot. queued_price d P t making place slot + over_price d P t (property place slot)) queue
        (λ slot. (let due = due_within d P t below (property place slot) in let q = queued_has making place slot in omega (arith, due, q))) in
        let split = total_plus (queued_price d P t making place) (λ slot. over_price d P t (property place slot)) queue in
        let over = queue_over d P t a solves place queue apart in
        omega (arith, back, less, split, over)

    module _ (object : ℕ) (u : Due d (words.thaw object)) (paid : PaidThere u P t) (id : ℕ) (o : Operand u object id) (apart : no_two nat_eq o.o.queue ≡ true) where
      -- what the thaw leaves of the object, and what it notifies
      thawed_pays : (n : ℕ) → Pays u P t (record { world = with_objects u.w (put u.w.objects id (Some (less_frozen n o.o).state)); agenda = Thawing id (less_frozen n o.o).answer ∷ Running (past u.f) ∷ u.rest })
      thawed_pays n =
          let new = (less_frozen n o.o).state in
          let v = with_objects u.w (put u.w.objects id (Some new)) in
          let making = total is_for_builder (Running (past u.f) ∷ u.rest) in
          let stands = standing_put u.w.objects id o.o new o.lives (place_kept n) in
          let costs = objects_put d P t making id u.w.objects o.o new o.lives in
          let alike = agenda_alike d P t (seen u.w) (seen v) u.rest stands refl refl in
          let fs = ap (λ (s : Standing). floating_price d P s u.w.floating) stands in
          let here = ap (λ (s : Standing). s id) stands ∙ o.at in
          let at = ap (price_of (λ place. total (λ slot. late_price d P (property place slot) + due_price d P t (Running (past u.f) ∷ u.rest) (property place slot)) (less_frozen n o.o).answer)) here in
          let cheap = notified n making in
          let made : total is_for_builder (Thawing id (less_frozen n o.o).answer ∷ Running (past u.f) ∷ u.rest) ≡ making = omega arith in
          let os = ap (λ m. objects_price d P t m v.objects) made in
          record {
            falls = omega (arith, costs, alike, fs, at, cheap, os);
            paid = paid_in d u.a u.w v (Running u.f ∷ u.rest) (Thawing id (less_frozen n o.o).answer ∷ Running (past u.f) ∷ u.rest) stands refl refl (λ f. omega arith) paid;
          }
        where
          place_kept : (n : ℕ) → (less_frozen n o.o).state.place ≡ o.o.place
          place_kept zero = refl
          place_kept (suc n) = refl

          most : total (waited_price d P t) (paired_at d o.o.place) ≤ greatest (λ cs. total (waited_price d P t) cs) (map (paired_at d) (places d (kind_in (r u).ks object)))
          most =
              greatest_in (λ cs. total (waited_price d P t) cs) (map (paired_at d) (places d (kind_in (r u).ks object))) (paired_at d o.o.place)
              (map_in (paired_at d) (places d (kind_in (r u).ks object)) o.o.place (in_places d P t u.a solves (r u).ks object o.o.place o.o.class o.covered o.class_is))

          notified : (n making : ℕ) →
              total (λ slot. late_price d P (property o.o.place slot) + due_price d P t (Running (past u.f) ∷ u.rest) (property o.o.place slot)) (less_frozen n o.o).answer + object_price d P t making (less_frozen n o.o).state
              ≤ greatest (λ cs. total (waited_price d P t) cs) (map (paired_at d) (places d (kind_in (r u).ks object))) + object_price d P t making o.o
          notified zero making = let c = thaw_cheap (Running (past u.f) ∷ u.rest) making o.o.place o.o.queue apart u.a in let m = most in omega (arith, c, m)
          notified (suc n) making = omega arith

    thawed_is : (object : ℕ) (u : Due d (words.thaw object)) → PaidThere u P t → (l : Left) → (s : Started) → thaw_notify u.w (past u.f) object ≡ Ok s → record { world = s.world; agenda = s.tasks ++ u.rest } ≡ l → Pays u P t l
    unfolding thaw_notify changed typing.changing_none
    thawed_is object u paid l s e is =
        let id = bound (operand_in u.w (past u.f) object) _ s e in
        let thaw = bound (changed u.w.objects id.0 frozen_less) _ s id.2 in
        let x = bound (object_at u.w.objects id.0) (λ (o : Object). frozen_less o >>= (λ (new : After Object (List ℕ)). Ok (record { state = put u.w.objects id.0 (Some new.state); answer = new.answer }))) thaw.0 thaw.1 in
        let new = bound (frozen_less x.0) (λ (new : After Object (List ℕ)). Ok (record { state = put u.w.objects id.0 (Some new.state); answer = new.answer })) thaw.0 x.2 in
        let k = only (nat_lt 0 x.0.freezes) arms.Freeze (Ok (less_frozen (x.0.freezes - 1) x.0)) new.0 new.1 in
        let class = changing_none_is (r u).ks (typing.operand d (r u).ks object) _ (taken u).typed in
        let o = operand u object class.0 id.0 class.1 id.1 in
        let lives = known_is _ (living u.w.objects id.0) x.0 x.1 in
        let same : x.0 ≡ o.o = some_same x.0 o.o (sym lives ∙ o.lives) in
        let made : less_frozen (x.0.freezes - 1) o.o ≡ new.0 = ap (less_frozen (x.0.freezes - 1)) (sym same) ∙ ok_is {E = Arm} _ new.0 k.1 in
        let after = ok_is {E = Arm} _ thaw.0 new.2 in
        let whole : record { state = put u.w.objects id.0 (Some (less_frozen (x.0.freezes - 1) o.o).state); answer = (less_frozen (x.0.freezes - 1) o.o).answer } ≡ thaw.0 =
        ap (λ (new : After Object (List ℕ)). record { state = put u.w.objects id.0 (Some new.state); answer = new.answer }) made ∙ after in
        let good = u.g.objects id.0 o.o o.lives in
        subst (Pays u P t)
        (ap (λ (x : After Objects (List ℕ)). record { world = with_objects u.w x.state; agenda = Thawing id.0 x.answer ∷ Running (past u.f) ∷ u.rest }) whole
        ∙ (ap (λ (s : Started). record { world = s.world; agenda = s.tasks ++ u.rest }) (ok_is {E = Arm} _ s thaw.2) ∙ is))
        (thawed_pays object u paid id.0 o good.apart (x.0.freezes - 1))

    pub thaw_pays : (object : ℕ) → InstructionPays d P t (words.thaw object)
    thaw_pays object u paid l e = let x = in_front_is u.rest _ l e in thawed_is object u paid l x.0 x.1 x.2
