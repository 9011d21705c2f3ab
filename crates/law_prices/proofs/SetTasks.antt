-- A due set: the value is refused or written, and the notification is made, waits, or is not raised.
use Rattle.std.proofs.Common.{◌≡◌, refl, sym, ap, ◌∙◌, ℕ, zero, suc, ◌+◌, ◌<◌, ◌≤◌, Bool, true, false, cond, List, [], ◌∷◌, ◌++◌, Some, Ok, arith}
use Rattle.std.specs.Prelude.{nat_eq, ◌&&◌, ◌||◌, slice_set}
use Rattle.std.proofs.lemmas.Bool.{eqb-false, eq-eqb}
use Rattle.ui_machine.specs.declared.arm.Arm.{Arm}
use Rattle.ui_machine.specs.declared.arm.Arm.TheVariants as arms
use Rattle.ui_machine.specs.Seq.{total}
use Rattle.ui_machine.specs.Definition.{Definition}
use Rattle.ui_machine.specs.Definition.Properties.{Spec, is_lax}
use Rattle.ui_machine.specs.Definition.Values.{Value}
use Rattle.ui_machine.specs.Outcome.{After}
use Rattle.ui_machine.specs.Output.Lines as lines
use Rattle.ui_machine.specs.Output.Text.{text_of_line}
use Rattle.ui_machine.specs.Rules.NotifyQueue.{queued, raised}
use Rattle.ui_machine.specs.Rules.Sets.{has_kind, lives, notifies, raising, raising_if, setting, settled, spec_at, without_disposed, written}
use Rattle.ui_machine.specs.Rules.Transform.{same_value}
use Rattle.ui_machine.specs.Rules.Validation.{clamp}
use Rattle.ui_machine.specs.State.Config.{Started, World, said, starts, with_objects}
use Rattle.ui_machine.specs.State.Objects.{Object, Objects, changed, class_in, living, object_at, put, value_at, with_value}
use Rattle.ui_machine.specs.State.Tasks.{Answering, Beginning, Building, Calling, Constructing, Due, Emitting, Handling, Notifying, Running, Setting, Task, Thawing, Transferring, Unsetting}
use Rattle.ui_machine.specs.Steps.{uncounted}
use Rattle.law_typing.specs.Good.Builds.{is_for_builder}
use Rattle.law_typing.specs.Good.DueCosts.{unsets}
use Rattle.law_typing.specs.Good.Freezes.{is_carrying_over}
use Rattle.law_typing.specs.Good.Standing.{standing}
use Rattle.law_typing.specs.Graph.Channels.{Channel, property}
use Rattle.law_typing.specs.Graph.Tables.{Tables}
use Rattle.law_steps.proofs.Instructed.Inverse.{bound, known_is, only}
use Rattle.law_steps.proofs.Instructed.NotifyProofs.{put_itself}
use Rattle.law_steps.proofs.Kept.NewProofs.{at_place}
use Rattle.law_steps.proofs.Kept.WriteProofs.{find_here}
use Rattle.law_steps.proofs.Tasked.First.{First}
use Rattle.law_prices.specs.Deeds.{PriceList}
use Rattle.law_prices.specs.Deeds as deeds
use Rattle.law_prices.specs.Potential.{due_pair, due_price, queued_price, seen, task_price}
use Rattle.law_prices.specs.Prices.{late_price, node_price, over_price, pair_price, price_of, put_price}
use Rattle.law_prices.specs.Steps.{done_by}
use Rattle.law_prices.proofs.EasyTasks.{StepPays}
use Rattle.law_prices.proofs.NotifyPays.{queued_object, raised_later, raised_now}
use Rattle.law_prices.proofs.Pays.{ok_is}
use Rattle.law_prices.proofs.SendPays.{some_same}
use Rattle.law_prices.proofs.Sums.{by_number_same}
use Rattle.law_prices.proofs.TaskFalls.{Falls, PaidHere, done_is, leads_to, moved, starts_to, steady, uncounted_is}
use Rattle.law_prices.proofs.Whole.{objects_price, objects_put, standing_put}

-- ** what the machine does

-- what a raise leads to: the notification at once, or later
pub data Raises (v : World) (id slot : ℕ) (o : Object) (s : Started) : Type 0 where
  now : record { world = v; tasks = Notifying id slot ∷ [] } ≡ s → Raises v id slot o s
  later : record { world = with_objects v (put v.objects id (Some (record o { queue = queued o.queue slot }))); tasks = [] } ≡ s → Raises v id slot o s

pub raises_is : (v : World) (id slot : ℕ) (o : Object) (s : Started) → living v.objects id ≡ Some o → raising v id slot ≡ Ok s → Raises v id slot o s
unfolding raising
raises_is v id slot o s lives e =
    let raise = bound (changed v.objects id (raised slot)) _ s e in
    go (nat_eq o.freezes 0) refl raise.0 raise.1 (ok_is {E = Arm} _ s raise.2)
  where
    go : (thawed : Bool) → nat_eq o.freezes 0 ≡ thawed → (raise : After Objects Bool) → changed v.objects id (raised slot) ≡ Ok raise →
        record { world = with_objects v raise.state; tasks = cond raise.answer (Notifying id slot ∷ []) [] } ≡ s → Raises v id slot o s
    go true thawed raise e is =
        let made = ok_is {E = Arm} _ raise (sym (raised_now v.objects id slot o lives thawed) ∙ e) in
        now
        (ap (λ os. record { world = with_objects v os; tasks = Notifying id slot ∷ [] }) (sym (put_itself v.objects id o lives))
        ∙ (ap (λ (x : After Objects Bool). record { world = with_objects v x.state; tasks = cond x.answer (Notifying id slot ∷ []) [] }) made ∙ is))
    go false frozen raise e is =
        let made = ok_is {E = Arm} _ raise (sym (raised_later v.objects id slot o lives frozen) ∙ e) in
        later (ap (λ (x : After Objects Bool). record { world = with_objects v x.state; tasks = cond x.answer (Notifying id slot ∷ []) [] }) made ∙ is)

-- a value is written into an object
writes_is : (os : Objects) (id slot : ℕ) (v : Value) (o : Object) (write : After Objects Value) → living os id ≡ Some o → changed os id (with_value slot v) ≡ Ok write →
    (vs : List Value) × (put os id (Some (record o { values = vs })) ≡ write.state)
unfolding changed with_value
writes_is os id slot v o write lives e =
    let x = bound (object_at os id) _ write e in
    let same : x.0 ≡ o = some_same x.0 o (sym (known_is arms.Operand (living os id) x.0 x.1) ∙ lives) in
    let new = bound (with_value slot v x.0) (λ (new : After Object Value). Ok (record { state = put os id (Some new.state); answer = new.answer })) write x.2 in
    let old = bound (value_at slot x.0) (λ (old : Value). Ok (record { state = record x.0 { values = slice_set x.0.values slot v }; answer = old })) new.0 new.1 in
    let made = ok_is {E = Arm} _ new.0 old.2 in (
      slice_set x.0.values slot v,
      ap (λ (o : Object). put os id (Some (record o { values = slice_set x.0.values slot v }))) (sym same)
          ∙ (ap (λ (x : After Object Value). put os id (Some x.state)) made ∙ ap (λ (x : After Objects Value). x.state) (ok_is {E = Arm} _ write new.2)),
    )

module _ (d : Definition) (P : PriceList) (t : Tables) where
  -- ** what is due

  -- where nothing is to be set free below, all of the node is due
  pub free_due : (below : List Task) (c : Channel) → ((n : ℕ) → total (unsets n) below ≡ 0) → due_price d P t below c ≡ node_price d P t c
  free_due below c none =
      let h = by_number_same (due_pair d P t below c) (pair_price d P t c) 0 d.bindings (λ n b. ap (λ f. cond f (pair_price d P t c n b) 0) (eq-eqb (total (unsets n) below) 0 (none n))) in
      omega (arith, h)

  unsets_few : (n : ℕ) (below : List Task) → total (unsets n) below ≤ total is_carrying_over below
  unsets_few n [] = omega arith
  unsets_few n (Unsetting m ∷ below) = let h = unsets_few n below in let c = one (nat_eq m n) in omega (arith, h, c)
    where
      one : (b : Bool) → cond b 1 0 ≤ 1
      one true = omega arith
      one false = omega arith
  unsets_few n (Transferring m back ∷ below) = let h = unsets_few n below in omega (arith, h)
  unsets_few n (Setting a b c ∷ below) = let h = unsets_few n below in omega (arith, h)
  unsets_few n (Notifying a b ∷ below) = let h = unsets_few n below in omega (arith, h)
  unsets_few n (Beginning a ∷ below) = let h = unsets_few n below in omega (arith, h)
  unsets_few n (Emitting a b ∷ below) = let h = unsets_few n below in omega (arith, h)
  unsets_few n (Thawing a b ∷ below) = let h = unsets_few n below in omega (arith, h)
  unsets_few n (Running a ∷ below) = let h = unsets_few n below in omega (arith, h)
  unsets_few n (Answering a ∷ below) = let h = unsets_few n below in omega (arith, h)
  unsets_few n (Calling a ∷ below) = let h = unsets_few n below in omega (arith, h)
  unsets_few n (Constructing a b c ∷ below) = let h = unsets_few n below in omega (arith, h)
  unsets_few n (Building a ∷ below) = let h = unsets_few n below in omega (arith, h)
  unsets_few n (Handling a ∷ below) = let h = unsets_few n below in omega (arith, h)
  unsets_few n (Due a ∷ below) = let h = unsets_few n below in omega (arith, h)

  -- what waits carries no more than what is due: while the builder makes an object no pair is setting
  pub queued_due : (making : ℕ) (below : List Task) (place slot : ℕ) → (0 < making → total is_carrying_over below ≡ 0) →
      queued_price d P t making place slot ≤ late_price d P (property place slot) + due_price d P t below (property place slot)
  queued_due making below place slot free = go (nat_eq making 0) refl
    where
      go : (b : Bool) → nat_eq making 0 ≡ b → queued_price d P t making place slot ≤ late_price d P (property place slot) + due_price d P t below (property place slot)
      go true e = let z = ap (λ b. cond b 0 (over_price d P t (property place slot))) e in omega (arith, z)
      go false e =
          let z = ap (λ b. cond b 0 (over_price d P t (property place slot))) e in
          let some : 0 < making = positive making (eqb-false making 0 e) in
          let none = free some in
          let due = free_due below (property place slot) (λ n. (let few = unsets_few n below in omega (arith, few, none))) in
          omega (arith, z, due)
        where
          positive : (m : ℕ) → (m ≡ 0 → ⊥) → 0 < m
          positive zero f = absurd (f refl)
          positive (suc m) f = omega arith

  -- ** the step

  module _ (id slot : ℕ) (v : Value) (x : First d (Setting id slot v)) (paid : PaidHere d P t x) where
    open x use {a, w, rest, n, g}

    abbrev place : ℕ
    place = g.agenda.3.1.due.place

    abbrev is : standing w.objects id ≡ Some place
    is = g.agenda.3.1.due.is

    abbrev c : Channel
    c = property place slot

    deed : total P (done_by (λ place. deeds.set place slot ∷ []) (standing w.objects id)) ≡ P (deeds.set place slot) + 0
    deed = done_is d P t (λ place. deeds.set place slot ∷ []) (standing w.objects id) place is

    was : task_price d P t (seen w) rest (Setting id slot v) ≡ put_price d P c + due_price d P t rest c
    was = ap (price_of (λ place. put_price d P (property place slot) + due_price d P t rest (property place slot))) is

    -- nothing is raised, and nothing changed that costs
    refused_falls : (l : List (List ℕ)) → Falls d P t x (record w { transcript = l }) rest
    refused_falls l =
        let y = deed in
        let z = was in
        steady d P t x (record w { transcript = l }) rest
        (record { objects = refl; handlers = refl; last = refl; sources = refl; floating = omega arith; makes = omega arith; items = λ f. omega arith }) (omega (arith, y, z)) paid

    module _ (o : Object) (lives : living w.objects id ≡ Some o) (at : o.place ≡ place) (vs : List Value) (l : List (List ℕ)) where
      abbrev o1 : Object
      o1 = record o { values = vs }

      abbrev w1 : World
      w1 = record (with_objects w (put w.objects id (Some o1))) { transcript = l }

      making : ℕ
      making = total is_for_builder (Setting id slot v ∷ rest)

      stands1 : standing w1.objects ≡ standing w.objects
      stands1 = standing_put w.objects id o o1 lives refl

      price1 : (m : ℕ) → objects_price d P t m w1.objects ≡ objects_price d P t m w.objects
      price1 m = let h = objects_put d P t m id w.objects o o1 lives in omega (arith, h)

      silent_falls : Falls d P t x w1 rest
      silent_falls =
          let y = deed in
          let z = was in
          let m : total is_for_builder rest ≡ total is_for_builder (Setting id slot v ∷ rest) = omega arith in
          let p = price1 (total is_for_builder rest) in
          let q = ap (λ m. objects_price d P t m w.objects) m in
          moved d P t x w1 rest (record { stands = stands1; handlers = refl; last = refl; sources = refl; floating = omega arith; items = λ f. omega arith }) (omega (arith, y, z, p, q)) paid

      now_falls : Falls d P t x w1 (Notifying id slot ∷ rest)
      now_falls =
          let y = deed in
          let z = was in
          let m : total is_for_builder (Notifying id slot ∷ rest) ≡ total is_for_builder (Setting id slot v ∷ rest) = omega arith in
          let p = price1 (total is_for_builder (Notifying id slot ∷ rest)) in
          let q = ap (λ m. objects_price d P t m w.objects) m in
          let next = ap (price_of (λ place. due_price d P t rest (property place slot))) is in
          moved d P t x w1 (Notifying id slot ∷ rest) (record { stands = stands1; handlers = refl; last = refl; sources = refl; floating = omega arith; items = λ f. omega arith }) (omega (arith, y, z, p, q, next)) paid

      abbrev o2 : Object
      o2 = record o1 { queue = queued o.queue slot }

      abbrev w2 : World
      w2 = with_objects w1 (put w1.objects id (Some o2))

      later_falls : Falls d P t x w2 rest
      later_falls =
          let y = deed in
          let z = was in
          let m : total is_for_builder rest ≡ total is_for_builder (Setting id slot v ∷ rest) = omega arith in
          let k = total is_for_builder rest in
          let p = price1 k in
          let q = ap (λ m. objects_price d P t m w.objects) m in
          let here = find_here w.objects id o o1 lives in
          let costs = objects_put d P t k id w1.objects o1 o2 here in
          let one = queued_object d P t k slot o1 in
          let due = queued_due k rest place slot (λ some. (let old = (g.objects_first.before (omega (arith, some))).1 in omega (arith, old))) in
          let same = ap (λ p. queued_price d P t k p slot) at in
          moved d P t x w2 rest
          (record { stands = standing_put w1.objects id o1 o2 here refl ∙ stands1; handlers = refl; last = refl; sources = refl; floating = omega arith; items = λ f. omega arith })
          (omega (arith, y, z, p, q, costs, one, due, same)) paid

    written_is : (o : Object) → living w.objects id ≡ Some o → o.place ≡ place → (spec : Spec) (value : Value) (s : Started) → written d w id slot spec value ≡ Ok s → Falls d P t x s.world (s.tasks ++ rest)
    unfolding written
    written_is o lives at spec value s e =
        let write = bound (changed w.objects id (with_value slot value)) _ s e in
        let made = writes_is w.objects id slot value o write.0 lives write.1 in
        let l = w.transcript ++ text_of_line d.types (lines.set id spec.name value) ∷ [] in
        go made.0 l (notifies spec write.0.answer value)
        (ap (λ os. raising_if (notifies spec write.0.answer value) (record (with_objects w os) { transcript = l }) id slot) made.1 ∙ write.2)
      where
        go : (vs : List Value) (l : List (List ℕ)) (b : Bool) → raising_if b (record (with_objects w (put w.objects id (Some (record o { values = vs })))) { transcript = l }) id slot ≡ Ok s → Falls d P t x s.world (s.tasks ++ rest)
        go vs l false e = starts_to d P t x s _ [] (ok_is {E = Arm} _ s e) (silent_falls o lives at vs l)
        go vs l true e = by (raises_is _ id slot (record o { values = vs }) s (find_here w.objects id o (record o { values = vs }) lives) e)
          where
            by : Raises (record (with_objects w (put w.objects id (Some (record o { values = vs })))) { transcript = l }) id slot (record o { values = vs }) s → Falls d P t x s.world (s.tasks ++ rest)
            by (now is) = starts_to d P t x s _ (Notifying id slot ∷ []) is (now_falls o lives at vs l)
            by (later is) = starts_to d P t x s _ [] is (later_falls o lives at vs l)

    set_is : (s : Started) → setting d w id slot v ≡ Ok s → Falls d P t x s.world (s.tasks ++ rest)
    unfolding setting
    set_is s e =
        let spec = bound (spec_at d w.objects id slot) _ s e in
        let valid = clamp (class_in w.objects) d.types spec.0 v in
        let k = only (has_kind v spec.0.kind && lives w.objects v) arms.Value (settled d w id slot spec.0 v valid) s spec.2 in
        let o = at_place w.objects id place is in
        go o.0 o.1 o.2 spec.0 valid (same_value valid v || is_lax spec.0) k.1
      where
        go : (o : Object) → living w.objects id ≡ Some o → o.place ≡ place → (spec : Spec) (valid : Value) (b : Bool) →
            cond b (written d w id slot spec (without_disposed w.objects spec valid)) (starts (said d w (lines.refused id spec.name v)) []) ≡ Ok s → Falls d P t x s.world (s.tasks ++ rest)
        go o lives at spec valid true e = written_is o lives at spec (without_disposed w.objects spec valid) s e
        go o lives at spec valid false e = starts_to d P t x s _ [] (ok_is {E = Arm} _ s e) (refused_falls _)

  pub setting_pays : (id slot : ℕ) (v : Value) (x : First d (Setting id slot v)) → StepPays d P t x (uncounted x.rest x.n (setting d x.w id slot v))
  setting_pays id slot v x paid e h = let s = uncounted_is x.rest x.n _ e h in leads_to d P t x s.0 x.n e s.2 (set_is id slot v x paid s.0 s.1)
