-- Requests: what each starts is within what is asked for.
use Rattle.std.proofs.Common.{◌≡◌, refl, ap, ℕ, ◌+◌, ◌≤◌, true, cond, List, [], ◌∷◌, ◌++◌, Option, Some, Ok, arith}
use Rattle.std.specs.Prelude.{not}
use Rattle.ui_machine.specs.declared.arm.Arm.{Arm}
use Rattle.ui_machine.specs.declared.arm.Arm.TheVariants as arms
use Rattle.ui_machine.specs.Definition.{Definition}
use Rattle.ui_machine.specs.Definition.Lookups.{place_at}
use Rattle.ui_machine.specs.Definition.Places.{Given}
use Rattle.ui_machine.specs.Definition.Properties.{is_construct_only, is_readable, is_writable}
use Rattle.ui_machine.specs.Definition.Values.{Value}
use Rattle.ui_machine.specs.Outcome.{known, only_if}
use Rattle.ui_machine.specs.Output.Lines as lines
use Rattle.ui_machine.specs.Rules.EmissionPlan.{new_emission}
use Rattle.ui_machine.specs.Rules.Build.{held_object, identity_held}
use Rattle.ui_machine.specs.Rules.Construction.{given_value}
use Rattle.ui_machine.specs.Rules.Connections.{detail_in}
use Rattle.ui_machine.specs.Rules.Events.{emit_from_event, get_from_event, given_values, release_from_event, request_step, set_from_event, set_given, with_result}
use Rattle.ui_machine.specs.Rules.Sets.{spec_at}
use Rattle.ui_machine.specs.State.Config.{BuilderEntry, Started, builder_entry, built, released, said, starts, unbuilt, with_builder_entry}
use Rattle.ui_machine.specs.State.Objects.{asked, value_at}
use Rattle.ui_machine.specs.State.Tasks.{Beginning, Emission, Handling, Item, Request, Setting, Task}
use Rattle.ui_machine.specs.State.Tasks as config
use Rattle.ui_machine.specs.Steps.{uncounted}
use Rattle.law_typing.specs.Good.Standing.{standing}
use Rattle.law_typing.specs.Graph.Channels.{property, signal}
use Rattle.law_typing.specs.Graph.Tables.{Tables, entry}
use Rattle.law_steps.proofs.Instructed.Inverse.{bound, only}
use Rattle.law_steps.proofs.Tasked.First.{First}
use Rattle.law_prices.specs.Asked.{asked_by}
use Rattle.law_prices.specs.Deeds.{PriceList}
use Rattle.law_prices.specs.Deeds as deeds
use Rattle.law_prices.specs.Potential.{due_price, told_price}
use Rattle.law_prices.specs.Prices.{price, price_of, put_price}
use Rattle.law_prices.proofs.EasyTasks.{StepPays}
use Rattle.law_prices.proofs.Nodes.{due_within}
use Rattle.law_prices.proofs.Pays.{ok_is}
use Rattle.law_prices.proofs.TaskFalls.{Falls, PaidHere, leads_to, starts_to, steady, uncounted_is}

-- an object that the builder holds is at its place
held_built : (b : BuilderEntry) (id : ℕ) → known arms.Operand (identity_held b) ≡ Ok id → b ≡ built id
held_built unbuilt id e = absurd (cc)
held_built (built i) id e = ap built (ok_is {E = Arm} i id e)
held_built released id e = absurd (cc)

module _ (d : Definition) (P : PriceList) (t : Tables) where
  module _ {task : Task} (x : First d task) where
    open x use {w, rest, g}

    pub held_at : (place id : ℕ) → held_object w place ≡ Ok id → standing w.objects id ≡ Some place
    held_at place id e = g.held place id (held_built (builder_entry w place) id e)

  -- ** what starts nothing

  module _ (request : Request) (x : First d (Handling request)) where
    open x use {w, rest}

    quiet : P (deeds.begin (asked_by request)) ≤ price d P t (asked_by request) → PaidHere d P t x → (builder : List BuilderEntry) (line : List (List ℕ)) (value : Option Value) → Falls d P t x (record w { builder = builder; transcript = line; result = value }) rest
    quiet begins paid builder line value = steady d P t x (record w { builder = builder; transcript = line; result = value }) rest
        (record { objects = refl; handlers = refl; last = refl; sources = refl; floating = omega arith; makes = omega arith; items = λ f. omega arith }) (omega (arith, begins)) paid

  got : (place slot : ℕ) (x : First d (Handling (config.get place slot))) → PaidHere d P t x → (s : Started) → get_from_event d x.w place slot ≡ Ok s → Falls d P t x s.world (s.tasks ++ x.rest)
  unfolding get_from_event
  got place slot x paid s e =
      let id = bound (held_object x.w place) _ s e in
      let spec = bound (spec_at d x.w.objects id.0 slot) _ s id.2 in
      let v = bound (asked x.w.objects id.0 (value_at slot)) _ s spec.2 in
      let after = with_result (said d x.w (lines.get id.0 spec.0.name v.0)) v.0 in
      let k = only (is_readable spec.0) arms.Flags (starts after []) s v.2 in
      starts_to d P t x s after [] (ok_is {E = Arm} (record { world = after; tasks = [] }) s k.1)
      (quiet (config.get place slot) x (omega arith) paid after.builder after.transcript after.result)

  let_go : (place : ℕ) (x : First d (Handling (config.release place))) → PaidHere d P t x → (s : Started) → release_from_event d x.w place ≡ Ok s → Falls d P t x s.world (s.tasks ++ x.rest)
  unfolding release_from_event
  let_go place x paid s e =
      let p = bound (known arms.Code (place_at d place)) _ s e in
      let id = bound (held_object x.w place) _ s p.2 in
      let after = with_builder_entry (said d x.w (lines.release p.0.id)) place released in
      starts_to d P t x s after [] (ok_is {E = Arm} (record { world = after; tasks = [] }) s id.2)
      (quiet (config.release place) x (omega arith) paid after.builder after.transcript after.result)

  -- ** a set and an emission

  sets_given : (place slot : ℕ) (given : Given) (x : First d (Handling (config.set place slot given))) → PaidHere d P t x → (id : ℕ) → standing x.w.objects id ≡ Some place → (v : Value) → Falls d P t x x.w (Setting id slot v ∷ x.rest)
  sets_given place slot given x paid id is v =
      let set = ap (price_of (λ place. put_price d P (property place slot) + due_price d P t x.rest (property place slot))) is in
      let due = due_within d P t x.rest (property place slot) in
      steady d P t x x.w (Setting id slot v ∷ x.rest)
      (record { objects = refl; handlers = refl; last = refl; sources = refl; floating = omega arith; makes = omega arith; items = λ f. omega arith }) (omega (arith, set, due)) paid

  set_asked : (place slot : ℕ) (given : Given) (x : First d (Handling (config.set place slot given))) → PaidHere d P t x → (s : Started) → set_from_event d x.w place slot given ≡ Ok s → Falls d P t x s.world (s.tasks ++ x.rest)
  unfolding set_from_event set_given
  set_asked place slot given x paid s e =
      let id = bound (held_object x.w place) _ s e in
      let spec = bound (spec_at d x.w.objects id.0 slot) _ s id.2 in
      let sets = set_given x.w id.0 slot given in
      let k = only (is_writable spec.0) arms.Flags (only_if (not (is_construct_only spec.0)) arms.ConstructOnly sets) s spec.2 in
      let l = only (not (is_construct_only spec.0)) arms.ConstructOnly sets s k.1 in
      let v = bound (known arms.Operand (given_value x.w given)) _ s l.1 in
      starts_to d P t x s x.w (Setting id.0 slot v.0 ∷ []) (ok_is {E = Arm} (record { world = x.w; tasks = Setting id.0 slot v.0 ∷ [] }) s v.2)
      (sets_given place slot given x paid id.0 (held_at x place id.0 id.1) v.0)

  emits_given : (place number : ℕ) (args : List Given) (detail : Option (List ℕ)) (x : First d (Handling (config.emit place number args detail))) → PaidHere d P t x → (em : Emission) →
      em.by_event ≡ true → em.signal ≡ number → standing x.w.objects em.object ≡ Some place → Falls d P t x x.w (Beginning em ∷ x.rest)
  emits_given place number args detail x paid em by same is =
      let begins = ap (price_of (λ place. entry t.channels (signal place em.signal) + told_price P em place)) is in
      let told = ap (λ b. cond b (P (deeds.tell place em.signal)) 0) by in
      let tell = ap (λ n. P (deeds.tell place n)) same in
      let node = ap (λ n. entry t.channels (signal place n)) same in
      steady d P t x x.w (Beginning em ∷ x.rest)
      (record { objects = refl; handlers = refl; last = refl; sources = refl; floating = omega arith; makes = omega arith; items = λ f. omega arith }) (omega (arith, begins, told, tell, node)) paid

  emit_asked : (place number : ℕ) (args : List Given) (detail : Option (List ℕ)) (x : First d (Handling (config.emit place number args detail))) → PaidHere d P t x → (s : Started) →
      emit_from_event d x.w place number args detail ≡ Ok s → Falls d P t x s.world (s.tasks ++ x.rest)
  unfolding emit_from_event
  emit_asked place number args detail x paid s e =
      let id = bound (held_object x.w place) _ s e in
      let stands = bound (detail_in d x.w id.0 number detail) _ s id.2 in
      let given = bound (given_values x.w args) _ s stands.2 in
      let em = new_emission id.0 number stands.0 given.0 true in
      starts_to d P t x s x.w (Beginning em ∷ []) (ok_is {E = Arm} (record { world = x.w; tasks = Beginning em ∷ [] }) s given.2)
      (emits_given place number args detail x paid em refl refl (held_at x place id.0 id.1))

  request_falls : (request : Request) (x : First d (Handling request)) → PaidHere d P t x → (s : Started) → request_step d x.w request ≡ Ok s → Falls d P t x s.world (s.tasks ++ x.rest)
  request_falls (config.set place slot given) x paid s e = set_asked place slot given x paid s e
  request_falls (config.get place slot) x paid s e = got place slot x paid s e
  request_falls (config.emit place number args detail) x paid s e = emit_asked place number args detail x paid s e
  request_falls (config.release place) x paid s e = let_go place x paid s e

  pub handling_pays : (request : Request) (x : First d (Handling request)) → StepPays d P t x (uncounted x.rest x.n (request_step d x.w request))
  handling_pays request x paid e h = let s = uncounted_is x.rest x.n _ e h in leads_to d P t x s.0 x.n e s.2 (request_falls request x paid s.0 s.1)
