-- Tasks that begin a program or a set, pass a turn, or have nothing left to do.
use Rattle.std.proofs.Common.{◌≡◌, refl, ap, ◌∙◌, ℕ, ◌+◌, ◌≤◌, Bool, true, false, cond, List, [], ◌∷◌, ◌++◌, Option, None, Some, Ok, slice_get, arith}
use Rattle.std.specs.Prelude.{nat_lt}
use Rattle.ui_machine.specs.declared.arm.Arm.{Arm}
use Rattle.ui_machine.specs.declared.arm.Arm.TheVariants as arms
use Rattle.ui_machine.specs.Seq.{total}
use Rattle.ui_machine.specs.Definition.{Definition}
use Rattle.ui_machine.specs.Definition.Places.{Bind}
use Rattle.ui_machine.specs.Definition.Properties.{is_writable}
use Rattle.ui_machine.specs.Definition.Values.{Value}
use Rattle.ui_machine.specs.Definition.Values as values
use Rattle.ui_machine.specs.Outcome.{Answer, known}
use Rattle.ui_machine.specs.Output.Lines as lines
use Rattle.ui_machine.specs.Rules.Accumulation.{given_to, in_stage, instance_of, running_handler, taking_entry}
use Rattle.ui_machine.specs.Rules.Construction.{apply_construct_property, constructing}
use Rattle.ui_machine.specs.Rules.MainLoop.{source_data, sourcing}
use Rattle.ui_machine.specs.Rules.NotifyQueue.{thawing}
use Rattle.ui_machine.specs.Rules.Programs.{first_frame, program_before}
use Rattle.ui_machine.specs.Rules.Sets.{spec_at}
use Rattle.ui_machine.specs.Rules.Transfers.{transfer_for, unsetting}
use Rattle.ui_machine.specs.State.Bindings.{Binding, binding_of}
use Rattle.ui_machine.specs.State.Config.{Config, Started, World, said, starts}
use Rattle.ui_machine.specs.State.Handlers.{Handler, handler_of}
use Rattle.ui_machine.specs.State.Sources.{Source, source_of}
use Rattle.ui_machine.specs.State.Tasks.{Answering, Constructing, ConstructStep, Due, Emission, Emitting, Item, Notifying, PlanEntry, Running, Setting, Task, Thawing, Transferring, Unsetting, class_handler, handler, runs, sets, thaws}
use Rattle.ui_machine.specs.State.Tasks as config
use Rattle.ui_machine.specs.Steps.{uncounted}
use Rattle.law_typing.specs.Good.Standing.{standing}
use Rattle.law_typing.specs.Graph.Channels.{is_readable_one, property}
use Rattle.law_typing.specs.Graph.Tables.{Tables, entry}
use Rattle.law_steps.proofs.Instructed.Inverse.{bound, known_is, only}
use Rattle.law_steps.proofs.Tasked.First.{First}
use Rattle.law_prices.specs.Asked as asked
use Rattle.law_prices.specs.Deeds.{PriceList}
use Rattle.law_prices.specs.Deeds as deeds
use Rattle.law_prices.specs.Potential.{construct_price, due_price, seen, task_price, told_price, transfer_by, turn_price}
use Rattle.law_prices.specs.Prices.{SolvesPrices, begun_price, late_price, price, price_of, put_price}
use Rattle.law_prices.specs.Steps.{construct_deeds, done_by, turn_deeds}
use Rattle.law_prices.proofs.Nodes.{due_within}
use Rattle.law_prices.proofs.Pays.{ok_is}
use Rattle.law_prices.proofs.TaskFalls.{Falls, PaidHere, begun, done_is, due_alike, leads_to, starts_to, steady, transfer_alike, uncounted_is}

-- the step that takes the task is paid
abbrev pub StepPays : (d : Definition) (P : PriceList) (t : Tables) {task : Task} → First d task → Answer Config → Type 0
StepPays d P t x answer = PaidHere d P t x → (e : Config) → answer ≡ Ok e → Falls d P t x e.world e.agenda

module _ (d : Definition) (P : PriceList) (t : Tables) where
  -- ** a binding is set free, and a thaw goes on

  pub unsetting_pays : (number : ℕ) (x : First d (Unsetting number)) → StepPays d P t x (uncounted x.rest x.n (unsetting x.w number))
  unsetting_pays number x paid e h =
      let s = uncounted_is x.rest x.n _ e h in
      let same = ok_is {E = Arm} _ s.0 s.1 in
      leads_to d P t x s.0 x.n e s.2
      (starts_to d P t x s.0 _ [] same
      (steady d P t x _ x.rest (record { objects = refl; handlers = refl; last = refl; sources = refl; floating = omega arith; makes = omega arith; items = λ f. omega arith }) (omega arith) paid))

  pub thawing_pays : (id : ℕ) (slots : List ℕ) (x : First d (Thawing id slots)) → StepPays d P t x (uncounted x.rest x.n (thawing x.w id slots))
  thawing_pays id [] x paid e h =
      let s = uncounted_is x.rest x.n _ e h in
      let same = ok_is {E = Arm} _ s.0 s.1 in
      leads_to d P t x s.0 x.n e s.2
      (starts_to d P t x s.0 x.w [] same
      (steady d P t x x.w x.rest (record { objects = refl; handlers = refl; last = refl; sources = refl; floating = omega arith; makes = omega arith; items = λ f. omega arith }) (omega arith) paid))
  thawing_pays id (slot ∷ slots) x paid e h =
      let s = uncounted_is x.rest x.n _ e h in
      let same = ok_is {E = Arm} _ s.0 s.1 in
      let good = x.g.agenda.3.1 in
      let place = good.0 in
      let read = good.3.0 in
      let c = property place slot in
      let deed = done_is d P t (λ place. deeds.name place slot ∷ []) (standing x.w.objects id) place good.1 in
      let was = ap (price_of (λ place. total (λ slot. late_price d P (property place slot) + due_price d P t x.rest (property place slot)) (slot ∷ slots))) good.1 in
      let next = ap (price_of (λ place. due_price d P t (Thawing id slots ∷ x.rest) (property place slot))) good.1 in
      let left = ap (price_of (λ place. total (λ slot. late_price d P (property place slot) + due_price d P t x.rest (property place slot)) slots)) good.1 in
      let alike = due_alike d P t (Thawing id slots ∷ x.rest) x.rest (λ n. omega arith) c in
      let late : late_price d P c ≡ P (deeds.name place slot) = ap (λ b. cond b (P (deeds.name place slot)) 0) (ap is_readable_one read.2 ∙ read.3) in
      leads_to d P t x s.0 x.n e s.2
      (starts_to d P t x s.0 x.w (Notifying id slot ∷ Thawing id slots ∷ []) same
      (steady d P t x x.w (Notifying id slot ∷ Thawing id slots ∷ x.rest)
      (record { objects = refl; handlers = refl; last = refl; sources = refl; floating = omega arith; makes = omega arith; items = λ f. omega arith }) (omega (arith, deed, was, next, left, alike, late)) paid))

  module _ (solves : SolvesPrices d P t) where
    -- ** sources

    sourced : (number : ℕ) (x : First d (Due number)) → PaidHere d P t x → (s : Started) → sourcing d x.w number ≡ Ok s → Falls d P t x s.world (s.tasks ++ x.rest)
    unfolding sourcing
    sourced number x paid s e =
        let source = bound (known arms.Code (source_of number x.w.sources)) _ s e in
        let is = known_is arms.Code (source_of number x.w.sources) source.0 source.1 in
        let deed = done_is d P t (λ (s : Source). deeds.begin (asked.source s.program) ∷ deeds.run s.program ∷ []) (source_of number x.w.sources) source.0 is in
        let was = ap (price_of (λ (s : Source). price d P t (asked.source s.program))) is in
        begun d P t x solves source.0.program (source_data source.0.arg) (Answering number ∷ []) s source.2
        (λ p low.
        steady d P t x (said d x.w (lines.run p.name)) (Running (first_frame source.0.program p (source_data source.0.arg)) ∷ Answering number ∷ x.rest)
        (record { objects = refl; handlers = refl; last = refl; sources = refl; floating = omega arith; makes = omega arith; items = λ f. omega arith }) (omega (arith, deed, was, low)) paid)

    pub sourcing_pays : (number : ℕ) (x : First d (Due number)) → StepPays d P t x (uncounted x.rest x.n (sourcing d x.w number))
    sourcing_pays number x paid e h = let s = uncounted_is x.rest x.n _ e h in leads_to d P t x s.0 x.n e s.2 (sourced number x paid s.0 s.1)

    -- ** turns

    -- the rest of an emission, by the place of its object
    pub emitting_is : (w : World) (below : List Task) (em : Emission) (entries : List PlanEntry) (place : ℕ) → standing w.objects em.object ≡ Some place →
        task_price d P t (seen w) below (Emitting em entries) ≡ total (turn_price d P t (seen w) below place em.signal) entries + (P (deeds.end place em.signal) + told_price P em place)
    emitting_is w below em entries place is =
        ap (price_of (λ place. total (turn_price d P t (seen w) below place em.signal) entries + (P (deeds.end place em.signal) + told_price P em place))) is

    module _ (em : Emission) (entries : List PlanEntry) where
      class_turn : (program : ℕ) (cleanup : Bool) (x : First d (Emitting em (class_handler program cleanup ∷ entries))) → PaidHere d P t x → (s : Started) →
          program_before d x.w program (instance_of em ∷ em.args) (Emitting (in_stage cleanup em) entries ∷ []) ≡ Ok s → Falls d P t x s.world (s.tasks ++ x.rest)
      class_turn program cleanup x paid s e =
          let place = x.g.agenda.3.fits.place in
          let is = x.g.agenda.3.fits.is in
          let entry = class_handler program cleanup in
          let deed = done_is d P t (λ place. turn_deeds x.w place em.signal entry) (standing x.w.objects em.object) place is in
          let was = emitting_is x.w x.rest em (entry ∷ entries) place is in
          let next = emitting_is x.w x.rest (in_stage cleanup em) entries place is in
          begun d P t x solves program (instance_of em ∷ em.args) (Emitting (in_stage cleanup em) entries ∷ []) s e
          (λ p low.
          steady d P t x (said d x.w (lines.run p.name)) (Running (first_frame program p (instance_of em ∷ em.args)) ∷ Emitting (in_stage cleanup em) entries ∷ x.rest)
          (record { objects = refl; handlers = refl; last = refl; sources = refl; floating = omega arith; makes = omega arith; items = λ f. omega arith }) (omega (arith, deed, was, next, low)) paid)

      -- a turn that starts nothing
      passed : (entry : PlanEntry) (x : First d (Emitting em (entry ∷ entries))) → PaidHere d P t x →
          total P (turn_deeds x.w x.g.agenda.3.fits.place em.signal entry) ≤ turn_price d P t (seen x.w) x.rest x.g.agenda.3.fits.place em.signal entry → Falls d P t x x.w (Emitting em entries ∷ x.rest)
      passed entry x paid less =
          let place = x.g.agenda.3.fits.place in
          let is = x.g.agenda.3.fits.is in
          let deed = done_is d P t (λ place. turn_deeds x.w place em.signal entry) (standing x.w.objects em.object) place is in
          let was = emitting_is x.w x.rest em (entry ∷ entries) place is in
          let next = emitting_is x.w x.rest em entries place is in
          steady d P t x x.w (Emitting em entries ∷ x.rest)
          (record { objects = refl; handlers = refl; last = refl; sources = refl; floating = omega arith; makes = omega arith; items = λ f. omega arith }) (omega (arith, deed, was, next, less)) paid

      handler_turn : (number : ℕ) (x : First d (Emitting em (handler number ∷ entries))) → PaidHere d P t x → (s : Started) → (o : Option Handler) → handler_of number x.w.handlers ≡ o →
          running_handler d x.w em entries o ≡ Ok s → Falls d P t x s.world (s.tasks ++ x.rest)
      handler_turn number x paid s None is e =
          starts_to d P t x s x.w (Emitting em entries ∷ []) (ok_is {E = Arm} _ s e)
          (passed (handler number) x paid
          (let y = ap (λ o. total P (done_by (λ (h : Handler). deeds.run h.program ∷ []) o)) is in
          let z = ap (price_of (λ (h : Handler). begun_price P t h.program)) is in
          omega (arith, y, z)))
      handler_turn number x paid s (Some h) is e = go (nat_lt 0 h.blocks) e
        where
          deed : total P (done_by (λ (h : Handler). deeds.run h.program ∷ []) (handler_of number x.w.handlers)) ≡ P (deeds.run h.program) + 0
          deed = ap (λ o. total P (done_by (λ (h : Handler). deeds.run h.program ∷ []) o)) is

          cost : price_of (λ (h : Handler). begun_price P t h.program) (handler_of number x.w.handlers) ≡ begun_price P t h.program
          cost = ap (price_of (λ (h : Handler). begun_price P t h.program)) is

          go : (blocked : Bool) → cond blocked (starts x.w (Emitting em entries ∷ [])) (program_before d x.w h.program (given_to em h) (Emitting em entries ∷ [])) ≡ Ok s → Falls d P t x s.world (s.tasks ++ x.rest)
          go true e = starts_to d P t x s x.w (Emitting em entries ∷ []) (ok_is {E = Arm} _ s e) (passed (handler number) x paid (let y = deed in let z = cost in omega (arith, y, z)))
          go false e =
              let place = x.g.agenda.3.fits.place in
              let at = x.g.agenda.3.fits.is in
              let turn = done_is d P t (λ place. turn_deeds x.w place em.signal (handler number)) (standing x.w.objects em.object) place at in
              let was = emitting_is x.w x.rest em (handler number ∷ entries) place at in
              let next = emitting_is x.w x.rest em entries place at in
              let y = deed in
              let z = cost in
              begun d P t x solves h.program (given_to em h) (Emitting em entries ∷ []) s e
              (λ p low.
              steady d P t x (said d x.w (lines.run p.name)) (Running (first_frame h.program p (given_to em h)) ∷ Emitting em entries ∷ x.rest)
              (record { objects = refl; handlers = refl; last = refl; sources = refl; floating = omega arith; makes = omega arith; items = λ f. omega arith }) (omega (arith, turn, was, next, low, y, z)) paid)

      transfer_turn : (number : ℕ) (back : Bool) (x : First d (Emitting em (config.transfer number back ∷ entries))) → PaidHere d P t x → (s : Started) →
          (o : Option Binding) → starts x.w (transfer_for o number back ++ Emitting em entries ∷ []) ≡ Ok s → Falls d P t x s.world (s.tasks ++ x.rest)
      transfer_turn number back x paid s None e = starts_to d P t x s x.w (Emitting em entries ∷ []) (ok_is {E = Arm} _ s e) (passed (config.transfer number back) x paid (omega arith))
      transfer_turn number back x paid s (Some b) e = go b.busy e
        where
          go : (busy : Bool) → starts x.w (cond busy [] (Transferring number back ∷ []) ++ Emitting em entries ∷ []) ≡ Ok s → Falls d P t x s.world (s.tasks ++ x.rest)
          go true e = starts_to d P t x s x.w (Emitting em entries ∷ []) (ok_is {E = Arm} _ s e) (passed (config.transfer number back) x paid (omega arith))
          go false e =
              let place = x.g.agenda.3.fits.place in
              let at = x.g.agenda.3.fits.is in
              let turn = done_is d P t (λ place. turn_deeds x.w place em.signal (config.transfer number back)) (standing x.w.objects em.object) place at in
              let was = emitting_is x.w x.rest em (config.transfer number back ∷ entries) place at in
              let next = emitting_is x.w x.rest em entries place at in
              let alike = same_transfer (slice_get d.bindings number) in
              starts_to d P t x s x.w (Transferring number back ∷ Emitting em entries ∷ []) (ok_is {E = Arm} _ s e)
              (steady d P t x x.w (Transferring number back ∷ Emitting em entries ∷ x.rest)
              (record { objects = refl; handlers = refl; last = refl; sources = refl; floating = omega arith; makes = omega arith; items = λ f. omega arith }) (omega (arith, turn, was, next, alike)) paid)
            where
              same_transfer : (o : Option Bind) → transfer_by d P t (Emitting em entries ∷ x.rest) number back o ≡ transfer_by d P t x.rest number back o
              same_transfer None = refl
              same_transfer (Some b) = transfer_alike d P t (Emitting em entries ∷ x.rest) x.rest (λ n. omega arith) number back b

      pub turn_pays : (entry : PlanEntry) (x : First d (Emitting em (entry ∷ entries))) → StepPays d P t x (uncounted x.rest x.n (taking_entry d x.w em entries entry))
      turn_pays (class_handler program cleanup) x paid e h = let s = uncounted_is x.rest x.n _ e h in leads_to d P t x s.0 x.n e s.2 (class_turn program cleanup x paid s.0 s.1)
      turn_pays (handler number) x paid e h = let s = uncounted_is x.rest x.n _ e h in leads_to d P t x s.0 x.n e s.2 (handler_turn number x paid s.0 (handler_of number x.w.handlers) refl s.1)
      turn_pays (config.transfer number back) x paid e h = let s = uncounted_is x.rest x.n _ e h in leads_to d P t x s.0 x.n e s.2 (transfer_turn number back x paid s.0 (binding_of number x.w.bindings) s.1)

    -- ** constructions

    -- what is left of a construction, by the place of its object
    pub constructing_is : (w : World) (below : List Task) (id : ℕ) (steps : List ConstructStep) (held : Bool) (place : ℕ) → standing w.objects id ≡ Some place →
        task_price d P t (seen w) below (Constructing id steps held) ≡ total (construct_price d P t place) steps + P (deeds.construct place)
    constructing_is w below id steps held place is = ap (price_of (λ place. total (construct_price d P t place) steps + P (deeds.construct place))) is

    construct_set : (id slot : ℕ) (v : Value) (steps : List ConstructStep) (held : Bool) (x : First d (Constructing id (sets slot v ∷ steps) held)) → PaidHere d P t x → (s : Started) →
        apply_construct_property d x.w id slot v (Constructing id steps held ∷ []) ≡ Ok s → Falls d P t x s.world (s.tasks ++ x.rest)
    unfolding apply_construct_property
    construct_set id slot v steps held x paid s e =
        let spec = bound (spec_at d x.w.objects id slot) _ s e in
        let k = only (is_writable spec.0) arms.Flags (starts x.w (Setting id slot v ∷ Constructing id steps held ∷ [])) s spec.2 in
        let place = x.g.agenda.3.1.place in
        let is = x.g.agenda.3.1.is in
        let c = property place slot in
        let deed = done_is d P t (λ place. construct_deeds place (sets slot v)) (standing x.w.objects id) place is in
        let was = constructing_is x.w x.rest id (sets slot v ∷ steps) held place is in
        let next = constructing_is x.w x.rest id steps held place is in
        let set = ap (price_of (λ place. put_price d P (property place slot) + due_price d P t (Constructing id steps held ∷ x.rest) (property place slot))) is in
        let due = due_within d P t (Constructing id steps held ∷ x.rest) c in
        starts_to d P t x s x.w (Setting id slot v ∷ Constructing id steps held ∷ []) (ok_is {E = Arm} _ s k.1)
        (steady d P t x x.w (Setting id slot v ∷ Constructing id steps held ∷ x.rest)
        (record { objects = refl; handlers = refl; last = refl; sources = refl; floating = omega arith; makes = omega arith; items = λ f. omega arith }) (omega (arith, deed, was, next, set, due)) paid)

    pub set_step_pays : (id slot : ℕ) (v : Value) (steps : List ConstructStep) (held : Bool) (x : First d (Constructing id (sets slot v ∷ steps) held)) →
        StepPays d P t x (uncounted x.rest x.n (constructing d x.w id (sets slot v ∷ steps) held))
    set_step_pays id slot v steps held x paid e h = let s = uncounted_is x.rest x.n _ e h in leads_to d P t x s.0 x.n e s.2 (construct_set id slot v steps held x paid s.0 s.1)

    pub run_step_pays : (id program : ℕ) (steps : List ConstructStep) (held : Bool) (x : First d (Constructing id (runs program ∷ steps) held)) →
        StepPays d P t x (uncounted x.rest x.n (constructing d x.w id (runs program ∷ steps) held))
    run_step_pays id program steps held x paid e h =
        let s = uncounted_is x.rest x.n _ e h in
        let place = x.g.agenda.3.1.place in
        let is = x.g.agenda.3.1.is in
        let deed = done_is d P t (λ place. construct_deeds place (runs program)) (standing x.w.objects id) place is in
        let was = constructing_is x.w x.rest id (runs program ∷ steps) held place is in
        let next = constructing_is x.w x.rest id steps held place is in
        let args = values.object (Some id) ∷ [] in
        leads_to d P t x s.0 x.n e s.2
        (begun d P t x solves program args (Constructing id steps held ∷ []) s.0 s.1
        (λ p low.
        steady d P t x (said d x.w (lines.run p.name)) (Running (first_frame program p args) ∷ Constructing id steps held ∷ x.rest)
        (record { objects = refl; handlers = refl; last = refl; sources = refl; floating = omega arith; makes = omega arith; items = λ f. omega arith }) (omega (arith, deed, was, next, low)) paid))
