-- What each step counts, and that the list of counted steps prices it so.
use Rattle.std.proofs.Common.{◌≡◌, ◌⊎◌, inl, inr, refl, sym, ap, ℕ, suc, ◌≤◌, Bool, true, false, cond, List, [], ◌∷◌, Option, None, Some, Ok, arith}
use Rattle.std.specs.Prelude.{nat_lt, slice_get}
use Rattle.ui_machine.specs.declared.arm.Arm.TheVariants as arms
use Rattle.ui_machine.specs.Seq.{total}
use Rattle.ui_machine.specs.Definition.{Definition}
use Rattle.ui_machine.specs.Definition.Lookups.{place_of}
use Rattle.ui_machine.specs.Definition.Programs.{Block, Instruction}
use Rattle.ui_machine.specs.Definition.Programs as words
use Rattle.ui_machine.specs.Instructions.{running}
use Rattle.ui_machine.specs.Instructions.Jumps.{block_in, in_pass}
use Rattle.ui_machine.specs.Instructions.Peers.{calling_on}
use Rattle.ui_machine.specs.Instructions.Registers.{operand_in}
use Rattle.ui_machine.specs.Outcome.{Answer}
use Rattle.std.specs.Prelude.{Err}
use Rattle.ui_machine.specs.Rules.Accumulation.{ending, taking_entry}
use Rattle.ui_machine.specs.Rules.Build.{building}
use Rattle.ui_machine.specs.Rules.Construction.{constructing, nearest_shape}
use Rattle.ui_machine.specs.Rules.EmissionPlan.{beginning_emission, notifying}
use Rattle.ui_machine.specs.Rules.Events.{request_step}
use Rattle.ui_machine.specs.Rules.MainLoop.{sourcing}
use Rattle.ui_machine.specs.Rules.NotifyQueue.{thawing}
use Rattle.ui_machine.specs.Rules.Sets.{setting}
use Rattle.ui_machine.specs.Rules.Transfers.{transferring, unsetting}
use Rattle.ui_machine.specs.State.Config.{Config, Left, Started, World}
use Rattle.ui_machine.specs.State.Handlers.{Handler, handler_of}
use Rattle.ui_machine.specs.State.Objects.{Object, class_in, living}
use Rattle.ui_machine.specs.State.Peers.{Reply}
use Rattle.ui_machine.specs.State.References.{mentions, next_unheld}
use Rattle.ui_machine.specs.State.Sources.{Source, source_of}
use Rattle.ui_machine.specs.State.Tasks.{Answering, Beginning, Building, Call, Calling, Constructing, ConstructStep, Due, Emission, Emitting, Frame, Handling, Item, Notifying, PlanEntry, Running, Setting, Task, Thawing, Transferring, Unsetting, adopts, binds, class_handler, connects, forwards, handler, makes, runs, sets, thaws}
use Rattle.ui_machine.specs.State.Tasks as config
use Rattle.ui_machine.specs.Steps.{act, before, finalising, first_of, left, most_steps, step}
use Rattle.ui_machine.specs.Steps as machine
use Rattle.law_steps.proofs.Instructed.Inverse.{only}
use Rattle.law_prices.specs.Asked.{source}
use Rattle.law_prices.specs.Deeds.{Deed}
use Rattle.law_prices.specs.Deeds as deeds
use Rattle.law_prices.specs.Lists.{counted}
use Rattle.law_prices.specs.Prices.{shape_number}
use Rattle.law_prices.specs.Steps.{agenda_deeds, construct_deeds, dispose_deeds, done_by, end_deeds, final_deeds, first_deeds, first_dispose, instruction_deeds, item_deeds, more_deeds, running_deeds, settle_deeds, step_price, turn_deeds}
use Rattle.law_prices.proofs.Pays.{ok_is}
use Rattle.law_prices.proofs.TaskFalls.{counted_is, left_is, uncounted_is}

-- ** prices by the list of counted steps

-- where something is there, and where it is not
done_within : {A : Type 0} (most : ℕ) (f : A → List Deed) (o : Option A) → ((x : A) → total counted (f x) ≤ most) → total counted (done_by f o) ≤ most
done_within most f None within = omega arith
done_within most f (Some x) within = within x

none_at : (deed : ℕ → Deed) (o : Option ℕ) → ((p : ℕ) → counted (deed p) ≡ 0) → total counted (done_by (λ p. deed p ∷ []) o) ≤ 0
none_at deed o none = done_within 0 (λ p. deed p ∷ []) o (λ p. let z = none p in omega (arith, z))

turns_uncounted : (w : World) (place number : ℕ) (entry : PlanEntry) → total counted (turn_deeds w place number entry) ≤ 0
turns_uncounted w place number (class_handler program cleanup) = omega arith
turns_uncounted w place number (handler n) = let z = done_within 0 (λ (h : Handler). deeds.run h.program ∷ []) (handler_of n w.handlers) (λ h. omega arith) in omega (arith, z)
turns_uncounted w place number (config.transfer n back) = omega arith

ends_uncounted : (e : Emission) (place : ℕ) → total counted (end_deeds e place) ≤ 0
ends_uncounted e place = by e.by_event
  where
    by : (b : Bool) → total counted (deeds.end place e.signal ∷ cond b (deeds.tell place e.signal ∷ []) []) ≤ 0
    by true = omega arith
    by false = omega arith

constructs_uncounted : (place : ℕ) (s : ConstructStep) → total counted (construct_deeds place s) ≤ 0
constructs_uncounted place (sets slot v) = omega arith
constructs_uncounted place (runs program) = omega arith
constructs_uncounted place thaws = omega arith

items_uncounted : (i : Item) → total counted (item_deeds i) ≤ 0
items_uncounted (makes place) = omega arith
items_uncounted (adopts place) = omega arith
items_uncounted (forwards place slot to) = omega arith
items_uncounted (binds number) = omega arith
items_uncounted (connects place number) = omega arith

disposes_uncounted : (o : Object) → total counted (first_dispose o) ≤ 0
disposes_uncounted o = by o.disposed
  where
    by : (b : Bool) → total counted (cond b [] (deeds.dispose o.place ∷ [])) ≤ 0
    by true = omega arith
    by false = omega arith

finals_count : (o : Object) → total counted (final_deeds o) ≤ 1
finals_count o = let z = disposes_uncounted o in omega (arith, z)

operands_uncounted : (w : World) (a : Answer ℕ) → total counted (dispose_deeds w a) ≤ 0
operands_uncounted w (Err arm) = omega arith
operands_uncounted w (Ok id) = done_within 0 first_dispose (living w.objects id) disposes_uncounted

more_uncounted : (d : Definition) (w : World) (f : Frame) (i : Instruction) → total counted (more_deeds d w f i) ≤ 0
more_uncounted d w f (words.new to id) = done_within 0 (λ place. deeds.make place ∷ []) (place_of d id) (λ place. omega arith)
more_uncounted d w f (words.dispose object) = operands_uncounted w (operand_in w f object)
more_uncounted d w f i = omega arith

instructions_count : (d : Definition) (w : World) (f : Frame) (o : Option Instruction) → total counted (instruction_deeds d w f o) ≤ 1
instructions_count d w f o = done_within 1 (λ i. deeds.instruction f.program f.block f.at ∷ more_deeds d w f i) o (λ i. let z = more_uncounted d w f i in omega (arith, z))

running_counts : (d : Definition) (w : World) (f : Frame) (b : Answer Block) → total counted (running_deeds d w f b) ≤ 1
running_counts d w f (Err arm) = omega arith
running_counts d w f (Ok b) = instructions_count d w (in_pass b f) (slice_get b.code (in_pass b f).at)

settles_uncounted : (w : World) (ids : List ℕ) → total counted (settle_deeds w ids) ≤ 0
settles_uncounted w [] = omega arith
settles_uncounted w (id ∷ ids) = none_at (λ place. deeds.settle place) _ (λ p. refl)

-- ** what a step counts

-- a step is uncounted and has no price, or counts one and has a price of 1 at most
abbrev pub CountsSo : (n price : ℕ) → Config → Type 0
CountsSo n price e = ((e.counted ≡ n) × (price ≤ 0)) ⊎ ((e.counted ≡ suc n) × (price ≤ 1))

module _ (d : Definition) (reply : Option Reply) (e : Config) where
  quiet : (rest : List Task) (n price : ℕ) (answer : Answer Started) → machine.uncounted rest n answer ≡ Ok e → price ≤ 0 → CountsSo n price e
  quiet rest n price answer h none = let s = uncounted_is rest n answer e h in inl (sym (ap (λ (c : Config). c.counted) s.2), none)

  quiet_left : (n price : ℕ) (answer : Answer Left) → left n answer ≡ Ok e → price ≤ 0 → CountsSo n price e
  quiet_left n price answer h none = let l = left_is n answer e h in inl (sym (ap (λ (c : Config). c.counted) l.2), none)

  one : (rest : List Task) (n price : ℕ) (answer : Answer Started) → machine.counted rest n answer ≡ Ok e → price ≤ 1 → CountsSo n price e
  one rest n price answer h low = let s = counted_is rest n answer e h in inr (sym (ap (λ (c : Config). c.counted) s.2), low)

  one_left : (n price : ℕ) (answer : Answer Left) → machine.counted_left n answer ≡ Ok e → price ≤ 1 → CountsSo n price e
  one_left n price answer h low =
      let k = only (nat_lt n most_steps) arms.Steps (left (suc n) answer) e h in
      let l = left_is (suc n) answer e k.1 in
      inr (sym (ap (λ (c : Config). c.counted) l.2), low)

  acts : (w : World) (tasks : List Task) (n : ℕ) → act d w reply tasks n ≡ Ok e → CountsSo n (total counted (agenda_deeds d w tasks)) e
  acts w [] n h = inl (sym (ap (λ (c : Config). c.counted) (ok_is {E = _} _ e h)), settles_uncounted w w.floating)
  acts w (Setting id slot v ∷ rest) n h = quiet rest n _ (setting d w id slot v) h (none_at (λ place. deeds.set place slot) _ (λ p. refl))
  acts w (Notifying id slot ∷ rest) n h = one rest n _ (notifying d w id slot) h (done_within 1 (λ place. deeds.notify place slot ∷ []) _ (λ p. omega arith))
  acts w (Beginning em ∷ rest) n h = one rest n _ (beginning_emission d w em) h (done_within 1 (λ place. deeds.emit place em.signal ∷ []) _ (λ p. omega arith))
  acts w (Emitting em [] ∷ rest) n h = quiet_left n _ (ending d w em rest) h (done_within 0 (end_deeds em) _ (ends_uncounted em))
  acts w (Emitting em (entry ∷ entries) ∷ rest) n h = quiet rest n _ (taking_entry d w em entries entry) h (done_within 0 (λ place. turn_deeds w place em.signal entry) _ (λ place. turns_uncounted w place em.signal entry))
  acts w (Transferring number back ∷ rest) n h = one rest n _ (transferring d w number back) h (omega arith)
  acts w (Unsetting number ∷ rest) n h = quiet rest n _ (unsetting w number) h (omega arith)
  acts w (Thawing id [] ∷ rest) n h = quiet rest n _ (thawing w id []) h (omega arith)
  acts w (Thawing id (slot ∷ slots) ∷ rest) n h = quiet rest n _ (thawing w id (slot ∷ slots)) h (none_at (λ place. deeds.name place slot) _ (λ p. refl))
  acts w (Running f ∷ rest) n h = one_left n _ (running d w rest f) h (running_counts d w f (block_in d f))
  acts w (Answering number ∷ rest) n h = absurd (cc)
  acts w (Calling call ∷ rest) n h = quiet_left n _ (calling_on d w call rest reply) h (done_within 0 (λ class. deeds.answer (shape_number d (nearest_shape d class)) call.method ∷ []) (class_in w.objects call.object) (λ class. omega arith))
  acts w (Constructing id [] held ∷ rest) n h = quiet rest n _ (constructing d w id [] held) h (none_at (λ place. deeds.construct place) _ (λ p. refl))
  acts w (Constructing id (s ∷ todo) held ∷ rest) n h = quiet rest n _ (constructing d w id (s ∷ todo) held) h (done_within 0 (λ place. construct_deeds place s) _ (λ place. constructs_uncounted place s))
  acts w (Building [] ∷ rest) n h = quiet rest n _ (building d w []) h (omega arith)
  acts w (Building (i ∷ items) ∷ rest) n h = quiet rest n _ (building d w (i ∷ items)) h (items_uncounted i)
  acts w (Handling request ∷ rest) n h = quiet rest n _ (request_step d w request) h (omega arith)
  acts w (Due number ∷ rest) n h = quiet rest n _ (sourcing d w number) h (done_within 0 (λ (s : Source). deeds.begin (source s.program) ∷ deeds.run s.program ∷ []) (source_of number w.sources) (λ s. omega arith))

  firsts : (c : Config) (o : Option ℕ) → first_of d reply c o ≡ Ok e → CountsSo c.counted (total counted (first_deeds d c o)) e
  firsts c None h = acts c.world c.agenda c.counted h
  firsts c (Some id) h = one c.agenda c.counted _ (finalising d c.world id) h (done_within 1 final_deeds (living c.world.objects id) finals_count)

  pub counts_so : (c : Config) → step d reply c ≡ Ok e → CountsSo c.counted (step_price d counted c) e
  counts_so c h = firsts c (next_unheld (mentions d c) c.world.objects) h
