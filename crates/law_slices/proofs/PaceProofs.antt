-- An uncounted step leaves one less to do, or is an extra one.
use Rattle.std.proofs.Common.{◌≡◌, refl, sym, ap, subst, ◌∙◌, ℕ, suc, ◌+◌, ◌≤◌, List, [], ◌∷◌, ◌++◌, Option, None, Some, Ok, arith}
use Rattle.std.specs.Prelude.{IfOk, nat_lt}
use Rattle.ui_machine.specs.declared.arm.Arm.TheVariants as arms
use Rattle.ui_machine.specs.Seq.{total}
use Rattle.ui_machine.specs.Definition.{Definition}
use Rattle.ui_machine.specs.Instructions.{running}
use Rattle.ui_machine.specs.Instructions.Peers.{calling_on}
use Rattle.ui_machine.specs.Outcome.{Answer}
use Rattle.ui_machine.specs.Rules.Accumulation.{ending, taking_entry}
use Rattle.ui_machine.specs.Rules.Build.{building}
use Rattle.ui_machine.specs.Rules.Construction.{constructing}
use Rattle.ui_machine.specs.Rules.EmissionPlan.{beginning_emission, notifying}
use Rattle.ui_machine.specs.Rules.MainLoop.{sourcing}
use Rattle.ui_machine.specs.Rules.NotifyQueue.{thawing}
use Rattle.ui_machine.specs.Rules.Transfers.{transferring, unsetting}
use Rattle.ui_machine.specs.Runs.{HasEnded}
use Rattle.ui_machine.specs.State.Config.{Config, Left, Started, World}
use Rattle.ui_machine.specs.State.Peers.{Reply}
use Rattle.ui_machine.specs.State.References.{mentions, next_unheld}
use Rattle.ui_machine.specs.State.Sources.{Source, source_of}
use Rattle.ui_machine.specs.State.Tasks.{Answering, Beginning, Building, Call, Calling, ConstructStep, Constructing, Due, Emission, Emitting, Handling, Item, Notifying, PlanEntry, Running, Setting, Task, Thawing, Transferring, Unsetting, adopts, binds, class_handler, connects, forwards, handler, makes, runs, sets, thaws}
use Rattle.ui_machine.specs.State.Tasks as config
use Rattle.ui_machine.specs.Steps.{act, before, finalising, first_of, left, most_steps, step}
use Rattle.ui_machine.specs.Steps as machine
use Rattle.law_typing.specs.Good.Standing.{Lives, standing}
use Rattle.law_typing.specs.Laws.StepsKeepGood.{IsGood}
use Rattle.law_typing.specs.Verdict.Accepted.{Accepted, Each}
use Rattle.law_steps.specs.Tasked.First.{at_first}
use Rattle.law_steps.proofs.Instructed.Inverse.{only}
use Rattle.machine_laws.proofs.KeptProofs.{kept_at}
use Rattle.law_prices.specs.Asked as asked
use Rattle.law_prices.specs.Deeds as deeds
use Rattle.law_prices.specs.Steps.{agenda_deeds, construct_deeds, done_by, first_deeds, settle_deeds, step_price, task_deeds, turn_deeds}
use Rattle.law_prices.proofs.Pays.{ok_is}
use Rattle.law_prices.proofs.TaskFalls.{counted_is, left_is, uncounted_is}
use Rattle.law_slices.specs.Lists.{extra}
use Rattle.law_slices.proofs.Paces.{adopts_child, binds_one, calls, connects_one, constructs, emits_request, ends_emission, gets_request, makes_object, pace, releases_request, runs_source, sets_forward, sets_one, sets_request, takes_entry}

turn_extra : (w : World) (place number : ℕ) (entry : PlanEntry) → 1 ≤ total extra (turn_deeds w place number entry)
turn_extra w place number (class_handler program cleanup) = omega arith
turn_extra w place number (handler n) = omega arith
turn_extra w place number (config.transfer n back) = omega arith

construct_extra : (place : ℕ) (s : ConstructStep) → 2 ≤ total extra (construct_deeds place s)
construct_extra place (sets slot v) = omega arith
construct_extra place (runs program) = omega arith
construct_extra place thaws = omega arith

module _ (d : Definition) (a : Accepted d) (most : ℕ) (reply : Option Reply) (e : Config) where
  -- ** a step that is counted, and one that is not

  module _ (rest : List Task) (n : ℕ) (quiet : e.counted ≡ n) where
    not_counted : {A : Type 0} (answer : Answer Started) → machine.counted rest n answer ≡ Ok e → A
    not_counted answer h = let s = counted_is rest n answer e h in let one = ap (λ (c : Config). c.counted) s.2 in absurd (omega (arith, one, quiet))

    not_left : {A : Type 0} (answer : Answer Left) → machine.counted_left n answer ≡ Ok e → A
    not_left answer h =
        let k = only (nat_lt n most_steps) arms.Steps (left (suc n) answer) e h in
        let l = left_is (suc n) answer e k.1 in
        let one = ap (λ (c : Config). c.counted) l.2 in
        absurd (omega (arith, one, quiet))

  paced : (rest : List Task) (n m : ℕ) (answer : Answer Started) → IfOk answer (λ s. pace (s.tasks ++ rest) ≤ m) → machine.uncounted rest n answer ≡ Ok e → pace e.agenda ≤ m
  paced rest n m answer low h =
      let s = uncounted_is rest n answer e h in
      let is = ap (λ (c : Config). pace c.agenda) s.2 in
      let few = kept_at (λ (s : Started). pace (s.tasks ++ rest) ≤ m) answer s.0 low s.1 in
      omega (arith, is, few)

  left_paced : (n m : ℕ) (answer : Answer Left) → IfOk answer (λ l. pace l.agenda ≤ m) → left n answer ≡ Ok e → pace e.agenda ≤ m
  left_paced n m answer low h =
      let l = left_is n answer e h in
      let is = ap (λ (c : Config). pace c.agenda) l.2 in
      let few = kept_at (λ (l : Left). pace l.agenda ≤ m) answer l.0 low l.1 in
      omega (arith, is, few)

  itself : (m : ℕ) → m ≤ m
  itself m = omega arith

  at_done : {A : Type 0} (f : A → List deeds.Deed) (o : Option A) (x : A) → o ≡ Some x → total extra (done_by f o) ≡ total extra (f x)
  at_done f o x is = ap (λ o. total extra (done_by f o)) is

  -- ** tasks

  tasks_pace : (task : Task) (w : World) (rest : List Task) (n : ℕ) → IsGood d a most (at_first w task rest n) → act d w reply (task ∷ rest) n ≡ Ok e → e.counted ≡ n →
      1 + pace e.agenda ≤ pace (task ∷ rest) + total extra (task_deeds d w task)
  tasks_pace (Setting id slot v) w rest n g h quiet = let low = paced rest n (pace rest) _ (sets_one d w rest (pace rest) (itself (pace rest)) id slot v) h in omega (arith, low)
  tasks_pace (Notifying id slot) w rest n g h quiet = not_counted rest n quiet (notifying d w id slot) h
  tasks_pace (Beginning em) w rest n g h quiet = not_counted rest n quiet (beginning_emission d w em) h
  tasks_pace (Emitting em []) w rest n g h quiet = let low = left_paced n (pace rest) (ending d w em rest) (ends_emission d w rest em) h in omega (arith, low)
  tasks_pace (Emitting em (entry ∷ entries)) w rest n g h quiet =
      let low = paced rest n (1 + pace rest) (taking_entry d w em entries entry) (takes_entry d w rest (1 + pace rest) (omega arith) (itself (1 + pace rest)) em entries entry) h in
      let is = at_done (λ place. turn_deeds w place em.signal entry) (standing w.objects em.object) g.agenda.3.fits.place g.agenda.3.fits.is in
      let one = turn_extra w g.agenda.3.fits.place em.signal entry in
      omega (arith, low, is, one)
  tasks_pace (Transferring number back) w rest n g h quiet = not_counted rest n quiet (transferring d w number back) h
  tasks_pace (Unsetting number) w rest n g h quiet = let low = paced rest n (pace rest) (unsetting w number) (itself (pace rest)) h in omega (arith, low)
  tasks_pace (Thawing id []) w rest n g h quiet = let low = paced rest n (pace rest) (thawing w id []) (itself (pace rest)) h in omega (arith, low)
  tasks_pace (Thawing id (slot ∷ slots)) w rest n g h quiet = let low = paced rest n 0 (thawing w id (slot ∷ slots)) (itself 0) h in omega (arith, low)
  tasks_pace (Running f) w rest n g h quiet = not_left rest n quiet (running d w rest f) h
  tasks_pace (Answering number) w rest n g h quiet = absurd (cc)
  tasks_pace (Calling call) w rest n g h quiet = let low = left_paced n 0 (calling_on d w call rest reply) (calls d w rest call reply) h in omega (arith, low)
  tasks_pace (Constructing id [] held) w rest n g h quiet =
      let low = paced rest n (1 + pace rest) (constructing d w id [] held) (constructs d w rest (1 + pace rest) (omega arith) (itself (1 + pace rest)) id [] held) h in
      let is = at_done (λ place. deeds.construct place ∷ []) (standing w.objects id) g.agenda.3.1.place g.agenda.3.1.is in
      omega (arith, low, is)
  tasks_pace (Constructing id (s ∷ todo) held) w rest n g h quiet =
      let low = paced rest n (1 + pace rest) (constructing d w id (s ∷ todo) held) (constructs d w rest (1 + pace rest) (omega arith) (itself (1 + pace rest)) id (s ∷ todo) held) h in
      let is = at_done (λ place. construct_deeds place s) (standing w.objects id) g.agenda.3.1.place g.agenda.3.1.is in
      let two = construct_extra g.agenda.3.1.place s in
      omega (arith, low, is, two)
  tasks_pace (Building []) w rest n g h quiet = let low = paced rest n (pace rest) (building d w []) (itself (pace rest)) h in omega (arith, low)
  tasks_pace (Building (makes place ∷ items)) w rest n g h quiet = let low = paced rest n (pace rest) _ (makes_object d w rest (pace rest) (itself (pace rest)) place items) h in omega (arith, low)
  tasks_pace (Building (adopts place ∷ items)) w rest n g h quiet = let low = paced rest n (pace rest) _ (adopts_child d w rest (pace rest) (itself (pace rest)) place items) h in omega (arith, low)
  tasks_pace (Building (forwards place slot to ∷ items)) w rest n g h quiet =
      let low = paced rest n (1 + pace rest) _ (sets_forward d w rest (1 + pace rest) (omega arith) (itself (1 + pace rest)) place slot to items) h in omega (arith, low)
  tasks_pace (Building (binds number ∷ items)) w rest n g h quiet = let low = paced rest n (pace rest) _ (binds_one d w rest (pace rest) (itself (pace rest)) number items) h in omega (arith, low)
  tasks_pace (Building (connects place number ∷ items)) w rest n g h quiet = let low = paced rest n (pace rest) _ (connects_one d w rest (pace rest) (itself (pace rest)) place number items) h in omega (arith, low)
  tasks_pace (Handling (config.set place slot given)) w rest n g h quiet =
      let low = paced rest n (1 + pace rest) _ (sets_request d w rest (1 + pace rest) (omega arith) (itself (1 + pace rest)) place slot given) h in omega (arith, low)
  tasks_pace (Handling (config.get place slot)) w rest n g h quiet = let low = paced rest n (pace rest) _ (gets_request d w rest (pace rest) (itself (pace rest)) place slot) h in omega (arith, low)
  tasks_pace (Handling (config.emit place signal args detail)) w rest n g h quiet =
      let low = paced rest n (pace rest) _ (emits_request d w rest (pace rest) (itself (pace rest)) place signal args detail) h in omega (arith, low)
  tasks_pace (Handling (config.release place)) w rest n g h quiet = let low = paced rest n (pace rest) _ (releases_request d w rest (pace rest) (itself (pace rest)) place) h in omega (arith, low)
  tasks_pace (Due number) w rest n g h quiet =
      let low = paced rest n (pace rest) (sourcing d w number) (runs_source d w rest (pace rest) (itself (pace rest)) number) h in
      let s = g.agenda.3.2.0 in
      let is = at_done (λ (s : Source). deeds.begin (asked.source s.program) ∷ deeds.run s.program ∷ []) (source_of number w.sources) s g.agenda.3.2.1 in
      omega (arith, low, is)

  -- ** steps

  pub step_paces : (c : Config) → IsGood d a most c → step d reply c ≡ Ok e → e.counted ≡ c.counted → (HasEnded d c → ⊥) → 1 + pace e.agenda ≤ pace c.agenda + step_price d extra c
  step_paces c g h quiet goes_on = go (next_unheld (mentions d c) c.world.objects) refl
    where
      at_end : (ids : List ℕ) → c.world.floating ≡ ids → c.agenda ≡ [] → next_unheld (mentions d c) c.world.objects ≡ None → 1 ≤ total extra (settle_deeds c.world c.world.floating)
      at_end [] is none held = absurd (goes_on (record { agenda = none; floating = is; held = held }))
      at_end (id ∷ ids) is none held =
          let l : Lives (standing c.world.objects) id = (subst (Each (Lives (standing c.world.objects))) is g.floating).0 in
          let there = at_done (λ place. deeds.settle place ∷ []) (standing c.world.objects id) l.place l.is in
          let all = ap (λ ids. total extra (settle_deeds c.world ids)) is in
          omega (arith, there, all)

      by : (tasks : List Task) → c.agenda ≡ tasks → IsGood d a most (record { world = c.world; agenda = tasks; counted = c.counted }) → next_unheld (mentions d c) c.world.objects ≡ None → act d c.world reply tasks c.counted ≡ Ok e →
          1 + pace e.agenda ≤ pace tasks + total extra (agenda_deeds d c.world tasks)
      by [] is g held h =
          let none = ap (λ (c : Config). pace c.agenda) (ok_is {E = _} _ e h) in
          let one = at_end c.world.floating refl is held in
          omega (arith, none, one)
      by (task ∷ rest) is g held h = tasks_pace task c.world rest c.counted g h quiet

      go : (o : Option ℕ) → next_unheld (mentions d c) c.world.objects ≡ o → 1 + pace e.agenda ≤ pace c.agenda + step_price d extra c
      go None is =
          let price = ap (λ o. total extra (first_deeds d c o)) is in
          let low = by c.agenda refl g is (ap (first_of d reply c) (sym is) ∙ h) in
          omega (arith, price, low)
      go (Some id) is = not_counted c.agenda c.counted quiet (finalising d c.world id) (ap (first_of d reply c) (sym is) ∙ h)
