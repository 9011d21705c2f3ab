-- All tasks, and so each step.
use Rattle.std.proofs.Common.{◌≡◌, refl, sym, ap, subst, ◌∙◌, ℕ, suc, ◌+◌, ◌≤◌, Bool, true, false, cond, List, [], ◌∷◌, Option, None, Some, Ok, arith}
use Rattle.std.specs.Prelude.{nat_eq}
use Rattle.ui_machine.specs.declared.arm.Arm.{Arm}
use Rattle.ui_machine.specs.Seq.{read, total}
use Rattle.ui_machine.specs.Definition.{Definition}
use Rattle.ui_machine.specs.Outcome.{Answer}
use Rattle.ui_machine.specs.Output.Lines as lines
use Rattle.ui_machine.specs.Rules.Disposal.{disposed, finalised}
use Rattle.ui_machine.specs.State.Config.{Config, World, said, starts, with_objects}
use Rattle.ui_machine.specs.State.Objects.{Object, living, put}
use Rattle.ui_machine.specs.State.Peers.{Reply}
use Rattle.ui_machine.specs.State.References.{mentions, next_unheld, unheld_from}
use Rattle.ui_machine.specs.State.Tasks.{Answering, Beginning, Building, Calling, Constructing, Due, Emitting, Handling, Notifying, Running, Setting, Task, Thawing, Transferring, Unsetting, adopts, binds, connects, forwards, makes, runs, sets, thaws}
use Rattle.ui_machine.specs.Steps.{act, before, counted, finalising, first_of, most_steps, sink_first_floating, step}
use Rattle.law_typing.specs.Graph.{graph}
use Rattle.law_typing.specs.Graph.Depths.{depth}
use Rattle.law_typing.specs.Graph.Tables.{Tables}
use Rattle.law_typing.specs.Laws.StepsKeepGood.{Fine, IsGood, Replies}
use Rattle.law_typing.specs.Laws.WellRead.{WellRead}
use Rattle.law_typing.specs.Verdict.Accepted.{Accepted}
use Rattle.law_steps.proofs.Instructed.Inverse.{bound}
use Rattle.law_steps.proofs.Tasked.First.{First}
use Rattle.law_steps.proofs.Tasked.StepsProofs.{steps_keep_good}
use Rattle.law_prices.specs.Deeds.{PriceList}
use Rattle.law_prices.specs.Falls.{PricesFall, StepIsPaid}
use Rattle.law_prices.specs.Paid.{Paid}
use Rattle.law_prices.specs.Potential.{potential}
use Rattle.law_prices.specs.Prices.{SolvesPrices}
use Rattle.law_prices.specs.Steps.{first_deeds, settle_deeds}
use Rattle.law_prices.proofs.BeginTasks.{beginning_pays, notifying_pays}
use Rattle.law_prices.proofs.BuildPays.{adopts_pays, binds_pays, built_pays, connects_pays, forwards_pays, makes_pays}
use Rattle.law_prices.proofs.ConstructPays.{construction_ends, thaw_step_pays}
use Rattle.law_prices.proofs.EasyTasks.{run_step_pays, set_step_pays, sourcing_pays, thawing_pays, turn_pays, unsetting_pays}
use Rattle.law_prices.proofs.EndTasks.{calling_pays, ending_pays}
use Rattle.law_prices.proofs.Pays.{ok_is}
use Rattle.law_prices.proofs.ProgramPays.{running_pays}
use Rattle.law_prices.proofs.RequestPays.{handling_pays}
use Rattle.law_prices.proofs.RestPays.{final_falls, final_paid, settling_falls}
use Rattle.law_prices.proofs.SetTasks.{setting_pays}
use Rattle.law_prices.proofs.TaskFalls.{Falls, PaidHere, counted_is}
use Rattle.law_prices.proofs.TransferTasks.{transferring_pays}

-- what nothing holds lives
pub unheld_lives : (m : ℕ → ℕ) (i : ℕ) (os : List (Option Object)) (id : ℕ) → unheld_from m i os ≡ Some id → (k : ℕ) × (id ≡ i + k) × (o : Object) × (read None os k ≡ Some o)
unheld_lives m i [] id e = absurd (cc)
unheld_lives m i (None ∷ os) id e = let h = unheld_lives m (suc i) os id e in let at = h.1 in (suc h.0, omega (arith, at), h.2, h.3)
unheld_lives m i (Some x ∷ os) id e = go (nat_eq (m i) 0) e (unheld_lives m (suc i) os id)
  where
    go : (b : Bool) → cond b (Some i) (unheld_from m (suc i) os) ≡ Some id → (unheld_from m (suc i) os ≡ Some id → (k : ℕ) × (id ≡ suc i + k) × (o : Object) × (read None os k ≡ Some o)) → (k : ℕ) × (id ≡ i + k) × (o : Object) × (read None (Some x ∷ os) k ≡ Some o)
    go true f rec = let s : i ≡ id = cc in (0, omega (arith, s), x, refl)
    go false f rec = let h = rec f in let at = h.1 in (suc h.0, omega (arith, at), h.2, h.3)

module _ (d : Definition) (P : PriceList) (t : Tables) (solves : SolvesPrices d P t) where
  -- each task is paid
  tasks_pay : (task : Task) (x : First d task) → PaidHere d P t x → (e : Config) → IsGood d x.a x.most_counted e → act d x.w x.reply (task ∷ x.rest) x.n ≡ Ok e → Falls d P t x e.world e.agenda
  tasks_pay (Setting id slot v) x paid e good h = setting_pays d P t id slot v x paid e h
  tasks_pay (Notifying id slot) x paid e good h = notifying_pays d P t solves id slot x paid e h
  tasks_pay (Beginning em) x paid e good h = beginning_pays d P t solves em x paid e h
  tasks_pay (Emitting em []) x paid e good h = ending_pays d P t solves em x paid e h
  tasks_pay (Emitting em (entry ∷ entries)) x paid e good h = turn_pays d P t solves em entries entry x paid e h
  tasks_pay (Transferring number back) x paid e good h = transferring_pays d P t number back x paid e h
  tasks_pay (Unsetting number) x paid e good h = unsetting_pays d P t number x paid e h
  tasks_pay (Thawing id slots) x paid e good h = thawing_pays d P t id slots x paid e h
  tasks_pay (Running f) x paid e good h = running_pays d P t solves f x paid e good h
  tasks_pay (Answering source) x paid e good h = absurd (cc)
  tasks_pay (Calling call) x paid e good h = calling_pays d P t call x paid e h
  tasks_pay (Constructing id [] held) x paid e good h = construction_ends d P t solves id held x paid e h
  tasks_pay (Constructing id (sets slot v ∷ steps) held) x paid e good h = set_step_pays d P t solves id slot v steps held x paid e h
  tasks_pay (Constructing id (runs program ∷ steps) held) x paid e good h = run_step_pays d P t solves id program steps held x paid e h
  tasks_pay (Constructing id (thaws ∷ steps) held) x paid e good h = thaw_step_pays d P t solves id steps held x paid e h
  tasks_pay (Building []) x paid e good h = built_pays d P t x paid e h
  tasks_pay (Building (makes place ∷ items)) x paid e good h = makes_pays d P t solves place items x paid e h
  tasks_pay (Building (adopts place ∷ items)) x paid e good h = adopts_pays d P t place items x paid e h
  tasks_pay (Building (forwards place slot to ∷ items)) x paid e good h = forwards_pays d P t place slot to items x paid e h
  tasks_pay (Building (binds number ∷ items)) x paid e good h = binds_pays d P t number items x paid e h
  tasks_pay (Building (connects place number ∷ items)) x paid e good h = connects_pays d P t place number items x paid e good h
  tasks_pay (Handling request) x paid e good h = handling_pays d P t request x paid e h
  tasks_pay (Due number) x paid e good h = sourcing_pays d P t solves number x paid e h

  module _ (well : WellRead d) (a : Accepted d) (most_counted : ℕ) (within : most_counted ≤ most_steps) (reply : Option Reply) where
    -- what is good of what a step leads to
    fine_is : (answer : Answer Config) (e : Config) → answer ≡ Ok e → Fine d a.weighed.costs a.weighed.depths most_counted (depth (graph d) a.weighed.depths) answer → IsGood d a most_counted e
    fine_is answer e is fine = subst (Fine d a.weighed.costs a.weighed.depths most_counted (depth (graph d) a.weighed.depths)) is fine

    -- where nothing is to be finalised
    task_taken : (c : Config) → IsGood d a most_counted c → Paid d a c → Replies d c reply → next_unheld (mentions d c) c.world.objects ≡ None → (e : Config) → IsGood d a most_counted e → act d c.world reply c.agenda c.counted ≡ Ok e →
        (total P (first_deeds d c None) + potential d P t e ≤ potential d P t c) × Paid d a e
    task_taken c g paid replies settled e good h = go c.agenda g paid replies settled h
      where
        go : (tasks : List Task) → IsGood d a most_counted (record { world = c.world; agenda = tasks; counted = c.counted }) → Paid d a (record { world = c.world; agenda = tasks; counted = c.counted }) →
            Replies d (record { world = c.world; agenda = tasks; counted = c.counted }) reply → next_unheld (mentions d (record { world = c.world; agenda = tasks; counted = c.counted })) c.world.objects ≡ None →
            act d c.world reply tasks c.counted ≡ Ok e →
            (total P (first_deeds d (record { world = c.world; agenda = tasks; counted = c.counted }) None) + potential d P t e ≤ potential d P t (record { world = c.world; agenda = tasks; counted = c.counted })) × Paid d a e
        go [] g paid replies settled h =
            subst (λ (e : Config). (total P (settle_deeds c.world c.world.floating) + potential d P t e ≤ potential d P t (record { world = c.world; agenda = []; counted = c.counted })) × Paid d a e) (ok_is {E = Arm} _ e h)
            (settling_falls d P t c.world c.world.floating refl, rests c.world.floating)
          where
            rests : (ids : List ℕ) → Paid d a (record { world = sink_first_floating c.world ids; agenda = []; counted = c.counted })
            rests [] = paid
            rests (id ∷ ids) = paid
        go (task ∷ rest) g paid replies settled h =
            let x : First d task = record { well = well; a = a; most_counted = most_counted; within = within; w = c.world; rest = rest; n = c.counted; g = g; settled = settled; reply = reply; replies = replies } in
            let falls = tasks_pay task x paid e good h in
            (falls.falls, falls.paid)

    -- where one is
    finalised_falls : (c : Config) → IsGood d a most_counted c → Paid d a c → (n : ℕ) (o : Object) → living c.world.objects (suc n) ≡ Some o → (e : Config) → counted c.agenda c.counted (finalising d c.world (suc n)) ≡ Ok e →
        (total P (first_deeds d c (Some (suc n))) + potential d P t e ≤ potential d P t c) × Paid d a e
    unfolding finalising finalised
    finalised_falls c g paid n o there e h =
        let s = counted_is c.agenda c.counted (finalising d c.world (suc n)) e h in
        let last = bound (finalised d c.world (suc n)) (λ (v : World). starts v []) s.0 s.1 in
        let v = bound (disposed d c.world (suc n)) (λ (v : World). Ok (said d (with_objects v (put v.objects (suc n) None)) (lines.final (suc n)))) last.0 last.1 in
        let after : said d (with_objects v.0 (put v.0.objects (suc n) None)) (lines.final (suc n)) ≡ last.0 = ok_is {E = Arm} _ last.0 v.2 in
        let leads : record { world = last.0; tasks = [] } ≡ s.0 = ok_is {E = Arm} (record { world = last.0; tasks = [] }) s.0 last.2 in
        let is = ap (λ (w : World). before c.agenda (suc c.counted) (record { world = w; tasks = [] })) after ∙ (ap (before c.agenda (suc c.counted)) leads ∙ s.2) in
        subst (λ (e : Config). (total P (first_deeds d c (Some (suc n))) + potential d P t e ≤ potential d P t c) × Paid d a e) is
        (final_falls d P t a most_counted c g n o there paid v.0 v.1, final_paid d P t a most_counted c g n o there paid v.0 v.1)

    step_falls : (c : Config) → IsGood d a most_counted c → Paid d a c → Replies d c reply → (e : Config) → step d reply c ≡ Ok e → StepIsPaid d a P t c e
    step_falls c g paid replies e h = go (next_unheld (mentions d c) c.world.objects) refl
      where
        good : IsGood d a most_counted e
        good = fine_is (step d reply c) e h (steps_keep_good d well a most_counted within c g reply replies)

        go : (o : Option ℕ) → next_unheld (mentions d c) c.world.objects ≡ o → StepIsPaid d a P t c e
        go None settled =
            let falls = task_taken c g paid replies settled e good (ap (first_of d reply c) (sym settled) ∙ h) in
            let price = ap (λ o. total P (first_deeds d c o)) settled in
            let less = falls.0 in
            record { falls = omega (arith, price, less); paid = falls.1 }
        go (Some id) unheld =
            let u = unheld_lives (mentions d c) 1 c.world.objects id unheld in
            let at : id ≡ suc u.0 = (let e = u.1 in omega (arith, e)) in
            let there = unheld ∙ ap Some at in
            let falls = finalised_falls c g paid u.0 u.2 u.3 e (ap (first_of d reply c) (sym there) ∙ h) in
            let price = ap (λ o. total P (first_deeds d c o)) there in
            let less = falls.0 in
            record { falls = omega (arith, price, less); paid = falls.1 }

pub prices_fall : PricesFall
prices_fall d well a P t solves most_counted within c g paid reply replies e h = step_falls d P t solves well a most_counted within reply c g paid replies e h
