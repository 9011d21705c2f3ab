-- A dispatch begins no more emissions at a channel, and a program no more often, than its bounds say.
use Rattle.std.proofs.Common.{subst, ℕ, zero, suc, ◌≤◌, Bool, true, false, cond, nat_eq, List, [], ◌∷◌, Option, None, Some, arith}
use Rattle.std.specs.Prelude.{nat_lt, option_and_then, option_map}
use Rattle.ui_machine.specs.Seq.{total}
use Rattle.ui_machine.specs.Definition.{Definition}
use Rattle.ui_machine.specs.Rules.Programs.{place_in}
use Rattle.ui_machine.specs.Runs.{Fits, Steps}
use Rattle.ui_machine.specs.State.Config.{Config, World}
use Rattle.ui_machine.specs.State.Handlers.{Handler, handler_of}
use Rattle.ui_machine.specs.State.Peers.{Reply}
use Rattle.ui_machine.specs.State.References.{mentions, next_unheld}
use Rattle.ui_machine.specs.State.Sources.{Source, source_of}
use Rattle.ui_machine.specs.State.Tasks.{Answering, Beginning, Building, Calling, ConstructStep, Constructing, Due, Emission, Emitting, Handling, Notifying, PlanEntry, Running, Setting, Task, Thawing, Transferring, Unsetting, class_handler, handler}
use Rattle.ui_machine.specs.State.Tasks as config
use Rattle.ui_machine.specs.Steps.{most_steps}
use Rattle.law_typing.specs.Good.Standing.{standing}
use Rattle.law_typing.specs.Graph.Channels.{Channel, property, same_channel, signal}
use Rattle.law_typing.specs.Laws.StepsKeepGood.{IsGood}
use Rattle.law_typing.specs.Laws.WellRead.{WellRead}
use Rattle.law_typing.specs.Verdict.Accepted.{Accepted, Each}
use Rattle.law_steps.specs.Served.Sessions.{beginning_of}
use Rattle.law_steps.proofs.Served.DispatchProofs.{one_step}
use Rattle.law_steps.proofs.Tasked.StepsProofs.{steps_keep_good}
use Rattle.law_prices.specs.Asked as asked
use Rattle.law_prices.specs.Begun.{EmissionsAreWithin, ProgramsAreWithin, begun_after, begun_by_step, emission_begun, passes, program_begun, times_begun, unblocked_program}
use Rattle.law_prices.specs.Deeds.{PriceList}
use Rattle.law_prices.specs.Deeds as deeds
use Rattle.law_prices.specs.Dispatches.{OfDispatches, steps_price}
use Rattle.law_prices.specs.Bounds.{Within}
use Rattle.law_prices.specs.Lists.{emissions, runs}
use Rattle.law_prices.specs.Steps.{agenda_deeds, construct_deeds, done_by, first_deeds, step_price, turn_deeds}
use Rattle.law_prices.proofs.BoundProofs.{within}
use Rattle.law_prices.proofs.DispatchPays.{begins_at, dispatches_pay, first_fits}
use Rattle.law_prices.proofs.TaskFalls.{done_is}

-- ** whatever is begun

module _ {A : Type 0} (begun : World → List Task → Option A) (test : A → Bool) (P : PriceList) where
  -- what first tasks begin is paid for
  abbrev TasksPay : Definition → Type 0
  TasksPay d = (a : Accepted d) (most : ℕ) (w : World) (tasks : List Task) (n : ℕ) → IsGood d a most (record { world = w; agenda = tasks; counted = n }) →
      cond (passes test (begun w tasks)) 1 0 ≤ total P (agenda_deeds d w tasks)

  module _ (d : Definition) (pay : TasksPay d) (a : Accepted d) (most : ℕ) where
    -- so is what a step begins
    step_pays : (c : Config) → IsGood d a most c → cond (passes test (begun_by_step begun d c)) 1 0 ≤ step_price d P c
    step_pays c g = go (next_unheld (mentions d c) c.world.objects)
      where
        go : (o : Option ℕ) → cond (passes test (begun_after begun c o)) 1 0 ≤ total P (first_deeds d c o)
        go None = pay a most c.world c.agenda c.counted g
        go (Some id) = omega arith

    -- so is what some steps begin
    steps_pay : WellRead d → most ≤ most_steps → (n : ℕ) (replies : List Reply) → Each (Fits d) replies → (c e : Config) → IsGood d a most c → (s : Steps d n replies c e) →
        times_begun begun test d n replies c e s ≤ steps_price d P n replies c e s
    steps_pay well few zero replies fit c e good s = omega arith
    steps_pay well few (suc n) replies fit c e good s =
        let both = first_fits d s.reply s.later (subst (Each (Fits d)) s.replied fit) in
        let next = one_step steps_keep_good d well a most few c s.mid good s.reply both.0 s.step in
        let one = step_pays c good in
        let rest = steps_pay well few n s.later both.1 s.mid e next s.follows in
        omega (arith, one, rest)

  -- so a dispatch begins no more than its bound says
  begun_within : ((d : Definition) → TasksPay d) → OfDispatches (λ d e n replies c at s. Within d P e (times_begun begun test d n replies c at s))
  begun_within pay d well a peers ready events read x replies fit n at s =
      within d a P _ _
      (λ t solves.
      let b = begins_at d well a P t solves peers ready events read x in
      let pays = dispatches_pay d well a peers ready events read x replies fit n at s P t solves in
      let low = steps_pay d (pay d) a b.most well b.few n replies fit (beginning_of x) at b.good s in
      omega (arith, pays, low))

-- ** emissions

module _ (channel : Channel) where
  -- a notification at its place
  notify_pays : (slot : ℕ) (o : Option ℕ) → cond (passes (same_channel channel) (option_map (λ place. property place slot) o)) 1 0 ≤ total (emissions channel) (done_by (λ place. deeds.notify place slot ∷ []) o)
  notify_pays slot None = omega arith
  notify_pays slot (Some place) = omega arith

  -- another signal at its place
  emit_pays : (number : ℕ) (o : Option ℕ) → cond (passes (same_channel channel) (option_map (λ place. signal place number) o)) 1 0 ≤ total (emissions channel) (done_by (λ place. deeds.emit place number ∷ []) o)
  emit_pays number None = omega arith
  emit_pays number (Some place) = omega arith

  -- each emission is paid for by its beginning
  emissions_pay : (d : Definition) → TasksPay emission_begun (same_channel channel) (emissions channel) d
  emissions_pay d a most w (Notifying id slot ∷ rest) n g = notify_pays slot (place_in w.objects id)
  emissions_pay d a most w (Beginning e ∷ rest) n g = emit_pays e.signal (place_in w.objects e.object)
  emissions_pay d a most w [] n g = omega arith
  emissions_pay d a most w (Setting id slot v ∷ rest) n g = omega arith
  emissions_pay d a most w (Emitting e turns ∷ rest) n g = omega arith
  emissions_pay d a most w (Transferring number back ∷ rest) n g = omega arith
  emissions_pay d a most w (Unsetting number ∷ rest) n g = omega arith
  emissions_pay d a most w (Thawing id slots ∷ rest) n g = omega arith
  emissions_pay d a most w (Running f ∷ rest) n g = omega arith
  emissions_pay d a most w (Answering source ∷ rest) n g = omega arith
  emissions_pay d a most w (Calling call ∷ rest) n g = omega arith
  emissions_pay d a most w (Constructing id steps held ∷ rest) n g = omega arith
  emissions_pay d a most w (Building items ∷ rest) n g = omega arith
  emissions_pay d a most w (Handling request ∷ rest) n g = omega arith
  emissions_pay d a most w (Due source ∷ rest) n g = omega arith

pub emissions_are_within : EmissionsAreWithin
emissions_are_within d well a peers ready events read x replies fit n at s channel =
    begun_within emission_begun (same_channel channel) (emissions channel) (emissions_pay channel) d well a peers ready events read x replies fit n at s

-- ** programs

module _ (program : ℕ) where
  abbrev is_it : ℕ → Bool
  is_it q = nat_eq q program

  -- a handler's program, which is not begun where it is blocked
  handler_pays : (o : Option Handler) → cond (passes is_it (option_and_then unblocked_program o)) 1 0 ≤ total (runs program) (done_by (λ (h : Handler). deeds.run h.program ∷ []) o)
  handler_pays None = omega arith
  handler_pays (Some h) = go (nat_lt 0 h.blocks)
    where
      go : (b : Bool) → cond (passes is_it (cond b None (Some h.program))) 1 0 ≤ total (runs program) (deeds.run h.program ∷ [])
      go true = omega arith
      go false = omega arith

  -- a source's program
  source_pays : (o : Option Source) → cond (passes is_it (option_map (λ (s : Source). s.program) o)) 1 0
      ≤ total (runs program) (done_by (λ (s : Source). deeds.begin (asked.source s.program) ∷ deeds.run s.program ∷ []) o)
  source_pays None = omega arith
  source_pays (Some s) = omega arith

  module _ (d : Definition) (a : Accepted d) (most : ℕ) (w : World) (rest : List Task) (n : ℕ) where
    -- a turn begins its program
    turns_pay : (e : Emission) (turns : List PlanEntry) → IsGood d a most (record { world = w; agenda = Emitting e turns ∷ rest; counted = n }) →
        cond (passes is_it (program_begun w (Emitting e turns ∷ rest))) 1 0 ≤ total (runs program) (agenda_deeds d w (Emitting e turns ∷ rest))
    turns_pay e [] g = omega arith
    turns_pay e (config.transfer number back ∷ turns) g = omega arith
    turns_pay e (class_handler q cleanup ∷ turns) g =
        let is = done_is d (runs program) a.weighed.costs (λ place. turn_deeds w place e.signal (class_handler q cleanup)) (standing w.objects e.object) g.agenda.3.fits.place g.agenda.3.fits.is in
        omega (arith, is)
    turns_pay e (handler number ∷ turns) g =
        let is = done_is d (runs program) a.weighed.costs (λ place. turn_deeds w place e.signal (handler number)) (standing w.objects e.object) g.agenda.3.fits.place g.agenda.3.fits.is in
        let one = handler_pays (handler_of number w.handlers) in
        omega (arith, is, one)

    -- a construction its own
    constructs_pay : (id : ℕ) (steps : List ConstructStep) (held : Bool) → IsGood d a most (record { world = w; agenda = Constructing id steps held ∷ rest; counted = n }) →
        cond (passes is_it (program_begun w (Constructing id steps held ∷ rest))) 1 0 ≤ total (runs program) (agenda_deeds d w (Constructing id steps held ∷ rest))
    constructs_pay id [] held g = omega arith
    constructs_pay id (config.sets slot v ∷ steps) held g = omega arith
    constructs_pay id (config.thaws ∷ steps) held g = omega arith
    constructs_pay id (config.runs q ∷ steps) held g =
        let is = done_is d (runs program) a.weighed.costs (λ place. construct_deeds place (config.runs q)) (standing w.objects id) g.agenda.3.1.place g.agenda.3.1.is in
        omega (arith, is)

  -- each program is paid for as it begins
  programs_pay : (d : Definition) → TasksPay program_begun is_it (runs program) d
  programs_pay d a most w (Emitting e turns ∷ rest) n g = turns_pay d a most w rest n e turns g
  programs_pay d a most w (Constructing id steps held ∷ rest) n g = constructs_pay d a most w rest n id steps held g
  programs_pay d a most w (Due number ∷ rest) n g = source_pays (source_of number w.sources)
  programs_pay d a most w [] n g = omega arith
  programs_pay d a most w (Setting id slot v ∷ rest) n g = omega arith
  programs_pay d a most w (Notifying id slot ∷ rest) n g = omega arith
  programs_pay d a most w (Beginning e ∷ rest) n g = omega arith
  programs_pay d a most w (Transferring number back ∷ rest) n g = omega arith
  programs_pay d a most w (Unsetting number ∷ rest) n g = omega arith
  programs_pay d a most w (Thawing id slots ∷ rest) n g = omega arith
  programs_pay d a most w (Running f ∷ rest) n g = omega arith
  programs_pay d a most w (Answering source ∷ rest) n g = omega arith
  programs_pay d a most w (Calling call ∷ rest) n g = omega arith
  programs_pay d a most w (Building items ∷ rest) n g = omega arith
  programs_pay d a most w (Handling request ∷ rest) n g = omega arith

pub programs_are_within : ProgramsAreWithin
programs_are_within d well a peers ready events read x replies fit n at s program =
    begun_within program_begun (λ q. nat_eq q program) (runs program) (programs_pay program) d well a peers ready events read x replies fit n at s
