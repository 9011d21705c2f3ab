-- How the machine follows the engine: it passes over the turns of handlers that are gone or blocked, and of bindings that set or have ended,
-- and then does the same step.
use Rattle.std.proofs.Common.{◌≡◌, ◌∙◌, refl, sym, ap, subst, ℕ, Bool, true, false, cond, List, [], ◌∷◌, ◌++◌, Option, None, Some, Ok, Err}
use Rattle.std.specs.Prelude.{IfOk, slice_get, ◌||◌}
use Rattle.ui_machine.specs.declared.arm.Arm.{Arm}
use Rattle.ui_machine.specs.declared.arm.Arm.TheVariants as arms
use Rattle.ui_machine.specs.Definition.{Definition}
use Rattle.ui_machine.specs.Outcome.{Answer, known}
use Rattle.ui_machine.specs.Rules.Accumulation.{given_to, running_handler}
use Rattle.ui_machine.specs.Rules.Build.{building_binding, first_transfer, held_object, new_binding, with_binding}
use Rattle.ui_machine.specs.Rules.Programs.{program_before}
use Rattle.ui_machine.specs.Rules.Sets.{is_disposed}
use Rattle.ui_machine.specs.Runs.{Reaches}
use Rattle.ui_machine.specs.Rules.Transfers.{transfer_for}
use Rattle.ui_machine.specs.State.Bindings.{Binding, binding_of}
use Rattle.ui_machine.specs.State.Config.{Config, Started, World, starts}
use Rattle.ui_machine.specs.State.Handlers.{Handler, handler_of}
use Rattle.ui_machine.specs.State.Objects.{living}
use Rattle.ui_machine.specs.State.Peers.{Reply}
use Rattle.ui_machine.specs.State.References.{mentions, next_unheld}
use Rattle.ui_machine.specs.State.Tasks.{Building, Emission, Emitting, Item, PlanEntry, Task, Transferring, binds, class_handler, handler, transfer}
use Rattle.ui_machine.specs.Steps.{act, asked_after, asked_first, before, first_of, question, step, uncounted}
use Rattle.machine_laws.specs.FrontLaws.{mapped}
use Rattle.machine_laws.specs.GoneLaws.{AreStillGone, Gone, gone_in, is_next, makes_binding, pruned_at}
use Rattle.machine_laws.proofs.GoneProofs.{pruned_again, question_does_without, step_does_without, unheld_as}
use Rattle.machine_laws.proofs.KeptSteps.{steps_keep_gone}
use Rattle.signal_core.specs.Laws.{is_passed_over}
use Rattle.engine_world.specs.Able.{LeadsToLiving}
use Rattle.engine_world.specs.Standing.{Arrives, Follows, entries_due, gone_handlers, makes_no_transfer, with_first, without_gone}
use Rattle.law_peers.specs.Forgetting.{forgotten_at}
use Rattle.law_peers.proofs.ForgettingProofs.{question_forgets, step_forgets}
use Rattle.law_steps.specs.Served.Dispatches.{IsUnstuck}
use Rattle.engine_dispatches.specs.Following.{Point}
use Rattle.engine_dispatches.specs.Safety.{ComesOfSafe, NoneUnheld}
use Rattle.engine_world.proofs.Gone.{first_stands, handlers_are_gone, with_first_stays}
use Rattle.engine_world.proofs.Floats.{bind_ok, if_ok_at}
use Rattle.engine_dispatches.proofs.Lifting.{asks_none, leads, lift, lift_step}
use Rattle.engine_dispatches.proofs.Named.{names_alike}
use Rattle.engine_dispatches.proofs.Reaching.{reaches_here, reaches_on, reaches_once}

-- a configuration whose first task is past the turns that are passed over
abbrev pub at_first : Config → Config
at_first c = record c { agenda = with_first c.world c.agenda }

pub stuck : {A B : Type 0} (f : A → B) (a : Answer A) (arm : Arm) → mapped f a ≡ Err arm → a ≡ Err arm
stuck f (Ok y) arm is = absurd (cc is)
stuck f (Err other) arm is = cc is

module _ (d : Definition) where
  -- ** turns that are passed over

  module _ (w : World) (e : Emission) (rest : List Task) (n : ℕ) where
    abbrev emitting : List PlanEntry → Config
    emitting entries = record { world = w; agenda = Emitting e entries ∷ rest; counted = n }

    passed : (number : ℕ) (entries : List PlanEntry) → is_passed_over (handler_of number w.handlers) ≡ true
        → act d w None (Emitting e (handler number ∷ entries) ∷ rest) n ≡ Ok (emitting entries)
    passed number entries over = ap (uncounted rest n) (by (handler_of number w.handlers) over)
      where
        by : (o : Option Handler) → is_passed_over o ≡ true → running_handler d w e entries o ≡ starts w (Emitting e entries ∷ [])
        by None over = refl
        by (Some h) over = ap (λ b. cond b (starts w (Emitting e entries ∷ [])) (program_before d w h.program (given_to e h) (Emitting e entries ∷ []))) over

    passed_transfer : (number : ℕ) (back : Bool) (entries : List PlanEntry) → makes_no_transfer (binding_of number w.bindings) ≡ true
        → act d w None (Emitting e (transfer number back ∷ entries) ∷ rest) n ≡ Ok (emitting entries)
    passed_transfer number back entries over = ap (uncounted rest n) (by (binding_of number w.bindings) over)
      where
        by : (o : Option Binding) → makes_no_transfer o ≡ true → starts w (transfer_for o number back ++ Emitting e entries ∷ []) ≡ starts w (Emitting e entries ∷ [])
        by None over = refl
        by (Some b) over = ap (λ x. starts w (cond x [] (Transferring number back ∷ []) ++ Emitting e entries ∷ [])) over

    -- an entry that is passed over, or comes first
    passes_one : (entry : PlanEntry) (entries : List PlanEntry) → NoneUnheld d (emitting (entry ∷ entries)) → (b : Bool)
        → (b ≡ true → act d w None (Emitting e (entry ∷ entries) ∷ rest) n ≡ Ok (emitting entries)) → Reaches d [] (emitting entries) (emitting (entries_due w entries))
        → Reaches d [] (emitting (entry ∷ entries)) (emitting (cond b (entries_due w entries) (entry ∷ entries)))
    passes_one entry entries none true over later =
        reaches_on d (reaches_once d (record { asks = ap (asked_after (emitting (entry ∷ entries))) none; leads = ap (first_of d None (emitting (entry ∷ entries))) none ∙ over refl })) later
    passes_one entry entries none false over later = reaches_here d (emitting (entry ∷ entries))

    passes : (entries : List PlanEntry) → NoneUnheld d (emitting entries) → Reaches d [] (emitting entries) (emitting (entries_due w entries))
    passes [] none = reaches_here d (emitting [])
    passes (class_handler program cleanup ∷ entries) none = reaches_here d (emitting (class_handler program cleanup ∷ entries))
    passes (transfer number back ∷ entries) none =
        passes_one (transfer number back) entries none (makes_no_transfer (binding_of number w.bindings)) (passed_transfer number back entries) (passes entries none)
    passes (handler number ∷ entries) none =
        passes_one (handler number) entries none (is_passed_over (handler_of number w.handlers)) (passed number entries) (passes entries none)

  -- the first task comes first by uncounted steps
  comes_first : (w : World) (agenda : List Task) (n : ℕ) → NoneUnheld d (record { world = w; agenda = agenda; counted = n })
      → Reaches d [] (record { world = w; agenda = agenda; counted = n }) (record { world = w; agenda = with_first w agenda; counted = n })
  comes_first w [] n none = reaches_here d _
  comes_first w (Emitting e entries ∷ rest) n none = passes w e rest n entries none
  comes_first w (task ∷ rest) n none = reaches_here d (record { world = w; agenda = task ∷ rest; counted = n })

  -- and nothing is unheld then that was not before
  first_holds : (w : World) (agenda : List Task) (n : ℕ) → NoneUnheld d (record { world = w; agenda = agenda; counted = n })
      → NoneUnheld d (record { world = w; agenda = with_first w agenda; counted = n })
  first_holds w [] n none = none
  first_holds w (Emitting e entries ∷ rest) n none = none
  first_holds w (task ∷ rest) n none = none

  first_asks : (w : World) (agenda : List Task) → asked_first w (with_first w agenda) ≡ asked_first w agenda
  first_asks w [] = refl
  first_asks w (Emitting e entries ∷ rest) = refl
  first_asks w (task ∷ rest) = refl

  -- ** handlers that are gone stay so

  module _ (w : World) where
    SameHandlers : World → Type 0
    SameHandlers v = (v.handlers ≡ w.handlers) × (v.last_handler ≡ w.last_handler)

    gone_as : (v : World) → SameHandlers v → AreStillGone (gone_handlers w) (gone_handlers v)
    unfolding SameHandlers
    gone_as v same = let handlers = same.0 in let last = same.1 in record { handlers = λ number is. rw (handlers, last) is; bindings = λ number is. is }

    -- also where the build makes a binding
    binding_same : (number : ℕ) (items : List Item) → IfOk (building_binding d w number items) (λ s. SameHandlers s.world)
    unfolding building_binding SameHandlers
    binding_same number items =
        bind_ok (known arms.Code (slice_get d.bindings number)) _ P (λ b _. bind_ok (held_object w b.source) _ P (λ source _. bind_ok (held_object w b.target) _ P (λ target _.
        by (is_disposed (living w.objects source) || is_disposed (living w.objects target)) (new_binding number b source target) (first_transfer number b))))
      where
        P : Started → Type 0
        P = λ s. SameHandlers s.world

        by : (late : Bool) (b : Binding) (ts : List Task) → IfOk (cond late (starts w (Building items ∷ [])) (starts (with_binding w b) (ts ++ Building items ∷ []))) P
        by true b ts = (refl, refl)
        by false b ts = (refl, refl)

    led_same : (rest : List Task) (n : ℕ) (a : Answer Started) → IfOk a (λ s. SameHandlers s.world) → (x : Config) → uncounted rest n a ≡ Ok x → SameHandlers x.world
    led_same rest n (Ok s) same x is = let led : before rest n s ≡ x = cc is in subst (λ (y : Config). SameHandlers y.world) led same
    led_same rest n (Err arm) same x is = cc is

    acts_same : (reply : Option Reply) (agenda : List Task) (n : ℕ) (x : Config) → makes_binding agenda ≡ true → act d w reply agenda n ≡ Ok x → SameHandlers x.world
    acts_same reply (Building (binds number ∷ items) ∷ rest) n x makes is = led_same rest n (building_binding d w number items) (binding_same number items) x is
    acts_same reply other n x never is = absurd (cc never)

  handlers_stay : (reply : Option Reply) (c x : Config) → step d reply c ≡ Ok x → AreStillGone (gone_handlers c.world) (gone_handlers x.world)
  handlers_stay reply c x is = by (makes_binding c.agenda) refl (next_unheld (mentions d c) c.world.objects) refl
    where
      kept : (next_unheld (mentions d c) c.world.objects ≡ None → makes_binding c.agenda ≡ false) → AreStillGone (gone_handlers c.world) (gone_handlers x.world)
      kept apart =
          let stay = if_ok_at (λ (y : Config). AreStillGone (gone_in c.world) (gone_in y.world)) (step d reply c) x (steps_keep_gone d reply c apart) is in
          record { handlers = stay.handlers; bindings = λ number never. never }

      by : (makes : Bool) → makes_binding c.agenda ≡ makes → (unheld : Option ℕ) → next_unheld (mentions d c) c.world.objects ≡ unheld → AreStillGone (gone_handlers c.world) (gone_handlers x.world)
      by false none unheld at = kept (λ _. none)
      by true makes (Some id) at = kept (λ none. let never : ◌≡◌ {A = Option ℕ} (Some id) None = sym at ∙ none in absurd (cc never))
      by true makes None at = gone_as c.world x.world (acts_same c.world reply c.agenda c.counted x makes (sym (ap (first_of d reply c) at) ∙ is))

  -- ** steps of the machine that the engine's denote

  module _ (c m : Config) (stands : without_gone m ≡ c) where
    same_world : m.world ≡ c.world
    same_world = ap (λ (x : Config). x.world) stands

    gone : Gone
    gone = gone_handlers m.world

    -- the first turn is of none that is gone
    abbrev pub IsApart : Type 0
    IsApart = next_unheld (mentions d m) m.world.objects ≡ None → is_next (gone_handlers m.world) m.agenda ≡ false

    -- one step
    pub steps_so : (reply : Option Reply) → IsApart → step d reply c ≡ mapped (pruned_at (gone_handlers m.world)) (step d reply m)
    steps_so reply apart = ap (step d reply) (sym stands) ∙ step_does_without (gone_handlers m.world) d reply m (handlers_are_gone m.world) apart

    pub asks_so : question d m ≡ question d c
    asks_so = sym (question_does_without (gone_handlers m.world) d m) ∙ ap (question d) stands

    pub unheld_so : next_unheld (mentions d m) m.world.objects ≡ next_unheld (mentions d c) c.world.objects
    unheld_so = sym (unheld_as (gone_handlers m.world) d m) ∙ ap (λ (x : Config). next_unheld (mentions d x) x.world.objects) stands

    -- with a reply the machine comes to where the engine does
    pub comes_by : (reply : Option Reply) (x : Config) → IsApart → step d reply c ≡ Ok x → (y : Config) × (step d reply m ≡ Ok y) × (without_gone y ≡ without_gone x)
    comes_by reply x apart leads_to =
        let to = leads (pruned_at (gone_handlers m.world)) (step d reply m) x (sym (steps_so reply apart) ∙ leads_to) in
        let world : to.0.world ≡ x.world = ap (λ (y : Config). y.world) to.2 in
        let stay = handlers_stay reply c x leads_to in
        let more = subst (λ (w : World). AreStillGone (gone_handlers w) (gone_handlers x.world)) (sym same_world) stay in (
          to.0,
          to.1,
          ap (λ (w : World). pruned_at (gone_handlers w) to.0) world
              ∙ sym (pruned_again (gone_handlers m.world) (gone_handlers x.world) more to.0)
              ∙ ap (pruned_at (gone_handlers x.world)) to.2,
        )

    arrives_by : (x : Config) → IsApart → question d c ≡ None → step d None c ≡ Ok x → Arrives d m (without_gone x)
    arrives_by x apart asks leads_to =
        let to = comes_by None x apart leads_to in
        record { at = to.0; reached = reaches_once d (record { asks = asks_so ∙ asks; leads = to.1 }); stands = to.2 }

  -- where the machine is not stuck, neither is the engine
  not_stuck : (c m : Config) → (stands : without_gone (forgotten_at m) ≡ c) → IsUnstuck d m → (arm : Arm) → IsApart c (forgotten_at m) stands → question d c ≡ None → step d None c ≡ Err arm → ⊥
  not_stuck c m stands free arm apart asks is =
      free arm (record {
        reply = None;
        asks = asks_none (question d m) (sym (question_forgets d m) ∙ asks_so c (forgotten_at m) stands ∙ asks);
        stuck = stuck forgotten_at (step d None m) arm (sym (step_forgets d None m) ∙ stuck (pruned_at (gone_handlers m.world)) (step d None (forgotten_at m)) arm (sym (steps_so c (forgotten_at m) stands None apart) ∙ is));
      }) tt

  -- where nothing is to be finalised the first task comes first
  module _ (c : Config) (none : NoneUnheld d c) where
    first_on : (m : Config) → without_gone m ≡ c → Reaches d [] m (at_first m)
    first_on m stands = comes_first m.world m.agenda m.counted (unheld_so c m stands ∙ none)

    first_shows : (m : Config) → without_gone m ≡ c → without_gone (at_first m) ≡ at_first c
    first_shows m stands = ap (λ (l : List Task). record m { agenda = l }) (with_first_stays m.world m.agenda) ∙ ap at_first stands

    first_apart : (m : Config) → is_next (gone_handlers m.world) (at_first m).agenda ≡ false
    first_apart m = first_stands m.world m.agenda

    pub first_none : NoneUnheld d (at_first c)
    first_none = first_holds c.world c.agenda c.counted none

    acts_first : step d None (at_first c) ≡ act d c.world None (with_first c.world c.agenda) c.counted
    acts_first = ap (first_of d None (at_first c)) first_none

    asks_first : asked_first c.world c.agenda ≡ None → question d (at_first c) ≡ None
    asks_first asks = ap (asked_after (at_first c)) first_none ∙ first_asks c.world c.agenda ∙ asks

    pub first_follows : (x new : Config) → asked_first c.world c.agenda ≡ None → act d c.world None (with_first c.world c.agenda) c.counted ≡ Ok x
        → without_gone x ≡ new → Follows d c new
    first_follows x new asks is shows = record {
      arrives = λ m stands.
          let next = arrives_by (at_first c) (at_first m) (first_shows m stands) x (λ _. first_apart m) (asks_first asks) (acts_first ∙ is) in
          record { at = next.at; reached = reaches_on d (first_on m stands) next.reached; stands = next.stands ∙ shows };
    }

    -- from where no run is stuck the first task can act
    pub first_acts : (p : Point) {room : ℕ} → p.view ≡ c → ComesOfSafe d room p → (arm : Arm) → asked_first c.world c.agenda ≡ None → act d c.world None (with_first c.world c.agenda) c.counted ≡ Err arm → ⊥
    first_acts p here safe arm asks is =
        let m = forgotten_at safe.at in
        let stands = safe.stands.view ∙ here in
        let x = lift d safe.at (at_first m) (first_on m stands) in
        let shows = ap without_gone x.is ∙ first_shows m stands in
        not_stuck (at_first c) x.at shows (safe.safe.safe.unstuck [] tt x.at x.reached) arm
        (λ _. ap (λ (y : Config). is_next (gone_handlers y.world) y.agenda) x.is ∙ first_apart m) (asks_first asks) (acts_first ∙ is)

    -- and what it leaves names what lives
    pub first_names : (p : Point) {room : ℕ} → p.view ≡ c → ComesOfSafe d room p → asked_first c.world c.agenda ≡ None → LeadsToLiving (act d c.world None (with_first c.world c.agenda) c.counted)
    first_names p here safe asks = by (act d c.world None (with_first c.world c.agenda) c.counted) refl
      where
        by : (a : Answer Config) → act d c.world None (with_first c.world c.agenda) c.counted ≡ a → LeadsToLiving a
        by (Err arm) is = tt
        by (Ok x) is =
            let m = forgotten_at safe.at in
            let first = lift d safe.at (at_first m) (first_on m (safe.stands.view ∙ here)) in
            let shows = ap without_gone first.is ∙ first_shows m (safe.stands.view ∙ here) in
            let to = comes_by (at_first c) (forgotten_at first.at) shows None x (λ _. ap (λ (y : Config). is_next (gone_handlers y.world) y.agenda) first.is ∙ first_apart m) (acts_first ∙ is) in
            let next = lift_step d None first.at to.0 to.1 in
            let none_asked = asks_none (question d first.at) (sym (question_forgets d first.at) ∙ asks_so (at_first c) (forgotten_at first.at) shows ∙ asks_first asks) in
            names_alike next.0 x (ap without_gone next.2 ∙ to.2)
            (safe.safe.names [] tt next.0 (reaches_on d first.reached (reaches_once d (record { asks = none_asked; leads = next.1 })))).tasks

  -- where an object is finalised nothing else is done
  module _ (c : Config) (id : ℕ) (unheld : next_unheld (mentions d c) c.world.objects ≡ Some id) where
    some_none : ◌≡◌ {A = Option ℕ} (Some id) None → ⊥
    some_none e = cc e

    not_none : (m : Config) → without_gone m ≡ c → next_unheld (mentions d m) m.world.objects ≡ None → is_next (gone_handlers m.world) m.agenda ≡ false
    not_none m stands none = absurd (some_none (sym unheld ∙ sym (unheld_so c m stands) ∙ none))

    asks_nothing : question d c ≡ None
    asks_nothing = ap (asked_after c) unheld

    pub last_follows : (x new : Config) → step d None c ≡ Ok x → without_gone x ≡ new → Follows d c new
    last_follows x new is shows = record {
      arrives = λ m stands.
          let next = arrives_by c m stands x (not_none m stands) asks_nothing is in
          record { at = next.at; reached = next.reached; stands = next.stands ∙ shows };
    }

    -- from where no run is stuck it can be finalised
    pub last_acts : (p : Point) {room : ℕ} → p.view ≡ c → ComesOfSafe d room p → (arm : Arm) → step d None c ≡ Err arm → ⊥
    last_acts p here safe arm is =
        let stands = safe.stands.view ∙ here in
        not_stuck c safe.at stands (safe.safe.safe.unstuck [] tt safe.at (reaches_here d safe.at)) arm (not_none (forgotten_at safe.at) stands) asks_nothing is
