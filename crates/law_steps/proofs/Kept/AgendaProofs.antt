-- The agenda stays good where what it reads stays.
use Rattle.std.proofs.Common.{◌≡◌, inl, inr, ◌⊎◌, refl, sym, ap, subst, ◌∙◌, ℕ, ◌+◌, ◌≤◌, true, List, [], ◌∷◌, length, Option, None, Some, slice_get, arith}
use Rattle.std.specs.Prelude.{is_some}
use Rattle.ui_machine.specs.Seq.{read, total}
use Rattle.ui_machine.specs.Definition.{Definition}
use Rattle.ui_machine.specs.Definition.Values.{Value}
use Rattle.ui_machine.specs.Definition.Values as values
use Rattle.ui_machine.specs.Definition.Signals.{Method}
use Rattle.ui_machine.specs.State.Handlers.{Handler, handler_of}
use Rattle.ui_machine.specs.State.Bindings.{Binding, binding_of}
use Rattle.ui_machine.specs.State.Sources.{source_of}
use Rattle.ui_machine.specs.State.Peers.{Peer}
use Rattle.ui_machine.specs.State.Config.{BuilderEntry, unbuilt, built}
use Rattle.ui_machine.specs.State.References.{in_value, in_emission}
use Rattle.ui_machine.specs.State.Tasks.{PlanEntry, class_handler, handler, Emission, ConstructStep, sets, runs, thaws, Frame, Call, Task, Setting, Notifying, Beginning, Emitting, Transferring, Unsetting, Thawing, Running, Answering, Calling, Constructing, Building, Handling, Due}
use Rattle.ui_machine.specs.State.Tasks as config
use Rattle.law_typing.specs.Graph.Tables.{Tables, of_program}
use Rattle.law_typing.specs.Verdict.Accepted.{Each}
use Rattle.law_typing.specs.Good.Standing.{View, lives_by}
use Rattle.law_typing.specs.Good.ComingDown.{Down, down, answer_of, results, result_of_emission}
use Rattle.law_typing.specs.Good.DueCosts.{turn_cost, turn_depth}
use Rattle.law_typing.specs.Good.Emissions.{DueGood, TurnGood, EmittingGood, ThawingGood}
use Rattle.law_typing.specs.Good.Builds.{HeldIf, MakingGood}
use Rattle.law_typing.specs.Good.Requests.{places_named}
use Rattle.law_typing.specs.Good.Agenda.{TaskGood, AgendaGood}
use Rattle.law_typing.specs.Good.Freezes.{is_due_source}
use Rattle.law_steps.specs.Kept.Agenda.{Stays, Keeps, needed, Serves, AgendaServed}
use Rattle.law_steps.proofs.Kept.ServedProofs.{same_itself, keeps_more, stays_at, lives_kept, args_kept, registers_kept, emission_kept}

-- one task of an agenda, that a world serves
record ServesTask (d : Definition) (task : Task) (v z : View) : Type 0 where
  pub stands : Keeps v.stands z.stands (λ o. needed o task)
  pub held : (place id : ℕ) → read unbuilt v.builder place ≡ built id → Stays v.stands z.stands id
  pub builder : z.builder ≡ v.builder
  pub last : v.last_handler ≤ z.last_handler
  pub handlers : (number : ℕ) → number ≤ v.last_handler → (h : Handler) → handler_of number z.handlers ≡ Some h →
      (g : Handler) × (handler_of number v.handlers ≡ Some g) × (h.object ≡ g.object) × (h.signal ≡ g.signal) × (h.program ≡ g.program)
  pub bindings : (number : ℕ) (b : Binding) → binding_of number z.bindings ≡ Some b → binding_of number v.bindings ≡ Some b
  pub sources : (is_due_source task ≡ 0) ⊎ (z.sources ≡ v.sources)
  pub peers : (number : ℕ) (p : Peer) → slice_get v.peers number ≡ Some p →
      (q : Peer) × (slice_get z.peers number ≡ Some q) × (q.state.shape ≡ p.state.shape)

module _ (d : Definition) (costs depths : Tables) (v z : View) where
  -- ** what is due

  abbrev due_kept : (below : List Task) (id slot steps frames : ℕ) → Stays v.stands z.stands id → DueGood d costs depths v.stands below id slot steps frames →
      DueGood d costs depths z.stands below id slot steps frames
  due_kept below id slot steps frames stays g =
      record { place = g.place; is = stays g.place g.is; spec = g.spec; has = g.has; cheap = g.cheap; shallow = g.shallow }

  thawing_kept : (below : List Task) (id : ℕ) (slots : List ℕ) (steps frames : ℕ) → Stays v.stands z.stands id → ThawingGood d costs depths v.stands below id slots steps frames →
      ThawingGood d costs depths z.stands below id slots steps frames
  thawing_kept below id [] steps frames stays g = tt
  thawing_kept below id (slot ∷ slots) steps frames stays g = (g.0, stays g.0 g.1, g.2, g.3)

  -- ** turns

  module _ (task : Task) (w : ServesTask d task v z) (below : List Task) where
    turn_kept : (e : Emission) (turn : PlanEntry) → Stays v.stands z.stands e.object → TurnGood d v e turn → TurnGood d z e turn
    turn_kept e (class_handler program cleanup) stays g = record { place = g.place; is = stays g.place g.is; allowed = g.allowed }
    turn_kept e (handler number) stays g = (
      (let low = g.0 in let last = w.last in omega (arith, low, last)),
      λ h is. (let old = w.handlers number g.0 h is in let was = g.1 old.0 old.1 in (old.2 ∙ was.0, old.3 ∙ was.1)),
    )
    turn_kept e (config.transfer number back) stays g = (g.0, λ b is. g.1 b (w.bindings number b is))

    abbrev handler_cost : Tables → Option Handler → ℕ
    handler_cost t None = 0
    handler_cost t (Some h) = of_program t h.program

    handler_less : (t : Tables) (number : ℕ) → number ≤ v.last_handler → (o p : Option Handler) → handler_of number z.handlers ≡ o → handler_of number v.handlers ≡ p →
        handler_cost t o ≤ handler_cost t p
    handler_less t number low None p e f = omega arith
    handler_less t number low (Some h) p e f =
        let old = w.handlers number low h e in
        let same : p ≡ Some old.0 = sym f ∙ old.1 in
        let cost = ap (handler_cost t) same in
        let program = ap (of_program t) old.4 in
        omega (arith, cost, program)

    turn_cheaper : (e : Emission) (turn : PlanEntry) → TurnGood d v e turn → turn_cost d costs z below turn ≤ turn_cost d costs v below turn
    turn_cheaper e (class_handler program cleanup) g = omega arith
    turn_cheaper e (handler number) g = cheaper (handler_of number z.handlers) (handler_of number v.handlers) (handler_less costs number g.0 (handler_of number z.handlers) (handler_of number v.handlers) refl refl) refl refl
      where
        cheaper : (o p : Option Handler) → handler_cost costs o ≤ handler_cost costs p → handler_of number z.handlers ≡ o → handler_of number v.handlers ≡ p →
            turn_cost d costs z below (handler number) ≤ turn_cost d costs v below (handler number)
        cheaper o p less e f = let a = cost_of z o e in let b = cost_of v p f in omega (arith, less, a, b)
          where
            cost_of : (w : View) (o : Option Handler) → handler_of number w.handlers ≡ o → turn_cost d costs w below (handler number) ≡ handler_cost costs o
            cost_of w None e = rw e
            cost_of w (Some h) e = rw e
    turn_cheaper e (config.transfer number back) g = omega arith

    turn_shallower : (e : Emission) (turn : PlanEntry) → TurnGood d v e turn → turn_depth d depths z below turn ≤ turn_depth d depths v below turn
    turn_shallower e (class_handler program cleanup) g = omega arith
    turn_shallower e (handler number) g = shallower (handler_of number z.handlers) (handler_of number v.handlers) (handler_less depths number g.0 (handler_of number z.handlers) (handler_of number v.handlers) refl refl) refl refl
      where
        shallower : (o p : Option Handler) → handler_cost depths o ≤ handler_cost depths p → handler_of number z.handlers ≡ o → handler_of number v.handlers ≡ p →
            turn_depth d depths z below (handler number) ≤ turn_depth d depths v below (handler number)
        shallower o p less e f = let a = depth_of z o e in let b = depth_of v p f in omega (arith, less, a, b)
          where
            depth_of : (w : View) (o : Option Handler) → handler_of number w.handlers ≡ o → turn_depth d depths w below (handler number) ≡ handler_cost depths o
            depth_of w None e = rw e
            depth_of w (Some h) e = rw e
    turn_shallower e (config.transfer number back) g = omega arith

    turns_kept : (e : Emission) (turns : List PlanEntry) → Stays v.stands z.stands e.object → Each (TurnGood d v e) turns → Each (TurnGood d z e) turns
    turns_kept e [] stays all = tt
    turns_kept e (turn ∷ turns) stays all = (turn_kept e turn stays all.0, turns_kept e turns stays all.1)

    turns_cheaper : (e : Emission) (turns : List PlanEntry) → Each (TurnGood d v e) turns → total (turn_cost d costs z below) turns ≤ total (turn_cost d costs v below) turns
    turns_cheaper e [] all = omega arith
    turns_cheaper e (turn ∷ turns) all = let a = turn_cheaper e turn all.0 in let b = turns_cheaper e turns all.1 in omega (arith, a, b)

    turns_shallower : (e : Emission) (turns : List PlanEntry) (frames : ℕ) → Each (TurnGood d v e) turns → Each (λ turn. 1 + turn_depth d depths v below turn ≤ frames) turns →
        Each (λ turn. 1 + turn_depth d depths z below turn ≤ frames) turns
    turns_shallower e [] frames all deep = tt
    turns_shallower e (turn ∷ turns) frames all deep =
        ((let a = turn_shallower e turn all.0 in let b = deep.0 in omega (arith, a, b)), turns_shallower e turns frames all.1 deep.1)

    emitting_kept : (up : Down) (e : Emission) (turns : List PlanEntry) (steps frames : ℕ) → Keeps v.stands z.stands (λ o. in_emission o e) →
        EmittingGood d costs depths v up below e turns steps frames → EmittingGood d costs depths z up below e turns steps frames
    emitting_kept up e turns steps frames keeps g =
        let stays = keeps e.object (let k = same_itself e.object in omega (arith, k)) in
        record {
          fits = emission_kept d v.stands z.stands e keeps g.fits;
          suits = g.suits;
          turns_fit = turns_kept e turns stays g.turns_fit;
          cheap = (let a = turns_cheaper e turns g.turns_fit in let b = g.cheap in omega (arith, a, b));
          shallow = turns_shallower e turns frames g.turns_fit g.shallow;
          one = g.one;
        }

  -- ** constructions

  given_lives : (v' : Value) (builder : List BuilderEntry) → ((place id : ℕ) → read unbuilt builder place ≡ built id → Stays v.stands z.stands id) → HeldIf builder v' →
      lives_by v.stands v' ≡ true → lives_by z.stands v' ≡ true
  given_lives (values.object (Some id)) builder held h lives = stays_at v.stands z.stands (λ (o : Option ℕ). is_some o) refl id (held h.0 id h.1) lives
  given_lives (values.object None) builder held h lives = refl
  given_lives (values.bool b) builder held h lives = refl
  given_lives (values.whole k n) builder held h lives = refl
  given_lives (values.text t) builder held h lives = refl
  given_lives (values.enum t n) builder held h lives = refl
  given_lives (values.flags t n) builder held h lives = refl

  making_kept : (builder : List BuilderEntry) → ((place id : ℕ) → read unbuilt builder place ≡ built id → Stays v.stands z.stands id) → (place : ℕ) (m : ConstructStep) →
      MakingGood d v.stands builder place m → MakingGood d z.stands builder place m
  making_kept builder held place (sets slot x) g = (g.0, g.1, g.2, given_lives x builder held g.4 g.3, g.4, g.5)
  making_kept builder held place (runs program) g = g
  making_kept builder held place thaws g = tt

  makings_kept : (builder : List BuilderEntry) → ((place id : ℕ) → read unbuilt builder place ≡ built id → Stays v.stands z.stands id) → (place : ℕ) (ms : List ConstructStep) →
      Each (MakingGood d v.stands builder place) ms → Each (MakingGood d z.stands builder place) ms
  makings_kept builder held place [] all = tt
  makings_kept builder held place (m ∷ ms) all = (making_kept builder held place m all.0, makings_kept builder held place ms all.1)

  -- ** tasks

  call_down : (call : Call) → (p q : Peer) → slice_get v.peers call.peer ≡ Some p → slice_get z.peers call.peer ≡ Some q → q.state.shape ≡ p.state.shape →
      answer_of (slice_get z.peers call.peer) call.method call.to ≡ answer_of (slice_get v.peers call.peer) call.method call.to
  call_down call p q e f s =
      ap (λ o. answer_of o call.method call.to) f
      ∙ (ap (λ (ms : List Method). answer_of (Some (record p { state = record p.state { shape = ms } })) call.method call.to) s
      ∙ sym (ap (λ o. answer_of o call.method call.to) e))

  task_kept : (task : Task) → ServesTask d task v z → (up : Down) (below : List Task) (steps frames : ℕ) → TaskGood d costs depths v up below task steps frames →
      TaskGood d costs depths z up below task steps frames
  task_kept (Setting id slot x) w up below steps frames g = (
    g.0,
    record {
      due = due_kept below id slot steps frames (w.stands id (let k = same_itself id in omega (arith, k))) g.1.due;
      kind = g.1.kind;
      lives = lives_kept d v.stands z.stands x (keeps_more v.stands z.stands (λ o. in_value o x) (λ o. needed o (Setting id slot x)) (λ o. omega arith) w.stands) g.1.lives;
    },
  )
  task_kept (Notifying id slot) w up below steps frames g =
      (g.0, record { due = due_kept below id slot steps frames (w.stands id (let k = same_itself id in omega (arith, k))) g.1.due; readable = g.1.readable })
  task_kept (Beginning e) w up below steps frames g =
      (g.0, record { fits = emission_kept d v.stands z.stands e w.stands g.1.fits; not_notify = g.1.not_notify; cheap = g.1.cheap; shallow = g.1.shallow })
  task_kept (Emitting e turns) w up below steps frames g = emitting_kept (Emitting e turns) w below up e turns steps frames w.stands g
  task_kept (Transferring number back) w up below steps frames g = (
    g.0,
    record {
      free = g.1.free;
      goes_back = g.1.goes_back;
      cheap = g.1.cheap;
      shallow = g.1.shallow;
      one = g.1.one;
    },
  )
  task_kept (Unsetting number) w up below steps frames g = g
  task_kept (Thawing id slots) w up below steps frames g =
      (g.0, thawing_kept below id slots steps frames (w.stands id (let k = same_itself id in omega (arith, k))) g.1)
  task_kept (Running frame) w up below steps frames g = (
    g.0,
    record {
      p = g.1.p;
      is = g.1.is;
      b = g.1.b;
      in_block = g.1.in_block;
      inside = g.1.inside;
      few = g.1.few;
      counted = g.1.counted;
      ks = g.1.ks;
      fit = registers_kept d v.stands z.stands g.1.ks frame.registers w.stands g.1.fit;
      comes = g.1.comes;
      kept = g.1.kept;
      at_site = g.1.at_site;
      typed = g.1.typed;
      bracketed = g.1.bracketed;
      cheap = g.1.cheap;
      shallow = g.1.shallow;
    },
  )
  task_kept (Answering source) w up below steps frames g = g
  task_kept (Calling call) w up below steps frames g =
      let peer = w.peers call.peer g.1.p g.1.is in (
        g.0,
        record {
          lives = record { place = g.1.lives.place; is = w.stands call.object (let k = same_itself call.object in omega (arith, k)) g.1.lives.place g.1.lives.is; allowed = tt };
          p = peer.0;
          m = g.1.m;
          is = peer.1;
          has = ap (λ ms. slice_get ms call.method) peer.2 ∙ g.1.has;
          args_fit = args_kept d v.stands z.stands call.args g.1.m.params (keeps_more v.stands z.stands (λ o. total (in_value o) call.args) (λ o. needed o (Calling call)) (λ o. omega arith) w.stands) g.1.args_fit;
          value = g.1.value;
          waits = g.1.waits;
        },
      )
  task_kept (Constructing id todo held) w up below steps frames g = (
    g.0,
    record {
      place = g.1.place;
      is = w.stands id (let k = same_itself id in omega (arith, k)) g.1.place g.1.is;
      for_builder = λ h. g.1.for_builder h ∙ sym (ap (λ (b : List BuilderEntry). length b) w.builder);
      for_program = g.1.for_program;
      fits = subst (λ b. Each (MakingGood d z.stands b g.1.place) todo) (sym w.builder) (makings_kept v.builder w.held g.1.place todo g.1.fits);
      cheap = g.1.cheap;
      shallow = g.1.shallow;
      one = g.1.one;
    },
    g.2,
  )
  task_kept (Building items) w up below steps frames g = g
  task_kept (Handling request) w up below steps frames g = (
    g.0,
    g.1,
    record {
      fits = g.2.fits;
      held = subst (λ b. Each (λ place. (id : ℕ) × (read unbuilt b place ≡ built id)) (places_named request)) (sym w.builder) g.2.held;
      cheap = g.2.cheap;
      shallow = g.2.shallow;
    },
  )
  task_kept (Due source) w up below steps frames g = by w.sources
    where
      by : (is_due_source (Due source) ≡ 0) ⊎ (z.sources ≡ v.sources) → TaskGood d costs depths z up below (Due source) steps frames
      by (inl e) = absurd (let f : ◌≡◌ {A = ℕ} 1 0 = e in omega (arith, f))
      by (inr e) = (g.0, g.1, (g.2.0, ap (source_of source) e ∙ g.2.1, g.2.2, g.2.3))

  -- what comes down from a task is the same
  emission_down : (e : Emission) (place : ℕ) → v.stands e.object ≡ Some place → z.stands e.object ≡ Some place →
      result_of_emission d z.stands e ≡ result_of_emission d v.stands e
  emission_down e place is now = rw (is, now)

  down_kept : (task : Task) → ServesTask d task v z → (up : Down) (below : List Task) (steps frames : ℕ) → TaskGood d costs depths v up below task steps frames →
      down d z task ≡ down d v task
  down_kept (Beginning e) w up below steps frames g =
      ap results (emission_down e g.1.fits.place g.1.fits.is (w.stands e.object (let k = same_itself e.object in omega (arith, k)) g.1.fits.place g.1.fits.is))
  down_kept (Emitting e turns) w up below steps frames g =
      ap results (emission_down e g.fits.place g.fits.is (w.stands e.object (let k = same_itself e.object in omega (arith, k)) g.fits.place g.fits.is))
  down_kept (Calling call) w up below steps frames g =
      let peer = w.peers call.peer g.1.p g.1.is in call_down call g.1.p peer.0 g.1.is peer.1 peer.2
  down_kept _ w up below steps frames g = refl

-- ** agendas

first_task : (d : Definition) (task : Task) (tasks : List Task) (v z : View) → Serves d (task ∷ tasks) v z → ServesTask d task v z
first_task d task tasks v z w = record {
  stands = keeps_more v.stands z.stands (λ o. needed o task) (λ o. total (needed o) (task ∷ tasks)) (λ o. omega arith) w.stands;
  held = w.held;
  builder = w.builder;
  last = w.last;
  handlers = w.handlers;
  bindings = w.bindings;
  sources = of w.sources;
  peers = w.peers;
}
  where
    of : (total is_due_source (task ∷ tasks) ≡ 0) ⊎ (z.sources ≡ v.sources) → (is_due_source task ≡ 0) ⊎ (z.sources ≡ v.sources)
    of (inl e) = inl (omega (arith, e))
    of (inr e) = inr e

other_tasks : (d : Definition) (task : Task) (tasks : List Task) (v z : View) → Serves d (task ∷ tasks) v z → Serves d tasks v z
other_tasks d task tasks v z w = record {
  stands = keeps_more v.stands z.stands (λ o. total (needed o) tasks) (λ o. total (needed o) (task ∷ tasks)) (λ o. omega arith) w.stands;
  held = w.held;
  builder = w.builder;
  last = w.last;
  handlers = w.handlers;
  bindings = w.bindings;
  sources = of w.sources;
  peers = w.peers;
}
  where
    of : (total is_due_source (task ∷ tasks) ≡ 0) ⊎ (z.sources ≡ v.sources) → (total is_due_source tasks ≡ 0) ⊎ (z.sources ≡ v.sources)
    of (inl e) = inl (omega (arith, e))
    of (inr e) = inr e

pub agenda_served : AgendaServed
agenda_served d costs depths most up [] budget v z w g = g
agenda_served d costs depths most up (task ∷ tasks) budget v z w g =
    let first = first_task d task tasks v z w in
    let same = down_kept d costs depths v z task first up tasks g.0 g.1 g.3 in
    let later = agenda_served d costs depths most (down d v task) tasks g.2 v z (other_tasks d task tasks v z w) g.6 in
    (g.0, g.1, g.2, task_kept d costs depths v z task first up tasks g.0 g.1 g.3, g.4, g.5, subst (λ up. AgendaGood d costs depths z most up tasks g.2) (sym same) later)
