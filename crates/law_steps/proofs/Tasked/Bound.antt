-- The agenda stays good where a binding begins or ends to set: it reads of a binding who listens, and nothing else.
use Rattle.std.proofs.Common.{◌≡◌, refl, sym, ap, subst, ◌∙◌, ℕ, Bool, true, false, cond, List, [], ◌∷◌, Some}
use Rattle.std.specs.Prelude.{nat_eq}
use Rattle.ui_machine.specs.Definition.{Definition}
use Rattle.ui_machine.specs.State.Bindings.{Binding, binding_of, with_busy, listens}
use Rattle.ui_machine.specs.State.Tasks.{PlanEntry, class_handler, handler, Emission, Task, Setting, Notifying, Beginning, Emitting, Transferring, Unsetting, Thawing, Running, Answering, Calling, Constructing, Building, Handling, Due}
use Rattle.ui_machine.specs.State.Tasks as config
use Rattle.law_typing.specs.Graph.Tables.{Tables}
use Rattle.law_typing.specs.Verdict.Accepted.{Each}
use Rattle.law_typing.specs.Good.Standing.{View}
use Rattle.law_typing.specs.Good.ComingDown.{Down, down}
use Rattle.law_typing.specs.Good.Emissions.{TurnGood}
use Rattle.law_typing.specs.Good.Agenda.{TaskGood, AgendaGood}
use Rattle.law_steps.proofs.Tasked.First.{most}

-- ** the binding that a number finds

-- one that begins or ends to set was there, with the same ends
pub record Was (bs : List Binding) (n : ℕ) (b : Binding) : Type 0 where
  pub was : Binding
  pub is : binding_of n bs ≡ Some was
  pub hears : (object slot : ℕ) → listens object slot was ≡ listens object slot b

pub busy_was : (busy : Bool) (number n : ℕ) (bs : List Binding) (b : Binding) → binding_of n (with_busy number busy bs) ≡ Some b → Was bs n b
busy_was busy number n [] b e = absurd (cc)
busy_was busy number n (x ∷ bs) b e = go (nat_eq x.number number) refl (busy_was busy number n bs b)
  where
    same : (y : Binding) → y.number ≡ x.number → ((object slot : ℕ) → listens object slot x ≡ listens object slot y) → (t : Bool) → nat_eq x.number n ≡ t →
        cond t (Some y) (binding_of n (with_busy number busy bs)) ≡ Some b → (binding_of n (with_busy number busy bs) ≡ Some b → Was bs n b) → Was (x ∷ bs) n b
    same y number_is hears true f found later =
        let one : y ≡ b = cc in
        subst (Was (x ∷ bs) n) one (record { was = x; is = ap (λ t. cond t (Some x) (binding_of n bs)) f; hears = hears })
    same y number_is hears false f found later =
        let h = later found in
        record { was = h.was; is = ap (λ t. cond t (Some x) (binding_of n bs)) f ∙ h.is; hears = h.hears }

    go : (t : Bool) → nat_eq x.number number ≡ t → (binding_of n (with_busy number busy bs) ≡ Some b → Was bs n b) → Was (x ∷ bs) n b
    go true t later =
        same (record x { busy = busy }) refl (λ object slot. refl) (nat_eq x.number n) refl
        (sym (ap (λ t. binding_of n (cond t (record x { busy = busy }) x ∷ with_busy number busy bs)) t) ∙ e) later
    go false t later =
        same x refl (λ object slot. refl) (nat_eq x.number n) refl
        (sym (ap (λ t. binding_of n (cond t (record x { busy = busy }) x ∷ with_busy number busy bs)) t) ∙ e) later

-- ** the agenda reads the same of the world

module _ (d : Definition) (costs depths : Tables) (v : View) (number : ℕ) (busy : Bool) where
  -- with the binding so
  abbrev pub bound : View
  bound = record v { bindings = with_busy number busy v.bindings }

  turn_bound : (e : Emission) (turn : PlanEntry) → TurnGood d v e turn → TurnGood d bound e turn
  turn_bound e (class_handler program cleanup) g = g
  turn_bound e (handler number) g = g
  turn_bound e (config.transfer n back) g =
      (g.0, λ b is. (let h = busy_was busy number n v.bindings b is in let old = g.1 h.was h.is in (old.0, sym (h.hears e.object old.0) ∙ old.1)))

  turns_bound : (e : Emission) (turns : List PlanEntry) → Each (TurnGood d v e) turns → Each (TurnGood d bound e) turns
  turns_bound e [] all = tt
  turns_bound e (turn ∷ turns) all = (turn_bound e turn all.0, turns_bound e turns all.1)

  task_bound : (task : Task) (up : Down) (below : List Task) (steps frames : ℕ) → TaskGood d costs depths v up below task steps frames → TaskGood d costs depths bound up below task steps frames
  task_bound (Emitting e turns) up below steps frames g =
      record { fits = g.fits; suits = g.suits; turns_fit = turns_bound e turns g.turns_fit; cheap = g.cheap; shallow = g.shallow; one = g.one }
  task_bound (Transferring n back) up below steps frames g = (
    g.0,
    record {
      free = g.1.free;
      goes_back = g.1.goes_back;
      cheap = g.1.cheap;
      shallow = g.1.shallow;
      one = g.1.one;
    },
  )
  task_bound (Calling call) up below steps frames g = (
    g.0,
    record { lives = g.1.lives; p = g.1.p; m = g.1.m; is = g.1.is; has = g.1.has; args_fit = g.1.args_fit; value = g.1.value; waits = g.1.waits },
  )
  task_bound (Constructing id todo held) up below steps frames g = (
    g.0,
    record { place = g.1.place; is = g.1.is; for_builder = g.1.for_builder; for_program = g.1.for_program; fits = g.1.fits; cheap = g.1.cheap; shallow = g.1.shallow; one = g.1.one },
    g.2,
  )
  task_bound (Handling request) up below steps frames g =
      (g.0, g.1, record { fits = g.2.fits; held = g.2.held; cheap = g.2.cheap; shallow = g.2.shallow })
  task_bound (Setting id slot x) up below steps frames g = g
  task_bound (Notifying id slot) up below steps frames g = g
  task_bound (Beginning e) up below steps frames g = g
  task_bound (Unsetting n) up below steps frames g = g
  task_bound (Thawing id slots) up below steps frames g = g
  task_bound (Running frame) up below steps frames g = g
  task_bound (Answering source) up below steps frames g = g
  task_bound (Building items) up below steps frames g = g
  task_bound (Due source) up below steps frames g = g

  down_bound : (task : Task) → down d bound task ≡ down d v task
  down_bound (Setting id slot x) = refl
  down_bound (Notifying id slot) = refl
  down_bound (Beginning e) = refl
  down_bound (Emitting e turns) = refl
  down_bound (Transferring n back) = refl
  down_bound (Unsetting n) = refl
  down_bound (Thawing id slots) = refl
  down_bound (Running frame) = refl
  down_bound (Answering source) = refl
  down_bound (Calling call) = refl
  down_bound (Constructing id todo held) = refl
  down_bound (Building items) = refl
  down_bound (Handling request) = refl
  down_bound (Due source) = refl

  pub agenda_bound : (most : ℕ) (up : Down) (agenda : List Task) (budget : ℕ) → AgendaGood d costs depths v most up agenda budget → AgendaGood d costs depths bound most up agenda budget
  agenda_bound most up [] budget g = g
  agenda_bound most up (task ∷ tasks) budget g = (
    g.0,
    g.1,
    g.2,
    task_bound task up tasks g.0 g.1 g.3,
    g.4,
    g.5,
    subst (λ up. AgendaGood d costs depths bound most up tasks g.2) (sym (down_bound task)) (agenda_bound most (down d v task) tasks g.2 g.6),
  )
