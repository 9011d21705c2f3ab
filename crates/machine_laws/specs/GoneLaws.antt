-- The turns of handlers and the transfers of bindings that are gone are passed over, so an emission may as well not have them.
use Rattle.std.specs.List.{filter, list_all, list_any}
use Rattle.std.specs.Prelude.{Bool, IfOk, List, None, Ok, Option, false, is_some, map, nat_le, not, true, ℕ, ◌&&◌, ◌≡◌, ◌∷◌}
use Rattle.ui_machine.specs.Definition.{Definition}
use Rattle.ui_machine.specs.State.Bindings.{Binding, binding_of}
use Rattle.ui_machine.specs.State.Config.{Config, World}
use Rattle.ui_machine.specs.State.Handlers.{Handler, handler_of}
use Rattle.ui_machine.specs.State.Peers.{Reply}
use Rattle.ui_machine.specs.State.References.{mentions, next_unheld}
use Rattle.ui_machine.specs.State.Tasks.{Building, Emitting, PlanEntry, Task, binds, class_handler, handler}
use Rattle.ui_machine.specs.State.Tasks as tasks
use Rattle.ui_machine.specs.Steps.{question, step}
use Rattle.machine_laws.specs.FrontLaws.{mapped}

-- which handlers and which bindings are gone, by their numbers
pub record Gone : Type 0 where
  pub handlers : ℕ → Bool
  pub bindings : ℕ → Bool

-- whether an entry's handler or binding is not among those that are gone
abbrev pub stays : Gone → PlanEntry → Bool
stays gone (class_handler program cleanup) = true
stays gone (handler number) = not (gone.handlers number)
stays gone (tasks.transfer number back) = not (gone.bindings number)

-- a task without the turns of these
abbrev pub pruned : Gone → Task → Task
pruned gone (Emitting e entries) = Emitting e (filter (stays gone) entries)
pruned gone task = task

-- a configuration without them
abbrev pub pruned_at : Gone → Config → Config
pruned_at gone c = record c { agenda = map (pruned gone) c.agenda }

-- no connected handler and no binding that is there has one of the numbers
pub record AreGone (gone : Gone) (w : World) : Type 0 where
  pub handlers : list_all (λ (h : Handler). not (gone.handlers h.number)) w.handlers ≡ true
  pub bindings : list_all (λ (b : Binding). not (gone.bindings b.number)) w.bindings ≡ true

-- the numbers that were given to handlers which are no longer connected, and those that no binding has
abbrev pub gone_in : World → Gone
gone_in w = record {
  handlers = λ number. nat_le number w.last_handler && not (is_some (handler_of number w.handlers));
  bindings = λ number. not (is_some (binding_of number w.bindings));
}

-- those who are gone by the one are gone by the other
pub record AreStillGone (before later : Gone) : Type 0 where
  pub handlers : (number : ℕ) → before.handlers number ≡ true → later.handlers number ≡ true
  pub bindings : (number : ℕ) → before.bindings number ≡ true → later.bindings number ≡ true

-- whether the next turn is one of them
abbrev pub is_next : Gone → List Task → Bool
is_next gone (Emitting e (handler number ∷ entries) ∷ rest) = gone.handlers number
is_next gone (Emitting e (tasks.transfer number back ∷ entries) ∷ rest) = gone.bindings number
is_next gone _ = false

-- where nothing is to be finalised and the next turn is gone, a step only takes it
abbrev pub GoneTurnsPass : Type 0
GoneTurnsPass =
    (gone : Gone) (d : Definition) (reply : Option Reply) (c : Config) → AreGone gone c.world →
    next_unheld (mentions d c) c.world.objects ≡ None → is_next gone c.agenda ≡ true →
    (e : Config) × (step d reply c ≡ Ok e) × (pruned_at gone e ≡ pruned_at gone c)

-- each other step leads to the same without them: no line, count or result is another one, and it is stuck by the same arm
abbrev pub StepsDoWithout : Type 0
StepsDoWithout =
    (gone : Gone) (d : Definition) (reply : Option Reply) (c : Config) → AreGone gone c.world →
    (next_unheld (mentions d c) c.world.objects ≡ None → is_next gone c.agenda ≡ false) →
    step d reply (pruned_at gone c) ≡ mapped (pruned_at gone) (step d reply c)

-- and a step without them asks the same of peers
abbrev pub QuestionsDoWithout : Type 0
QuestionsDoWithout = (gone : Gone) (d : Definition) (c : Config) → question d (pruned_at gone c) ≡ question d c

-- ** which are gone

-- the numbers in `gone_in` are gone
abbrev pub GivenAreGone : Type 0
GivenAreGone = (w : World) → AreGone (gone_in w) w

-- and where more are gone later, what was left out before is left out then
abbrev pub PrunedAgain : Type 0
PrunedAgain = (before later : Gone) → AreStillGone before later → (c : Config) → pruned_at later (pruned_at before c) ≡ pruned_at later c

-- ** who stays gone

-- whether the next task makes a binding, as the build does
abbrev pub makes_binding : List Task → Bool
makes_binding (Building (binds number ∷ items) ∷ rest) = true
makes_binding _ = false

-- in each step but one that makes a binding, those who are gone stay so
abbrev pub StepsKeepGone : Type 0
StepsKeepGone =
    (d : Definition) (reply : Option Reply) (c : Config) →
    (next_unheld (mentions d c) c.world.objects ≡ None → makes_binding c.agenda ≡ false) →
    IfOk (step d reply c) (λ e. AreStillGone (gone_in c.world) (gone_in e.world))

-- whether a task is an emission that goes on
abbrev pub is_emitting : Task → Bool
is_emitting (Emitting e entries) = true
is_emitting _ = false

-- where no emission goes on, as where the build makes a binding, nothing is left out, whoever is gone
abbrev pub WholeWithoutEmissions : Type 0
WholeWithoutEmissions = (gone : Gone) (c : Config) → list_any is_emitting (pruned_at gone c).agenda ≡ false → pruned_at gone c ≡ c
