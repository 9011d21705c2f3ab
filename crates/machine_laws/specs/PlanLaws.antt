-- Laws of the plan of an emission.
use Rattle.std.specs.Prelude.{◌≡◌, ◌⊎◌, ℕ, ◌≤◌, Bool, true, false, List, [], ◌∷◌, ◌++◌, map, Option, Some}
use Rattle.ui_machine.specs.Seq.{total}
use Rattle.ui_machine.specs.State.References.{same}
use Rattle.ui_machine.specs.Definition.{Definition}
use Rattle.ui_machine.specs.Definition.Signals.{Signal}
use Rattle.ui_machine.specs.State.Handlers.{Handler}
use Rattle.ui_machine.specs.State.Tasks.{PlanEntry, class_handler, handler}
use Rattle.ui_machine.specs.State.Config.{World}
use Rattle.ui_machine.specs.State.Tasks as config
use Rattle.ui_machine.specs.Rules.EmissionPlan.{handlers_for, Planned, plan, notify_plan}

-- 1 where an entry is the handler's
abbrev pub is_entry_of : ℕ → PlanEntry → ℕ
is_entry_of number (class_handler program cleanup) = 0
is_entry_of number (handler n) = same number n
is_entry_of number (config.transfer n back) = 0

-- how often a handler has an entry
abbrev pub entries_of : ℕ → List PlanEntry → ℕ
entries_of number entries = total (is_entry_of number) entries

-- how often a handler is in a list
abbrev pub stands : ℕ → List Handler → ℕ
stands number hs = total (λ (h : Handler). same number h.number) hs

-- a handler that is there once has one entry at most, and one that is not there has none
abbrev pub HandlersRunOnce : Type 0
HandlersRunOnce =
    ((w : World) (p : Planned) (number : ℕ) → p.transfers ≡ [] → entries_of number (plan w p) ≤ stands number w.handlers)
    × ((d : Definition) (w : World) (s : Signal) (class id slot : ℕ) (name : List ℕ) (number : ℕ) →
    entries_of number (notify_plan d w s class id slot name) ≤ stands number w.handlers)

-- a list that is another with some left out
abbrev pub IsPart : List ℕ → List ℕ → Type 0
IsPart xs [] = xs ≡ []
IsPart [] (y ∷ ys) = Unit {0}
IsPart (x ∷ xs) (y ∷ ys) = ((x ≡ y) × IsPart xs ys) ⊎ IsPart (x ∷ xs) ys

-- the numbers of the handlers that have entries
abbrev pub numbers : List PlanEntry → List ℕ
numbers [] = []
numbers (class_handler program cleanup ∷ entries) = numbers entries
numbers (handler n ∷ entries) = n ∷ numbers entries
numbers (config.transfer n back ∷ entries) = numbers entries

-- the handlers of a stage have their entries in the order of their connection
abbrev pub InOrder : Type 0
InOrder =
    (hs : List Handler) (id signal : ℕ) (detail : Option (List ℕ)) (after : Bool) →
    IsPart (numbers (handlers_for hs id signal detail after)) (map (λ (h : Handler). h.number) hs)

-- with all stages: the class handler, the transfers, the handlers, the class handler, the handlers that were connected after, and the
-- class handler in cleanup
abbrev pub StagesInOrder : Type 0
StagesInOrder =
    (w : World) (program : ℕ) (moved : List PlanEntry) (id signal : ℕ) (detail : Option (List ℕ)) →
    plan w (record { object = id; signal = signal; detail = detail; flags = 7; class_program = Some program; transfers = moved })
    ≡ class_handler program false
    ∷ (moved
    ++ (handlers_for w.handlers id signal detail false
    ++ (class_handler program false
    ∷ (handlers_for w.handlers id signal detail true
    ++ class_handler program true ∷ []))))

-- `notify` has its class handler first
abbrev pub NotifyStages : Type 0
NotifyStages =
    (w : World) (program : ℕ) (moved : List PlanEntry) (id : ℕ) (detail : Option (List ℕ)) →
    plan w (record { object = id; signal = 0; detail = detail; flags = 17; class_program = Some program; transfers = moved })
    ≡ class_handler program false
    ∷ (moved ++ (handlers_for w.handlers id 0 detail false ++ (handlers_for w.handlers id 0 detail true ++ [])))
