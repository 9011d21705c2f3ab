-- Cycles from their first channel.
use Rattle.std.specs.Prelude.{◌≡◌, ℕ, zero, suc, true, List, [], ◌∷◌, ◌++◌, map, None, Some}
use Rattle.ui_machine.specs.Definition.{Definition}
use Rattle.law_typing.specs.Rules.Faults.{cycle}
use Rattle.law_typing.specs.Graph.Channels.{Link, same_channel}
use Rattle.law_typing.specs.Graph.{Graph, graph}
use Rattle.law_typing.specs.Graph.Ranks.{is_cycle}
use Rattle.law_typing.specs.Laws.WellRead.{no_two}
use Rattle.law_typing.specs.Verdict.Judges.{IsToldCycle, Judges}
use Rattle.law_judging.specs.FirstFaults.{first_fault}

-- some links with the first one behind the others
abbrev pub turned_once : List Link → List Link
turned_once [] = []
turned_once (l ∷ more) = more ++ l ∷ []

-- with so many of them behind the others, one after the other
abbrev pub turned : ℕ → List Link → List Link
turned zero links = links
turned (suc n) links = turned n (turned_once links)

-- a cycle stays one
abbrev pub TurnedIsCycle : Type 0
TurnedIsCycle = (g : Graph) (n : ℕ) (links : List Link) → is_cycle g links ≡ true → is_cycle g (turned n links) ≡ true

-- and where no node is in it twice, none is
abbrev pub TurnedIsOnce : Type 0
TurnedIsOnce =
    (n : ℕ) (links : List Link) → no_two same_channel (map (λ (l : Link). l.from) links) ≡ true →
    no_two same_channel (map (λ (l : Link). l.from) (turned n links)) ≡ true

-- where no rule is broken, a cycle from its first channel is an answer
abbrev pub CycleIsTold : Type 0
CycleIsTold = (d : Definition) (links : List Link) → first_fault d ≡ None → IsToldCycle (graph d) links → Judges d (Some (cycle links))
