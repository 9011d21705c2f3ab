-- Costs in the first format: a block costs the sum of its instructions, and what they may start. Channels cost what they do now.
use Rattle.std.specs.Prelude.{◌≡◌, ℕ, suc, ◌+◌, ◌-◌, List, [], ◌∷◌, map}
use Rattle.ui_machine.specs.Seq.{read}
use Rattle.law_typing.specs.Graph.{Graph, Stretch}
use Rattle.law_typing.specs.Graph.Tables.{Tables, greatest}
use Rattle.law_typing.specs.Graph.Costs.{starts_cost, channels_by}

-- a block's own cost and the costliest of the next ones, in front of the costs of the blocks after it, where this one has the number n
abbrev pub with_next : Graph → Tables → ℕ → Stretch → List ℕ → List ℕ
with_next g t n s later = (starts_cost g t s.starts + greatest (λ to. read 0 later (to - suc n)) s.next) ∷ later

-- the costs from each of some blocks to a return, where the first has the number n
abbrev pub path_costs : Graph → Tables → ℕ → List Stretch → List ℕ
path_costs g t n [] = []
path_costs g t n (s ∷ more) = with_next g t n s (path_costs g t (suc n) more)

-- a program's costliest path from its first block to a return
abbrev pub program_cost : Graph → Tables → List Stretch → ℕ
program_cost g t stretches = read 0 (path_costs g t 0 stretches) 0

-- the tables are the costs of the graph: each channel and each program costs what its parts do
pub record SolvesCosts (g : Graph) (t : Tables) : Type 0 where
  pub channels : t.channels ≡ (channels_by g t).channels
  pub programs : t.programs ≡ map (program_cost g t) g.programs
