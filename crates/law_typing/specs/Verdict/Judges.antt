-- What a verifier may answer: nothing where a definition is accepted, else the fault for which it is refused, or a cycle that it reports.
use Rattle.std.specs.Prelude.{◌≡◌, ℕ, suc, Bool, true, cond, not, nat_lt, List, [], ◌∷◌, map, Option, None, Some}
use Rattle.std.specs.List.{list_all}
use Rattle.ui_machine.specs.Definition.{Definition}
use Rattle.law_typing.specs.Rules.Faults.{Fault}
use Rattle.law_typing.specs.Rules.Faults as faults
use Rattle.law_typing.specs.Graph.Channels.{Channel, Link, same_channel}
use Rattle.law_typing.specs.Graph.{Graph, Raised, graph}
use Rattle.law_typing.specs.Graph.Ranks.{is_cycle}
use Rattle.law_typing.specs.Laws.WellRead.{no_two}
use Rattle.law_typing.specs.Verdict.{Verdict, verdict}
use Rattle.law_typing.specs.Verdict as verdicts

-- how many channels the report has before this one
abbrev pub line_of : List Raised → Channel → ℕ
line_of [] c = 0
line_of (r ∷ rs) c = cond (same_channel r.channel c) 0 (suc (line_of rs c))

-- whether none of some nodes comes before the first of them in the report
abbrev pub begins_first : Graph → List Link → Bool
begins_first g [] = true
begins_first g (l ∷ more) = list_all (λ (m : Link). not (nat_lt (line_of g.raised m.from) (line_of g.raised l.from))) more

-- a cycle as it is reported: from its first node in the report, with no node twice
pub record IsToldCycle (g : Graph) (links : List Link) : Type 0 where
  pub cycle : is_cycle g links ≡ true
  pub first : begins_first g links ≡ true
  pub once : no_two same_channel (map (λ (l : Link). l.from) links) ≡ true

-- an answer where the definition is judged so
abbrev pub Answers : Graph → Verdict → Option Fault → Type 0
Answers g (verdicts.accepted report) answer = answer ≡ None
Answers g (verdicts.refused fault) answer = answer ≡ Some fault
Answers g verdicts.has_cycle answer = (links : List Link) × (answer ≡ Some (faults.cycle links)) × IsToldCycle g links

-- what a verifier may answer of a definition
abbrev pub Judges : Definition → Option Fault → Type 0
Judges d answer = Answers (graph d) (verdict d) answer
