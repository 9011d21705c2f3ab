-- What a run of a definition's bytes comes to with the peers that the host makes: a screen shows lines, and a tally adds.
use Rattle.std.specs.Prelude.{⊤, ℕ, Bool, List, Option}
use Rattle.ui_machine.specs.Definition.{Definition}
use Rattle.event_lines.specs.CheckView.{IsJudged}
use Rattle.event_lines.specs.Lines.{lines_of}
use Rattle.event_lines.specs.Opening.{Ran}
use Rattle.event_lines.specs.declared.definition_checks.Judgement.TheVariants as judgements
use Rattle.host_peers.specs.Stock.{stocked_pool, stocked_relations}
use Rattle.native_peers.specs.Matching.{as_peers}
use Rattle.native_peers.specs.Seen.{Relations, Seen}

-- some lines of events are run with these peers, to this status
abbrev pub RunsWith : Relations → List Seen → List ℕ → (status : ℕ) → Type 0
RunsWith may pool bytes status =
    (left : List Seen) × (input : List ℕ) × (torn : Bool) × (first : Option (List ℕ)) × (last : Option (List ℕ)) × (text : List ℕ)
    × Ran may (as_peers pool) left bytes (lines_of input) status torn ⊤ first last text

-- the bytes that denote an accepted definition are run with the peers that the host makes for it
abbrev pub RunsStocked : Definition → (status : ℕ) → Type 0
RunsStocked d status = (bytes : List ℕ) → IsJudged bytes (judgements.Accepted d) → RunsWith (stocked_relations d) (stocked_pool d) bytes status
