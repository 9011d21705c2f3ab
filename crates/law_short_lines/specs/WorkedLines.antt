-- What the laws of short lines ask is met: of dispatches, by a worked definition that is accepted, whose pool has a peer that its
-- programs call; of steps, where a call and an emission with a detail are due.
use Rattle.std.specs.Prelude.{◌≡◌, pos, false, [], ◌∷◌, codes, None, Some}
use Rattle.ui_machine.specs.Definition.{Definition}
use Rattle.ui_machine.specs.Definition.Kinds as kinds
use Rattle.ui_machine.specs.Definition.Programs as words
use Rattle.ui_machine.specs.Definition.Values as values
use Rattle.ui_machine.specs.Runs.{first_world}
use Rattle.ui_machine.specs.State.Config.{Config}
use Rattle.ui_machine.specs.State.Objects.{Object}
use Rattle.ui_machine.specs.State.Peers.{Peer}
use Rattle.ui_machine.specs.State.Tasks.{Beginning, Calling, Handling}
use Rattle.ui_machine.specs.State.Tasks as config
use Rattle.ui_machine.specs.Words.{block, program}
use Rattle.law_typing.specs.Examples.LastReference.{definition}
use Rattle.law_typing.specs.Laws.Beginnings.{tally}
use Rattle.law_typing.specs.Verdict.Accepted.{Each}
use Rattle.law_steps.specs.Served.WorkedSession.{PremisesMet, events}
use Rattle.law_short_texts.specs.ShortValues.{HasShortTexts}
use Rattle.law_line_lengths.specs.LineLengths.{line_length}
use Rattle.law_short_lines.specs.ShortParts.{HasAllShort, HasShortDetails, HasShortPool, IsShortAll}

-- ** dispatches

-- the definition is read well and accepted, the pool is ready, the events are read, and all of them are short
pub record PremisesMetShort : Type 0 where
  pub session : PremisesMet
  pub texts : HasShortTexts definition
  pub details : HasShortDetails definition
  pub events : Each IsShortAll events
  -- so no line of its dispatches is longer
  pub length : line_length definition ≡ 49379

-- ** steps

-- the definition, where a program emits with a detail
abbrev pub detailed : Definition
detailed = record definition {
  programs =
      program (codes "mk") ((kinds.at 0) ∷ []) 1 None
      (block ((kinds.at 0) ∷ []) None (words.emit None 0 (codes "fire") (Some (codes "loud")) [] ∷ words.return None ∷ []) ∷ [])
      ∷ [];
}

-- a peer that no place names, and whose name is longer than any of the definition
abbrev pub stranger : Peer
stranger = record tally { name = codes "a-peer-that-no-place-of-the-definition-names" }

-- an object that has the peer
abbrev pub item : Object
item =
    record { class = 2; place = 1; values = []; freezes = 0; queue = []; children = []; parent = None; disposed = false; peer = Some 0 }

-- where a call of the peer is due, below it an emission with a detail, and a request for one
abbrev pub at : Config
at = record {
  world = record (first_world detailed (tally ∷ stranger ∷ [])) { objects = Some item ∷ [] };
  agenda =
      Calling (record { object = 1; peer = 0; method = 0; args = values.whole kinds.int64 (pos 2) ∷ []; to = 2 })
      ∷ Beginning (
      record { object = 1; signal = 1; detail = Some (codes "loud"); args = []; by_event = false; value = None; cleanup = false }
      )
      ∷ Handling (config.emit 0 1 [] (Some (codes "loud")))
      ∷ [];
  counted = 3;
}

pub record StepsMet : Type 0 where
  pub texts : HasShortTexts detailed
  pub details : HasShortDetails detailed
  pub pool : HasShortPool detailed (tally ∷ stranger ∷ [])
  pub short : HasAllShort detailed at
