-- What the laws of lengths ask is met: by lines of each sort over a definition with names and values of each.
use Rattle.std.specs.Prelude.{◌≡◌, true, false, List, [], ◌∷◌, codes, map, None, Some}
use Rattle.ui_machine.specs.Output.Lines.{Line}
use Rattle.ui_machine.specs.Output.Lines as lines
use Rattle.ui_machine.specs.Output.Text.{text_of_line}
use Rattle.ui_machine.specs.Definition.Values as values
use Rattle.ui_machine.specs.Definition.Kinds as kinds
use Rattle.ui_machine.specs.Runs.{first_world}
use Rattle.ui_machine.specs.State.Config.{Config}
use Rattle.ui_machine.specs.State.Peers.{Peer}
use Rattle.ui_machine.specs.State.Tasks.{Beginning, Calling}
use Rattle.law_line_lengths.specs.StepLines.{HasShortParts}
use Rattle.law_typing.specs.Verdict.Accepted.{Each}
use Rattle.law_short_texts.specs.WorkedTexts.{definition}
use Rattle.law_line_lengths.specs.LineLengths.{GrowsBy, IsLikeLineOf, line_length, longest, most_arguments, names, nicks}

-- a line of each sort, as it may be said
abbrev pub said : List Line
said =
    lines.build
    ∷ lines.construct 1 (codes "Label")
    ∷ lines.set 1 (codes "text") (values.text (Some (codes "good morning")))
    ∷ lines.refused 1 (codes "text") (values.text None)
    ∷ lines.notify 1 (codes "text")
    ∷ lines.emit 1 (codes "tell") (Some (codes "text")) (values.text (Some (codes "good night")) ∷ [])
    ∷ lines.run (codes "show")
    ∷ lines.call (codes "screen") (codes "show") (values.text None ∷ []) (values.bool true)
    ∷ lines.fault (codes "screen") (codes "show") (values.text (Some (codes "good night")) ∷ [])
    ∷ lines.closed (codes "screen") (codes "show") (values.text None ∷ [])
    ∷ lines.close (codes "screen")
    ∷ lines.limit (codes "join")
    ∷ lines.adopt 1 2
    ∷ lines.orphan 2
    ∷ lines.get 1 (codes "text") (values.text (Some (codes "> good night")))
    ∷ lines.release (codes "l1")
    ∷ lines.dispose 1
    ∷ lines.final 1
    ∷ lines.turn 5
    ∷ lines.result (values.bool false)
    ∷ lines.end 18
    ∷ []

-- a peer whose name and method are no longer than the names of the definition
abbrev pub peer : Peer
peer = record {
  name = codes "screen";
  state =
      record {
        shape = record { name = codes "show"; params = kinds.text ∷ []; result = kinds.bool } ∷ [];
        is_open = true;
        calls = 0;
        faults = 0;
        values = [];
      };
  holder = None;
}

-- where an emission with a detail is due, and below it a call of the peer
abbrev pub at : Config
at = record {
  world = first_world definition (peer ∷ []);
  agenda =
      Beginning (
      record {
        object = 1;
        signal = 1;
        detail = Some (codes "text");
        args = values.text (Some (codes "good night")) ∷ [];
        by_event = true;
        value = None;
        cleanup = false;
      }
      )
      ∷ Calling (record { object = 1; peer = 0; method = 0; args = values.text (Some (codes "good night")) ∷ []; to = 0 })
      ∷ [];
  counted = 3;
}

pub record LengthsMet : Type 0 where
  pub lines : Each (IsLikeLineOf definition) said
  -- so a transcript that was empty grows by them
  pub grows : GrowsBy definition said [] (map (text_of_line definition.types) said)
  pub parts : HasShortParts definition at
  -- the longest name is `GInitiallyUnowned`
  pub names : longest (names definition) ≡ 17
  pub nicks : longest (nicks definition) ≡ 0
  pub arguments : most_arguments definition ≡ 1
  pub length : line_length definition ≡ 49379
