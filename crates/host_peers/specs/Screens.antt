-- What a screen may do, which keeps lines of text.
use Rattle.std.specs.Prelude.{◌≡◌, ◌<◌, ◌≤◌, ◌++◌, MatchOption, ℕ, suc, zero, pos, List, [], ◌∷◌, Some, codes, length, map, slice_get, true}
use Rattle.ui_machine.specs.Definition.Kinds as kinds
use Rattle.ui_machine.specs.Definition.Signals.{Method}
use Rattle.ui_machine.specs.Definition.Values.{Value}
use Rattle.ui_machine.specs.Definition.Values as values
use Rattle.ui_machine.specs.Instructions.Arithmetic.{most_bytes}
use Rattle.ui_machine.specs.State.Peers.{PeerState}
use Rattle.native_peers.specs.Moves.{Relation}

-- `show(text) -> uint` and `line(uint) -> text`
abbrev pub screen_shape : List Method
screen_shape =
    record { name = codes "show"; params = kinds.text ∷ []; result = kinds.whole kinds.uint }
    ∷ record { name = codes "line"; params = kinds.whole kinds.uint ∷ []; result = kinds.text }
    ∷ []

-- a screen keeps so many lines
abbrev pub most_lines : ℕ
most_lines = 1000

-- lines as values
abbrev pub texts : List (List ℕ) → List Value
texts lines = map (λ line. values.text (Some line)) lines

-- the bytes of a text, and none of null
abbrev pub text_in : Value → List ℕ
text_in (values.text (Some bytes)) = bytes
text_in _ = []

-- the text of the first argument
abbrev pub first_text : List Value → List ℕ
first_text [] = []
first_text (v ∷ vs) = text_in v

-- the number of a value of 32 bits without a sign
abbrev pub place_in : Value → ℕ
place_in (values.whole kinds.uint (pos n)) = n
place_in _ = 0

-- the number of the first argument
abbrev pub first_place : List Value → ℕ
first_place [] = 0
first_place (v ∷ vs) = place_in v

-- a line is added, where there is room for it and it is short enough, and the answer is how many lines there are then
pub record Shows (lines : List (List ℕ)) (line : List ℕ) (answer : Value) (new : List (List ℕ)) : Type 0 where
  pub room : length lines < most_lines
  pub short : length line ≤ most_bytes
  pub added : new ≡ lines ++ line ∷ []
  pub counted : answer ≡ values.whole kinds.uint (pos (length new))

-- the answer is the line of a number, the first of which is 0, and null past the end; the lines stay as they are
pub record Reads (lines : List (List ℕ)) (place : ℕ) (answer : Value) (new : List (List ℕ)) : Type 0 where
  pub read : answer ≡ values.text (slice_get lines place)
  pub same : new ≡ lines

-- what a method answers, and the lines after it: `show` adds its argument, and `line` reads
abbrev pub Answered : List (List ℕ) → ℕ → List Value → Value → List (List ℕ) → Type 0
Answered lines zero args answer new = Shows lines (first_text args) answer new
Answered lines (suc method) args answer new = Reads lines (first_place args) answer new

-- a fault leaves the lines as they are
abbrev pub Screens : Relation
Screens s method args answer t =
    (lines : List (List ℕ)) × (s.values ≡ texts lines)
    × MatchOption answer (t.values ≡ s.values) (λ v. (new : List (List ℕ)) × (t.values ≡ texts new) × Answered lines method args v new)

-- a screen begins open, and has no lines
abbrev pub new_screen : PeerState
new_screen = record { shape = screen_shape; is_open = true; calls = 0; faults = 0; values = [] }
