-- What a line reader finds.
use Rattle.std.specs.Prelude.{◌+◌, min, ◌≡◌, ℕ, ◌<◌, ◌≤◌, false, List, [], ◌∷◌, ◌++◌, length, Option, Some, None, ⊤}
use Rattle.event_lines.specs.Lines.{lines_of, line_ends, has_end}
use Rattle.ui_machine.specs.Limits.{most_line_bytes}
use Rattle.event_lines.specs.declared.line_reader.Found.{Found}
use Rattle.event_lines.specs.declared.line_reader.Found.TheVariants as founds

-- the most bytes that are read ahead
abbrev pub most_ahead : ℕ
most_ahead = 4096

-- a fact of known bytes before and after, which stay known
abbrev pub WhereKnown : Option (List ℕ) → Option (List ℕ) → (List ℕ → List ℕ → Type 0) → Type 0
WhereKnown None new P = ⊤
WhereKnown (Some xs) None P = ⊥
WhereKnown (Some xs) (Some ys) P = P xs ys

-- what the reader knows of a line that it found
abbrev pub IsOf : Found → List ℕ → List ℕ → Type 0
IsOf founds.Whole buffer line = (line ≡ buffer) × (length line ≤ most_line_bytes)
IsOf founds.TooLong buffer line = most_line_bytes < length line
IsOf founds.NoMemory buffer line = ⊤

-- the line is the first of the bytes xs, of which ys are left
pub record IsFirst (found : Found) (line xs ys : List ℕ) : Type 0 where
  pub rest : List (List ℕ)
  pub first : lines_of xs ≡ line ∷ rest
  pub goes_on : found ≡ founds.Whole → rest ≡ lines_of ys
  pub short : length xs ≤ length ys + (min (length line) most_line_bytes + 1)
  pub part : List ℕ
  pub split : xs ≡ part ++ ys
  pub ends : line_ends part ≤ 1

-- a line, the first of the bytes where these are known
pub record Finds (found : Found) (buffer : List ℕ) (old new : Option (List ℕ)) : Type 0 where
  pub line : List ℕ
  pub is : IsOf found buffer line
  pub one : has_end line ≡ false
  pub first : WhereKnown old new (λ xs ys. IsFirst found line xs ys)

-- the next line, or the end
abbrev pub Reads : Option Found → List ℕ → Option (List ℕ) → Option (List ℕ) → Type 0
Reads None buffer old new = WhereKnown old new (λ xs ys. xs ≡ [])
Reads (Some found) buffer old new = Finds found buffer old new

-- what was read of a line whose end was not
pub record IsBegun (xs ys : List ℕ) : Type 0 where
  pub part : List ℕ
  pub split : xs ≡ part ++ ys
  pub one : has_end part ≡ false
  pub short : length part ≤ most_line_bytes

-- what the last read gave, and what came before it, in which no line ends
pub record IsLate (xs ys : List ℕ) : Type 0 where
  pub part : List ℕ
  pub late : List ℕ
  pub split : xs ≡ part ++ (late ++ ys)
  pub one : has_end part ≡ false
  pub chunk : length late ≤ most_ahead

-- the next byte was the first of those that were read ahead
abbrev pub IsTaken : Option ℕ → List ℕ → List ℕ → Type 0
IsTaken None before ahead = before ≡ []
IsTaken (Some b) before ahead = before ≡ b ∷ ahead

-- the next byte came from a read, since none was read ahead
abbrev pub IsReadAnew : Option ℕ → List ℕ → List ℕ → Type 0
IsReadAnew None before ahead = before ≡ []
IsReadAnew (Some b) before ahead = (before ≡ []) × (length ahead < most_ahead)
