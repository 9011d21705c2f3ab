-- What a run over the lines of a text may come to.
use Rattle.std.specs.Prelude.{min, ◌≡◌, ◌≢◌, ◌≤◌, ℕ, ◌+◌, ◌⊎◌, Bool, true, false, ◌||◌, List, [], ◌∷◌, ◌++◌, length, take, fold, nat_lt, nat_eq, if◌then◌else◌, Option}
use Rattle.std.specs.List.{list_all, list_any}
use Rattle.ui_machine.specs.Limits.{most_line_bytes, most_lines}
use Rattle.ui_machine.specs.Prefix.{IsPrefix}
use Rattle.event_lines.specs.declared.refusal.LineRefusal.{LineRefusal}
use Rattle.event_lines.specs.declared.refusal.LineRefusal.TheVariants as refusals
use Rattle.event_lines.specs.Lines.{lines_of, line_ends}
use Rattle.event_lines.specs.Reading.{WhereKnown, most_ahead}
use Rattle.event_lines.specs.Texts.{lines_text, refused_line, stopped_line}

-- how an event line ends
pub data Outcome : Type 0 where
  said : List (List ℕ) → Outcome  -- these lines; none for a line of blanks
  refused : LineRefusal → Outcome  -- by this refusal, and the run goes on
  cut_off : LineRefusal → Outcome  -- by this refusal, and the run ends
  stopped : List (List ℕ) → Outcome  -- these lines, and then no memory is found and the run ends

-- what is written for the line numbered n
abbrev pub text_at : ℕ → Outcome → List ℕ
text_at n (said lines) = lines_text lines
text_at n (refused refusal) = refused_line n refusal
text_at n (cut_off refusal) = refused_line n refusal
text_at n (stopped lines) = lines_text lines ++ stopped_line n

-- what is written for these lines, the first of them numbered n
abbrev pub text_from : ℕ → List Outcome → List ℕ
text_from n [] = []
text_from n (outcome ∷ outcomes) = text_at n outcome ++ text_from (n + 1) outcomes

abbrev pub ends : Outcome → Bool
ends (said lines) = false
ends (refused refusal) = false
ends (cut_off refusal) = true
ends (stopped lines) = true

-- the status after a line, from the one before it
abbrev pub status_after : ℕ → Outcome → ℕ
status_after status (said lines) = status
status_after status (refused refusal) = 5
status_after status (cut_off refusal) = 5
status_after status (stopped lines) = 3

abbrev pub status_of : List Outcome → ℕ
status_of outcomes = fold status_after 0 outcomes

abbrev pub is_blank : List ℕ → Bool
is_blank line = list_all (λ b. (nat_eq b 32 || nat_eq b 9) || nat_eq b 13) line

-- which lines a run takes for itself, and which are the session's
pub data LineSort : Type 0 where
  too_many : LineSort
  too_long : LineSort
  skipped : LineSort
  event : LineSort

abbrev pub sort_of_line : ℕ → List ℕ → LineSort
sort_of_line n line =
    if nat_lt most_lines n then too_many
    else (if nat_lt most_line_bytes (length line) then too_long
    else (if is_blank line then skipped else event))

-- the bytes of these lines, of each no more than one past the limit
abbrev pub reach : List (List ℕ) → ℕ
reach [] = 0
reach (line ∷ lines) = (min (length line) most_line_bytes + 1) + reach lines

-- What a session may answer to an event line, and the session after it.
abbrev pub Replies : Type 0 → Type 1
Replies S = S → List ℕ → Outcome → S → Type 0

abbrev pub Meets : {S : Type 0} → Replies S → LineSort → S → List ℕ → Outcome → S → Type 0
Meets replies too_many old line outcome new = (outcome ≡ cut_off refusals.TooMany) × (new ≡ old)
Meets replies too_long old line outcome new = (outcome ≡ cut_off refusals.TooLong) × (new ≡ old)
Meets replies skipped old line outcome new = (outcome ≡ said []) × (new ≡ old)
Meets replies event old line outcome new = replies old line outcome new

-- the line numbered n may come to this outcome: its sort's, or want of memory before that
abbrev pub LineComesTo : {S : Type 0} → Replies S → S → ℕ → List ℕ → Outcome → S → Type 0
LineComesTo replies old n line outcome new = Meets replies (sort_of_line n line) old line outcome new ⊎ ((outcome ≡ stopped []) × (new ≡ old))

-- the first of these lines, the first of all numbered n, come to these outcomes, one after the other, and none comes after an end; what
-- was said of a line is forgotten before the next
abbrev pub LinesComeTo : {S : Type 0} → Replies S → (S → S) → S → ℕ → List (List ℕ) → List Outcome → S → Type 0
LinesComeTo replies forgotten old n lines [] new = new ≡ old
LinesComeTo replies forgotten old n [] (outcome ∷ outcomes) new = ⊥
LinesComeTo {S} replies forgotten old n (line ∷ lines) (outcome ∷ outcomes) new =
    (mid : S) × LineComesTo replies old n line outcome mid × (ends outcome ≡ true → outcomes ≡ [])
    × LinesComeTo replies forgotten (forgotten mid) (n + 1) lines outcomes new

-- no line is left to be handled
abbrev pub IsOver : List (List ℕ) → List Outcome → Type 0
IsOver lines outcomes = (length outcomes ≡ length lines) ⊎ (list_any ends outcomes ≡ true)

-- Of the input, all but the rest was read, the last read gave no more than a chunk, and before it so many lines had ended at most.
pub record BeforeLastRead (count : ℕ) (input rest : List ℕ) : Type 0 where
  pub part : List ℕ
  pub late : List ℕ
  pub split : input ≡ part ++ (late ++ rest)
  pub chunk : length late ≤ most_ahead
  pub ended : line_ends part ≤ count

-- The order of reads and writes, as it was at the last read: what comes before the events was written, and the outcomes of the first
-- lines, none of which ends the run. These were all lines that had ended: nothing that was said was held back while a read could wait. And of
-- the lines after them no more was read than the next, and a chunk.
pub record InStep (before : List ℕ) (outcomes : List Outcome) (first last : Option (List ℕ)) (text : List ℕ) : Type 0 where
  pub count : ℕ
  pub within : count ≤ length outcomes
  pub goes_on : list_any ends (take count outcomes) ≡ false
  pub written : IsPrefix (before ++ text_from 1 (take count outcomes)) text
  pub ended : WhereKnown first last (λ input rest. BeforeLastRead count input rest)
  pub near : WhereKnown first last (λ input rest. length input ≤ length rest + (reach (take (count + 1) (lines_of input)) + most_ahead))

-- each whole line that was read has its outcome
pub record AllTold (outcomes : List Outcome) (input rest : List ℕ) : Type 0 where
  pub part : List ℕ
  pub split : input ≡ part ++ rest
  pub told : line_ends part ≤ length outcomes

-- a run over these lines that ended in this status, where the writer failed or not: their outcomes, and what it wrote from the bytes before
-- them on; nothing was read, or from the first bytes to the last
pub record EventFileRun {S : Type 0} (replies : Replies S) (forgotten : S → S) (old : S) (before : List ℕ) (lines : List (List ℕ)) (status : ℕ) (torn : Bool) (unread : Type 0) (first last : Option (List ℕ)) (text : List ℕ) (new : S) : Type 0 where
  pub outcomes : List Outcome
  pub told : LinesComeTo replies forgotten old 1 lines outcomes new
  -- the writer failed: the text broke off
  pub broke : torn ≡ true → IsPrefix text (before ++ text_from 1 outcomes)
  -- it did not: the whole text of the outcomes so far, also where the reader failed
  pub whole : torn ≡ false → text ≡ before ++ text_from 1 outcomes
  -- no device failed: there are no more outcomes, by the end of the lines or of the run
  pub over : status ≢ 4 → IsOver lines outcomes
  pub answer : status ≢ 4 → status ≡ status_of outcomes
  -- at each status: all that was said is written before anything is read
  pub order : unread ⊎ InStep before outcomes first last text
  -- the reader failed: the lines so far were handled
  pub heard : status ≡ 4 → torn ≡ false → WhereKnown first last (λ input rest. AllTold outcomes input rest)
