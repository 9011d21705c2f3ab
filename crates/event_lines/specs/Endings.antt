-- What the program says and answers where it runs nothing.
use Rattle.std.specs.Prelude.{ℕ, Bool, true, false, List, [], ◌∷◌, codes}
use Rattle.event_lines.specs.declared.exit_status.Ending.{Ending}
use Rattle.event_lines.specs.declared.exit_status.Ending.TheVariants as endings
use Rattle.event_lines.specs.Texts.{joined}

-- how its line begins
abbrev pub ending_prefix : Ending → List ℕ
ending_prefix endings.Usage = codes "usage: ui verify DEF | ui run DEF EVENTS"
ending_prefix endings.Unreadable = codes "cannot read "
ending_prefix endings.OutOfMemory = codes "refused: OutOfMemory"

-- its one line, with the name of the file that can't be read, and its LF
abbrev pub ending_line : Ending → List ℕ → List ℕ
ending_line ending name = joined (ending_prefix ending ∷ name ∷ codes "\n" ∷ [])

-- its status, by whether the line was lost: want of memory whose line is lost is a write that failed
abbrev pub ending_status : Ending → Bool → ℕ
ending_status endings.Usage lost = 2
ending_status endings.Unreadable lost = 4
ending_status endings.OutOfMemory false = 3
ending_status endings.OutOfMemory true = 4
