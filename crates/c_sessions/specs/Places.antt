-- Places among lines.
use Rattle.std.specs.Prelude.{◌≤◌, ℕ, List, [], drop, length, slice_index_or}
use Rattle.event_lines.specs.Texts.{lines_text}

-- a place among some lines: that of a byte of a line, or of its LF, or behind them all
abbrev pub IsPlace : List (List ℕ) → ℕ → ℕ → Type 0
IsPlace lines line byte = (line ≤ length lines) × (byte ≤ length (slice_index_or lines line []))

-- the bytes from there on
abbrev pub left_of : List (List ℕ) → ℕ → ℕ → List ℕ
left_of lines line byte = drop byte (lines_text (drop line lines))
