-- The limits of what is read.
use Rattle.std.specs.Prelude.{ℕ}

-- the most bytes of a definition
abbrev pub most_definition_bytes : ℕ
most_definition_bytes = 4194304

-- the most bytes of a line of an event file, its end not counted
abbrev pub most_line_bytes : ℕ
most_line_bytes = 65536

-- the most lines of an event file
abbrev pub most_lines : ℕ
most_lines = 65536

-- the most bytes of a text that is a value
abbrev pub most_text_bytes : ℕ
most_text_bytes = 4096
