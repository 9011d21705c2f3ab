-- Text in a buffer.
use Rattle.std.specs.Prelude.{ℕ, List, [], ◌∷◌}

-- a buffer with as much of a text as there is room for, a zero behind it where there is room for that, and then what it had
abbrev pub with_text : (buffer text : List ℕ) → List ℕ
with_text [] text = []
with_text (b ∷ buffer) [] = 0 ∷ buffer
with_text (b ∷ buffer) (byte ∷ text) = byte ∷ with_text buffer text
