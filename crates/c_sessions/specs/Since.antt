-- The lines that sessions have said since.
use Rattle.std.specs.Prelude.{ℕ, List, drop, length}
use Rattle.ui_engine.specs.SessionView.{SessionState}

-- the lines that a session has said since
abbrev pub lines_since : SessionState → SessionState → List (List ℕ)
lines_since old new = drop (length old.world.transcript) new.world.transcript
