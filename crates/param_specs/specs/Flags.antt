-- Flags of properties (GObject manual, GParamFlags).
use Rattle.std.specs.Prelude.{ℕ, Bool, ◌&&◌, ◌||◌, not}
use Rattle.ui_machine.specs.Definition.Properties.{has_flags}

-- construct with construct-only, either without writable, or neither readable nor writable
abbrev pub is_clash : ℕ → Bool
is_clash flags =
    has_flags 4 flags && has_flags 8 flags
    || has_flags 4 flags && not (has_flags 2 flags)
    || has_flags 8 flags && not (has_flags 2 flags)
    || not (has_flags 1 flags) && not (has_flags 2 flags)
