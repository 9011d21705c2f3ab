-- The priorities of sources that are ready.
use Rattle.std.specs.Prelude.{◌≡◌, ℕ, ℤ, Bool, true, false, not, ◌&&◌, ◌||◌, List, Option, Some, None, int_le}
use Rattle.std.specs.Ordering.{int_eq}
use Rattle.std.specs.List.{list_any, list_all}
use Rattle.ui_machine.specs.State.Sources.{Source}
use Rattle.ui_machine.specs.Rules.MainLoop.{is_ready}

-- whether a source is ready and has this priority
abbrev pub is_ready_at : (moment : ℕ) → ℤ → Source → Bool
is_ready_at moment priority s = is_ready moment s && int_eq s.priority priority

-- whether no ready source has a lower priority number than this
abbrev pub is_lowest : (moment : ℕ) → ℤ → List Source → Bool
is_lowest moment priority sources = list_all (λ t. not (is_ready moment t) || int_le priority t.priority) sources

-- the least priority number of the ready sources, or nothing where none is ready
abbrev pub IsLeast : (moment : ℕ) → List Source → Option ℤ → Type 0
IsLeast moment sources None = list_any (is_ready moment) sources ≡ false
IsLeast moment sources (Some priority) = (list_any (is_ready_at moment priority) sources ≡ true) × (is_lowest moment priority sources ≡ true)
