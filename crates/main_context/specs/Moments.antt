-- Moments from which something is so.
use Rattle.std.specs.Prelude.{ℕ, Bool, false, nat_le, Option, None, Some}

-- whether a moment is not before the first one; there may be no first one
abbrev pub is_from : Option ℕ → ℕ → Bool
is_from None moment = false
is_from (Some first) moment = nat_le first moment
