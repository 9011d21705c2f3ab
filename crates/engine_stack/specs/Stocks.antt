-- What stocks of vectors denote.
use Rattle.std.specs.Prelude.{◌≡◌, ℕ, [], cond, nat_eq, Vec, vec_capacity}
use Rattle.std.specs.Global.{Global}

-- how many vectors are left, how many there may be, and the room of each
pub record Kept : Type 0 where
  pub count : ℕ
  pub most : ℕ
  pub room : ℕ

-- an empty vector of this room
abbrev pub IsEmptyOf : {T : Type 0} → (room : ℕ) → Vec T Global → Type 0
IsEmptyOf room v = (v.items ≡ []) × (vec_capacity v ≡ room)

-- 1 for a vector of this room, 0 for any other
abbrev pub is_usual : {T : Type 0} → (room : ℕ) → Vec T Global → ℕ
is_usual room v = cond (nat_eq (vec_capacity v) room) 1 0
