-- How many an object can hold.
use Rattle.std.specs.Prelude.{◌≡◌, ◌<◌, ◌^◌, ℕ, Option, Some, length}
use Rattle.ui_machine.specs.State.Objects.{Object}
use Rattle.instance_tables.specs.declared.instance.Instance.{Instance}

-- its values and its children are kept in lists of fewer than 2^63 items
abbrev pub HoldsFew : Object → Type 0
HoldsFew o = (length o.values < 2 ^ 63) × (length o.children < 2 ^ 63)

-- so do those of each object that an identity has
abbrev pub AllHoldFew : (ℕ → Option Instance) → Type 0
AllHoldFew at = (q : ℕ) (x : Instance) → at q ≡ Some x → HoldsFew x.object
