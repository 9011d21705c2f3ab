-- The serial numbers of peers, by which a peer of a name is searched for.
use Rattle.std.specs.Prelude.{◌≡◌, ◌&&◌, ◌∷◌, Bool, List, None, Option, Some, String, [], cond, nat_lt, true, ℕ}
use Rattle.std.specs.BTreeMap.{BTreeMap, get_by_text}
use Rattle.ui_machine.specs.Definition.Names.{same_name}

-- whether the numbers rise, and the first is above this one
abbrev pub rises_from : ℕ → List ℕ → Bool
rises_from above [] = true
rises_from above (n ∷ numbers) = nat_lt above n && rises_from n numbers

-- the serial number of the first entry of a name
abbrev pub serial_named : {N : Type 0} → (N → List ℕ) → (N → ℕ) → List N → List ℕ → Option ℕ
serial_named name_of serial_of [] name = None
serial_named name_of serial_of (x ∷ xs) name = cond (same_name (name_of x) name) (Some (serial_of x)) (serial_named name_of serial_of xs name)

-- what is kept gives each name its serial number
abbrev pub AreSerials : {Y : Type 0} → BTreeMap (String Y) ℕ → (List ℕ → Option ℕ) → Type 0
AreSerials serials serial_of = (name : List ℕ) → get_by_text serials name ≡ serial_of name
