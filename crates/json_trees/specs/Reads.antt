-- Values of a kind, read from JSON.
use Rattle.std.specs.Prelude.{◌≡◌, Result, Ok, Err}
use Rattle.g_values.specs.declared.error.JsonFault.{JsonFault}
use Rattle.g_values.specs.declared.error.JsonError.{JsonError}
use Rattle.g_values.specs.declared.error.JsonError.TheVariants.{OutOfMemory, Refused}

-- what a function returned, seen by view, is what is meant, unless memory was refused
abbrev pub Reads : {X Y : Type 0} → (X → Y) → Result X JsonError → Result Y JsonFault → Type 0
Reads view (Ok x) meant = meant ≡ Ok (view x)
Reads view (Err (Refused cause)) meant = meant ≡ Err cause
Reads view (Err OutOfMemory) meant = Unit {0}
