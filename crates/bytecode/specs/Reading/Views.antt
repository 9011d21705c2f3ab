-- Results that code gives, seen by a view of what is there and one of what is at fault.
use Rattle.std.specs.Prelude.{Result, Ok, Err}

abbrev pub seen : {A B E F : Type 0} → (A → B) → (E → F) → Result A E → Result B F
seen view fault (Ok x) = Ok (view x)
seen view fault (Err e) = Err (fault e)
