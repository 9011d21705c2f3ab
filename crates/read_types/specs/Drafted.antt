-- What was read, as a draft has it.
use Rattle.std.specs.Prelude.{Result, Ok, Err}
use Rattle.definition_format.specs.Refusals.{Refusal}

-- what was read, as a draft has it
abbrev pub drafted : {S T : Type 0} → (S → T) → Result S Refusal → Result T Refusal
drafted draft (Ok s) = Ok (draft s)
drafted draft (Err e) = Err e
