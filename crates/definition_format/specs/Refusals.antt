-- Why bytes denote no definition.
use Rattle.std.specs.Prelude.{◌≡◌, ℕ, List, Option, None, Some, Result, Ok, Err, string_bytes}
use Rattle.g_values.specs.declared.error.JsonFault.{JsonFault}
use Rattle.bytecode.specs.declared.faults.ProgramFault.{ProgramFault}
use Rattle.param_specs.specs.declared.error.SpecFault.{SpecFault}
use Rattle.signal_core.specs.declared.fault.SignalFault.{SignalFault}
use Rattle.definition_format.specs.Causes.{Cause, cause_view, PropertyCause, install, declare, property_cause}
use Rattle.definition_format.specs.declared.faults.DefinitionLimit.{DefinitionLimit}
use Rattle.definition_format.specs.declared.faults.DefinitionFault.{DefinitionFault}
use Rattle.definition_format.specs.declared.faults.DefinitionFault.TheVariants as faults
use Rattle.definition_format.specs.declared.faults.ReadError.{ReadError}
use Rattle.definition_format.specs.declared.faults.ReadError.TheVariants as errors

pub data Refusal : Type 0 where
  too_long : Refusal
  not_utf8 : Refusal
  not_json : Refusal
  shape : (path : List ℕ) → Refusal
  unknown : (path name : List ℕ) → Refusal
  duplicate : (path : List ℕ) → Refusal
  bad_type : (path : List ℕ) (cause : Cause) → Refusal
  bad_spec : (path : List ℕ) (cause : PropertyCause) → Refusal
  bad_program : (path : List ℕ) (cause : ProgramFault) → Refusal
  value_fault : (path : List ℕ) (cause : JsonFault) → Refusal
  forward_construct_only : (path : List ℕ) → Refusal
  limit : DefinitionLimit → Refusal

-- a property that is not installed
abbrev pub not_installed : List ℕ → SpecFault → Refusal
not_installed path fault = bad_spec path (install fault)

-- a signal that is not declared
abbrev pub not_declared : List ℕ → SignalFault → Refusal
not_declared path fault = bad_spec path (declare fault)

-- a fault without where its text lies in memory
abbrev pub refusal : DefinitionFault → Refusal
refusal faults.TooLong = too_long
refusal faults.NotUtf8 = not_utf8
refusal faults.NotJson = not_json
refusal (faults.Shape path) = shape (string_bytes path)
refusal (faults.Unknown path name) = unknown (string_bytes path) (string_bytes name)
refusal (faults.Duplicate path) = duplicate (string_bytes path)
refusal (faults.BadType path cause) = bad_type (string_bytes path) (cause_view cause)
refusal (faults.BadSpec path cause) = bad_spec (string_bytes path) (property_cause cause)
refusal (faults.BadProgram path cause) = bad_program (string_bytes path) cause
refusal (faults.ValueFault path cause) = value_fault (string_bytes path) cause
refusal (faults.ForwardConstructOnly path) = forward_construct_only (string_bytes path)
refusal (faults.Limit l) = limit l

-- What a function returned, seen by view, is what reading gives, unless memory ran out.
abbrev pub Fails : {Y : Type 0} → ReadError → Result Y Refusal → Type 0
Fails errors.OutOfMemory read = Unit {0}
Fails (errors.Refused fault) read = read ≡ Err (refusal fault)

abbrev pub Gives : {X Y : Type 0} → (X → Y) → Result X ReadError → Result Y Refusal → Type 0
Gives view (Ok x) read = read ≡ Ok (view x)
Gives view (Err e) read = Fails e read

-- the same of a function that changes something in its place
abbrev pub Leads : {X Y : Type 0} → Result X ReadError → Result Y Refusal → Y → Type 0
Leads (Ok x) read new = read ≡ Ok new
Leads (Err e) read new = Fails e read

-- an error that is this refusal, or no memory
abbrev pub IsRefusal : Refusal → Result ReadError ReadError → Type 0
IsRefusal r (Ok e) = Fails {Y = Unit {0}} e (Err r)
IsRefusal r (Err e) = e ≡ errors.OutOfMemory

-- what is there, or the refusal
abbrev pub or_refused : {A : Type 0} → Refusal → Option A → Result A Refusal
or_refused refusal None = Err refusal
or_refused refusal (Some x) = Ok x

-- nothing, or the refusal of what was found
abbrev pub refused_if : {A : Type 0} → (A → Refusal) → Option A → Result (Unit {0}) Refusal
refused_if refusal None = Ok tt
refused_if refusal (Some x) = Err (refusal x)

-- a value, or the refusal for the cause why there is none
abbrev pub or_value_fault : {A : Type 0} → List ℕ → Result A JsonFault → Result A Refusal
or_value_fault path (Ok x) = Ok x
or_value_fault path (Err cause) = Err (value_fault path cause)
