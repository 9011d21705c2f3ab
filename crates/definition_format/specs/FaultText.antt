-- How the refusal of a definition is printed: its name and its fields, with one blank between them.
use Rattle.std.specs.Prelude.{ℕ, ◌+◌, ◌/◌, ◌%◌, List, [], ◌∷◌, ◌++◌, codes, decimal, nat_lt, if◌then◌else◌}
use Rattle.std.specs.List.{flat_map}
use Rattle.type_tree.specs.TypeName.{is_within}
use Rattle.type_tree.specs.declared.error.TypeLimit.{TypeLimit}
use Rattle.type_tree.specs.declared.error.TypeLimit.TheVariants as limits
use Rattle.definition_format.specs.Causes.{Cause, PropertyCause}
use Rattle.definition_format.specs.Causes as causes
use Rattle.g_values.specs.declared.error.JsonFault.{JsonFault}
use Rattle.g_values.specs.declared.error.JsonFault.TheVariants as values
use Rattle.param_specs.specs.declared.error.SpecFault.{SpecFault}
use Rattle.param_specs.specs.declared.error.SpecFault.TheVariants as specs
use Rattle.signal_core.specs.declared.fault.SignalFault.{SignalFault}
use Rattle.signal_core.specs.declared.fault.SignalFault.TheVariants as signals
use Rattle.bytecode.specs.declared.faults.ProgramFault.{ProgramFault}
use Rattle.bytecode.specs.declared.faults.ProgramFault.TheVariants as programs
use Rattle.bytecode.specs.declared.faults.ProgramLimit.{ProgramLimit}
use Rattle.bytecode.specs.declared.faults.ProgramLimit.TheVariants as program_limits
use Rattle.definition_format.specs.declared.faults.DefinitionLimit.{DefinitionLimit}
use Rattle.definition_format.specs.declared.faults.DefinitionLimit.TheVariants.{Types, Depth, Properties, Signals, Programs, Places, Objects, Handlers}
use Rattle.definition_format.specs.Refusals.{Refusal, too_long, not_utf8, not_json, shape, unknown, duplicate, bad_type, bad_spec, bad_program, value_fault, forward_construct_only, limit}

-- ** paths and names

-- the upper case digit of a number below 16
abbrev pub hex_digit : ℕ → ℕ
hex_digit d = if nat_lt d 10 then 48 + d else 55 + d

-- a byte that can be seen as it is, any other as `%` and two hexadecimal digits
abbrev pub printed_byte : ℕ → List ℕ
printed_byte x = if is_within 33 126 x then x ∷ [] else 37 ∷ hex_digit (x / 16) ∷ hex_digit (x % 16) ∷ []

abbrev pub printed : List ℕ → List ℕ
printed bytes = flat_map printed_byte bytes

-- ** causes

abbrev pub type_limit_name : TypeLimit → List ℕ
type_limit_name limits.Types = codes "types"
type_limit_name limits.Depth = codes "depth"

-- a cause and its own fields
abbrev pub type_cause_text : Cause → List ℕ
type_cause_text causes.bad_name = codes "BadName"
type_cause_text causes.duplicate = codes "Duplicate"
type_cause_text causes.unknown_parent = codes "UnknownParent"
type_cause_text causes.final_parent = codes "FinalParent"
type_cause_text (causes.prerequisite name) = codes "Prerequisite " ++ printed name
type_cause_text (causes.limit l) = codes "Limit " ++ type_limit_name l
type_cause_text causes.abstract_class = codes "Abstract"

-- why a property is not installed
abbrev pub spec_fault_text : SpecFault → List ℕ
spec_fault_text specs.BadName = codes "BadName"
spec_fault_text specs.Duplicate = codes "Duplicate"
spec_fault_text specs.FlagsClash = codes "FlagsClash"
spec_fault_text specs.RangeEmpty = codes "RangeEmpty"
spec_fault_text specs.DefaultInvalid = codes "DefaultInvalid"
spec_fault_text specs.Limit = codes "Limit"

-- why a signal is not declared
abbrev pub signal_fault_text : SignalFault → List ℕ
signal_fault_text signals.BadName = codes "BadName"
signal_fault_text signals.Duplicate = codes "Duplicate"
signal_fault_text signals.AccumulatorKind = codes "AccumulatorKind"
signal_fault_text signals.Limit = codes "Limit"

-- why one of them is not there, or a property is given no value or not overridden: the name of the cause and its own fields
abbrev pub spec_cause_text : PropertyCause → List ℕ
spec_cause_text (causes.install fault) = spec_fault_text fault
spec_cause_text (causes.declare fault) = signal_fault_text fault
spec_cause_text causes.not_writable = codes "NotWritable"
spec_cause_text (causes.override_missing name) = codes "OverrideMissing " ++ printed name
spec_cause_text (causes.override_differs name) = codes "OverrideDiffers " ++ printed name

abbrev pub program_limit_name : ProgramLimit → List ℕ
program_limit_name program_limits.Registers = codes "registers"
program_limit_name program_limits.Blocks = codes "blocks"
program_limit_name program_limits.Instructions = codes "instructions"

-- why JSON denotes no program: the name of the cause, and the numbers of the block and of the instruction
abbrev pub program_cause_text : ProgramFault → List ℕ
program_cause_text (programs.BadInstruction block at) = codes "BadInstruction " ++ (decimal block.0 ++ (codes " " ++ decimal at))
program_cause_text (programs.BackwardJump block) = codes "BackwardJump " ++ decimal block.0
program_cause_text (programs.NoReturn block) = codes "NoReturn " ++ decimal block.0
program_cause_text (programs.Limit l) = codes "Limit " ++ program_limit_name l
program_cause_text (programs.BadRepeat block) = codes "BadRepeat " ++ decimal block.0

-- why JSON denotes no value
abbrev pub value_cause_text : JsonFault → List ℕ
value_cause_text values.WrongJson = codes "WrongJson"
value_cause_text values.OutOfRange = codes "OutOfRange"
value_cause_text values.UnknownMember = codes "UnknownMember"
value_cause_text values.TextTooLong = codes "TextTooLong"

-- ** refusals

abbrev pub limit_name : DefinitionLimit → List ℕ
limit_name Types = codes "types"
limit_name Depth = codes "depth"
limit_name Properties = codes "properties"
limit_name Signals = codes "signals"
limit_name Programs = codes "programs"
limit_name Places = codes "places"
limit_name Objects = codes "objects"
limit_name Handlers = codes "handlers"

-- a refusal as it is printed behind `refused: `
abbrev pub refusal_text : Refusal → List ℕ
refusal_text too_long = codes "TooLong"
refusal_text not_utf8 = codes "NotUtf8"
refusal_text not_json = codes "NotJson"
refusal_text (shape path) = codes "Shape " ++ printed path
refusal_text (unknown path name) = codes "Unknown " ++ (printed path ++ (codes " " ++ printed name))
refusal_text (duplicate path) = codes "Duplicate " ++ printed path
refusal_text (bad_type path cause) = codes "BadType " ++ (printed path ++ (codes " " ++ type_cause_text cause))
refusal_text (bad_spec path cause) = codes "BadSpec " ++ (printed path ++ (codes " " ++ spec_cause_text cause))
refusal_text (bad_program path cause) = codes "BadProgram " ++ (printed path ++ (codes " " ++ program_cause_text cause))
refusal_text (value_fault path cause) = codes "ValueFault " ++ (printed path ++ (codes " " ++ value_cause_text cause))
refusal_text (forward_construct_only path) = codes "ForwardConstructOnly " ++ printed path
refusal_text (limit l) = codes "Limit " ++ limit_name l
