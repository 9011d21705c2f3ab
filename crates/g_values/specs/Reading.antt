-- Which value of a kind a JSON value denotes, or why it denotes none.
use Rattle.std.specs.Prelude.{◌≡◌, ℕ, ℤ, pos, unsigned_abs, List, length, nat_lt, if◌then◌else◌, Option, None, Some, option_and_then, Result, Ok, Err}
use Rattle.std.specs.Result.{IsOk}
use Rattle.serde_json.specs.Data.{Data, null, boolean, number, string, array, object}
use Rattle.serde_json.specs.Find.{as_null, as_bool, as_str, as_number, as_integer}
use Rattle.ui_machine.specs.Definition.Kinds.{Kind, int, uint}
use Rattle.ui_machine.specs.Definition.Kinds as kinds
use Rattle.ui_machine.specs.Definition.Values.{Value}
use Rattle.ui_machine.specs.Definition.Values as values
use Rattle.ui_machine.specs.Definition.Types.{GType, Member}
use Rattle.ui_machine.specs.Output.Text.{members_of}
use Rattle.ui_machine.specs.Rules.Transform.{least, greatest, is_between, has_number}
use Rattle.type_tree.specs.Naming.{number_called}
use Rattle.g_values.specs.Naming.{bits_named}
use Rattle.g_values.specs.declared.error.JsonFault.{JsonFault}
use Rattle.g_values.specs.declared.error.JsonFault.TheVariants.{WrongJson, OutOfRange, UnknownMember, TextTooLong}
use Rattle.g_values.specs.declared.error.JsonError.{JsonError}
use Rattle.g_values.specs.declared.error.JsonError.TheVariants.{OutOfMemory, Refused}
use Rattle.ui_machine.specs.Limits.{most_text_bytes}

-- ** parts of values

-- a whole number of 64 bits, with or without a sign
abbrev pub whole_number : Data → Option ℤ
whole_number d = option_and_then as_integer (as_number d)

-- a whole number between two others, both included
abbrev pub number_between : ℤ → ℤ → Option ℤ → Result ℤ JsonFault
number_between low high None = Err WrongJson
number_between low high (Some n) = if is_between low high n then Ok n else Err OutOfRange

-- what a text calls, if it calls something
abbrev pub called : {A : Type 0} → Option A → Result A JsonFault
called None = Err UnknownMember
called (Some x) = Ok x

-- the number of a member
abbrev pub member_numbered : List Member → Result ℤ JsonFault → Result ℤ JsonFault
member_numbered members (Err cause) = Err cause
member_numbered members (Ok n) = if has_number members n then Ok n else Err UnknownMember

-- the number of a member that a text calls or that is given itself
abbrev pub enum_number : List Member → Option (List ℕ) → Option ℤ → Result ℤ JsonFault
enum_number members None n = member_numbered members (number_between (least int) (greatest int) n)
enum_number members (Some word) n = called (number_called members word)

abbrev pub bits_of : Result ℤ JsonFault → Result ℕ JsonFault
bits_of (Err cause) = Err cause
bits_of (Ok n) = Ok (unsigned_abs n)

-- bits that a text names, or any number of 32 bits that is given itself
abbrev pub flags_bits : List Member → Option (List ℕ) → Option ℤ → Result ℕ JsonFault
flags_bits members None n = bits_of (number_between (pos 0) (greatest uint) n)
flags_bits members (Some text) n = called (bits_named members text)

-- a text that is not too long, or null
abbrev pub text_or_null : Data → Result (Option (List ℕ)) JsonFault
text_or_null null = Ok None
text_or_null (boolean b) = Err WrongJson
text_or_null (number n) = Err WrongJson
text_or_null (string s) = if nat_lt most_text_bytes (length s) then Err TextTooLong else Ok (Some s)
text_or_null (array ds) = Err WrongJson
text_or_null (object ms) = Err WrongJson

-- what is there, if it is
abbrev pub expected : {A : Type 0} → Option A → Result A JsonFault
expected None = Err WrongJson
expected (Some x) = Ok x

-- ** values

abbrev pub value_of : {A : Type 0} → (A → Value) → Result A JsonFault → Result Value JsonFault
value_of make (Err cause) = Err cause
value_of make (Ok x) = Ok (make x)

-- the value of a kind that JSON denotes, or why it denotes none; of objects, null alone
abbrev pub json_value : List GType → Kind → Data → Result Value JsonFault
json_value types kinds.bool d = value_of values.bool (expected (as_bool d))
json_value types (kinds.whole k) d = value_of (values.whole k) (number_between (least k) (greatest k) (whole_number d))
json_value types kinds.text d = value_of values.text (text_or_null d)
json_value types (kinds.enum t) d = value_of (values.enum t) (enum_number (members_of types t) (as_str d) (whole_number d))
json_value types (kinds.flags t) d = value_of (values.flags t) (flags_bits (members_of types t) (as_str d) (whole_number d))
json_value types (kinds.object t) d = value_of (λ _. values.object None) (expected (as_null d))

-- What a function returned, seen by view, is what is meant; without memory it would have been a value.
abbrev pub Means : {X Y : Type 0} → (X → Y) → Result X JsonError → Result Y JsonFault → Type 0
Means view (Ok x) meant = meant ≡ Ok (view x)
Means view (Err (Refused cause)) meant = meant ≡ Err cause
Means view (Err OutOfMemory) meant = IsOk meant
