-- A value that JSON denotes is short.
use Rattle.std.proofs.Common.{◌≡◌, ℕ, Bool, true, false, List, length, None, Some, Result, Ok, Err, refl, arith}
use Rattle.std.specs.Prelude.{nat_lt, if◌then◌else◌, IfOk}
use Rattle.std.proofs.lemmas.Bool.Decides.{nat_tests}
use Rattle.serde_json.specs.Data.{Data, null, boolean, number, string, array, object}
use Rattle.serde_json.specs.Find.{as_bool, as_null, as_str}
use Rattle.ui_machine.specs.Definition.Kinds.{Kind}
use Rattle.ui_machine.specs.Definition.Kinds as kinds
use Rattle.ui_machine.specs.Definition.Types.{GType}
use Rattle.ui_machine.specs.Definition.Values.{Value}
use Rattle.ui_machine.specs.Definition.Values as values
use Rattle.ui_machine.specs.Limits.{most_text_bytes}
use Rattle.ui_machine.specs.Output.Text.{members_of}
use Rattle.ui_machine.specs.Rules.Transform.{greatest, least, zero_value}
use Rattle.ui_machine.specs.Runs.{IsShort}
use Rattle.g_values.specs.Reading.{enum_number, expected, flags_bits, json_value, number_between, text_or_null, value_of, whole_number}
use Rattle.g_values.specs.declared.error.JsonFault.{JsonFault}
use Rattle.g_values.specs.declared.error.JsonFault.TheVariants.{TextTooLong}
use Rattle.definition_format.specs.Refusals.{or_value_fault}

-- what is no text is short
made : {A : Type 0} (make : A → Value) → ((x : A) → IsShort (make x)) → (r : Result A JsonFault) → IfOk (value_of make r) IsShort
made make all (Ok x) = all x
made make all (Err cause) = tt

text_short : (d : Data) → IfOk (value_of values.text (text_or_null d)) IsShort
text_short null = tt
text_short (boolean b) = tt
text_short (number n) = tt
text_short (string s) = by (nat_lt most_text_bytes (length s)) refl
  where
    by : (b : Bool) → nat_lt most_text_bytes (length s) ≡ b → IfOk (value_of values.text (if b then Err TextTooLong else Ok (Some s))) IsShort
    by true e = tt
    by false e = grind (arith, nat_tests)
text_short (array ds) = tt
text_short (object ms) = tt

pub value_short : (types : List GType) (kind : Kind) (d : Data) → IfOk (json_value types kind d) IsShort
value_short types kinds.bool d = made values.bool (λ b. tt) (expected (as_bool d))
value_short types (kinds.whole k) d = made (values.whole k) (λ n. tt) (number_between (least k) (greatest k) (whole_number d))
value_short types kinds.text d = text_short d
value_short types (kinds.enum t) d = made (values.enum t) (λ n. tt) (enum_number (members_of types t) (as_str d) (whole_number d))
value_short types (kinds.flags t) d = made (values.flags t) (λ bits. tt) (flags_bits (members_of types t) (as_str d) (whole_number d))
value_short types (kinds.object t) d = made (λ u. values.object None) (λ u. tt) (expected (as_null d))

pub zero_short : (types : List GType) (kind : Kind) → IsShort (zero_value types kind)
zero_short types kinds.bool = tt
zero_short types (kinds.whole k) = tt
zero_short types kinds.text = tt
zero_short types (kinds.enum t) = tt
zero_short types (kinds.flags t) = tt
zero_short types (kinds.object t) = tt

-- a value that was read in a document
pub value_or_fault : (path : List ℕ) (r : Result Value JsonFault) → IfOk r IsShort → IfOk (or_value_fault path r) IsShort
value_or_fault path (Ok v) short = short
value_or_fault path (Err cause) short = tt
