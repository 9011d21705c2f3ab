-- The default of a property.
use Rattle.std.specs.Prelude.{ℕ, List, codes, if◌then◌else◌, Option, None, Some, Result, Ok, Err}
use Rattle.serde_json.specs.Data.{Data}
use Rattle.serde_json.specs.Find.{get}
use Rattle.ui_machine.specs.Definition.Kinds.{Kind}
use Rattle.ui_machine.specs.Definition.Values.{Value}
use Rattle.ui_machine.specs.Definition.Types.{GType}
use Rattle.ui_machine.specs.Definition.Properties.{Spec}
use Rattle.ui_machine.specs.Rules.Transform.{zero_value}
use Rattle.ui_machine.specs.Rules.Validation.{is_valid}
use Rattle.g_values.specs.Reading.{json_value}
use Rattle.g_values.specs.View.{is_whole_kind}
use Rattle.param_specs.specs.declared.error.SpecFault.TheVariants.{DefaultInvalid}
use Rattle.definition_format.specs.Refusals.{Refusal, not_installed, or_value_fault}
use Rattle.definition_format.specs.Document.{under}

-- the value that is given, or the kind's zero value
abbrev pub default_or_zero : List ℕ → List GType → Kind → Option Data → Result Value Refusal
default_or_zero path types kind None = Ok (zero_value types kind)
default_or_zero path types kind (Some d) = or_value_fault path (json_value types kind d)

abbrev pub default_at : List ℕ → List GType → Kind → Data → Result Value Refusal
default_at path types kind d = default_or_zero (under path (codes "default")) types kind (get (codes "default") d)

-- the default may be in its property
abbrev pub check_default : List ℕ → List GType → Spec → Result (Unit {0}) Refusal
check_default path types spec = if is_valid (λ id. None) types spec spec.default then Ok tt else Err (not_installed path DefaultInvalid)

-- the same of a kind without a range, where no range is awaited
abbrev pub check_unranged : List ℕ → List GType → Spec → Result (Unit {0}) Refusal
check_unranged path types spec = if is_whole_kind spec.kind then Ok tt else check_default path types spec
