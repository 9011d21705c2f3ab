-- What is in a list or an object does not matter to a value of a kind.
use Rattle.std.proofs.Common.{◌≡◌, List, refl}
use Rattle.serde_json.specs.Data.{Data, null, boolean, number, string, array, object}
use Rattle.ui_machine.specs.Definition.Kinds.{Kind}
use Rattle.ui_machine.specs.Definition.Kinds as kinds
use Rattle.ui_machine.specs.Definition.Types.{GType}
use Rattle.g_values.specs.Reading.{json_value}
use Rattle.json_trees.specs.Outermost.{outermost}

pub same_value : (types : List GType) (k : Kind) (d : Data) → json_value types k (outermost d) ≡ json_value types k d
same_value types k null = refl
same_value types k (boolean b) = refl
same_value types k (number n) = refl
same_value types k (string s) = refl
same_value types kinds.bool (array ds) = refl
same_value types (kinds.whole w) (array ds) = refl
same_value types kinds.text (array ds) = refl
same_value types (kinds.enum t) (array ds) = refl
same_value types (kinds.flags t) (array ds) = refl
same_value types (kinds.object t) (array ds) = refl
same_value types kinds.bool (object ms) = refl
same_value types (kinds.whole w) (object ms) = refl
same_value types kinds.text (object ms) = refl
same_value types (kinds.enum t) (object ms) = refl
same_value types (kinds.flags t) (object ms) = refl
same_value types (kinds.object t) (object ms) = refl
