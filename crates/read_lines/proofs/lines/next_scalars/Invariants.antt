use Rattle.std.proofs.Common.{◌≡◌, List, ◌++◌, length, Some}
use Rattle.json.specs.Token.{Token}
use Rattle.serde_json.specs.View.{items_view}
use Rattle.read_lines.specs.Tokens.{scalars_data}
use Rattle.read_lines.proofs.lines.next_scalars.Given as goal

abbrev pub invariant-values : goal.invariant-values
invariant-values l = (ts : List Token) × (l.fn.reader ≡ ts ++ l.reader) × (scalars_data ts ≡ Some (items_view l.values.items))

abbrev pub decreases-values : goal.decreases-values
decreases-values l = length l.reader
