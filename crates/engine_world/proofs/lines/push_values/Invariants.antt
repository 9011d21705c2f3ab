use Rattle.std.proofs.Common.{◌≡◌, ◌++◌, length, map, string_bytes}
use Rattle.ui_machine.specs.Output.Text.{text_of_values}
use Rattle.g_values.specs.View.{value_view}
use Rattle.engine_world.proofs.lines.push_values.Given as goal

abbrev pub invariant-values : goal.invariant-values
invariant-values l = string_bytes l.line ++ text_of_values l.types (map value_view l.left) ≡ string_bytes l.fn.line ++ text_of_values l.types (map value_view l.values)

abbrev pub decreases-values : goal.decreases-values
decreases-values l = length l.left
