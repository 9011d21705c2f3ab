use Rattle.std.proofs.Common.{◌≡◌, length}
use Rattle.std.specs.List.{slice_split}
use Rattle.ui_machine.specs.Output.Text.{members_of}
use Rattle.g_values.specs.Naming.{is_bar, bits_with, bits_named}
use Rattle.g_values.proofs.naming.bits_of_words.Given as goal

abbrev pub invariant-parts : goal.invariant-parts
invariant-parts l = bits_with (members_of l.tree l.t) l.bits (slice_split is_bar l.rest) ≡ bits_named (members_of l.fn.tree l.fn.t) l.fn.text

abbrev pub decreases-parts : goal.decreases-parts
decreases-parts l = length l.rest
