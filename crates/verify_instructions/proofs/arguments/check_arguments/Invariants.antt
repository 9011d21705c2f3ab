use Rattle.std.proofs.Common.{map}
use Rattle.g_values.specs.View.{kind_view}
use Rattle.verify_operands.specs.Views.{kinds_of}
use Rattle.verify_instructions.proofs.ArgumentLists.{Pass}
use Rattle.verify_instructions.proofs.arguments.check_arguments.Given as goal

abbrev pub invariant-loop-number : goal.invariant-loop-number
invariant-loop-number l = Pass l.lookups (kinds_of l.kinds) l.args (map kind_view l.params) l.number
