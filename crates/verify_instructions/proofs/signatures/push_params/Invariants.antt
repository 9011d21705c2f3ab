use Rattle.std.proofs.Common.{◌≡◌, ◌++◌, map, take}
use Rattle.g_values.specs.View.{kind_view}
use Rattle.ui_machine.specs.Definition.Kinds as kinds
use Rattle.verify_operands.specs.Views.{kinds_of}
use Rattle.verify_instructions.proofs.signatures.push_params.Given as goal

abbrev pub invariant-loop-kind : goal.invariant-loop-kind
invariant-loop-kind l = kinds_of l.given.items ≡ kinds_of l.initial.given.items ++ map kinds.plain (map kind_view (take l.kind-index l.params))
