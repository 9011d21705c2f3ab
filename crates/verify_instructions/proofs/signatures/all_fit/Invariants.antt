use Rattle.std.proofs.Common.{◌≡◌, drop}
use Rattle.law_typing.specs.Rules.Signatures.{parameters_fit}
use Rattle.verify_operands.specs.Views.{kinds_of}
use Rattle.verify_instructions.proofs.signatures.all_fit.Given as goal

abbrev pub invariant-loop-number : goal.invariant-loop-number
invariant-loop-number l =
    parameters_fit l.lookups (kinds_of l.given) (kinds_of l.params) ≡ parameters_fit l.lookups (drop l.number (kinds_of l.given)) (drop l.number (kinds_of l.params))
