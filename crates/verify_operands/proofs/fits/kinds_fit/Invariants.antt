use Rattle.std.proofs.Common.{◌≡◌, drop}
use Rattle.law_typing.specs.Rules.RegisterKinds.{kinds_fit}
use Rattle.verify_operands.specs.Views.{kinds_of}
use Rattle.verify_operands.proofs.fits.kinds_fit.Given as goal

abbrev pub invariant-loop-number : goal.invariant-loop-number
invariant-loop-number l =
    kinds_fit l.lookups (kinds_of l.kinds) (kinds_of l.wanted) ≡ kinds_fit l.lookups (drop l.number (kinds_of l.kinds)) (drop l.number (kinds_of l.wanted))
