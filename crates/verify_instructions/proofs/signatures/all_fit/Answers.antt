use Rattle.std.proofs.Common.{◌∙◌, sym, arith}
use Rattle.verify_instructions.proofs.ParameterLists.{stops, goes_on, ends}
use Rattle.verify_instructions.proofs.signatures.all_fit.Goals as goal

pub returns-then-not-fits : goal.returns-then-not-fits
returns-then-not-fits c =
    sym (stops c.args.lookups.now c.args.given.now c.args.params.now c.loop-number.number c.index-given-number.result c.index-params-number.result
    c.loop-number.invariant c.loop-number-test.true (omega (arith, c.loop-number-test.true, c.requires)) c.index-given-number.is c.index-params-number.is
    (sym c.fits.ensures ∙ c.if-not-fits.true))

pub loop-number-preserved : goal.loop-number-preserved
loop-number-preserved c =
    goes_on c.args.lookups.now c.args.given.now c.args.params.now c.loop-number.number c.index-given-number.result c.index-params-number.result
    c.loop-number.invariant c.loop-number-test.true (omega (arith, c.loop-number-test.true, c.requires)) c.index-given-number.is c.index-params-number.is
    (sym c.fits.ensures ∙ c.if-not-fits.false)

pub returns : goal.returns
returns c =
    sym (ends c.args.lookups.now c.args.given.now c.args.params.now c.loop-number.number c.loop-number.invariant
    (omega (arith, c.loop-number-test.false)) (omega (arith, c.loop-number-test.false, c.requires)))
