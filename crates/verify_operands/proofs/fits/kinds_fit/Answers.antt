use Rattle.std.proofs.Common.{◌∙◌, sym, ap, arith}
use Rattle.bytecode.specs.View.{register_kind_view}
use Rattle.law_typing.specs.Rules.RegisterKinds.{fits}
use Rattle.verify_operands.specs.Views.{kinds_of}
use Rattle.verify_operands.proofs.RegisterLists.{stops, goes_on, ends}
use Rattle.verify_operands.proofs.fits.kinds_fit.Goals as goal

pub returns-then-not-fits : goal.returns-then-not-fits
returns-then-not-fits c =
    let e = c.index-wanted-number.result in
    sym (stops c.args.lookups.now (kinds_of c.args.kinds.now) c.args.wanted.now c.loop-number.number e c.loop-number.invariant c.loop-number-test.true
    c.index-wanted-number.is
    (ap (λ k. fits c.args.lookups.now k (register_kind_view e)) (sym c.kind_in-kind.ensures) ∙ (sym c.fits.ensures ∙ c.if-not-fits.true)))

pub loop-number-preserved : goal.loop-number-preserved
loop-number-preserved c =
    let e = c.index-wanted-number.result in
    goes_on c.args.lookups.now (kinds_of c.args.kinds.now) c.args.wanted.now c.loop-number.number e c.loop-number.invariant c.loop-number-test.true
    c.index-wanted-number.is
    (ap (λ k. fits c.args.lookups.now k (register_kind_view e)) (sym c.kind_in-kind.ensures) ∙ (sym c.fits.ensures ∙ c.if-not-fits.false))

pub returns : goal.returns
returns c =
    sym (ends c.args.lookups.now (kinds_of c.args.kinds.now) c.args.wanted.now c.loop-number.number c.loop-number.invariant
    (omega (arith, c.loop-number-test.false)))
