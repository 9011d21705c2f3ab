use Rattle.std.proofs.Common.{◌∙◌, sym}
use Rattle.needed_peers.proofs.FirstNeeds.{later_one, this_one}
use Rattle.needed_peers.proofs.seats.first_shape.Goals as goal

pub returns-then-eq : goal.returns-then-eq
returns-then-eq c =
    sym (this_one c.args.needs.now c.needs.need-index c.need-item.result c.args.name.now c.needs-test.true c.need-item.is (sym c.eq.ensures ∙ c.if-eq.true)) ∙ c.needs.invariant

pub needs-preserved : goal.needs-preserved
needs-preserved c =
    sym (later_one c.args.needs.now c.needs.need-index c.need-item.result c.args.name.now c.needs-test.true c.need-item.is (sym c.eq.ensures ∙ c.if-eq.false)) ∙ c.needs.invariant
