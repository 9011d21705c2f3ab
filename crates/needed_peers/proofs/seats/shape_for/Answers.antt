use Rattle.std.proofs.Common.{sym, ◌∙◌}
use Rattle.native_peers.proofs.Places.{here}
use Rattle.needed_peers.proofs.FirstNeeds.{likely_none, likely_one, likely_other}
use Rattle.needed_peers.proofs.seats.shape_for.Goals as goal

pub returns-then-eq : goal.returns-then-eq
returns-then-eq c =
    let n = c.in-Some.need.now in
    let at = here c.args.needs.now c.args.likely n c.in-Some.ensures.lookup.3.0 c.in-Some.ensures.lookup.1 in
    sym (likely_one c.args.needs.now c.args.likely c.args.name.now n at (sym c.eq.ensures ∙ c.if-eq.true))

pub returns-else-eq : goal.returns-else-eq
returns-else-eq c =
    let n = c.in-Some.need.now in
    let at = here c.args.needs.now c.args.likely n c.in-Some.ensures.lookup.3.0 c.in-Some.ensures.lookup.1 in
    c.first_shape-else-eq.ensures ∙ sym (likely_other c.args.needs.now c.args.likely c.args.name.now n at (sym c.eq.ensures ∙ c.if-eq.false))

pub returns-in_default : goal.returns-in_default
returns-in_default c = c.first_shape.ensures ∙ sym (likely_none c.args.needs.now c.args.likely c.args.name.now c.in_default.ensures.lookup.3)
