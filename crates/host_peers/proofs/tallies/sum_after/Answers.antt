use Rattle.std.proofs.Common.{rules, ◌∙◌, ap, sym, map, w64, ◌+ℤ◌, FitsSigned}
use Rattle.std.specs.Int.{int_wrap}
use Rattle.std.proofs.lemmas.Int.{wrapping_add_is}
use Rattle.g_values.specs.View.{value_view}
use Rattle.host_peers.specs.Tallies.{sum_after}
use Rattle.host_peers.proofs.tallies.sum_after.Goals as goal

pub returns-in-0 : goal.returns-in-0
returns-in-0 c =
    let fits : FitsSigned w64 c.first_number.result = search rules in
    wrapping_add_is w64 c.args.sum c.first_number.result c.ranges.sum fits
    ∙ ap (λ n. int_wrap w64 (c.args.sum +ℤ n)) c.first_number.ensures
    ∙ ap (λ m. sum_after c.args.sum m (map value_view c.args.args.now)) (sym c.in-0.is)
