use Rattle.std.proofs.Common.{arith}
use Rattle.ui_verifier.proofs.FewNumbers.{greatest_within}
use Rattle.ui_verifier.proofs.bounds.depth_of.Goals as goal

pub overflow_cast-result : goal.overflow_cast-result
overflow_cast-result c =
    let values = greatest_within c.args.values.now 2_147_483_648 c.requires.few in
    let programs = greatest_within c.args.programs.now 2_147_483_648 c.requires.programs in
    let makings = c.in_ok-makings.ensures.few in
    omega (arith, values, programs, makings)
