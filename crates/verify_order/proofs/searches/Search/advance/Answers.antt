use Rattle.std.proofs.Common.{ap, length, sym, ◌<◌, arith, subst}
use Rattle.verify_order.specs.Searches.{IsSearch, left}
use Rattle.verify_order.proofs.Steps.{begin_keeps, begin_falls}
use Rattle.verify_order.proofs.searches.Search.advance.Goals as goal

pub returns-in_default-clause-search : goal.returns-in_default-clause-search
returns-in_default-clause-search c =
    subst (λ x. IsSearch c.args.dependencies.now x) (sym c.in_ok-begin.ensures)
    (begin_keeps c.args.dependencies.now c.args.self.now c.args.root c.requires.search c.requires.inside (omega (arith, c.in_default.ensures.none, ap length c.path.ensures)) c.requires.waits)

pub returns-in_default-clause-falls : goal.returns-in_default-clause-falls
returns-in_default-clause-falls c =
    subst (λ x. left c.args.dependencies.now x < left c.args.dependencies.now c.args.self.now) (sym c.in_ok-begin.ensures)
    (begin_falls c.args.dependencies.now c.args.self.now c.args.root c.requires.search
    (begin_keeps c.args.dependencies.now c.args.self.now c.args.root c.requires.search c.requires.inside (omega (arith, c.in_default.ensures.none, ap length c.path.ensures)) c.requires.waits))
