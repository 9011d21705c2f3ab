use Rattle.std.proofs.Common.{ap, subst}
use Rattle.instance_tables.specs.Unheld.{IsLetGo}
use Rattle.instance_tables.proofs.unheld.Unheld.let_go.Goals as goal

pub returns-then-mentions-eq0 : goal.returns-then-mentions-eq0
returns-then-mentions-eq0 c held new knows gone =
    c.add.ensures held new knows (subst (λ k. IsLetGo held new c.args.id.0 k) c.if-mentions-eq0.true gone)
