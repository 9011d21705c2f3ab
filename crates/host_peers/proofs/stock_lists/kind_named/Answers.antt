use Rattle.std.proofs.Common.{◌∙◌, sym}
use Rattle.host_peers.proofs.NoKind.{no_kind}
use Rattle.host_peers.proofs.stock_lists.kind_named.Goals as goal

pub returns-else-eq-2 : goal.returns-else-eq-2
returns-else-eq-2 c = sym (no_kind c.args.name.now (sym c.eq.ensures ∙ c.if-eq.false) (sym c.eq-else-eq.ensures ∙ c.if-eq-2.false))
