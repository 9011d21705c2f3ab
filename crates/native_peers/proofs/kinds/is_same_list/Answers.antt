use Rattle.g_values.specs.View.{kind_view}
use Rattle.native_peers.proofs.Lengths.{kinds_not_same}
use Rattle.native_peers.proofs.kinds.is_same_list.Goals as goal

pub returns-then-left-right : goal.returns-then-left-right
returns-then-left-right c = kinds_not_same c.args.left.now c.args.right.now c.if-left-right.true kind_view
