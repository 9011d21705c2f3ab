use Rattle.std.proofs.Common.{◌≡◌, drop, length, map}
use Rattle.g_values.specs.View.{kind_view}
use Rattle.law_peers.specs.Needs.{same_kinds}
use Rattle.native_peers.proofs.kinds.is_same_list.Given as goal

abbrev pub invariant-kinds : goal.invariant-kinds
invariant-kinds l = record {
  same : same_kinds (map kind_view (drop l.k l.left)) (map kind_view (drop l.k l.right)) ≡ same_kinds (map kind_view l.left) (map kind_view l.right);
  long : length l.left ≡ length l.right;
}
