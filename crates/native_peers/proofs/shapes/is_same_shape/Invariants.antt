use Rattle.std.proofs.Common.{◌≡◌, drop, length, map}
use Rattle.law_peers.specs.Needs.{same_shape}
use Rattle.peer_shapes.specs.MethodViews.{method_view}
use Rattle.native_peers.proofs.shapes.is_same_shape.Given as goal

abbrev pub invariant-methods : goal.invariant-methods
invariant-methods l = record {
  same : same_shape (drop l.k l.left) (map method_view (drop l.k l.right)) ≡ same_shape l.left (map method_view l.right);
  long : length l.left ≡ length l.right;
}
