use Rattle.std.proofs.Common.{◌≡◌, length}
use Rattle.type_tree.specs.PropertyName.{segments_follow}
use Rattle.type_tree.proofs.member_name.segments_follow.Given as goal

abbrev pub invariant-bytes : goal.invariant-bytes
invariant-bytes l = segments_follow l.left ≡ segments_follow l.bytes

abbrev pub decreases-bytes : goal.decreases-bytes
decreases-bytes l = length l.left
