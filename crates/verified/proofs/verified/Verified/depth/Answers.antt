use Rattle.verified.proofs.LookUps.{depth_read}
use Rattle.verified.proofs.verified.Verified.depth.Goals as goal

pub returns : goal.returns
returns c = depth_read c.self.invariant c.self.view_is
