use Rattle.verified.proofs.LookUps.{sources_read}
use Rattle.verified.proofs.verified.Verified.sources.Goals as goal

pub returns-clause-sources : goal.returns-clause-sources
returns-clause-sources c = sources_read c.self.invariant c.self.view_is c.as_slice.result.now c.as_slice.ensures.value
