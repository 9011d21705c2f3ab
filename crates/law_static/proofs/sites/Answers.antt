use Rattle.law_static.proofs.SiteProofs.{blocks_keep, sites_keep}
use Rattle.law_static.proofs.sites.Goals as goal

pub returns : goal.returns
returns c = record { blocks = blocks_keep; instructions = sites_keep }
