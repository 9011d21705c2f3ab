use Rattle.law_static.proofs.SourceProofs.{sources_begin}
use Rattle.law_static.proofs.RequestProofs.{requests_begin}
use Rattle.law_static.proofs.BuildCostProofs.{build_begins}
use Rattle.law_static.proofs.beginnings.Goals as goal

pub returns : goal.returns
returns c = record { build = build_begins; sources = sources_begin; requests = requests_begin }
