use Rattle.law_static.proofs.ConstructionProofs.{constructions_fit, constructions_shallow, constructions_thaw}
use Rattle.law_static.proofs.constructions.Goals as goal

pub returns : goal.returns
returns c = record { fit = constructions_fit; shallow = constructions_shallow; thaw = constructions_thaw }
