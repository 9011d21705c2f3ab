use Rattle.read_types.proofs.ImplementParts.{same_parts}
use Rattle.read_types.proofs.implement_drafts.ImplementDraft.add.Goals as goal

pub returns : goal.returns
returns c = same_parts _ _ _ _ c.in_ok-push.ensures.items c.in_ok-add_names.ensures
