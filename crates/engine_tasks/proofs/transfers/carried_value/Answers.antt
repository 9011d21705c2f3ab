use Rattle.engine_world.proofs.Ableness.{first, past}
use Rattle.engine_tasks.proofs.Asking.{answers}
use Rattle.engine_tasks.proofs.transfers.carried_value.Goals as goal

pub read-value-requires : goal.read-value-requires
read-value-requires c = record {
  slot = answers _ (first _ _ (past _ _ _ c.spec_of-to.ensures.spec (past _ _ _ c.spec_of-from.ensures.spec c.requires.able)));
}
