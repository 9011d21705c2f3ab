use Rattle.ui_machine.specs.Rules.Events.{get_from_event}
use Rattle.engine_world.proofs.Ableness.{first, in_uncounted, past}
use Rattle.engine_tasks.proofs.Asking.{answers}
use Rattle.engine_tasks.proofs.events.get_from_event.Goals as goal

pub read-requires : goal.read-requires
unfolding get_from_event
read-requires c = record {
  slot = answers _ (first _ _ (past _ _ _ c.spec_of-spec.ensures.spec (past _ _ _ c.held_object-object.ensures (in_uncounted _ _ _ c.requires.able))));
}
