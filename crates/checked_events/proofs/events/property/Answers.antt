use Rattle.checked_events.proofs.KnownKinds.{known_if_found}
use Rattle.checked_events.proofs.events.property.Goals as goal

pub returns-clause-known : goal.returns-clause-known
returns-clause-known c = known_if_found c.args.definition.now c.in_ok-class.class c.args.slot c.spec.result c.types-types.ensures.basic c.spec.ensures
