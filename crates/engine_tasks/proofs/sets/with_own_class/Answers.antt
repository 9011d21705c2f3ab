use Rattle.engine_tasks.proofs.Asking.{class_known}
use Rattle.engine_tasks.proofs.sets.with_own_class.Goals as goal

pub returns-clause-class : goal.returns-clause-class
returns-clause-class c = class_known _ _ _ c.class_of.ensures
