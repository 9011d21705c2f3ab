use Rattle.std.proofs.Common.{sym, ap}
use Rattle.engine_stack.specs.FirstConstructions.{Constructed}
use Rattle.engine_stack.proofs.FirstConstructions.{construction_found}
use Rattle.engine_tasks.proofs.builds.first_object.Goals as goal

pub returns : goal.returns
returns c = sym (ap (λ (x : Constructed). x.object) (construction_found c.args.engine.now.stack c.in-Some.construction.now (sym c.in-Some.ensures)))
