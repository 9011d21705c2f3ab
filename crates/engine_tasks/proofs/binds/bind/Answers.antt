use Rattle.std.proofs.Common.{◌++◌, [], ◌∷◌, ap, ◌∙◌}
use Rattle.ui_machine.specs.State.Bindings.{Binding}
use Rattle.bindings.specs.Made.{Made}
use Rattle.engine_world.specs.View.{world_of}
use Rattle.engine_tasks.proofs.binds.bind.Goals as goal

pub returns-in-Ok-clause-world : goal.returns-in-Ok-clause-world
returns-in-Ok-clause-world c =
    let w = world_of c.args.engine.now.world in
    ap (λ (m : Made). record w { bindings = m.bindings }) c.in-Ok.ensures.ok ∙ ap (λ (b : Binding). record w { bindings = w.bindings ++ b ∷ [] }) (c.in_ok-binding.ensures c.args.number)
