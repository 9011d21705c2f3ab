use Rattle.std.proofs.Common.{refl, ap, ◌∙◌, List, nat_eq}
use Rattle.std.specs.List.{list_any}
use Rattle.ui_machine.specs.State.Bindings.{Binding}
use Rattle.bindings.specs.Made.{Made}
use Rattle.engine_links.specs.Linked.{numbers_by}
use Rattle.engine_world.specs.View.{world_of}
use Rattle.engine_instructions.proofs.Unbinding.{numbers_called}
use Rattle.engine_world.proofs.Counts.{keeps_same}
use Rattle.engine_instructions.proofs.unbinds.unbind.Goals as goal

pub returns-clause-counted : goal.returns-clause-counted
returns-clause-counted c d = keeps_same d c.args.engine.now _ refl refl refl (λ g. g) refl refl refl refl

pub returns-clause-world : goal.returns-clause-world
returns-clause-world c =
    let d = c.args.definition.now in
    let w = world_of c.args.engine.now.world in
    ap (λ (bs : List Binding). record w { bindings = bs })
    (ap (λ (m : Made). m.bindings) c.unbind_numbered.ensures
    ∙ numbers_called d c.args.name.now c.bindings-numbers.result.now (λ number. ap (list_any (nat_eq number)) c.bindings-numbers.ensures ∙ ap (λ at. list_any (nat_eq number) (numbers_by c.args.engine.now.links.bindings at)) c.bindings.ensures ∙ c.requires.link number)
    w.bindings c.requires.meanings.bindings)
