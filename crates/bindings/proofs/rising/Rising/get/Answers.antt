use Rattle.std.proofs.Common.{◌≡◌, ◌∙◌, List, option_map, subst}
use Rattle.ui_machine.specs.State.Bindings.{Binding, binding_of}
use Rattle.bindings.proofs.Changes.{at_number}
use Rattle.bindings.proofs.rising.Rising.get.Goals as goal

pub returns : goal.returns
returns c =
    subst (λ (bs : List Binding). option_map (λ b. b.now) c.get.result ≡ binding_of c.args.number bs) c.self.view_is
    (c.get.ensures.value ∙ at_number c.self.inside.bound.entries c.self.inside.listings c.self.invariant c.args.number)
