use Rattle.std.proofs.Common.{◌≡◌, ◌∙◌, Some, nat_eq, option_map, ap, subst}
use Rattle.ui_machine.specs.State.Bindings.{binding_of}
use Rattle.bindings.specs.Made.{Made}
use Rattle.bindings.proofs.Numbers.{found_back, found_front}
use Rattle.bindings.proofs.list.Bindings.bound.Goals as goal

pub returns-in-Some : goal.returns-in-Some
returns-in-Some c =
    subst (λ (m : Made). Some c.in-Some.bound.now ≡ binding_of c.args.number m.bindings) c.self.view_is
    (found_front (λ b. nat_eq b.number c.args.number) c.self.inside.rising c.self.inside.others.items c.in-Some.bound.now c.in-Some.ensures)

pub returns-in-None : goal.returns-in-None
returns-in-None c =
    subst (λ (m : Made). option_map (λ b. b.now) c.numbered.result ≡ binding_of c.args.number m.bindings) c.self.view_is
    (c.numbered.ensures ∙ ap (binding_of c.args.number) c.deref.ensures.value
    ∙ found_back (λ b. nat_eq b.number c.args.number) c.self.inside.rising c.self.inside.others.items c.in-None.ensures)
