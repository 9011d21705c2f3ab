use Rattle.std.proofs.Common.{◌≡◌, ◌∙◌, nat_eq, option_map, subst}
use Rattle.std.specs.List.{find}
use Rattle.signal_core.specs.Connected.{Connected}
use Rattle.signal_core.proofs.Changes.{at_number}
use Rattle.signal_core.proofs.handlers.Handlers.handler.Goals as goal

pub returns-clause-found : goal.returns-clause-found
returns-clause-found c =
    let before = c.self.inside in
    subst (λ (w : Connected). option_map (λ h. h.now) c.get.result ≡ find (λ h. nat_eq h.number c.args.number) w.handlers) c.self.view_is
    (c.get.ensures.value ∙ at_number before.connected.entries before.listings before.last before.to_come c.self.invariant c.args.number)
