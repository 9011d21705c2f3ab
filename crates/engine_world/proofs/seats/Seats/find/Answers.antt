use Rattle.std.proofs.Common.{ap, ◌∙◌}
use Rattle.ui_machine.specs.State.Peers.{peer_number}
use Rattle.engine_world.proofs.SeatedPeers.{number_within}
use Rattle.engine_world.proofs.seats.Seats.find.Goals as goal

pub returns-clause-found : goal.returns-clause-found
returns-clause-found c = c.copied.ensures ∙ (c.get.ensures.value ∙ (c.self.invariant.1 c.args.name.now ∙ ap (λ peers. peer_number peers c.args.name.now) c.self.view_is))

pub returns-clause-within : goal.returns-clause-within
returns-clause-within c =
    number_within c.args.self.now c.args.name.now c.copied.result
    (c.copied.ensures ∙ (c.get.ensures.value ∙ (c.self.invariant.1 c.args.name.now ∙ ap (λ peers. peer_number peers c.args.name.now) c.self.view_is)))
