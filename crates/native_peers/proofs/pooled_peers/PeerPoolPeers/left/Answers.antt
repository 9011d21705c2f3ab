use Rattle.std.proofs.Common.{ap, string_bytes, ◌∙◌}
use Rattle.ui_machine.specs.Definition.Names.{same_name}
use Rattle.law_typing.specs.Laws.WellRead.{no_two}
use Rattle.native_peers.proofs.Named.{names_seen}
use Rattle.native_peers.proofs.pooled_peers.PeerPoolPeers.left.Goals as goal

pub returns-clause-apart : goal.returns-clause-apart
returns-clause-apart g c =
    let items = c.args.self.now.peers.items in
    ap (λ ns. no_two same_name ns) (names_seen (λ p. record { name = string_bytes p.name; state = (g.dyn-1.0.entry p.peer.vtable).1.state p.peer.value }) items) ∙ c.args.self.now.apart
