use Rattle.named_peers.proofs.Seeking.{named_at, read_at}
use Rattle.named_peers.proofs.named_peers.among.Goals as goal

pub returns-in-Some-get : goal.returns-in-Some-get
returns-in-Some-get c =
    named_at c.args.shape c.in-Some.shape c.args.names.now c.args.number c.in-Some-get.name.now c.as_str.result.now c.in-Some.is
    (read_at c.args.names.now c.args.number c.in-Some-get.name.now c.in-Some-get.ensures.lookup.3.0 c.in-Some-get.ensures.lookup.1) c.as_str.ensures.value
