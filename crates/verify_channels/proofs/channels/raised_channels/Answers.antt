use Rattle.std.proofs.Common.{map}
use Rattle.verify_sketches.specs.View.{channel_view}
use Rattle.verify_channels.proofs.RaisedByParts.{all_sketched}
use Rattle.verify_channels.proofs.channels.raised_channels.Goals as goal

pub returns-clause-sketched : goal.returns-clause-sketched
returns-clause-sketched c =
    all_sketched c.args.lookups.now c.args.numbers.now c.args.paired.now c.in_ok-parts.parts (map channel_view c.in_ok-channels.channels.items) c.in_ok-parts.ensures.parts
    c.in_ok-channels.ensures
