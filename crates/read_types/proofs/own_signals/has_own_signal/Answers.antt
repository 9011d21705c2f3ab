use Rattle.std.proofs.Common.{◌∙◌}
use Rattle.read_types.proofs.NamesAhead.{named_among}
use Rattle.read_types.proofs.own_signals.has_own_signal.Goals as goal

pub returns : goal.returns
returns c = c.contains.ensures ∙ named_among c.args.own.now c.args.name.now
