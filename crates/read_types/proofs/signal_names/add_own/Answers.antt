use Rattle.std.proofs.Common.{◌∙◌, ◌||◌, List, ap}
use Rattle.ui_machine.specs.Definition.Signals.{Signal}
use Rattle.read_types.specs.ImplementDrafts.{has_name}
use Rattle.signal_core.specs.Owners.{has_signal}
use Rattle.read_types.proofs.SignalNames.{included_more}
use Rattle.read_types.proofs.signal_names.add_own.Goals as goal

pub returns-in_ok-add_listed-clause-seen : goal.returns-in_ok-add_listed-clause-seen
returns-in_ok-add_listed-clause-seen c =
    included_more c.args.signals.now.signals c.args.seen.now c.insert.new.self c.args.names.now c.add_listed.new.names c.args.t c.requires.seen
    (λ u. c.in_ok-insert.ensures.updates.0 u)
    (λ name. c.in_ok-add_listed.ensures name ∙ ap (λ (l : List Signal). has_name c.args.names.now name || has_signal l name) c.own.ensures.own)
