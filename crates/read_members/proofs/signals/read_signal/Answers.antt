use Rattle.std.proofs.Common.{◌∙◌, Ok, ap}
use Rattle.std.proofs.lemmas.Result.{err_from_is_err_and}
use Rattle.json_trees.specs.View.{view}
use Rattle.signal_core.specs.SignalView.{signal_view}
use Rattle.definition_format.specs.Document.{path_of}
use Rattle.read_members.proofs.Declaring.{added, signal_fails, signal_with}
use Rattle.read_members.proofs.signals.read_signal.Goals as goal

pub returns-in_err-signal-clause-signals : goal.returns-in_err-signal-clause-signals
returns-in_err-signal-clause-signals c =
    let p = err_from_is_err_and c.from_residual.result c.from_residual.ensures.1 in
    rw (p.1, p.2) (signal_fails (path_of c.args.part.path) c.args.types.now c.args.names.now c.args.t c.args.signals.now.signals (view c.args.part.value.now) c.in_err-signal.field-0.0 c.in_err-signal.ensures.signal)

pub returns-clause-signals : goal.returns-clause-signals
returns-clause-signals c =
    let signal = signal_view c.in_ok-signal.signal in
    signal_with (path_of c.args.part.path) c.args.types.now c.args.names.now c.args.t c.args.signals.now.signals (view c.args.part.value.now) signal c.in_ok-signal.ensures.signal
    ∙ ap Ok (added c.args.signals.now.signals c.append.new.self.signals c.args.t signal c.in_ok-append.ensures.ok)
