use Rattle.std.proofs.Common.{◌∙◌, string_bytes, sym}
use Rattle.ui_machine.specs.Definition.Lookups.{class_of}
use Rattle.signal_core.specs.SignalView.{declared_view}
use Rattle.class_texts.specs.ClassTexts.{signal_text}
use Rattle.class_texts.proofs.Lists.{entry_written}
use Rattle.class_texts.proofs.signals.push_signals.Goals as goal

pub loop-number-preserved : goal.loop-number-preserved
loop-number-preserved c =
    let d = c.args.definition.now in
    entry_written (signal_text d c.args.class) (class_of d c.args.class).signals c.loop-number.number (declared_view c.in-Some.signal)
    (string_bytes c.args.text.now) (string_bytes c.loop-number.text)
    (string_bytes c.push_separator.new.text) c.as_str.result.now (string_bytes c.push_str.new.self)
    (sym c.in-Some.ensures) c.loop-number.invariant c.in_ok-push_separator.ensures
    (c.as_str.ensures.value ∙ c.in_ok-signal.ensures) c.in_ok-push_str.ensures.bytes
