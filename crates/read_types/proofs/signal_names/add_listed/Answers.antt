use Rattle.std.proofs.Common.{◌∙◌, ◌||◌, ℕ, List, true, if◌then◌else◌, sym, ap}
use Rattle.ui_machine.specs.Definition.Names.{same_name}
use Rattle.g_values.proofs.Texts.{same_bytes}
use Rattle.signal_core.specs.SignalView.{signal_view}
use Rattle.read_types.specs.ImplementDrafts.{has_name}
use Rattle.read_types.proofs.ImplementParts.{name_more}
use Rattle.read_types.proofs.SignalNames.{all_seen, has_listed, is_called, name_added, none_yet, one_more}
use Rattle.read_types.proofs.signal_names.add_listed.Goals as goal

pub loop-signal-init : goal.loop-signal-init
loop-signal-init c name = none_yet (has_name c.args.names.now name)

pub loop-signal-preserved : goal.loop-signal-preserved
loop-signal-preserved c name =
    let bs = (signal_view c.signal-item.result).name in
    let had = has_name c.loop-signal.names name in
    one_more (is_called name) c.args.signals.now c.loop-signal.signal-index c.signal-item.result (has_name c.insert.new.self name) had (has_name c.args.names.now name)
    c.loop-signal-test.true c.signal-item.is
    (name_added bs name (has_name c.insert.new.self name) had
    (name_more c.as_str.result.now c.loop-signal.names c.insert.new.self c.in_ok-insert.ensures.updates name
    ∙ ap (λ b. if b then true else had) (sym (same_bytes c.as_str.result.now name))
    ∙ ap (λ (b : List ℕ). if same_name b name then true else had) c.as_str.ensures.value))
    (c.loop-signal.invariant name)

pub returns : goal.returns
returns c name =
    all_seen (is_called name) c.args.signals.now c.loop-signal.signal-index (has_name c.loop-signal.names name) (has_name c.args.names.now name)
    c.loop-signal-test.false (c.loop-signal.invariant name)
    ∙ ap (λ b. has_name c.args.names.now name || b) (sym (has_listed name c.args.signals.now))
