use Rattle.std.proofs.Common.{◌∙◌, true, if◌then◌else◌, sym, ap}
use Rattle.ui_machine.specs.Words.{notify}
use Rattle.g_values.proofs.Texts.{same_bytes}
use Rattle.read_types.specs.ImplementDrafts.{has_name}
use Rattle.read_types.proofs.ImplementParts.{name_more}
use Rattle.read_types.proofs.SignalNames.{at_root, name_added, up_line}
use Rattle.read_types.proofs.signal_names.add_names.Goals as goal

pub line-preserved : goal.line-preserved
line-preserved c = record {
  names = λ name. up_line c.args.types.now c.args.signals.now.signals name c.in-Some.ensures.tree c.line.class c.in-Some.parent (has_name c.add_brought.new.names name) (has_name c.line.names name) _
      (sym c.in-Some.ensures.parent) (c.in_ok-add_brought.ensures.names name) (c.line.invariant.names name);
  seen = c.in_ok-add_brought.ensures.seen;
}

pub returns-in_default : goal.returns-in_default
returns-in_default c name =
    let had = has_name c.args.names.now name in
    at_root c.args.types.now c.args.signals.now.signals name c.in_default.ensures.tree c.line.class c.args.t (has_name c.add_brought.new.names name) (has_name c.line.names name)
    (has_name c.insert.new.self name) had (sym c.in_default.ensures.parent) (c.in_ok-add_brought.ensures.names name) (c.line.invariant.names name)
    (name_added notify.name name (has_name c.insert.new.self name) had
    (name_more notify.name c.args.names.now c.insert.new.self c.in_ok-insert.ensures.updates name ∙ ap (λ b. if b then true else had) (sym (same_bytes notify.name name))))
