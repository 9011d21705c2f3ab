use Rattle.std.proofs.Common.{◌∙◌, true, if◌then◌else◌, string_bytes, sym, ap}
use Rattle.std.specs.BTreeSet.{contains_text}
use Rattle.std.specs.Str.{bytes_eq}
use Rattle.std.proofs.lemmas.Map.Text.{btree_set_updates_text}
use Rattle.definition_format.specs.Denoted.ClassHandlers.{handler_for}
use Rattle.read_types.proofs.Answering.{handler_added}
use Rattle.read_types.proofs.HandlerParts.{same_parts}
use Rattle.read_types.proofs.handler_drafts.HandlerDraft.add.Goals as goal

pub returns-clause-handlers : goal.returns-clause-handlers
returns-clause-handlers c =
    let old = c.args.self.now in
    let h = handler_for c.args.handler.signal.now c.args.handler.program in
    same_parts _ _ _ _
    (sym (handler_added old.signals.handlers c.add_class_handler.new.self.handlers c.args.t h c.in_ok-add_class_handler.ensures.ok))
    (λ name. btree_set_updates_text (string_bytes c.args.handler.name) old.named c.insert.new.self true c.in_ok-insert.ensures.updates name
    ∙ ap (λ k. if bytes_eq k name then true else contains_text old.named name) c.requires)
