use Rattle.std.proofs.Common.{◌∙◌, sym, ap}
use Rattle.ui_machine.specs.Definition.Names.{canonical}
use Rattle.read_types.specs.ImplementDrafts.{has_name}
use Rattle.read_types.proofs.ImplementParts.{canonical_same, spelled_there}
use Rattle.read_types.proofs.implement_drafts.ImplementDraft.has.Goals as goal

pub returns-then-has_canonical_bytes : goal.returns-then-has_canonical_bytes
returns-then-has_canonical_bytes c =
    c.contains.ensures ∙ ap (has_name c.args.self.now.names) (sym (canonical_same c.args.name.now (sym c.has_canonical_bytes.ensures ∙ c.if-has_canonical_bytes.true)))

pub returns-else-has_canonical_bytes : goal.returns-else-has_canonical_bytes
returns-else-has_canonical_bytes c = c.has_spelled.ensures ∙ spelled_there c.args.self.now.names (canonical c.args.name.now)
