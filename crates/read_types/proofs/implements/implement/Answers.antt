use Rattle.std.proofs.Common.{◌∙◌, ℕ, List, nat_eq, sym, ap}
use Rattle.std.specs.List.{list_any}
use Rattle.definition_format.specs.Document.{path_of}
use Rattle.read_types.specs.ImplementDrafts.{parts_seen}
use Rattle.read_types.proofs.ImplementParts.{once_added}
use Rattle.read_types.proofs.implements.implement.Goals as goal

pub returns : goal.returns
returns c =
    once_added (path_of c.args.part.path) c.args.heir.now c.args.interface (parts_seen c.args.implemented.now) (parts_seen c.add.new.self)
    (ap (λ (l : List ℕ). list_any (nat_eq c.args.interface) l) (sym c.as_slice.ensures.value) ∙ sym c.is_listed.ensures ∙ c.if-is_listed.false)
    c.in_ok-check_brought.ensures c.in_ok-check_prerequisites.ensures c.in_ok-check_overrides.ensures c.in_ok-add.ensures
