use Rattle.std.proofs.Common.{◌∙◌, ap, w32}
use Rattle.std.specs.BTreeSet.{contains}
use Rattle.std.specs.Ordering.{int_cmp}
use Rattle.std.proofs.lemmas.Int.{to_z-of_z}
use Rattle.read_types.proofs.enum_drafts.EnumDraft.has_number.Goals as goal

pub returns : goal.returns
returns c = c.contains.ensures ∙ ap (λ n. contains int_cmp c.args.self.now.numbers n) (to_z-of_z w32 c.args.number c.ranges.number)
