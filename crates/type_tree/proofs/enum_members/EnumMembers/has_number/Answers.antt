use Rattle.std.proofs.Common.{is_some, ap, ◌∙◌}
use Rattle.std.specs.Int.{w128}
use Rattle.std.specs.List.{find}
use Rattle.std.specs.Ordering.{int_eq}
use Rattle.std.proofs.lemmas.Int.{to_z-of_z}
use Rattle.type_tree.proofs.Numbered.{is_numbered, some_copied}
use Rattle.type_tree.proofs.enum_members.EnumMembers.has_number.Goals as goal

pub returns : goal.returns
returns c =
    c.is_some.ensures
    ∙ some_copied c.numbered.result
    ∙ ap (λ o. is_some o) (c.numbered.ensures ∙ ap (λ n. find (λ m. int_eq m.number n) c.args.self.now) (to_z-of_z w128 c.args.number c.ranges.number))
    ∙ is_numbered c.args.self.now c.args.number
