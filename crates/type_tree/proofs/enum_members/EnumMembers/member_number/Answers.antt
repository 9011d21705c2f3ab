use Rattle.std.proofs.Common.{◌∙◌, sym, ap, arith}
use Rattle.std.specs.Int.{w128}
use Rattle.std.specs.List.{find}
use Rattle.std.specs.Option.{option_copied}
use Rattle.std.specs.Ordering.{int_eq}
use Rattle.std.proofs.lemmas.Int.{ints, to_z-of_z}
use Rattle.type_tree.proofs.Numbered.{none_numbered, one_numbered}
use Rattle.type_tree.proofs.enum_members.EnumMembers.member_number.Goals as goal

pub returns-in-Some : goal.returns-in-Some
returns-in-Some c =
    let members = c.args.self.now in
    let number = to_z-of_z w128 c.args.number c.ranges.number in
    let h = one_numbered members c.args.number c.in-Some.member.now (ap (λ n. find (λ m. int_eq m.number n) members) (sym number) ∙ sym c.numbered.ensures ∙ ap (λ o. option_copied o) c.in-Some.is) in
    (grind (arith, ints, to_z-of_z, h.0), h.1)

pub returns-in-None : goal.returns-in-None
returns-in-None c =
    let members = c.args.self.now in
    let number = to_z-of_z w128 c.args.number c.ranges.number in
    none_numbered members c.args.number (ap (λ n. find (λ m. int_eq m.number n) members) (sym number) ∙ sym c.numbered.ensures ∙ ap (λ o. option_copied o) c.in-None.is)
