use Rattle.std.proofs.Common.{◌≡◌, ap, sym, string_bytes, [], to_z, of_z, arith, ◌∙◌}
use Rattle.std.specs.Int.{w32, w128}
use Rattle.std.specs.List.{find}
use Rattle.std.specs.Option.{option_copied, option_map_or}
use Rattle.std.specs.Ordering.{int_eq}
use Rattle.std.proofs.lemmas.Int.{ints, to_z-of_z}
use Rattle.type_tree.specs.declared.member.EnumMember.{EnumMember}
use Rattle.type_tree.proofs.Numbered.{nick_numbered}
use Rattle.type_tree.proofs.enum_members.EnumMembers.nick.Goals as goal

pub returns-in-Some : goal.returns-in-Some
returns-in-Some c =
    let members = c.args.self.now in
    let is = c.from.ensures ∙ to_z-of_z w32 c.args.number c.ranges.number in
    let same : to_z w128 (of_z w128 c.from.result) ≡ c.args.number = grind (arith, ints, to_z-of_z, is) in
    c.as_str.ensures.value
    ∙ ap (λ o. option_map_or (λ (m : EnumMember). string_bytes m.nick) (option_copied o) []) (sym c.in-Some.is)
    ∙ ap (λ o. option_map_or (λ (m : EnumMember). string_bytes m.nick) o []) (c.numbered.ensures ∙ ap (λ n. find (λ m. int_eq m.number n) members) same)
    ∙ nick_numbered members c.args.number

pub returns-in-None : goal.returns-in-None
returns-in-None c =
    let members = c.args.self.now in
    let is = c.from.ensures ∙ to_z-of_z w32 c.args.number c.ranges.number in
    let same : to_z w128 (of_z w128 c.from.result) ≡ c.args.number = grind (arith, ints, to_z-of_z, is) in
    ap (λ o. option_map_or (λ (m : EnumMember). string_bytes m.nick) (option_copied o) []) (sym c.in-None.is)
    ∙ ap (λ o. option_map_or (λ (m : EnumMember). string_bytes m.nick) o []) (c.numbered.ensures ∙ ap (λ n. find (λ m. int_eq m.number n) members) same)
    ∙ nick_numbered members c.args.number
