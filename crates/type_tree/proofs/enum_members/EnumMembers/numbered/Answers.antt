use Rattle.std.proofs.Common.{List, Option, option_and_then, slice_get, sym, ap, ◌∙◌}
use Rattle.std.specs.List.{find}
use Rattle.std.specs.BTreeMap.{get}
use Rattle.std.specs.Int.{w128}
use Rattle.std.specs.Ordering.{int_cmp, int_eq}
use Rattle.std.proofs.lemmas.Int.{to_z-of_z}
use Rattle.type_tree.specs.declared.member.EnumMember.{EnumMember}
use Rattle.type_tree.proofs.enum_members.EnumMembers.numbered.Goals as goal

pub returns-in-Some : goal.returns-in-Some
returns-in-Some c =
    let members = c.self.inside.members.items in
    let n = c.args.number in
    c.member_at.ensures
    ∙ ap (λ (ms : List EnumMember). slice_get ms c.in-Some.place) c.deref.ensures.value
    ∙ ap (λ (o : Option _). option_and_then (λ place. slice_get members place) o) (sym c.in-Some.is ∙ c.place_at.ensures ∙ ap (λ k. get int_cmp c.self.inside.places k) (to_z-of_z w128 n c.ranges.number))
    ∙ c.self.invariant.0 n
    ∙ ap (λ (ms : List EnumMember). find (λ m. int_eq m.number n) ms) c.self.view_is

pub returns-in-None : goal.returns-in-None
returns-in-None c =
    let members = c.self.inside.members.items in
    let n = c.args.number in
    ap (λ (o : Option _). option_and_then (λ place. slice_get members place) o) (sym c.in-None.is ∙ c.place_at.ensures ∙ ap (λ k. get int_cmp c.self.inside.places k) (to_z-of_z w128 n c.ranges.number))
    ∙ c.self.invariant.0 n
    ∙ ap (λ (ms : List EnumMember). find (λ m. int_eq m.number n) ms) c.self.view_is
