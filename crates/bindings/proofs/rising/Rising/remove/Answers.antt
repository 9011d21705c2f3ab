use Rattle.std.proofs.Common.{◌≡◌, ◌∙◌, List, not, nat_eq, sym, subst}
use Rattle.std.specs.List.{filter}
use Rattle.std.specs.Map.{values_of}
use Rattle.ui_machine.specs.State.Bindings.{Binding}
use Rattle.bindings.proofs.Changes.{at_number, gone_kept, gone_values}
use Rattle.bindings.proofs.Keeping.{found_number}
use Rattle.bindings.proofs.rising.Rising.remove.Goals as goal

pub returns-in_default : goal.returns-in_default
returns-in_default c =
    subst (λ (bs : List Binding). values_of c.remove.new.self.entries ≡ filter (λ b. not (nat_eq b.number c.args.number)) bs) c.self.view_is
    (gone_values c.self.inside.bound.entries c.self.inside.listings c.self.invariant c.args.number c.remove.new.self.entries c.remove.ensures.entries)

pub invariant_of-self-2 : goal.invariant_of-self-2
invariant_of-self-2 c =
    let before = c.self.inside in
    gone_kept before.bound.entries before.listings c.self.invariant c.args.number c.remove.new.self.entries c.remove-2.new.self c.remove.ensures.entries
    (λ b other. c.remove-2.ensures b (λ same. other (same ∙ found_number c.args.number c.in-Some.bound (values_of before.bound.entries)
    (sym (at_number before.bound.entries before.listings c.self.invariant c.args.number) ∙ sym c.remove.ensures.value ∙ c.in-Some.is))))

pub returns : goal.returns
returns c =
    subst (λ (bs : List Binding). values_of c.remove.new.self.entries ≡ filter (λ b. not (nat_eq b.number c.args.number)) bs) c.self.view_is
    (gone_values c.self.inside.bound.entries c.self.inside.listings c.self.invariant c.args.number c.remove.new.self.entries c.remove.ensures.entries)
