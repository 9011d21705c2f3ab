use Rattle.std.proofs.Common.{◌≡◌, ◌∙◌, ◌-◌, ◌^◌, ℕ, List, cond, map, nat_eq, sym, ap, subst}
use Rattle.std.specs.BTreeMap.{BTreeMap}
use Rattle.std.specs.Map.{values_of}
use Rattle.std.specs.Option.{option_copied_mut}
use Rattle.ui_machine.specs.State.Bindings.{Binding, with_busy}
use Rattle.bindings.specs.Kept.{IsListed}
use Rattle.bindings.proofs.Changes.{at_number, written_kept, written_values}
use Rattle.bindings.proofs.Keeping.{found_number, none_map, same_map}
use Rattle.bindings.proofs.rising.Rising.mark.Goals as goal

pub returns-in_default : goal.returns-in_default
returns-in_default c =
    let before = c.self.inside in
    let none = sym (at_number before.bound.entries before.listings c.self.invariant c.args.number) ∙ sym c.get_mut.ensures.value ∙ ap option_copied_mut c.in_default.is in
    let same : c.get_mut.follows.lender-at-none ≡ before.bound = c.get_mut.follows.holds-at-none in
    subst (λ (bs : List Binding). values_of c.get_mut.follows.lender-at-none.entries ≡ with_busy c.args.number c.args.setting bs) c.self.view_is
    (ap (λ (m : BTreeMap ℕ Binding). values_of m.entries) same
    ∙ sym (none_map (λ (b : Binding). record b { busy = c.args.setting }) c.args.number (values_of before.bound.entries) none))

pub invariant_of-self-2 : goal.invariant_of-self-2
invariant_of-self-2 c =
    let before = c.self.inside in
    let found = sym (at_number before.bound.entries before.listings c.self.invariant c.args.number) ∙ sym c.get_mut.ensures.value ∙ ap option_copied_mut c.in-Some.is in
    let x = c.in-Some.bound.now in
    let w = c.mark.new.self in
    let number = ap (λ (b : Binding). b.number) c.mark.ensures ∙ found_number c.args.number x (values_of before.bound.entries) found in
    written_kept before.bound.entries before.listings c.self.invariant c.args.number w (c.get_mut.follows.lender w).entries (c.get_mut.follows.holds w).0
    number x found (λ mine. subst (IsListed before.listings) (sym c.mark.ensures) mine)

pub returns : goal.returns
returns c =
    let before = c.self.inside in
    let found = sym (at_number before.bound.entries before.listings c.self.invariant c.args.number) ∙ sym c.get_mut.ensures.value ∙ ap option_copied_mut c.in-Some.is in
    let x = c.in-Some.bound.now in
    let w = c.mark.new.self in
    subst (λ (bs : List Binding). values_of (c.get_mut.follows.lender w).entries ≡ with_busy c.args.number c.args.setting bs) c.self.view_is
    (written_values before.bound.entries before.listings c.self.invariant c.args.number w (c.get_mut.follows.lender w).entries (c.get_mut.follows.holds w).0
    (ap (λ (b : Binding). b.number) c.mark.ensures ∙ found_number c.args.number x (values_of before.bound.entries) found)
    ∙ ap (λ (y : Binding). map (λ b. cond (nat_eq b.number c.args.number) y b) (values_of before.bound.entries)) c.mark.ensures
    ∙ same_map (λ (b : Binding). record b { busy = c.args.setting }) c.args.number x (values_of before.bound.entries) (2 ^ 64 - 1) c.self.invariant.rising found)
