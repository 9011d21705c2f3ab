use Rattle.std.proofs.Common.{◌≡◌, ◌∙◌, ◌<◌, ◌++◌, ℕ, List, [], ◌∷◌, sym, ap, subst}
use Rattle.std.proofs.lemmas.List.Elements.{recursion_from_All}
use Rattle.std.specs.List.{All, AllByRecursion}
use Rattle.std.specs.Map.{values_of}
use Rattle.ui_machine.specs.State.Bindings.{Binding}
use Rattle.bindings.specs.Kept.{IsKept, IsListed}
use Rattle.bindings.proofs.Changes.{more_kept, more_values, same_kept}
use Rattle.bindings.proofs.rising.Rising.push.Goals as goal

-- those that are kept have lower numbers
kept_below : (n : ℕ) (bs old : List Binding) → bs ≡ old → All (λ b. b.number < n) old → AllByRecursion (λ b. b.number < n) bs
kept_below n bs old e below = subst (AllByRecursion (λ b. b.number < n)) (sym e) (recursion_from_All (λ b. b.number < n) old below)

pub invariant_of-self : goal.invariant_of-self
invariant_of-self c =
    let before = c.self.inside in
    let mine = ap (λ (b : Binding). b.number) c.new-bound.ensures in
    same_kept before.bound.entries before.listings c.self.invariant c.args.number
    (kept_below c.args.number (values_of before.bound.entries) c.args.self.now c.self.view_is c.requires.above) c.add.new.self
    (λ b other. c.add.ensures.stays b (λ same. other (same ∙ mine)))

pub invariant_of-self-in_default : goal.invariant_of-self-in_default
invariant_of-self-in_default c =
    let before = c.self.inside in
    let mine = ap (λ (b : Binding). b.number) (c.add.ensures.same ∙ c.new-bound.ensures) in
    let listed : IsListed c.add.new.self c.add.new.bound = subst (IsListed c.add.new.self) (sym c.add.ensures.same) c.in_ok-add.ensures.listed in
    more_kept before.bound.entries before.listings c.self.invariant c.args.number
    (kept_below c.args.number (values_of before.bound.entries) c.args.self.now c.self.view_is c.requires.above) c.add.new.bound c.insert.new.self.entries c.add.new.self
    c.in_default.ensures.entries mine c.requires.few
    (λ b other. c.add.ensures.stays b (λ same. other (same ∙ ap (λ (y : Binding). y.number) c.new-bound.ensures))) listed

pub returns-in_default-clause-ok : goal.returns-in_default-clause-ok
returns-in_default-clause-ok c =
    let before = c.self.inside in
    let mine = ap (λ (b : Binding). b.number) (c.add.ensures.same ∙ c.new-bound.ensures) in
    more_values before.bound.entries before.listings c.self.invariant c.args.number
    (kept_below c.args.number (values_of before.bound.entries) c.args.self.now c.self.view_is c.requires.above) c.add.new.bound c.insert.new.self.entries c.in_default.ensures.entries mine
    ∙ ap (λ (bs : List Binding). bs ++ c.add.new.bound ∷ []) c.self.view_is
    ∙ ap (λ (b : Binding). c.args.self.now ++ b ∷ []) (c.add.ensures.same ∙ c.new-bound.ensures)

pub invariant_of-self-2 : goal.invariant_of-self-2
invariant_of-self-2 c =
    let before = c.self.inside in
    let mine = ap (λ (b : Binding). b.number) c.new-bound.ensures in
    let back : c.in-Err.refused.value.1 ≡ c.new-bound.result = ap (λ (p : ℕ × Binding). p.1) c.in-Err.ensures.value_returned ∙ c.add.ensures.same in
    subst (λ (es : List (ℕ × Binding)). IsKept es c.remove.new.self) (sym c.in-Err.ensures.err)
    (same_kept before.bound.entries before.listings c.self.invariant c.args.number
    (kept_below c.args.number (values_of before.bound.entries) c.args.self.now c.self.view_is c.requires.above) c.remove.new.self
    (λ b other listed.
    c.remove.ensures b (λ same. other (same ∙ ap (λ (y : Binding). y.number) back ∙ mine)) (c.add.ensures.stays b (λ same. other (same ∙ mine)) listed)))
