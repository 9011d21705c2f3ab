-- The names of the first bindings, one more of them.
use Rattle.std.proofs.Common.{◌≡◌, ℕ, zero, suc, ◌+◌, Bool, true, false, ◌||◌, List, [], ◌∷◌, take, refl, sym, ap, subst, ◌∙◌, add-one}
use Rattle.std.specs.List.{list_any}
use Rattle.ui_machine.specs.Definition.Places.{Bind}
use Rattle.law_typing.specs.Rules.Typing.{is_called}
use Rattle.verify_operands.specs.BindNames.{name_at}
use Rattle.verify_operands.specs.Parts.{is_named}

or_assoc : (a b c : Bool) → ((a || b) || c) ≡ (a || (b || c))
or_assoc true b c = refl
or_assoc false b c = refl

last_alone : (a : Bool) → (a || false) ≡ (false || a)
last_alone true = refl
last_alone false = refl

next : (name : List ℕ) (bindings : List Bind) (i : ℕ)
    → list_any (is_named name) (take (suc i) bindings) ≡ (list_any (is_named name) (take i bindings) || is_called name (name_at bindings i))
next name [] zero = refl
next name [] (suc i) = refl
next name (b ∷ bindings) zero = last_alone (is_named name b)
next name (b ∷ bindings) (suc i) =
    ap (λ x. is_named name b || x) (next name bindings i)
    ∙ sym (or_assoc (is_named name b) (list_any (is_named name) (take i bindings)) (is_called name (name_at bindings i)))

pub any_next : (name : List ℕ) (bindings : List Bind) (i : ℕ)
    → list_any (is_named name) (take (i + 1) bindings) ≡ (list_any (is_named name) (take i bindings) || is_called name (name_at bindings i))
any_next name bindings i =
    subst (λ n. list_any (is_named name) (take n bindings) ≡ (list_any (is_named name) (take i bindings) || is_called name (name_at bindings i))) (sym (add-one i))
    (next name bindings i)
