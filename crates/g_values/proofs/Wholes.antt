-- A number that denotes a value.
use Rattle.std.proofs.Common.{◌≡◌, ◌∙◌, ℤ, List, Option, Result, sym, ap, subst}
use Rattle.std.specs.declared.alloc.AllocError.{AllocError}
use Rattle.ui_machine.specs.Definition.Kinds.{Whole}
use Rattle.ui_machine.specs.Definition.Kinds as kinds
use Rattle.ui_machine.specs.Definition.Values as values
use Rattle.ui_machine.specs.Definition.Types.{GType}
use Rattle.ui_machine.specs.Rules.Transform.{converted}
use Rattle.g_values.specs.declared.value.Value.{Value}
use Rattle.g_values.specs.View.{Yields}

pub whole_becomes : (r : Result (Option Value) AllocError) (types : List GType) (kind : kinds.Kind) (k : Whole) (m n : ℤ) (v : values.Value)
    → v ≡ values.whole k n → m ≡ n → Yields r kind (converted types kind (values.whole k m)) → Yields r kind (converted types kind v)
whole_becomes r types kind k m n v e f h =
    subst (λ w. Yields r kind (converted types kind w)) (ap (values.whole k) f ∙ sym e) h
