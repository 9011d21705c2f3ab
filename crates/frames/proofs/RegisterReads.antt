-- Registers, read by their numbers.
use Rattle.std.proofs.Common.{◌≡◌, ℕ, ◌<◌, ◌≤◌, List, length, get_or, Option, None, Some, option_map, Bor, refl, sym, ap, ◌∙◌}
use Rattle.std.specs.Option.{option_copied}
use Rattle.ui_machine.specs.Seq.{read}
use Rattle.g_values.specs.declared.value.Value.{Value}
use Rattle.g_values.specs.View.{value_view}
use Rattle.param_specs.proofs.Specs.{read-map, read-map-past}
use Rattle.bytecode.specs.Computing.{registers_of}

lent : (b : Option (Bor Value)) → option_map (λ v. value_view v.now) b ≡ option_map value_view (option_copied b)
lent None = refl
lent (Some v) = refl

-- what a register within the list holds
pub register_within : (rs : List (Option Value)) (i : ℕ) (b : Option (Bor Value)) (e : Option Value) → i < length rs
    → option_copied b ≡ e → e ≡ get_or rs i e → option_map (λ v. value_view v.now) b ≡ read None (registers_of rs) i
register_within rs i b e h copied is =
    lent b ∙ ap (option_map value_view) (copied ∙ is) ∙ sym (read-map (option_map value_view) None e rs i h)

-- past its end a register is unset
pub register_past : (rs : List (Option Value)) (i : ℕ) → length rs ≤ i → read None (registers_of rs) i ≡ None
register_past rs i h = read-map-past (option_map value_view) None rs i h
