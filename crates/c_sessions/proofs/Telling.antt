-- Texts that are told, and values of properties by names that may be no text.
use Rattle.std.proofs.Common.{◌≡◌, ℕ, Bool, true, false, List, [], Option, None, Some, Result, Ok, Err, Global, String, true≢false, refl, sym, subst, ◌∙◌, inl, inr}
use Rattle.std.specs.Prelude.{IfOk, ◌⊎◌, option_map, string_bytes}
use Rattle.std.specs.Str.{IsUtf8, is_utf8}
use Rattle.std.proofs.lemmas.Option.{none-some}
use Rattle.std.proofs.lemmas.Str.{IsUtf8-from_is_utf8, is_utf8-from_IsUtf8}
use Rattle.c_sessions.specs.Told.{TellsText}

-- where nothing is told of nothing, nothing is told of what there is
tells_nothing : (told : Option (List ℕ)) (before : List ℕ) (count : ℕ) (after : List ℕ) → TellsText None before count after → TellsText told before count after
tells_nothing told before count after (text, counts, written, inl empty) = (text, counts, written, inl empty)
tells_nothing told before count after (text, counts, written, inr never) = absurd (none-some text never)

-- what is told by a name, which is a text or not
pub tells_by_name : {E : Type 0} (told : Option (List ℕ)) (name : List ℕ) (text : Result (Option (String Global)) E) (before : List ℕ) (count : ℕ) (after : List ℕ)
    → (IsUtf8 name → IfOk text (λ t. option_map string_bytes t ≡ told)) → ((IsUtf8 name → ⊥) → text ≡ Ok None)
    → ((t : Option (List ℕ)) → IfOk text (λ s. option_map string_bytes s ≡ t) → TellsText t before count after)
    → TellsText told before count after
tells_by_name {E} told name text before count after utf8 other tells = by (is_utf8 name) refl
  where
    by : (b : Bool) → is_utf8 name ≡ b → TellsText told before count after
    by true is = tells told (utf8 (IsUtf8-from_is_utf8 name is))
    by false is =
        let none = other (λ was. true≢false (sym (is_utf8-from_IsUtf8 name was) ∙ is)) in
        tells_nothing told before count after (tells None (subst (λ (r : Result (Option (String Global)) E). IfOk r (λ s. option_map string_bytes s ≡ None)) (sym none) refl))
