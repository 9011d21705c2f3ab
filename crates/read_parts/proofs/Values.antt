-- The JSON value that a line or a definition holds.
use Rattle.std.proofs.Common.{◌≡◌, ℕ, ◌≤◌, List, length, false, Option, Err, refl, sym, ap, ◌∙◌}
use Rattle.std.proofs.lemmas.Bool.{le-ltb, false_from_ne_true}
use Rattle.std.proofs.lemmas.Str.{is_utf8-from_IsUtf8, IsUtf8-from_is_utf8}
use Rattle.std.specs.Str.{IsUtf8, is_utf8}
use Rattle.serde_json.specs.Data.{Data}
use Rattle.serde_json.specs.Read.{read}
use Rattle.ui_machine.specs.Limits.{most_line_bytes, most_definition_bytes}
use Rattle.definition_format.specs.EventMeaning.{line_value, or_refused, not_json}
use Rattle.definition_format.specs.Refusals as refusals
use Rattle.definition_format.specs.Document.{document}

pub document-not_utf8 : (bs : List ℕ) → length bs ≤ most_definition_bytes → ¬ IsUtf8 bs → document bs ≡ Err refusals.not_utf8
unfolding document
document-not_utf8 bs short bad =
    let not_text : is_utf8 bs ≡ false = false_from_ne_true (is_utf8 bs) (λ e. bad (IsUtf8-from_is_utf8 bs e)) in
    rw (le-ltb _ _ short, not_text) refl

pub document-text : (bs text : List ℕ) (found : Option Data) → length bs ≤ most_definition_bytes → IsUtf8 bs → text ≡ bs → read text ≡ found → document bs ≡ refusals.or_refused refusals.not_json found
unfolding document
document-text bs text found short good same is =
    rw (le-ltb _ _ short, is_utf8-from_IsUtf8 bs good) (ap (λ (t : List ℕ). refusals.or_refused refusals.not_json (read t)) (sym same) ∙ ap (refusals.or_refused refusals.not_json) is)

pub line_value-not_utf8 : (bs : List ℕ) → length bs ≤ most_line_bytes → ¬ IsUtf8 bs → line_value bs ≡ Err not_json
unfolding line_value
line_value-not_utf8 bs short bad =
    let not_text : is_utf8 bs ≡ false = false_from_ne_true (is_utf8 bs) (λ e. bad (IsUtf8-from_is_utf8 bs e)) in
    rw (le-ltb _ _ short, not_text) refl

pub line_value-text : (bs text : List ℕ) (found : Option Data) → length bs ≤ most_line_bytes → IsUtf8 bs → text ≡ bs → read text ≡ found → line_value bs ≡ or_refused not_json found
unfolding line_value
line_value-text bs text found short good same is =
    rw (le-ltb _ _ short, is_utf8-from_IsUtf8 bs good) (ap (λ (t : List ℕ). or_refused not_json (read t)) (sym same) ∙ ap (or_refused not_json) is)
