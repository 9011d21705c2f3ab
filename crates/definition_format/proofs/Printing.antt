-- Printing a text byte by byte.
use Rattle.std.proofs.Common.{◌≡◌, ℕ, ◌+◌, ◌<◌, List, [], ◌∷◌, ◌++◌, length, take, get_or, sym, ap, ◌∙◌}
use Rattle.std.proofs.lemmas.Grind.{flat_map-append}
use Rattle.std.proofs.lemmas.List.{take_more, append-nil}
use Rattle.definition_format.specs.FaultText.{printed_byte, printed}

pub printed_more : (xs : List ℕ) (i : ℕ) (out : List ℕ) → i < length xs → out ≡ printed (take i xs) → out ++ printed_byte (get_or xs i 0) ≡ printed (take (i + 1) xs)
printed_more xs i out within so =
    let x = get_or xs i 0 in
    ap (λ l. l ++ printed_byte x) so
    ∙ sym (ap printed (take_more xs i 0 within) ∙ flat_map-append printed_byte (take i xs) (x ∷ []) ∙ ap (λ l. printed (take i xs) ++ l) (append-nil (printed_byte x)))
