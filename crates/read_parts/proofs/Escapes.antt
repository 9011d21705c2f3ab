-- Escaping a key, a character at a time.
use Rattle.std.proofs.Common.{◌≡◌, ◌≢◌, ◌≤◌, ℕ, ◌+◌, ◌/◌, ◌%◌, ◌<◌, Bool, true, false, cond, nat_eq, nat_lt, List, [], ◌∷◌, ◌++◌, length, drop, get_or, refl, sym, ap, ◌∙◌, append_assoc, arith}
use Rattle.std.specs.Str.{chars}
use Rattle.std.proofs.Math.Utf8.{encode, encodes}
use Rattle.std.proofs.lemmas.Bool.Decides.{nat_tests}
use Rattle.std.proofs.lemmas.Grind.{flat_map-append}
use Rattle.std.proofs.lemmas.List.{at_drop_more, at_drop_all, length_push, append-nil}
use Rattle.std.specs.Str.{IsUtf8}
use Rattle.std.proofs.lemmas.Str.{encodes-chars}
use Rattle.definition_format.specs.Document.{escaped_byte, escaped}

-- a byte that is neither `~` nor `/` stays
plain_byte : (x : ℕ) (rest : List ℕ) → nat_eq x 126 ≡ false → nat_eq x 47 ≡ false → escaped_byte x ++ rest ≡ x ∷ rest
plain_byte x rest p q = rw (p, q) refl

-- the characters as a path writes them
abbrev pub spelled : List ℕ → List ℕ
spelled cs = escaped (encodes cs)

spelled-drop : (cs : List ℕ) (n c : ℕ) → (n < length cs) × (c ≡ get_or cs n c) → spelled (drop n cs) ≡ escaped (encode c) ++ spelled (drop (n + 1) cs)
spelled-drop cs n c h =
    at_drop_more spelled cs n c h.0 ∙ ap (λ x. escaped (encode x ++ encodes (drop (n + 1) cs))) (sym h.1) ∙ flat_map-append escaped_byte (encode c) (encodes (drop (n + 1) cs))

pub spelled_turn : (out cs ys : List ℕ) (c : ℕ) → (length ys < length cs) × (c ≡ get_or cs (length ys) c) → out ++ spelled (drop (length ys) cs) ≡ spelled cs
    → (out ++ escaped (encode c)) ++ spelled (drop (length (ys ++ c ∷ [])) cs) ≡ spelled cs
spelled_turn out cs ys c h so =
    ap (λ n. (out ++ escaped (encode c)) ++ spelled (drop n cs)) (length_push ys c)
    ∙ append_assoc out (escaped (encode c)) (spelled (drop (length ys + 1) cs))
    ∙ ap (λ l. out ++ l) (sym (spelled-drop cs (length ys) c h)) ∙ so

pub spelled_end : (out key ys : List ℕ) → IsUtf8 key → length (chars key) ≡ length ys → out ++ spelled (drop (length ys) (chars key)) ≡ spelled (chars key) → out ≡ escaped key
spelled_end out key ys utf8 all so =
    sym (append-nil out) ∙ ap (λ l. out ++ l) (sym (at_drop_all spelled (chars key) (length ys) (omega (arith, all)))) ∙ so ∙ ap escaped (encodes-chars key utf8)

high : (x : ℕ) (rest more : List ℕ) → 128 ≤ x → more ≡ rest → escaped_byte x ++ more ≡ x ∷ rest
high x rest more le e = plain_byte x more (grind (arith, nat_tests)) (grind (arith, nat_tests)) ∙ ap (λ l. x ∷ l) e

pub escaped_plain : (c : ℕ) → c ≢ 126 → c ≢ 47 → escaped (encode c) ≡ encode c
unfolding encode
escaped_plain c p q = by (nat_lt c 128) (nat_lt c 2048) (nat_lt c 65536)
  where
    by : (x y z : Bool)
        → escaped (cond x (c ∷ []) (cond y ((192 + c / 64) ∷ (128 + c % 64) ∷ []) (cond z ((224 + c / 4096) ∷ (128 + (c / 64) % 64) ∷ (128 + c % 64) ∷ []) ((240 + c / 262144) ∷ (128 + (c / 4096) % 64) ∷ (128 + (c / 64) % 64) ∷ (128 + c % 64) ∷ []))))
        ≡ cond x (c ∷ []) (cond y ((192 + c / 64) ∷ (128 + c % 64) ∷ []) (cond z ((224 + c / 4096) ∷ (128 + (c / 64) % 64) ∷ (128 + c % 64) ∷ []) ((240 + c / 262144) ∷ (128 + (c / 4096) % 64) ∷ (128 + (c / 64) % 64) ∷ (128 + c % 64) ∷ [])))
    by true y z = plain_byte c [] (grind (arith, nat_tests)) (grind (arith, nat_tests))
    by false true z = high _ _ _ (omega arith) (high _ _ _ (omega arith) refl)
    by false false true = high _ _ _ (omega arith) (high _ _ _ (omega arith) (high _ _ _ (omega arith) refl))
    by false false false = high _ _ _ (omega arith) (high _ _ _ (omega arith) (high _ _ _ (omega arith) (high _ _ _ (omega arith) refl)))
