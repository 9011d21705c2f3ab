-- The machine's JSON string is the one that serde_json writes.
use Rattle.std.proofs.Common.{◌≡◌, ℕ, false, List, [], ◌∷◌, ◌++◌, refl, ap, sym, subst, nat_eq, inl, inr}
use Rattle.std.proofs.lemmas.Bool.Decides.{eqb_tells}
use Rattle.json.specs.Print.{escape, escape_byte, quoted}
use Rattle.ui_machine.specs.Output.Text.{escaped_byte, escaped, json_string}

-- the byte n, or another
or_other : (x n : ℕ) → escape_byte n ≡ escaped_byte n → (nat_eq x n ≡ false → escape_byte x ≡ escaped_byte x) → escape_byte x ≡ escaped_byte x
or_other x n here other = elim (eqb_tells x n) as (λ _. escape_byte x ≡ escaped_byte x) [
  | inl h ↦ subst (λ y. escape_byte y ≡ escaped_byte y) (sym h.1) here
  | inr h ↦ other h.0
]

byte : (x : ℕ) → escape_byte x ≡ escaped_byte x
unfolding escape_byte
byte x =
    or_other x 34 refl (λ a. or_other x 92 refl (λ b. or_other x 8 refl (λ c. or_other x 9 refl (λ d. or_other x 10 refl (λ e.
    or_other x 12 refl (λ f. or_other x 13 refl (λ g. rw (a, b, c, d, e, f, g) refl)))))))

bytes : (s : List ℕ) → escape s ≡ escaped s
bytes [] = refl
bytes (x ∷ xs) = rw (byte x, bytes xs) refl

pub quoted_json : (s : List ℕ) → quoted s ≡ json_string s
quoted_json s = ap (λ (t : List ℕ). 34 ∷ (t ++ 34 ∷ [])) (bytes s)
