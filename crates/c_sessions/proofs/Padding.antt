-- A text at the front of a buffer.
use Rattle.std.proofs.Common.{◌≡◌, ℕ, suc, ◌<◌, ◌≤◌, List, [], ◌∷◌, ◌++◌, length, take, drop, slice_set, refl, ap, arith}
use Rattle.c_sessions.specs.Buffers.{with_text}

-- a text that is cut where the room ends
pub text_cut : (buffer text : List ℕ) → length buffer ≤ length text → with_text buffer text ≡ take (length buffer) text
text_cut [] text long = refl
text_cut (b ∷ buffer) [] long = absurd (omega (arith, long))
text_cut (b ∷ buffer) (t ∷ text) long = ap (λ (l : List ℕ). t ∷ l) (text_cut buffer text (omega (arith, long)))

-- a text with a zero behind it
pub text_ended : (buffer text : List ℕ) → length text < length buffer → with_text buffer text ≡ slice_set (text ++ drop (length text) buffer) (length text) 0
text_ended [] text short = absurd (omega (arith, short))
text_ended (b ∷ buffer) [] short = refl
text_ended (b ∷ buffer) (t ∷ text) short = ap (λ (l : List ℕ). t ∷ l) (text_ended buffer text (omega (arith, short)))
