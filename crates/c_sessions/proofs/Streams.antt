-- The bytes of lines that are left, as they are taken and as lines come behind them.
use Rattle.std.proofs.Common.{◌≡◌, ℕ, zero, suc, ◌≤◌, ◌<◌, List, [], ◌∷◌, ◌++◌, length, drop, take, append_assoc, refl, sym, ap, subst, ◌∙◌, arith, length-append}
use Rattle.std.specs.Prelude.{codes, slice_set}
use Rattle.ui_machine.specs.Prefix.{IsPrefix}
use Rattle.event_lines.specs.Texts.{joined, lines_text}
use Rattle.c_sessions.specs.Places.{IsPlace, left_of}

-- the text of more lines
pub text_of_both : (lines more : List (List ℕ)) → lines_text (lines ++ more) ≡ lines_text lines ++ lines_text more
text_of_both [] more = refl
text_of_both (line ∷ lines) more =
    ap (λ (l : List ℕ). joined (line ∷ codes "\n" ∷ []) ++ l) (text_of_both lines more)
    ∙ sym (append_assoc (joined (line ∷ codes "\n" ∷ [])) (lines_text lines) (lines_text more))

-- a front that is dropped of a longer list
dropped : (xs ys : List ℕ) (k : ℕ) → k ≤ length xs → drop k (xs ++ ys) ≡ drop k xs ++ ys
dropped xs ys zero short = refl
dropped [] ys (suc k) short = absurd (omega (arith, short))
dropped (x ∷ xs) ys (suc k) short = dropped xs ys k (omega (arith, short))

-- what is left where lines come behind
pub left_of_both : (lines more : List (List ℕ)) (line byte : ℕ) → IsPlace lines line byte → left_of (lines ++ more) line byte ≡ left_of lines line byte ++ lines_text more
left_of_both [] more zero zero is = refl
left_of_both [] more zero (suc byte) is = absurd (omega (arith, is.1))
left_of_both [] more (suc line) byte is = absurd (omega (arith, is.0))
left_of_both (first ∷ lines) more zero byte is =
    ap (drop byte) (text_of_both (first ∷ lines) more)
    ∙ dropped (lines_text (first ∷ lines)) (lines_text more) byte
    (omega (arith, is.1, length-append first (codes "\n" ++ []), length-append (joined (first ∷ codes "\n" ∷ [])) (lines_text lines)))
left_of_both (first ∷ lines) more (suc line) byte is = left_of_both lines more line byte (omega (arith, is.0), is.1)

-- a list behind its front
front_off : {A : Type 0} (xs ys : List A) → drop (length xs) (xs ++ ys) ≡ ys
front_off [] ys = refl
front_off (x ∷ xs) ys = front_off xs ys

-- what is left once lines were said
pub left_after : (old new : List (List ℕ)) (line byte : ℕ) → IsPlace old line byte → IsPrefix old new → left_of new line byte ≡ left_of old line byte ++ lines_text (drop (length old) new)
left_after old new line byte is longer =
    subst (λ (lines : List (List ℕ)). left_of lines line byte ≡ left_of old line byte ++ lines_text (drop (length old) lines)) (sym longer.whole)
    (left_of_both old longer.more line byte is ∙ ap (λ (lines : List (List ℕ)). left_of old line byte ++ lines_text lines) (sym (front_off old longer.more)))

-- a place is one among more lines
place_of_both : (lines more : List (List ℕ)) (line byte : ℕ) → IsPlace lines line byte → IsPlace (lines ++ more) line byte
place_of_both [] more zero zero is = (omega arith, omega arith)
place_of_both [] more zero (suc byte) is = absurd (omega (arith, is.1))
place_of_both [] more (suc line) byte is = absurd (omega (arith, is.0))
place_of_both (first ∷ lines) more zero byte is = (omega arith, is.1)
place_of_both (first ∷ lines) more (suc line) byte is = let rest = place_of_both lines more line byte (omega (arith, is.0), is.1) in (omega (arith, rest.0), rest.1)

pub place_after : (old new : List (List ℕ)) (line byte : ℕ) → IsPlace old line byte → IsPrefix old new → IsPlace new line byte
place_after old new line byte is longer = subst (λ (lines : List (List ℕ)). IsPlace lines line byte) (sym longer.whole) (place_of_both old longer.more line byte is)

-- ** bytes that are taken one after the other

-- the next of some bytes
pub record OneMore (bytes : List ℕ) (k b : ℕ) (rest : List ℕ) : Type 0 where
  pub within : suc k ≤ length bytes
  pub taken : take (suc k) bytes ≡ take k bytes ++ b ∷ []
  pub left : rest ≡ drop (suc k) bytes

pub one_more : (bytes : List ℕ) (k b : ℕ) (rest : List ℕ) → drop k bytes ≡ b ∷ rest → OneMore bytes k b rest
one_more [] zero b rest e = absurd (cc)
one_more [] (suc k) b rest e = absurd (cc)
one_more (x ∷ bytes) zero b rest e = record { within = omega arith; taken = ap (λ (y : ℕ). y ∷ []) (cc); left = cc }
one_more (x ∷ bytes) (suc k) b rest e =
    let m = one_more bytes k b rest e in record { within = omega (arith, m.within); taken = ap (λ (l : List ℕ). x ∷ l) m.taken; left = m.left }

-- it is put behind those that were taken
pub put_next : (front out : List ℕ) (k b : ℕ) → length front ≡ k → k < length out → slice_set (front ++ drop k out) k b ≡ (front ++ b ∷ []) ++ drop (suc k) out
put_next [] [] zero b is short = absurd (omega (arith, short))
put_next [] (y ∷ out) zero b is short = refl
put_next [] out (suc k) b is short = absurd (omega (arith, is))
put_next (x ∷ front) out zero b is short = absurd (omega (arith, is))
put_next (x ∷ front) [] (suc k) b is short = absurd (omega (arith, short))
put_next (x ∷ front) (y ∷ out) (suc k) b is short = ap (λ (l : List ℕ). x ∷ l) (put_next front out k b (omega (arith, is)) (omega (arith, short)))

taken_length : (bytes : List ℕ) (k : ℕ) → k ≤ length bytes → length (take k bytes) ≡ k
taken_length bytes zero short = refl
taken_length [] (suc k) short = absurd (omega (arith, short))
taken_length (x ∷ bytes) (suc k) short = ap suc (taken_length bytes k (omega (arith, short)))

pub taken_next : (bytes out held : List ℕ) (k b : ℕ) (rest : List ℕ) → k ≤ length bytes → k < length out → held ≡ take k bytes ++ drop k out → OneMore bytes k b rest
    → slice_set held k b ≡ take (suc k) bytes ++ drop (suc k) out
taken_next bytes out held k b rest within short is more =
    ap (λ (l : List ℕ). slice_set l k b) is ∙ (put_next (take k bytes) out k b (taken_length bytes k within) short ∙ ap (λ (l : List ℕ). l ++ drop (suc k) out) (sym more.taken))
