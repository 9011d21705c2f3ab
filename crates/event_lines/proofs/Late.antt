-- What the last read gave, byte by byte.
use Rattle.std.proofs.Common.{◌≡◌, ◌∙◌, ℕ, suc, ◌+◌, ◌<◌, ◌≤◌, false, List, [], ◌∷◌, ◌++◌, length, sym, ap, subst, append_assoc, length-append, arith, inl, inr}
use Rattle.std.specs.Prelude.{◌⊎◌, Option, Some, None}
use Rattle.std.specs.Io.KnownBytes.{Consumes, Keeps, prepend_known}
use Rattle.event_lines.specs.Lines.{has_end}
use Rattle.ui_machine.specs.Limits.{most_line_bytes}
use Rattle.event_lines.specs.Reading.{WhereKnown, IsBegun, IsLate, most_ahead}

-- of the bytes xs, of which ys come after the bytes that were read ahead, the last read gave some and those
pub record IsLateSo (ahead xs ys : List ℕ) : Type 0 where
  pub part : List ℕ
  pub tail : List ℕ
  pub split : xs ≡ part ++ (tail ++ (ahead ++ ys))
  pub one : has_end part ≡ false
  pub chunk : length tail + length ahead ≤ most_ahead

-- one more of the bytes that were read ahead
taken : (b : ℕ) (old ahead xs ys : List ℕ) → old ≡ b ∷ ahead → IsLateSo old xs ys → IsLateSo ahead xs ys
taken b old ahead xs ys is h = record {
  part = h.part;
  tail = h.tail ++ b ∷ [];
  split = h.split ∙ ap (λ l. h.part ++ (h.tail ++ (l ++ ys))) is ∙ ap (λ l. h.part ++ l) (sym (append_assoc h.tail (b ∷ []) (ahead ++ ys)));
  one = h.one;
  chunk = let n = length-append h.tail (b ∷ []) in let m : length old ≡ suc (length ahead) = ap length is in omega (arith, h.chunk, n, m);
}

-- bytes that were read just now, behind a line that has not ended
read_now : (line ahead xs ys : List ℕ) (b : ℕ) → has_end line ≡ false → length ahead < most_ahead → xs ≡ line ++ ((b ∷ []) ++ (ahead ++ ys)) → IsLateSo ahead xs ys
read_now line ahead xs ys b one small split = record { part = line; tail = b ∷ []; split = split; one = one; chunk = omega (arith, small) }

pub late_so : (first last : Option (List ℕ)) (ahead : List ℕ) → WhereKnown first last (λ xs ys. IsLateSo ahead xs ys) → WhereKnown first last (λ xs ys. IsLate xs ys)
late_so None last ahead h = tt
late_so (Some xs) None ahead h = absurd h
late_so (Some xs) (Some ys) ahead h = record {
  part = h.part;
  late = h.tail ++ ahead;
  split = h.split ∙ ap (λ l. h.part ++ l) (sym (append_assoc h.tail ahead ys));
  one = h.one;
  chunk = let n = length-append h.tail ahead in omega (arith, h.chunk, n);
}

-- ** with the readers' bytes

pub begun_kept : (first mid last : Option (List ℕ)) (line : List ℕ) → Consumes first mid line → Keeps mid last → has_end line ≡ false → length line ≤ most_line_bytes
    → WhereKnown first last (λ xs ys. IsBegun xs ys)
begun_kept None mid last line h k one small = tt
begun_kept (Some xs) None last line h k one small = absurd h
begun_kept (Some xs) (Some ms) None line h k one small = absurd k
begun_kept (Some xs) (Some ms) (Some ys) line h k one small = record { part = line; split = h ∙ ap (λ l. line ++ l) (sym k); one = one; short = small }

module _ (first a d : Option (List ℕ)) (old new line : List ℕ) (one : has_end line ≡ false) (consumed : Consumes first (prepend_known old a) line) {U V W : Type 0} (same : V → (a ≡ d) × (U → W))
    (before : U ⊎ WhereKnown first a (λ xs ys. IsLateSo old xs ys)) where
  -- a byte more
  pub late_next : (b : ℕ) → Consumes (prepend_known old a) (prepend_known new d) (b ∷ []) → (V × (old ≡ b ∷ new)) ⊎ ((old ≡ []) × (length new < most_ahead))
      → W ⊎ WhereKnown first d (λ xs ys. IsLateSo new xs ys)
  late_next b byte (inr anew) = inr (by first a d consumed byte)
    where
      by : (f a d : Option (List ℕ)) → Consumes f (prepend_known old a) line → Consumes (prepend_known old a) (prepend_known new d) (b ∷ []) → WhereKnown f d (λ xs ys. IsLateSo new xs ys)
      by None a d h k = tt
      by (Some xs) None d h k = absurd h
      by (Some xs) (Some ws) None h k = absurd k
      by (Some xs) (Some ws) (Some ds) h k = read_now line new xs ds b one anew.1 (h ∙ ap (λ l. line ++ l) k)
  late_next b byte (inl (v, is)) = by before
    where
      on : (f a d : Option (List ℕ)) → a ≡ d → WhereKnown f a (λ xs ys. IsLateSo old xs ys) → WhereKnown f d (λ xs ys. IsLateSo new xs ys)
      on None a d e h = tt
      on (Some xs) None d e h = absurd h
      on (Some xs) (Some ws) None e h = absurd (cc e)
      on (Some xs) (Some ws) (Some ds) e h = let e' : ws ≡ ds = cc e in subst (λ ys. IsLateSo new xs ys) e' (taken b old new xs ws is h)

      by : U ⊎ WhereKnown first a (λ xs ys. IsLateSo old xs ys) → W ⊎ WhereKnown first d (λ xs ys. IsLateSo new xs ys)
      by (inl u) = inl ((same v).1 u)
      by (inr h) = inr (on first a d (same v).0 h)

  -- the end of all bytes
  pub late_end : Keeps (prepend_known old a) (prepend_known new d) → new ≡ [] → (V × (old ≡ [])) ⊎ (old ≡ []) → W ⊎ WhereKnown first d (λ xs ys. IsLate xs ys)
  late_end kept none (inl (v, is)) = by before
    where
      on : (f a d : Option (List ℕ)) → a ≡ d → WhereKnown f a (λ xs ys. IsLateSo old xs ys) → WhereKnown f d (λ xs ys. IsLate xs ys)
      on f a d e h = subst (λ k. WhereKnown f k (λ xs ys. IsLate xs ys)) e (late_so f a old h)

      by : U ⊎ WhereKnown first a (λ xs ys. IsLateSo old xs ys) → W ⊎ WhereKnown first d (λ xs ys. IsLate xs ys)
      by (inl u) = inl ((same v).1 u)
      by (inr h) = inr (on first a d (same v).0 h)
  late_end kept none (inr is) = inr (by first a d consumed kept)
    where
      by : (f a d : Option (List ℕ)) → Consumes f (prepend_known old a) line → Keeps (prepend_known old a) (prepend_known new d) → WhereKnown f d (λ xs ys. IsLate xs ys)
      by None a d h k = tt
      by (Some xs) None d h k = absurd h
      by (Some xs) (Some ws) None h k = absurd k
      by (Some xs) (Some ws) (Some ds) h k = record {
        part = line;
        late = [];
        split = h ∙ ap (λ l. line ++ l) (sym k ∙ ap (λ l. l ++ ds) none);
        one = one;
        chunk = omega arith;
      }

pub late_then : (first last : Option (List ℕ)) (ahead : List ℕ) {W : Type 0} → W ⊎ WhereKnown first last (λ xs ys. IsLateSo ahead xs ys) → W ⊎ WhereKnown first last (λ xs ys. IsLate xs ys)
late_then first last ahead (inl w) = inl w
late_then first last ahead (inr h) = inr (late_so first last ahead h)
