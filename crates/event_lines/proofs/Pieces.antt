-- Texts that were said and written piece by piece.
use Rattle.std.proofs.Common.{◌≡◌, ℕ, ◌+◌, ◌-◌, ◌<◌, ◌≤◌, Bool, true, false, List, [], ◌∷◌, ◌++◌, length, get_or, take, drop, refl, sym, ap, subst, ◌∙◌, append_assoc, append-nil, inl, inr, arith, length-append}
use Rattle.std.specs.Prelude.{◌==◌, if◌then◌else◌, flat_map, map, Option, Result, Ok, Err, ◌⊎◌}
use Rattle.std.specs.Io.KnownBytes.{Appends, Keeps}
use Rattle.std.proofs.KnownBytes.{Appends-nil, Appends-trans, Appends-kept}
use Rattle.std.proofs.lemmas.List.{take-append-drop, drop_more, take_rest, take_more}
use Rattle.std.proofs.lemmas.List.Concat.{flat_map-append}
use Rattle.std.proofs.lemmas.List.Folds.{flat_map-map}
use Rattle.std.proofs.Math.Seq.{take-add}
use Rattle.std.proofs.lemmas.Bool.{ne_eqb}
use Rattle.event_lines.specs.Writing.{Sent, AppendsPart, Writes, Passes, Tears, Puts, Waits, Finishes}

-- ** writes

-- nothing of the rest came
pub stops_before : (a b c : Option (List ℕ)) (n : ℕ) (text : List ℕ) → Appends a b (take n text) → Keeps b c → AppendsPart a c text
stops_before a b c n text h k = record {
  part = take n text;
  more = drop n text;
  split = sym (take-append-drop n text);
  appends = Appends-kept a b c _ h k;
}

-- one more write of what is left of a text
pub goes_on : (a b c : Option (List ℕ)) (text : List ℕ) (done n : ℕ) → Appends a b (take done text)
    → Appends b c (take n (take (length text - done) (drop done text))) → Appends a c (take (done + n) text)
goes_on a b c text done n h k =
    let k' : Appends b c (take n (drop done text)) = rw (sym (take_rest text done)) k in
    rw (take-add done n text) (Appends-trans a b c _ _ h k')

-- one more write of what is left, which counts if all of it came
module _ (count left old now new : ℕ) (counts : new ≡ now + (if count == left then 1 else 0)) (same : now ≡ old) where
  pub writes_once : new ≤ old + 1
  writes_once = by (count == left) refl
    where
      by : (b : Bool) → (count == left) ≡ b → new ≤ old + 1
      by true is = let e : new ≡ now + 1 = rw is at counts in omega (arith, e, same)
      by false is = let e : new ≡ now + 0 = rw is at counts in omega (arith, e, same)

  pub writes_not : count < left → new ≡ old
  writes_not lt =
      let is : (count == left) ≡ false = ne_eqb count left (λ e. absurd (omega (arith, e, lt))) in
      let e : new ≡ now + 0 = rw is at counts in
      omega (arith, e, same)

-- ** what is said

pub passes_start : (a : Sent) (p : List ℕ) → Passes a p a p []
passes_start a p = record { moved = []; appends = Appends-nil a.bytes; whole = append-nil p; full = omega arith }

-- what was said before, and more, of which some is still to come
pub joined_moves : (p xs ys m q n r : List ℕ) → p ++ xs ≡ m ++ q → q ++ ys ≡ n ++ r → p ++ (xs ++ ys) ≡ (m ++ n) ++ r
joined_moves p xs ys m q n r h k =
    sym (append_assoc p xs ys) ∙ ap (λ t. t ++ ys) h ∙ append_assoc m q ys ∙ ap (λ t. m ++ t) k ∙ sym (append_assoc m n r)

pub passes_then : {a b c : Sent} {p q r : List ℕ} {xs ys : List ℕ} → Passes a p b q xs → Passes b q c r ys → Passes a p c r (xs ++ ys)
passes_then {a} {b} {c} {p} {q} {r} {xs} {ys} h k = record {
  moved = h.moved ++ k.moved;
  appends = Appends-trans a.bytes b.bytes c.bytes h.moved k.moved h.appends k.appends;
  whole = joined_moves p xs ys h.moved q k.moved r h.whole k.whole;
  full = let n = length-append h.moved k.moved in omega (arith, n, h.full, k.full);
}

pub tears_then : {a b c : Sent} {p q : List ℕ} {xs ys : List ℕ} → Passes a p b q xs → Tears b q c ys → Tears a p c (xs ++ ys)
tears_then {a} {b} {c} {p} {q} {xs} {ys} h k = record {
  moved = h.moved ++ k.moved;
  lost = k.lost;
  appends = Appends-trans a.bytes b.bytes c.bytes h.moved k.moved h.appends k.appends;
  whole = joined_moves p xs ys h.moved q k.moved k.lost h.whole k.whole;
  full = let n = length-append h.moved k.moved in omega (arith, n, h.full, k.full);
}

pub tears_early : {a b : Sent} {p xs : List ℕ} (rest : List ℕ) → Tears a p b xs → Tears a p b (xs ++ rest)
tears_early {a} {b} {p} {xs} rest k = record {
  moved = k.moved;
  lost = k.lost ++ rest;
  appends = k.appends;
  whole = sym (append_assoc p xs rest) ∙ ap (λ t. t ++ rest) k.whole ∙ append_assoc k.moved k.lost rest;
  full = k.full;
}

-- one text was said, and then another was or not
pub puts_after : {T E : Type 0} (r : Result T E) (a b c : Sent) (p q s : List ℕ) (xs ys : List ℕ) → Passes a p b q xs → Puts r b q c s ys → Puts r a p c s (xs ++ ys)
puts_after (Ok _) a b c p q s xs ys h k = passes_then h k
puts_after (Err _) a b c p q s xs ys h k = tears_then h k

-- one more piece of a text
pub passes_on : (a b c : Sent) (p q r text : List ℕ) (done n : ℕ) → Passes a p b q (take done text)
    → Passes b q c r (take n (take (length text - done) (drop done text))) → Passes a p c r (take (done + n) text)
passes_on a b c p q r text done n h k =
    let k' : Passes b q c r (take n (drop done text)) = rw (sym (take_rest text done)) k in
    rw (take-add done n text) (passes_then h k')

pub tears_before : (a b c : Sent) (p q text : List ℕ) (done : ℕ) → Passes a p b q (take done text) → Tears b q c [] → Tears a p c text
tears_before a b c p q text done h k =
    subst (Tears a p c) (ap (λ t. t ++ drop done text) (append-nil (take done text)) ∙ take-append-drop done text) (tears_early (drop done text) (tears_then h k))

split_at : {X : Type 0} (f : X → List ℕ) (xs : List X) (i : ℕ) (x d : X) → i < length xs → x ≡ get_or xs i d
    → flat_map f xs ≡ flat_map f (take i xs) ++ (f x ++ flat_map f (drop (i + 1) xs))
split_at f xs i x d lt e =
    ap (flat_map f) (sym (take-append-drop i xs)) ∙ flat_map-append f (take i xs) (drop i xs)
    ∙ ap (λ v. flat_map f (take i xs) ++ flat_map f v) (drop_more xs i d lt ∙ ap (λ y. y ∷ drop (i + 1) xs) (sym e))

-- the pieces before the i-th were said, and then the writer failed
pub tears_in : {X : Type 0} (f : X → List ℕ) {a b c : Sent} {p q : List ℕ} (xs : List X) (i : ℕ) (x d : X) → i < length xs → x ≡ get_or xs i d
    → Passes a p b q (flat_map f (take i xs)) → Tears b q c (f x) → Tears a p c (flat_map f xs)
tears_in f {a} {b} {c} {p} {q} xs i x d lt e h k =
    subst (Tears a p c) (sym (split_at f xs i x d lt e)) (tears_then h (tears_early (flat_map f (drop (i + 1) xs)) k))

-- one more piece
pub passes_in : {X : Type 0} (f : X → List ℕ) {a b c : Sent} {p q r : List ℕ} (xs : List X) (i : ℕ) (x d : X) → i < length xs → x ≡ get_or xs i d
    → Passes a p b q (flat_map f (take i xs)) → Passes b q c r (f x) → Passes a p c r (flat_map f (take (i + 1) xs))
passes_in f {a} {b} {c} {p} {q} {r} xs i x d lt e h k =
    let more : flat_map f (take (i + 1) xs) ≡ flat_map f (take i xs) ++ f x =
    ap (flat_map f) (take_more xs i d lt ∙ ap (λ y. take i xs ++ y ∷ []) (sym e)) ∙ flat_map-append f (take i xs) (x ∷ []) ∙ ap (λ t. flat_map f (take i xs) ++ t) (append-nil (f x)) in
    subst (Passes a p c r) (sym more) (passes_then h k)

-- the same, of pieces made of a list's elements
pub tears_in_map : {X : Type 0} (f : List ℕ → List ℕ) (g : X → List ℕ) {a b c : Sent} {p q : List ℕ} (xs : List X) (i : ℕ) (x : X) → i < length xs → x ≡ get_or xs i x
    → Passes a p b q (flat_map f (map g (take i xs))) → Tears b q c (f (g x)) → Tears a p c (flat_map f (map g xs))
tears_in_map f g {a} {b} {c} {p} {q} xs i x lt e h k =
    let h' = subst (Passes a p b q) (flat_map-map f g (take i xs)) h in
    subst (Tears a p c) (sym (flat_map-map f g xs)) (tears_in (λ y. f (g y)) xs i x x lt e h' k)

pub passes_in_map : {X : Type 0} (f : List ℕ → List ℕ) (g : X → List ℕ) {a b c : Sent} {p q r : List ℕ} (xs : List X) (i : ℕ) (x : X) → i < length xs → x ≡ get_or xs i x
    → Passes a p b q (flat_map f (map g (take i xs))) → Passes b q c r (f (g x)) → Passes a p c r (flat_map f (map g (take (i + 1) xs)))
passes_in_map f g {a} {b} {c} {p} {q} {r} xs i x lt e h k =
    let h' = subst (Passes a p b q) (flat_map-map f g (take i xs)) h in
    subst (Passes a p c r) (sym (flat_map-map f g (take (i + 1) xs))) (passes_in (λ y. f (g y)) xs i x x lt e h' k)

-- ** what is written of it

-- room was made by one write of all that was gathered
pub passes_full : (a b : Sent) (p q : List ℕ) → length p ≡ 4096 → Appends a.bytes b.bytes p → q ≡ [] → b.writes ≤ a.writes + 1 → Passes a p b q []
passes_full a b p q full h none once = record {
  moved = p;
  appends = h;
  whole = ap (λ t. p ++ t) (sym none);
  full = omega (arith, full, once);
}

pub tears_part : (a b : Sent) (p : List ℕ) → AppendsPart a.bytes b.bytes p → b.writes ≤ a.writes + 1 → Tears a p b []
tears_part a b p h once = record {
  moved = h.part;
  lost = h.more;
  appends = h.appends;
  whole = append-nil p ∙ h.split;
  full = omega (arith, once);
}

-- a text was said where nothing was gathered, and then written
pub said_and_out : {T E : Type 0} (r : Result T E) (a b : Sent) (c : Option (List ℕ)) (q text : List ℕ) → Passes a [] b q text → Writes r b.bytes c q → Writes r a.bytes c text
said_and_out (Ok _) a b c q text h out = subst (Appends a.bytes c) (sym h.whole) (Appends-trans a.bytes b.bytes c h.moved q h.appends out)
said_and_out (Err _) a b c q text h out = record {
  part = h.moved ++ out.part;
  more = out.more;
  split = h.whole ∙ ap (λ t. h.moved ++ t) out.split ∙ sym (append_assoc h.moved out.part out.more);
  appends = Appends-trans a.bytes b.bytes c h.moved out.part h.appends out.appends;
}

pub said_and_torn : (a b : Sent) (text : List ℕ) → Tears a [] b text → AppendsPart a.bytes b.bytes text
said_and_torn a b text h = record { part = h.moved; more = h.lost; split = h.whole; appends = h.appends }

-- ** before a read

pub waits_not : (U : Type 0) (r : ℕ) (failed : Bool) (a : Sent) (p : List ℕ) → U → Waits U r r failed a p a p
waits_not U r failed a p u =
    record { moved = []; held = p; appends = Appends-nil a.bytes; whole = refl; kept = λ _. refl; out = inl u; later = omega arith; paced = λ _. omega arith; few = omega arith }

pub waits_out : (U : Type 0) (r r' : ℕ) (failed : Bool) (a b : Sent) (p q : List ℕ) → Appends a.bytes b.bytes p → q ≡ [] → b.writes ≤ a.writes + 1 → r' ≡ r + 1 → Waits U r r' failed a p b q
waits_out U r r' failed a b p q h none once read = record {
  moved = p;
  held = [];
  appends = h;
  whole = sym (append-nil p);
  kept = λ _. none;
  out = inr refl;
  later = omega (arith, read);
  paced = λ _. omega (arith, read, once);
  few = omega (arith, read, once);
}

pub waits_torn : (U : Type 0) (r : ℕ) (failed : Bool) (a b : Sent) (p q : List ℕ) → U → failed ≡ true → AppendsPart a.bytes b.bytes p → b.writes ≤ a.writes + 1 → Waits U r r failed a p b q
waits_torn U r failed a b p q u torn h once = record {
  moved = h.part;
  held = h.more;
  appends = h.appends;
  whole = h.split;
  kept = λ fine. cc (torn, fine);
  out = inl u;
  later = omega arith;
  paced = λ fine. cc (torn, fine);
  few = omega (arith, once);
}

nothing_left : (m h : List ℕ) → [] ≡ m ++ h → h ≡ []
nothing_left [] h e = sym e
nothing_left (b ∷ m) h e = cc e

-- one after the other
pub waits_then : {U V X : Type 0} {r s t : ℕ} {failed : Bool} {a b c : Sent} {p q x : List ℕ} → (U → V → X) → Waits U r s false a p b q → Waits V s t failed b q c x → Waits X r t failed a p c x
waits_then {U} {V} {X} {r} {s} {t} {failed} {a} {b} {c} {p} {q} {x} both h k =
    let mid : q ≡ h.held = h.kept refl in
    let whole : p ≡ (h.moved ++ k.moved) ++ k.held = h.whole ∙ ap (λ y. h.moved ++ y) (sym mid ∙ k.whole) ∙ sym (append_assoc h.moved k.moved k.held) in
    let first = h.paced refl in
    record {
      moved = h.moved ++ k.moved;
      held = k.held;
      appends = Appends-trans a.bytes b.bytes c.bytes h.moved k.moved h.appends k.appends;
      whole = whole;
      kept = k.kept;
      out = out k.out h.out;
      later = omega (arith, h.later, k.later);
      paced = λ fine. let next = k.paced fine in omega (arith, first, next);
      few = omega (arith, first, k.few);
    }
  where
    out : V ⊎ (k.held ≡ []) → U ⊎ (h.held ≡ []) → X ⊎ (k.held ≡ [])
    out (inr none) before = inr none
    out (inl v) (inl u) = inl (both u v)
    out (inl v) (inr none) = inr (nothing_left k.moved k.held (sym none ∙ sym (h.kept refl) ∙ k.whole))

-- ** at the end

pub finishes_whole : (status : ℕ) (failed : Bool) (a b : Sent) (p : List ℕ) → failed ≡ false → Appends a.bytes b.bytes p → b.writes ≤ a.writes + 1 → Finishes status status failed a p b
finishes_whole status failed a b p fine h once = record { whole = λ _. (refl, h); part = λ torn. cc (fine, torn); once = once }

pub finishes_torn : (status : ℕ) (failed : Bool) (a b : Sent) (p : List ℕ) → failed ≡ true → AppendsPart a.bytes b.bytes p → b.writes ≤ a.writes + 1 → Finishes status 4 failed a p b
finishes_torn status failed a b p torn h once = record { whole = λ fine. cc (fine, torn); part = λ _. (refl, h); once = once }
