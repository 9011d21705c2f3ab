-- Lines found byte by byte.
use Rattle.std.proofs.Common.{◌≡◌, ◌≢◌, ℕ, ◌<◌, ◌≤◌, Bool, true, false, List, [], ◌∷◌, ◌++◌, ◌+◌, length, refl, sym, ap, ◌∙◌, append_assoc, append-nil, length-append, arith, take}
use Rattle.std.specs.Prelude.{Option, Some, None, IfSome, ◌==◌, ◌||◌, if◌then◌else◌}
use Rattle.std.proofs.lemmas.List.{take_all}
use Rattle.std.specs.Io.KnownBytes.{Consumes, Keeps, IsAtEnd}
use Rattle.std.proofs.KnownBytes.{Consumes-trans, Consumes-kept}
use Rattle.std.proofs.lemmas.List.Folds.{list_any-append}
use Rattle.event_lines.specs.Lines.{lines_of, onto_first, line_ends, has_end}
use Rattle.event_lines.specs.Reading.{WhereKnown, IsOf, Finds, IsBegun}
use Rattle.ui_machine.specs.Limits.{most_line_bytes}
use Rattle.event_lines.specs.declared.line_reader.Found.{Found}
use Rattle.event_lines.specs.declared.line_reader.Found.TheVariants as founds

pub or_false : (a b : Bool) → (a || b) ≡ false → (a ≡ false) × (b ≡ false)
or_false true b h = cc
or_false false b h = (refl, h)

pub has_end_push : (line : List ℕ) (b : ℕ) → has_end line ≡ false → (b == 10) ≡ false → has_end (line ++ b ∷ []) ≡ false
has_end_push line b h k = rw (list_any-append (λ b. b == 10) line (b ∷ []), h, k) refl

-- a whole line
pub first_line : (line rest : List ℕ) → has_end line ≡ false → lines_of (line ++ 10 ∷ rest) ≡ line ∷ lines_of rest
first_line [] rest h = refl
first_line (b ∷ line) rest h =
    let p = or_false (b == 10) (has_end line) h in
    rw (p.0, first_line line rest p.1) refl

-- a line has no end in it
clean_line : (xs line : List ℕ) (rest : List (List ℕ)) → lines_of xs ≡ line ∷ rest → has_end line ≡ false
clean_line [] line rest e = cc e
clean_line (b ∷ xs) line rest e = by (clean_line xs) (b == 10) refl
  where
    onto : ((l : List ℕ) (ls : List (List ℕ)) → lines_of xs ≡ l ∷ ls → has_end l ≡ false) → (ls : List (List ℕ)) → lines_of xs ≡ ls → (b == 10) ≡ false → onto_first b ls ≡ line ∷ rest → has_end line ≡ false
    onto clean [] is other f = let l : line ≡ b ∷ [] = cc f in rw (l, other) refl
    onto clean (l ∷ ls) is other f = let m : line ≡ b ∷ l = cc f in let h = clean l ls is in rw (m, other, h) refl

    by : ((l : List ℕ) (ls : List (List ℕ)) → lines_of xs ≡ l ∷ ls → has_end l ≡ false) → (t : Bool) → (b == 10) ≡ t → has_end line ≡ false
    by clean true is = let m : [] ∷ lines_of xs ≡ line ∷ rest = ap (λ t. if t then [] ∷ lines_of xs else onto_first b (lines_of xs)) (sym is) ∙ e in let l : line ≡ [] = cc m in rw l refl
    by clean false is = onto clean (lines_of xs) refl is (ap (λ t. if t then [] ∷ lines_of xs else onto_first b (lines_of xs)) (sym is) ∙ e)

-- a line that has begun
pub begun_line : (line rest : List ℕ) → has_end line ≡ false → 0 < length line
    → (more : List ℕ) × (others : List (List ℕ)) × (lines_of (line ++ rest) ≡ (line ++ more) ∷ others)
begun_line [] rest h lt = absurd (omega arith)
begun_line (b ∷ []) rest h lt =
    let p = or_false (b == 10) false h in
    elim (lines_of rest) as (λ ls. lines_of rest ≡ ls → (more : List ℕ) × (others : List (List ℕ)) × (lines_of (b ∷ rest) ≡ (b ∷ more) ∷ others)) [
      | [] ↦ λ e. ([], [], rw (p.0, e) refl)
      | line ∷ lines ↦ λ e. (line, lines, rw (p.0, e) refl)
    ] refl
begun_line (b ∷ c ∷ line) rest h lt =
    let p = or_false (b == 10) (has_end (c ∷ line)) h in
    let q = begun_line (c ∷ line) rest p.1 (omega arith) in
    (q.0, q.1, ap (λ t. if t then [] ∷ lines_of ((c ∷ line) ++ rest) else onto_first b (lines_of ((c ∷ line) ++ rest))) p.0 ∙ ap (onto_first b) q.2)

-- ** line ends

pub line_ends_append : (xs ys : List ℕ) → line_ends (xs ++ ys) ≡ line_ends xs + line_ends ys
line_ends_append [] ys = omega arith
line_ends_append (b ∷ xs) ys = ap (λ n. (if b == 10 then 1 else 0) + n) (line_ends_append xs ys) ∙ omega arith

pub no_line_ends : (xs : List ℕ) → has_end xs ≡ false → line_ends xs ≡ 0
no_line_ends [] h = refl
no_line_ends (b ∷ xs) h =
    let p = or_false (b == 10) (has_end xs) h in
    rw (p.0, no_line_ends xs p.1) refl

pub no_more_ends : (xs ys : List ℕ) → has_end ys ≡ false → line_ends (xs ++ ys) ≡ line_ends xs
no_more_ends xs ys h = let n = no_line_ends ys h in let m = line_ends_append xs ys in omega (arith, n, m)

-- the last line, without an end
pub last_line : (line : List ℕ) → has_end line ≡ false → 0 < length line → lines_of line ≡ line ∷ []
last_line [] h lt = absurd (omega arith)
last_line (b ∷ []) h lt = rw ((or_false (b == 10) false h).0) refl
last_line (b ∷ c ∷ line) h lt =
    let p = or_false (b == 10) (has_end (c ∷ line)) h in
    rw (p.0, last_line (c ∷ line) p.1 (omega arith)) refl

pub where_consumed : (a b : Option (List ℕ)) (bs : List ℕ) (P : List ℕ → List ℕ → Type 0) → Consumes a b bs
    → ((xs ys : List ℕ) → xs ≡ bs ++ ys → P xs ys) → WhereKnown a b P
where_consumed None b bs P h k = tt
where_consumed (Some xs) None bs P h k = absurd h
where_consumed (Some xs) (Some ys) bs P h k = k xs ys h

at_end : (b c : Option (List ℕ)) (P : List ℕ → List ℕ → Type 0) (a : Option (List ℕ)) (bs : List ℕ) → Consumes a b bs → Keeps b c × IsAtEnd c
    → P bs [] → WhereKnown a c P
at_end b c P None bs h e p = tt
at_end None c P (Some xs) bs h e p = absurd h
at_end (Some ys) None P (Some xs) bs h e p = absurd e.0
at_end (Some ys) (Some zs) P (Some xs) bs h e p =
    let z : zs ≡ [] = e.1 in
    let y : ys ≡ [] = sym e.0 ∙ z in
    let x : xs ≡ bs = rw y at h ∙ append-nil bs in
    rw (x, z) p

pub finds_whole : (a b c : Option (List ℕ)) (line : List ℕ) → Consumes a b line → Consumes b c (10 ∷ []) → has_end line ≡ false → length line ≤ most_line_bytes
    → Finds founds.Whole line a c
finds_whole a b c line h k e lt = record {
  line = line;
  is = (refl, lt);
  one = e;
  first = where_consumed a c (line ++ 10 ∷ []) _ (Consumes-trans a b c line (10 ∷ []) h k) (λ xs ys x. record {
    rest = lines_of ys;
    first = ap lines_of (x ∙ append_assoc line (10 ∷ []) ys) ∙ first_line line ys e;
    goes_on = λ w. refl;
    short = rw x (simp length-append (omega arith));
    part = line ++ 10 ∷ [];
    split = x;
    ends = let n = no_line_ends line e in let m = line_ends_append line (10 ∷ []) in omega (arith, n, m);
  });
}

pub finds_last : (a b c : Option (List ℕ)) (line : List ℕ) → Consumes a b line → Keeps b c × IsAtEnd c → has_end line ≡ false → length line ≤ most_line_bytes → 0 < length line
    → Finds founds.Whole line a c
finds_last a b c line h k e lt some = record {
  line = line;
  is = (refl, lt);
  one = e;
  first = at_end b c _ a line h k (record {
    rest = [];
    first = last_line line e some;
    goes_on = λ w. refl;
    short = omega arith;
    part = line;
    split = sym (append-nil line);
    ends = let n = no_line_ends line e in omega (arith, n);
  });
}

pub finds_none : (a b c : Option (List ℕ)) (line : List ℕ) → Consumes a b line → Keeps b c × IsAtEnd c → line ≡ []
    → WhereKnown a c (λ xs ys. xs ≡ [])
finds_none a b c line h k e = at_end b c _ a line h k e

pub begins : (a b c : Option (List ℕ)) (line : List ℕ) → Consumes a b line → Keeps b c → has_end line ≡ false → length line ≤ most_line_bytes
    → WhereKnown a c (λ xs ys. IsBegun xs ys)
begins a b c line h k e lt = where_consumed a c line _ (Consumes-kept a b c line h k) (λ xs ys x. record { part = line; split = x; one = e; short = lt })

module _ (found : Found) (buffer line : List ℕ) (x : ℕ) (e : has_end line ≡ false) (ne : (x == 10) ≡ false)
    (is : (more : List ℕ) → IsOf found buffer ((line ++ x ∷ []) ++ more)) (other : found ≢ founds.Whole) (within : length line ≤ most_line_bytes) where
  some : 0 < length (line ++ x ∷ [])
  some = rw (length-append line (x ∷ [])) (omega arith)

  finds_front : (a c : Option (List ℕ)) → Consumes a c (line ++ x ∷ []) → Finds found buffer a c
  finds_front None c h = record {
    line = (line ++ x ∷ []) ++ [];
    is = is [];
    one = rw (append-nil (line ++ x ∷ [])) (has_end_push line x e ne);
    first = tt;
  }
  finds_front (Some xs) None h = absurd h
  finds_front (Some xs) (Some ys) eq =
      let q = begun_line (line ++ x ∷ []) ys (has_end_push line x e ne) some in
      let first : lines_of xs ≡ ((line ++ x ∷ []) ++ q.0) ∷ q.1 = ap lines_of eq ∙ q.2 in
      record {
        line = (line ++ x ∷ []) ++ q.0;
        is = is q.0;
        one = clean_line xs ((line ++ x ∷ []) ++ q.0) q.1 first;
        first = record {
          rest = q.1;
          first = first;
          goes_on = λ w. absurd (other w);
          short = rw eq (simp length-append (omega arith));
          part = line ++ x ∷ [];
          split = eq;
          ends = let n = no_line_ends (line ++ x ∷ []) (has_end_push line x e ne) in omega (arith, n);
        };
      }

pub finds_begun : (found : Found) (buffer : List ℕ) (a b c : Option (List ℕ)) (line : List ℕ) (x : ℕ) → Consumes a b line → Consumes b c (x ∷ [])
    → has_end line ≡ false → (x == 10) ≡ false → ((more : List ℕ) → IsOf found buffer ((line ++ x ∷ []) ++ more)) → found ≢ founds.Whole → length line ≤ most_line_bytes
    → Finds found buffer a c
finds_begun found buffer a b c line x h k e ne is other within =
    finds_front found buffer line x e ne is other within a c (Consumes-trans a b c line (x ∷ []) h k)

-- a line with a byte too many
pub longer : (line : List ℕ) (x : ℕ) → most_line_bytes ≤ length line → (more : List ℕ) → most_line_bytes < length ((line ++ x ∷ []) ++ more)
longer line x h more = simp length-append (omega arith)

pub known_further : (a b c : Option (List ℕ)) (P Q R : List ℕ → List ℕ → Type 0) → WhereKnown a b P → WhereKnown b c Q
    → ((xs ys zs : List ℕ) → P xs ys → Q ys zs → R xs zs) → WhereKnown a c R
known_further None b c P Q R h k f = tt
known_further (Some xs) None c P Q R h k f = absurd h
known_further (Some xs) (Some ys) None P Q R h k f = absurd k
known_further (Some xs) (Some ys) (Some zs) P Q R h k f = f xs ys zs h k

pub known_later : (a b : Option (List ℕ)) (P Q : List ℕ → List ℕ → Type 0) → WhereKnown a b P → ((xs ys : List ℕ) → P xs ys → Q xs ys) → WhereKnown a b Q
known_later None b P Q h f = tt
known_later (Some xs) None P Q h f = absurd h
known_later (Some xs) (Some ys) P Q h f = f xs ys h

pub known_so : (a b : Option (List ℕ)) (P : List ℕ → List ℕ → Type 0) (Q : List ℕ → Type 0) → WhereKnown a b P
    → ((xs ys : List ℕ) → P xs ys → Q xs) → IfSome a Q
known_so None b P Q h f = tt
known_so (Some xs) None P Q h f = absurd h
known_so (Some xs) (Some ys) P Q h f = f xs ys h

pub known_map : (a b : Option (List ℕ)) (P Q : List ℕ → List ℕ → Type 0) → WhereKnown a b P → ((xs ys : List ℕ) → P xs ys → Q xs ys) → WhereKnown a b Q
known_map None b P Q h f = tt
known_map (Some xs) None P Q h f = absurd h
known_map (Some xs) (Some ys) P Q h f = f xs ys h

-- ** the bytes of a definition

take_front : (bs ys : List ℕ) → take (length bs) (bs ++ ys) ≡ bs
take_front [] ys = refl
take_front (b ∷ bs) ys = ap (λ rest. b ∷ rest) (take_front bs ys)

pub taken_front : (a b : Option (List ℕ)) (bs : List ℕ) (n : ℕ) → Consumes a b bs → n ≡ length bs → IfSome a (λ input. bs ≡ take n input)
taken_front None b bs n h e = tt
taken_front (Some xs) None bs n h e = absurd h
taken_front (Some xs) (Some ys) bs n h e = rw (h, e) (sym (take_front bs ys))

pub taken_whole : (a b c : Option (List ℕ)) (bs : List ℕ) (n : ℕ) → Consumes a b bs → Keeps b c × IsAtEnd c → length bs ≤ n → IfSome a (λ input. bs ≡ take n input)
taken_whole None b c bs n h e lt = tt
taken_whole (Some xs) None c bs n h e lt = absurd h
taken_whole (Some xs) (Some ys) None bs n h e lt = absurd e.0
taken_whole (Some xs) (Some ys) (Some zs) bs n h e lt =
    let none : ys ≡ [] = sym e.0 ∙ e.1 in
    let x : xs ≡ bs = rw none at h ∙ append-nil bs in
    rw x (sym (take_all n bs lt))

keeps_all : (a b : Option (List ℕ)) → Consumes a b [] → Keeps a b
keeps_all None b h = tt
keeps_all (Some xs) None h = absurd h
keeps_all (Some xs) (Some ys) h = sym h

-- the last read gave none
pub taken_to_end : (a b c : Option (List ℕ)) (bs piece : List ℕ) (count n : ℕ) → Consumes a b bs → Consumes b c (take count piece) → count ≡ 0 → IsAtEnd c → length bs ≤ n → IfSome a (λ input. bs ≡ take n input)
taken_to_end a b c bs piece count n h k none end lt = taken_whole a b c bs n h (keeps_all b c (rw none at k), end) lt
