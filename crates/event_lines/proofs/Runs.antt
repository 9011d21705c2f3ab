-- How far a run has come.
use Rattle.std.proofs.Common.{◌≡◌, ◌≢◌, ◌≤◌, ℕ, ◌+◌, ◌*◌, ◌/◌, Bool, true, false, List, [], ◌∷◌, ◌++◌, length, take, drop, ◌-◌, refl, sym, ap, subst, ◌∙◌, append_assoc, append-nil, length-append, add-one, arith, inl, inr}
use Rattle.std.specs.Prelude.{◌⊎◌, ◌||◌, map, min, Option, Some, None, IfSome}
use Rattle.std.specs.List.{list_any}
use Rattle.std.specs.Io.KnownBytes.{Appends, prepend_known}
use Rattle.std.proofs.KnownBytes.{Appends-nil, Appends-trans}
use Rattle.std.proofs.lemmas.List.{take_rest, take_all, take-append-le, drop-map, length-map}
use Rattle.std.proofs.lemmas.List.Folds.{list_any-append}
use Rattle.std.proofs.lemmas.List.Sums.{fold-append}
use Rattle.std.proofs.Math.Bool.{or-false}
use Rattle.ui_machine.specs.Prefix.{IsPrefix}
use Rattle.ui_machine.specs.Limits.{most_line_bytes}
use Rattle.event_lines.specs.Lines.{lines_of, line_ends, has_end}
use Rattle.event_lines.specs.Reading.{WhereKnown, IsFirst, IsBegun, IsLate, most_ahead}
use Rattle.event_lines.specs.EventFileRun.{Outcome, said, refused, cut_off, stopped, Replies, LineComesTo, LinesComeTo, EventFileRun, BeforeLastRead, InStep, AllTold, IsOver, ends, text_at, text_from, status_after, status_of, reach}
use Rattle.event_lines.specs.Writing.{Sent, Passes, Tears, Waits, Finishes, Sends}
use Rattle.event_lines.specs.declared.line_reader.Found.{Found}
use Rattle.event_lines.specs.declared.line_reader.Found.TheVariants as founds
use Rattle.event_lines.proofs.LineLemmas.{or_false, first_line, begun_line, known_further, line_ends_append, no_more_ends}
use Rattle.event_lines.proofs.Pieces.{joined_moves}

-- no line has an end in it
abbrev pub AreClean : List (List ℕ) → Type 0
AreClean [] = Unit {0}
AreClean (line ∷ lines) = (has_end line ≡ false) × AreClean lines

-- these lines are the first of the bytes xs, of which ys are left
pub record IsAt (done : List (List ℕ)) (xs ys : List ℕ) : Type 0 where
  pub lines : lines_of xs ≡ done ++ lines_of ys
  pub reached : length xs ≤ length ys + reach done
  pub part : List ℕ
  pub split : xs ≡ part ++ ys
  pub told : line_ends part ≤ length done

-- the lines handled so far, and what was said of them: what was written, and what is held; and how many writes there were
pub record Came {S : Type 0} (replies : Replies S) (forgotten : S → S) (old : S) (before : List ℕ) (now : S) (number status : ℕ) (ended : Bool) (unread : Type 0) (first last : Option (List ℕ)) (reads reads_after : ℕ) (taken new : Sent) (more : ℕ) (held : List ℕ) (done : List (List ℕ)) (outcomes : List Outcome) : Type 0 where
  pub told : LinesComeTo replies forgotten old 1 done outcomes now
  pub counts : length outcomes ≡ length done
  pub next : number ≡ 1 + length outcomes
  pub over : list_any ends outcomes ≡ ended
  pub answers : status ≡ status_of outcomes
  pub clean : AreClean done
  pub moved : List ℕ
  pub appends : Appends taken.bytes new.bytes moved
  pub later : reads ≤ reads_after
  pub few : 4096 * (new.writes + reads) ≤ 4096 * (taken.writes + reads_after + more) + length moved
  pub writes : before ++ text_from 1 outcomes ≡ moved ++ held
  pub order : unread ⊎ InStep before outcomes first last moved

text_more : (n : ℕ) (os : List Outcome) (o : Outcome) → text_from n (os ++ o ∷ []) ≡ text_from n os ++ text_at (n + length os) o
text_more n [] o = append-nil (text_at n o) ∙ ap (λ k. text_at k o) (omega arith)
text_more n (p ∷ os) o =
    ap (λ t. text_at n p ++ t) (text_more (n + 1) os o) ∙ sym (append_assoc (text_at n p) (text_from (n + 1) os) (text_at ((n + 1) + length os) o))
    ∙ ap (λ k. (text_at n p ++ text_from (n + 1) os) ++ text_at k o) (omega arith)

-- ** lists

pub clean_more : (done : List (List ℕ)) (line : List ℕ) → AreClean done → has_end line ≡ false → AreClean (done ++ line ∷ [])
clean_more [] line h k = (k, tt)
clean_more (d ∷ done) line h k = (h.0, clean_more done line h.1 k)

reach_append : (xs ys : List (List ℕ)) → reach (xs ++ ys) ≡ reach xs + reach ys
reach_append [] ys = omega arith
reach_append (x ∷ xs) ys = ap (λ n. (min (length x) most_line_bytes + 1) + n) (reach_append xs ys) ∙ omega arith

reach_take : (n : ℕ) (line : List ℕ) (lines : List (List ℕ)) → reach (take (n + 1) (line ∷ lines)) ≡ (min (length line) most_line_bytes + 1) + reach (take n lines)
reach_take n line lines = rw (add-one n) refl

reach_cons : (d : List ℕ) (done lines : List (List ℕ)) → reach (take (length (d ∷ done) + 1) (d ∷ lines)) ≡ (min (length d) most_line_bytes + 1) + reach (take (length done + 1) lines)
reach_cons d done lines = reach_take (length (d ∷ done)) d lines ∙ ap (λ n. (min (length d) most_line_bytes + 1) + reach (take n lines)) (sym (add-one (length done)))

-- the lines so far are the front of what is reached by one more
reach_front : (done left : List (List ℕ)) → reach done ≤ reach (take (length done + 1) (done ++ left))
reach_front [] left = omega arith
reach_front (d ∷ done) left =
    let h = reach_front done left in
    let e = reach_cons d done (done ++ left) in
    omega (arith, h, e)

reach_next : (done left : List (List ℕ)) (line : List ℕ) → reach (take (length done + 1) (done ++ line ∷ left)) ≡ reach (done ++ line ∷ [])
reach_next [] left line = reach_take 0 line left
reach_next (d ∷ done) left line = reach_cons d done (done ++ line ∷ left) ∙ ap (λ n. (min (length d) most_line_bytes + 1) + n) (reach_next done left line)

-- the text of clean lines
abbrev unlines : List (List ℕ) → List ℕ
unlines [] = []
unlines (line ∷ lines) = line ++ 10 ∷ unlines lines

lines_of_unlines : (lines : List (List ℕ)) → AreClean lines → lines_of (unlines lines) ≡ lines
lines_of_unlines [] h = refl
lines_of_unlines (line ∷ lines) h = first_line line (unlines lines) h.0 ∙ ap (λ ls. line ∷ ls) (lines_of_unlines lines h.1)

-- there are bytes of these lines, and of those that are left
pub bytes_of : (first last : Option (List ℕ)) (done : List (List ℕ)) → AreClean done → WhereKnown first last (λ xs ys. (left : List (List ℕ)) × (lines_of xs ≡ done ++ left))
    → (input : List ℕ) × IfSome first (λ known. known ≡ input) × (left : List (List ℕ)) × (lines_of input ≡ done ++ left)
bytes_of None last done clean at = (unlines done, tt, [], lines_of_unlines done clean ∙ sym (append-nil done))
bytes_of (Some xs) None done clean at = absurd at
bytes_of (Some xs) (Some ys) done clean at = (xs, refl, at.0, at.1)

-- there are bytes of these lines, and of no more
pub bytes_of_all : (first last : Option (List ℕ)) (done : List (List ℕ)) → AreClean done → WhereKnown first last (λ xs ys. lines_of xs ≡ done)
    → (input : List ℕ) × IfSome first (λ known. known ≡ input) × (lines_of input ≡ done)
bytes_of_all None last done clean at = (unlines done, tt, lines_of_unlines done clean)
bytes_of_all (Some xs) None done clean at = absurd at
bytes_of_all (Some xs) (Some ys) done clean at = (xs, refl, at)

-- ** where the reader is

pub at_start : (a : Option (List ℕ)) → WhereKnown a (prepend_known [] a) (λ xs ys. IsAt [] xs ys)
at_start None = tt
at_start (Some xs) = record { lines = refl; reached = omega arith; part = []; split = refl; told = omega arith }

pub at_next : (done : List (List ℕ)) (found : Found) (line xs ys zs : List ℕ) → IsAt done xs ys → IsFirst found line ys zs → found ≡ founds.Whole → IsAt (done ++ line ∷ []) xs zs
at_next done found line xs ys zs h f whole = record {
  lines = h.lines ∙ ap (λ ls. done ++ ls) (f.first ∙ ap (λ ls. line ∷ ls) (f.goes_on whole)) ∙ sym (append_assoc done (line ∷ []) (lines_of zs));
  reached = let r = reach_append done (line ∷ []) in omega (arith, h.reached, f.short, r);
  part = h.part ++ f.part;
  split = h.split ∙ ap (λ t. h.part ++ t) f.split ∙ sym (append_assoc h.part f.part zs);
  told = let n = line_ends_append h.part f.part in let m = length-append done (line ∷ []) in omega (arith, h.told, f.ends, n, m);
}

-- ** how far it has read

abbrev pub IsNear : List (List ℕ) → ℕ → List ℕ → List ℕ → Type 0
IsNear done more xs zs = length xs ≤ length zs + (reach (take (length done + 1) (lines_of xs)) + more)

pub near_first : (done : List (List ℕ)) (found : Found) (line xs ys zs : List ℕ) → IsAt done xs ys → IsFirst found line ys zs → IsNear done 0 xs zs
near_first done found line xs ys zs h f =
    let e : lines_of xs ≡ done ++ line ∷ f.rest = h.lines ∙ ap (λ ls. done ++ ls) f.first in
    let r : reach (take (length done + 1) (lines_of xs)) ≡ reach done + reach (line ∷ []) =
    ap (λ ls. reach (take (length done + 1) ls)) e ∙ reach_next done f.rest line ∙ reach_append done (line ∷ []) in
    omega (arith, h.reached, f.short, r)

near_front : (done : List (List ℕ)) (xs ys : List ℕ) → IsAt done xs ys → reach done ≤ reach (take (length done + 1) (lines_of xs))
near_front done xs ys h = rw h.lines (reach_front done (lines_of ys))

pub near_end : (done : List (List ℕ)) (xs ys zs : List ℕ) → IsAt done xs ys → ys ≡ [] → IsNear done 0 xs zs
near_end done xs ys zs h e =
    let r = near_front done xs ys h in
    let n : length ys ≡ 0 = ap length e in
    omega (arith, h.reached, r, n)

pub near_begun : (done : List (List ℕ)) (xs ys zs : List ℕ) → IsAt done xs ys → IsBegun ys zs → IsNear done most_ahead xs zs
near_begun done xs ys zs h b = by b.part refl
  where
    by : (part : List ℕ) → b.part ≡ part → IsNear done most_ahead xs zs
    by [] is =
        let r = near_front done xs ys h in
        let n : length ys ≡ length zs = ap length (b.split ∙ ap (λ t. t ++ zs) is) in
        omega (arith, h.reached, r, n)
    by (x ∷ part) is =
        let q = begun_line (x ∷ part) zs (ap has_end (sym is) ∙ b.one) (omega arith) in
        let e : lines_of xs ≡ done ++ ((x ∷ part) ++ q.0) ∷ q.1 = h.lines ∙ ap (λ ls. done ++ ls) (ap lines_of (b.split ∙ ap (λ t. t ++ zs) is) ∙ q.2) in
        let r : reach (take (length done + 1) (lines_of xs)) ≡ reach done + reach (((x ∷ part) ++ q.0) ∷ []) =
        ap (λ ls. reach (take (length done + 1) ls)) e ∙ reach_next done q.1 ((x ∷ part) ++ q.0) ∙ reach_append done (((x ∷ part) ++ q.0) ∷ []) in
        let n : length ys ≡ length (x ∷ part) + length zs = ap length (b.split ∙ ap (λ t. t ++ zs) is) ∙ length-append (x ∷ part) zs in
        let m : length ((x ∷ part) ++ q.0) ≡ length (x ∷ part) + length q.0 = length-append (x ∷ part) q.0 in
        let short : length (x ∷ part) ≤ most_line_bytes = rw is at b.short in
        omega (arith, h.reached, r, n, m, short)

-- with the bytes that were read ahead
pub near_ahead : (a d : Option (List ℕ)) (done : List (List ℕ)) (chunk : List ℕ) → WhereKnown a (prepend_known chunk d) (λ xs zs. IsNear done 0 xs zs) → length chunk ≤ most_ahead → WhereKnown a d (λ xs zs. IsNear done most_ahead xs zs)
near_ahead None d done chunk h k = tt
near_ahead (Some xs) None done chunk h k = absurd h
near_ahead (Some xs) (Some zs) done chunk h k = let e = length-append chunk zs in omega (arith, h, e, k)

pub all_told : (done : List (List ℕ)) (outcomes : List Outcome) (xs ys zs : List ℕ) → IsAt done xs ys → IsBegun ys zs → length outcomes ≡ length done → AllTold outcomes xs zs
all_told done outcomes xs ys zs h b counts = record {
  part = h.part ++ b.part;
  split = h.split ∙ ap (λ t. h.part ++ t) b.split ∙ sym (append_assoc h.part b.part zs);
  told = let n = no_more_ends h.part b.part b.one in omega (arith, h.told, n, counts);
}

-- ** what had been read before the last read

pub ended_late : (done : List (List ℕ)) (xs ys zs : List ℕ) → IsAt done xs ys → IsLate ys zs → BeforeLastRead (length done) xs zs
ended_late done xs ys zs h l = record {
  part = h.part ++ l.part;
  late = l.late;
  split = h.split ∙ ap (λ t. h.part ++ t) l.split ∙ sym (append_assoc h.part l.part (l.late ++ zs));
  chunk = l.chunk;
  ended = let n = no_more_ends h.part l.part l.one in omega (arith, h.told, n);
}

pub late_begun : (ys zs : List ℕ) → IsBegun ys zs → IsLate ys zs
late_begun ys zs b = record { part = b.part; late = []; split = b.split; one = b.one; chunk = omega arith }

-- where something was read at all
pub ended_if : {U : Type 0} (first mid last : Option (List ℕ)) (done : List (List ℕ)) → WhereKnown first mid (λ xs ys. IsAt done xs ys) → U ⊎ WhereKnown mid last (λ ys zs. IsLate ys zs)
    → U ⊎ WhereKnown first last (λ xs zs. BeforeLastRead (length done) xs zs)
ended_if first mid last done at (inl u) = inl u
ended_if first mid last done at (inr late) = inr (known_further first mid last _ _ (λ xs zs. BeforeLastRead (length done) xs zs) at late (λ xs ys zs h l. ended_late done xs ys zs h l))

-- ** one step after the other

prefix_more : (xs ys more : List ℕ) → IsPrefix xs ys → IsPrefix xs (ys ++ more)
prefix_more xs ys more h = record { more = h.more ++ more; whole = ap (λ t. t ++ more) h.whole ∙ append_assoc xs h.more more }

step_on : (before : List ℕ) (outcomes : List Outcome) (first last new : Option (List ℕ)) (text more : List ℕ) → last ≡ new → InStep before outcomes first last text → InStep before outcomes first new (text ++ more)
step_on before outcomes first last new text more same h = record {
  count = h.count;
  within = h.within;
  goes_on = h.goes_on;
  written = prefix_more (before ++ text_from 1 (take h.count outcomes)) text more h.written;
  ended = subst (λ r. WhereKnown first r (λ input rest. BeforeLastRead h.count input rest)) same h.ended;
  near = subst (λ r. WhereKnown first r (λ input rest. length input ≤ length rest + (reach (take (h.count + 1) (lines_of input)) + most_ahead))) same h.near;
}

step_more : (before : List ℕ) (outcomes : List Outcome) (o : Outcome) (first last : Option (List ℕ)) (text more : List ℕ) → InStep before outcomes first last text → InStep before (outcomes ++ o ∷ []) first last (text ++ more)
step_more before outcomes o first last text more h =
    let same : take h.count (outcomes ++ o ∷ []) ≡ take h.count outcomes = take-append-le h.count outcomes (o ∷ []) h.within in
    record {
      count = h.count;
      within = let n = length-append outcomes (o ∷ []) in omega (arith, h.within, n);
      goes_on = ap (list_any ends) same ∙ h.goes_on;
      written = subst (λ os. IsPrefix (before ++ text_from 1 os) (text ++ more)) (sym same) (prefix_more (before ++ text_from 1 (take h.count outcomes)) text more h.written);
      ended = h.ended;
      near = h.near;
    }

-- all that was said is written, and then something is read
step_now : (before : List ℕ) (done : List (List ℕ)) (outcomes : List Outcome) (first last : Option (List ℕ)) (text : List ℕ) → length outcomes ≡ length done → list_any ends outcomes ≡ false
    → before ++ text_from 1 outcomes ≡ text → WhereKnown first last (λ xs zs. IsNear done most_ahead xs zs) → WhereKnown first last (λ xs zs. BeforeLastRead (length done) xs zs)
    → InStep before outcomes first last text
step_now before done outcomes first last text counts over writes near ended =
    let all : take (length outcomes) outcomes ≡ outcomes = take_all (length outcomes) outcomes (omega arith) in
    record {
      count = length outcomes;
      within = omega arith;
      goes_on = ap (list_any ends) all ∙ over;
      written = record { more = []; whole = sym writes ∙ ap (λ os. before ++ text_from 1 os) (sym all) ∙ sym (append-nil (before ++ text_from 1 (take (length outcomes) outcomes))) };
      ended = subst (λ n. WhereKnown first last (λ input rest. BeforeLastRead n input rest)) (sym counts) ended;
      near = subst (λ n. WhereKnown first last (λ input rest. length input ≤ length rest + (reach (take (n + 1) (lines_of input)) + most_ahead))) (sym counts) near;
    }

-- ** how many writes

pub few_writes : (r r' w w' n : ℕ) → r ≤ r' → 4096 * (w' + r) ≤ 4096 * (w + r' + 1) + n → w' ≤ w + (n / 4096 + (r' - r) + 1)
few_writes r r' w w' n h k = omega (arith, h, k)

-- whole pieces were written, and then few more
pub few_after : (r r' w w' w'' m n : ℕ) → 4096 * w' ≤ 4096 * w + m → w'' ≤ w' + (n / 4096 + (r' - r) + 1) → w'' ≤ w + ((m + n) / 4096 + (r' - r) + 1)
few_after r r' w w' w'' m n h k = omega (arith, h, k)

module _ {S : Type 0} (replies : Replies S) (forgotten : S → S) where
  come_more : (n : ℕ) (done : List (List ℕ)) (os : List Outcome) (old mid new : S) (line : List ℕ) (o : Outcome) → length os ≡ length done
      → list_any ends os ≡ false → LinesComeTo replies forgotten old n done os mid → LineComesTo replies mid (n + length os) line o new
      → LinesComeTo replies forgotten old n (done ++ line ∷ []) (os ++ o ∷ []) (forgotten new)
  come_more n [] [] old mid new line o c e told comes =
      let z : n + 0 ≡ n = omega arith in
      (new, subst (λ s. LineComesTo replies s n line o new) told (subst (λ k. LineComesTo replies mid k line o new) z comes), λ x. refl, refl)
  come_more n [] (p ∷ os) old mid new line o c e told comes = absurd (omega arith)
  come_more n (d ∷ done) [] old mid new line o c e told comes = absurd (omega arith)
  come_more n (d ∷ done) (p ∷ os) old mid new line o c e told comes =
      let f = or_false (ends p) (list_any ends os) e in
      let z : n + length (p ∷ os) ≡ (n + 1) + length os = omega arith in
      let c' : length os ≡ length done = omega arith in
      (told.0, told.1, λ x. cc (x, f.0), come_more (n + 1) done os (forgotten told.0) mid new line o c' f.1 told.3 (subst (λ k. LineComesTo replies mid k line o new) z comes))

  come_longer : (n : ℕ) (done left : List (List ℕ)) (os : List Outcome) (old new : S) → LinesComeTo replies forgotten old n done os new → LinesComeTo replies forgotten old n (done ++ left) os new
  come_longer n done left [] old new told = told
  come_longer n [] left (o ∷ os) old new told = absurd told
  come_longer n (d ∷ done) left (o ∷ os) old new told = (told.0, told.1, told.2, come_longer (n + 1) done left os (forgotten told.0) new told.3)

  pub came_start : (old : S) (before : List ℕ) (unread : Type 0) (first : Option (List ℕ)) (reads : ℕ) (taken : Sent) → unread → Came replies forgotten old before old 1 0 false unread first first reads reads taken taken 0 before [] []
  came_start old before unread first reads taken un = record {
    told = refl;
    counts = refl;
    next = refl;
    over = refl;
    answers = refl;
    clean = tt;
    moved = [];
    appends = Appends-nil taken.bytes;
    later = omega arith;
    few = omega arith;
    writes = append-nil before;
    order = inl un;
  }

  -- nothing was said, and perhaps something was read
  pub came_on : {old now : S} {before : List ℕ} {number status : ℕ} {U unread unread' : Type 0} {failed : Bool} {first last last' : Option (List ℕ)} {reads reads_before reads_after : ℕ} {taken mid new : Sent} {held after : List ℕ} {done : List (List ℕ)} {outcomes : List Outcome}
      → Came replies forgotten old before now number status false unread first last reads reads_before taken mid 0 held done outcomes → (w : Waits U reads_before reads_after failed mid held new after)
      → (U → (last ≡ last') × (unread → unread')) → WhereKnown first last' (λ xs zs. IsNear done most_ahead xs zs) → U ⊎ WhereKnown first last' (λ xs zs. BeforeLastRead (length done) xs zs)
      → (more : ℕ) → new.writes + reads_before ≤ mid.writes + reads_after + more → Came replies forgotten old before now number status false unread' first last' reads reads_after taken new more w.held done outcomes
  came_on {before = before} {U = U} {unread = unread} {unread' = unread'} {first = first} {last = last} {last' = last'} {taken = taken} {mid = mid} {new = new} {done = done} {outcomes = outcomes} c w same near ended more paced =
      let writes : before ++ text_from 1 outcomes ≡ (c.moved ++ w.moved) ++ w.held = c.writes ∙ ap (λ t. c.moved ++ t) w.whole ∙ sym (append_assoc c.moved w.moved w.held) in
      record {
        told = c.told;
        counts = c.counts;
        next = c.next;
        over = c.over;
        answers = c.answers;
        clean = c.clean;
        moved = c.moved ++ w.moved;
        appends = Appends-trans taken.bytes mid.bytes new.bytes c.moved w.moved c.appends w.appends;
        later = omega (arith, c.later, w.later);
        few = let n = length-append c.moved w.moved in omega (arith, c.few, paced, n);
        writes = writes;
        order = by ended w.out c.order writes;
      }
    where
      on : U → unread ⊎ InStep before outcomes first last c.moved → unread' ⊎ InStep before outcomes first last' (c.moved ++ w.moved)
      on u (inl un) = inl ((same u).1 un)
      on u (inr step) = inr (step_on before outcomes first last last' c.moved w.moved (same u).0 step)

      by : U ⊎ WhereKnown first last' (λ xs zs. BeforeLastRead (length done) xs zs) → U ⊎ (w.held ≡ []) → unread ⊎ InStep before outcomes first last c.moved
          → before ++ text_from 1 outcomes ≡ (c.moved ++ w.moved) ++ w.held → unread' ⊎ InStep before outcomes first last' (c.moved ++ w.moved)
      by (inl u) out order writes = on u order
      by (inr h) (inl u) order writes = on u order
      by (inr h) (inr none) order writes =
          inr (step_now before done outcomes first last' (c.moved ++ w.moved) c.counts c.over (writes ∙ ap (λ t. (c.moved ++ w.moved) ++ t) none ∙ append-nil (c.moved ++ w.moved)) near h)

  -- the same where the writer has not failed
  pub came_fine : {old now : S} {before : List ℕ} {number status : ℕ} {U unread unread' : Type 0} {failed : Bool} {first last last' : Option (List ℕ)} {reads reads_before reads_after : ℕ} {taken mid new : Sent} {held after : List ℕ} {done : List (List ℕ)} {outcomes : List Outcome}
      → failed ≡ false → Came replies forgotten old before now number status false unread first last reads reads_before taken mid 0 held done outcomes → (w : Waits U reads_before reads_after failed mid held new after)
      → (U → (last ≡ last') × (unread → unread')) → WhereKnown first last' (λ xs zs. IsNear done most_ahead xs zs) → U ⊎ WhereKnown first last' (λ xs zs. BeforeLastRead (length done) xs zs)
      → Came replies forgotten old before now number status false unread' first last' reads reads_after taken new 0 after done outcomes
  came_fine {old = old} {now = now} {before = before} {number = number} {status = status} {unread' = unread'} {first = first} {last' = last'} {reads = reads} {reads_after = reads_after} {taken = taken} {new = new} {done = done} {outcomes = outcomes} fine c w same near ended =
      let paced = w.paced fine in
      subst (λ h. Came replies forgotten old before now number status false unread' first last' reads reads_after taken new 0 h done outcomes) (sym (w.kept fine)) (came_on c w same near ended 0 (omega (arith, paced)))

  -- one more line was handled, and its outcome said
  pub came_told : {old now then : S} {before : List ℕ} {number status : ℕ} {unread : Type 0} {first last : Option (List ℕ)} {reads reads_after : ℕ} {taken mid new : Sent} {held after : List ℕ} {done : List (List ℕ)} {outcomes : List Outcome}
      (line : List ℕ) (o : Outcome) → Came replies forgotten old before now number status false unread first last reads reads_after taken mid 0 held done outcomes → LineComesTo replies now number line o then → has_end line ≡ false
      → Passes mid held new after (text_at number o)
      → Came replies forgotten old before (forgotten then) (number + 1) (status_after status o) (ends o) unread first last reads reads_after taken new 0 after (done ++ line ∷ []) (outcomes ++ o ∷ [])
  came_told {old} {now} {then} {before} {number} {status} {unread} {first} {last} {reads} {reads_after} {taken} {mid} {new} {held} {after} {done} {outcomes} line o c comes clean p = record {
    told = come_more 1 done outcomes old now then line o c.counts c.over c.told (subst (λ k. LineComesTo replies now k line o then) c.next comes);
    counts = let n = length-append outcomes (o ∷ []) in let m = length-append done (line ∷ []) in omega (arith, c.counts, n, m);
    next = let n = length-append outcomes (o ∷ []) in omega (arith, c.next, n);
    over = list_any-append ends outcomes (o ∷ []) ∙ ap (λ b. b || (ends o || false)) c.over ∙ or-false (ends o);
    answers = ap (λ s. status_after s o) c.answers ∙ sym (fold-append status_after 0 outcomes (o ∷ []));
    clean = clean_more done line c.clean clean;
    moved = c.moved ++ p.moved;
    appends = Appends-trans taken.bytes mid.bytes new.bytes c.moved p.moved c.appends p.appends;
    later = c.later;
    few = let n = length-append c.moved p.moved in omega (arith, c.few, p.full, n);
    writes = ap (λ t. before ++ t) (said_more c.next) ∙ joined_moves before (text_from 1 outcomes) (text_at number o) c.moved held p.moved after c.writes p.whole;
    order = by c.order;
  }
    where
      said_more : number ≡ 1 + length outcomes → text_from 1 (outcomes ++ o ∷ []) ≡ text_from 1 outcomes ++ text_at number o
      said_more next = text_more 1 outcomes o ∙ ap (λ k. text_from 1 outcomes ++ text_at k o) (sym next)

      by : unread ⊎ InStep before outcomes first last c.moved → unread ⊎ InStep before (outcomes ++ o ∷ []) first last (c.moved ++ p.moved)
      by (inl un) = inl un
      by (inr step) = inr (step_more before outcomes o first last c.moved p.moved step)

  -- ** the ends of a run

  abbrev pub Told : S → List ℕ → List (List ℕ) → ℕ → Bool → Type 0 → Option (List ℕ) → Option (List ℕ) → ℕ → ℕ → Sent → Sent → S → Type 0
  Told old before lines status torn unread first last reads reads_after taken new now =
      (text : List ℕ) × EventFileRun replies forgotten old before lines status torn unread first last text now × Sends reads reads_after taken new text

  -- the writer failed while an outcome was said
  pub told_torn : {old now then : S} {before : List ℕ} {number status : ℕ} {unread : Type 0} {first last : Option (List ℕ)} {reads reads_after : ℕ} {taken mid new : Sent} {held : List ℕ} {done : List (List ℕ)} {outcomes : List Outcome}
      (lines left : List (List ℕ)) (line : List ℕ) (o : Outcome) (torn : Bool) → torn ≡ true → Came replies forgotten old before now number status false unread first last reads reads_after taken mid 0 held done outcomes
      → LineComesTo replies now number line o then → Tears mid held new (text_at number o) → lines ≡ (done ++ line ∷ []) ++ left → Told old before lines 4 torn unread first last reads reads_after taken new (forgotten then)
  told_torn {old} {now} {then} {before} {number} {status} {unread} {first} {last} {reads} {reads_after} {taken} {mid} {new} {held} {done} {outcomes} lines left line o torn failed c comes p is = (
    c.moved ++ p.moved,
    record {
      outcomes = outcomes ++ o ∷ [];
      told = subst (λ ls. LinesComeTo replies forgotten old 1 ls (outcomes ++ o ∷ []) (forgotten then)) (sym is)
          (come_longer 1 (done ++ line ∷ []) left (outcomes ++ o ∷ []) old (forgotten then) (come_more 1 done outcomes old now then line o c.counts c.over c.told (subst (λ k. LineComesTo replies now k line o then) c.next comes)));
      broke = λ _. record {
        more = p.lost;
        whole = ap (λ t. before ++ t) (text_more 1 outcomes o ∙ ap (λ k. text_from 1 outcomes ++ text_at k o) (sym c.next))
            ∙ joined_moves before (text_from 1 outcomes) (text_at number o) c.moved held p.moved p.lost c.writes p.whole;
      };
      whole = λ fine. cc (failed, fine);
      over = λ ne. absurd (ne refl);
      answer = λ ne. absurd (ne refl);
      order = by c.order;
      heard = λ _ fine. cc (failed, fine);
    },
    record {
      appends = Appends-trans taken.bytes mid.bytes new.bytes c.moved p.moved c.appends p.appends;
      few = let n = length-append c.moved p.moved in few_writes reads reads_after taken.writes new.writes (length (c.moved ++ p.moved)) c.later (omega (arith, c.few, p.full, n));
    },
  )
    where
      by : unread ⊎ InStep before outcomes first last c.moved → unread ⊎ InStep before (outcomes ++ o ∷ []) first last (c.moved ++ p.moved)
      by (inl un) = inl un
      by (inr step) = inr (step_more before outcomes o first last c.moved p.moved step)

  -- a device failed before the next line was found
  pub told_cut : {old now : S} {before : List ℕ} {number status : ℕ} {unread : Type 0} {first last : Option (List ℕ)} {reads reads_after : ℕ} {taken new : Sent} {held : List ℕ} {done : List (List ℕ)} {outcomes : List Outcome}
      (lines left : List (List ℕ)) (torn : Bool) → Came replies forgotten old before now number status false unread first last reads reads_after taken new 1 held done outcomes → (torn ≡ false → held ≡ [])
      → (torn ≡ false → WhereKnown first last (λ xs zs. AllTold outcomes xs zs)) → lines ≡ done ++ left → Told old before lines 4 torn unread first last reads reads_after taken new now
  told_cut {old} {now} {before} {reads = reads} {reads_after = reads_after} {taken = taken} {new = new} {done = done} {outcomes = outcomes} lines left torn c none heard is = (
    c.moved,
    record {
      outcomes = outcomes;
      told = subst (λ ls. LinesComeTo replies forgotten old 1 ls outcomes now) (sym is) (come_longer 1 done left outcomes old now c.told);
      broke = λ _. record { more = _; whole = c.writes };
      whole = λ fine. sym (c.writes ∙ ap (λ t. c.moved ++ t) (none fine) ∙ append-nil c.moved);
      over = λ ne. absurd (ne refl);
      answer = λ ne. absurd (ne refl);
      order = c.order;
      heard = λ _ fine. heard fine;
    },
    record { appends = c.appends; few = few_writes reads reads_after taken.writes new.writes (length c.moved) c.later c.few },
  )

  -- the run came to its end, and what is held is written
  pub told_whole : {old now : S} {before : List ℕ} {number status : ℕ} {ended : Bool} {unread : Type 0} {first last : Option (List ℕ)} {reads reads_after : ℕ} {taken mid new : Sent} {held : List ℕ} {done : List (List ℕ)} {outcomes : List Outcome}
      (lines left : List (List ℕ)) (answer : ℕ) (torn : Bool) → Came replies forgotten old before now number status ended unread first last reads reads_after taken mid 0 held done outcomes → status ≢ 4
      → Finishes status answer torn mid held new → lines ≡ done ++ left → IsOver lines outcomes → Told old before lines answer torn unread first last reads reads_after taken new now
  told_whole {old} {now} {before} {number} {status} {ended} {unread} {first} {last} {reads} {reads_after} {taken} {mid} {new} {held} {done} {outcomes} lines left answer false c fine f is over =
      let whole = f.whole refl in (
        c.moved ++ held,
        record {
          outcomes = outcomes;
          told = subst (λ ls. LinesComeTo replies forgotten old 1 ls outcomes now) (sym is) (come_longer 1 done left outcomes old now c.told);
          broke = λ torn. cc torn;
          whole = λ _. sym c.writes;
          over = λ _. over;
          answer = λ _. whole.0 ∙ c.answers;
          order = by c.order;
          heard = λ four _. absurd (fine (sym whole.0 ∙ four));
        },
        record {
          appends = Appends-trans taken.bytes mid.bytes new.bytes c.moved held c.appends whole.1;
          few = let n = length-append c.moved held in few_writes reads reads_after taken.writes new.writes (length (c.moved ++ held)) c.later (omega (arith, c.few, f.once, n));
        },
      )
    where
      by : unread ⊎ InStep before outcomes first last c.moved → unread ⊎ InStep before outcomes first last (c.moved ++ held)
      by (inl un) = inl un
      by (inr step) = inr (step_on before outcomes first last last c.moved held refl step)
  told_whole {old} {now} {before} {number} {status} {ended} {unread} {first} {last} {reads} {reads_after} {taken} {mid} {new} {held} {done} {outcomes} lines left answer true c fine f is over =
      let part = f.part refl in (
        c.moved ++ part.1.part,
        record {
          outcomes = outcomes;
          told = subst (λ ls. LinesComeTo replies forgotten old 1 ls outcomes now) (sym is) (come_longer 1 done left outcomes old now c.told);
          broke = λ _. record { more = part.1.more; whole = c.writes ∙ ap (λ t. c.moved ++ t) part.1.split ∙ sym (append_assoc c.moved part.1.part part.1.more) };
          whole = λ whole. cc whole;
          over = λ ne. absurd (ne part.0);
          answer = λ ne. absurd (ne part.0);
          order = by c.order;
          heard = λ _ whole. cc whole;
        },
        record {
          appends = Appends-trans taken.bytes mid.bytes new.bytes c.moved part.1.part c.appends part.1.appends;
          few = let n = length-append c.moved part.1.part in few_writes reads reads_after taken.writes new.writes (length (c.moved ++ part.1.part)) c.later (omega (arith, c.few, f.once, n));
        },
      )
    where
      by : unread ⊎ InStep before outcomes first last c.moved → unread ⊎ InStep before outcomes first last (c.moved ++ (f.part refl).1.part)
      by (inl un) = inl un
      by (inr step) = inr (step_on before outcomes first last last c.moved (f.part refl).1.part refl step)

pub known_here : (a : Option (List ℕ)) (P : List ℕ → List ℕ → Type 0) → ((xs : List ℕ) → P xs xs) → WhereKnown a a P
known_here None P h = tt
known_here (Some xs) P h = h xs

-- the reader failed only once nothing was held
pub held_none : {U : Type 0} {held : List ℕ} (reader writer : Bool) → (reader || writer) ≡ true → (U → reader ≡ false) → U ⊎ (held ≡ []) → writer ≡ false → held ≡ []
held_none reader writer failed works (inr none) fine = none
held_none reader writer failed works (inl u) fine = let r = works u in cc (r, fine, failed)

pub lines_so_far : (done : List (List ℕ)) (found : Found) (line xs ys zs : List ℕ) → IsAt done xs ys → IsFirst found line ys zs → (left : List (List ℕ)) × (lines_of xs ≡ (done ++ line ∷ []) ++ left)
lines_so_far done found line xs ys zs h f = (f.rest, h.lines ∙ ap (λ ls. done ++ ls) f.first ∙ sym (append_assoc done (line ∷ []) f.rest))

pub lines_left : (done : List (List ℕ)) (xs ys : List ℕ) → IsAt done xs ys → (left : List (List ℕ)) × (lines_of xs ≡ done ++ left)
lines_left done xs ys h = (lines_of ys, h.lines)

pub lines_all : (done : List (List ℕ)) (xs ys : List ℕ) → IsAt done xs ys → ys ≡ [] → lines_of xs ≡ done
lines_all done xs ys h e = h.lines ∙ ap (λ zs. done ++ lines_of zs) e ∙ append-nil done

pub status_is_no_fault : (status : ℕ) (o : Outcome) → status ≢ 4 → status_after status o ≢ 4
status_is_no_fault status (said lines) h = h
status_is_no_fault status (refused refusal) h = λ e. absurd (omega arith)
status_is_no_fault status (cut_off refusal) h = λ e. absurd (omega arith)
status_is_no_fault status (stopped lines) h = λ e. absurd (omega arith)

-- the lines that were said since
pub said_since : {X : Type 0} (f : X → List ℕ) (before after : List X) (now new : List (List ℕ)) → map f before ≡ now → map f after ≡ new
    → map f (take (length after - length before) (drop (length before) after)) ≡ drop (length now) new
said_since f before after now new h k =
    let n : length before ≡ length now = sym (length-map before f) ∙ ap length h in
    ap (map f) (take_rest after (length before)) ∙ sym (drop-map f (length before) after) ∙ ap (drop (length before)) k ∙ ap (λ i. drop i new) n
