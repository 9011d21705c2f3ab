-- Texts that are written piece by piece.
use Rattle.std.proofs.Common.{◌≡◌, refl, sym, ap, subst, ◌∙◌, ℕ, zero, suc, ◌+◌, ◌-◌, ◌≤◌, List, [], ◌∷◌, ◌++◌}
use Rattle.std.proofs.Common.{length, take, drop, Option, Some, slice_get, Result, Ok, Err, append_assoc, codes, arith}
use Rattle.std.specs.Io.KnownBytes.{Appends, Keeps}
use Rattle.std.proofs.KnownBytes.{Appends-nil, Appends-trans, Appends-kept}
use Rattle.std.proofs.lemmas.List.{take_all, take-append-drop, take_rest}
use Rattle.std.proofs.lemmas.Option.{same_Some}
use Rattle.std.proofs.lemmas.List.Concat.{flat_map-append}
use Rattle.std.proofs.Math.Seq.{take-add}
use Rattle.verified.specs.Writing.{AppendsLines, AppendsPart, Reports, Stops, lines_text}
use Rattle.verified.specs.declared.faults.ReportFault.{ReportFault}
use Rattle.verified.specs.declared.faults.ReportFault.TheVariants as faults

-- ** bytes

-- nothing of the rest came
pub stops_before : (a b c : Option (List ℕ)) (n : ℕ) (text : List ℕ) → Appends a b (take n text) → Keeps b c → AppendsPart a c text
stops_before a b c n text h k = record {
  part = take n text;
  more = drop n text;
  split = sym (take-append-drop n text);
  appends = Appends-kept a b c _ h k;
}

-- one more write of what is left of a text
pub goes_on : (a b c : Option (List ℕ)) (text : List ℕ) (done n : ℕ) → Appends a b (take done text)
    → Appends b c (take n (take (length text - done) (drop done text))) → Appends a c (take (done + n) text)
goes_on a b c text done n h k =
    let k' : Appends b c (take n (drop done text)) = rw (sym (take_rest text done)) k in
    rw (take-add done n text) (Appends-trans a b c _ _ h k')

-- ** lines

more : (n : ℕ) → suc n + 1 ≡ suc (n + 1)
more n = omega arith

-- no memory was found before anything came
pub none_came : (a : Option (List ℕ)) (lines : List (List ℕ)) → AppendsLines a a lines
none_came a lines = record { first = []; more = lines; split = refl; appends = Appends-nil a }

-- the text of some lines and more
joined : (xs ys : List (List ℕ)) → lines_text (xs ++ ys) ≡ lines_text xs ++ lines_text ys
joined xs ys = flat_map-append (λ line. line ++ codes "\n") xs ys

-- the same lines, said otherwise
pub same_came : (a b : Option (List ℕ)) (xs ys : List (List ℕ)) → xs ≡ ys → Appends a b (lines_text xs) → Appends a b (lines_text ys)
same_came a b xs ys same h = subst (λ ls. Appends a b (lines_text ls)) same h

-- some lines came, and then more
pub more_came : (a b c : Option (List ℕ)) (xs ys : List (List ℕ)) → Appends a b (lines_text xs) → Appends b c (lines_text ys) →
    Appends a c (lines_text (xs ++ ys))
more_came a b c xs ys h k = subst (Appends a c) (sym (joined xs ys)) (Appends-trans a b c (lines_text xs) (lines_text ys) h k)

-- some lines came, and not all of those after them
pub stops_after : (e : ReportFault) (a b c : Option (List ℕ)) (xs ys : List (List ℕ)) → Appends a b (lines_text xs) → Stops e b c ys →
    Stops e a c (xs ++ ys)
stops_after faults.WriteFault a b c xs ys h k = record {
  part = lines_text xs ++ k.part;
  more = k.more;
  split = joined xs ys ∙ (ap (λ t. lines_text xs ++ t) k.split ∙ sym (append_assoc (lines_text xs) k.part k.more));
  appends = Appends-trans a b c (lines_text xs) k.part h k.appends;
}
stops_after faults.OutOfMemory a b c xs ys h k = record {
  first = xs ++ k.first;
  more = k.more;
  split = ap (λ ls. xs ++ ls) k.split ∙ sym (append_assoc xs k.first k.more);
  appends = more_came a b c xs k.first h k.appends;
}

pub reports_after : {T : Type 0} (r : Result T ReportFault) (a b c : Option (List ℕ)) (xs ys : List (List ℕ)) →
    Appends a b (lines_text xs) → Reports r b c ys → Reports r a c (xs ++ ys)
reports_after (Ok _) a b c xs ys h k = more_came a b c xs ys h k
reports_after (Err e) a b c xs ys h k = stops_after e a b c xs ys h k

-- not all of some lines came, and so not all of more
pub stops_early : (e : ReportFault) (a b : Option (List ℕ)) (xs ys : List (List ℕ)) → Stops e a b xs → Stops e a b (xs ++ ys)
stops_early faults.WriteFault a b xs ys k = record {
  part = k.part;
  more = k.more ++ lines_text ys;
  split = joined xs ys ∙ (ap (λ t. t ++ lines_text ys) k.split ∙ append_assoc k.part k.more (lines_text ys));
  appends = k.appends;
}
stops_early faults.OutOfMemory a b xs ys k = record {
  first = k.first;
  more = k.more ++ ys;
  split = ap (λ ls. ls ++ ys) k.split ∙ append_assoc k.first k.more ys;
  appends = k.appends;
}

-- ** line by line

-- the line of a number, behind those before it and in front of those after it
split_at : (lines : List (List ℕ)) (n : ℕ) (line : List ℕ) → slice_get lines n ≡ Some line →
    lines ≡ (take n lines ++ line ∷ []) ++ drop (n + 1) lines
split_at [] n line at = absurd (cc)
split_at (l ∷ lines) zero line at = let same : l ≡ line = same_Some l line at in ap (λ x. x ∷ lines) same
split_at (l ∷ lines) (suc n) line at =
    ap (λ xs. l ∷ xs) (split_at lines n line at)
    ∙ ap (λ k. (l ∷ take n lines ++ line ∷ []) ++ drop k (l ∷ lines)) (sym (more n))

next_taken : (lines : List (List ℕ)) (n : ℕ) (line : List ℕ) → slice_get lines n ≡ Some line →
    take (n + 1) lines ≡ take n lines ++ line ∷ []
next_taken [] n line at = absurd (cc)
next_taken (l ∷ lines) zero line at = let same : l ≡ line = same_Some l line at in ap (λ x. x ∷ []) same
next_taken (l ∷ lines) (suc n) line at = ap (λ k. take k (l ∷ lines)) (more n) ∙ ap (λ xs. l ∷ xs) (next_taken lines n line at)

module _ (a b : Option (List ℕ)) (lines : List (List ℕ)) (n : ℕ) (before : Appends a b (lines_text (take n lines))) where
  -- no memory was found for the next line
  pub stops_before_line : Stops faults.OutOfMemory a b lines
  stops_before_line = record { first = take n lines; more = drop n lines; split = sym (take-append-drop n lines); appends = before }

  -- all came
  pub all_came : length lines ≤ n → Appends a b (lines_text lines)
  all_came past = subst (λ ls. Appends a b (lines_text ls)) (take_all n lines past) before

  module _ (c : Option (List ℕ)) (line : List ℕ) (at : slice_get lines n ≡ Some line) where
    -- the next line came
    pub line_came : Appends b c (lines_text (line ∷ [])) → Appends a c (lines_text (take (n + 1) lines))
    line_came h =
        let here = more_came a b c (take n lines) (line ∷ []) before h in
        subst (λ ls. Appends a c (lines_text ls)) (sym (next_taken lines n line at)) here

    -- the next line did not come whole
    pub stops_in_line : (e : ReportFault) → Stops e b c (line ∷ []) → Stops e a c lines
    stops_in_line e h =
        let here = stops_after e a b c (take n lines) (line ∷ []) before h in
        subst (Stops e a c) (sym (split_at lines n line at)) (stops_early e a c (take n lines ++ line ∷ []) (drop (n + 1) lines) here)

-- ** answers

-- what an early return says
pub stopped : {T : Type 0} (r : Result T ReportFault) (y e : ReportFault) (a b : Option (List ℕ)) (lines : List (List ℕ)) → r ≡ Err y →
    y ≡ e → Stops e a b lines → Reports r a b lines
stopped {T} r y e a b lines is same h =
    subst (λ (x : Result T ReportFault). Reports x a b lines) (sym is) (subst (λ (x : ReportFault). Stops x a b lines) (sym same) h)
