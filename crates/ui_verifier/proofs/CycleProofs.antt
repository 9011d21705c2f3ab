-- A cycle that is turned to its first channel in the report.
use Rattle.std.proofs.Common.{◌≡◌, refl, sym, ap, subst, ◌∙◌, ℕ, zero, suc, ◌+◌, ◌<◌, ◌≤◌, Bool, true, false, cond, nat_lt, List, [], ◌∷◌, ◌++◌, length, drop, take, get_or, map, Some, None, option_map, slice_get, arith}
use Rattle.std.specs.Prelude.{not, ◌&&◌}
use Rattle.std.specs.List.{list_all}
use Rattle.std.proofs.lemmas.Bool.{le-ltb}
use Rattle.std.proofs.lemmas.List.{take-append-drop, map-append}
use Rattle.std.proofs.lemmas.List.Folds.{list_all-append}
use Rattle.std.proofs.lemmas.Option.{get_or_from_slice_get, none-some, same_Some, slice_get-map}
use Rattle.law_typing.specs.Graph.{Graph, Raised}
use Rattle.law_typing.specs.Graph.Channels.{Channel, Link, same_channel}
use Rattle.law_typing.specs.Verdict.Judges.{IsToldCycle, begins_first, line_of}
use Rattle.law_judging.specs.Cycles.{turned}
use Rattle.law_judging.proofs.TurnProofs.{turned_is_cycle, turned_is_once}
use Rattle.verify_graph.specs.ChannelView.{channel_of}
use Rattle.verify_graph.specs.Numbers.{number_from}
use Rattle.verify_sketches.specs.Sketches.{channels_in}
use Rattle.verify_numbers.specs.Reckonings.{IsCycleOnce}
use Rattle.verify_numbers.proofs.Lists.{mapped_length}
use Rattle.ui_verifier.specs.Cycles.{IsFirst, line_among, lines}
use Rattle.ui_verifier.specs.Verdicts.{link_view}
use Rattle.ui_verifier.specs.declared.faults.CycleLink.{CycleLink}

-- ** lines

-- a channel's number among others is its line
pub line_is : (n : ℕ) (cs : List Channel) (c : Channel) (m : ℕ) → number_from n cs c ≡ Some m → m ≡ n + line_among cs c
line_is n [] c m is = absurd (none-some m is)
line_is n (e ∷ es) c m is = by (same_channel e c) is (line_is (suc n) es c m)
  where
    by : (b : Bool) → cond b (Some n) (number_from (suc n) es c) ≡ Some m → (number_from (suc n) es c ≡ Some m → m ≡ suc n + line_among es c) →
        m ≡ n + cond b 0 (suc (line_among es c))
    by true e rest = let q = same_Some n m e in omega (arith, q)
    by false e rest = let q = rest e in omega (arith, q)

pub no_line : (n : ℕ) (cs : List Channel) (c : Channel) → number_from n cs c ≡ None → line_among cs c ≡ length cs
no_line n [] c is = refl
no_line n (e ∷ es) c is = by (same_channel e c) is (no_line (suc n) es c)
  where
    by : (b : Bool) → cond b (Some n) (number_from (suc n) es c) ≡ None → (number_from (suc n) es c ≡ None → line_among es c ≡ length es) →
        cond b 0 (suc (line_among es c)) ≡ suc (length es)
    by true e rest = absurd (none-some n (sym e))
    by false e rest = ap suc (rest e)

raised_line : (rs : List Raised) (c : Channel) → line_of rs c ≡ line_among (map (λ (r : Raised). r.channel) rs) c
raised_line [] c = refl
raised_line (r ∷ rs) c = ap (λ n. cond (same_channel r.channel c) 0 (suc n)) (raised_line rs c)

-- ** lists

joined : {A : Type 0} (xs ys zs : List A) → (xs ++ ys) ++ zs ≡ xs ++ (ys ++ zs)
joined [] ys zs = refl
joined (x ∷ xs) ys zs = ap (λ l. x ∷ l) (joined xs ys zs)

turned_joined : (xs ys : List Link) → turned (length xs) (xs ++ ys) ≡ ys ++ xs
turned_joined [] ys = sym (append_none ys)
  where
    append_none : (zs : List Link) → zs ++ [] ≡ zs
    append_none [] = refl
    append_none (z ∷ zs) = ap (λ l. z ∷ l) (append_none zs)
turned_joined (x ∷ xs) ys =
    ap (turned (length xs)) (joined xs ys (x ∷ []))
    ∙ (turned_joined xs (ys ++ x ∷ []) ∙ joined ys (x ∷ []) xs)

pub turned_parts : (n : ℕ) (ls : List CycleLink) →
    map link_view (drop n ls ++ take n ls) ≡ turned (length (map link_view (take n ls))) (map link_view ls)
turned_parts n ls =
    map-append link_view (drop n ls) (take n ls)
    ∙ (sym (turned_joined (map link_view (take n ls)) (map link_view (drop n ls)))
    ∙ ap (turned (length (map link_view (take n ls)))) (sym (map-append link_view (take n ls) (drop n ls)) ∙ ap (map link_view) (take-append-drop n ls)))

module _ {A : Type 0} (test : A → Bool) where
  all_of : (xs : List A) → ((k : ℕ) (x : A) → slice_get xs k ≡ Some x → test x ≡ true) → list_all test xs ≡ true
  all_of [] each = refl
  all_of (x ∷ xs) each = ap (λ b. b && list_all test xs) (each 0 x refl) ∙ all_of xs (λ k y is. each (suc k) y is)

  all_dropped : (n : ℕ) (xs : List A) → ((k : ℕ) (x : A) → slice_get xs k ≡ Some x → test x ≡ true) → list_all test (drop n xs) ≡ true
  all_dropped zero xs each = all_of xs each
  all_dropped (suc n) [] each = refl
  all_dropped (suc n) (x ∷ xs) each = all_dropped n xs (λ k y is. each (suc k) y is)

  all_taken : (n : ℕ) (xs : List A) → ((k : ℕ) (x : A) → slice_get xs k ≡ Some x → test x ≡ true) → list_all test (take n xs) ≡ true
  all_taken zero xs each = refl
  all_taken (suc n) [] each = refl
  all_taken (suc n) (x ∷ xs) each = ap (λ b. b && list_all test (take n xs)) (each 0 x refl) ∙ all_taken n xs (λ k y is. each (suc k) y is)

  both_pass : (n m : ℕ) (xs : List A) → ((k : ℕ) (x : A) → slice_get xs k ≡ Some x → test x ≡ true) →
      list_all test (drop n xs ++ take m xs) ≡ true
  both_pass n m xs each =
      list_all-append test (drop n xs) (take m xs)
      ∙ (ap (λ b. b && list_all test (take m xs)) (all_dropped n xs each) ∙ all_taken m xs each)

mapped_all : (test : Link → Bool) (ls : List CycleLink) → list_all test (map link_view ls) ≡ list_all (λ (l : CycleLink). test (link_view l)) ls
mapped_all test [] = refl
mapped_all test (l ∷ ls) = ap (λ b. test (link_view l) && b) (mapped_all test ls)

-- the one at a number begins what is from there on
begun : {A : Type 0} (xs : List A) (n : ℕ) → n < length xs → (x : A) × (slice_get xs n ≡ Some x) × (drop n xs ≡ x ∷ drop (suc n) xs)
begun [] n low = absurd (omega (arith, low))
begun (x ∷ xs) zero low = (x, refl, refl)
begun (x ∷ xs) (suc n) low = let more = begun xs n (omega (arith, low)) in (more.0, more.1, more.2)

-- ** the first channel

line_at : (cs : List Channel) (ls : List CycleLink) (k : ℕ) (l : CycleLink) → slice_get ls k ≡ Some l →
    slice_get (lines cs ls) k ≡ Some (line_among cs (channel_of l.from))
line_at cs ls k l is =
    slice_get-map (λ (l : CycleLink). line_among cs (channel_of l.from)) ls k ∙ ap (option_map (λ (l : CycleLink). line_among cs (channel_of l.from))) is

pub begins : (g : Graph) (cs : List Channel) (ls : List CycleLink) (n : ℕ) → cs ≡ channels_in g → IsFirst (lines cs ls) n →
    begins_first g (map link_view (drop n ls ++ take n ls)) ≡ true
begins g cs [] zero known first = refl
begins g cs [] (suc n) known first = refl
begins g cs (l ∷ ls) n known first =
    let some = first.least 0 (line_among cs (channel_of l.from)) refl in
    let low : n < length (l ∷ ls) = subst (λ k. n < k) (mapped_length (λ (l : CycleLink). line_among cs (channel_of l.from)) (l ∷ ls)) some.0 in
    let head = begun (l ∷ ls) n low in
    let x = head.0 in
    let at = line_at cs (l ∷ ls) n x head.1 in
    let test = λ (m : Link). not (nat_lt (line_of g.raised m.from) (line_of g.raised (channel_of x.from))) in
    let same : (c : Channel) → line_among cs c ≡ line_of g.raised c = λ c. ap (λ es. line_among es c) known ∙ sym (raised_line g.raised c) in
    let each : (k : ℕ) (z : CycleLink) → slice_get (l ∷ ls) k ≡ Some z → test (link_view z) ≡ true = λ k z is.
    (let low = (first.least k (line_among cs (channel_of z.from)) (line_at cs (l ∷ ls) k z is)).1 in
    let v = get_or_from_slice_get (lines cs (l ∷ ls)) n (line_among cs (channel_of x.from)) 0 at in
    let least = subst (λ a. a ≤ line_of g.raised (channel_of z.from)) (v ∙ same (channel_of x.from)) (subst (λ b. get_or (lines cs (l ∷ ls)) n 0 ≤ b) (same (channel_of z.from)) low) in
    ap not (le-ltb (line_of g.raised (channel_of z.from)) (line_of g.raised (channel_of x.from)) least)) in
    ap (λ xs. begins_first g (map link_view (xs ++ take n (l ∷ ls)))) head.2
    ∙ (mapped_all test (drop (suc n) (l ∷ ls) ++ take n (l ∷ ls))
    ∙ both_pass (λ (z : CycleLink). test (link_view z)) (suc n) n (l ∷ ls) each)

-- a cycle from its first channel
pub told : (g : Graph) (cs : List Channel) (ls : List CycleLink) (links : List Link) (n : ℕ) → cs ≡ channels_in g → map link_view ls ≡ links →
    IsFirst (lines cs ls) n → IsCycleOnce g links → IsToldCycle g (map link_view (drop n ls ++ take n ls))
told g cs ls links n known same first once =
    let k = length (map link_view (take n ls)) in
    let e : map link_view (drop n ls ++ take n ls) ≡ turned k links = turned_parts n ls ∙ ap (turned k) same in
    subst (λ xs. begins_first g xs ≡ true → IsToldCycle g xs) (sym e)
    (λ begun. record { cycle = turned_is_cycle g k links once.cycle; first = begun; once = turned_is_once k links once.once })
    (begins g cs ls n known first)
