-- Pairs by number, one in front of the other.
use Rattle.std.proofs.Common.{◌≡◌, ◌∙◌, refl, sym, ap, ℕ, zero, suc, ◌<◌, Bool, true, false, cond, List, [], ◌∷◌, length, slice_set, Option, None, Some, slice_get, arith}
use Rattle.std.specs.Prelude.{is_some, option_and_then}
use Rattle.std.proofs.Math.ListN.{length-set}
use Rattle.std.proofs.lemmas.Option.{same_Some, slice_get_within}
use Rattle.ui_machine.specs.Seq.{listed}
use Rattle.law_typing.specs.Graph.Channels.{Channel, same_channel}
use Rattle.law_typing.specs.Graph.Costs.{other_end_in}
use Rattle.law_typing.specs.Graph.Ranks.{node_in}
use Rattle.law_typing.proofs.Lists.{same_channel_refl, same_channel_true}
use Rattle.verify_graph.specs.Numbers.{IsOnce, number_of}
use Rattle.verify_graph.specs.Paired.{ArePaired, HaveNumbers, other_number}
use Rattle.verify_graph.proofs.Positions.{found_is, number_is}
use Rattle.verify_graph.proofs.Prefixes.{listed_get, listed_length}

-- ** lists that are written

pub set_here : {A : Type 0} → (xs : List A) (n : ℕ) (x : A) → n < length xs → slice_get (slice_set xs n x) n ≡ Some x
set_here [] n x within = absurd (omega (arith, within))
set_here (y ∷ ys) zero x within = refl
set_here (y ∷ ys) (suc n) x within = set_here ys n x (omega (arith, within))

pub set_there : {A : Type 0} → (xs : List A) (n m : ℕ) (x : A) → (n ≡ m → ⊥) → slice_get (slice_set xs n x) m ≡ slice_get xs m
set_there [] n m x apart = refl
set_there (y ∷ ys) zero zero x apart = absurd (apart refl)
set_there (y ∷ ys) zero (suc m) x apart = refl
set_there (y ∷ ys) (suc n) zero x apart = refl
set_there (y ∷ ys) (suc n) (suc m) x apart = set_there ys n m x (λ e. apart (ap suc e))

-- ** no pairs

pub none_paired : (all : List Channel) (count : ℕ) → IsOnce all → count ≡ length all → ArePaired all [] (listed (λ n. n) count) (listed (λ n. None) count)
none_paired all count once is = record {
  firsts_length = listed_length (λ n. n) count ∙ is;
  others_length = listed_length (λ n. None) count ∙ is;
  first = λ there n c at. sym (number_is all once c n at) ∙ sym (listed_get (λ k. k) count n (let low = slice_get_within all n c at in omega (arith, low, is)));
  other = λ there n c at. listed_get (λ k. None) count n (let low = slice_get_within all n c at in omega (arith, low, is));
}

-- ** one more pair

-- a channel that is another has its number
number_same : (all : List Channel) → IsOnce all → (c e : Channel) (n m : ℕ) → number_of all e ≡ Some m → slice_get all n ≡ Some c → same_channel e c ≡ true → m ≡ n
number_same all once c e n m number is same =
    let s = same_channel_true e c same in
    once m n c (found_is all e m number ∙ ap Some s) is

number_apart : (all : List Channel) (c e : Channel) (n m : ℕ) → number_of all e ≡ Some m → slice_get all n ≡ Some c → same_channel e c ≡ false → m ≡ n → ⊥
number_apart all c e n m number is same at =
    let s : e ≡ c = same_Some _ _ (sym (found_is all e m number) ∙ (ap (slice_get all) at ∙ is)) in
    let r = same_channel_refl c in
    let t = ap (λ x. same_channel x c) s in
    cc

module _ (all : List Channel) (once : IsOnce all) (p : Channel × Channel) (ps : List (Channel × Channel)) (firsts : List ℕ) (others : List (Option ℕ)) (a b : ℕ)
    (is_first : number_of all p.0 ≡ Some a) (is_second : number_of all p.1 ≡ Some b) (later : ArePaired all ps firsts others) where
  a_within : a < length all
  a_within = slice_get_within all a p.0 (found_is all p.0 a is_first)

  b_within : b < length all
  b_within = slice_get_within all b p.1 (found_is all p.1 b is_second)

  first : HaveNumbers all (p ∷ ps) → (n : ℕ) (c : Channel) → slice_get all n ≡ Some c → number_of all (node_in (p ∷ ps) c) ≡ slice_get (slice_set firsts b a) n
  first there n c is = by (same_channel p.1 c) refl
    where
      by : (same : Bool) → same_channel p.1 c ≡ same → number_of all (cond same p.0 (node_in ps c)) ≡ slice_get (slice_set firsts b a) n
      by true same =
          let e = number_same all once c p.1 n b is_second is same in
          let low = b_within in
          let len = later.firsts_length in
          is_first ∙ (sym (set_here firsts b a (omega (arith, low, len))) ∙ ap (slice_get (slice_set firsts b a)) e)
      by false same = later.first there.2 n c is ∙ sym (set_there firsts b n a (number_apart all c p.1 n b is_second is same))

  other : HaveNumbers all (p ∷ ps) → (n : ℕ) (c : Channel) → slice_get all n ≡ Some c →
      slice_get (slice_set (slice_set others b (Some a)) a (Some b)) n ≡ Some (other_number all (p ∷ ps) c)
  other there n c is = by (same_channel p.0 c) (same_channel p.1 c) refl refl
    where
      by : (x y : Bool) → same_channel p.0 c ≡ x → same_channel p.1 c ≡ y →
          slice_get (slice_set (slice_set others b (Some a)) a (Some b)) n ≡ Some (option_and_then (number_of all) (cond x (Some p.1) (cond y (Some p.0) (other_end_in ps c))))
      by true y same other =
          let e = number_same all once c p.0 n a is_first is same in
          let low = a_within in
          let len = later.others_length in
          let room = length-set others b (Some a) in
          sym (ap (slice_get (slice_set (slice_set others b (Some a)) a (Some b))) e) ∙ (set_here (slice_set others b (Some a)) a (Some b) (omega (arith, low, len, room)) ∙ ap Some (sym is_second))
      by false true same other =
          let e = number_same all once c p.1 n b is_second is other in
          let low = b_within in
          let len = later.others_length in
          set_there (slice_set others b (Some a)) a n (Some b) (number_apart all c p.0 n a is_first is same)
          ∙ (sym (ap (slice_get (slice_set others b (Some a))) e) ∙ (set_here others b (Some a) (omega (arith, low, len)) ∙ ap Some (sym is_first)))
      by false false same other =
          set_there (slice_set others b (Some a)) a n (Some b) (number_apart all c p.0 n a is_first is same)
          ∙ (set_there others b n (Some a) (number_apart all c p.1 n b is_second is other) ∙ later.other there.2 n c is)

  pub one_paired : ArePaired all (p ∷ ps) (slice_set firsts b a) (slice_set (slice_set others b (Some a)) a (Some b))
  one_paired = record {
    firsts_length = length-set firsts b a ∙ later.firsts_length;
    others_length = length-set (slice_set others b (Some a)) a (Some b) ∙ (length-set others b (Some a) ∙ later.others_length);
    first = first;
    other = other;
  }

-- an end that is no channel is the end of no such pairs
pub no_first : (all : List Channel) (p : Channel × Channel) (ps : List (Channel × Channel)) (firsts : List ℕ) (others : List (Option ℕ)) →
    None ≡ number_of all p.0 → ArePaired all ps firsts others → ArePaired all (p ∷ ps) firsts others
no_first all p ps firsts others none later = record {
  firsts_length = later.firsts_length;
  others_length = later.others_length;
  first = λ there. absurd (let t = there.0 in let e = ap is_some none in cc);
  other = λ there. absurd (let t = there.0 in let e = ap is_some none in cc);
}

pub no_second : (all : List Channel) (p : Channel × Channel) (ps : List (Channel × Channel)) (firsts : List ℕ) (others : List (Option ℕ)) →
    None ≡ number_of all p.1 → ArePaired all ps firsts others → ArePaired all (p ∷ ps) firsts others
no_second all p ps firsts others none later = record {
  firsts_length = later.firsts_length;
  others_length = later.others_length;
  first = λ there. absurd (let t = there.1 in let e = ap is_some none in cc);
  other = λ there. absurd (let t = there.1 in let e = ap is_some none in cc);
}
