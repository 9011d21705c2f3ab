-- The one of a number in lists that follow each other.
use Rattle.std.proofs.Common.{◌≡◌, ◌≤◌, ◌<◌, refl, ap, sym, ◌∙◌, arith, ℕ, zero, suc, ◌+◌, Bor, List, [], ◌∷◌, ◌++◌, drop, get_or, length, Option, None, Some, String, Global, option_map, string_bytes}
use Rattle.std.specs.Prelude.{slice_get}
use Rattle.std.specs.List.{flat_map}
use Rattle.std.proofs.lemmas.List.{length-append}
use Rattle.std.proofs.lemmas.Option.{slice_get-map}
use Rattle.definition_format.specs.Meaning.{name_bytes}
use Rattle.named_peers.specs.NamedPeers.{with_shape}

module _ {X : Type 0} where
  -- what the first list has, both have
  pub in_first : (xs ys : List X) (n : ℕ) (x : X) → slice_get xs n ≡ Some x → slice_get (xs ++ ys) n ≡ Some x
  in_first [] ys n x at = absurd (cc at)
  in_first (y ∷ xs) ys zero x at = at
  in_first (y ∷ xs) ys (suc n) x at = in_first xs ys n x at

  -- past the first list, it is the second's
  pub in_second : (xs ys : List X) (n k : ℕ) → k ≡ length xs + n → slice_get (xs ++ ys) k ≡ slice_get ys n
  in_second [] ys n k is = let same : k ≡ n = omega (arith, is) in ap (slice_get ys) same
  in_second (x ∷ xs) ys n zero is = absurd (omega (arith, is))
  in_second (x ∷ xs) ys n (suc k) is = in_second xs ys n k (omega (arith, is))

  -- past the end there is none
  pub past : (xs : List X) (n k : ℕ) → k ≡ length xs + n → None ≡ slice_get xs k
  past [] n k is = refl
  past (x ∷ xs) n zero is = absurd (omega (arith, is))
  past (x ∷ xs) n (suc k) is = past xs n k (omega (arith, is))

drop_is : {P : Type 0} (places : List P) (k : ℕ) (p : P) → slice_get places k ≡ Some p → drop k places ≡ p ∷ drop (suc k) places
drop_is [] k p at = absurd (cc at)
drop_is (q ∷ places) zero p at = let here : q ≡ p = cc at in ap (λ r. r ∷ places) here
drop_is (q ∷ places) (suc k) p at = drop_is places k p at

drop_all : {P : Type 0} (places : List P) (k : ℕ) → length places ≤ k → drop k places ≡ []
drop_all [] zero far = refl
drop_all [] (suc k) far = refl
drop_all (p ∷ places) zero far = absurd (omega (arith, far))
drop_all (p ∷ places) (suc k) far = drop_all places k (omega (arith, far))

-- what all places have, place by place
module _ {P X : Type 0} (f : P → List X) (places : List P) where
  module _ (k : ℕ) (p : P) (at : slice_get places k ≡ Some p) where
    next : flat_map f (drop k places) ≡ f p ++ flat_map f (drop (k + 1) places)
    next =
        let more : suc k ≡ k + 1 = omega arith in
        ap (λ (l : List P). flat_map f l) (drop_is places k p at) ∙ ap (λ n. f p ++ flat_map f (drop n places)) more

    -- it is this place's
    pub found_here : (left number : ℕ) (x : X) → slice_get (f p) left ≡ Some x → slice_get (flat_map f (drop k places)) left ≡ slice_get (flat_map f places) number → slice_get (flat_map f places) number ≡ Some x
    found_here left number x is same = sym same ∙ ap (λ (l : List X). slice_get l left) next ∙ in_first (f p) (flat_map f (drop (k + 1) places)) left x is

    module _ (left rest number : ℕ) (is : left ≡ length (f p) + rest) where
      -- it is past this place
      pub looked_on : slice_get (flat_map f (drop k places)) left ≡ slice_get (flat_map f places) number → slice_get (flat_map f (drop (k + 1) places)) rest ≡ slice_get (flat_map f places) number
      looked_on same = sym (in_second (f p) (flat_map f (drop (k + 1) places)) rest left is) ∙ sym (ap (λ (l : List X). slice_get l left) next) ∙ same

      pub counted_on : number + length (flat_map f (drop k places)) ≡ length (flat_map f places) + left → number + length (flat_map f (drop (k + 1) places)) ≡ length (flat_map f places) + rest
      counted_on past =
          let all : length (flat_map f (drop k places)) ≡ length (f p) + length (flat_map f (drop (k + 1) places)) = ap (λ (l : List X). length l) next ∙ length-append (f p) (flat_map f (drop (k + 1) places)) in
          omega (arith, past, all, is)

  -- it is past all places
  pub past_all : (k left number : ℕ) → length places ≤ k → number + length (flat_map f (drop k places)) ≡ length (flat_map f places) + left → number ≡ length (flat_map f places) + left
  past_all k left number far past =
      let none : length (flat_map f (drop k places)) ≡ 0 = ap (λ (l : List P). length (flat_map f l)) (drop_all places k far) in
      omega (arith, past, none)

-- what a list has at a place that code reads
pub read_at : {X : Type 0} (xs : List X) (k : ℕ) (x : X) → k < length xs → x ≡ get_or xs k x → slice_get xs k ≡ Some x
read_at [] k x lt is = absurd (omega (arith, lt))
read_at (y ∷ xs) zero x lt is = ap Some (sym is)
read_at (y ∷ xs) (suc k) x lt is = read_at xs k x (omega (arith, lt)) is

-- a name among those of one shape
pub named_at : (shape : Option (Bor (List ℕ))) (s : Bor (List ℕ)) (names : List (String Global)) (k : ℕ) (n : String Global) (name : List ℕ) → shape ≡ Some s → slice_get names k ≡ Some n → name ≡ string_bytes n
    → slice_get (with_shape (option_map (λ s. s.now) shape) (name_bytes names)) k ≡ Some (name, s.now)
named_at shape s names k n name is at same =
    ap (λ (o : Option (Bor (List ℕ))). slice_get (with_shape (option_map (λ s. s.now) o) (name_bytes names)) k) is
    ∙ slice_get-map (λ (m : List ℕ). (m, s.now)) (name_bytes names) k
    ∙ ap (option_map (λ (m : List ℕ). (m, s.now))) (slice_get-map (λ (m : String Global). string_bytes m) names k ∙ ap (option_map (λ (m : String Global). string_bytes m)) at)
    ∙ ap (λ m. Some (m, s.now)) (sym same)
