use Rattle.std.proofs.Common.{◌≡◌, ◌∙◌, ℕ, ◌<◌, ◌≤◌, List, [], ◌∷◌, Some, true, false, ◌&&◌, nat_eq, slice_get, sym, ap, arith}
use Rattle.std.proofs.lemmas.Bool.Decides.{nat_tests}
use Rattle.std.specs.BTreeSet.{BTreeSet, IsKeyRangeOf, contains}
use Rattle.std.specs.Ordering.{is_gt}
use Rattle.std.specs.declared.ops.Bound.TheVariants.{Included, Unbounded}
use Rattle.signal_core.specs.Kept.{Key, key_cmp}
use Rattle.signal_core.proofs.Keys.{along, between, front}
use Rattle.signal_core.proofs.listing.Listing.next.Goals as goal

three_equal : (x y z a b c : ℕ) → (nat_eq x a && nat_eq y b && nat_eq z c) ≡ true → (x ≡ a) × (y ≡ b) × (z ≡ c)
three_equal x y z a b c e = grind (arith, nat_tests)

not_equal : (x y z a b c : ℕ) → (nat_eq x a && nat_eq y b && nat_eq z c) ≡ false → x ≡ a → y ≡ b → z ≡ c → ⊥
not_equal x y z a b c e one two three = grind (arith, nat_tests)

module _ (s : BTreeSet Key) (a b c from : ℕ) (r : List Key) (is : IsKeyRangeOf key_cmp (Included (a, b, c, from)) Unbounded s r) where
  -- none is listed from a number on
  none_there : r ≡ [] → (n : ℕ) → from ≤ n → contains key_cmp s (a, b, c, n) ≡ true → ⊥
  none_there e n low there = let no : false ≡ true = sym (is.5 e (a, b, c, n) (along a b c from n low, tt)) ∙ there in absurd (cc)

  module _ (k : Key) (t : List Key) (e : r ≡ k ∷ t) where
    -- the first key is not before the number
    lowest : is_gt (key_cmp (a, b, c, from) k) ≡ false
    lowest = let here : slice_get r 0 ≡ Some k = ap (λ l. slice_get l 0) e in (rw here at is.1).0.0

    -- what is listed from the number on is not before the first key
    least : (n : ℕ) → from ≤ n → contains key_cmp s (a, b, c, n) ≡ true → is_gt (key_cmp k (a, b, c, n)) ≡ false
    least n low there = let here : slice_get r 0 ≡ Some k = ap (λ l. slice_get l 0) e in rw here at (is.2 (a, b, c, n) (along a b c from n low, tt) there)

    -- where the first key has these three numbers, its last is the first that is listed
    first_there : a ≡ k.0 → b ≡ k.1 → c ≡ k.2 → (from ≤ k.3) × ((n : ℕ) → from ≤ n → n < k.3 → contains key_cmp s (a, b, c, n) ≡ true → ⊥)
    first_there one two three = (
      (between a b c from k.3 k.0 k.1 k.2 k.3 lowest (rw (one, two, three) (along k.0 k.1 k.2 k.3 k.3 (omega arith)))).0,
      λ n low small there. let up = between a b c from n k.0 k.1 k.2 k.3 lowest (least n low there) in omega (arith, small, up.1),
    )

    -- where none is listed the first key has others
    other_there : (n : ℕ) → from ≤ n → contains key_cmp s (a, b, c, n) ≡ true → (a ≡ k.0) × (b ≡ k.1) × (c ≡ k.2)
    other_there n low there = front a b c from n k.0 k.1 k.2 k.3 lowest (least n low there)

pub returns-in_err-key : goal.returns-in_err-key
returns-in_err-key c =
    rw c.from_residual-in_err-key.ensures (
      tt,
      λ n there above fits.
          none_there c.args.self.now.keys c.args.first c.args.second c.args.third c.in_ok-from.from c.range.result (c.range.ensures.in_range tt)
          c.in_err-key.ensures.steps.0 n (omega (arith, above, c.in_ok-from.ensures)) there,
    )

pub returns-then-is_under : goal.returns-then-is_under
returns-then-is_under c =
    let k = c.in_ok-key.key.now in
    let same = three_equal k.0 k.1 k.2 c.args.first c.args.second c.args.third (sym c.is_under.ensures ∙ c.if-is_under.true) in
    let first = first_there c.args.self.now.keys c.args.first c.args.second c.args.third c.in_ok-from.from c.range.result (c.range.ensures.in_range tt)
    k c.next.new.self c.in_ok-key.ensures.steps (sym same.0) (sym same.1) (sym same.2) in (
      (rw c.number_of.ensures.number (omega (arith, first.0, c.in_ok-from.ensures)), c.number_of.ensures.fits),
      λ n there above small. first.1 n (omega (arith, above, c.in_ok-from.ensures)) (rw c.number_of.ensures.number at small) there,
    )

pub returns : goal.returns
returns c = (
  tt,
  λ n there above fits.
      let k = c.in_ok-key.key.now in
      let same = other_there c.args.self.now.keys c.args.first c.args.second c.args.third c.in_ok-from.from c.range.result (c.range.ensures.in_range tt)
      k c.next.new.self c.in_ok-key.ensures.steps n (omega (arith, above, c.in_ok-from.ensures)) there in
      not_equal k.0 k.1 k.2 c.args.first c.args.second c.args.third (sym c.is_under.ensures ∙ c.if-is_under.false) (sym same.0) (sym same.1) (sym same.2),
)
