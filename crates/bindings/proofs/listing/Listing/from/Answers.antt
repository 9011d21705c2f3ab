use Rattle.std.proofs.Common.{◌≡◌, ◌∙◌, ℕ, ◌<◌, ◌≤◌, List, [], ◌∷◌, Some, true, false, slice_get, sym, ap, arith}
use Rattle.std.specs.BTreeSet.{BTreeSet, IsKeyRangeOf, contains}
use Rattle.std.specs.declared.ops.Bound.TheVariants.{Included}
use Rattle.bindings.specs.Kept.{Key, key_cmp}
use Rattle.bindings.proofs.Keys.{along, between}
use Rattle.bindings.proofs.listing.Listing.from.Goals as goal

module _ (s : BTreeSet Key) (a b from last : ℕ) (r : List Key) (is : IsKeyRangeOf key_cmp (Included (a, b, from)) (Included (a, b, last)) s r) where
  -- none is listed from a number on
  none_there : r ≡ [] → (n : ℕ) → from ≤ n → n ≤ last → contains key_cmp s (a, b, n) ≡ true → ⊥
  none_there e n low high there =
      let no : false ≡ true = sym (is.5 e (a, b, n) (along a b from n low, along a b n last high)) ∙ there in absurd (cc)

  -- the first that is listed from a number on
  first_there : (k : Key) (t : List Key) → r ≡ k ∷ t
      → (from ≤ k.2) × (k.2 ≤ last) × ((n : ℕ) → from ≤ n → n < k.2 → contains key_cmp s (a, b, n) ≡ true → ⊥)
  first_there k t e =
      let here : slice_get r 0 ≡ Some k = ap (λ l. slice_get l 0) e in
      let within = (rw here at is.1).0 in
      let mine = between a b from last k.0 k.1 k.2 within.0 within.1 in (
        mine.0,
        mine.1,
        λ n low small there.
            let least = rw here at (is.2 (a, b, n) (along a b from n low, along a b n last (omega (arith, small, mine.1))) there) in
            let up = between a b from n k.0 k.1 k.2 within.0 least in
            omega (arith, small, up.1),
      )

pub returns-in_err-number : goal.returns-in_err-number
returns-in_err-number c =
    rw c.from_residual.ensures (
      tt,
      λ n there above fits.
          none_there c.args.self.now.keys c.args.first c.args.second c.args.from 18446744073709551615 c.range.result
          (rw (c.new-range.ensures.start, c.new-range.ensures.end) at (c.range.ensures.in_range c.new-range.ensures.exhausted))
          c.in_err-number.ensures.steps.0 n above (omega (arith, fits)) there,
    )

pub returns : goal.returns
returns c =
    let first = first_there c.args.self.now.keys c.args.first c.args.second c.args.from 18446744073709551615 c.range.result
    (rw (c.new-range.ensures.start, c.new-range.ensures.end) at (c.range.ensures.in_range c.new-range.ensures.exhausted))
    c.in_ok-number.field-0.now c.next.new.self c.in_ok-number.ensures.steps in
    (first.0, λ n there above small. first.2 n above small there)
