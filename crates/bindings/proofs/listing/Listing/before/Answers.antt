use Rattle.std.proofs.Common.{◌≡◌, ◌∙◌, ℕ, ◌<◌, ◌≤◌, List, [], ◌∷◌, ◌++◌, true, false, sym, arith}
use Rattle.std.specs.BTreeSet.{BTreeSet, IsKeyRangeOf, contains}
use Rattle.std.specs.declared.ops.Bound.TheVariants.{Included}
use Rattle.bindings.specs.Kept.{Key, key_cmp}
use Rattle.bindings.proofs.Keys.{along, between, from_not_less}
use Rattle.bindings.proofs.listing.Listing.before.Goals as goal

module _ (s : BTreeSet Key) (a b last : ℕ) (r : List Key) (is : IsKeyRangeOf key_cmp (Included (a, b, 0)) (Included (a, b, last)) s r) where
  -- none is listed up to a number
  none_there : r ≡ [] → (n : ℕ) → n ≤ last → contains key_cmp s (a, b, n) ≡ true → ⊥
  none_there e n high there =
      let no : false ≡ true = sym (is.5 e (a, b, n) (along a b 0 n (omega arith), along a b n last high)) ∙ there in absurd (cc)

  -- the last that is listed up to a number
  last_there : (k : Key) (t : List Key) → r ≡ t ++ k ∷ []
      → (k.2 ≤ last) × ((n : ℕ) → n ≤ last → k.2 < n → contains key_cmp s (a, b, n) ≡ true → ⊥)
  last_there k t e =
      let within = (is.3 k t e).0 in
      let mine = between a b 0 last k.0 k.1 k.2 within.0 within.1 in (
        mine.1,
        λ n high up there.
            let most = is.4 k t e (a, b, n) (along a b 0 n (omega arith), along a b n last high) there in
            let low = between a b n last k.0 k.1 k.2 (from_not_less k.0 k.1 k.2 a b n most) within.1 in
            omega (arith, up, low.0),
      )

pub returns-in_err-last : goal.returns-in_err-last
returns-in_err-last c = rw c.from_residual.ensures (tt, λ n there low. omega (arith, low, c.in_err-last.ensures))

pub returns-in_err-number : goal.returns-in_err-number
returns-in_err-number c =
    rw c.from_residual-in_err-number.ensures (
      tt,
      λ n there low.
          none_there c.args.self.now.keys c.args.first c.args.second c.in_ok-last.last c.range.result
          (rw (c.new-range.ensures.start, c.new-range.ensures.end) at (c.range.ensures.in_range c.new-range.ensures.exhausted))
          c.in_err-number.ensures.steps.0 n (omega (arith, low, c.in_ok-last.ensures)) there,
    )

pub returns : goal.returns
returns c =
    let last = last_there c.args.self.now.keys c.args.first c.args.second c.in_ok-last.last c.range.result
    (rw (c.new-range.ensures.start, c.new-range.ensures.end) at (c.range.ensures.in_range c.new-range.ensures.exhausted))
    c.in_ok-number.field-0.now c.next_back.new.self c.in_ok-number.ensures.steps in (
      omega (arith, last.0, c.in_ok-last.ensures),
      λ n there low up. last.1 n (omega (arith, low, c.in_ok-last.ensures)) up there,
    )
