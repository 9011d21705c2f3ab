use Rattle.std.proofs.Common.{◌≡◌, ◌∙◌, ℕ, ◌<◌, ◌≤◌, List, [], ◌∷◌, Some, true, false, slice_get, sym, ap, arith}
use Rattle.std.specs.BTreeSet.{BTreeSet, IsKeyRangeOf, contains}
use Rattle.std.specs.declared.ops.Bound.TheVariants.{Included}
use Rattle.instance_tables.specs.Names.{pair_cmp}
use Rattle.instance_tables.proofs.Names.{along, between, not_up}
use Rattle.instance_tables.proofs.namers.Namers.next.Goals as goal

module _ (s : BTreeSet (ℕ × ℕ)) (a from last : ℕ) (r : List (ℕ × ℕ)) (is : IsKeyRangeOf pair_cmp (Included (a, from)) (Included (a, last)) s r) where
  -- none is there from a number on
  none_there : r ≡ [] → (n : ℕ) → from ≤ n → n ≤ last → contains pair_cmp s (a, n) ≡ true → ⊥
  none_there e n low high there =
      let no : false ≡ true = sym (is.5 e (a, n) (along a from n low, along a n last high)) ∙ there in absurd (cc)

  -- the first that is there from a number on
  first_there : (k : ℕ × ℕ) (t : List (ℕ × ℕ)) → r ≡ k ∷ t
      → (from ≤ k.1) × ((n : ℕ) → from ≤ n → n < k.1 → contains pair_cmp s (a, n) ≡ true → ⊥)
  first_there k t e =
      let here : slice_get r 0 ≡ Some k = ap (λ l. slice_get l 0) e in
      let within = (rw here at is.1).0 in
      let mine = between a from last k.0 k.1 within.0 within.1 in (
        mine.0,
        λ n low small there.
            let least = rw here at (is.2 (a, n) (along a from n low, along a n last (omega (arith, small, mine.1))) there) in
            let up = between a from n k.0 k.1 within.0 least in
            omega (arith, small, up.1),
      )

pub returns-in_err-holder : goal.returns-in_err-holder
returns-in_err-holder c =
    rw c.from_residual-in_err-holder.ensures (
      tt,
      λ n kept there above fits.
          none_there c.args.self.now.pairs c.args.target.0 c.in_ok-from.from 18446744073709551615 c.range.result
          (rw (c.new-range.ensures.start, c.new-range.ensures.end) at (c.range.ensures.in_range c.new-range.ensures.exhausted))
          c.in_err-holder.ensures.steps.0 n (omega (arith, above, c.in_ok-from.ensures)) (omega (arith, fits))
          (not_up c.args.self.now.is_given_up (contains pair_cmp c.args.self.now.pairs (c.args.target.0, n)) kept there),
    )

pub returns : goal.returns
returns c =
    let first = first_there c.args.self.now.pairs c.args.target.0 c.in_ok-from.from 18446744073709551615 c.range.result
    (rw (c.new-range.ensures.start, c.new-range.ensures.end) at (c.range.ensures.in_range c.new-range.ensures.exhausted))
    c.in_ok-holder.field-0.now c.next.new.self c.in_ok-holder.ensures.steps in (
      omega (arith, first.0, c.in_ok-from.ensures),
      λ n kept there above small.
          first.1 n (omega (arith, above, c.in_ok-from.ensures)) small
          (not_up c.args.self.now.is_given_up (contains pair_cmp c.args.self.now.pairs (c.args.target.0, n)) kept there),
    )
