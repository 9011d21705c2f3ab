-- What is built of the places, one after the other.
use Rattle.std.proofs.Common.{◌≡◌, refl, sym, ap, ◌∙◌, ℕ, zero, suc, ◌+◌, ◌<◌, ◌≤◌, max, Bool, true, false, cond, List, [], ◌∷◌, ◌++◌, length, drop, Option, Some, None, slice_get, arith}
use Rattle.ui_machine.specs.Seq.{total}
use Rattle.ui_machine.specs.Definition.{Definition}
use Rattle.ui_machine.specs.Definition.Places.{Place}
use Rattle.law_typing.specs.Graph.{built_objects, making_of, makings_from, raised_by_making}
use Rattle.law_typing.specs.Graph.Channels.{Channel}
use Rattle.law_typing.specs.Graph.Tables.{greatest}
use Rattle.verify_graph.proofs.MakingLists.{making_is}
use Rattle.ui_verifier.specs.ByChannel.{cost_if_built, making_cost_at, making_depth_at}
use Rattle.ui_verifier.proofs.Sums.{from_got}

-- the entry of a number
pub found : {A : Type 0} → (xs : List A) (n : ℕ) → n < length xs → (x : A) × (slice_get xs n ≡ Some x)
found [] n low = absurd (omega (arith, low))
found (x ∷ xs) zero low = (x, refl)
found (x ∷ xs) (suc n) low = found xs n (omega (arith, low))

pub past : {A : Type 0} → (xs : List A) (n : ℕ) → length xs ≤ n → drop n xs ≡ []
past [] zero behind = refl
past [] (suc n) behind = refl
past (x ∷ xs) zero behind = absurd (omega (arith, behind))
past (x ∷ xs) (suc n) behind = past xs n (omega (arith, behind))

module _ (d : Definition) (f : Channel → ℕ) where
  one_cost : (n : ℕ) (p : Place) (ps : List Place) → making_of d (Some n) ≡ raised_by_making d n p →
      total (total f) (built_objects d n (p ∷ ps)) ≡ cost_if_built d f n (Some p) + total (total f) (built_objects d (suc n) ps)
  one_cost n p ps is = by p.is_prototype
    where
      by : (b : Bool) → total (total f) (cond b [] (raised_by_making d n p ∷ []) ++ built_objects d (suc n) ps)
          ≡ cond b 0 (total f (making_of d (Some n))) + total (total f) (built_objects d (suc n) ps)
      by true = omega arith
      by false = ap (λ cs. total f cs + total (total f) (built_objects d (suc n) ps)) (sym is)

  pub next_cost : (n : ℕ) → n < length d.places →
      total (total f) (built_objects d n (drop n d.places)) ≡ making_cost_at d f n + total (total f) (built_objects d (n + 1) (drop (n + 1) d.places))
  next_cost n low =
      let p = found d.places n low in
      let e : suc n ≡ n + 1 = omega arith in
      ap (λ ps. total (total f) (built_objects d n ps)) (from_got d.places n p.0 p.1)
      ∙ (one_cost n p.0 (drop (n + 1) d.places) (sym (making_is d n p.0 (sym p.1)))
      ∙ (ap (λ o. cost_if_built d f n o + total (total f) (built_objects d (suc n) (drop (n + 1) d.places))) (sym p.1)
      ∙ ap (λ m. making_cost_at d f n + total (total f) (built_objects d m (drop (n + 1) d.places))) e))

  pub no_cost : (n : ℕ) → length d.places ≤ n → total (total f) (built_objects d n (drop n d.places)) ≡ 0
  no_cost n behind = ap (λ ps. total (total f) (built_objects d n ps)) (past d.places n behind)

  pub next_depth : (n : ℕ) → n < length d.places →
      greatest (λ cs. 1 + greatest f cs) (makings_from d n (drop n d.places))
      ≡ max (making_depth_at d f n) (greatest (λ cs. 1 + greatest f cs) (makings_from d (n + 1) (drop (n + 1) d.places)))
  next_depth n low =
      let p = found d.places n low in
      let e : suc n ≡ n + 1 = omega arith in
      ap (λ ps. greatest (λ cs. 1 + greatest f cs) (makings_from d n ps)) (from_got d.places n p.0 p.1)
      ∙ (ap (λ cs. max (1 + greatest f cs) (greatest (λ cs. 1 + greatest f cs) (makings_from d (suc n) (drop (n + 1) d.places)))) (making_is d n p.0 (sym p.1))
      ∙ ap (λ m. max (making_depth_at d f n) (greatest (λ cs. 1 + greatest f cs) (makings_from d m (drop (n + 1) d.places)))) e)

  pub no_depth : (n : ℕ) → length d.places ≤ n → greatest (λ cs. 1 + greatest f cs) (makings_from d n (drop n d.places)) ≡ 0
  no_depth n behind = ap (λ ps. greatest (λ cs. 1 + greatest f cs) (makings_from d n ps)) (past d.places n behind)
