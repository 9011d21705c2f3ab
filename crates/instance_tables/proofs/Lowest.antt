-- Which is the lowest one that nothing holds, as objects are made, held, let go and taken out.
use Rattle.std.proofs.Common.{◌≡◌, ◌≢◌, ℕ, ◌<◌, ◌≤◌, List, [], ◌∷◌, Bool, true, false, cond, nat_eq, Option, Some, None, is_some, IsSome, inl, inr, refl, sym, ap, subst, ◌∙◌, arith}
use Rattle.std.proofs.lemmas.Bool.{cases_eq}
use Rattle.std.proofs.lemmas.Bool.Decides.{nat_tests}
use Rattle.std.proofs.lemmas.Map.Keys.{sorted_head, sorted_tail}
use Rattle.std.specs.BTreeMap.Range.{entries_between}
use Rattle.std.specs.List.Sorted.{IsStrictlySortedBy}
use Rattle.std.specs.Map.{keys_of}
use Rattle.std.specs.Option.{option_map}
use Rattle.std.specs.Ordering.{nat_cmp, is_le}
use Rattle.std.specs.declared.ops.Bound.TheVariants.{Included, Unbounded}
use Rattle.instance_tables.specs.View.{AreHeldBelow, IsHeldOrGone, IsLowestUnheld, first_unheld, held_in, lower_of}
use Rattle.instance_tables.specs.declared.instance.Instance.{Instance}
use Rattle.instance_tables.proofs.Scan.{above, look, look_other, look_self}

-- where each is held as often as before, the lowest one is the same
pub lowest_same : (held new : ℕ → Option ℕ) (low : Option ℕ) → ((q : ℕ) → new q ≡ held q) → IsLowestUnheld held low
    → IsLowestUnheld new low
lowest_same held new low same is = record {
  unheld = λ i e. same i ∙ is.unheld i e;
  least = λ id e. is.least id (sym (same id) ∙ e);
}

-- ** the lower one of two

lower_of_id : (low : Option ℕ) (id : ℕ) → lower_of low id ≤ id
lower_of_id None id = omega arith
lower_of_id (Some l) id = omega arith

lower_of_old : (low : Option ℕ) (id i : ℕ) → low ≡ Some i → lower_of low id ≤ i
lower_of_old None id i e = absurd (cc)
lower_of_old (Some l) id i e = let same : l ≡ i = cc in omega (arith, same)

lower_is : (low : Option ℕ) (id i : ℕ) → lower_of low id ≡ i → i ≢ id → low ≡ Some i
lower_is None id i e ne = absurd (ne (sym e))
lower_is (Some l) id i e ne = let same : l ≡ i = omega (arith, e, ne) in ap Some same

-- ** one that changes

module _ (held new : ℕ → Option ℕ) (low : Option ℕ) (id : ℕ) (others : (q : ℕ) → q ≢ id → new q ≡ held q) (is : IsLowestUnheld held low) where
  -- one that nothing holds any more, or yet
  pub lowest_let_go : new id ≡ Some 0 → IsLowestUnheld new (Some (lower_of low id))
  lowest_let_go none = record {
    unheld = λ i e.
        let at : lower_of low id ≡ i = cc in
        elim (cases_eq i id) [
          | inl same ↦ ap new same ∙ none
          | inr ne ↦ others i ne ∙ is.unheld i (lower_is low id i at ne)
        ];
    least = λ q e.
        elim (cases_eq q id) [
          | inl same ↦ (lower_of low id, refl, omega (arith, lower_of_id low id, same))
          | inr ne ↦
              let old = is.least q (sym (others q ne) ∙ e) in
              (lower_of low id, refl, omega (arith, lower_of_old low id old.0 old.1, old.2))
        ];
  }

  -- one that is held, or gone, and was not the lowest
  pub lowest_kept : (new id ≡ Some 0 → ⊥) → (low ≡ Some id → ⊥) → IsLowestUnheld new low
  lowest_kept gone other = record {
    unheld = λ i e.
        elim (cases_eq i id) [
          | inl same ↦ absurd (other (e ∙ ap Some same))
          | inr ne ↦ others i ne ∙ is.unheld i e
        ];
    least = λ q e.
        elim (cases_eq q id) [
          | inl same ↦ absurd (gone (ap new (sym same) ∙ e))
          | inr ne ↦ is.least q (sym (others q ne) ∙ e)
        ];
  }

  -- those below it are held, where it was the lowest
  pub held_beside : low ≡ Some id → AreHeldBelow new id
  held_beside here q small none =
      let old = is.least q (sym (others q (λ e. omega (arith, small, e))) ∙ none) in
      let same : Some old.0 ≡ Some id = sym old.1 ∙ here in
      let at : old.0 ≡ id = cc in
      omega (arith, old.2, small, at)

-- ** among instances in their order

-- how often the entries say that a number is held
abbrev pub held_at : List (ℕ × Instance) → ℕ → Option ℕ
held_at es = held_in (look es)

there : (es : List (ℕ × Instance)) (q : ℕ) → held_at es q ≡ Some 0 → IsSome (look es q)
there es q e = by (look es q) refl
  where
    by : (o : Option Instance) → look es q ≡ o → IsSome (look es q)
    by None none =
        let no : option_map (λ (x : Instance). x.mentions) (look es q) ≡ None = ap (option_map (λ (x : Instance). x.mentions)) none in
        absurd (cc)
    by (Some x) some = ap is_some some

at_head : (e : ℕ × Instance) (es : List (ℕ × Instance)) → held_at (e ∷ es) e.0 ≡ Some e.1.mentions
at_head e es = ap (option_map (λ (x : Instance). x.mentions)) (look_self e es)

behind : (e : ℕ × Instance) (es : List (ℕ × Instance)) (q : ℕ) → q ≢ e.0 → held_at (e ∷ es) q ≡ held_at es q
behind e es q ne = ap (option_map (λ (x : Instance). x.mentions)) (look_other e es q ne)

later : (e : ℕ × Instance) (es : List (ℕ × Instance)) → IsStrictlySortedBy nat_cmp (keys_of (e ∷ es)) → (q : ℕ)
    → held_at es q ≡ Some 0 → e.0 < q
later e es sorted q none = above e.0 es (sorted_head nat_cmp e.0 (keys_of es) sorted) q (there es q none)

-- the first entry that nothing holds is the lowest
pub first_lowest : (es : List (ℕ × Instance)) → IsStrictlySortedBy nat_cmp (keys_of es) → IsLowestUnheld (held_at es) (first_unheld es)
first_lowest [] sorted = record { unheld = λ i e. absurd (cc); least = λ q e. absurd (cc) }
first_lowest (e ∷ es) sorted = by (first_lowest es (sorted_tail nat_cmp e.0 (keys_of es) sorted)) (nat_eq e.1.mentions 0) refl
  where
    by : IsLowestUnheld (held_at es) (first_unheld es) → (b : Bool) → nat_eq e.1.mentions 0 ≡ b
        → IsLowestUnheld (held_at (e ∷ es)) (cond b (Some e.0) (first_unheld es))
    by rest true none =
        let zero : e.1.mentions ≡ 0 = grind (arith, nat_tests) in
        record {
          unheld = λ i f.
              let same : e.0 ≡ i = cc in
              ap (held_at (e ∷ es)) (sym same) ∙ at_head e es ∙ ap Some zero;
          least = λ q f.
              elim (cases_eq q e.0) [
                | inl same ↦ (e.0, refl, omega (arith, same))
                | inr ne ↦ (e.0, refl, omega (arith, later e es sorted q (sym (behind e es q ne) ∙ f)))
              ];
        }
    by rest false more =
        let some : 0 < e.1.mentions = grind (arith, nat_tests) in
        record {
          unheld = λ i f.
              let none : held_at es i ≡ Some 0 = rest.unheld i f in
              behind e es i (λ same. omega (arith, same, later e es sorted i none)) ∙ none;
          least = λ q f.
              elim (cases_eq q e.0) [
                | inl same ↦
                    let here : Some e.1.mentions ≡ Some 0 = sym (at_head e es) ∙ ap (held_at (e ∷ es)) (sym same) ∙ f in
                    let zero : e.1.mentions ≡ 0 = cc in
                    absurd (omega (arith, some, zero))
                | inr ne ↦ rest.least q (sym (behind e es q ne) ∙ f)
              ];
        }

-- those from a number on have the same first one, if each below is held
pub scanned_from : (from : ℕ) (es : List (ℕ × Instance)) → IsStrictlySortedBy nat_cmp (keys_of es) → AreHeldBelow (held_at es) from
    → first_unheld (entries_between nat_cmp (Included from) Unbounded es) ≡ first_unheld es
scanned_from from [] sorted held = refl
scanned_from from (e ∷ es) sorted held =
    by
    (scanned_from from es (sorted_tail nat_cmp e.0 (keys_of es) sorted)
    (λ q small none. held q small (behind e es q (λ same. omega (arith, same, later e es sorted q none)) ∙ none)))
    (is_le (nat_cmp from e.0)) refl
  where
    by : first_unheld (entries_between nat_cmp (Included from) Unbounded es) ≡ first_unheld es → (b : Bool)
        → is_le (nat_cmp from e.0) ≡ b
        → first_unheld (entries_between nat_cmp (Included from) Unbounded (e ∷ es)) ≡ first_unheld (e ∷ es)
    by rest true at = rw at (ap (λ r. cond (nat_eq e.1.mentions 0) (Some e.0) r) rest)
    by rest false at =
        let small : e.0 < from = grind (arith, nat_tests) in
        let more : e.1.mentions ≢ 0 = λ zero. held e.0 small (at_head e es ∙ ap Some zero) in
        let no : nat_eq e.1.mentions 0 ≡ false = grind (arith, nat_tests) in
        rw at (rest ∙ rw no refl)

-- so the first one from the noted one on is the lowest, where that is held now or gone
pub found_beside : (es : List (ℕ × Instance)) → IsStrictlySortedBy nat_cmp (keys_of es) → (held : ℕ → Option ℕ) (low : Option ℕ)
    (id : ℕ) → IsLowestUnheld held low → IsHeldOrGone held (held_at es) id → low ≡ Some id → (found : Option ℕ)
    → found ≡ first_unheld (entries_between nat_cmp (Included id) Unbounded es) → IsLowestUnheld (held_at es) found
found_beside es sorted held low id is change here found e =
    subst (IsLowestUnheld (held_at es)) (sym (e ∙ scanned_from id es sorted (held_beside held (held_at es) low id change.others is here)))
    (first_lowest es sorted)
