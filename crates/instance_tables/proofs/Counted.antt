-- Children that are added and removed, and how often each is one.
use Rattle.std.proofs.Common.{◌≡◌, ℕ, zero, suc, ◌+◌, ◌<◌, List, [], ◌∷◌, ◌++◌, Bool, true, false, cond, nat_eq, Option, Some, None, slice_get, refl, sym, ap, subst, ◌∙◌, arith}
use Rattle.std.proofs.lemmas.Bool.Decides.{nat_tests}
use Rattle.std.specs.BTreeMap.{is_at}
use Rattle.std.specs.List.{remove}
use Rattle.std.specs.Ordering.{nat_cmp}
use Rattle.ui_machine.specs.Seq.{total}
use Rattle.ui_machine.specs.State.Config.{without}
use Rattle.ui_machine.specs.State.References.{same}
use Rattle.ui_machine.specs.declared.ids.ObjectId.{ObjectId}
use Rattle.instance_tables.specs.Children.{AreCounted, IsOnce, IsSoOften}
use Rattle.instance_tables.specs.Store.{ids_of}
use Rattle.instance_tables.specs.declared.children.Occurrence.{Occurrence}
use Rattle.instance_tables.specs.declared.children.Occurrence.TheVariants.{Once, Repeated}
use Rattle.instance_tables.proofs.Exact.{one_more}
use Rattle.instance_tables.proofs.Without.{none_left, others_stay}

-- the identities with one more
pub ids_with : (ids : List ObjectId) (x : ObjectId) → ids_of (ids ++ x ∷ []) ≡ ids_of ids ++ x.0 ∷ []
ids_with [] x = refl
ids_with (i ∷ is) x = ap (λ (js : List ℕ). i.0 ∷ js) (ids_with is x)

-- a list without an identity that it does not have is the same list
pub none_without : (id : ℕ) (ids : List ℕ) → ◌≡◌ {A = ℕ} (total (same id) ids) 0 → without id ids ≡ ids
none_without id [] none = refl
none_without id (i ∷ is) none = by (none_without id is) (nat_eq i id) none
  where
    by : (◌≡◌ {A = ℕ} (total (same id) is) 0 → without id is ≡ is) → (b : Bool) → ◌≡◌ {A = ℕ} (cond b 1 0 + total (same id) is) 0
        → cond b (without id is) (i ∷ without id is) ≡ i ∷ is
    by rest true none = absurd (omega (arith, none))
    by rest false none = ap (λ (js : List ℕ). i ∷ js) (rest (omega (arith, none)))

-- an identity that stands at an index is in the list
among : (ids : List ObjectId) (i : ℕ) (x : ObjectId) → slice_get ids i ≡ Some x → 0 < total (same x.0) (ids_of ids)
among [] i x here = absurd (cc)
among (y ∷ ys) zero x here =
    let is : y ≡ x = cc in
    let one : same x.0 y.0 ≡ 1 = grind (arith, nat_tests) in
    omega (arith, one)
among (y ∷ ys) (suc i) x here = omega (arith, among ys i x here)

-- an identity that is there once is taken out where it stands
taken_out : (ids : List ObjectId) (i : ℕ) (x : ObjectId) → slice_get ids i ≡ Some x
    → ◌≡◌ {A = ℕ} (total (same x.0) (ids_of ids)) 1 → ids_of (remove ids i) ≡ without x.0 (ids_of ids)
taken_out [] i x here once = absurd (cc)
taken_out (y ∷ ys) zero x here once = by (nat_eq y.0 x.0) (let is : y ≡ x = cc in grind (arith, nat_tests)) once
  where
    by : (b : Bool) → b ≡ true → ◌≡◌ {A = ℕ} (cond b 1 0 + total (same x.0) (ids_of ys)) 1
        → ids_of ys ≡ cond b (without x.0 (ids_of ys)) (y.0 ∷ without x.0 (ids_of ys))
    by true is_it once = sym (none_without x.0 (ids_of ys) (omega (arith, once)))
    by false is_it once = absurd (cc)
taken_out (y ∷ ys) (suc i) x here once = by (taken_out ys i x here) (nat_eq y.0 x.0) once
  where
    by : (◌≡◌ {A = ℕ} (total (same x.0) (ids_of ys)) 1 → ids_of (remove ys i) ≡ without x.0 (ids_of ys)) → (b : Bool)
        → ◌≡◌ {A = ℕ} (cond b 1 0 + total (same x.0) (ids_of ys)) 1
        → y.0 ∷ ids_of (remove ys i) ≡ cond b (without x.0 (ids_of ys)) (y.0 ∷ without x.0 (ids_of ys))
    by rest true once = absurd (omega (arith, once, among ys i x here))
    by rest false once = ap (λ (is : List ℕ). y.0 ∷ is) (rest (omega (arith, once)))

-- an identity of which nothing is known is not there
pub never_there : (old : ℕ → Option Occurrence) (id : ℕ) (ids : List ℕ) → AreCounted old ids → old id ≡ None → ◌≡◌ {A = ℕ} (total (same id) ids) 0
never_there old id ids counted none = subst (λ o. IsSoOften o (total (same id) ids)) none (counted id)

-- one that is known to be there once is
once_there : (old : ℕ → Option Occurrence) (id : ℕ) (ids : List ℕ) → AreCounted old ids → (o : Occurrence) → old id ≡ Some o → IsOnce o
    → ◌≡◌ {A = ℕ} (total (same id) ids) 1
once_there old id ids counted (Once stamp) known once = subst (λ o. IsSoOften o (total (same id) ids)) known (counted id)
once_there old id ids counted Repeated known once = absurd once

-- so it is taken out where it stands
pub removed_once : (old : ℕ → Option Occurrence) (ids : List ObjectId) (i : ℕ) (x : ObjectId) (o : Occurrence) → AreCounted old (ids_of ids)
    → old x.0 ≡ Some o → IsOnce o → slice_get ids i ≡ Some x → ids_of (remove ids i) ≡ without x.0 (ids_of ids)
removed_once old ids i x o counted known once here = taken_out ids i x here (once_there old x.0 (ids_of ids) counted o known once)

module _ (old new : ℕ → Option Occurrence) (id : ℕ) (ids rest : List ℕ) (counted : AreCounted old ids) where
  -- nothing is known of one that was removed, and the others are as often there as before
  pub counted_without : ((q : ℕ) → new q ≡ cond (is_at (nat_cmp id) q) None (old q)) → rest ≡ without id ids → AreCounted new rest
  counted_without updates is q = rw is (by (nat_eq id q) refl)
    where
      by : (b : Bool) → nat_eq id q ≡ b → IsSoOften (new q) (total (same q) (without id ids))
      by true e =
          let it : id ≡ q = grind (arith, nat_tests) in
          let here : is_at (nat_cmp id) q ≡ true = grind (arith, nat_tests) in
          let known : new q ≡ None = updates q ∙ ap (λ b. cond b None (old q)) here in
          rw known (ap (λ k. total (same k) (without id ids)) (sym it) ∙ none_left id ids)
      by false e =
          let other : is_at (nat_cmp id) q ≡ false = grind (arith, nat_tests) in
          let known : new q ≡ old q = updates q ∙ ap (λ b. cond b None (old q)) other in
          rw (known, others_stay id q ids e) (counted q)

  -- one that was added is there once more, and only if it was not there before it is known to be there once
  pub counted_with : (now : Occurrence) → ((q : ℕ) → new q ≡ cond (is_at (nat_cmp id) q) (Some now) (old q)) → (IsOnce now → old id ≡ None)
      → rest ≡ ids ++ id ∷ [] → AreCounted new rest
  counted_with now updates first is q = rw (is, one_more q id ids) (by (nat_eq id q) refl)
    where
      so_often : (o : Occurrence) → (IsOnce o → old id ≡ None) → IsSoOften (Some o) (total (same id) ids + 1)
      so_often (Once stamp) first =
          let none : ◌≡◌ {A = ℕ} (total (same id) ids) 0 = subst (λ o. IsSoOften o (total (same id) ids)) (first tt) (counted id) in
          omega (arith, none)
      so_often Repeated first = tt

      by : (b : Bool) → nat_eq id q ≡ b → IsSoOften (new q) (total (same q) ids + cond b 1 0)
      by true e =
          let it : id ≡ q = grind (arith, nat_tests) in
          let here : is_at (nat_cmp id) q ≡ true = grind (arith, nat_tests) in
          let known : new q ≡ Some now = updates q ∙ ap (λ b. cond b (Some now) (old q)) here in
          rw known (subst (λ k. IsSoOften (Some now) (total (same k) ids + 1)) it (so_often now first))
      by false e =
          let other : is_at (nat_cmp id) q ≡ false = grind (arith, nat_tests) in
          let known : new q ≡ old q = updates q ∙ ap (λ b. cond b (Some now) (old q)) other in
          let as_often : total (same q) ids + 0 ≡ total (same q) ids = omega arith in
          rw (known, as_often) (counted q)
