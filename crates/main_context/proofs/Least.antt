-- The least rank of what is ready in a list.
use Rattle.std.proofs.Common.{◌≡◌, ℤ, Bool, true, false, not, ◌&&◌, ◌||◌, inl, inr, List, [], ◌∷◌, Option, None, Some, refl, subst, sym, int_le}
use Rattle.std.specs.List.{list_any, list_all, filter}
use Rattle.std.specs.Ordering.{int_eq}
use Rattle.std.specs.Int.{int_min}
use Rattle.main_context.proofs.Joined.{both_of, and_of, either_of, or_of, implied_of, implies_of, neither_of, same_of}
use Rattle.main_context.proofs.Integers.{int_le_same, int_le_through, int_min_left, int_min_right, int_min_either, same_from_int_eq, int_eq_same, int_eq_both}

abbrev pub has_rank : {X : Type 0} → (X → Bool) → (X → ℤ) → ℤ → X → Bool
has_rank ready rank p x = ready x && int_eq (rank x) p

abbrev pub is_below : {X : Type 0} → (X → Bool) → (X → ℤ) → ℤ → List X → Bool
is_below ready rank p xs = list_all (λ x. not (ready x) || int_le p (rank x)) xs

below_lower : {X : Type 0} (ready : X → Bool) (rank : X → ℤ) (p q : ℤ) (xs : List X) → int_le q p ≡ true → is_below ready rank p xs ≡ true → is_below ready rank q xs ≡ true
below_lower ready rank p q [] le h = refl
below_lower ready rank p q (x ∷ xs) le h =
    let w = both_of _ _ h in
    and_of _ _ (implies_of (ready x) _ (λ e. int_le_through q p (rank x) le (implied_of _ _ w.0 e))) (below_lower ready rank p q xs le w.1)

below_none : {X : Type 0} (ready : X → Bool) (rank : X → ℤ) (q : ℤ) (xs : List X) → list_any ready xs ≡ false → is_below ready rank q xs ≡ true
below_none ready rank q [] h = refl
below_none ready rank q (x ∷ xs) h =
    let n = neither_of (ready x) _ h in
    and_of _ _ (implies_of (ready x) _ (λ e. cc)) (below_none ready rank q xs n.1)

-- what is below all is below what is there
beaten : {X : Type 0} (ready : X → Bool) (rank : X → ℤ) (p q : ℤ) (xs : List X) → list_any (has_rank ready rank p) xs ≡ true → is_below ready rank q xs ≡ true → int_le q p ≡ true
beaten ready rank p q [] h k = cc
beaten ready rank p q (x ∷ xs) h k =
    let w = both_of (not (ready x) || int_le q (rank x)) _ k in
    elim (either_of (has_rank ready rank p x) _ h) [
      | inl here ↦
          let e = both_of (ready x) _ here in
          rw (← same_from_int_eq (rank x) p e.1) (implied_of _ _ w.0 e.0)
      | inr later ↦ beaten ready rank p q xs later w.1
    ]

-- ** one more

-- what is least in a list, if anything is ready
abbrev pub IsLeastOf : {X : Type 0} → (X → Bool) → (X → ℤ) → List X → Option ℤ → Type 0
IsLeastOf ready rank xs None = list_any ready xs ≡ false
IsLeastOf ready rank xs (Some p) = (list_any (has_rank ready rank p) xs ≡ true) × (is_below ready rank p xs ≡ true)

-- the lower of the two, if there are two
abbrev pub lower : Option ℤ → Option ℤ → Option ℤ
lower None o = o
lower (Some a) None = Some a
lower (Some a) (Some b) = Some (int_min a b)

-- one that is not ready
pub least_passed : {X : Type 0} (ready : X → Bool) (rank : X → ℤ) (x : X) (xs : List X) (o : Option ℤ) → ready x ≡ false → IsLeastOf ready rank xs o → IsLeastOf ready rank (x ∷ xs) o
least_passed ready rank x xs None idle h = rw idle h
least_passed ready rank x xs (Some p) idle h = (rw idle h.0, rw idle h.1)

-- one that is
pub least_more : {X : Type 0} (ready : X → Bool) (rank : X → ℤ) (x : X) (xs : List X) (o : Option ℤ) → ready x ≡ true → IsLeastOf ready rank xs o → IsLeastOf ready rank (x ∷ xs) (lower (Some (rank x)) o)
least_more ready rank x xs None on h = (
  rw (on, int_eq_same (rank x)) refl,
  and_of _ _ (implies_of (ready x) _ (λ _. int_le_same (rank x))) (below_none ready rank (rank x) xs h),
)
least_more ready rank x xs (Some p) on h = (
  elim (int_min_either (rank x) p) [
    | inl e ↦ rw (e, on, int_eq_same (rank x)) refl
    | inr e ↦ subst (λ m. list_any (has_rank ready rank m) (x ∷ xs) ≡ true) (sym e) (or_of (has_rank ready rank p x) (list_any (has_rank ready rank p) xs) h.0)
  ],
  and_of _ _ (implies_of (ready x) _ (λ _. int_min_left (rank x) p)) (below_lower ready rank p (int_min (rank x) p) xs (int_min_right (rank x) p) h.1),
)

-- ** the foremost

same_tests : {X : Type 0} (ready : X → Bool) (rank : X → ℤ) (p : ℤ) (all : List X) (x : X) → list_any (has_rank ready rank p) all ≡ true → is_below ready rank p all ≡ true → (not (ready x) || int_le p (rank x)) ≡ true → has_rank ready rank p x ≡ (ready x && is_below ready rank (rank x) all)
same_tests ready rank p all x h k le =
    elim (ready x) as (λ r. (not r || int_le p (rank x)) ≡ true → (r && int_eq (rank x) p) ≡ (r && is_below ready rank (rank x) all)) [
      | true ↦ λ below. same_of _ _
          (λ e. below_lower ready rank p (rank x) all (rw (same_from_int_eq (rank x) p e) (int_le_same p)) k)
          (λ e. int_eq_both (rank x) p (beaten ready rank p (rank x) all h e) below)
      | false ↦ λ below. refl
    ] le

-- those of the least rank are those that are below all
pub filter_least : {X : Type 0} (ready : X → Bool) (rank : X → ℤ) (p : ℤ) (all xs : List X) → list_any (has_rank ready rank p) all ≡ true → is_below ready rank p all ≡ true → is_below ready rank p xs ≡ true → filter (has_rank ready rank p) xs ≡ filter (λ x. ready x && is_below ready rank (rank x) all) xs
filter_least ready rank p all [] h k below = refl
filter_least ready rank p all (x ∷ xs) h k below =
    let w = both_of _ _ below in
    rw (same_tests ready rank p all x h k w.0, filter_least ready rank p all xs h k w.1) refl

-- where nothing is ready there is none
pub filter_none : {X : Type 0} (ready other : X → Bool) (xs : List X) → list_any ready xs ≡ false → filter (λ x. ready x && other x) xs ≡ []
filter_none ready other [] h = refl
filter_none ready other (x ∷ xs) h =
    let n = neither_of (ready x) _ h in
    rw (n.0, filter_none ready other xs n.1) refl
