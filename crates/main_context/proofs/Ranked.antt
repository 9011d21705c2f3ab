-- The places of sources that have a rank.
use Rattle.std.proofs.Common.{◌≡◌, ℕ, ◌<◌, ◌≤◌, ℤ, pos, Bool, true, false, cond, nat_eq, List, [], ◌∷◌, ◌++◌, map, option_map, Option, None, Some, refl, sym, ap, subst, ◌∙◌, arith, inl, inr}
use Rattle.std.specs.List.{AllByRecursion, find}
use Rattle.std.proofs.lemmas.Bool.{cases_Bool}
use Rattle.std.proofs.lemmas.Bool.Decides.{nat_tests}
use Rattle.std.proofs.lemmas.Int.{ints}
use Rattle.ui_machine.specs.State.Sources.{Source, is_numbered, runs_program, source_of, without_first, without_source}
use Rattle.ui_machine.specs.Rules.MainLoop.{rescheduled}
use Rattle.main_context.specs.Order.{RisesFrom}
use Rattle.main_context.specs.Places.{IsAscending, IsThere, has_rank, is_before, place_by, program_rank, ranked, with_any, with_place, without_any}
use Rattle.main_context.specs.declared.places.Place.{Place}
use Rattle.main_context.proofs.Order.{not_numbered, restarted}
use Rattle.main_context.proofs.PlaceOrder.{all_mapped, all_with, ascending_with, index_there, place, with_both, without_new}

-- ** one source more or less

-- the places with one more, if there is a rank
abbrev pub placed : Option ℤ → ℕ → List Place → List Place
placed r n l = with_any (option_map (λ t. place t n) r) l

pub placed_both : (r t : Option ℤ) (m n : ℕ) (l : List Place) → placed r m (placed t n l) ≡ placed t n (placed r m l)
placed_both None t m n l = refl
placed_both (Some r) None m n l = refl
placed_both (Some r) (Some t) m n l = with_both (place r m) (place t n) l

any_there : (p : Option Place) (l : List Place) → IsThere p (with_any p l)
any_there None l = tt
any_there (Some p) l = index_there p l

any_taken : (p : Option Place) (l : List Place) → without_any p (with_any p l) ≡ l
any_taken None l = refl
any_taken (Some p) l = without_new p l

module _ (rank : Source → Option ℤ) where
  placed_ascending : (r : Option ℤ) (n : ℕ) (l : List Place) → IsAscending l → IsAscending (placed r n l)
  placed_ascending None n l up = up
  placed_ascending (Some r) n l up = ascending_with (place r n) l up

  pub ascending : (l : List Source) → IsAscending (ranked rank l)
  ascending [] = tt
  ascending (s ∷ l) = placed_ascending (rank s) s.number (ranked rank l) (ascending l)

  -- of a source that is attached
  pub ranked_more : (s : Source) (l : List Source) → ranked rank (l ++ s ∷ []) ≡ placed (rank s) s.number (ranked rank l)
  ranked_more s [] = refl
  ranked_more s (x ∷ l) = ap (placed (rank x) x.number) (ranked_more s l) ∙ placed_both (rank x) (rank s) x.number s.number (ranked rank l)

  -- of a source that is removed
  pub ranked_without : (p : Source → Bool) (s : Source) (l : List Source) → find p l ≡ Some s → ranked rank l ≡ placed (rank s) s.number (ranked rank (without_first p l))
  ranked_without p s [] h = cc
  ranked_without p s (x ∷ l) h =
      elim (p x) as (λ t. cond t (Some x) (find p l) ≡ Some s → placed (rank x) x.number (ranked rank l) ≡ placed (rank s) s.number (ranked rank (cond t l (x ∷ without_first p l)))) [
        | true ↦ λ e. let same : x ≡ s = cc in rw same refl
        | false ↦ λ e. ap (placed (rank x) x.number) (ranked_without p s l e) ∙ placed_both (rank x) (rank s) x.number s.number (ranked rank (without_first p l))
      ] h

  -- the place of a source that is removed is there, and leaves the others
  pub place_there : (p : Source → Bool) (s : Source) (l : List Source) (places : List Place) → find p l ≡ Some s → places ≡ ranked rank l → IsThere (place_by rank s) places
  place_there p s l places found are =
      subst (IsThere (place_by rank s)) (sym (are ∙ ranked_without p s l found)) (any_there (place_by rank s) (ranked rank (without_first p l)))

  pub place_taken : (p : Source → Bool) (s : Source) (l : List Source) (places : List Place) → find p l ≡ Some s → places ≡ ranked rank l
      → without_any (place_by rank s) places ≡ ranked rank (without_first p l)
  place_taken p s l places found are =
      ap (without_any (place_by rank s)) (are ∙ ranked_without p s l found) ∙ any_taken (place_by rank s) (ranked rank (without_first p l))

  pub places_ascend : (l : List Source) (places : List Place) → places ≡ ranked rank l → IsAscending places
  places_ascend l places are = subst IsAscending (sym are) (ascending l)

  -- of a source that is restarted
  pub ranked_restarted : (moment number above : ℕ) (s : Source) (l : List Source) → RisesFrom above l → source_of number l ≡ Some s
      → ranked rank (rescheduled moment number l) ≡ with_any (place_by rank (restarted moment number s)) (ranked rank (without_source number l))
  ranked_restarted moment number above s [] rises h = cc
  ranked_restarted moment number above s (x ∷ l) rises h = elim (cases_Bool (is_numbered number x)) [
    | inl e ↦
        let same : x ≡ s = let found = simp e at h in cc in
        let low : number ≤ x.number = grind (arith, nat_tests) in
        let rest = ap (ranked rank) (not_numbered moment number l x.number rises.1 low) in
        rw (sym rest, same) (ap (λ t. with_any (place_by rank (restarted moment number s)) (ranked rank (cond t l (s ∷ without_source number l)))) (sym (ap (is_numbered number) (sym same) ∙ e)))
    | inr e ↦
        let found = simp e at h in
        let rest = ranked_restarted moment number x.number s l rises.1 found in
        let left : without_source number (x ∷ l) ≡ x ∷ without_source number l = rw e refl in
        let same : restarted moment number x ≡ x = rw e refl in
        ap (λ y. with_any (place_by rank y) (ranked rank (rescheduled moment number l))) same
        ∙ ap (with_any (place_by rank x)) rest
        ∙ placed_both (rank x) (rank (restarted moment number s)) x.number (restarted moment number s).number (ranked rank (without_source number l))
        ∙ ap (λ m. with_any (place_by rank (restarted moment number s)) (ranked rank m)) (sym left)
  ]

  -- of sources that are changed in neither rank nor number
  pub ranked_same : (f : Source → Source) → ((s : Source) → rank (f s) ≡ rank s) → ((s : Source) → (f s).number ≡ s.number) → (l : List Source) → ranked rank (map f l) ≡ ranked rank l
  ranked_same f h k [] = refl
  ranked_same f h k (s ∷ l) = rw (h s, k s) (ap (placed (rank s) s.number) (ranked_same f h k l))

  -- ** the numbers

  placed_above : (above n : ℕ) (r : Option ℤ) (l : List Place) → above < n → AllByRecursion (λ q. above < q.number) l → AllByRecursion (λ q. above < q.number) (placed r n l)
  placed_above above n None l new h = h
  placed_above above n (Some r) l new h = all_with (λ q. above < q.number) (place r n) l new h

  pub ranked_above : (above : ℕ) (l : List Source) → RisesFrom above l → AllByRecursion (λ q. above < q.number) (ranked rank l)
  ranked_above above [] rises = tt
  ranked_above above (s ∷ l) rises =
      placed_above above s.number (rank s) (ranked rank l) rises.0
      (all_mapped (λ q. s.number < q.number) (λ q. above < q.number) (λ q h. omega (arith, h, rises.0)) (ranked rank l) (ranked_above s.number l rises.1))

-- ** the first of a rank

-- a place of the same rank and a lower number
before_same : (q p : Place) (rank : ℤ) → is_before q p ≡ true → has_rank rank p ≡ true → p.number < q.number → has_rank rank q ≡ false
unfolding is_before
before_same q p rank h k later = grind (arith, ints, nat_tests)

first_with : (rank : ℤ) (p : Place) (l : List Place) → AllByRecursion (λ q. p.number < q.number) l → find (has_rank rank) (with_place p l) ≡ cond (has_rank rank p) (Some p) (find (has_rank rank) l)
first_with rank p [] h = refl
first_with rank p (q ∷ l) h = elim (cases_Bool (is_before q p)) [
  | inl e ↦ elim (cases_Bool (has_rank rank p)) [
    | inl f ↦ let other = before_same q p rank e f h.0 in let rest = first_with rank p l h.1 in simp (e, f, other) (simp f at rest)
    | inr f ↦ let rest = first_with rank p l h.1 in simp (e, f) (ap (λ o. cond (has_rank rank q) (Some q) o) (simp f at rest))
  ]
  | inr e ↦ simp e refl
]

same_test : (a b : ℕ) → has_rank (pos b) (place (pos a) 0) ≡ nat_eq a b
same_test a b = grind (arith, ints, nat_tests)

-- the first source of a program has the first place of this rank
pub first_of_program : (program above : ℕ) (l : List Source) → RisesFrom above l
    → option_map (λ (q : Place). q.number) (find (has_rank (pos program)) (ranked program_rank l)) ≡ option_map (λ (s : Source). s.number) (find (runs_program program) l)
first_of_program program above [] rises = refl
first_of_program program above (s ∷ l) rises =
    let first = first_with (pos program) (place (pos s.program) s.number) (ranked program_rank l) (ranked_above program_rank s.number l rises.1) in
    let same = same_test s.program program in
    ap (option_map (λ (q : Place). q.number)) first ∙
    elim (cases_Bool (nat_eq s.program program)) [
      | inl e ↦ let is : has_rank (pos program) (place (pos s.program) s.number) ≡ true = same ∙ e in rw (e, is) refl
      | inr e ↦ let is : has_rank (pos program) (place (pos s.program) s.number) ≡ false = same ∙ e in rw (e, is) (first_of_program program s.number l rises.1)
    ]

-- ** the first source that passes, by its number

found_above : (p : Source → Bool) (above : ℕ) (l : List Source) (s : Source) → RisesFrom above l → find p l ≡ Some s → above < s.number
found_above p above [] s rises h = cc
found_above p above (x ∷ l) s rises h =
    elim (p x) as (λ t. cond t (Some x) (find p l) ≡ Some s → above < s.number) [
      | true ↦ λ e. let same : x ≡ s = cc in omega (arith, rises.0, ap (λ (y : Source). y.number) same)
      | false ↦ λ e. omega (arith, rises.0, found_above p x.number l s rises.1 e)
    ] h

-- a source is the first that passes and has its number
pub record IsTheFirst (p : Source → Bool) (l : List Source) (s : Source) : Type 0 where
  pub found : source_of s.number l ≡ Some s
  pub left : without_source s.number l ≡ without_first p l

pub first_by_number : (p : Source → Bool) (above : ℕ) (l : List Source) (s : Source) → RisesFrom above l → find p l ≡ Some s → IsTheFirst p l s
first_by_number p above [] s rises h = cc
first_by_number p above (x ∷ l) s rises h = elim (cases_Bool (p x)) [
  | inl e ↦
      let same : x ≡ s = let found = simp e at h in cc in
      let is : is_numbered s.number x ≡ true = grind (arith, nat_tests, ap (λ (y : Source). y.number) same) in
      record { found = rw is (ap Some same); left = rw (is, e) refl }
  | inr e ↦
      let found = simp e at h in
      let later = found_above p x.number l s rises.1 found in
      let other : is_numbered s.number x ≡ false = grind (arith, nat_tests) in
      let rest = first_by_number p x.number l s rises.1 found in
      record { found = rw other rest.found; left = rw (other, e) (ap (λ m. x ∷ m) rest.left) }
]
