-- The least priority number of the ready sources, from the first places of the idles and of the ready timeouts.
use Rattle.std.proofs.Common.{◌≡◌, ℕ, ℤ, true, false, cond, nat_le, List, [], ◌∷◌, slice_get, option_map, Option, Some, None, refl, sym, ap, subst, ◌∙◌, arith, inl, inr}
use Rattle.std.specs.Int.{int_min}
use Rattle.std.specs.List.{filter}
use Rattle.std.proofs.lemmas.Bool.{cases_Bool}
use Rattle.std.proofs.lemmas.Bool.Decides.{nat_tests}
use Rattle.std.proofs.lemmas.Int.{ints}
use Rattle.ui_machine.specs.State.Sources.{Source}
use Rattle.ui_machine.specs.Rules.MainLoop.{is_ready, is_foremost, ready}
use Rattle.main_context.specs.Places.{idle_rank, is_before, least_rank, ranked, ready_rank, with_place}
use Rattle.main_context.specs.Priorities.{IsLeast, is_ready_at}
use Rattle.main_context.specs.declared.places.Place.{Place}
use Rattle.main_context.proofs.Least.{IsLeastOf, filter_least, filter_none, least_more, least_passed, lower}
use Rattle.main_context.proofs.PlaceOrder.{place}
use Rattle.main_context.proofs.Ranked.{placed}

-- the ready sources of the least priority
pub ready_at_least : (moment : ℕ) (xs : List Source) (p : ℤ) → IsLeast moment xs (Some p) → filter (is_ready_at moment p) xs ≡ ready moment xs
ready_at_least moment xs p h = filter_least (is_ready moment) (λ t. t.priority) p xs xs h.0 h.1 h.1

pub ready_none : (moment : ℕ) (xs : List Source) → IsLeast moment xs None → ready moment xs ≡ []
ready_none moment xs h = filter_none (is_ready moment) (is_foremost moment xs) xs h

-- ** the least rank is that of the first place

-- the rank of the first place, if there is one
abbrev pub first_rank : List Place → Option ℤ
first_rank l = option_map (λ (q : Place). q.rank) (slice_get l 0)

-- the least rank of sources, if one has a rank
abbrev pub least : (Source → Option ℤ) → List Source → Option ℤ
least rank [] = None
least rank (s ∷ l) = lower (rank s) (least rank l)

before_is_lower : (a q : Place) → is_before a q ≡ true → a.rank ≡ int_min q.rank a.rank
unfolding is_before
before_is_lower a q h = grind (arith, ints, nat_tests)

other_is_lower : (a q : Place) → is_before a q ≡ false → q.rank ≡ int_min q.rank a.rank
unfolding is_before
other_is_lower a q h = grind (arith, ints, nat_tests)

first_with : (q : Place) (l : List Place) → first_rank (with_place q l) ≡ lower (Some q.rank) (first_rank l)
first_with q [] = refl
first_with q (a ∷ l) = elim (cases_Bool (is_before a q)) [
  | inl e ↦ ap (λ t. first_rank (cond t (a ∷ with_place q l) (q ∷ a ∷ l))) e ∙ ap Some (before_is_lower a q e)
  | inr e ↦ ap (λ t. first_rank (cond t (a ∷ with_place q l) (q ∷ a ∷ l))) e ∙ ap Some (other_is_lower a q e)
]

first_placed : (r : Option ℤ) (n : ℕ) (l : List Place) → first_rank (placed r n l) ≡ lower r (first_rank l)
first_placed None n l = refl
first_placed (Some r) n l = first_with (place r n) l

first_ranked : (rank : Source → Option ℤ) (l : List Source) → first_rank (ranked rank l) ≡ least rank l
first_ranked rank [] = refl
first_ranked rank (s ∷ l) = first_placed (rank s) s.number (ranked rank l) ∙ ap (lower (rank s)) (first_ranked rank l)

-- ** the least of idles and timeouts

min_through : (a b c : ℤ) → int_min (int_min a b) c ≡ int_min a (int_min b c)
min_through a b c = grind (arith, ints)

min_swapped : (a b : ℤ) → int_min b a ≡ int_min a b
min_swapped a b = grind (arith, ints)

min_across : (a b c : ℤ) → int_min b (int_min a c) ≡ int_min a (int_min b c)
min_across a b c = grind (arith, ints)

-- the lower of three, of which one is there
lower_through : (a : ℤ) (u v : Option ℤ) → lower (lower (Some a) u) v ≡ lower (Some a) (lower u v)
lower_through a None None = refl
lower_through a None (Some c) = refl
lower_through a (Some b) None = refl
lower_through a (Some b) (Some c) = ap Some (min_through a b c)

lower_across : (a : ℤ) (u v : Option ℤ) → lower u (lower (Some a) v) ≡ lower (Some a) (lower u v)
lower_across a None v = refl
lower_across a (Some b) None = ap Some (min_swapped a b)
lower_across a (Some b) (Some c) = ap Some (min_across a b c)

-- the lower of the least priorities of the idles and of the ready timeouts
abbrev pub least_of_both : ℕ → List Source → Option ℤ
least_of_both moment l = lower (least idle_rank l) (least (ready_rank moment) l)

module _ (moment : ℕ) where
  -- the least priority of the ready sources is this
  abbrev Least : List Source → Option ℤ → Type 0
  Least l o = IsLeastOf (is_ready moment) (λ t. t.priority) l o

  -- the lower of two priorities of a source and those of the others
  abbrev with_ranks : Option ℤ → Option ℤ → List Source → Option ℤ
  with_ranks u v l = lower (lower u (least idle_rank l)) (lower v (least (ready_rank moment) l))

  on : (s : Source) (l : List Source) (u v : Option ℤ) → idle_rank s ≡ u → ready_rank moment s ≡ v → is_ready moment s ≡ true → with_ranks u v l ≡ lower (Some s.priority) (least_of_both moment l)
      → Least l (least_of_both moment l) → Least (s ∷ l) (with_ranks (idle_rank s) (ready_rank moment s) l)
  on s l u v eu ev is same h =
      subst (Least (s ∷ l)) (sym (ap (λ o. with_ranks o (ready_rank moment s) l) eu ∙ ap (λ o. with_ranks u o l) ev ∙ same))
      (least_more (is_ready moment) (λ t. t.priority) s l (least_of_both moment l) is h)

  off : (s : Source) (l : List Source) → idle_rank s ≡ None → ready_rank moment s ≡ None → is_ready moment s ≡ false
      → Least l (least_of_both moment l) → Least (s ∷ l) (with_ranks (idle_rank s) (ready_rank moment s) l)
  off s l eu ev is h =
      subst (Least (s ∷ l)) (sym (ap (λ o. with_ranks o (ready_rank moment s) l) eu ∙ ap (λ o. with_ranks None o l) ev))
      (least_passed (is_ready moment) (λ t. t.priority) s l (least_of_both moment l) is h)

  is_least : (l : List Source) → Least l (least_of_both moment l)
  is_least [] = refl
  is_least (s ∷ l) = by s.interval refl (is_least l)
    where
      by : (o : Option ℕ) → s.interval ≡ o → Least l (least_of_both moment l) → Least (s ∷ l) (with_ranks (idle_rank s) (ready_rank moment s) l)
      by None e h = on s l (Some s.priority) None (rw e refl) (rw e refl) (rw e refl) (lower_through s.priority (least idle_rank l) (least (ready_rank moment) l)) h
      by (Some i) e h = elim (cases_Bool (nat_le s.due moment)) [
        | inl f ↦ on s l None (Some s.priority) (rw e refl) (rw (e, f) refl) (rw (e, f) refl) (lower_across s.priority (least idle_rank l) (least (ready_rank moment) l)) h
        | inr f ↦ off s l (rw e refl) (rw (e, f) refl) (rw (e, f) refl) h
      ]

  as_least : (l : List Source) (o : Option ℤ) → Least l o → IsLeast moment l o
  as_least l None h = h
  as_least l (Some p) h = h

least_of_places : (u v : Option Place) → least_rank u v ≡ lower (option_map (λ (q : Place). q.rank) u) (option_map (λ (q : Place). q.rank) v)
least_of_places None None = refl
least_of_places None (Some q) = refl
least_of_places (Some p) None = refl
least_of_places (Some p) (Some q) = refl

-- the first places of the idles and of the ready timeouts have the least priority
pub least_of_firsts : (moment : ℕ) (l : List Source) → IsLeast moment l (least_rank (slice_get (ranked idle_rank l) 0) (slice_get (ranked (ready_rank moment) l) 0))
least_of_firsts moment l =
    subst (IsLeast moment l)
    (sym (least_of_places (slice_get (ranked idle_rank l) 0) (slice_get (ranked (ready_rank moment) l) 0)
    ∙ ap (λ o. lower o (first_rank (ranked (ready_rank moment) l))) (first_ranked idle_rank l)
    ∙ ap (lower (least idle_rank l)) (first_ranked (ready_rank moment) l)))
    (as_least moment l (least_of_both moment l) (is_least moment l))
