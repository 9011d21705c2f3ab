-- The ready sources by priority.
use Rattle.std.proofs.Common.{◌≡◌, ℕ, ◌<◌, ◌+◌, ℤ, pos, Bool, true, false, cond, nat_le, int_le, List, [], ◌∷◌, ◌++◌, length, get_or, take, option_map, Option, None, Some, refl, sym, ap, ◌∙◌, arith, inl, inr}
use Rattle.std.specs.List.{AllByRecursion, filter}
use Rattle.std.proofs.lemmas.Bool.{cases_Bool}
use Rattle.std.proofs.lemmas.Bool.Decides.{nat_tests}
use Rattle.std.proofs.lemmas.Int.{ints}
use Rattle.std.proofs.lemmas.List.{take_more}
use Rattle.ui_machine.specs.State.Sources.{Source, source_of}
use Rattle.main_context.specs.Places.{IsAscending, all_added, by_priority, idle_rank, is_before, is_up_to, priority_place, ranked, ready_rank, timeout_rank, up_to, with_any, with_place}
use Rattle.main_context.specs.declared.places.Place.{Place}
use Rattle.main_context.proofs.PlaceOrder.{all_added_passing, all_added_with, ascending_with, place, with_both}

any_both : (o u : Option Place) (l : List Place) → with_any o (with_any u l) ≡ with_any u (with_any o l)
any_both None u l = refl
any_both (Some p) None l = refl
any_both (Some p) (Some q) l = with_both p q l

any_ascending : (o : Option Place) (l : List Place) → IsAscending l → IsAscending (with_any o l)
any_ascending None l up = up
any_ascending (Some p) l up = ascending_with p l up

module _ (sources : List Source) where
  pub by_priority_more : (l : List Place) (p : Place) → by_priority sources (l ++ p ∷ []) ≡ with_any (priority_place sources p.number) (by_priority sources l)
  by_priority_more [] p = refl
  by_priority_more (q ∷ l) p =
      ap (with_any (priority_place sources q.number)) (by_priority_more l p)
      ∙ any_both (priority_place sources q.number) (priority_place sources p.number) (by_priority sources l)

  pub by_priority_take : (l : List Place) (i : ℕ) (d : Place) → i < length l
      → by_priority sources (take (i + 1) l) ≡ with_any (priority_place sources (get_or l i d).number) (by_priority sources (take i l))
  by_priority_take l i d small = ap (by_priority sources) (take_more l i d small) ∙ by_priority_more (take i l) (get_or l i d)

  pub by_priority_ascends : (l : List Place) → IsAscending (by_priority sources l)
  by_priority_ascends [] = tt
  by_priority_ascends (q ∷ l) = any_ascending (priority_place sources q.number) (by_priority sources l) (by_priority_ascends l)

  by_priority_passing : (t : Place → Bool) (q : Place) (l : List Place)
      → by_priority sources (filter t (with_place q l)) ≡ cond (t q) (with_any (priority_place sources q.number) (by_priority sources (filter t l))) (by_priority sources (filter t l))
  by_priority_passing t q [] = elim (cases_Bool (t q)) [
    | inl e ↦ simp e refl
    | inr e ↦ simp e refl
  ]
  by_priority_passing t q (a ∷ l) = elim (cases_Bool (is_before a q)) [
    | inl e ↦
        let rest = by_priority_passing t q l in
        elim (cases_Bool (t a)) [
          | inl f ↦ elim (cases_Bool (t q)) [
            | inl g ↦
                let r = simp g at rest in
                simp (e, f, g) (ap (with_any (priority_place sources a.number)) r ∙ any_both (priority_place sources a.number) (priority_place sources q.number) (by_priority sources (filter t l)))
            | inr g ↦ let r = simp g at rest in simp (e, f, g) (ap (with_any (priority_place sources a.number)) r)
          ]
          | inr f ↦ simp (e, f) rest
        ]
    | inr e ↦ elim (cases_Bool (t q)) [
      | inl g ↦ simp (e, g) refl
      | inr g ↦ simp (e, g) refl
    ]
  ]

-- ** what a turn collects

due_test : (due moment number : ℕ) → is_up_to (pos moment) (place (pos due) number) ≡ nat_le due moment
due_test due moment number = grind (arith, ints, nat_tests)

kept_if : (t : Bool) (r : ℤ) (n : ℕ) (l : List Place) → cond t (with_place (place r n) l) l ≡ with_any (option_map (λ u. place u n) (cond t (Some r) None)) l
kept_if true r n l = refl
kept_if false r n l = refl

added_any : (more : List Place) (o : Option Place) (l : List Place) → all_added more (with_any o l) ≡ with_any o (all_added more l)
added_any more None l = refl
added_any more (Some q) l = all_added_with more q l

module _ (moment : ℕ) (p : ℤ) (sources : List Source) where
  -- the rank of a source in a turn, in which the idles up to a priority and the timeouts that are due have one
  abbrev pub turn_rank : Source → Option ℤ
  turn_rank s = of_interval s.interval
    where
      of_interval : Option ℕ → Option ℤ
      of_interval None = cond (int_le s.priority p) (Some s.priority) None
      of_interval (Some interval) = cond (nat_le s.due moment) (Some s.priority) None

  abbrev pub collected : List Source → List Place
  collected l = all_added (up_to p (ranked idle_rank l)) (by_priority sources (up_to (pos moment) (ranked timeout_rank l)))

  pub joined : (l : List Source) → AllByRecursion (λ (s : Source). source_of s.number sources ≡ Some s) l → collected l ≡ ranked turn_rank l
  joined [] h = refl
  joined (s ∷ l) h = by s.interval refl (joined l h.1)
    where
      by : (o : Option ℕ) → s.interval ≡ o → collected l ≡ ranked turn_rank l → collected (s ∷ l) ≡ ranked turn_rank (s ∷ l)
      by None e rest =
          let q = place s.priority s.number in
          let own : collected (s ∷ l) ≡ all_added (filter (is_up_to p) (with_place q (ranked idle_rank l))) (by_priority sources (up_to (pos moment) (ranked timeout_rank l))) = rw e refl in
          let rank : turn_rank s ≡ cond (int_le s.priority p) (Some s.priority) None = rw e refl in
          own ∙ all_added_passing (is_up_to p) q (ranked idle_rank l) (by_priority sources (up_to (pos moment) (ranked timeout_rank l)))
          ∙ ap (λ m. cond (is_up_to p q) (with_place q m) m) rest
          ∙ kept_if (int_le s.priority p) s.priority s.number (ranked turn_rank l)
          ∙ sym (ap (λ r. with_any (option_map (λ u. place u s.number) r) (ranked turn_rank l)) rank)
      by (Some i) e rest =
          let q = place (pos s.due) s.number in
          let own : collected (s ∷ l) ≡ all_added (up_to p (ranked idle_rank l)) (by_priority sources (filter (is_up_to (pos moment)) (with_place q (ranked timeout_rank l)))) = rw e refl in
          let rank : turn_rank s ≡ cond (nat_le s.due moment) (Some s.priority) None = rw e refl in
          let found : priority_place sources s.number ≡ Some (place s.priority s.number) = ap (option_map (λ (x : Source). place x.priority x.number)) h.0 in
          let base = by_priority sources (up_to (pos moment) (ranked timeout_rank l)) in
          own
          ∙ ap (all_added (up_to p (ranked idle_rank l)))
          (by_priority_passing sources (is_up_to (pos moment)) q (ranked timeout_rank l)
          ∙ ap (λ o. cond (is_up_to (pos moment) q) (with_any o base) base) found
          ∙ ap (λ t. cond t (with_place (place s.priority s.number) base) base) (due_test s.due moment s.number)
          ∙ kept_if (nat_le s.due moment) s.priority s.number base)
          ∙ added_any (up_to p (ranked idle_rank l)) (option_map (λ u. place u s.number) (cond (nat_le s.due moment) (Some s.priority) None)) base
          ∙ ap (with_any (option_map (λ u. place u s.number) (cond (nat_le s.due moment) (Some s.priority) None))) rest
          ∙ sym (ap (λ r. with_any (option_map (λ u. place u s.number) r) (ranked turn_rank l)) rank)

-- ** the ready timeouts

module _ (moment : ℕ) (sources : List Source) where
  pub due_ranked : (l : List Source) → AllByRecursion (λ (s : Source). source_of s.number sources ≡ Some s) l → by_priority sources (up_to (pos moment) (ranked timeout_rank l)) ≡ ranked (ready_rank moment) l
  due_ranked [] h = refl
  due_ranked (s ∷ l) h = by s.interval refl (due_ranked l h.1)
    where
      by : (o : Option ℕ) → s.interval ≡ o → by_priority sources (up_to (pos moment) (ranked timeout_rank l)) ≡ ranked (ready_rank moment) l → by_priority sources (up_to (pos moment) (ranked timeout_rank (s ∷ l))) ≡ ranked (ready_rank moment) (s ∷ l)
      by None e rest =
          let own : by_priority sources (up_to (pos moment) (ranked timeout_rank (s ∷ l))) ≡ (by_priority sources (up_to (pos moment) (ranked timeout_rank l))) = rw e refl in
          let rank : ready_rank moment s ≡ None = rw e refl in
          own ∙ rest ∙ sym (ap (λ r. with_any (option_map (λ u. place u s.number) r) (ranked (ready_rank moment) l)) rank)
      by (Some i) e rest =
          let q = place (pos s.due) s.number in
          let own : by_priority sources (up_to (pos moment) (ranked timeout_rank (s ∷ l))) ≡ by_priority sources (filter (is_up_to (pos moment)) (with_place q (ranked timeout_rank l))) = rw e refl in
          let rank : ready_rank moment s ≡ cond (nat_le s.due moment) (Some s.priority) None = rw e refl in
          let found : priority_place sources s.number ≡ Some (place s.priority s.number) = ap (option_map (λ (x : Source). place x.priority x.number)) h.0 in
          own
          ∙ by_priority_passing sources (is_up_to (pos moment)) q (ranked timeout_rank l)
          ∙ ap (λ o. cond (is_up_to (pos moment) q) (with_any o (by_priority sources (up_to (pos moment) (ranked timeout_rank l)))) (by_priority sources (up_to (pos moment) (ranked timeout_rank l)))) found
          ∙ ap (λ t. cond t (with_place (place s.priority s.number) (by_priority sources (up_to (pos moment) (ranked timeout_rank l)))) (by_priority sources (up_to (pos moment) (ranked timeout_rank l)))) (due_test s.due moment s.number)
          ∙ kept_if (nat_le s.due moment) s.priority s.number (by_priority sources (up_to (pos moment) (ranked timeout_rank l)))
          ∙ ap (with_any (option_map (λ u. place u s.number) (cond (nat_le s.due moment) (Some s.priority) None))) rest
          ∙ sym (ap (λ r. with_any (option_map (λ u. place u s.number) r) (ranked (ready_rank moment) l)) rank)
