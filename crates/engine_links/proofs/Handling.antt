-- The programs that classes run for signals, class by class.
use Rattle.std.proofs.Common.{◌≡◌, ◌+◌, ◌<◌, ◌≤◌, ◌++◌, ◌∷◌, ◌∙◌, ℕ, zero, suc, List, [], Option, None, Some, IfSome, length, option_and_then, slice_get, take, refl, sym, ap, subst, inl, inr, arith}
use Rattle.std.proofs.lemmas.Bool.{cases_lt}
use Rattle.ui_machine.specs.Definition.{Definition}
use Rattle.ui_machine.specs.Definition.Lookups.{class_of, no_class}
use Rattle.ui_machine.specs.Definition.Signals.{Signal}
use Rattle.ui_machine.specs.Rules.EmissionPlan.{class_handler_of}
use Rattle.ui_machine.specs.Seq.{read}
use Rattle.engine_links.specs.Linked.{AreHandlers, handler_at}
use Rattle.engine_links.specs.Steps.{ArePairwise, IsHandler}
use Rattle.definitions.proofs.ClassNames.{past_last}
use Rattle.engine_links.proofs.Linking.{pairwise_at, pairwise_more}
use Rattle.engine_links.proofs.Reading.{read-past}

-- one signal more of a class
pub handled_more : (d : Definition) (class : ℕ) (signals : List Signal) (n : ℕ) (row new : List (Option ℕ)) (p : Option ℕ) → n < length signals
    → p ≡ option_and_then (λ (s : Signal). class_handler_of d class s.name) (slice_get signals n) → new ≡ row ++ p ∷ []
    → ArePairwise (IsHandler d class) (take n signals) row → ArePairwise (IsHandler d class) (take (n + 1) signals) new
handled_more d class signals n row new p within is more so = by (slice_get signals n) refl
  where
    by : (o : Option Signal) → slice_get signals n ≡ o → ArePairwise (IsHandler d class) (take (n + 1) signals) new
    by None e = absurd (let past = past_last signals n e in omega (arith, within, past))
    by (Some s) e = pairwise_more (IsHandler d class) signals n s row new p e more (is ∙ ap (option_and_then (λ (s : Signal). class_handler_of d class s.name)) e) so

module _ (d : Definition) where
  -- each row is that of a class
  abbrev pub EachRow : List (List (Option ℕ)) → Type 0
  EachRow rows = (c : ℕ) → c < length rows → ArePairwise (IsHandler d c) (class_of d c).signals (read [] rows c)

  pub rows_more : (rows : List (List (Option ℕ))) (row : List (Option ℕ)) → EachRow rows → ArePairwise (IsHandler d (length rows)) (class_of d (length rows)).signals row
      → EachRow (rows ++ row ∷ [])
  rows_more rows row all last c small = by_place rows c (all c) (λ e. subst (λ u. ArePairwise (IsHandler d u) (class_of d u).signals row) (sym e) last) small
    where
      by_place : (rs : List (List (Option ℕ))) (i : ℕ) → (i < length rs → ArePairwise (IsHandler d c) (class_of d c).signals (read [] rs i))
          → (i ≡ length rs → ArePairwise (IsHandler d c) (class_of d c).signals row)
          → i < length (rs ++ row ∷ []) → ArePairwise (IsHandler d c) (class_of d c).signals (read [] (rs ++ row ∷ []) i)
      by_place [] zero here end small = end refl
      by_place [] (suc i) here end small = absurd (omega arith)
      by_place (r ∷ rs) zero here end small = here (omega arith)
      by_place (r ∷ rs) (suc i) here end small = by_place rs i (λ lt. here (omega (arith, lt))) (λ e. end (ap suc e)) (omega (arith, small))

  -- all classes have their programs, where there is a row for each
  pub all_handled : (rows : List (List (Option ℕ))) → EachRow rows → length d.classes ≤ length rows → AreHandlers d rows
  all_handled rows each long class number = elim (cases_lt class (length rows)) [
    | inl known ↦ pairwise_at (IsHandler d class) (class_of d class).signals (read [] rows class) None (each class known) number
    | inr past ↦ subst (λ (signals : List Signal). IfSome (slice_get signals number) (λ s. handler_at rows class number ≡ class_handler_of d class s.name))
        (sym (ap (λ k. k.signals) (read-past no_class d.classes class (omega (arith, past, long))))) tt
  ]
