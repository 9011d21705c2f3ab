-- Bindings that are kept stay so where one is made, ends, or is changed.
use Rattle.std.proofs.Common.{◌≡◌, ◌∙◌, ℕ, ◌-◌, ◌<◌, ◌++◌, ◌^◌, Bool, true, false, cond, not, nat_eq, map, List, [], ◌∷◌, Some, refl, sym, ap, subst, arith}
use Rattle.std.proofs.lemmas.Bool.{false≢true}
use Rattle.std.proofs.lemmas.Bool.Decides.{nat_tests}
use Rattle.std.specs.BTreeMap.{insert_entry, is_at}
use Rattle.std.specs.List.{AllByRecursion, filter, find}
use Rattle.std.specs.Map.{lookup, remove_entry, set_value, values_of}
use Rattle.std.specs.Ordering.{nat_cmp}
use Rattle.ui_machine.specs.State.Bindings.{Binding}
use Rattle.bindings.specs.Kept.{IsKept, IsListed, Numbered, numbered}
use Rattle.bindings.specs.declared.listings.Listings.{Listings}
use Rattle.bindings.proofs.Keeping.{all_filter, all_one, all_push, all_two, found_same, keyed_again, look, put, take_out, written}
use Rattle.bindings.proofs.Rises.{numbered_filter, numbered_map, numbered_push}

module _ (es : List (ℕ × Binding)) (l : Listings) (kept : IsKept es l) where
  -- the binding of a number
  pub at_number : (n : ℕ) → lookup (is_at (nat_cmp n)) es ≡ find (λ b. nat_eq b.number n) (values_of es)
  at_number n = ap (lookup (is_at (nat_cmp n))) kept.keyed ∙ look n (values_of es)

  -- ** one that ends

  gone_entries : (n : ℕ) (new : List (ℕ × Binding)) → new ≡ remove_entry (is_at (nat_cmp n)) es → new ≡ numbered (filter (λ b. not (nat_eq b.number n)) (values_of es))
  gone_entries n new e = e ∙ ap (remove_entry (is_at (nat_cmp n))) kept.keyed ∙ take_out n 0 (values_of es) (2 ^ 64 - 1) kept.rising

  pub gone_values : (n : ℕ) (new : List (ℕ × Binding)) → new ≡ remove_entry (is_at (nat_cmp n)) es → values_of new ≡ filter (λ b. not (nat_eq b.number n)) (values_of es)
  gone_values n new e = (keyed_again new (filter (λ b. not (nat_eq b.number n)) (values_of es)) (gone_entries n new e)).0

  others : (n : ℕ) (bs : List Binding) → AllByRecursion (λ (b : Binding). b.number ≡ n → ⊥) (filter (λ b. not (nat_eq b.number n)) bs)
  others n [] = tt
  others n (x ∷ bs) = by (nat_eq x.number n) refl (others n bs)
    where
      rest : List Binding
      rest = filter (λ b. not (nat_eq b.number n)) bs

      by : (t : Bool) → nat_eq x.number n ≡ t → AllByRecursion (λ (b : Binding). b.number ≡ n → ⊥) rest → AllByRecursion (λ (b : Binding). b.number ≡ n → ⊥) (cond (not t) (x ∷ rest) rest)
      by true e rec = rec
      by false e rec = (λ same. false≢true (sym e ∙ (grind (arith, nat_tests))), rec)

  pub gone_kept : (n : ℕ) (new : List (ℕ × Binding)) (m : Listings) → new ≡ remove_entry (is_at (nat_cmp n)) es
      → ((b : Binding) → (b.number ≡ n → ⊥) → IsListed l b → IsListed m b) → IsKept new m
  gone_kept n new m e stays =
      let bs = values_of es in
      let left : List Binding = filter (λ b. not (nat_eq b.number n)) bs in
      let same = keyed_again new left (gone_entries n new e) in
      record {
        rising = subst (λ these. Numbered 0 these (2 ^ 64 - 1)) (sym same.0) (numbered_filter (λ b. not (nat_eq b.number n)) 0 bs (2 ^ 64 - 1) kept.rising);
        keyed = same.1;
        listed = subst (AllByRecursion (IsListed m)) (sym same.0)
            (all_two (λ b. b.number ≡ n → ⊥) (IsListed l) (IsListed m) stays left (others n bs) (all_filter (IsListed l) (λ b. not (nat_eq b.number n)) bs kept.listed));
      }

  -- ** one more, of a number above the others

  module _ (n : ℕ) (below : AllByRecursion (λ (b : Binding). b.number < n) (values_of es)) where
    more_entries : (x : Binding) (new : List (ℕ × Binding)) → new ≡ insert_entry nat_cmp es n x → x.number ≡ n → new ≡ numbered (values_of es ++ x ∷ [])
    more_entries x new e same = e ∙ ap (λ these. insert_entry nat_cmp these n x) kept.keyed ∙ put n x same (values_of es) below

    pub more_values : (x : Binding) (new : List (ℕ × Binding)) → new ≡ insert_entry nat_cmp es n x → x.number ≡ n → values_of new ≡ values_of es ++ x ∷ []
    more_values x new e same = (keyed_again new (values_of es ++ x ∷ []) (more_entries x new e same)).0

    -- each has another number
    others_below : AllByRecursion (λ (b : Binding). b.number ≡ n → ⊥) (values_of es)
    others_below = all_one (λ b. b.number < n) (λ b. b.number ≡ n → ⊥) (λ b low same. omega (arith, low, same)) (values_of es) below

    pub more_kept : (x : Binding) (new : List (ℕ × Binding)) (m : Listings) → new ≡ insert_entry nat_cmp es n x → x.number ≡ n → n < 2 ^ 64 - 1
        → ((b : Binding) → (b.number ≡ n → ⊥) → IsListed l b → IsListed m b) → IsListed m x → IsKept new m
    more_kept x new m e same few stays mine =
        let bs = values_of es in
        let is = keyed_again new (bs ++ x ∷ []) (more_entries x new e same) in
        record {
          rising = subst (λ these. Numbered 0 these (2 ^ 64 - 1)) (sym is.0)
              (numbered_push 0 bs (2 ^ 64 - 1) x (omega arith) (subst (λ k. AllByRecursion (λ (b : Binding). b.number < k) bs) (sym same) below) (omega (arith, same, few)) kept.rising);
          keyed = is.1;
          listed = subst (AllByRecursion (IsListed m)) (sym is.0)
              (all_push (IsListed m) bs x (all_two (λ b. b.number ≡ n → ⊥) (IsListed l) (IsListed m) stays bs others_below kept.listed) mine);
        }

    -- where none is made after all, and what is listed was changed for none
    pub same_kept : (m : Listings) → ((b : Binding) → (b.number ≡ n → ⊥) → IsListed l b → IsListed m b) → IsKept es m
    same_kept m stays = record {
      rising = kept.rising;
      keyed = kept.keyed;
      listed = all_two (λ b. b.number ≡ n → ⊥) (IsListed l) (IsListed m) stays (values_of es) others_below kept.listed;
    }

  -- ** one that is changed

  module _ (n : ℕ) (w : Binding) (new : List (ℕ × Binding)) (e : new ≡ set_value (is_at (nat_cmp n)) es w) (same : w.number ≡ n) where
    abbrev changed : Binding → Binding
    changed b = cond (nat_eq b.number n) w b

    written_entries : new ≡ numbered (map changed (values_of es))
    written_entries = e ∙ ap (λ these. set_value (is_at (nat_cmp n)) these w) kept.keyed ∙ written n w same 0 (values_of es) (2 ^ 64 - 1) kept.rising

    pub written_values : values_of new ≡ map (λ b. cond (nat_eq b.number n) w b) (values_of es)
    written_values = (keyed_again new (map changed (values_of es)) written_entries).0

    number_stays : (b : Binding) → (changed b).number ≡ b.number
    number_stays b = by (nat_eq b.number n) refl
      where
        by : (t : Bool) → nat_eq b.number n ≡ t → (cond t w b).number ≡ b.number
        by true at = let here : b.number ≡ n = grind (arith, nat_tests) in same ∙ sym here
        by false at = refl

    -- what it is looked up by is the same
    module _ (x : Binding) (found : find (λ b. nat_eq b.number n) (values_of es) ≡ Some x) (listed : IsListed l x → IsListed l w) where
      listed_still : (b : Binding) → IsListed l b → (nat_eq b.number n ≡ true → b ≡ x) → IsListed l (changed b)
      listed_still b mine is = by (nat_eq b.number n) is
        where
          by : (t : Bool) → (t ≡ true → b ≡ x) → IsListed l (cond t w b)
          by true is = listed (subst (IsListed l) (is refl) mine)
          by false is = mine

      pub written_kept : IsKept new l
      written_kept =
          let bs = values_of es in
          let is = keyed_again new (map changed bs) written_entries in
          record {
            rising = subst (λ these. Numbered 0 these (2 ^ 64 - 1)) (sym is.0) (numbered_map changed number_stays 0 bs (2 ^ 64 - 1) kept.rising);
            keyed = is.1;
            listed = subst (AllByRecursion (IsListed l)) (sym is.0) (all_changed bs kept.listed (found_same n x 0 bs (2 ^ 64 - 1) kept.rising found));
          }
        where
          all_changed : (bs : List Binding) → AllByRecursion (IsListed l) bs → AllByRecursion (λ b. nat_eq b.number n ≡ true → b ≡ x) bs → AllByRecursion (IsListed l) (map changed bs)
          all_changed [] all is = tt
          all_changed (b ∷ bs) all is = (listed_still b all.0 is.0, all_changed bs all.1 is.1)
