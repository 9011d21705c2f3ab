-- Handlers that are kept stay so where one is connected, goes, or is changed.
use Rattle.std.proofs.Common.{◌≡◌, ◌∙◌, ℕ, ◌+◌, ◌-◌, ◌<◌, ◌≤◌, ◌++◌, Bool, true, false, cond, not, nat_eq, count_by, map, List, [], ◌∷◌, Some, refl, sym, ap, subst, arith}
use Rattle.std.proofs.lemmas.Bool.{false≢true}
use Rattle.std.proofs.lemmas.Bool.Decides.{nat_tests}
use Rattle.std.specs.BTreeMap.{insert_entry, is_at}
use Rattle.std.specs.List.{AllByRecursion, filter, find}
use Rattle.std.specs.Map.{lookup, remove_entry, set_value, values_of}
use Rattle.std.specs.Ordering.{nat_cmp}
use Rattle.ui_machine.specs.Rules.Connections.{by_code_to}
use Rattle.ui_machine.specs.State.Handlers.{Handler}
use Rattle.signal_core.specs.Connected.{HasNumbers, Numbered}
use Rattle.signal_core.specs.Kept.{IsBeside, IsKept, IsListed, count_at, numbered}
use Rattle.signal_core.specs.declared.listings.Listings.{Listings}
use Rattle.signal_core.proofs.Keeping.{all_filter, all_one, all_push, all_two, all_within, count_cons, counts_less, counts_more, found_same, keyed_again, look, put, take_out, written}
use Rattle.signal_core.proofs.Numbers.{numbered_filter, numbered_map, numbered_push}

-- one that is blocked is listed where it was listed before
pub blocked_listed : (l : Listings) (w x : Handler) → IsListed l x → IsBeside w x → (w.blocks ≡ 0 → ⊥) → IsListed l w
blocked_listed l w x mine beside blocks = subst (IsListed l) (sym beside) (λ whole none. absurd (blocks none), mine.1, mine.2, mine.3)

module _ (es : List (ℕ × Handler)) (l : Listings) (last to_come : ℕ) (kept : IsKept es l last to_come) where
  -- the handler of a number
  pub at_number : (n : ℕ) → lookup (is_at (nat_cmp n)) es ≡ find (λ h. nat_eq h.number n) (values_of es)
  at_number n = ap (lookup (is_at (nat_cmp n))) kept.keyed ∙ look n (values_of es)

  -- ** one that goes

  gone_entries : (n : ℕ) (new : List (ℕ × Handler)) → new ≡ remove_entry (is_at (nat_cmp n)) es → new ≡ numbered (filter (λ h. not (nat_eq h.number n)) (values_of es))
  gone_entries n new e = e ∙ ap (remove_entry (is_at (nat_cmp n))) kept.keyed ∙ take_out n 0 (values_of es) last kept.rising

  pub gone_values : (n : ℕ) (new : List (ℕ × Handler)) → new ≡ remove_entry (is_at (nat_cmp n)) es → values_of new ≡ filter (λ h. not (nat_eq h.number n)) (values_of es)
  gone_values n new e = (keyed_again new (filter (λ h. not (nat_eq h.number n)) (values_of es)) (gone_entries n new e)).0

  others : (n : ℕ) (hs : List Handler) → AllByRecursion (λ (h : Handler). h.number ≡ n → ⊥) (filter (λ h. not (nat_eq h.number n)) hs)
  others n [] = tt
  others n (x ∷ hs) = by (nat_eq x.number n) refl (others n hs)
    where
      rest : List Handler
      rest = filter (λ h. not (nat_eq h.number n)) hs

      by : (b : Bool) → nat_eq x.number n ≡ b → AllByRecursion (λ (h : Handler). h.number ≡ n → ⊥) rest → AllByRecursion (λ (h : Handler). h.number ≡ n → ⊥) (cond (not b) (x ∷ rest) rest)
      by true e rec = rec
      by false e rec = (λ same. false≢true (sym e ∙ (grind (arith, nat_tests))), rec)

  pub gone_kept : (n : ℕ) (x : Handler) (new : List (ℕ × Handler)) (m : Listings) → new ≡ remove_entry (is_at (nat_cmp n)) es
      → find (λ h. nat_eq h.number n) (values_of es) ≡ Some x
      → ((h : Handler) → (h.number ≡ n → ⊥) → IsListed l h → IsListed m h)
      → ((o s : ℕ) → count_at m.by_code o s ≡ count_at l.by_code o s - cond (by_code_to o s x) 1 0)
      → IsKept new m last to_come
  gone_kept n x new m e found stays counts =
      let hs = values_of es in
      let left : List Handler = filter (λ h. not (nat_eq h.number n)) hs in
      let same = keyed_again new left (gone_entries n new e) in
      record {
        room = kept.room;
        rising = subst (λ these. Numbered 0 these last) (sym same.0) (numbered_filter (λ h. not (nat_eq h.number n)) 0 hs last kept.rising);
        keyed = same.1;
        listed = subst (AllByRecursion (IsListed m)) (sym same.0)
            (all_two (λ h. h.number ≡ n → ⊥) (IsListed l) (IsListed m) stays left (others n hs) (all_filter (IsListed l) (λ h. not (nat_eq h.number n)) hs kept.listed));
        counted = λ o s.
            counts o s ∙ ap (λ k. k - cond (by_code_to o s x) 1 0) (kept.counted o s)
            ∙ sym (counts_less (by_code_to o s) n x 0 hs last kept.rising found) ∙ ap (count_by (by_code_to o s)) (sym same.0);
      }

  -- ** one more

  more_entries : (n : ℕ) (x : Handler) (new : List (ℕ × Handler)) → new ≡ insert_entry nat_cmp es n x → x.number ≡ n → last < n → new ≡ numbered (values_of es ++ x ∷ [])
  more_entries n x new e same up = e ∙ ap (λ these. insert_entry nat_cmp these n x) kept.keyed ∙ put n x same 0 (values_of es) last up kept.rising

  pub more_values : (n : ℕ) (x : Handler) (new : List (ℕ × Handler)) → new ≡ insert_entry nat_cmp es n x → x.number ≡ n → last < n → values_of new ≡ values_of es ++ x ∷ []
  more_values n x new e same up = (keyed_again new (values_of es ++ x ∷ []) (more_entries n x new e same up)).0

  -- each has another number than the next
  pub others_below : (n : ℕ) → last < n → AllByRecursion (λ (h : Handler). h.number ≡ n → ⊥) (values_of es)
  others_below n up = all_one (λ h. h.number ≤ last) (λ h. h.number ≡ n → ⊥) (λ h low same. omega (arith, low, same, up)) (values_of es) (all_within 0 (values_of es) last kept.rising)

  pub more_kept : (n : ℕ) (x : Handler) (new : List (ℕ × Handler)) (m : Listings) (left : ℕ) → new ≡ insert_entry nat_cmp es n x → x.number ≡ n → last < n
      → HasNumbers n left
      → ((h : Handler) → (h.number ≡ n → ⊥) → IsListed l h → IsListed m h) → IsListed m x
      → ((o s : ℕ) → count_at m.by_code o s ≡ count_at l.by_code o s + cond (by_code_to o s x) 1 0)
      → IsKept new m n left
  more_kept n x new m left e same up room stays mine counts =
      let hs = values_of es in
      let is = keyed_again new (hs ++ x ∷ []) (more_entries n x new e same up) in
      record {
        room = room;
        rising = subst (λ these. Numbered 0 these n) (sym is.0) (subst (λ k. Numbered 0 (hs ++ x ∷ []) k) same (numbered_push 0 hs last x (omega (arith, same, up)) kept.rising));
        keyed = is.1;
        listed = subst (AllByRecursion (IsListed m)) (sym is.0)
            (all_push (IsListed m) hs x (all_two (λ h. h.number ≡ n → ⊥) (IsListed l) (IsListed m) stays hs (others_below n up) kept.listed) mine);
        counted = λ o s.
            counts o s ∙ ap (λ k. k + cond (by_code_to o s x) 1 0) (kept.counted o s)
            ∙ sym (counts_more (by_code_to o s) hs x) ∙ ap (count_by (by_code_to o s)) (sym is.0);
      }

  -- where none is connected after all, and what is listed was changed for none
  pub same_kept : (n : ℕ) (m : Listings) → last < n → ((h : Handler) → (h.number ≡ n → ⊥) → IsListed l h → IsListed m h)
      → ((o s : ℕ) → count_at m.by_code o s ≡ count_at l.by_code o s) → IsKept es m last to_come
  same_kept n m up stays counts = record {
    room = kept.room;
    rising = kept.rising;
    keyed = kept.keyed;
    listed = all_two (λ h. h.number ≡ n → ⊥) (IsListed l) (IsListed m) stays (values_of es) (others_below n up) kept.listed;
    counted = λ o s. counts o s ∙ kept.counted o s;
  }

  -- ** one that is changed

  module _ (n : ℕ) (w : Handler) (new : List (ℕ × Handler)) (e : new ≡ set_value (is_at (nat_cmp n)) es w) (same : w.number ≡ n) where
    abbrev changed : Handler → Handler
    changed h = cond (nat_eq h.number n) w h

    written_entries : new ≡ numbered (map changed (values_of es))
    written_entries = e ∙ ap (λ these. set_value (is_at (nat_cmp n)) these w) kept.keyed ∙ written n w same 0 (values_of es) last kept.rising

    pub written_values : values_of new ≡ map (λ h. cond (nat_eq h.number n) w h) (values_of es)
    written_values = (keyed_again new (map changed (values_of es)) written_entries).0

    number_stays : (h : Handler) → (changed h).number ≡ h.number
    number_stays h = by (nat_eq h.number n) refl
      where
        by : (b : Bool) → nat_eq h.number n ≡ b → (cond b w h).number ≡ h.number
        by true at = let here : h.number ≡ n = grind (arith, nat_tests) in same ∙ sym here
        by false at = refl

    -- what is looked up by is the same
    module _ (m : Listings) (x : Handler) (found : find (λ h. nat_eq h.number n) (values_of es) ≡ Some x) (stays : (h : Handler) → (h.number ≡ n → ⊥) → IsListed l h → IsListed m h)
        (listed : IsListed l x → IsListed m w) (counts : (o s : ℕ) → count_at m.by_code o s ≡ count_at l.by_code o s) (counted : (o s : ℕ) → by_code_to o s w ≡ by_code_to o s x) where
      all_same : AllByRecursion (λ h. nat_eq h.number n ≡ true → h ≡ x) (values_of es)
      all_same = found_same n x 0 (values_of es) last kept.rising found

      listed_still : (h : Handler) → IsListed l h → (nat_eq h.number n ≡ true → h ≡ x) → IsListed m (changed h)
      listed_still h mine is = by (nat_eq h.number n) refl is
        where
          by : (b : Bool) → nat_eq h.number n ≡ b → (b ≡ true → h ≡ x) → IsListed m (cond b w h)
          by true e is = listed (subst (IsListed l) (is refl) mine)
          by false e is = stays h (λ same. false≢true (sym e ∙ (grind (arith, nat_tests)))) mine

      counted_still : (o s : ℕ) (h : Handler) → (nat_eq h.number n ≡ true → h ≡ x) → by_code_to o s (changed h) ≡ by_code_to o s h
      counted_still o s h is = by (nat_eq h.number n) is
        where
          by : (b : Bool) → (b ≡ true → h ≡ x) → by_code_to o s (cond b w h) ≡ by_code_to o s h
          by true is = counted o s ∙ ap (by_code_to o s) (sym (is refl))
          by false is = refl

      pub written_kept : IsKept new m last to_come
      written_kept =
          let hs = values_of es in
          let is = keyed_again new (map changed hs) written_entries in
          record {
            room = kept.room;
            rising = subst (λ these. Numbered 0 these last) (sym is.0) (numbered_map changed number_stays 0 hs last kept.rising);
            keyed = is.1;
            listed = subst (AllByRecursion (IsListed m)) (sym is.0) (all_changed hs kept.listed all_same);
            counted = λ o s. counts o s ∙ kept.counted o s ∙ sym (count_changed o s hs all_same) ∙ ap (count_by (by_code_to o s)) (sym is.0);
          }
        where
          all_changed : (hs : List Handler) → AllByRecursion (IsListed l) hs → AllByRecursion (λ h. nat_eq h.number n ≡ true → h ≡ x) hs → AllByRecursion (IsListed m) (map changed hs)
          all_changed [] all is = tt
          all_changed (h ∷ hs) all is = (listed_still h all.0 is.0, all_changed hs all.1 is.1)

          count_changed : (o s : ℕ) (hs : List Handler) → AllByRecursion (λ h. nat_eq h.number n ≡ true → h ≡ x) hs → count_by (by_code_to o s) (map changed hs) ≡ count_by (by_code_to o s) hs
          count_changed o s [] is = refl
          count_changed o s (h ∷ hs) is =
              count_cons (by_code_to o s) (changed h) (map changed hs)
              ∙ ap (λ b. cond b 1 0 + count_by (by_code_to o s) (map changed hs)) (counted_still o s h is.0)
              ∙ ap (λ k. cond (by_code_to o s h) 1 0 + k) (count_changed o s hs is.1)
              ∙ sym (count_cons (by_code_to o s) h hs)
