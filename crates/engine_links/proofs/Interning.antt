-- Names with a row each, once one more has a row, and once a row has changed.
use Rattle.std.proofs.Common.{◌≡◌, ℕ, zero, suc, ◌+◌, ◌<◌, Bool, true, false, cond, nat_eq, is_some, List, [], ◌∷◌, ◌++◌, length, map, get_or, Option, None, Some, option_and_then, slice_get, refl, sym, ap, ◌∙◌, arith, length-append}
use Rattle.std.proofs.Math.ListN.{get_or-map, set}
use Rattle.std.proofs.lemmas.Bool.{true≢false}
use Rattle.std.proofs.lemmas.Bool.Decides.{nat_tests}
use Rattle.std.proofs.lemmas.List.{length-map, map-append, map-set}
use Rattle.ui_machine.specs.Definition.Names.{same_name}
use Rattle.ui_machine.specs.Rules.EmissionPlan.{or_else}
use Rattle.ui_machine.specs.Seq.{read}
use Rattle.name_tables.specs.Names.{Named, number_in, place_of}
use Rattle.name_tables.specs.Steps.{with_name}
use Rattle.name_tables.proofs.Lookups.{place_of-last, place_of-more, place_of-one, place_of-within, same-equal, same-self, with_name-new, with_name-there}
use Rattle.engine_links.proofs.Places.{read-get_or, read-more, read-set}
use Rattle.engine_links.specs.Linked.{method_by, numbers_by}
use Rattle.engine_links.specs.Rows.{AreLevel, row_by, row_of, with_row}
use Rattle.engine_links.proofs.Reading.{read-past}

-- ** whether a name is new

module _ (names : List Named) (name : List ℕ) (at : ℕ) (place : place_of (with_name names name) name ≡ Some at) where
  -- one that is there has the place that it had, which is not past the names
  there : (k : ℕ) → place_of names name ≡ Some k → at < length names
  there k is = place_of-within names name at (ap (λ xs. place_of xs name) (sym (with_name-there names name k is)) ∙ place)

  -- a new one has the place behind them
  behind : place_of names name ≡ None → length names ≡ at
  behind is =
      let last : Some (length names) ≡ Some at =
      sym (ap (λ xs. place_of xs name) (with_name-new names name is) ∙ place_of-last names (record { name = name; numbers = [] }) is) ∙ place in
      cc

  is_new : at ≡ length names → is_some (place_of names name) ≡ false
  is_new last = by (place_of names name) refl
    where
      by : (o : Option ℕ) → place_of names name ≡ o → is_some o ≡ false
      by None is = refl
      by (Some k) is = absurd (let small = there k is in omega (arith, small, last))

  is_there : (at ≡ length names → ⊥) → is_some (place_of names name) ≡ true
  is_there other = by (place_of names name) refl
    where
      by : (o : Option ℕ) → place_of names name ≡ o → is_some o ≡ true
      by None is = absurd (other (sym (behind is)))
      by (Some k) is = refl

  -- so its place tells whether there is one row more
  module _ {A : Type 0} (rows : List A) (empty : A) (same : List A) (is : same ≡ rows) where
    pub with_row-new : (more : List A) → more ≡ same ++ empty ∷ [] → at ≡ length names → more ≡ with_row names name rows empty
    with_row-new more pushed last = pushed ∙ ap (λ l. l ++ empty ∷ []) is ∙ sym (ap (λ b. cond b rows (rows ++ empty ∷ [])) (is_new last))

    pub with_row-there : (at ≡ length names → ⊥) → same ≡ with_row names name rows empty
    with_row-there other = is ∙ sym (ap (λ b. cond b rows (rows ++ empty ∷ [])) (is_there other))

-- names and rows grow together
pub level_more : {A : Type 0} (names : List Named) (rows : List A) (name : List ℕ) (empty : A) → AreLevel names rows
    → AreLevel (with_name names name) (with_row names name rows empty)
level_more {A = A} names rows name empty level = by (is_some (place_of names name))
  where
    entry : Named
    entry = record { name = name; numbers = [] }

    by : (b : Bool) → length (cond b rows (rows ++ empty ∷ [])) ≡ length (cond b names (names ++ entry ∷ []))
    by true = level
    by false = length-append rows (empty ∷ []) ∙ ap (λ n. n + 1) level ∙ sym (length-append names (entry ∷ []))

-- ** the rows of names

module _ {A : Type 0} (empty : A) where
  -- one name more leaves the row of each name as it is: a new one is empty
  pub row_of-more : (names : List Named) (rows : List A) (name n : List ℕ) → AreLevel names rows
      → row_of empty (with_name names name) (with_row names name rows empty) n ≡ row_of empty names rows n
  row_of-more names rows name n level = by (is_some (place_of names name))
    where
      entry : Named
      entry = record { name = name; numbers = [] }

      at : (o : Option ℕ) (b : Bool) → row_by empty (rows ++ empty ∷ []) (or_else o (cond b (Some (length names)) None)) ≡ row_by empty rows o
      at (Some k) b = read-more empty rows k
      at None true = read-more empty rows (length names) ∙ read-past empty rows (length names) (omega (arith, level))
      at None false = refl

      by : (b : Bool) → row_of empty (cond b names (names ++ entry ∷ [])) (cond b rows (rows ++ empty ∷ [])) n ≡ row_of empty names rows n
      by true = refl
      by false = ap (row_by empty (rows ++ empty ∷ [])) (place_of-more names entry n) ∙ at (place_of names n) (same_name name n)

  module _ (names : List Named) (rows : List A) (name : List ℕ) (at : ℕ) (place : place_of names name ≡ Some at) (within : at < length rows) where
    -- what is at the place of a name is its row
    row_of-there : (d : A) → row_of empty names rows name ≡ get_or rows at d
    row_of-there d = ap (row_by empty rows) place ∙ read-get_or empty rows at d within

    -- a row that is written is the name's, and no other name's
    row_of-set : (row : A) (n : List ℕ) → row_of empty names (set rows at row) n ≡ cond (same_name name n) row (row_of empty names rows n)
    row_of-set row n = by (same_name name n) refl
      where
        written : (k : ℕ) (b : Bool) → nat_eq k at ≡ b → read empty (set rows at row) k ≡ cond b row (read empty rows k)
        written k b same = read-set empty rows at k row within ∙ ap (λ c. cond c row (read empty rows k)) same

        apart : (o : Option ℕ) → place_of names n ≡ o → (place_of names n ≡ Some at → ⊥) → row_by empty (set rows at row) o ≡ row_by empty rows o
        apart None is other = refl
        apart (Some k) is other =
            let differs : k ≡ at → ⊥ = λ e. other (is ∙ ap Some e) in
            written k false (grind (arith, nat_tests))

        by : (b : Bool) → same_name name n ≡ b → row_of empty names (set rows at row) n ≡ cond b row (row_of empty names rows n)
        by true same =
            ap (row_by empty (set rows at row)) (ap (place_of names) (sym (same-equal name n same)) ∙ place) ∙ written at true (grind (arith, nat_tests))
        by false other =
            apart (place_of names n) refl
            (λ one. true≢false (sym (same-self name) ∙ ap (same_name name) (place_of-one names name n at place one) ∙ other))

-- ** rows as they are seen

-- a name has a row at a place, an empty one if it had none
pub record Interned {V A : Type 0} (view : V → List A) (old_names : List Named) (old_rows : List V) (names : List Named) (rows : List V) (name : List ℕ) (at : ℕ) : Type 0 where
  pub new : V
  pub empty : view new ≡ []
  pub old_level : AreLevel old_names old_rows
  pub level : AreLevel names rows
  pub more_names : names ≡ with_name old_names name
  pub more_rows : rows ≡ with_row old_names name old_rows new
  pub place : place_of names name ≡ Some at

module _ {V A : Type 0} (view : V → List A) (old_names : List Named) (old_rows : List V) (names : List Named) (rows : List V) (name : List ℕ) (at : ℕ)
    (h : Interned view old_names old_rows names rows name at) where
  within : at < length (map view rows)
  within = let in_names = place_of-within names name at h.place in omega (arith, in_names, h.level, length-map rows view)

  more_seen : map view rows ≡ with_row old_names name (map view old_rows) []
  more_seen = ap (map view) h.more_rows ∙ by (is_some (place_of old_names name))
    where
      by : (b : Bool) → map view (cond b old_rows (old_rows ++ h.new ∷ [])) ≡ cond b (map view old_rows) (map view old_rows ++ [] ∷ [])
      by true = refl
      by false = map-append view old_rows (h.new ∷ []) ∙ ap (λ row. map view old_rows ++ row ∷ []) h.empty

  -- that changes no name's row
  kept : (n : List ℕ) → row_of [] names (map view rows) n ≡ row_of [] old_names (map view old_rows) n
  kept n =
      let old_level : AreLevel old_names (map view old_rows) = length-map old_rows view ∙ h.old_level in
      ap (λ xs. row_of [] xs (map view rows) n) h.more_names ∙ ap (λ l. row_of [] (with_name old_names name) l n) more_seen
      ∙ row_of-more [] old_names (map view old_rows) name n old_level

  -- it was the name's
  pub was_row : (before : V) (n : List ℕ) → before ≡ get_or rows at before → same_name name n ≡ true → view before ≡ row_of [] old_names (map view old_rows) n
  was_row before n is same =
      ap view is ∙ sym (get_or-map view rows at before) ∙ sym (row_of-there [] names (map view rows) name at h.place within (view before))
      ∙ ap (row_of [] names (map view rows)) (same-equal name n same) ∙ kept n

  -- once it has changed it is the name's, and each other name has the row that it had
  pub is_row : (after : V) (n : List ℕ) → row_of [] names (map view (set rows at after)) n ≡ cond (same_name name n) (view after) (row_of [] old_names (map view old_rows) n)
  is_row after n =
      ap (λ l. row_of [] names l n) (map-set view rows at after) ∙ row_of-set [] names (map view rows) name at h.place within (view after) n
      ∙ ap (cond (same_name name n) (view after)) (kept n)

-- ** what rows say

-- the number of a shape's method is that of the row
pub method_by-row : (rows : List (List (ℕ × ℕ))) (shape : ℕ) (o : Option ℕ) → method_by rows shape o ≡ number_in (row_by [] rows o) shape
method_by-row rows shape None = refl
method_by-row rows shape (Some at) = there rows at
  where
    there : (rs : List (List (ℕ × ℕ))) (i : ℕ) → option_and_then (λ (row : List (ℕ × ℕ)). number_in row shape) (slice_get rs i) ≡ number_in (read [] rs i) shape
    there [] i = refl
    there (r ∷ rs) zero = refl
    there (r ∷ rs) (suc i) = there rs i

-- the numbers of bindings are those of the row
pub numbers_by-row : (rows : List (List ℕ)) (o : Option ℕ) → numbers_by rows o ≡ row_by [] rows o
numbers_by-row rows None = refl
numbers_by-row rows (Some at) = refl
