-- Where the properties of types are.
use Rattle.std.proofs.Common.{◌≡◌, ◌<◌, ◌≤◌, ◌+◌, ◌∙◌, ◌++◌, ◌∷◌, ℕ, zero, suc, add-one, List, [], Option, None, Some, length, map, slice_get, get_or, ◌*◌, length-append, inl, inr, refl, sym, ap, subst, arith}
use Rattle.std.proofs.lemmas.Bool.{cases_lt}
use Rattle.std.specs.Option.{option_map_or}
use Rattle.std.proofs.lemmas.List.{map-append, length-map}
use Rattle.ui_machine.specs.Definition.Properties.{Spec}
use Rattle.ui_machine.specs.Definition.Types.{GType}
use Rattle.ui_machine.specs.Rules.Ancestry.{parent_of}
use Rattle.ui_machine.specs.Seq.{listed, read}
use Rattle.type_tree.specs.Tree.{IsTree}
use Rattle.param_specs.specs.SlotRows.{AreFew, HasRow, HasRows, inherited, own_place, spec_in}
use Rattle.param_specs.specs.Table.{own_of, specs_of}
use Rattle.param_specs.specs.declared.slots.SlotPlace.{SlotPlace}
use Rattle.param_specs.proofs.Specs.{specs_of-child, specs_of-root}

listed_suc : {A : Type 0} (f : ℕ → A) (n : ℕ) → listed f (suc n) ≡ listed f n ++ f n ∷ []
listed_suc f zero = refl
listed_suc f (suc n) = ap (λ l. f 0 ∷ l) (listed_suc (λ i. f (suc i)) n)

-- one more
pub listed_more : {A : Type 0} (f : ℕ → A) (n : ℕ) → listed f (n + 1) ≡ listed f n ++ f n ∷ []
listed_more f n = ap (listed f) (add-one n) ∙ listed_suc f n

each_listed : (own : List (List Spec)) (place : ℕ → SlotPlace) (xs : List Spec) → ((i : ℕ) → spec_in own (place i) ≡ slice_get xs i)
    → map (spec_in own) (listed place (length xs)) ≡ map (λ s. Some s) xs
each_listed own place [] is = refl
each_listed own place (x ∷ xs) is =
    ap (λ s. s ∷ map (spec_in own) (listed (λ i. place (suc i)) (length xs))) (is 0)
    ∙ ap (λ l. Some x ∷ l) (each_listed own (λ i. place (suc i)) xs (λ i. is (suc i)))

own_listed : (own : List (List Spec)) (t : ℕ) → map (spec_in own) (listed (own_place t) (length (own_of own t))) ≡ map (λ s. Some s) (own_of own t)
own_listed own t = each_listed own (own_place t) (own_of own t) (λ i. refl)

module _ (types : List GType) (tree : IsTree types) (own : List (List Spec)) where
  with_parent : (rows : List (List SlotPlace)) (t : ℕ) (o : Option ℕ) → parent_of types t ≡ o → t ≤ length rows → HasRows types own rows
      → map (spec_in own) (option_map_or (read [] rows) o [] ++ listed (own_place t) (length (own_of own t))) ≡ map (λ s. Some s) (specs_of types own t)
  with_parent rows t None root before all = own_listed own t ∙ ap (map (λ s. Some s)) (sym (specs_of-root types tree own t root))
  with_parent rows t (Some p) child before all =
      let first : p < length rows = omega (arith, before, tree.parents_first t p child) in
      map-append (spec_in own) (read [] rows p) (listed (own_place t) (length (own_of own t)))
      ∙ ap (λ l. l ++ map (spec_in own) (listed (own_place t) (length (own_of own t)))) (all p first)
      ∙ ap (λ l. map (λ s. Some s) (specs_of types own p) ++ l) (own_listed own t)
      ∙ sym (map-append (λ s. Some s) (specs_of types own p) (own_of own t))
      ∙ ap (map (λ s. Some s)) (sym (specs_of-child types tree own t p child))

  -- a type's slots are those of its parent and its own
  pub row_is : (rows : List (List SlotPlace)) (t count : ℕ) (row above : List SlotPlace) → t ≤ length rows → HasRows types own rows
      → above ≡ inherited types rows t → count ≡ length (own_of own t) → row ≡ above ++ listed (own_place t) count → HasRow types own t row
  row_is rows t count row above before all from own_count is =
      ap (map (spec_in own)) (is ∙ ap (λ l. l ++ listed (own_place t) count) from ∙ ap (λ n. inherited types rows t ++ listed (own_place t) n) own_count)
      ∙ with_parent rows t (parent_of types t) refl before all

-- ** one row more

pub rows_more : (types : List GType) (own : List (List Spec)) (rows : List (List SlotPlace)) (row : List SlotPlace)
    → HasRows types own rows → HasRow types own (length rows) row → HasRows types own (rows ++ row ∷ [])
rows_more types own rows row all last t small = by_place rows t (all t) (λ e. subst (λ u. HasRow types own u row) (sym e) last) small
  where
    by_place : (rs : List (List SlotPlace)) (i : ℕ) → (i < length rs → HasRow types own t (read [] rs i)) → (i ≡ length rs → HasRow types own t row)
        → i < length (rs ++ row ∷ []) → HasRow types own t (read [] (rs ++ row ∷ []) i)
    by_place [] zero here end small = end refl
    by_place [] (suc i) here end small = absurd (omega arith)
    by_place (r ∷ rs) zero here end small = here (omega arith)
    by_place (r ∷ rs) (suc i) here end small = by_place rs i (λ lt. here (omega (arith, lt))) (λ e. end (ap suc e)) (omega (arith, small))

-- ** rows as the code has them

pub read_seen : {V : Type 0} (items : V → List SlotPlace) (d : V) (rows : List V) (i : ℕ) → i < length rows → items (get_or rows i d) ≡ read [] (map items rows) i
read_seen items d [] i small = absurd (omega arith)
read_seen items d (r ∷ rows) zero small = refl
read_seen items d (r ∷ rows) (suc i) small = read_seen items d rows i (omega (arith, small))

-- ** few rows

pub no_rows : AreFew []
no_rows = record { types = omega arith; slots = λ t. omega arith }

length_listed : {A : Type 0} (f : ℕ → A) (n : ℕ) → length (listed f n) ≡ n
length_listed f zero = refl
length_listed f (suc n) = ap suc (length_listed (λ i. f (suc i)) n)

module _ (rows : List (List SlotPlace)) (few : AreFew rows) where
  inherited_few : (types : List GType) (tree : IsTree types) (t : ℕ) (o : Option ℕ) → parent_of types t ≡ o → length (option_map_or (read [] rows) o []) ≤ 64 * t
  inherited_few types tree t None root = omega arith
  inherited_few types tree t (Some p) child = omega (arith, few.slots p, tree.parents_first t p child)

  pub row_few : (types : List GType) (tree : IsTree types) (t count : ℕ) (row above : List SlotPlace) → above ≡ inherited types rows t → count ≤ 64
      → row ≡ above ++ listed (own_place t) count → length row ≤ 64 * (t + 1)
  row_few types tree t count row above from own_few is =
      let long : length row ≡ length (inherited types rows t) + count =
      ap length is ∙ length-append above (listed (own_place t) count) ∙ ap (λ n. length above + n) (length_listed (own_place t) count) ∙ ap (λ l. length l + count) from in
      omega (arith, long, inherited_few types tree t (parent_of types t) refl, own_few)

  pub few_more : (row : List SlotPlace) → length rows < 256 → length row ≤ 64 * (length rows + 1) → AreFew (rows ++ row ∷ [])
  few_more row room short = record {
    types = omega (arith, length-append rows (row ∷ []), room);
    slots = λ t. (let all = by_place rows 0 t (λ u. omega (arith, few.slots u)) (λ u e. omega (arith, e, short)) in omega (arith, all));
  }
    where
      by_place : (rs : List (List SlotPlace)) (from i : ℕ) → ((u : ℕ) → length (read [] rs u) ≤ 64 * (from + u + 1)) → ((u : ℕ) → u ≡ length rs → length row ≤ 64 * (from + u + 1))
          → length (read [] (rs ++ row ∷ []) i) ≤ 64 * (from + i + 1)
      by_place [] from zero here end = end 0 refl
      by_place [] from (suc i) here end = omega arith
      by_place (r ∷ rs) from zero here end = here 0
      by_place (r ∷ rs) from (suc i) here end =
          (let rest = by_place rs (from + 1) i (λ u. omega (arith, here (suc u))) (λ u e. omega (arith, end (suc u) (ap suc e))) in omega (arith, rest))

pub few_at_most : (rows : List (List SlotPlace)) → AreFew rows → (t : ℕ) → length (read [] rows t) ≤ 16448
few_at_most rows few t = by_place rows t few.types (few.slots t)
  where
    past : (rs : List (List SlotPlace)) (i : ℕ) → length rs ≤ i → length (read [] rs i) ≤ 0
    past [] i over = omega arith
    past (r ∷ rs) zero over = absurd (omega (arith, over))
    past (r ∷ rs) (suc i) over = past rs i (omega (arith, over))

    by_place : (rs : List (List SlotPlace)) (i : ℕ) → length rs ≤ 256 → length (read [] rs i) ≤ 64 * (i + 1) → length (read [] rs i) ≤ 16448
    by_place rs i small bound = elim (cases_lt i (length rs)) [
      | inl within ↦ omega (arith, small, bound, within)
      | inr over ↦ omega (arith, past rs i over)
    ]
