-- The names of the signals of a type, collected type by type.
use Rattle.std.proofs.Common.{◌≡◌, ◌∙◌, ℕ, ◌+◌, ◌<◌, ◌≤◌, Bool, true, false, cond, not, nat_eq, ◌||◌, if◌then◌else◌, List, [], ◌∷◌, length, map, take, reverse, get_or, None, Some, Bor, refl, sym, ap, arith}
use Rattle.std.specs.BTreeMap.{is_at}
use Rattle.std.specs.BTreeSet.{BTreeSet, contains}
use Rattle.std.specs.List.{filter, flat_map, list_any}
use Rattle.std.specs.Ordering.{nat_cmp}
use Rattle.std.proofs.lemmas.Bool.{false≢true}
use Rattle.std.proofs.lemmas.Bool.Decides.{nat_tests}
use Rattle.std.proofs.lemmas.List.{take_all}
use Rattle.std.proofs.lemmas.List.Folds.{list_any-append, list_any_more}
use Rattle.std.proofs.lemmas.List.Sorted.{IsPermutation-reverse, list_any-IsPermutation}
use Rattle.std.proofs.Math.Bool.{or_assoc}
use Rattle.std.proofs.Math.Path.{fun_ext}
use Rattle.ui_machine.specs.Definition.Names.{same_name}
use Rattle.ui_machine.specs.Definition.Signals.{Signal}
use Rattle.ui_machine.specs.Definition.Types.{GType}
use Rattle.ui_machine.specs.Rules.Ancestry.{lineage, parent_of}
use Rattle.ui_machine.specs.Words.{notify}
use Rattle.type_tree.specs.Tree.{IsTree}
use Rattle.type_tree.proofs.Lines.{line_from-parent, line_from-root}
use Rattle.signal_core.specs.SignalView.{signal_view}
use Rattle.signal_core.specs.Sources.{brought_by, declared_of, each_once, own_of, signals_of, sources_of}
use Rattle.signal_core.specs.declared.signal.Signal as code
use Rattle.read_types.specs.ImplementDrafts.{has_name}
use Rattle.signal_core.specs.Owners.{has_signal}
use Rattle.read_types.specs.SignalNames.{AreIncluded}
use Rattle.signal_core.proofs.Owned.{any_flat, any_once, named_there}
use Rattle.read_types.proofs.NamesAhead.{any_map}

-- ** truth values

or_false : (b : Bool) → b ≡ (b || false)
or_false true = refl
or_false false = refl

or_true : (b : Bool) → (b || true) ≡ true
or_true true = refl
or_true false = refl

if_or : (b rest : Bool) → (if b then true else rest) ≡ (rest || b)
if_or true rest = sym (or_true rest)
if_or false rest = or_false rest

-- ** one element after the other

-- nothing was looked at yet
pub none_yet : (had : Bool) → had ≡ (had || false)
none_yet had = or_false had

-- one element more
pub one_more : {A : Type 0} (test : A → Bool) (xs : List A) (i : ℕ) (x : A) (new mid had : Bool) → i < length xs → x ≡ get_or xs i x → new ≡ (mid || test x)
    → mid ≡ (had || list_any test (take i xs)) → new ≡ (had || list_any test (take (i + 1) xs))
one_more test xs i x new mid had small at is before =
    is
    ∙ ap (λ m. m || test x) before
    ∙ or_assoc had (list_any test (take i xs)) (test x)
    ∙ ap (λ y. had || (list_any test (take i xs) || test y)) at
    ∙ ap (λ b. had || b) (sym (list_any_more test xs i x small))

-- all elements
pub all_seen : {A : Type 0} (test : A → Bool) (xs : List A) (i : ℕ) (new had : Bool) → length xs ≤ i → new ≡ (had || list_any test (take i xs)) → new ≡ (had || list_any test xs)
all_seen test xs i new had all is = is ∙ ap (λ l. had || list_any test l) (take_all i xs all)

-- the first apart from the others
pub first_and_rest : (new mid had first rest : Bool) → mid ≡ (had || first) → new ≡ (mid || rest) → new ≡ (had || (first || rest))
first_and_rest new mid had first rest a b = b ∙ ap (λ m. m || rest) a ∙ or_assoc had first rest

-- ** the names of a list

-- whether a signal of the code has a name
abbrev pub is_called : List ℕ → code.Signal → Bool
is_called name s = same_name (signal_view s).name name

-- a name that was added
pub name_added : (bs name : List ℕ) (new had : Bool) → new ≡ (if same_name bs name then true else had) → new ≡ (had || same_name bs name)
name_added bs name new had is = is ∙ if_or (same_name bs name) had

-- a name among those of the signals of the code
pub has_listed : (name : List ℕ) (xs : List code.Signal) → has_signal (map signal_view xs) name ≡ list_any (is_called name) xs
has_listed name xs = named_there (map signal_view xs) 0 name ∙ sym (any_map (λ (s : Signal). same_name s.name name) signal_view xs)

-- ** the types seen

-- none was seen
pub none_included : (own : List (List Signal)) (seen : BTreeSet ℕ) (names : BTreeSet (Bor (List ℕ))) → seen.keys ≡ [] → AreIncluded own seen names
none_included own seen names empty t h name has = absurd (false≢true (sym (ap (list_any (is_at (nat_cmp t))) empty) ∙ h))

-- a type that was seen brings no further name
pub brings_none : (own : List (List Signal)) (seen : BTreeSet ℕ) (names : BTreeSet (Bor (List ℕ))) (t : ℕ) (name : List ℕ) → AreIncluded own seen names → contains nat_cmp seen t ≡ true
    → has_name names name ≡ (has_name names name || has_signal (own_of own t) name)
brings_none own seen names t name included there = by (has_signal (own_of own t) name) refl
  where
    by : (b : Bool) → has_signal (own_of own t) name ≡ b → has_name names name ≡ (has_name names name || b)
    by true e = included t there name e ∙ sym (or_true (has_name names name))
    by false e = or_false (has_name names name)

-- nor does it change which were seen
pub still_included : (own : List (List Signal)) (seen new : BTreeSet ℕ) (names : BTreeSet (Bor (List ℕ))) → AreIncluded own seen names → new.keys ≡ seen.keys → AreIncluded own new names
still_included own seen new names included same t h = included t (sym (ap (list_any (is_at (nat_cmp t))) same) ∙ h)

same_number : (t u : ℕ) → is_at (nat_cmp t) u ≡ true → t ≡ u
same_number t u h = grind (arith, nat_tests)

-- a type more was seen, and its names were added
pub included_more : (own : List (List Signal)) (seen new : BTreeSet ℕ) (names more : BTreeSet (Bor (List ℕ))) (t : ℕ) → AreIncluded own seen names
    → ((u : ℕ) → contains nat_cmp new u ≡ cond (is_at (nat_cmp t) u) true (contains nat_cmp seen u))
    → ((name : List ℕ) → has_name more name ≡ (has_name names name || has_signal (own_of own t) name)) → AreIncluded own new more
included_more own seen new names more t included keys added u h name has = by (is_at (nat_cmp t) u) refl (sym (keys u) ∙ h)
  where
    by : (b : Bool) → is_at (nat_cmp t) u ≡ b → cond b true (contains nat_cmp seen u) ≡ true → has_name more name ≡ true
    by true e there =
        added name
        ∙ ap (λ v. has_name names name || has_signal (own_of own v) name) (same_number t u e)
        ∙ ap (λ b. has_name names name || b) has
        ∙ or_true (has_name names name)
    by false e there = added name ∙ ap (λ b. b || has_signal (own_of own t) name) (included u there name has)

-- ** tests over lists of types

any_reversed : (test : ℕ → Bool) (xs : List ℕ) → list_any test (reverse xs) ≡ list_any test xs
any_reversed test xs = sym (list_any-IsPermutation test xs (reverse xs) (IsPermutation-reverse xs))

-- ** the names of a line

module _ (types : List GType) (own : List (List Signal)) (name : List ℕ) where
  -- whether a type itself, or an interface that it names, declares a signal of the name
  abbrev pub is_brought : ℕ → Bool
  is_brought t = list_any (λ u. has_signal (own_of own u) name) (brought_by types t)

  -- whether the type or an ancestor does
  abbrev pub is_in_line : ℕ → Bool
  is_in_line t = list_any is_brought (lineage types t)

  -- the names of all signals of a type are `notify` and these
  names_of_line : (t : ℕ) → has_signal (signals_of types own t) name ≡ (same_name notify.name name || is_in_line t)
  unfolding declared_of sources_of
  names_of_line t =
      let called = λ (s : Signal). same_name s.name name in
      let line = reverse (lineage types t) in
      named_there (signals_of types own t) 0 name
      ∙ ap (λ b. called notify || b)
      (any_flat called (own_of own) (each_once (flat_map (brought_by types) line))
      ∙ any_once (λ u. list_any called (own_of own u)) (flat_map (brought_by types) line)
      ∙ any_flat (λ u. list_any called (own_of own u)) (brought_by types) line
      ∙ any_reversed (λ c. list_any (λ u. list_any called (own_of own u)) (brought_by types c)) (lineage types t)
      ∙ ap (λ (test : ℕ → Bool). list_any (λ c. list_any test (brought_by types c)) (lineage types t)) (fun_ext (λ u. sym (named_there (own_of own u) 0 name))))

  -- what is left is what the line has from a type on
  pub up_line : (tree : IsTree types) (t p : ℕ) (new mid all : Bool) → parent_of types t ≡ Some p → new ≡ (mid || is_brought t) → (mid || is_in_line t) ≡ all → (new || is_in_line p) ≡ all
  up_line tree t p new mid all parent is before =
      ap (λ b. b || is_in_line p) is
      ∙ or_assoc mid (is_brought t) (is_in_line p)
      ∙ ap (λ l. mid || (is_brought t || list_any is_brought l)) (sym (line_from-parent types tree t p parent))
      ∙ before

  -- at the root nothing is left
  pub at_root : (tree : IsTree types) (t u : ℕ) (new mid old had : Bool) → parent_of types t ≡ None → new ≡ (mid || is_brought t) → (mid || is_in_line t) ≡ (old || is_in_line u)
      → old ≡ (had || same_name notify.name name) → new ≡ (had || has_signal (signals_of types own u) name)
  at_root tree t u new mid old had root is before begun =
      is
      ∙ ap (λ b. mid || b) (or_false (is_brought t) ∙ ap (λ l. is_brought t || list_any is_brought l) (sym (line_from-root types tree t root)))
      ∙ before
      ∙ ap (λ b. b || is_in_line u) begun
      ∙ or_assoc had (same_name notify.name name) (is_in_line u)
      ∙ ap (λ b. had || b) (sym (names_of_line u))
