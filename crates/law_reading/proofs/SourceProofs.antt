-- The types whose signals a type has: those that it is.
use Rattle.std.proofs.Common.{◌≡◌, ◌<◌, ◌≤◌, ℕ, Bool, true, false, cond, not, ◌||◌, nat_eq, arith, List, [], ◌∷◌, ◌++◌, length, reverse, None, Some, refl, sym, ap, ◌∙◌}
use Rattle.std.specs.List.{filter, flat_map, list_any}
use Rattle.std.proofs.lemmas.Bool.Decides.{nat_tests}
use Rattle.std.proofs.lemmas.List.{append-nil}
use Rattle.std.proofs.lemmas.List.Elements.{filter-append}
use Rattle.std.proofs.lemmas.List.Folds.{list_any-append}
use Rattle.std.proofs.lemmas.Grind.{flat_map-append}
use Rattle.ui_machine.specs.Definition.Signals.{Signal}
use Rattle.ui_machine.specs.Definition.Types.{GType}
use Rattle.ui_machine.specs.Definition.Types as sorts
use Rattle.ui_machine.specs.Output.Text.{no_type}
use Rattle.ui_machine.specs.Rules.Ancestry.{parent_of, lineage, is_a, is_or_implements, implemented, implemented_by}
use Rattle.ui_machine.specs.Seq.{read}
use Rattle.ui_machine.specs.Words.{notify}
use Rattle.signal_core.proofs.Walks.{any_brought}
use Rattle.signal_core.specs.Sources.{brought_by, each_once, sources_of}
use Rattle.type_tree.proofs.Entries.{read-past, read-front, read-last}
use Rattle.type_tree.proofs.Lines.{parent_within, line_from-parent, line_from-root, is_a-up, is_a-root}
use Rattle.type_tree.proofs.Lookups.{nat_eq-comm}
use Rattle.type_tree.specs.Adding.{sort_of}
use Rattle.type_tree.specs.Tree.{IsTree}
use Rattle.definition_format.specs.Denoted.Signals.{signals_by}
use Rattle.law_reading.proofs.Ancestors.{AreInterfaces, Implements, is_interface, along, last_own}
use Rattle.law_reading.proofs.NameProofs.{neither, none_holds}
use Rattle.law_reading.proofs.PropertyProofs.{OnlyAt}

-- ** each once

abbrev other : ℕ → ℕ → Bool
other x y = not (nat_eq x y)

-- whether a number is among others does not change where a different number is taken out
any_filtered : (a x : ℕ) (ys : List ℕ) → nat_eq a x ≡ false → list_any (nat_eq a) (filter (other x) ys) ≡ list_any (nat_eq a) ys
any_filtered a x [] apart = refl
any_filtered a x (y ∷ ys) apart = by (nat_eq x y) refl (any_filtered a x ys apart)
  where
    by : (b : Bool) → nat_eq x y ≡ b → list_any (nat_eq a) (filter (other x) ys) ≡ list_any (nat_eq a) ys
        → list_any (nat_eq a) (cond (not b) (y ∷ filter (other x) ys) (filter (other x) ys)) ≡ (nat_eq a y || list_any (nat_eq a) ys)
    by true e rest =
        let differs : nat_eq a y ≡ false = grind (arith, nat_tests) in
        rest ∙ ap (λ b. b || list_any (nat_eq a) ys) (sym differs)
    by false e rest = ap (λ b. nat_eq a y || b) rest

-- taking each number once neither adds nor loses a number
pub once_any : (a : ℕ) (xs : List ℕ) → list_any (nat_eq a) (each_once xs) ≡ list_any (nat_eq a) xs
once_any a [] = refl
once_any a (x ∷ xs) = by (nat_eq a x) refl (once_any a xs)
  where
    by : (b : Bool) → nat_eq a x ≡ b → list_any (nat_eq a) (each_once xs) ≡ list_any (nat_eq a) xs
        → (b || list_any (nat_eq a) (filter (other x) (each_once xs))) ≡ (b || list_any (nat_eq a) xs)
    by true e rest = refl
    by false e rest = any_filtered a x (each_once xs) e ∙ rest

-- nothing is taken out that is not there
without : (n : ℕ) (ys : List ℕ) → list_any (nat_eq n) ys ≡ false → filter (other n) ys ≡ ys
without n [] none = refl
without n (y ∷ ys) none =
    let apart = neither (nat_eq n y) (list_any (nat_eq n) ys) none in
    ap (λ b. cond (not b) (y ∷ filter (other n) ys) (filter (other n) ys)) apart.0 ∙ ap (λ l. y ∷ l) (without n ys apart.1)

-- a number that is in neither of two lists, put between them, changes nothing else
pub once_between : (n : ℕ) (xs ys : List ℕ) → list_any (nat_eq n) xs ≡ false → list_any (nat_eq n) ys ≡ false
    → (zs : List ℕ) × (each_once (xs ++ ys) ≡ each_once xs ++ zs) × (each_once (xs ++ n ∷ ys) ≡ each_once xs ++ n ∷ zs)
once_between n [] ys p q = (each_once ys, refl, ap (λ l. n ∷ l) (without n (each_once ys) (once_any n ys ∙ q)))
once_between n (x ∷ xs) ys p q =
    let apart = neither (nat_eq n x) (list_any (nat_eq n) xs) p in
    let rest = once_between n xs ys apart.1 q in
    let differs : nat_eq x n ≡ false = nat_eq-comm x n ∙ apart.0 in (
      filter (other x) rest.0,
      ap (λ l. x ∷ filter (other x) l) rest.1 ∙ ap (λ l. x ∷ l) (filter-append (other x) (each_once xs) rest.0),
      ap (λ l. x ∷ filter (other x) l) rest.2 ∙ ap (λ l. x ∷ l) (filter-append (other x) (each_once xs) (n ∷ rest.0))
          ∙ ap (λ b. x ∷ (filter (other x) (each_once xs) ++ cond (not b) (n ∷ filter (other x) rest.0) (filter (other x) rest.0))) differs,
    )

-- what types have that are not the one that changes
pub flat_kept : {A : Type 0} (own changed : ℕ → List A) (n : ℕ) (ts : List ℕ) → OnlyAt n own changed → list_any (nat_eq n) ts ≡ false
    → flat_map changed ts ≡ flat_map own ts
flat_kept own changed n [] same none = refl
flat_kept own changed n (t ∷ ts) same none =
    let apart = neither (nat_eq n t) (list_any (nat_eq n) ts) none in
    ap (λ l. l ++ flat_map changed ts) (same t (nat_eq-comm t n ∙ apart.0)) ∙ ap (λ l. own t ++ l) (flat_kept own changed n ts same apart.1)

-- ** what a type and its ancestors bring

abbrev pub brought : List GType → ℕ → List ℕ
brought types t = flat_map (brought_by types) (reverse (lineage types t))

-- a type has the signals of what it is
pub sources_any : (types : List GType) (t u : ℕ) → list_any (nat_eq u) (sources_of types t) ≡ is_a types t u
unfolding sources_of
sources_any types t u = once_any u (brought types t) ∙ any_brought types u (lineage types t)

module _ (types : List GType) (tree : IsTree types) where
  brought_child : (t p : ℕ) → parent_of types t ≡ Some p → brought types t ≡ brought types p ++ brought_by types t
  brought_child t p e =
      ap (λ l. flat_map (brought_by types) (reverse (t ∷ l))) (line_from-parent types tree t p e)
      ∙ last_own (brought_by types) (lineage types p) t

  brought_root : (t : ℕ) → parent_of types t ≡ None → brought types t ≡ brought_by types t
  brought_root t e =
      ap (λ l. flat_map (brought_by types) (reverse (t ∷ l))) (line_from-root types tree t e) ∙ append-nil (brought_by types t)

  -- a type without parent that implements nothing has its own signals
  pub alone : (own : ℕ → List Signal) (t : ℕ) → parent_of types t ≡ None → implemented_by types t ≡ []
      → signals_by types own t ≡ notify ∷ own t
  unfolding sources_of
  alone own t root bare =
      ap (λ l. notify ∷ flat_map own (each_once l)) (brought_root t root ∙ ap (λ l. t ∷ l) bare) ∙ ap (λ l. notify ∷ l) (append-nil (own t))

  pub interface_alone : Implements types → (own : ℕ → List Signal) (i : ℕ) → sort_of types i ≡ sorts.interface
      → signals_by types own i ≡ notify ∷ own i
  interface_alone heirs own i is = alone own i (heirs.root i is) (ap (λ s. implemented s (read no_type types i).interfaces) is)

-- ** a type more

module _ (types : List GType) (g : GType) (tree : IsTree types) (more : IsTree (types ++ g ∷ [])) (heirs : Implements types) where
  -- no interface is behind these types
  not_implemented : (is : List ℕ) → AreInterfaces types is → list_any (nat_eq (length types)) is ≡ false
  not_implemented is all = by (list_any (nat_eq (length types)) is) refl
    where
      by : (b : Bool) → list_any (nat_eq (length types)) is ≡ b → list_any (nat_eq (length types)) is ≡ false
      by false e = e
      by true e =
          let past : length types ≤ length types = omega arith in
          let other : sorts.class ≡ sorts.interface =
          sym (ap (λ (x : GType). x.sort) (read-past no_type types (length types) past)) ∙ is_interface types is (length types) all e in
          absurd (cc)

  -- none of these types is the one behind them
  not_last : (t : ℕ) → t < length types → is_a types t (length types) ≡ false
  not_last = along types tree (λ t. t < length types → is_a types t (length types) ≡ false) root on
    where
      here : (t : ℕ) → t < length types → is_or_implements types (length types) t ≡ false
      here t h =
          let differs : nat_eq t (length types) ≡ false = grind (arith, nat_tests) in
          none_holds (nat_eq t (length types)) (list_any (nat_eq (length types)) (implemented_by types t)) differs
          (not_implemented (implemented_by types t) (heirs.interfaces t))

      root : (t : ℕ) → parent_of types t ≡ None → t < length types → is_a types t (length types) ≡ false
      root t e h = is_a-root types tree t (length types) (here t h) e

      on : (t p : ℕ) → parent_of types t ≡ Some p → (p < length types → is_a types p (length types) ≡ false) → t < length types
          → is_a types t (length types) ≡ false
      on t p e rest h = is_a-up types tree t (length types) p (here t h) e ∙ rest (parent_within types tree t p e)

  brought_by_front : (t : ℕ) → t < length types → brought_by (types ++ g ∷ []) t ≡ brought_by types t
  brought_by_front t h = ap (λ (x : GType). t ∷ implemented x.sort x.interfaces) (read-front no_type g types t h)

  up : (t : ℕ) → t < length types → parent_of (types ++ g ∷ []) t ≡ parent_of types t
  up t h = ap (λ (x : GType). x.parent) (read-front no_type g types t h)

  pub brought_front : (t : ℕ) → t < length types → brought (types ++ g ∷ []) t ≡ brought types t
  brought_front = along types tree (λ t. t < length types → brought (types ++ g ∷ []) t ≡ brought types t) root on
    where
      root : (t : ℕ) → parent_of types t ≡ None → t < length types → brought (types ++ g ∷ []) t ≡ brought types t
      root t e h = brought_root (types ++ g ∷ []) more t (up t h ∙ e) ∙ brought_by_front t h ∙ sym (brought_root types tree t e)

      on : (t p : ℕ) → parent_of types t ≡ Some p → (p < length types → brought (types ++ g ∷ []) p ≡ brought types p) → t < length types
          → brought (types ++ g ∷ []) t ≡ brought types t
      on t p e rest h =
          brought_child (types ++ g ∷ []) more t p (up t h ∙ e)
          ∙ ap (λ l. l ++ brought_by (types ++ g ∷ []) t) (rest (parent_within types tree t p e))
          ∙ ap (λ l. brought types p ++ l) (brought_by_front t h) ∙ sym (brought_child types tree t p e)

  module _ (own changed : ℕ → List Signal) (same : OnlyAt (length types) own changed) where
    sources_kept : (t : ℕ) → t < length types → flat_map changed (sources_of types t) ≡ flat_map own (sources_of types t)
    sources_kept t h =
        flat_kept own changed (length types) (sources_of types t) same (sources_any types t (length types) ∙ not_last t h)

    -- the types before the one that changes have the signals that they had
    pub kept_signals : (t : ℕ) → t < length types → signals_by (types ++ g ∷ []) changed t ≡ signals_by types own t
    unfolding sources_of
    kept_signals t h =
        ap (λ l. notify ∷ flat_map changed (each_once l)) (brought_front t h) ∙ ap (λ l. notify ∷ l) (sources_kept t h)

  -- ** a class more

  module _ (parent : ℕ) (within : parent < length types) (above : g.parent ≡ Some parent) (is : List ℕ) (all : AreInterfaces types is)
      (of_g : implemented g.sort g.interfaces ≡ is) where
    -- what comes before the class and behind it
    pub parts : (zs : List ℕ) × (each_once (brought types parent ++ is) ≡ each_once (brought types parent) ++ zs)
        × (each_once (brought types parent ++ length types ∷ is) ≡ each_once (brought types parent) ++ length types ∷ zs)
    parts =
        once_between (length types) (brought types parent) is
        (any_brought types (length types) (lineage types parent) ∙ not_last parent within) (not_implemented is all)

    brought_last : brought (types ++ g ∷ []) (length types) ≡ brought types parent ++ length types ∷ is
    brought_last =
        brought_child (types ++ g ∷ []) more (length types) parent (ap (λ (x : GType). x.parent) (read-last no_type g types) ∙ above)
        ∙ ap (λ l. l ++ brought_by (types ++ g ∷ []) (length types)) (brought_front parent within)
        ∙ ap (λ (x : GType). brought types parent ++ length types ∷ implemented x.sort x.interfaces) (read-last no_type g types)
        ∙ ap (λ l. brought types parent ++ length types ∷ l) of_g

    -- the last type is not among what it brings behind itself
    not_behind : list_any (nat_eq (length types)) parts.0 ≡ false
    not_behind =
        let none : list_any (nat_eq (length types)) (each_once (brought types parent) ++ parts.0) ≡ false =
        ap (list_any (nat_eq (length types))) (sym parts.1) ∙ once_any (length types) (brought types parent ++ is)
        ∙ list_any-append (nat_eq (length types)) (brought types parent) is
        ∙ none_holds (list_any (nat_eq (length types)) (brought types parent)) (list_any (nat_eq (length types)) is)
        (any_brought types (length types) (lineage types parent) ∙ not_last parent within) (not_implemented is all) in
        (neither (list_any (nat_eq (length types)) (each_once (brought types parent))) (list_any (nat_eq (length types)) parts.0)
        (sym (list_any-append (nat_eq (length types)) (each_once (brought types parent)) parts.0) ∙ none)).1

    -- what the interfaces bring that the parent did not
    abbrev pub brought_new : (ℕ → List Signal) → List Signal
    brought_new own = flat_map own parts.0

    -- what the class has but for its own signals
    pub others_are : (own : ℕ → List Signal)
        → notify ∷ flat_map own (each_once (brought types parent ++ is)) ≡ signals_by types own parent ++ brought_new own
    unfolding sources_of
    others_are own =
        ap (λ l. notify ∷ flat_map own l) parts.1 ∙ ap (λ l. notify ∷ l) (flat_map-append own (each_once (brought types parent)) parts.0)

    -- and what it has
    pub class_signals : (own changed : ℕ → List Signal) → OnlyAt (length types) own changed
        → signals_by (types ++ g ∷ []) changed (length types) ≡ signals_by types own parent ++ (changed (length types) ++ brought_new own)
    unfolding sources_of
    class_signals own changed same =
        ap (λ l. notify ∷ flat_map changed (each_once l)) brought_last ∙ ap (λ l. notify ∷ flat_map changed l) parts.2
        ∙ ap (λ l. notify ∷ l) (flat_map-append changed (each_once (brought types parent)) (length types ∷ parts.0))
        ∙ ap (λ l. notify ∷ (l ++ (changed (length types) ++ flat_map changed parts.0))) (sources_kept own changed same parent within)
        ∙ ap (λ l. signals_by types own parent ++ (changed (length types) ++ l))
        (flat_kept own changed (length types) parts.0 same not_behind)
