-- The signals of a type, as far as a walk over what brings them has come.
use Rattle.std.proofs.Common.{◌≡◌, ◌∙◌, ℕ, ◌+◌, ◌-◌, ◌<◌, ◌≤◌, Bool, true, false, cond, ◌||◌, nat_eq, get_or, List, [], ◌∷◌, ◌++◌, length, length-append, reverse, take, drop, Option, None, Some, option_and_then, option_map, slice_get, zero, suc, add-one, inl, inr, refl, sym, ap, subst, arith, append-nil, append_assoc}
use Rattle.std.specs.List.{find, flat_map, list_any}
use Rattle.std.proofs.lemmas.Bool.{cases_lt}
use Rattle.std.proofs.lemmas.Grind.{flat_map-append}
use Rattle.std.proofs.lemmas.List.{reverse-append, take-append-drop, take_more}
use Rattle.std.proofs.lemmas.List.Folds.{list_any-append}
use Rattle.ui_machine.specs.Definition.Names.{place_named, same_name}
use Rattle.ui_machine.specs.Definition.Signals.{ClassHandler, Signal}
use Rattle.ui_machine.specs.Definition.Types.{GType}
use Rattle.ui_machine.specs.Rules.Ancestry.{implemented_by, is_or_implements, line_from, lineage, parent_of}
use Rattle.ui_machine.specs.Rules.EmissionPlan.{first_given, handler_in, or_else}
use Rattle.type_tree.specs.Tree.{IsTree}
use Rattle.type_tree.proofs.Entries.{read-past}
use Rattle.type_tree.proofs.Lines.{line_from-parent, line_from-root}
use Rattle.type_tree.proofs.Lookups.{nat_eq-comm}
use Rattle.signal_core.specs.Sources.{AreMarked, added_at, ancestor_of, brought_above, brought_at, brought_by, brought_until, came_before, declared_of, declared_until, each_once, own_of, sources_of}
use Rattle.ui_machine.specs.Seq.{total}
use Rattle.signal_core.specs.Table.{IsTable, class_handler_named, line_count, named_of}
use Rattle.signal_core.proofs.Once.{each_once-front, each_once-more, once_few}
use Rattle.signal_core.proofs.Places.{place_back, place_front, slice_get-back, slice_get-front}

flat_map-last : {A : Type 0} (f : ℕ → List A) (ts : List ℕ) (t : ℕ) → flat_map f (reverse (t ∷ ts)) ≡ flat_map f (reverse ts) ++ f t
flat_map-last f ts t =
    ap (flat_map f) (reverse-append (t ∷ []) ts) ∙ flat_map-append f (reverse ts) (t ∷ []) ∙ ap (λ l. flat_map f (reverse ts) ++ l) (append-nil (f t))

take-all : {A : Type 0} (xs : List A) → take (length xs) xs ≡ xs
take-all [] = refl
take-all (x ∷ xs) = ap (λ l. x ∷ l) (take-all xs)

-- ** what came before

or-comm : (a b : Bool) → (a || b) ≡ (b || a)
or-comm true true = refl
or-comm true false = refl
or-comm false true = refl
or-comm false false = refl

pub any_brought : (types : List GType) (s : ℕ) (ls : List ℕ) → list_any (nat_eq s) (flat_map (brought_by types) (reverse ls)) ≡ list_any (is_or_implements types s) ls
any_brought types s [] = refl
any_brought types s (c ∷ ls) =
    ap (list_any (nat_eq s)) (flat_map-last (brought_by types) ls c)
    ∙ list_any-append (nat_eq s) (flat_map (brought_by types) (reverse ls)) (brought_by types c)
    ∙ or-comm (list_any (nat_eq s) (flat_map (brought_by types) (reverse ls))) (list_any (nat_eq s) (brought_by types c))
    ∙ ap (λ b. (b || list_any (nat_eq s) (implemented_by types c)) || list_any (nat_eq s) (flat_map (brought_by types) (reverse ls))) (nat_eq-comm s c)
    ∙ ap (λ b. is_or_implements types s c || b) (any_brought types s ls)

pub came_before-parts : (types : List GType) (t place : ℕ) (s : ℕ) (above among : Bool) → s ≡ brought_at types t place
    → above ≡ list_any (nat_eq s) (brought_above types t) → among ≡ list_any (nat_eq s) (take place (brought_by types t))
    → (above || among) ≡ came_before types t place
came_before-parts types t place s above among is a b =
    ap (λ x. x || among) a ∙ ap (λ x. list_any (nat_eq s) (brought_above types t) || x) b
    ∙ sym (list_any-append (nat_eq s) (brought_above types t) (take place (brought_by types t)))
    ∙ ap (λ x. list_any (nat_eq x) (brought_until types t place)) is

-- ** up and down a line

module _ (types : List GType) where
  pub ancestor_more : (t height : ℕ) (class parent : ℕ) → ancestor_of types t height ≡ Some class → parent_of types class ≡ Some parent → ancestor_of types t (height + 1) ≡ Some parent
  ancestor_more t height class parent at up = ap (ancestor_of types t) (add-one height) ∙ ap (option_and_then (parent_of types)) at ∙ up

  pub ancestor_none : (t height : ℕ) (class : ℕ) → ancestor_of types t height ≡ Some class → parent_of types class ≡ None → ancestor_of types t (height + 1) ≡ None
  ancestor_none t height class at up = ap (ancestor_of types t) (add-one height) ∙ ap (option_and_then (parent_of types)) at ∙ up

  -- above where there is none there is none
  pub none_higher : (t low high : ℕ) → low ≤ high → ancestor_of types t low ≡ None → ancestor_of types t high ≡ None
  none_higher t low zero le e = ap (ancestor_of types t) (let same : 0 ≡ low = omega arith in same) ∙ e
  none_higher t low (suc high) le e =
      elim (cases_lt high low) [
        | inl past ↦ ap (ancestor_of types t) (let same : suc high ≡ low = omega (arith, le, past) in same) ∙ e
        | inr below ↦ ap (option_and_then (parent_of types)) (none_higher t low high below e)
      ]

  -- what a type takes from its parent, it takes from each ancestor
  pub line_down : (P : ℕ → Type 0) → ((t p : ℕ) → parent_of types t ≡ Some p → P p → P t) → (t height class : ℕ) → ancestor_of types t height ≡ Some class → P class → P t
  line_down P step t zero class at has = let same : class ≡ t = cc in subst P same has
  line_down P step t (suc height) class at has = by (ancestor_of types t height) at (λ mid e. line_down P step t height mid e) refl
    where
      by : (o : Option ℕ) → option_and_then (parent_of types) o ≡ Some class → ((mid : ℕ) → ancestor_of types t height ≡ Some mid → P mid → P t) → ancestor_of types t height ≡ o → P t
      by None at rec e = absurd (cc)
      by (Some mid) at rec e = rec mid e (step mid class at has)

  -- the one below an ancestor is its child
  pub child_below : (t height class child : ℕ) → ancestor_of types t height ≡ Some class → (height ≡ 0 → ⊥) → ancestor_of types t (height - 1) ≡ Some child → parent_of types child ≡ Some class
  child_below t zero class child at some below = absurd (some refl)
  child_below t (suc height) class child at some below =
      let lower : ancestor_of types t height ≡ Some child = ap (ancestor_of types t) (let same : height ≡ suc height - 1 = omega arith in same) ∙ below in
      sym (ap (option_and_then (parent_of types)) lower) ∙ at

-- ** what is marked

module _ (types : List GType) where
  brought_more : (t place : ℕ) → place < length (brought_by types t) → brought_until types t (place + 1) ≡ brought_until types t place ++ brought_at types t place ∷ []
  brought_more t place h =
      ap (λ l. brought_above types t ++ l) (take_more (brought_by types t) place 0 h)
      ∙ sym (append_assoc (brought_above types t) (take place (brought_by types t)) (brought_at types t place ∷ []))

  pub brought_all : (t : ℕ) → flat_map (brought_by types) (reverse (lineage types t)) ≡ brought_until types t (length (brought_by types t))
  brought_all t =
      flat_map-last (brought_by types) (line_from (length types) types (parent_of types t)) t
      ∙ ap (λ l. brought_above types t ++ l) (sym (take-all (brought_by types t)))

  pub marked_child : (tree : IsTree types) (t p : ℕ) (marks : List Bool) → parent_of types t ≡ Some p
      → AreMarked marks (brought_until types p (length (brought_by types p))) → AreMarked marks (brought_until types t 0)
  marked_child tree t p marks h m u small =
      m u small
      ∙ ap (list_any (nat_eq u))
      (sym (append-nil (brought_above types t) ∙ ap (λ l. flat_map (brought_by types) (reverse l)) (line_from-parent types tree t p h) ∙ brought_all p))

  pub marked_root : (tree : IsTree types) (t : ℕ) (marks : List Bool) → parent_of types t ≡ None → AreMarked marks [] → AreMarked marks (brought_until types t 0)
  marked_root tree t marks h m u small =
      m u small
      ∙ ap (list_any (nat_eq u)) (sym (append-nil (brought_above types t) ∙ ap (λ l. flat_map (brought_by types) (reverse l)) (line_from-root types tree t h)))

  -- with one more that is marked, or that has no place for a mark
  any_last : (u s : ℕ) (xs : List ℕ) → list_any (nat_eq u) (xs ++ s ∷ []) ≡ (list_any (nat_eq u) xs || (nat_eq u s || false))
  any_last u s xs = list_any-append (nat_eq u) xs (s ∷ [])

  pub marked_more : (t place : ℕ) (marks new : List Bool) → place < length (brought_by types t) → AreMarked marks (brought_until types t place)
      → length new ≡ length marks
      → ((u : ℕ) → u < length marks → get_or new u false ≡ (get_or marks u false || nat_eq u (brought_at types t place)))
      → AreMarked new (brought_until types t (place + 1))
  marked_more t place marks new h m long is u small =
      let within : u < length marks = omega arith in
      is u within
      ∙ ap (λ b. b || nat_eq u (brought_at types t place)) (m u within)
      ∙ or_last (list_any (nat_eq u) (brought_until types t place)) (nat_eq u (brought_at types t place))
      ∙ sym (any_last u (brought_at types t place) (brought_until types t place))
      ∙ ap (list_any (nat_eq u)) (sym (brought_more t place h))
    where
      or_last : (a b : Bool) → (a || b) ≡ (a || (b || false))
      or_last true b = refl
      or_last false true = refl
      or_last false false = refl

module _ (types : List GType) (signals : List (List Signal)) where
  added-of : (came : Bool) (s : ℕ) → flat_map (own_of signals) (cond came [] (s ∷ [])) ≡ cond came [] (own_of signals s)
  added-of true s = refl
  added-of false s = append-nil (own_of signals s)

  pub added-before : (t place : ℕ) → came_before types t place ≡ true → [] ≡ added_at types signals t place
  unfolding added_at
  added-before t place h = sym (ap (λ b. cond b [] (own_of signals (brought_at types t place))) h)

  pub added-first : (t place : ℕ) → came_before types t place ≡ false → own_of signals (brought_at types t place) ≡ added_at types signals t place
  unfolding added_at
  added-first t place h = sym (ap (λ b. cond b [] (own_of signals (brought_at types t place))) h)

  -- ** the steps of the walk

  pub until_more : (t place : ℕ) → place < length (brought_by types t)
      → declared_until types signals t (place + 1) ≡ declared_until types signals t place ++ added_at types signals t place
  unfolding declared_until added_at
  until_more t place h =
      let s = brought_at types t place in
      let before = brought_until types t place in
      ap (λ l. flat_map (own_of signals) (each_once (brought_above types t ++ l))) (take_more (brought_by types t) place 0 h)
      ∙ ap (λ l. flat_map (own_of signals) (each_once l)) (sym (append_assoc (brought_above types t) (take place (brought_by types t)) (s ∷ [])))
      ∙ ap (flat_map (own_of signals)) (each_once-more before s)
      ∙ flat_map-append (own_of signals) (each_once before) (cond (came_before types t place) [] (s ∷ []))
      ∙ ap (λ l. flat_map (own_of signals) (each_once before) ++ l) (added-of (came_before types t place) s)

  all_brought : (t : ℕ) → flat_map (brought_by types) (reverse (lineage types t)) ≡ brought_above types t ++ brought_by types t
  all_brought t = flat_map-last (brought_by types) (line_from (length types) types (parent_of types t)) t

  pub until_all : (t : ℕ) → declared_until types signals t (length (brought_by types t)) ≡ declared_of types signals t
  unfolding declared_until declared_of sources_of
  until_all t =
      ap (λ l. flat_map (own_of signals) (each_once (brought_above types t ++ l))) (take-all (brought_by types t))
      ∙ ap (λ l. flat_map (own_of signals) (each_once l)) (sym (all_brought t))

  -- what a walk has come by comes first among all
  pub until_first : (t count : ℕ) → (more : List Signal) × (declared_of types signals t ≡ declared_until types signals t count ++ more)
  unfolding declared_until declared_of sources_of
  until_first t count =
      let front = each_once-front (brought_until types t count) (drop count (brought_by types t)) in (
        flat_map (own_of signals) front.0,
        ap (λ l. flat_map (own_of signals) (each_once l)) (all_brought t)
            ∙ ap (λ l. flat_map (own_of signals) (each_once (brought_above types t ++ l))) (sym (take-append-drop count (brought_by types t)))
            ∙ ap (λ l. flat_map (own_of signals) (each_once l)) (sym (append_assoc (brought_above types t) (take count (brought_by types t)) (drop count (brought_by types t))))
            ∙ ap (flat_map (own_of signals)) front.1
            ∙ flat_map-append (own_of signals) (each_once (brought_until types t count)) front.0,
      )

  pub until_child : (tree : IsTree types) (t p : ℕ) → parent_of types t ≡ Some p → declared_until types signals t 0 ≡ declared_of types signals p
  unfolding declared_until declared_of sources_of
  until_child tree t p h =
      ap (λ l. flat_map (own_of signals) (each_once l)) (append-nil (brought_above types t))
      ∙ ap (λ l. flat_map (own_of signals) (each_once (flat_map (brought_by types) (reverse l)))) (line_from-parent types tree t p h)

  pub until_root : (tree : IsTree types) (t : ℕ) → parent_of types t ≡ None → declared_until types signals t 0 ≡ []
  unfolding declared_until
  until_root tree t h =
      ap (λ l. flat_map (own_of signals) (each_once l)) (append-nil (brought_above types t))
      ∙ ap (λ l. flat_map (own_of signals) (each_once (flat_map (brought_by types) (reverse l)))) (line_from-root types tree t h)

  pub until_end : (t count : ℕ) → count ≡ length (brought_by types t) → declared_until types signals t count ≡ declared_of types signals t
  until_end t count e = ap (declared_until types signals t) e ∙ until_all t

  pub count_next : (t at count n : ℕ) → at < length (brought_by types t) → count ≡ length (declared_until types signals t at) → n ≡ length (added_at types signals t at)
      → count + n ≡ length (declared_until types signals t (at + 1))
  count_next t at count n lt long more =
      ap (λ k. k + n) long ∙ ap (λ k. length (declared_until types signals t at) + k) more
      ∙ sym (length-append (declared_until types signals t at) (added_at types signals t at)) ∙ ap length (sym (until_more t at lt))

  -- ** few signals

  module _ (table : IsTable signals) where
    none_past : (u : ℕ) → 256 ≤ u → own_of signals u ≡ []
    none_past u h = read-past [] signals u (omega (arith, table.few))

    pub until_few : (t count : ℕ) → length (declared_until types signals t count) ≤ 16384
    unfolding declared_until
    until_few t count = once_few (own_of signals) 64 256 table.own none_past (brought_until types t count)

    pub declared_few : (t : ℕ) → length (declared_of types signals t) ≤ 16384
    unfolding declared_of sources_of
    declared_few t = once_few (own_of signals) 64 256 table.own none_past (flat_map (brought_by types) (reverse (lineage types t)))

  -- ** names on the way

  module _ (name : List ℕ) where
    pub found_until : (t count place : ℕ) → place_named (λ (s : Signal). s.name) (declared_until types signals t count) name ≡ Some place
        → place_named (λ (s : Signal). s.name) (declared_of types signals t) name ≡ Some place
    found_until t count place h =
        let rest = until_first t count in
        ap (λ l. place_named (λ (s : Signal). s.name) l name) rest.1 ∙ place_front (λ (s : Signal). s.name) name (declared_until types signals t count) rest.0 place h

    pub found_next : (t at count place : ℕ) → at < length (brought_by types t)
        → place_named (λ (s : Signal). s.name) (declared_until types signals t at) name ≡ None → count ≡ length (declared_until types signals t at)
        → place_named (λ (s : Signal). s.name) (added_at types signals t at) name ≡ Some place
        → place_named (λ (s : Signal). s.name) (declared_of types signals t) name ≡ Some (count + place)
    found_next t at count place lt none long some =
        found_until t (at + 1) (count + place)
        (ap (λ l. place_named (λ (s : Signal). s.name) l name) (until_more t at lt)
        ∙ place_back (λ (s : Signal). s.name) name (declared_until types signals t at) (added_at types signals t at) none
        ∙ ap (option_map (λ k. length (declared_until types signals t at) + k)) some
        ∙ ap (λ n. Some (n + place)) (sym long))

    pub none_next : (t at : ℕ) → at < length (brought_by types t)
        → place_named (λ (s : Signal). s.name) (declared_until types signals t at) name ≡ None
        → place_named (λ (s : Signal). s.name) (added_at types signals t at) name ≡ None
        → place_named (λ (s : Signal). s.name) (declared_until types signals t (at + 1)) name ≡ None
    none_next t at lt none none_here =
        ap (λ l. place_named (λ (s : Signal). s.name) l name) (until_more t at lt)
        ∙ place_back (λ (s : Signal). s.name) name (declared_until types signals t at) (added_at types signals t at) none
        ∙ ap (option_map (λ k. length (declared_until types signals t at) + k)) none_here

  -- ** signals on the way

  pub got_until : (t count place : ℕ) (s : Signal) → slice_get (declared_until types signals t count) place ≡ Some s → slice_get (declared_of types signals t) place ≡ Some s
  got_until t count place s h =
      let rest = until_first t count in
      ap (λ l. slice_get l place) rest.1 ∙ slice_get-front (declared_until types signals t count) rest.0 place s h

  pub got_next : (t at count place : ℕ) (s : Signal) → at < length (brought_by types t) → count ≡ length (declared_until types signals t at) → count ≤ place
      → slice_get (added_at types signals t at) (place - count) ≡ Some s → slice_get (declared_of types signals t) place ≡ Some s
  got_next t at count place s lt long past h =
      got_until t (at + 1) place s
      (ap (λ l. slice_get l place) (until_more t at lt)
      ∙ slice_get-back (declared_until types signals t at) (added_at types signals t at) place (subst (λ n. n ≤ place) long past)
      ∙ ap (λ n. slice_get (added_at types signals t at) (place - n)) (sym long) ∙ h)

-- ** the signals of a line

pub line_count-child : (types : List GType) (tree : IsTree types) (signals : List (List Signal)) (t p own above : ℕ) → parent_of types t ≡ Some p
    → own ≡ length (own_of signals t) → above ≡ line_count types signals p → own + above ≡ line_count types signals t
line_count-child types tree signals t p own above h e f =
    ap (λ n. n + above) e ∙ ap (λ n. length (own_of signals t) + n) f
    ∙ ap (λ l. length (own_of signals t) + total (λ c. length (own_of signals c)) l) (sym (line_from-parent types tree t p h))

-- ** class handlers

pub class_handler-child : (types : List GType) (tree : IsTree types) (handlers : List (List ClassHandler)) (t p : ℕ) (name : List ℕ) → parent_of types t ≡ Some p
    → handler_in (named_of handlers t) name ≡ None → class_handler_named types handlers p name ≡ class_handler_named types handlers t name
class_handler-child types tree handlers t p name h none =
    ap (first_given own) (sym (line_from-parent types tree t p h))
    ∙ ap (λ o. or_else o (first_given own (line_from (length types) types (parent_of types t)))) (sym none)
  where
    own : ℕ → Option ℕ
    own class = handler_in (named_of handlers class) name

-- the first class handler of a name, as the code finds it
pub handler-found : (handlers : List ClassHandler) (name : List ℕ)
    → option_map (λ (h : ClassHandler). h.program) (find (λ h. same_name h.signal name) handlers) ≡ handler_in handlers name
handler-found [] name = refl
handler-found (h ∷ hs) name = by (same_name h.signal name) (handler-found hs name)
  where
    by : (b : Bool) → option_map (λ (h : ClassHandler). h.program) (find (λ h. same_name h.signal name) hs) ≡ handler_in hs name
        → option_map (λ (h : ClassHandler). h.program) (cond b (Some h) (find (λ h. same_name h.signal name) hs)) ≡ cond b (Some h.program) (handler_in hs name)
    by true e = refl
    by false e = e
