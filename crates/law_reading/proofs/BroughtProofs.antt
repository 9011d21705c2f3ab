-- The signals that the interfaces of a class bring: names differ, where the class's own signals have none of them.
use Rattle.std.proofs.Common.{◌≡◌, ◌<◌, ℕ, zero, suc, Bool, true, false, cond, not, ◌&&◌, ◌||◌, nat_eq, is_some, if◌then◌else◌, List, [], ◌∷◌, ◌++◌, length, Some, Ok, Err, slice_get, refl, sym, ap, subst, ◌∙◌, append_assoc}
use Rattle.std.specs.List.{flat_map, list_any}
use Rattle.std.specs.Str.{bytes_eq}
use Rattle.std.proofs.lemmas.List.{append-nil}
use Rattle.std.proofs.lemmas.List.Folds.{list_any-append}
use Rattle.std.proofs.lemmas.Grind.{flat_map-append}
use Rattle.serde_json.specs.Data.{Data}
use Rattle.ui_machine.specs.Definition.Names.{same_name, canonical}
use Rattle.ui_machine.specs.Definition.Signals.{Signal}
use Rattle.ui_machine.specs.Definition.Types.{GType}
use Rattle.ui_machine.specs.Definition.Types as sorts
use Rattle.ui_machine.specs.Rules.Ancestry.{lineage, is_a}
use Rattle.ui_machine.specs.Words.{notify}
use Rattle.signal_core.proofs.Once.{each_once-more}
use Rattle.signal_core.proofs.Walks.{any_brought}
use Rattle.signal_core.specs.Sources.{each_once, number_named, sources_of}
use Rattle.type_tree.specs.Adding.{sort_of}
use Rattle.type_tree.specs.Tree.{IsTree}
use Rattle.definition_format.specs.Refusals.{duplicate}
use Rattle.definition_format.specs.Denoted.Brought.{own_signals_ahead, is_brought, is_again}
use Rattle.definition_format.specs.Denoted.Drafts.{Draft}
use Rattle.definition_format.specs.Denoted.Implements.{Heir, brings_again, check_brought}
use Rattle.definition_format.specs.Denoted.Signals.{signals_by}
use Rattle.law_reading.proofs.Ancestors.{Implements}
use Rattle.law_reading.proofs.ListProofs.{each_get}
use Rattle.law_reading.proofs.NameProofs.{AreApart, is_named, neither, none_called, signal_name, unnamed_parts, unnamed_both, apart_joined, apart_rest}
use Rattle.law_reading.proofs.OwnSignalProofs.{IsCanonical, AreNew, SignalsRead}
use Rattle.law_reading.proofs.PropertyProofs.{none_there}
use Rattle.law_reading.proofs.ProvidedProofs.{interface_within}
use Rattle.law_reading.proofs.SourceProofs.{brought, interface_alone}

-- the signals of a class of this parent that names these interfaces, but for its own
abbrev pub beside_own : List GType → (ℕ → List Signal) → ℕ → List ℕ → List Signal
beside_own types signals parent is = notify ∷ flat_map signals (each_once (brought types parent ++ is))

-- names differ among them, where the class's own have none of these names
abbrev pub Brings : List GType → (ℕ → List Signal) → ℕ → List (List ℕ) → List ℕ → Type 0
Brings types signals parent names is =
    AreNew names (beside_own types signals parent is) → AreApart signal_name (beside_own types signals parent is)

-- so it is by the own signals that were read ahead
abbrev pub BringsAhead : Draft → ℕ → List ℕ → Data → List ℕ → Type 0
BringsAhead draft parent path d is =
    (names : List (List ℕ)) → own_signals_ahead path d ≡ Ok names → Brings draft.types draft.signals parent names is

parent_first : (types : List GType) (signals : ℕ → List Signal) (parent : ℕ)
    → beside_own types signals parent [] ≡ signals_by types signals parent
unfolding sources_of
parent_first types signals parent = ap (λ l. notify ∷ flat_map signals (each_once l)) (append-nil (brought types parent))

-- without interfaces there are those of the parent
pub none_brought : (types : List GType) (signals : ℕ → List Signal) (parent : ℕ) (names : List (List ℕ)) → SignalsRead types signals
    → parent < length types → Brings types signals parent names []
none_brought types signals parent names read within new =
    subst (AreApart signal_name) (sym (parent_first types signals parent)) (read.apart parent within)

none_of : {A : Type 0} (test : A → Bool) (xs : List A) (i : ℕ) (x : A) → list_any test xs ≡ false → slice_get xs i ≡ Some x → test x ≡ false
none_of test [] i x none e = absurd (cc)
none_of test (y ∷ ys) zero x none e =
    let same : y ≡ x = cc in ap test (sym same) ∙ (neither (test y) (list_any test ys) none).0
none_of test (y ∷ ys) (suc i) x none e = none_of test ys i x (neither (test y) (list_any test ys) none).1 e

not_found : (has : List Signal) (name : List ℕ) → is_some (number_named has name) ≡ false
    → is_named signal_name has (canonical name) ≡ false
not_found has name e = none_called signal_name 0 has (canonical name) (none_there (number_named has name) e)

-- ** an interface more

module _ (heir : Heir) (tree : IsTree heir.types) (heirs : Implements heir.types) (read : SignalsRead heir.types heir.signals)
    (within : heir.parent < length heir.types) where
  abbrev has : ℕ → List Signal
  has t = signals_by heir.types heir.signals t

  abbrev so_far : List ℕ → List Signal
  so_far is = beside_own heir.types heir.signals heir.parent is

  -- what is so of the interfaces so far
  pub record AreBrought (is : List ℕ) : Type 0 where
    -- a name that neither the parent nor one of them brings is none of theirs
    pub found : (name : List ℕ) → is_brought has (heir.parent ∷ is) name ≡ false → is_named signal_name (so_far is) (canonical name) ≡ false
    pub apart : Brings heir.types heir.signals heir.parent heir.own_signals is

  pub first_brought : AreBrought []
  first_brought = record {
    found = λ name none.
        subst (λ xs. is_named signal_name xs (canonical name) ≡ false) (sym (parent_first heir.types heir.signals heir.parent))
        (not_found (has heir.parent) name (neither (is_some (number_named (has heir.parent) name)) false none).0);
    apart = none_brought heir.types heir.signals heir.parent heir.own_signals read within;
  }

  module _ (is : List ℕ) (i : ℕ) (interface : sort_of heir.types i ≡ sorts.interface) (new : list_any (nat_eq i) is ≡ false) where
    -- what an interface brings, unless the parent does
    abbrev news : Bool → List Signal
    news known = cond known [] (heir.signals i)

    grows : (known : Bool) → is_a heir.types heir.parent i ≡ known → so_far (is ++ i ∷ []) ≡ so_far is ++ news known
    grows known e =
        ap (λ l. notify ∷ flat_map heir.signals (each_once l)) (sym (append_assoc (brought heir.types heir.parent) is (i ∷ [])))
        ∙ ap (λ l. notify ∷ flat_map heir.signals l) (each_once-more (brought heir.types heir.parent ++ is) i)
        ∙ ap (λ b. notify ∷ flat_map heir.signals (each_once (brought heir.types heir.parent ++ is) ++ cond b [] (i ∷ []))) there
        ∙ ap (λ l. notify ∷ l) (flat_map-append heir.signals (each_once (brought heir.types heir.parent ++ is)) (cond known [] (i ∷ [])))
        ∙ ap (λ l. so_far is ++ l) (one known)
      where
        there : list_any (nat_eq i) (brought heir.types heir.parent ++ is) ≡ known
        there =
            list_any-append (nat_eq i) (brought heir.types heir.parent) is
            ∙ ap (λ b. list_any (nat_eq i) (brought heir.types heir.parent) || b) new
            ∙ ap (λ b. b || false) (any_brought heir.types i (lineage heir.types heir.parent) ∙ e) ∙ or_false known
          where
            or_false : (b : Bool) → (b || false) ≡ b
            or_false true = refl
            or_false false = refl

        one : (known : Bool) → flat_map heir.signals (cond known [] (i ∷ [])) ≡ news known
        one true = refl
        one false = append-nil (heir.signals i)

    itself : has i ≡ notify ∷ heir.signals i
    itself = interface_alone heir.types tree heirs heir.signals i interface

    none_new : (known : Bool) (name : List ℕ) → is_some (number_named (has i) name) ≡ false
        → is_named signal_name (news known) (canonical name) ≡ false
    none_new true name none = refl
    none_new false name none =
        let all : is_named signal_name (notify ∷ heir.signals i) (canonical name) ≡ false =
        subst (λ xs. is_named signal_name xs (canonical name) ≡ false) itself (not_found (has i) name none) in
        (neither (same_name notify.name (canonical name)) (is_named signal_name (heir.signals i) (canonical name)) all).1

    module _ (old : AreBrought is) where
      found_more : (known : Bool) → is_a heir.types heir.parent i ≡ known → (name : List ℕ)
          → is_brought has (heir.parent ∷ (is ++ i ∷ [])) name ≡ false
          → is_named signal_name (so_far (is ++ i ∷ [])) (canonical name) ≡ false
      found_more known e name none =
          let parts = neither (is_brought has (heir.parent ∷ is) name) (is_brought has (i ∷ []) name)
          (sym (list_any-append (λ t. is_some (number_named (has t) name)) (heir.parent ∷ is) (i ∷ [])) ∙ none) in
          subst (λ xs. is_named signal_name xs (canonical name) ≡ false) (sym (grows known e))
          (unnamed_both signal_name (so_far is) (news known) (canonical name) (old.found name parts.0)
          (none_new known name (neither (is_some (number_named (has i) name)) false parts.1).0))

      module _ (fresh : AreNew heir.own_signals (so_far is)) where
        -- a signal that is not brought again has a new name
        unlike : (s : Signal) → canonical s.name ≡ s.name → is_again has heir.own_signals (heir.parent ∷ is) s ≡ false
            → is_named signal_name (so_far is) s.name ≡ false
        unlike s plain again = by (list_any (bytes_eq s.name) heir.own_signals) refl again
          where
            by : (b : Bool) → list_any (bytes_eq s.name) heir.own_signals ≡ b → (not b && is_brought has (heir.parent ∷ is) s.name) ≡ false
                → is_named signal_name (so_far is) s.name ≡ false
            by true e h = fresh s.name e
            by false e h = subst (λ name. is_named signal_name (so_far is) name ≡ false) plain (old.found s.name h)

        joined : (known : Bool) → (known ≡ false → brings_again heir i is ≡ false) → AreApart signal_name (so_far is ++ news known)
        joined true none = subst (AreApart signal_name) (sym (append-nil (so_far is))) (old.apart fresh)
        joined false none =
            apart_joined signal_name (so_far is) (heir.signals i) (old.apart fresh)
            (apart_rest signal_name notify (heir.signals i)
            (subst (AreApart signal_name) itself (read.apart i (interface_within heir.types i interface))))
            (λ k s e.
            unlike s (each_get IsCanonical (heir.signals i) k s (read.kept i) e)
            (none_of (is_again has heir.own_signals (heir.parent ∷ is)) (heir.signals i) k s (none refl) e))

      apart_more : (known : Bool) → is_a heir.types heir.parent i ≡ known → (known ≡ false → brings_again heir i is ≡ false)
          → Brings heir.types heir.signals heir.parent heir.own_signals (is ++ i ∷ [])
      apart_more known e none new_names =
          let all : AreNew heir.own_signals (so_far is ++ news known) = subst (AreNew heir.own_signals) (grows known e) new_names in
          subst (AreApart signal_name) (sym (grows known e))
          (joined (λ name h. (unnamed_parts signal_name (so_far is) (news known) name (all name h)).0) known none)

    not_again : (path : List ℕ) (u : Unit {0}) (known : Bool)
        → (if known then Ok tt else (if brings_again heir i is then Err (duplicate path) else Ok tt)) ≡ Ok u → known ≡ false
        → brings_again heir i is ≡ false
    not_again path u true e f = absurd (cc)
    not_again path u false e f = by (brings_again heir i is) e
      where
        by : (b : Bool) → (if b then Err (duplicate path) else Ok tt) ≡ Ok u → b ≡ false
        by true e = absurd (cc)
        by false e = refl

    -- where an interface brings no signal again, what is so of the ones before is so of it too
    pub one_brought : (path : List ℕ) (u : Unit {0}) → check_brought path heir i is ≡ Ok u → AreBrought is → AreBrought (is ++ i ∷ [])
    one_brought path u e old =
        let known = is_a heir.types heir.parent i in record {
          found = found_more old known refl;
          apart = apart_more old known refl (not_again path u known e);
        }
