-- The interfaces of a class, with the names of the signals that they bring.
use Rattle.std.proofs.Common.{◌≡◌, ◌∙◌, ℕ, suc, Bool, true, false, cond, not, nat_eq, ◌||◌, ◌&&◌, if◌then◌else◌, List, [], ◌∷◌, ◌++◌, map, Some, is_some, Bor, Result, Ok, refl, sym, ap}
use Rattle.std.specs.BTreeMap.{is_at}
use Rattle.std.specs.BTreeSet.{BTreeSet, UpdatesBy}
use Rattle.std.specs.Cmp.Lexicographic.{slice_cmp}
use Rattle.std.specs.List.{list_any, list_all}
use Rattle.std.specs.Ordering.{nat_cmp}
use Rattle.std.specs.Str.{bytes_eq}
use Rattle.std.proofs.Math.Path.{fun_ext}
use Rattle.std.proofs.lemmas.List.Folds.{list_any-append}
use Rattle.std.proofs.lemmas.Map.Text.{is_eq-slice_cmp}
use Rattle.serde_json.specs.Data.{Data, Items}
use Rattle.ui_machine.specs.Outcome.{◌>>=◌}
use Rattle.ui_machine.specs.Definition.Names.{same_name, canonical, place_from, place_named}
use Rattle.ui_machine.specs.Definition.Signals.{Signal}
use Rattle.type_tree.proofs.Lookups.{same_name-bytes_eq}
use Rattle.signal_core.specs.Sources.{declared_of, signals_of}
use Rattle.signal_core.specs.Sources as declared
use Rattle.signal_core.specs.SignalView.{signal_view}
use Rattle.signal_core.specs.declared.signal.Signal as code
use Rattle.definition_format.specs.Refusals.{Refusal}
use Rattle.definition_format.specs.Document.{each, at_entry}
use Rattle.definition_format.specs.Denoted.Signals.{signals_by}
use Rattle.definition_format.specs.Denoted.Implements.{Heir, check_brought, check_prerequisites, check_overrides, newly_implemented, implemented_once, interface_at_entry, implemented_at}
use Rattle.read_types.specs.ImplementDrafts.{ImplementParts, parts_of, with_interface, is_again_in, brings_again_in, check_brought_in, newly_implemented_in, implemented_once_in, implement_part_at, has_name}
use Rattle.read_types.specs.OverrideView.{names_of, heir_of}
use Rattle.read_types.specs.declared.overrides.Heir as heirs
use Rattle.read_types.specs.Drafted.{drafted}
use Rattle.read_types.proofs.NamesAhead.{any_map}
use Rattle.read_types.proofs.Drafting.{through, each_drafted}

-- ** names

-- the canonical spelling of a name that has no `_`
pub canonical_same : (name : List ℕ) → list_all (λ b. not (nat_eq b 95)) name ≡ true → canonical name ≡ name
canonical_same [] h = refl
canonical_same (x ∷ xs) h = by (nat_eq x 95) refl h (canonical_same xs)
  where
    by : (b : Bool) → nat_eq x 95 ≡ b → (not b && list_all (λ b. not (nat_eq b 95)) xs) ≡ true → (list_all (λ b. not (nat_eq b 95)) xs ≡ true → canonical xs ≡ xs)
        → (cond (nat_eq x 95) 45 x ∷ canonical xs) ≡ x ∷ xs
    by true q h rest = absurd (cc)
    by false q h rest = ap (λ b. cond b 45 x ∷ canonical xs) q ∙ ap (λ l. x ∷ l) (rest h)

-- walking over names
pub spelled_there : (names : BTreeSet (Bor (List ℕ))) (name : List ℕ) → list_any (λ k. same_name k.now name) names.keys ≡ has_name names name
spelled_there names name =
    ap (λ (test : Bor (List ℕ) → Bool). list_any test names.keys)
    (fun_ext (λ (k : Bor (List ℕ)). same_name-bytes_eq name k.now ∙ sym (is_eq-slice_cmp name k.now)))

none_named : (names : BTreeSet (Bor (List ℕ))) → names.keys ≡ [] → (name : List ℕ) → has_name names name ≡ false
none_named names empty name = ap (λ (ks : List (Bor (List ℕ))). list_any (is_at (λ (k : Bor (List ℕ)). slice_cmp nat_cmp name k.now)) ks) empty

-- one name more
pub name_more : (bs : List ℕ) (old new : BTreeSet (Bor (List ℕ))) → UpdatesBy (λ x y. slice_cmp nat_cmp x.now y.now) (λ k. slice_cmp nat_cmp bs k.now) old new true
    → (name : List ℕ) → has_name new name ≡ (if bytes_eq bs name then true else has_name old name)
name_more bs old new h name =
    h.0 (record { ref_ptr = (0, 0); now = name }) ∙ ap (λ b. if b then true else has_name old name) (is_eq-slice_cmp bs name)

-- ** parts

pub same_parts : (ts us : List ℕ) (has names : List ℕ → Bool) → ts ≡ us → ((name : List ℕ) → has name ≡ names name)
    → record { types = ts; has = has } ≡ (let p : ImplementParts = record { types = us; has = names } in p)
same_parts ts us has names p q =
    ap (λ (l : List ℕ). record { types = l; has = has }) p
    ∙ ap (λ (f : List ℕ → Bool). record { types = us; has = f }) (fun_ext q)

with_is : (signals : ℕ → List Signal) (parent : ℕ) (ts : List ℕ) (i : ℕ) → with_interface signals i (parts_of signals parent ts) ≡ parts_of signals parent (ts ++ i ∷ [])
with_is signals parent ts i =
    same_parts (ts ++ i ∷ []) (ts ++ i ∷ []) _ _ refl
    (λ name. by (list_any (λ t. is_some (place_named (λ (s : Signal). s.name) (signals t) name)) (parent ∷ ts)) (is_some (place_named (λ (s : Signal). s.name) (signals i) name))
    ∙ sym (list_any-append (λ t. is_some (place_named (λ (s : Signal). s.name) (signals t) name)) (parent ∷ ts) (i ∷ [])))
  where
    by : (a b : Bool) → (a || b) ≡ (a || (b || false))
    by true b = refl
    by false true = refl
    by false false = refl

-- where a class has no interface yet, the names are those of its parent
pub begun : (signals : ℕ → List Signal) (parent : ℕ) (ts : List ℕ) (old new : BTreeSet (Bor (List ℕ))) → ts ≡ [] → old.keys ≡ []
    → ((name : List ℕ) → has_name new name ≡ (has_name old name || is_some (place_named (λ (s : Signal). s.name) (signals parent) name)))
    → record { types = ts; has = λ name. has_name new name } ≡ parts_of signals parent []
begun signals parent ts old new none empty names =
    same_parts ts [] (λ name. has_name new name) _ none (λ name. names name
    ∙ ap (λ (b : Bool). b || is_some (place_named (λ (s : Signal). s.name) (signals parent) name)) (none_named old empty name)
    ∙ by (is_some (place_named (λ (s : Signal). s.name) (signals parent) name)))
  where
    by : (a : Bool) → (false || a) ≡ (a || false)
    by true = refl
    by false = refl

module _ (heir : Heir) where
  newly_is : (path : List ℕ) (i : ℕ) (ts : List ℕ)
      → newly_implemented_in path heir i (parts_of (signals_by heir.types heir.signals) heir.parent ts) ≡ drafted (parts_of (signals_by heir.types heir.signals) heir.parent) (newly_implemented path heir i ts)
  unfolding newly_implemented_in newly_implemented
  newly_is path i ts =
      through (parts_of (signals_by heir.types heir.signals) heir.parent) (check_brought path heir i ts) _ _ (λ new.
      through (parts_of (signals_by heir.types heir.signals) heir.parent) (check_prerequisites path heir i) _ _ (λ required.
      through (parts_of (signals_by heir.types heir.signals) heir.parent) (check_overrides path heir i) _ _ (λ overridden.
      ap (λ (p : ImplementParts). Ok p) (with_is (signals_by heir.types heir.signals) heir.parent ts i))))

  once_is : (path : List ℕ) (i : ℕ) (ts : List ℕ)
      → implemented_once_in path heir i (parts_of (signals_by heir.types heir.signals) heir.parent ts) ≡ drafted (parts_of (signals_by heir.types heir.signals) heir.parent) (implemented_once path heir i ts)
  once_is path i ts = by (list_any (nat_eq i) ts) (newly_is path i ts)
    where
      by : (b : Bool) → newly_implemented_in path heir i (parts_of (signals_by heir.types heir.signals) heir.parent ts) ≡ drafted (parts_of (signals_by heir.types heir.signals) heir.parent) (newly_implemented path heir i ts)
          → (if b then Ok (parts_of (signals_by heir.types heir.signals) heir.parent ts) else newly_implemented_in path heir i (parts_of (signals_by heir.types heir.signals) heir.parent ts))
          ≡ drafted (parts_of (signals_by heir.types heir.signals) heir.parent) (if b then Ok ts else newly_implemented path heir i ts)
      by true h = refl
      by false h = h

  pub part_is : (path : List ℕ) (ts : List ℕ) (d : Data)
      → implement_part_at path heir (parts_of (signals_by heir.types heir.signals) heir.parent ts) d ≡ drafted (parts_of (signals_by heir.types heir.signals) heir.parent) (implemented_at path heir ts d)
  unfolding implement_part_at implemented_at
  part_is path ts d = through (parts_of (signals_by heir.types heir.signals) heir.parent) (interface_at_entry path heir.types d) _ _ (λ i. once_is path i ts)

  -- reading from the first on
  pub reads_are : (base : List ℕ) (p : ImplementParts) (ds : Items) → p ≡ parts_of (signals_by heir.types heir.signals) heir.parent []
      → each (at_entry (λ path. implement_part_at path heir) base) 0 p ds
      ≡ drafted (parts_of (signals_by heir.types heir.signals) heir.parent) (each (at_entry (λ path. implemented_at path heir) base) 0 [] ds)
  reads_are base p ds begun =
      ap (λ (q : ImplementParts). each (at_entry (λ path. implement_part_at path heir) base) 0 q ds) begun
      ∙ each_drafted (parts_of (signals_by heir.types heir.signals) heir.parent) (λ path. implement_part_at path heir) (λ path. implemented_at path heir) (λ path ts d. part_is path ts d) base 0 [] ds

-- reading from the names of the parent's signals on
pub reads_from : (heir : heirs.Heir) (base : List ℕ) (p : ImplementParts) (ds : Items) → p ≡ parts_of (signals_of heir.types.now heir.signals.now.signals) heir.parent []
    → each (at_entry (λ path. implement_part_at path (heir_of heir)) base) 0 p ds
    ≡ drafted (parts_of (signals_by (heir_of heir).types (heir_of heir).signals) heir.parent) (each (at_entry (λ path. implemented_at path (heir_of heir)) base) 0 [] ds)
unfolding declared_of
reads_from heir base p ds begun = reads_are (heir_of heir) base p ds begun

-- an interface that was added
pub once_added : (path : List ℕ) (heir : heirs.Heir) (i : ℕ) (p q : ImplementParts) → list_any (nat_eq i) p.types ≡ false
    → check_brought_in path (heir_of heir) i p.has ≡ Ok tt → check_prerequisites path (heir_of heir) i ≡ Ok tt → check_overrides path (heir_of heir) i ≡ Ok tt
    → q ≡ with_interface (signals_of heir.types.now heir.signals.now.signals) i p → implemented_once_in path (heir_of heir) i p ≡ Ok q
unfolding newly_implemented_in declared_of
once_added path heir i p q new brought required overridden is =
    ap (λ b. if b then Ok p else newly_implemented_in path (heir_of heir) i p) new
    ∙ ap (λ (r : Result (Unit {0}) Refusal). r >>= λ new. check_prerequisites path (heir_of heir) i >>= λ required. check_overrides path (heir_of heir) i >>= λ overridden. Ok (with_interface (signals_by (heir_of heir).types (heir_of heir).signals) i p)) brought
    ∙ ap (λ (r : Result (Unit {0}) Refusal). r >>= λ required. check_overrides path (heir_of heir) i >>= λ overridden. Ok (with_interface (signals_by (heir_of heir).types (heir_of heir).signals) i p)) required
    ∙ ap (λ (r : Result (Unit {0}) Refusal). r >>= λ overridden. Ok (with_interface (signals_by (heir_of heir).types (heir_of heir).signals) i p)) overridden
    ∙ ap (λ (x : ImplementParts). Ok x) (sym is)

-- what an interface brings again
pub brings_are : (heir : heirs.Heir) (i : ℕ) (has : List ℕ → Bool) (own : List code.Signal) → map signal_view own ≡ declared.own_of heir.signals.now.signals i
    → list_any (λ s. is_again_in (names_of heir.own_signals.now.keys) has (signal_view s)) own ≡ brings_again_in (heir_of heir) i has
brings_are heir i has own same =
    any_map (is_again_in (names_of heir.own_signals.now.keys) has) signal_view own
    ∙ ap (list_any (is_again_in (names_of heir.own_signals.now.keys) has)) same
