-- The interfaces of a class, read beside tables of properties and signals.
use Rattle.std.proofs.Common.{◌≡◌, ◌∙◌, ℕ, nat_eq, false, not, ◌&&◌, if◌then◌else◌, List, [], ◌∷◌, ◌++◌, length, map, codes, Bool, Option, option_map, Result, Ok, Err, refl, sym, ap}
use Rattle.std.specs.List.{find, list_any}
use Rattle.std.proofs.Math.Path.{fun_ext}
use Rattle.serde_json.specs.Data.{Data, Items}
use Rattle.json_trees.specs.declared.value.Value.{Value}
use Rattle.json_trees.specs.View.{items_view}
use Rattle.ui_machine.specs.Outcome.{◌>>=◌}
use Rattle.ui_machine.specs.Definition.Properties.{Spec}
use Rattle.param_specs.specs.Table.{own_of, specs_of}
use Rattle.definition_format.specs.declared.faults.SpecCause.{SpecCause}
use Rattle.definition_format.specs.Causes.{property_cause, override_missing, override_differs}
use Rattle.definition_format.specs.declared.faults.ReadError.{ReadError}
use Rattle.definition_format.specs.Refusals.{Refusal, Fails, duplicate, bad_spec, refused_if}
use Rattle.definition_format.specs.Document.{under, entries_at, each, at_entry}
use Rattle.definition_format.specs.Denoted.Entries.{TypeNames}
use Rattle.definition_format.specs.Denoted.Overrides.{Own, own_named, own_ahead, override_by, override_cause, is_missing, is_different, cause_or}
use Rattle.definition_format.specs.Denoted.Properties.{specs_by}
use Rattle.definition_format.specs.Denoted.Signals.{signals_by}
use Rattle.param_specs.specs.Overriding.{spec_named}
use Rattle.ui_machine.specs.Rules.Ancestry.{is_a}
use Rattle.definition_format.specs.Denoted.Drafts.{Draft}
use Rattle.definition_format.specs.Denoted.Brought.{is_brought, own_signals_ahead}
use Rattle.definition_format.specs.Denoted.Implements as pure
use Rattle.definition_format.specs.Denoted.Implements.{named_at, heir_with, heir_at, check_overrides, interface_at_entry, implemented_at, implements_listed, implements_of, implements_at}
use Rattle.read_types.specs.OverrideView.{own_view, heir_of}
use Rattle.read_types.specs.OwnParts.{Owned, are_named}
use Rattle.read_types.specs.declared.overrides.Heir.{Heir}
use Rattle.read_parts.proofs.Chains.{fails_first, fails_as}
use Rattle.definition_format.proofs.Installing.{specs_of-is}

-- what is wrong with the overrides of a class
pub overrides_are : (path : List ℕ) (heir : Heir) (i : ℕ) (found cause : Option SpecCause)
    → found ≡ cause → option_map property_cause found ≡ override_cause (specs_of heir.types.now heir.specs.now heir.parent) (map own_view heir.own.now.entries) (own_of heir.specs.now i)
    → check_overrides path (heir_of heir) i ≡ refused_if (bad_spec path) (option_map property_cause cause)
overrides_are path heir i found cause is h =
    ap (λ (specs : List Spec). refused_if (bad_spec path) (override_cause specs (map own_view heir.own.now.entries) (own_of heir.specs.now i))) (sym (specs_of-is heir.types.now heir.specs.now heir.parent))
    ∙ ap (refused_if (bad_spec path)) (sym h ∙ ap (option_map property_cause) is)

module _ (path : List ℕ) (names : TypeNames) (draft : Draft) (parent : ℕ) (d : Data) where
  heir_is : (named : List ℕ) (own : List Own) (signals : List (List ℕ)) → own_ahead path draft.types names draft.own parent d ≡ Ok own → own_signals_ahead path d ≡ Ok signals
      → heir_at path names draft parent d named ≡ Ok (heir_with draft parent named own signals)
  unfolding heir_at
  heir_is named own signals ahead declared =
      ap (λ (r : Result (List Own) Refusal). r >>= λ own. own_signals_ahead path d >>= λ signals. Ok (heir_with draft parent named own signals)) ahead
      ∙ ap (λ (r : Result (List (List ℕ)) Refusal). r >>= λ signals. Ok (heir_with draft parent named own signals)) declared

  -- the interfaces of entries that name these
  listed_named : (base : List ℕ) (items : Items) (named : List ℕ) → base ≡ under path (codes "implements")
      → each (at_entry (λ entry. named_at entry draft.types) base) 0 [] items ≡ Ok named
      → implements_listed path names draft parent d items
      ≡ (heir_at path names draft parent d named >>= λ heir. each (at_entry (λ entry. implemented_at entry heir) base) 0 [] items)
  unfolding implements_listed
  listed_named base items named at_base read =
      ap (λ (b : List ℕ). each (at_entry (λ entry. named_at entry draft.types) b) 0 [] items >>= λ named. heir_at path names draft parent d named >>= λ heir.
      each (at_entry (λ entry. implemented_at entry heir) b) 0 [] items) (sym at_base)
      ∙ ap (λ (r : Result (List ℕ) Refusal). r >>= λ named. heir_at path names draft parent d named >>= λ heir.
      each (at_entry (λ entry. implemented_at entry heir) base) 0 [] items) read

  module _ (base : List ℕ) (items : Items) (named : List ℕ) (at_base : base ≡ under path (codes "implements"))
      (read : each (at_entry (λ entry. named_at entry draft.types) base) 0 [] items ≡ Ok named) (e : ReadError) where
    next : pure.Heir → Result (List ℕ) Refusal
    next heir = each (at_entry (λ entry. implemented_at entry heir) base) 0 [] items

    -- where what is read ahead of the properties fails
    pub own_fails : Fails e (own_ahead path draft.types names draft.own parent d) → Fails e (implements_listed path names draft parent d items)
    unfolding heir_at next
    own_fails h =
        fails_as e _ _ (listed_named base items named at_base read)
        (fails_first e (heir_at path names draft parent d named) next
        (fails_first e (own_ahead path draft.types names draft.own parent d) (λ own. own_signals_ahead path d >>= λ signals. Ok (heir_with draft parent named own signals)) h))

    -- or of the signals
    pub signals_fail : (own : List Own) → own_ahead path draft.types names draft.own parent d ≡ Ok own → Fails e (own_signals_ahead path d) → Fails e (implements_listed path names draft parent d items)
    unfolding heir_at next
    signals_fail own ahead h =
        fails_as e _ _ (listed_named base items named at_base read)
        (fails_first e (heir_at path names draft parent d named) next
        (fails_as e _ _ (ap (λ (r : Result (List Own) Refusal). r >>= λ own. own_signals_ahead path d >>= λ signals. Ok (heir_with draft parent named own signals)) ahead)
        (fails_first e (own_signals_ahead path d) (λ signals. Ok (heir_with draft parent named own signals)) h)))

  -- the interfaces of entries, where what is read ahead is given
  pub listed_with : (base : List ℕ) (items : Items) (slice named : List ℕ) (own : List Own) (signals : List (List ℕ)) → base ≡ under path (codes "implements")
      → each (at_entry (λ entry. named_at entry draft.types) base) 0 [] items ≡ Ok named → slice ≡ named → own_ahead path draft.types names draft.own parent d ≡ Ok own
      → own_signals_ahead path d ≡ Ok signals
      → implements_listed path names draft parent d items
      ≡ each (at_entry (λ entry. implemented_at entry (heir_with draft parent slice own signals)) base) 0 [] items
  listed_with base items slice named own signals at_base read same ahead declared =
      listed_named base items named at_base read
      ∙ ap (λ (r : Result pure.Heir Refusal). r >>= λ heir. each (at_entry (λ entry. implemented_at entry heir) base) 0 [] items) (heir_is named own signals ahead declared)
      ∙ ap (λ (all : List ℕ). each (at_entry (λ entry. implemented_at entry (heir_with draft parent all own signals)) base) 0 [] items) (sym same)

  some_listed : (vs : List Value) → nat_eq (length vs) 0 ≡ false → implements_of path names draft parent d (items_view vs) ≡ implements_listed path names draft parent d (items_view vs)
  some_listed [] h = absurd (cc)
  some_listed (v ∷ vs) h = refl

  -- the interfaces of entries that are there
  pub implements_with : (vs : List Value) → entries_at path d (codes "implements") ≡ Ok (items_view vs) → nat_eq (length vs) 0 ≡ false
      → implements_at path names draft parent d ≡ implements_listed path names draft parent d (items_view vs)
  unfolding implements_at
  implements_with vs read some = ap (λ (r : Result Items Refusal). r >>= implements_of path names draft parent d) read ∙ some_listed vs some

-- ** what is read ahead, in another order

module _ (heir : pure.Heir) where
  abbrev brought_by : (List ℕ → Bool) → List ℕ → List ℕ → ℕ → Result (Unit {0}) Refusal
  brought_by has path ts i =
      if is_a heir.types heir.parent i then Ok tt else
      (if list_any (λ s. not (has s.name) && is_brought (signals_by heir.types heir.signals) (heir.parent ∷ ts) s.name) (heir.signals i) then Err (duplicate path) else Ok tt)

  abbrev overridden_by : Owned → List ℕ → ℕ → Result (Unit {0}) Refusal
  overridden_by own path i =
      refused_if (bad_spec path)
      (cause_or (option_map (λ (w : Spec). override_missing w.name) (find (λ (w : Spec). is_missing (override_by (own w.name) (spec_named (specs_by heir.types heir.table heir.parent) w.name) w)) (heir.table i)))
      (option_map (λ (w : Spec). override_differs w.name) (find (λ (w : Spec). is_different (override_by (own w.name) (spec_named (specs_by heir.types heir.table heir.parent) w.name) w)) (heir.table i))))

  abbrev implemented_by : Owned → (List ℕ → Bool) → List ℕ → List ℕ → Data → Result (List ℕ) Refusal
  implemented_by own has path ts d =
      interface_at_entry path heir.types d >>= λ i.
      if list_any (nat_eq i) ts then Ok ts else
      (brought_by has path ts i >>= λ new. pure.check_prerequisites path heir i >>= λ required. overridden_by own path i >>= λ overridden. Ok (ts ++ i ∷ []))

  same_heir : (own : List Own) (signals : List (List ℕ)) → own_named own ≡ own_named heir.own → ((name : List ℕ) → are_named signals name ≡ are_named heir.own_signals name)
      → (path ts : List ℕ) (d : Data) → implemented_at path (record heir { own = own; own_signals = signals }) ts d ≡ implemented_at path heir ts d
  unfolding implemented_at pure.newly_implemented
  same_heir own signals p q path ts d =
      ap (λ (f : Owned). implemented_by f (are_named signals) path ts d) p
      ∙ ap (λ (g : List ℕ → Bool). implemented_by (own_named heir.own) g path ts d) (fun_ext q)

  pub reads_same : (own : List Own) (signals : List (List ℕ)) → own_named own ≡ own_named heir.own → ((name : List ℕ) → are_named signals name ≡ are_named heir.own_signals name)
      → (base : List ℕ) (items : Items)
      → each (at_entry (λ entry. implemented_at entry (record heir { own = own; own_signals = signals })) base) 0 [] items ≡ each (at_entry (λ entry. implemented_at entry heir) base) 0 [] items
  reads_same own signals p q base items =
      ap (λ (step : List ℕ → List ℕ → Data → Result (List ℕ) Refusal). each (at_entry step base) 0 [] items)
      (fun_ext (λ path. fun_ext (λ ts. fun_ext (λ d. same_heir own signals p q path ts d))))
