-- A class that was read has the properties of the interfaces that it implements.
use Rattle.std.proofs.Common.{◌≡◌, ℕ, suc, ◌<◌, true, nat_eq, List, [], ◌∷◌, ◌++◌, length, None, Some, Ok, slice_get, sym, ap, subst, ◌∙◌, inl, inr, ◌⊎◌}
use Rattle.std.specs.List.{list_any}
use Rattle.serde_json.specs.Data.{Data}
use Rattle.ui_machine.specs.Definition.Types.{GType}
use Rattle.ui_machine.specs.Definition.Properties.{Spec}
use Rattle.ui_machine.specs.Output.Text.{no_type}
use Rattle.ui_machine.specs.Rules.Ancestry.{implemented}
use Rattle.type_tree.specs.Tree.{IsTree}
use Rattle.type_tree.proofs.Entries.{read-last}
use Rattle.definition_format.specs.Denoted.Entries.{TypeNames}
use Rattle.definition_format.specs.Denoted.Drafts.{properties_at}
use Rattle.definition_format.specs.Denoted.Overrides.{Own, own_ahead, override_cause}
use Rattle.definition_format.specs.Denoted.Properties.{specs_by, inherited_by}
use Rattle.definition_format.proofs.Soundness.{OnRead}
use Rattle.law_reading.proofs.Ancestors.{AreInterfaces, Implements, is_interface}
use Rattle.law_reading.proofs.ListProofs.{each_get, get_front}
use Rattle.law_reading.proofs.PropertyProofs.{IsKept, OnlyAt, OwnRead, properties_only}
use Rattle.law_reading.proofs.ProvidedProofs.{Has, Provides, kept_own}
use Rattle.law_reading.proofs.OverrideProofs.{wanted_fine, had}
use Rattle.law_reading.proofs.AheadProofs.{IsReadAhead, specs_of_last, own_found}

-- nothing is wrong with the overrides of these interfaces, by the own properties that were read ahead
abbrev pub AreOverridden : List GType → TypeNames → (ℕ → List Spec) → ℕ → List ℕ → Data → List ℕ → Type 0
AreOverridden types names table parent path d is =
    (i : ℕ) → list_any (nat_eq i) is ≡ true → (own : List Own) → own_ahead path types names table parent d ≡ Ok own
    → override_cause (specs_by types table parent) own (table i) ≡ None

has_behind : (xs ys : List Spec) (s : Spec) → Has ys s → Has (xs ++ ys) s
has_behind [] ys s h = h
has_behind (x ∷ xs) ys s h = let rest = has_behind xs ys s h in (suc rest.0, rest.1)

in_either : (xs ys : List Spec) (s : Spec) → (Has xs s) ⊎ (Has ys s) → Has (xs ++ ys) s
in_either xs ys s (inl h) = (h.0, get_front xs ys h.0 s h.1)
in_either xs ys s (inr h) = has_behind xs ys s h

module _ (types : List GType) (g : GType) (tree : IsTree types) (more : IsTree (types ++ g ∷ [])) (heirs : Implements types)
    (table : ℕ → List Spec) (old : OwnRead types table) (parent : ℕ) (within : parent < length types) (up : g.parent ≡ Some parent)
    (names : TypeNames) (reads : IsReadAhead types (types ++ g ∷ []) names (inherited_by types table parent) (specs_by types table parent)) where
  pub class_provides : (path : List ℕ) (d : Data) (is : List ℕ) → implemented g.sort g.interfaces ≡ is → AreInterfaces types is
      → AreOverridden types names table parent path d is → (own : ℕ → List Spec)
      → properties_at path (types ++ g ∷ []) names (length types) table d ≡ Ok own → Provides (types ++ g ∷ []) own (length types)
  class_provides path d is of_g all overridden own e i named slot s at =
      let same : OnlyAt (length types) table own = subst (OnRead (OnlyAt (length types) table)) e (properties_only (types ++ g ∷ []) names (length types) table path d) in
      let listed : list_any (nat_eq i) is ≡ true =
      ap (list_any (nat_eq i)) (sym (ap (λ (x : GType). implemented x.sort x.interfaces) (read-last no_type g types) ∙ of_g)) ∙ named in
      let interface = is_interface types is i all listed in
      let wanted : slice_get (table i) slot ≡ Some s =
      ap (λ ss. slice_get ss slot) (sym (kept_own types g tree more heirs table own old.past same i interface)) ∙ at in
      let ahead = own_found types g tree more heirs table old.past parent within up names reads path d own e in
      let fine = wanted_fine (specs_by types table parent) ahead.0 (table i) slot s (overridden i listed ahead.0 ahead.1) wanted in
      let canonical_name = (each_get IsKept (table i) slot s (old.kept i) wanted).name in
      let has = in_either (specs_by types table parent) (own (length types)) s
      (had (specs_by types table parent) (own (length types)) ahead.0 ahead.2 s canonical_name fine) in
      (has.0, ap (λ ss. slice_get ss has.0) (specs_of_last types g tree more heirs table old.past parent within up names reads own same) ∙ has.1)
