-- A class's own properties, read ahead, by their names.
use Rattle.std.proofs.Common.{◌≡◌, ◌∙◌, ℕ, Bool, true, false, cond, ◌||◌, List, [], ◌∷◌, ◌++◌, map, Option, None, Some, is_some, option_map, option_and_then, codes, String, Global, string_bytes, if◌then◌else◌, Ok, refl, sym, ap}
use Rattle.std.specs.BTreeMap.{BTreeMap, get_by_text}
use Rattle.std.specs.List.{find, list_any}
use Rattle.std.specs.Map.{lookup}
use Rattle.std.specs.Str.{bytes_eq}
use Rattle.std.proofs.Math.Path.{fun_ext}
use Rattle.std.proofs.lemmas.Map.Text.{is_eq-slice_cmp}
use Rattle.std.proofs.lemmas.Slice.Eq.{bytes_eq-Decides}
use Rattle.serde_json.specs.Data.{Data, Items}
use Rattle.serde_json.specs.Find.{get, as_str}
use Rattle.ui_machine.specs.Definition.Types.{GType}
use Rattle.ui_machine.specs.Definition.Properties as properties
use Rattle.ui_machine.specs.Rules.Ancestry.{parent_of}
use Rattle.param_specs.specs.declared.spec.Spec.{Spec}
use Rattle.param_specs.specs.View.{spec_view}
use Rattle.param_specs.specs.Table.{own_of, specs_of}
use Rattle.definition_format.specs.Denoted.Entries.{TypeNames}
use Rattle.definition_format.specs.Denoted.Properties.{inherited_of, spec_at}
use Rattle.definition_format.specs.Denoted.Overrides.{Own, is_own, own_named, own_name, own_with, if_read, own_at, own_ahead}
use Rattle.definition_format.specs.Document.{under, listed_ahead, each, at_entry}
use Rattle.read_types.specs.Drafted.{drafted}
use Rattle.read_types.specs.OverrideView.{Entry, own_view}
use Rattle.read_types.specs.OwnParts.{Owned, owned_with, owned_at}
use Rattle.read_types.proofs.Drafting.{each_drafted}
use Rattle.definition_format.proofs.Installing.{specs_of-is, inherited_in}

-- ** what a map has

found_own : (name : List ℕ) (es : List Entry)
    → option_map (option_map spec_view) (lookup (λ (k : String Global). bytes_eq name (string_bytes k)) es) ≡ own_named (map own_view es) name
found_own name [] = refl
found_own name (e ∷ es) = by (bytes_eq name (string_bytes e.0)) (found_own name es)
  where
    by : (b : Bool) → option_map (option_map spec_view) (lookup (λ (k : String Global). bytes_eq name (string_bytes k)) es) ≡ own_named (map own_view es) name
        → option_map (option_map spec_view) (cond b (Some e.1) (lookup (λ (k : String Global). bytes_eq name (string_bytes k)) es))
        ≡ option_map (λ (o : Own). o.spec) (cond b (Some (own_view e)) (find (is_own name) (map own_view es)))
    by true rest = refl
    by false rest = rest

-- what is found by a text
pub text_own : (own : BTreeMap (String Global) (Option Spec)) (name : List ℕ) → option_map (option_map spec_view) (get_by_text own name) ≡ own_named (map own_view own.entries) name
text_own own name =
    ap (λ (test : String Global → Bool). option_map (option_map spec_view) (lookup test own.entries)) (fun_ext (λ (k : String Global). is_eq-slice_cmp name (string_bytes k)))
    ∙ found_own name own.entries

pub has_own : (own : BTreeMap (String Global) (Option Spec)) (name : List ℕ) → is_some (get_by_text own name) ≡ is_some (own_named (map own_view own.entries) name)
has_own own name = by (get_by_text own name) ∙ ap is_some (text_own own name)
  where
    by : (o : Option (Option Spec)) → is_some o ≡ is_some (option_map (option_map spec_view) o)
    by None = refl
    by (Some x) = refl

-- what is found of a property by its name
pub own_is : (text name : List ℕ) (own : BTreeMap (String Global) (Option Spec)) (found : Option (Option Spec)) → text ≡ name
    → get_by_text own text ≡ found → own_named (map own_view own.entries) name ≡ option_map (option_map spec_view) found
own_is text name own found same h =
    ap (own_named (map own_view own.entries)) (sym same) ∙ sym (text_own own text) ∙ ap (option_map (option_map spec_view)) h

-- one more property
pub own_more : (old new : BTreeMap (String Global) (Option Spec)) (name : List ℕ) (spec : Option Spec)
    → ((q : List ℕ) → get_by_text new q ≡ (if bytes_eq name q then Some spec else get_by_text old q))
    → (q : List ℕ) → own_named (map own_view new.entries) q ≡ (if bytes_eq name q then Some (option_map spec_view spec) else own_named (map own_view old.entries) q)
own_more old new name spec h q =
    sym (text_own new q) ∙ ap (option_map (option_map spec_view)) (h q) ∙ by (bytes_eq name q)
  where
    by : (b : Bool) → option_map (option_map spec_view) (if b then Some spec else get_by_text old q)
        ≡ (if b then Some (option_map spec_view spec) else own_named (map own_view old.entries) q)
    by true = refl
    by false = text_own old q

-- ** reading

there : (own : List Own) (n : List ℕ) → is_some (own_named own n) ≡ list_any (is_own n) own
there [] n = refl
there (o ∷ own) n = by (is_own n o) (there own n)
  where
    by : (b : Bool) → is_some (own_named own n) ≡ list_any (is_own n) own
        → is_some (option_map (λ (x : Own). x.spec) (cond b (Some o) (find (is_own n) own))) ≡ (b || list_any (is_own n) own)
    by true rest = refl
    by false rest = rest

-- the last property, where none before has its name
last_named : (own : List Own) (o : Own) → list_any (is_own o.name) own ≡ false → own_named (own ++ o ∷ []) o.name ≡ Some o.spec
last_named [] o h = ap (λ b. option_map (λ (x : Own). x.spec) (cond b (Some o) None)) ((bytes_eq-Decides o.name o.name).1 refl)
last_named (x ∷ own) o h = by (is_own o.name x) h (last_named own o)
  where
    by : (b : Bool) → (b || list_any (is_own o.name) own) ≡ false → (list_any (is_own o.name) own ≡ false → own_named (own ++ o ∷ []) o.name ≡ Some o.spec)
        → option_map (λ (y : Own). y.spec) (cond b (Some x) (find (is_own o.name) (own ++ o ∷ []))) ≡ Some o.spec
    by true h rest = absurd (cc)
    by false h rest = rest h

-- and the others
other_named : (own : List Own) (o : Own) (q : List ℕ) → bytes_eq q o.name ≡ false → own_named (own ++ o ∷ []) q ≡ own_named own q
other_named [] o q h = ap (λ b. option_map (λ (x : Own). x.spec) (cond b (Some o) None)) h
other_named (x ∷ own) o q h = by (is_own q x) (other_named own o q h)
  where
    by : (b : Bool) → own_named (own ++ o ∷ []) q ≡ own_named own q
        → option_map (λ (y : Own). y.spec) (cond b (Some x) (find (is_own q) (own ++ o ∷ []))) ≡ option_map (λ (y : Own). y.spec) (cond b (Some x) (find (is_own q) own))
    by true rest = refl
    by false rest = rest

named_more : (own : List Own) (o : Own) (q : List ℕ) → list_any (is_own o.name) own ≡ false
    → (if bytes_eq o.name q then Some o.spec else own_named own q) ≡ own_named (own ++ o ∷ []) q
named_more own o q new = by (bytes_eq o.name q) refl
  where
    apart : (b : Bool) → bytes_eq q o.name ≡ b → bytes_eq o.name q ≡ false → bytes_eq q o.name ≡ false
    apart true e h = let same : bytes_eq o.name q ≡ true = (bytes_eq-Decides o.name q).1 (sym ((bytes_eq-Decides q o.name).0 e)) in absurd (cc)
    apart false e h = e

    by : (b : Bool) → bytes_eq o.name q ≡ b → (if b then Some o.spec else own_named own q) ≡ own_named (own ++ o ∷ []) q
    by true e = sym (last_named own o new) ∙ ap (own_named (own ++ o ∷ [])) ((bytes_eq-Decides o.name q).0 e)
    by false e = sym (other_named own o q (apart (bytes_eq q o.name) refl e))

abbrev one_more : List Own → List ℕ → Option properties.Spec → Owned
one_more own n spec = λ q. if bytes_eq n q then Some spec else own_named own q

with_is : (own : List Own) (o : Option (List ℕ)) (spec : Option properties.Spec) → owned_with (own_named own) o spec ≡ own_named (own_with own o spec)
with_is own None spec = refl
with_is own (Some n) spec = ap (λ (b : Bool). if b then own_named own else one_more own n spec) (there own n) ∙ by (list_any (is_own n) own) refl
  where
    by : (b : Bool) → list_any (is_own n) own ≡ b
        → (if b then own_named own else one_more own n spec) ≡ own_named (if b then own else own ++ record { name = n; spec = spec } ∷ [])
    by true h = refl
    by false h = fun_ext (λ q. named_more own (record { name = n; spec = spec }) q h)

module _ (types : List GType) (names : TypeNames) (table : ℕ → List properties.Spec) (parent : ℕ) where
  part_is : (path : List ℕ) (own : List Own) (d : Data) → owned_at path types names table parent (own_named own) d ≡ drafted own_named (own_at path types names table parent own d)
  part_is path own d = ap (λ (f : Owned). Ok f) (with_is own (own_name (option_and_then as_str (get (codes "name") d))) _)

  -- reading from the first on
  pub owned_are : (base : List ℕ) (own : Owned) (ds : Items) → own ≡ own_named []
      → each (at_entry (λ path. owned_at path types names table parent) base) 0 own ds
      ≡ drafted own_named (each (at_entry (λ path. own_at path types names table parent) base) 0 [] ds)
  owned_are base own ds begun =
      ap (λ (f : Owned). each (at_entry (λ path. owned_at path types names table parent) base) 0 f ds) begun
      ∙ each_drafted own_named (λ path. owned_at path types names table parent) (λ path. own_at path types names table parent) part_is base 0 [] ds

-- the properties with the one of an entry of a class of this parent, beside those of a table
pub own_pushed : (path : List ℕ) (types : List GType) (names : TypeNames) (table : List (List properties.Spec)) (parent : ℕ) (old new : Owned) (d : Data) (name : List ℕ) (spec : Option Spec)
    → Some name ≡ own_name (option_and_then as_str (get (codes "name") d)) → is_some (old name) ≡ false
    → option_map spec_view spec ≡ if_read (spec_at path types names (inherited_in types table parent) (specs_of types table parent) d)
    → ((q : List ℕ) → new q ≡ (if bytes_eq name q then Some (option_map spec_view spec) else old q))
    → owned_at path types names (own_of table) parent old d ≡ Ok new
own_pushed path types names table parent old new d name spec named absent by_itself more =
    ap (λ (specs : ℕ → List properties.Spec). Ok (owned_with old (own_name (option_and_then as_str (get (codes "name") d))) (if_read (spec_at path types names (inherited_of specs (parent_of types parent)) (specs parent) d))))
    (fun_ext (λ u. sym (specs_of-is types table u)))
    ∙ ap (λ o. Ok (owned_with old o (if_read (spec_at path types names (inherited_in types table parent) (specs_of types table parent) d)))) (sym named)
    ∙ ap (λ s. Ok (owned_with old (Some name) s)) (sym by_itself)
    ∙ ap (λ (b : Bool). Ok (if b then old else (λ q. if bytes_eq name q then Some (option_map spec_view spec) else old q))) absent
    ∙ ap (λ (f : Owned). Ok f) (fun_ext (λ q. sym (more q)))

-- the own properties of the entries that a member lists
pub own_ahead_is : (path : List ℕ) (types : List GType) (names : TypeNames) (table : ℕ → List properties.Spec) (parent : ℕ) (d : Data) (base : List ℕ) (items : Items)
    → base ≡ under path (codes "properties") → items ≡ listed_ahead (codes "properties") d
    → drafted own_named (own_ahead path types names table parent d) ≡ drafted own_named (each (at_entry (λ entry. own_at entry types names table parent) base) 0 [] items)
own_ahead_is path types names table parent d base items at_base is =
    ap (λ (l : Items). drafted own_named (each (at_entry (λ entry. own_at entry types names table parent) (under path (codes "properties"))) 0 [] l)) (sym is)
    ∙ ap (λ (b : List ℕ). drafted own_named (each (at_entry (λ entry. own_at entry types names table parent) b) 0 [] items)) (sym at_base)
