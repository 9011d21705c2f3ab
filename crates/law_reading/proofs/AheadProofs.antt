-- A class's own properties, read ahead, are those that it has.
use Rattle.std.proofs.Common.{◌≡◌, ◌<◌, ◌≤◌, ℕ, suc, ◌+◌, Bool, true, false, cond, List, [], ◌∷◌, ◌++◌, length, Option, None, Some, option_and_then, Result, Ok, Err, codes, slice_get, refl, sym, ap, subst, ◌∙◌, arith, length-append}
use Rattle.std.specs.List.{list_any}
use Rattle.serde_json.specs.Data.{Data, Items, no_items, item}
use Rattle.serde_json.specs.Find.{get, as_str, as_array}
use Rattle.ui_machine.specs.Outcome.{◌>>=◌}
use Rattle.ui_machine.specs.Definition.Types.{GType}
use Rattle.ui_machine.specs.Definition.Names.{canonical}
use Rattle.ui_machine.specs.Definition.Properties.{Spec}
use Rattle.ui_machine.specs.Output.Text.{no_type}
use Rattle.ui_machine.specs.Rules.Ancestry.{parent_of}
use Rattle.type_tree.specs.Tree.{IsTree}
use Rattle.type_tree.proofs.Entries.{read-last}
use Rattle.param_specs.specs.declared.error.SpecFault.{SpecFault}
use Rattle.param_specs.specs.Table.{install_fault, canonical_spec}
use Rattle.definition_format.specs.Refusals.{Refusal, shape}
use Rattle.definition_format.specs.Document.{each, at_entry, under, nth, entries, entries_at, items_or_none}
use Rattle.definition_format.specs.Denoted.Entries.{TypeNames}
use Rattle.definition_format.specs.Denoted.Drafts.{properties_at}
use Rattle.definition_format.specs.Denoted.Overrides.{Own, is_own, own_name, own_with, if_read, own_at, own_ahead}
use Rattle.definition_format.specs.Denoted.Properties.{specs_by, inherited_of, inherited_by, spec_at, add_own, installed_or, property_at}
use Rattle.law_typing.specs.Verdict.Accepted.{Each}
use Rattle.law_typing.proofs.Lists.{each_append}
use Rattle.law_reading.proofs.Ancestors.{Implements, itself, child_specs}
use Rattle.law_reading.proofs.ListProofs.{each_more, get_front}
use Rattle.law_reading.proofs.Parts.{taken}
use Rattle.law_reading.proofs.PropertyProofs.{OnlyAt}
use Rattle.law_reading.proofs.ProvidedProofs.{kept_specs}
use Rattle.law_reading.proofs.OverrideProofs.{Found}

-- what follows comes of what was read first
pub bound : {A B : Type 0} (r : Result A Refusal) (f : A → Result B Refusal) (y : B) → (r >>= f) ≡ Ok y → (x : A) × (r ≡ Ok x) × (f x ≡ Ok y)
bound (Ok x) f y e = (x, refl, e)
bound (Err refusal) f y e = absurd (cc)

-- a list that was read is the one that is read ahead
pub listed_is : (path : List ℕ) (d : Option Data) (list : Items) → entries path d ≡ Ok list
    → items_or_none (option_and_then as_array d) ≡ list
listed_is path None list e = cc
listed_is path (Some d) list e = ap items_or_none (taken (shape path) (as_array d) list e)

-- a property that is read with these inherited ones, and with these and further ones as those that a type has
abbrev pub IsReadAhead : List GType → List GType → TypeNames → (grand inherited : List Spec) → Type 0
IsReadAhead types all names grand inherited =
    (path : List ℕ) (own : List Spec) (d : Data) (s : Spec) → spec_at path all names inherited (inherited ++ own) d ≡ Ok s
    → (spec_at path types names grand inherited d ≡ Ok s) × (own_name (option_and_then as_str (get (codes "name") d)) ≡ Some (canonical s.name))

last_found : (xs : List Spec) (s : Spec) → slice_get (xs ++ s ∷ []) (length xs) ≡ Some s
last_found [] s = refl
last_found (x ∷ xs) s = last_found xs s

-- one more property, read ahead and had
found_more : (own : List Spec) (ahead : List Own) (s : Spec) → Each (Found own) ahead
    → Each (Found (own ++ canonical_spec s ∷ [])) (own_with ahead (Some (canonical s.name)) (Some s))
found_more own ahead s old = by (list_any (is_own (canonical s.name)) ahead)
  where
    kept : Each (Found (own ++ canonical_spec s ∷ [])) ahead
    kept =
        each_more (Found own) (Found (own ++ canonical_spec s ∷ [])) ahead
        (λ o f. (f.0, f.1, f.2, (f.3.0, get_front own (canonical_spec s ∷ []) f.3.0 (canonical_spec f.0) f.3.1))) old

    by : (b : Bool) → Each (Found (own ++ canonical_spec s ∷ [])) (cond b ahead (ahead ++ record { name = canonical s.name; spec = Some s } ∷ []))
    by true = kept
    by false =
        each_append (Found (own ++ canonical_spec s ∷ [])) ahead (record { name = canonical s.name; spec = Some s } ∷ []) kept
        ((s, refl, refl, (length own, last_found own (canonical_spec s))), tt)

module _ (types : List GType) (g : GType) (tree : IsTree types) (more : IsTree (types ++ g ∷ [])) (heirs : Implements types)
    (table : ℕ → List Spec) (past : (t : ℕ) → length types ≤ t → table t ≡ []) (parent : ℕ) (within : parent < length types) (up : g.parent ≡ Some parent)
    (names : TypeNames) (reads : IsReadAhead types (types ++ g ∷ []) names (inherited_by types table parent) (specs_by types table parent)) where
  one_longer : suc (length types) ≡ length (types ++ g ∷ [])
  one_longer = let one = length-append types (g ∷ []) in omega (arith, one)

  parent_is : parent_of (types ++ g ∷ []) (length types) ≡ Some parent
  parent_is = ap (λ (x : GType). x.parent) (read-last no_type g types) ∙ up

  -- what the new type has
  pub specs_of_last : (own : ℕ → List Spec) → OnlyAt (length types) table own
      → specs_by (types ++ g ∷ []) own (length types) ≡ specs_by types table parent ++ own (length types)
  specs_of_last own same =
      child_specs (types ++ g ∷ []) more own (length types) parent parent_is
      ∙ ap (λ xs. xs ++ own (length types)) (kept_specs types g tree more heirs table own past same parent within)

  inherited_is : (own : ℕ → List Spec) → OnlyAt (length types) table own
      → inherited_by (types ++ g ∷ []) own (length types) ≡ specs_by types table parent
  inherited_is own same =
      ap (inherited_of (specs_by (types ++ g ∷ []) own)) parent_is ∙ kept_specs types g tree more heirs table own past same parent within

  -- a property, read ahead and installed
  record Next (path : List ℕ) (d : Data) (own changed : ℕ → List Spec) : Type 0 where
    spec : Spec
    ahead : spec_at path types names (inherited_by types table parent) (specs_by types table parent) d ≡ Ok spec
    name : own_name (option_and_then as_str (get (codes "name") d)) ≡ Some (canonical spec.name)
    is : changed ≡ add_own own (length types) (canonical_spec spec)

  installed_is : (path : List ℕ) (f : Option SpecFault) (own changed : ℕ → List Spec) → installed_or path f own ≡ Ok changed → changed ≡ own
  installed_is path None own changed e = cc
  installed_is path (Some cause) own changed e = absurd (cc)

  next : (path : List ℕ) (d : Data) (own changed : ℕ → List Spec) → OnlyAt (length types) table own
      → property_at path (types ++ g ∷ []) names (length types) own d ≡ Ok changed → Next path d own changed
  unfolding property_at
  next path d own changed same e =
      let first = bound (spec_at path (types ++ g ∷ []) names (inherited_by (types ++ g ∷ []) own (length types))
      (specs_by (types ++ g ∷ []) own (length types)) d) _ changed e in
      let later : spec_at path (types ++ g ∷ []) names (specs_by types table parent) (specs_by types table parent ++ own (length types)) d ≡ Ok first.0 =
      ap (λ xs. spec_at path (types ++ g ∷ []) names xs (specs_by types table parent ++ own (length types)) d) (sym (inherited_is own same))
      ∙ ap (λ xs. spec_at path (types ++ g ∷ []) names (inherited_by (types ++ g ∷ []) own (length types)) xs d) (sym (specs_of_last own same))
      ∙ first.1 in
      let ahead = reads path (own (length types)) d first.0 later in
      record {
        spec = first.0;
        ahead = ahead.0;
        name = ahead.1;
        is = installed_is path (install_fault (types ++ g ∷ []) (specs_by (types ++ g ∷ []) own (length types)) first.0)
            (add_own own (length types) (canonical_spec first.0)) changed first.2;
      }

  -- what is read ahead of entries is among what they give to the type
  abbrev AheadOf : (path : List ℕ) (i : ℕ) (list : Items) (ahead : List Own) (changed : ℕ → List Spec) → Type 0
  AheadOf path i list ahead changed =
      (later : List Own) × (each (at_entry (λ entry. own_at entry types names table parent) path) i ahead list ≡ Ok later)
      × Each (Found (changed (length types))) later

  only_more : (own changed : ℕ → List Spec) (s : Spec) → changed ≡ add_own own (length types) s → OnlyAt (length types) table own
      → OnlyAt (length types) table changed
  only_more own changed s is same u h =
      ap (λ f. f u) is ∙ ap (λ b. cond b (own u ++ s ∷ []) (own u)) h ∙ same u h

  each_ahead : (path : List ℕ) (i : ℕ) (list : Items) (ahead : List Own) (own changed : ℕ → List Spec) → OnlyAt (length types) table own
      → Each (Found (own (length types))) ahead
      → each (at_entry (λ entry. property_at entry (types ++ g ∷ []) names (length types)) path) i own list ≡ Ok changed
      → AheadOf path i list ahead changed
  unfolding each
  each_ahead path i no_items ahead own changed same found e =
      let is : own ≡ changed = cc in
      (ahead, refl, subst (λ f. Each (Found (f (length types))) ahead) is found)
  each_ahead path i (item d ds) ahead own changed same found e =
      let first = bound (property_at (nth path i) (types ++ g ∷ []) names (length types) own d) _ changed e in
      let one = next (nth path i) d own first.0 same first.1 in
      let with_one = own_with ahead (own_name (option_and_then as_str (get (codes "name") d)))
      (if_read (spec_at (nth path i) types names (inherited_by types table parent) (specs_by types table parent) d)) in
      let is : with_one ≡ own_with ahead (Some (canonical one.spec.name)) (Some one.spec) =
      ap (λ n. own_with ahead n (if_read (spec_at (nth path i) types names (inherited_by types table parent) (specs_by types table parent) d))) one.name
      ∙ ap (λ r. own_with ahead (Some (canonical one.spec.name)) (if_read r)) one.ahead in
      let own_is : first.0 (length types) ≡ own (length types) ++ canonical_spec one.spec ∷ [] =
      ap (λ f. f (length types)) one.is ∙ itself (types ++ g ∷ []) more own (length types) one_longer (canonical_spec one.spec) in
      let there : Each (Found (first.0 (length types))) with_one =
      subst (Each (Found (first.0 (length types)))) (sym is)
      (subst (λ xs. Each (Found xs) (own_with ahead (Some (canonical one.spec.name)) (Some one.spec))) (sym own_is)
      (found_more (own (length types)) ahead one.spec found)) in
      each_ahead path (i + 1) ds with_one first.0 changed (only_more own first.0 (canonical_spec one.spec) one.is same) there first.2

  pub own_found : (path : List ℕ) (d : Data) (changed : ℕ → List Spec) → properties_at path (types ++ g ∷ []) names (length types) table d ≡ Ok changed
      → (ahead : List Own) × (own_ahead path types names table parent d ≡ Ok ahead) × Each (Found (changed (length types))) ahead
  unfolding properties_at
  own_found path d changed e =
      let first = bound (entries_at path d (codes "properties")) _ changed e in
      let list = listed_is (under path (codes "properties")) (get (codes "properties") d) first.0 first.1 in
      let all = each_ahead (under path (codes "properties")) 0 first.0 [] table changed (λ u h. refl)
      (found_none) first.2 in
      (all.0, ap (λ l. each (at_entry (λ entry. own_at entry types names table parent) (under path (codes "properties"))) 0 [] l) list ∙ all.1, all.2)
    where
      found_none : Each (Found (table (length types))) []
      found_none = tt
