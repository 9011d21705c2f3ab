-- A property of a class, read beside the class and its properties, is the same one read ahead, beside its parent alone.
use Rattle.std.proofs.Common.{◌≡◌, ◌<◌, ℕ, suc, ◌+◌, nat_le, nat_lt, Bool, true, false, cond, if◌then◌else◌, List, [], ◌∷◌, ◌++◌, length, Option, None, Some, is_some, option_map, option_and_then, Result, Ok, Err, codes, refl, sym, ap, subst, ◌∙◌, arith, length-append}
use Rattle.std.specs.Option.{option_or}
use Rattle.std.proofs.lemmas.Bool.Decides.{nat_tests}
use Rattle.std.proofs.lemmas.Option.{none-some}
use Rattle.serde_json.specs.Data.{Data}
use Rattle.serde_json.specs.Find.{get, as_str}
use Rattle.ui_machine.specs.Outcome.{◌>>=◌}
use Rattle.ui_machine.specs.Output.Text.{no_type}
use Rattle.ui_machine.specs.Definition.Names.{same_name, canonical, place_from}
use Rattle.ui_machine.specs.Definition.Kinds.{Kind}
use Rattle.ui_machine.specs.Definition.Kinds as kinds
use Rattle.ui_machine.specs.Definition.Types.{GType, Sort}
use Rattle.ui_machine.specs.Definition.Types as sorts
use Rattle.ui_machine.specs.Definition.Values.{Value}
use Rattle.ui_machine.specs.Definition.Values as values
use Rattle.ui_machine.specs.Definition.Properties.{Spec}
use Rattle.ui_machine.specs.Rules.Ancestry.{parent_of}
use Rattle.ui_machine.specs.Rules.Transform.{first_number, zero_value}
use Rattle.ui_machine.specs.Rules.Validation.{is_valid}
use Rattle.g_values.specs.Reading.{value_of, whole_number, enum_number, flags_bits, json_value}
use Rattle.g_values.specs.View.{is_whole_kind}
use Rattle.type_tree.specs.Tree.{IsTree}
use Rattle.type_tree.specs.Adding.{find_type, sort_of, of_sort, is_class}
use Rattle.type_tree.proofs.Entries.{read-front, read-last}
use Rattle.param_specs.specs.Table.{slot_named}
use Rattle.type_tree.specs.PropertyName.{is_property_name}
use Rattle.param_specs.specs.declared.error.SpecFault.TheVariants.{Duplicate, BadName, DefaultInvalid}
use Rattle.definition_format.specs.declared.faults.DefinitionLimit.TheVariants.{Properties}
use Rattle.definition_format.specs.Refusals.{Refusal, shape, duplicate, not_installed, limit, or_value_fault}
use Rattle.definition_format.specs.Document.{under, members_at, text_at, only_at}
use Rattle.definition_format.specs.Denoted.Entries.{TypeNames, later_type, at_most}
use Rattle.definition_format.specs.Denoted.Kinds.{is_enum, is_flags, object_type, parted, kind_by, kind_at}
use Rattle.definition_format.specs.Denoted.PropertyFlags.{flags_at}
use Rattle.definition_format.specs.Denoted.Ranges.{whole_range, range_at}
use Rattle.definition_format.specs.Denoted.Defaults.{default_or_zero, default_at, check_default, check_unranged}
use Rattle.definition_format.specs.Denoted.Overrides.{own_name}
use Rattle.definition_format.specs.Denoted.Properties.{specs_by, inherited_of, inherited_by, property_spec, room_for_property, new_name, new_property, weak_at, keys_of_property, valued_at, spec_at}
use Rattle.definition_format.proofs.LaterTypes.{kept_but_class, IsKept, valid_later}
use Rattle.definition_format.specs.Meaning.{IsKnownKind}
use Rattle.definition_format.proofs.Soundness.{OnRead, on_bind, on_all, kind_open}
use Rattle.law_static.proofs.Same.{names_same}
use Rattle.law_reading.proofs.Ancestors.{child_specs}
use Rattle.law_reading.proofs.AheadProofs.{IsReadAhead}
use Rattle.law_reading.proofs.ListProofs.{named_within}
use Rattle.law_reading.proofs.Parts.{on_read, taken}

-- what follows is read in both ways, where what comes first is
both_ways : {A B : Type 0} (r ahead : Result A Refusal) (f g : A → Result B Refusal) (y : B) → (r >>= f) ≡ Ok y → ((x : A) → r ≡ Ok x → ahead ≡ Ok x)
    → ((x : A) → r ≡ Ok x → f x ≡ Ok y → g x ≡ Ok y) → (ahead >>= g) ≡ Ok y
both_ways (Ok x) ahead f g y e first rest = ap (λ r. r >>= g) (first x refl) ∙ rest x refl e
both_ways (Err refusal) ahead f g y e first rest = absurd (cc)

-- ** names

none_front : (k : ℕ) (xs ys : List Spec) (name : List ℕ) → place_from (λ (s : Spec). s.name) k (xs ++ ys) name ≡ None
    → place_from (λ (s : Spec). s.name) k xs name ≡ None
none_front k [] ys name e = refl
none_front k (x ∷ xs) ys name e = by (same_name x.name name) e (none_front (suc k) xs ys name)
  where
    by : (b : Bool) → cond b (Some k) (place_from (λ (s : Spec). s.name) (suc k) (xs ++ ys) name) ≡ None
        → (place_from (λ (s : Spec). s.name) (suc k) (xs ++ ys) name ≡ None → place_from (λ (s : Spec). s.name) (suc k) xs name ≡ None)
        → cond b (Some k) (place_from (λ (s : Spec). s.name) (suc k) xs name) ≡ None
    by true e rest = absurd (none-some k (sym e))
    by false e rest = rest e

-- a name that none of these properties has is new among some of them
new_ahead : (path : List ℕ) (grand rest specs : List Spec) (name : List ℕ) (u : Unit {0}) → new_property path (grand ++ rest) specs name ≡ Ok u
    → new_property path grand (grand ++ rest) name ≡ Ok u
new_ahead path grand rest specs name u e =
    by (is_property_name name) (slot_named (grand ++ rest) name) (slot_named grand name) (is_some (slot_named specs name))
    (none_front 0 grand rest (canonical name)) e
  where
    by : (valid : Bool) (all some : Option ℕ) (own : Bool) → (all ≡ None → some ≡ None)
        → (if valid then (if is_some all then Err (duplicate path) else (if own then Err (not_installed path Duplicate) else Ok tt))
        else Err (not_installed path BadName)) ≡ Ok u
        → (if valid then (if is_some some then Err (duplicate path) else (if is_some all then Err (not_installed path Duplicate) else Ok tt))
        else Err (not_installed path BadName)) ≡ Ok u
    by false all some own none e = absurd (cc)
    by true (Some i) some own none e = absurd (cc)
    by true None None true none e = absurd (cc)
    by true None None false none e = e
    by true None (Some i) own none e = absurd (none-some i (sym (none refl)))

valid_name : (path : List ℕ) (inherited specs : List Spec) (name : List ℕ) (u : Unit {0}) → new_property path inherited specs name ≡ Ok u
    → is_property_name name ≡ true
valid_name path inherited specs name u = by (is_property_name name)
  where
    by : (valid : Bool) → (if valid then new_name path inherited specs name else Err (not_installed path BadName)) ≡ Ok u → valid ≡ true
    by true e = refl
    by false e = absurd (cc)

room_ahead : (xs ys : List Spec) (u : Unit {0}) → room_for_property (xs ++ ys) ≡ Ok u → room_for_property xs ≡ Ok u
room_ahead xs ys u e = by (nat_le 64 (length (xs ++ ys))) (nat_le 64 (length xs)) refl refl e
  where
    by : (a b : Bool) → nat_le 64 (length (xs ++ ys)) ≡ a → nat_le 64 (length xs) ≡ b
        → (if a then Err (limit Properties) else Ok tt) ≡ Ok u → (if b then Err (limit Properties) else Ok tt) ≡ Ok u
    by true b p q e = absurd (cc)
    by false false p q e = e
    by false true p q e = let sum = length-append xs ys in absurd (grind (arith, nat_tests, sum, p, q))

-- ** kinds

pub place_more : (k : ℕ) (xs : List GType) (g : GType) (name : List ℕ)
    → place_from (λ (x : GType). x.name) k (xs ++ g ∷ []) name
    ≡ option_or (place_from (λ (x : GType). x.name) k xs name) (cond (same_name g.name name) (Some (k + length xs)) None)
place_more k [] g name = let same : k ≡ k + 0 = omega arith in ap (λ n. cond (same_name g.name name) (Some n) None) same
place_more k (x ∷ xs) g name = by (same_name x.name name) (place_more (suc k) xs g name)
  where
    by : (b : Bool) → place_from (λ (x : GType). x.name) (suc k) (xs ++ g ∷ []) name
        ≡ option_or (place_from (λ (x : GType). x.name) (suc k) xs name) (cond (same_name g.name name) (Some (suc k + length xs)) None)
        → cond b (Some k) (place_from (λ (x : GType). x.name) (suc k) (xs ++ g ∷ []) name)
        ≡ option_or (cond b (Some k) (place_from (λ (x : GType). x.name) (suc k) xs name)) (cond (same_name g.name name) (Some (k + suc (length xs))) None)
    by true rest = refl
    by false rest =
        let same : suc k + length xs ≡ k + suc (length xs) = omega arith in
        rest ∙ ap (λ n. option_or (place_from (λ (x : GType). x.name) (suc k) xs name) (cond (same_name g.name name) (Some n) None)) same

module _ (types : List GType) (g : GType) (class : g.sort ≡ sorts.class) where
  abbrev all : List GType
  all = types ++ g ∷ []

  sort_there : (name : List ℕ) (t : ℕ) → find_type types name ≡ Some t → sort_of all t ≡ sort_of types t
  sort_there name t e = ap (λ (x : GType). x.sort) (read-front no_type g types t (named_within (λ (x : GType). x.name) types name t e))

  sort_new : sort_of all (length types) ≡ sorts.class
  sort_new = ap (λ (x : GType). x.sort) (read-last no_type g types) ∙ class

  -- a type of a sort that is not a class's is found among these as among those
  found_alike : (passes : Sort → Bool) → passes sorts.class ≡ false → (name : List ℕ)
      → of_sort passes all (find_type all name) ≡ of_sort passes types (find_type types name)
  found_alike passes other name = ap (of_sort passes all) (place_more 0 types g name) ∙ by (find_type types name) refl (same_name g.name name)
    where
      by : (found : Option ℕ) → find_type types name ≡ found → (b : Bool)
          → of_sort passes all (option_or found (cond b (Some (0 + length types)) None)) ≡ of_sort passes types found
      by (Some t) e b = ap (λ s. cond (passes s) (Some t) None) (sort_there name t e)
      by None e true =
          let at : 0 + length types ≡ length types = omega arith in
          ap (λ n. of_sort passes all (Some n)) at
          ∙ ap (λ s. cond (passes s) (Some (length types)) None) sort_new ∙ ap (λ b. cond b (Some (length types)) None) other
      by None e false = refl

  module _ (names : TypeNames) (room : length types < 256) (number : later_type names g.name ≡ Some (length types)) where
    most : at_most 256 (length types) ≡ length types
    most = by (nat_lt (length types) 256) refl
      where
        by : (b : Bool) → nat_lt (length types) 256 ≡ b → (if b then length types else 256) ≡ length types
        by true e = refl
        by false e = absurd (grind (arith, nat_tests, e, room))

    object_alike : (name : List ℕ) → object_type all names name ≡ object_type types names name
    object_alike name =
        ap (λ o. option_or (of_sort is_class all o) (option_map (at_most 256) (later_type names name))) (place_more 0 types g name)
        ∙ by (find_type types name) refl (same_name g.name name) refl
      where
        by : (found : Option ℕ) → find_type types name ≡ found → (b : Bool) → same_name g.name name ≡ b
            → option_or (of_sort is_class all (option_or found (cond b (Some (0 + length types)) None))) (option_map (at_most 256) (later_type names name))
            ≡ option_or (of_sort is_class types found) (option_map (at_most 256) (later_type names name))
        by (Some t) e b same =
            ap (λ s. option_or (cond (is_class s) (Some t) None) (option_map (at_most 256) (later_type names name))) (sort_there name t e)
        by None e true same =
            let at : 0 + length types ≡ length types = omega arith in
            let called = names_same g.name name same in
            ap (λ n. option_or (of_sort is_class all (Some n)) (option_map (at_most 256) (later_type names name))) at
            ∙ ap (λ s. option_or (cond (is_class s) (Some (length types)) None) (option_map (at_most 256) (later_type names name))) sort_new
            ∙ ap Some (sym most) ∙ ap (option_map (at_most 256)) (sym number) ∙ ap (λ n. option_map (at_most 256) (later_type names n)) called
        by None e false same = refl

    kind_alike : (path word : List ℕ) (parts : Option (List ℕ × List ℕ)) → kind_by path all names word parts ≡ kind_by path types names word parts
    kind_alike path word None = refl
    kind_alike path word (Some parts) =
        rw (found_alike is_enum refl parts.1, found_alike is_flags refl parts.1, object_alike parts.1) refl

    kind_read : (path : List ℕ) (d : Data) (k : Kind) → kind_at path all names d ≡ Ok k → kind_at path types names d ≡ Ok k
    kind_read path d k e =
        both_ways (text_at path d (codes "kind")) (text_at path d (codes "kind")) _ _ k e (λ word h. h)
        (λ word h rest. sym (kind_alike (under path (codes "kind")) word (parted word)) ∙ rest)

-- ** values

known_kept : (types : List GType) (g : GType) (k : Kind) → IsKnownKind types k → IsKept types (types ++ g ∷ []) k
known_kept types g kinds.bool p = tt
known_kept types g (kinds.whole k) p = tt
known_kept types g kinds.text p = tt
known_kept types g (kinds.enum t) p = kept_but_class types g t sorts.enum p (λ e. cc)
known_kept types g (kinds.flags t) p = kept_but_class types g t sorts.flags p (λ e. cc)
known_kept types g (kinds.object t) p = tt

zero_alike : (types later : List GType) (k : Kind) → IsKept types later k → zero_value later k ≡ zero_value types k
zero_alike types later kinds.bool same = refl
zero_alike types later (kinds.whole k) same = refl
zero_alike types later kinds.text same = refl
zero_alike types later (kinds.enum t) same = ap (λ (x : GType). values.enum t (first_number x.members)) same
zero_alike types later (kinds.flags t) same = refl
zero_alike types later (kinds.object t) same = refl

json_alike : (types later : List GType) (k : Kind) (d : Data) → IsKept types later k → json_value later k d ≡ json_value types k d
json_alike types later kinds.bool d same = refl
json_alike types later (kinds.whole k) d same = refl
json_alike types later kinds.text d same = refl
json_alike types later (kinds.enum t) d same =
    ap (λ (x : GType). value_of (values.enum t) (enum_number x.members (as_str d) (whole_number d))) same
json_alike types later (kinds.flags t) d same =
    ap (λ (x : GType). value_of (values.flags t) (flags_bits x.members (as_str d) (whole_number d))) same
json_alike types later (kinds.object t) d same = refl

module _ (types all : List GType) (k : Kind) (same : IsKept types all k) where
  default_alike : (path : List ℕ) (d : Option Data) → default_or_zero path all k d ≡ default_or_zero path types k d
  default_alike path None = ap Ok (zero_alike types all k same)
  default_alike path (Some d) = ap (or_value_fault path) (json_alike types all k d same)

  module _ (s : Spec) (of : s.kind ≡ k) where
    valid_alike : is_valid (λ id. None) all s s.default ≡ is_valid (λ id. None) types s s.default
    valid_alike = sym (valid_later types all s.kind s.default s (subst (IsKept types all) (sym of) same))

    check_alike : (path : List ℕ) → check_default path all s ≡ check_default path types s
    check_alike path = ap (λ b. if b then Ok tt else Err (not_installed path DefaultInvalid)) valid_alike

    unranged_alike : (path : List ℕ) → check_unranged path all s ≡ check_unranged path types s
    unranged_alike path = ap (λ r. if is_whole_kind s.kind then Ok tt else r) (check_alike path)

  valued_ahead : (path : List ℕ) (name : List ℕ) (flags : ℕ) (d : Data) (s : Spec) → valued_at path all name k flags d ≡ Ok s
      → valued_at path types name k flags d ≡ Ok s
  unfolding valued_at
  valued_ahead path name flags d s e =
      both_ways (default_at path all k d) (default_at path types k d) _ _ s e
      (λ x h. sym (default_alike (under path (codes "default")) (get (codes "default") d)) ∙ h) λ default h e.
      both_ways (check_unranged (under path (codes "default")) all (property_spec name k flags default (whole_range k)))
      (check_unranged (under path (codes "default")) types (property_spec name k flags default (whole_range k))) _ _ s e
      (λ x h. sym (unranged_alike (property_spec name k flags default (whole_range k)) refl (under path (codes "default"))) ∙ h) λ unranged h e.
      both_ways (range_at path k d) (range_at path k d) _ _ s e (λ x h. h) λ range h e.
      both_ways (check_default (under path (codes "default")) all (property_spec name k flags default range))
      (check_default (under path (codes "default")) types (property_spec name k flags default range)) _ _ s e
      (λ x h. sym (check_alike (property_spec name k flags default range) refl (under path (codes "default"))) ∙ h) λ valid h e. e

valued_name : (path : List ℕ) (types : List GType) (name : List ℕ) (k : Kind) (flags : ℕ) (d : Data) → OnRead (λ s. s.name ≡ name) (valued_at path types name k flags d)
unfolding valued_at
valued_name path types name k flags d =
    on_bind (λ x. Unit {0}) (λ s. s.name ≡ name) (default_at path types k d) _ (on_all _) λ default u.
    on_bind (λ x. Unit {0}) (λ s. s.name ≡ name) (check_unranged (under path (codes "default")) types (property_spec name k flags default (whole_range k))) _ (on_all _) λ unranged u.
    on_bind (λ x. Unit {0}) (λ s. s.name ≡ name) (range_at path k d) _ (on_all _) λ range u.
    on_bind (λ x. Unit {0}) (λ s. s.name ≡ name) (check_default (under path (codes "default")) types (property_spec name k flags default range)) _ (on_all _) λ valid u. refl

-- ** properties

-- the entry's name is the property's
abbrev IsNamed : Data → Spec → Type 0
IsNamed d s = own_name (option_and_then as_str (get (codes "name") d)) ≡ Some (canonical s.name)

name_read : (path : List ℕ) (types : List GType) (names : TypeNames) (inherited specs : List Spec) (d : Data)
    → OnRead (IsNamed d) (spec_at path types names inherited specs d)
unfolding spec_at
name_read path types names inherited specs d =
    on_bind (λ x. Unit {0}) (IsNamed d) (members_at path d) _ (on_all _) λ ms u.
    on_bind (λ x. Unit {0}) (IsNamed d) (room_for_property specs) _ (on_all _) λ room u.
    on_read (IsNamed d) (text_at path d (codes "name")) _ λ name called.
    on_read (IsNamed d) (new_property (under path (codes "name")) inherited specs name) _ λ new fresh.
    on_bind (λ x. Unit {0}) (IsNamed d) (kind_at path types names d) _ (on_all _) λ kind u.
    on_bind (λ x. Unit {0}) (IsNamed d) (flags_at path d) _ (on_all _) λ flags u.
    on_bind (λ s. s.name ≡ name) (IsNamed d) (valued_at path types name kind flags d) _ (valued_name path types name kind flags d) λ spec is.
    on_bind (λ x. Unit {0}) (IsNamed d) (weak_at path kind d) _ (on_all _) λ weak u.
    on_bind (λ x. Unit {0}) (IsNamed d) (only_at path ms keys_of_property) _ (on_all _) λ only u.
    ap own_name (taken (shape (under path (codes "name"))) (option_and_then as_str (get (codes "name") d)) name called)
    ∙ ap (λ b. if b then Some (canonical name) else None) (valid_name (under path (codes "name")) inherited specs name new fresh)
    ∙ ap (λ n. Some (canonical n)) (sym is)

module _ (types : List GType) (g : GType) (class : g.sort ≡ sorts.class) (room : length types < 256) (names : TypeNames)
    (number : later_type names g.name ≡ Some (length types)) where
  spec_ahead : (path : List ℕ) (grand rest own : List Spec) (d : Data) (s : Spec)
      → spec_at path (types ++ g ∷ []) names (grand ++ rest) ((grand ++ rest) ++ own) d ≡ Ok s → spec_at path types names grand (grand ++ rest) d ≡ Ok s
  unfolding spec_at
  spec_ahead path grand rest own d s e =
      both_ways (members_at path d) (members_at path d) _ _ s e (λ x h. h) λ ms h e.
      both_ways (room_for_property ((grand ++ rest) ++ own)) (room_for_property (grand ++ rest)) _ _ s e (room_ahead (grand ++ rest) own) λ left h e.
      both_ways (text_at path d (codes "name")) (text_at path d (codes "name")) _ _ s e (λ x h. h) λ name h e.
      both_ways (new_property (under path (codes "name")) (grand ++ rest) ((grand ++ rest) ++ own) name)
      (new_property (under path (codes "name")) grand (grand ++ rest) name) _ _ s e
      (new_ahead (under path (codes "name")) grand rest ((grand ++ rest) ++ own) name) λ new h e.
      both_ways (kind_at path (types ++ g ∷ []) names d) (kind_at path types names d) _ _ s e
      (kind_read types g class names room number path d) λ kind of e.
      both_ways (flags_at path d) (flags_at path d) _ _ s e (λ x h. h) λ flags h e.
      both_ways (valued_at path (types ++ g ∷ []) name kind flags d) (valued_at path types name kind flags d) _ _ s e
      (valued_ahead types (types ++ g ∷ []) kind (known_kept types g kind
      (subst (OnRead (IsKnownKind types)) (kind_read types g class names room number path d kind of) (kind_open path types names d))) path name flags d)
      λ spec h e. e

  pub read_ahead : IsTree types → (table : ℕ → List Spec) (parent : ℕ)
      → IsReadAhead types (types ++ g ∷ []) names (inherited_by types table parent) (specs_by types table parent)
  read_ahead tree table parent path own d s e = (
    by (parent_of types parent) refl,
    subst (OnRead (IsNamed d)) e (name_read path (types ++ g ∷ []) names (specs_by types table parent)
        (specs_by types table parent ++ own) d),
  )
    where
      on : (grand rest inherited : List Spec) → inherited ≡ grand ++ rest
          → spec_at path (types ++ g ∷ []) names inherited (inherited ++ own) d ≡ Ok s → spec_at path types names grand inherited d ≡ Ok s
      on grand rest inherited is h =
          ap (spec_ahead_at grand) is ∙ spec_ahead path grand rest own d s (ap later_at (sym is) ∙ h)
        where
          spec_ahead_at : List Spec → List Spec → Result Spec Refusal
          spec_ahead_at grand xs = spec_at path types names grand xs d

          later_at : List Spec → Result Spec Refusal
          later_at xs = spec_at path (types ++ g ∷ []) names xs (xs ++ own) d

      by : (o : Option ℕ) → parent_of types parent ≡ o
          → spec_at path types names (inherited_of (specs_by types table) o) (specs_by types table parent) d ≡ Ok s
      by None up = on [] (specs_by types table parent) (specs_by types table parent) refl e
      by (Some p) up = on (specs_by types table p) (table parent) (specs_by types table parent) (child_specs types tree table parent p up) e
