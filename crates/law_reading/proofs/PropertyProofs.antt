-- The properties of a definition that was read.
use Rattle.std.proofs.Common.{◌≡◌, ℕ, suc, ◌<◌, ◌≤◌, ◌^◌, Bool, true, false, cond, not, ◌&&◌, ◌||◌, nat_eq, nat_le, int_lt, is_some, List, [], ◌∷◌, ◌++◌, length, Option, None, Some, refl, sym, ap, subst, ◌∙◌, arith, codes, if◌then◌else◌}
use Rattle.std.specs.Str.{bytes_eq}
use Rattle.std.proofs.lemmas.Bool.{eqb-true}
use Rattle.std.proofs.lemmas.Nat.{or_lt}
use Rattle.serde_json.specs.Data.{Data}
use Rattle.serde_json.specs.Find.{get, as_str, as_array}
use Rattle.ui_machine.specs.Definition.Kinds.{Kind}
use Rattle.ui_machine.specs.Definition.Types.{GType}
use Rattle.ui_machine.specs.Definition.Names.{canonical}
use Rattle.ui_machine.specs.Definition.Properties.{Spec, is_writable, is_construct, is_construct_only, has_flags}
use Rattle.ui_machine.specs.Rules.Validation.{is_valid}
use Rattle.param_specs.specs.Flags.{is_clash}
use Rattle.param_specs.specs.declared.error.SpecFault.{SpecFault}
use Rattle.param_specs.specs.Table.{fault_if, ◌or_else◌, install_fault, slot_named, canonical_spec}
use Rattle.type_tree.specs.PropertyName.{is_property_name}
use Rattle.param_specs.specs.declared.error.SpecFault.TheVariants.{BadName, Duplicate, FlagsClash, RangeEmpty, DefaultInvalid, Limit}
use Rattle.definition_format.specs.Denoted.Drafts.{properties_at}
use Rattle.definition_format.specs.Refusals.{Refusal, shape, or_refused}
use Rattle.definition_format.specs.Document.{each, at_entry, under, nth, members_at, text_at, entries_at, only_at}
use Rattle.definition_format.specs.Denoted.Entries.{TypeNames}
use Rattle.definition_format.specs.Denoted.Kinds.{kind_at}
use Rattle.definition_format.specs.Denoted.PropertyFlags.{flag_if, flag_at, check_flags, listed_flags, flags_or, flags_at}
use Rattle.definition_format.specs.Denoted.Ranges.{whole_range, range_at}
use Rattle.definition_format.specs.Denoted.Defaults.{default_at, check_default, check_unranged}
use Rattle.definition_format.specs.Denoted.Properties.{specs_by, inherited_by, property_spec, room_for_property, new_property, weak_at, keys_of_property, valued_at, spec_at, add_own, installed_or, installed, property_at}
use Rattle.definition_format.proofs.Soundness.{OnRead, on_bind, on_all, on_each}
use Rattle.type_tree.specs.Tree.{IsTree}
use Rattle.law_typing.specs.Verdict.Accepted.{Each}
use Rattle.law_typing.proofs.Lists.{each_append}
use Rattle.law_reading.proofs.Ancestors.{other_specs, last_specs}
use Rattle.law_reading.proofs.NameProofs.{AreNamed, spec_name, named_push}

-- ** flags

-- flags of 32 bits
abbrev pub AreFlags : ℕ → Type 0
AreFlags flags = flags < 2 ^ 32

one_flag : (r : Refusal) (u v w x y z : Bool)
    → OnRead AreFlags (or_refused r
    (if u then Some 1 else (if v then Some 2 else (if w then Some 4 else (if x then Some 8 else
    (if y then Some 16 else (if z then Some 1073741824 else None)))))))
one_flag r true v w x y z = omega arith
one_flag r false true w x y z = omega arith
one_flag r false false true x y z = omega arith
one_flag r false false false true y z = omega arith
one_flag r false false false false true z = omega arith
one_flag r false false false false false true = omega arith
one_flag r false false false false false false = tt

named_flag : (r : Refusal) (word : Option (List ℕ)) → OnRead AreFlags (or_refused r (flag_if word))
named_flag r None = tt
named_flag r (Some word) =
    one_flag r (bytes_eq word (codes "readable")) (bytes_eq word (codes "writable")) (bytes_eq word (codes "construct"))
    (bytes_eq word (codes "construct-only")) (bytes_eq word (codes "lax-validation")) (bytes_eq word (codes "explicit-notify"))

flag_more : (path : List ℕ) (flags : ℕ) (d : Data) → AreFlags flags → OnRead AreFlags (flag_at path flags d)
unfolding flag_at
flag_more path flags d h =
    on_bind AreFlags AreFlags (or_refused (shape path) (flag_if (as_str d))) _ (named_flag (shape path) (as_str d)) λ flag f.
    or_lt 32 flags flag h f

flags_listed : (path : List ℕ) (d : Data) → OnRead AreFlags (listed_flags path d)
unfolding listed_flags
flags_listed path d =
    on_bind (λ x. Unit {0}) AreFlags (or_refused (shape path) (as_array d)) _ (on_all _) λ list u.
    on_bind AreFlags AreFlags (each (at_entry flag_at path) 0 0 list) _
    (on_each AreFlags (at_entry flag_at path) (λ i flags d h. flag_more (nth path i) flags d h) 0 0 list (omega arith)) λ flags h.
    on_bind (λ x. Unit {0}) AreFlags (check_flags path flags) _ (on_all _) λ fine u. h

flags_given : (path : List ℕ) (d : Option Data) → OnRead AreFlags (flags_or path d)
flags_given path None = omega arith
flags_given path (Some d) = flags_listed path d

abbrev pub HasFlags : Spec → Type 0
HasFlags s = AreFlags s.flags

valued_flags : (path : List ℕ) (types : List GType) (name : List ℕ) (kind : Kind) (flags : ℕ) (d : Data) → AreFlags flags
    → OnRead HasFlags (valued_at path types name kind flags d)
unfolding valued_at
valued_flags path types name kind flags d h =
    on_bind (λ x. Unit {0}) HasFlags (default_at path types kind d) _ (on_all _) λ default u.
    on_bind (λ x. Unit {0}) HasFlags
    (check_unranged (under path (codes "default")) types (property_spec name kind flags default (whole_range kind))) _ (on_all _)
    λ unranged u.
    on_bind (λ x. Unit {0}) HasFlags (range_at path kind d) _ (on_all _) λ range u.
    on_bind (λ x. Unit {0}) HasFlags (check_default (under path (codes "default")) types (property_spec name kind flags default range)) _
    (on_all _) λ valid u. h

spec_flags : (path : List ℕ) (types : List GType) (names : TypeNames) (inherited specs : List Spec) (d : Data)
    → OnRead HasFlags (spec_at path types names inherited specs d)
unfolding spec_at
spec_flags path types names inherited specs d =
    on_bind (λ x. Unit {0}) HasFlags (members_at path d) _ (on_all _) λ ms u.
    on_bind (λ x. Unit {0}) HasFlags (room_for_property specs) _ (on_all _) λ room u.
    on_bind (λ x. Unit {0}) HasFlags (text_at path d (codes "name")) _ (on_all _) λ name u.
    on_bind (λ x. Unit {0}) HasFlags (new_property (under path (codes "name")) inherited specs name) _ (on_all _) λ new u.
    on_bind (λ x. Unit {0}) HasFlags (kind_at path types names d) _ (on_all _) λ kind u.
    on_bind AreFlags HasFlags (flags_at path d) _ (flags_given (under path (codes "flags")) (get (codes "flags") d)) λ flags h.
    on_bind HasFlags HasFlags (valued_at path types name kind flags d) _ (valued_flags path types name kind flags d h) λ spec f.
    on_bind (λ x. Unit {0}) HasFlags (weak_at path kind d) _ (on_all _) λ weak u.
    on_bind (λ x. Unit {0}) HasFlags (only_at path ms keys_of_property) _ (on_all _) λ only u. f

-- ** what a table keeps

pub record IsKept (s : Spec) : Type 0 where
  pub construct : is_construct s ≡ true → is_writable s ≡ true
  pub construct_only : is_construct_only s ≡ true → is_writable s ≡ true
  pub flags : HasFlags s
  pub name : canonical s.name ≡ s.name

together : (r w c o : Bool) → (c && o || c && not w || o && not w || not r && not w) ≡ false → (c ≡ true → w ≡ true) × (o ≡ true → w ≡ true)
together r true c o e = (λ h. refl, λ h. refl)
together r false true true e = absurd (cc)
together r false true false e = absurd (cc)
together r false false true e = absurd (cc)
together r false false false e = (λ h. absurd (cc), λ h. absurd (cc))

no_fault : (a b c : Bool) (f g h : SpecFault) (rest : Option SpecFault)
    → (fault_if a f or_else fault_if b g or_else fault_if c h or_else rest) ≡ None → (b ≡ false) × (c ≡ false)
no_fault true b c f g h rest e = absurd (cc)
no_fault false true c f g h rest e = absurd (cc)
no_fault false false true f g h rest e = absurd (cc)
no_fault false false false f g h rest e = (refl, refl)

pub none_there : (o : Option ℕ) → is_some o ≡ false → o ≡ None
none_there None e = refl
none_there (Some x) e = absurd (cc)

pub canonical_once : (name : List ℕ) → canonical (canonical name) ≡ canonical name
canonical_once [] = refl
canonical_once (x ∷ xs) = by (canonical_once xs) (nat_eq x 95) refl
  where
    by : canonical (canonical xs) ≡ canonical xs → (b : Bool) → nat_eq x 95 ≡ b
        → cond (nat_eq (cond b 45 x) 95) 45 (cond b 45 x) ∷ canonical (canonical xs) ≡ cond b 45 x ∷ canonical xs
    by later true t = ap (λ ys. 45 ∷ ys) later
    by later false t = ap (λ c. cond c 45 x ∷ canonical (canonical xs)) t ∙ ap (λ ys. x ∷ ys) later

-- ** a property more

pub record OwnRead (types : List GType) (own : ℕ → List Spec) : Type 0 where
  pub kept : (t : ℕ) → Each IsKept (own t)
  pub past : (t : ℕ) → length types ≤ t → own t ≡ []
  pub named : (t : ℕ) → AreNamed (specs_by types own t)

other_than : (u last : ℕ) → (u ≡ last → ⊥) → nat_eq u last ≡ false
other_than u last h = by (nat_eq u last) refl
  where
    by : (b : Bool) → nat_eq u last ≡ b → nat_eq u last ≡ false
    by true e = absurd (h (eqb-true u last e))
    by false e = e

module _ (types : List GType) (tree : IsTree types) (last : ℕ) (is : suc last ≡ length types) (own : ℕ → List Spec)
    (old : OwnRead types own) (spec : Spec) where
  one_kept : (u : ℕ) → IsKept (canonical_spec spec) → Each IsKept (add_own own last (canonical_spec spec) u)
  one_kept u new = by (nat_eq u last)
    where
      by : (b : Bool) → Each IsKept (if b then own u ++ canonical_spec spec ∷ [] else own u)
      by true = each_append IsKept (own u) (canonical_spec spec ∷ []) (old.kept u) (new, tt)
      by false = old.kept u

  none_past : (u : ℕ) → length types ≤ u → add_own own last (canonical_spec spec) u ≡ []
  none_past u h =
      ap (λ b. cond b (own u ++ canonical_spec spec ∷ []) (own u)) (other_than u last (λ e. omega (arith, e, is, h))) ∙ old.past u h

  all_named : slot_named (specs_by types own last) spec.name ≡ None → (t : ℕ)
      → AreNamed (specs_by types (add_own own last (canonical_spec spec)) t)
  all_named none t = by (nat_eq t last) refl
    where
      by : (b : Bool) → nat_eq t last ≡ b → AreNamed (specs_by types (add_own own last (canonical_spec spec)) t)
      by false e = subst AreNamed (sym (other_specs types tree own last is (canonical_spec spec) t e)) (old.named t)
      by true e =
          subst (λ u. AreNamed (specs_by types (add_own own last (canonical_spec spec)) u)) (sym (eqb-true t last e))
          (subst AreNamed (sym (last_specs types tree own last is (canonical_spec spec)))
          (named_push spec_name 0 (specs_by types own last) (canonical_spec spec) (old.named last) none))

  kept_one : HasFlags spec → is_clash spec.flags ≡ false → IsKept (canonical_spec spec)
  kept_one flags fine =
      let so = together (has_flags 1 spec.flags) (has_flags 2 spec.flags) (has_flags 4 spec.flags) (has_flags 8 spec.flags) fine in
      record { construct = so.0; construct_only = so.1; flags = flags; name = canonical_once spec.name }

  installed_read : (path : List ℕ) → HasFlags spec → OnRead (OwnRead types) (installed path types last own spec)
  installed_read path flags = by (install_fault types (specs_by types own last) spec) refl
    where
      by : (f : Option SpecFault) → install_fault types (specs_by types own last) spec ≡ f
          → OnRead (OwnRead types) (installed_or path f (add_own own last (canonical_spec spec)))
      by (Some cause) e = tt
      by None e =
          let known = is_some (slot_named (specs_by types own last) spec.name) in
          let fine = no_fault (not (is_property_name spec.name)) known (is_clash spec.flags)
          BadName Duplicate FlagsClash (fault_if (int_lt spec.high spec.low) RangeEmpty or_else
          fault_if (not (is_valid (λ id. None) types spec spec.default)) DefaultInvalid or_else
          fault_if (nat_le 64 (length (specs_by types own last))) Limit) e in
          let read : OwnRead types (add_own own last (canonical_spec spec)) = record {
            kept = λ u. one_kept u (kept_one flags fine.1);
            past = none_past;
            named = all_named (none_there (slot_named (specs_by types own last) spec.name) fine.0);
          } in read

module _ (types : List GType) (tree : IsTree types) (last : ℕ) (is : suc last ≡ length types) where
  property_read : (names : TypeNames) (path : List ℕ) (own : ℕ → List Spec) (d : Data) → OwnRead types own
      → OnRead (OwnRead types) (property_at path types names last own d)
  unfolding property_at
  property_read names path own d old =
      on_bind HasFlags (OwnRead types) (spec_at path types names (inherited_by types own last) (specs_by types own last) d)
      (λ spec. installed path types last own spec)
      (spec_flags path types names (inherited_by types own last) (specs_by types own last) d) λ spec flags.
      installed_read types tree last is own old spec path flags

  pub properties_read : (names : TypeNames) (path : List ℕ) (own : ℕ → List Spec) (d : Data) → OwnRead types own
      → OnRead (OwnRead types) (properties_at path types names last own d)
  unfolding properties_at
  properties_read names path own d old =
      on_bind (λ x. Unit {0}) (OwnRead types) (entries_at path d (codes "properties")) _ (on_all _) λ list u.
      on_each (OwnRead types) (at_entry (λ entry. property_at entry types names last) (under path (codes "properties")))
      (λ i own d all. property_read names (nth (under path (codes "properties")) i) own d all) 0 own list old

-- ** what stays

-- what only one type has is other
abbrev pub OnlyAt : {A : Type 0} → ℕ → (ℕ → List A) → (ℕ → List A) → Type 0
OnlyAt last own changed = (u : ℕ) → nat_eq u last ≡ false → changed u ≡ own u

module _ (types : List GType) (names : TypeNames) (last : ℕ) (first : ℕ → List Spec) where
  installed_only : (path : List ℕ) (own : ℕ → List Spec) (s : Spec) (f : Option SpecFault) → OnlyAt last first own
      → OnRead (OnlyAt last first) (installed_or path f (add_own own last (canonical_spec s)))
  installed_only path own s None old = λ u h. ap (λ b. cond b (own u ++ canonical_spec s ∷ []) (own u)) h ∙ old u h
  installed_only path own s (Some cause) old = tt

  property_only : (path : List ℕ) (own : ℕ → List Spec) (d : Data) → OnlyAt last first own
      → OnRead (OnlyAt last first) (property_at path types names last own d)
  unfolding property_at
  property_only path own d old =
      on_bind (λ x. Unit {0}) (OnlyAt last first) (spec_at path types names (inherited_by types own last) (specs_by types own last) d)
      (λ spec. installed path types last own spec) (on_all _) λ spec u.
      installed_only path own spec (install_fault types (specs_by types own last) spec) old

  pub properties_only : (path : List ℕ) (d : Data) → OnRead (OnlyAt last first) (properties_at path types names last first d)
  unfolding properties_at
  properties_only path d =
      on_bind (λ x. Unit {0}) (OnlyAt last first) (entries_at path d (codes "properties")) _ (on_all _) λ list u.
      on_each (OnlyAt last first) (at_entry (λ entry. property_at entry types names last) (under path (codes "properties")))
      (λ i own d all. property_only (nth (under path (codes "properties")) i) own d all) 0 first list (λ u h. refl)
