-- What the objects of a definition that was read are given: values of their properties, which are writable, and to no property twice.
use Rattle.std.proofs.Common.{◌≡◌, ℕ, suc, ◌+◌, ◌<◌, Bool, true, false, not, ◌&&◌, nat_eq, nat_le, nat_lt, List, [], ◌∷◌, ◌++◌, length, map, slice_get, Option, None, Some, option_and_then, Result, Ok, Err, refl, sym, ap, subst, ◌∙◌, arith}
use Rattle.std.proofs.lemmas.Bool.Decides.{nat_tests}
use Rattle.std.specs.Prelude.{codes, if◌then◌else◌, IfOk}
use Rattle.serde_json.specs.Data.{Data}
use Rattle.serde_json.specs.Find.{get, as_str}
use Rattle.g_values.specs.Reading.{json_value}
use Rattle.g_values.specs.declared.error.JsonFault.{JsonFault}
use Rattle.g_values.specs.declared.error.JsonFault.TheVariants.{WrongJson}
use Rattle.param_specs.specs.Table.{slot_named}
use Rattle.ui_machine.specs.Definition.Kinds.{Kind}
use Rattle.ui_machine.specs.Definition.Kinds as kinds
use Rattle.ui_machine.specs.Definition.Places.{Given, GivenProperty, value, named}
use Rattle.ui_machine.specs.Definition.Properties.{Spec, is_writable, is_construct_only}
use Rattle.ui_machine.specs.Rules.Construction.{is_forward}
use Rattle.ui_machine.specs.Definition.Types.{GType}
use Rattle.ui_machine.specs.Definition.Values.{Value}
use Rattle.ui_machine.specs.Output.Text.{members_of}
use Rattle.ui_machine.specs.Rules.Transform.{kind_fits}
use Rattle.definition_format.specs.Causes.{not_writable}
use Rattle.definition_format.specs.Refusals.{Refusal, shape, unknown, duplicate, bad_spec, value_fault, forward_construct_only, or_refused, or_value_fault}
use Rattle.definition_format.specs.Denoted.Entries.{ObjectNames, name_under, number_from, at_most, is_called}
use Rattle.definition_format.specs.Denoted.Names.{is_name}
use Rattle.definition_format.specs.Denoted.Given.{property_named, is_given, named_once, takes_value, reference, class_ahead, may_be, place_called, referred, itself, given_by, spec_ahead, place_ahead, is_from, is_too_late, in_time}
use Rattle.definition_format.proofs.Soundness.{OnRead, on_bind}
use Rattle.law_typing.specs.Verdict.Accepted.{Each}
use Rattle.law_typing.specs.Laws.WellRead.{no_two, no_class_of}
use Rattle.law_typing.proofs.Lists.{each_append}
use Rattle.law_reading.proofs.NameProofs.{apart_push}
use Rattle.law_reading.proofs.Parts.{on_read, taken}
use Rattle.law_reading.proofs.ValueProofs.{HaveFewBits, value_fits}

-- what a name of an object that may come later denotes: the number of its entry, whose class may be one of the kind
pub record Refers (types : List GType) (objects : ObjectNames) (kind : Kind) (to : ℕ) : Type 0 where
  pub type : ℕ
  pub is : kind ≡ kinds.object type
  pub place : ℕ
  pub number : to ≡ at_most 512 place
  pub there : place < length objects.ids
  pub fits : may_be types type (class_ahead types objects place) ≡ true

-- a value of the kind, among these types, or the name of an object
abbrev pub IsOfKind : List GType → ObjectNames → Kind → Given → Type 0
IsOfKind types objects kind (value v) = kind_fits no_class_of types v kind ≡ true
IsOfKind types objects kind (named to) = Refers types objects kind to

-- what is so of a value that is given to the object of a place, where its class has these properties
pub record IsFit (types : List GType) (objects : ObjectNames) (place : ℕ) (specs : List Spec) (g : GivenProperty) : Type 0 where
  pub spec : Spec
  pub is : slice_get specs g.slot ≡ Some spec
  pub writable : is_writable spec ≡ true
  pub fits : IsOfKind types objects spec.kind g.given
  pub forward : is_forward place g.given ≡ true → is_construct_only spec ≡ false

pub record AreGiven (types : List GType) (objects : ObjectNames) (place : ℕ) (specs : List Spec) (given : List GivenProperty) : Type 0 where
  pub fit : Each (IsFit types objects place specs) given
  pub apart : no_two nat_eq (map (λ (g : GivenProperty). g.slot) given) ≡ true

-- the number of an entry is below the number of all
pub number_within : (i : ℕ) (names : List (Option (List ℕ))) (name : List ℕ) (n : ℕ) → number_from i names name ≡ Some n → n < i + length names
number_within i [] name n h = absurd (cc)
number_within i (own ∷ names) name n h = by (is_called own name) h (number_within (suc i) names name n)
  where
    by : (b : Bool) → (if b then Some i else number_from (suc i) names name) ≡ Some n
        → (number_from (suc i) names name ≡ Some n → n < suc i + length names) → n < i + suc (length names)
    by true e rest = let same : i ≡ n = cc in omega (arith, same)
    by false e rest = let later = rest e in omega (arith, later)

-- the property of a name
pub record IsNamed (specs : List Spec) (name : List ℕ) (slot : ℕ) (spec : Spec) : Type 0 where
  pub found : slot_named specs name ≡ Some slot
  pub is : slice_get specs slot ≡ Some spec

pub property_is : (specs : List Spec) (path name : List ℕ) → OnRead (λ p. IsNamed specs name p.slot p.spec) (property_named path specs name)
unfolding property_named
property_is specs path name =
    on_read (λ p. IsNamed specs name p.slot p.spec) (or_refused (unknown path name) (slot_named specs name)) _ λ slot found.
    on_read (λ p. IsNamed specs name p.slot p.spec) (or_refused (unknown path name) (slice_get specs slot)) _ λ spec is.
    record { found = taken (unknown path name) (slot_named specs name) slot found; is = taken (unknown path name) (slice_get specs slot) spec is }

pub first_time : (path : List ℕ) (given : List GivenProperty) (slot : ℕ) → OnRead (λ u. is_given given slot ≡ false) (named_once path given slot)
first_time path given slot = by (is_given given slot) refl
  where
    by : (b : Bool) → is_given given slot ≡ b
        → OnRead {A = Unit {0}} (λ u. is_given given slot ≡ false) (if b then Err (duplicate path) else Ok tt)
    by true e = tt
    by false e = e

module _ (types : List GType) (few : (t : ℕ) → HaveFewBits (members_of types t)) (objects : ObjectNames) (place : ℕ) (small : place < 512)
    (specs : List Spec) where
  -- where a value is given, the property takes it
  pub takes : (path : List ℕ) (given : Option Data) (spec : Spec)
      → OnRead (λ u. (d : Data) → given ≡ Some d → is_writable spec ≡ true) (takes_value path given spec)
  takes path None spec = λ d e. absurd (cc)
  takes path (Some given) spec = by (is_writable spec) refl
    where
      by : (b : Bool) → is_writable spec ≡ b
          → OnRead {A = Unit {0}} (λ u. (d : Data) → Some given ≡ Some d → is_writable spec ≡ true)
          (if not b then Err (bad_spec path not_writable) else Ok tt)
      by true e = λ d f. e
      by false e = tt

  -- ** objects that are named

  -- the object of an id of a type
  record IsReferred (t : ℕ) (id : List ℕ) (g : Given) : Type 0 where
    to : ℕ
    called : is_name id ≡ true
    found : number_from 0 objects.ids id ≡ Some to
    is : g ≡ named (at_most 512 to)
    fits : may_be types t (class_ahead types objects to) ≡ true

  called_place : (path id : List ℕ)
      → OnRead (λ n. (is_name id ≡ true) × (number_from 0 objects.ids id ≡ Some n)) (place_called path objects id)
  called_place path id = by (is_name id) refl
    where
      found : (o : Option ℕ) → number_from 0 objects.ids id ≡ o → is_name id ≡ true
          → OnRead (λ n. (is_name id ≡ true) × (number_from 0 objects.ids id ≡ Some n)) (or_refused (unknown path id) o)
      found None e h = tt
      found (Some n) e h = (h, e)

      by : (b : Bool) → is_name id ≡ b
          → OnRead (λ n. (is_name id ≡ true) × (number_from 0 objects.ids id ≡ Some n))
          (if b then or_refused (unknown path id) (number_from 0 objects.ids id) else Err (shape path))
      by true e = found (number_from 0 objects.ids id) refl e
      by false e = tt

  is_referred : (path : List ℕ) (t : ℕ) (id : List ℕ) → OnRead (IsReferred t id) (referred path types objects (t, id))
  unfolding referred
  is_referred path t id =
      on_bind (λ n. (is_name id ≡ true) × (number_from 0 objects.ids id ≡ Some n)) (IsReferred t id) (place_called path objects id) _
      (called_place path id) λ n so. by n so (may_be types t (class_ahead types objects n)) refl
    where
      by : (n : ℕ) → (is_name id ≡ true) × (number_from 0 objects.ids id ≡ Some n) → (b : Bool) → may_be types t (class_ahead types objects n) ≡ b
          → OnRead (IsReferred t id) (if b then Ok (named (at_most 512 n)) else Err (value_fault path WrongJson))
      by n so true e = record { to = n; called = so.0; found = so.1; is = refl; fits = e }
      by n so false e = tt

  -- ** given values

  -- a value is of the kind; where an object is given too late the property is not one that constructions alone set
  pub record IsGiven (kind : Kind) (from : Data) (g : Given) : Type 0 where
    pub fits : IsOfKind types objects kind g
    pub late : is_forward place g ≡ true → is_from place (place_ahead objects (reference kind (as_str from))) ≡ true

  refers : (kind : Kind) (t : ℕ) (id : List ℕ) (g : Given) → kind ≡ kinds.object t → IsReferred t id g → IsOfKind types objects kind g
  refers kind t id g is r =
      subst (IsOfKind types objects kind) (sym r.is) (record {
        type = t;
        is = is;
        place = r.to;
        number = refl;
        there = let within = number_within 0 objects.ids id r.to r.found in omega (arith, within);
        fits = r.fits;
      })

  -- a number that was cut is not below one that is small, unless it was
  late_by : (n : ℕ) → nat_le place (at_most 512 n) ≡ true → nat_le place n ≡ true
  late_by n h = by (nat_lt n 512) refl h
    where
      by : (b : Bool) → nat_lt n 512 ≡ b → nat_le place (if b then n else 512) ≡ true → nat_le place n ≡ true
      by true e h = h
      by false e h = grind (arith, nat_tests)

  is_late : (kind : Kind) (t : ℕ) (id : List ℕ) (d : Data) (g : Given) → reference kind (as_str d) ≡ Some (t, id) → IsReferred t id g
      → is_forward place g ≡ true → is_from place (place_ahead objects (reference kind (as_str d))) ≡ true
  is_late kind t id d g is r h =
      ap (λ o. is_from place (place_ahead objects o)) is
      ∙ ap (λ b. is_from place (if b then number_from 0 objects.ids id else None)) r.called
      ∙ ap (is_from place) r.found
      ∙ late_by r.to (subst (λ g. is_forward place g ≡ true) r.is h)

  reference_is : (kind : Kind) (said : Option (List ℕ)) (t : ℕ) (id : List ℕ) → reference kind said ≡ Some (t, id) → kind ≡ kinds.object t
  reference_is (kinds.object u) (Some x) t id e = let same : (u, x) ≡ (t, id) = cc in ap (λ (r : ℕ × List ℕ). kinds.object r.0) same
  reference_is (kinds.object u) None t id e = absurd (cc)
  reference_is kinds.bool said t id e = absurd (cc)
  reference_is (kinds.whole k) said t id e = absurd (cc)
  reference_is kinds.text said t id e = absurd (cc)
  reference_is (kinds.enum u) said t id e = absurd (cc)
  reference_is (kinds.flags u) said t id e = absurd (cc)

  pub of_kind : (path : List ℕ) (kind : Kind) (d : Data) → OnRead (IsGiven kind d) (given_by path types objects kind d (reference kind (as_str d)))
  of_kind path kind d = by (reference kind (as_str d)) refl
    where
      plain : (r : Result Value JsonFault) → IfOk r (λ v. kind_fits no_class_of types v kind ≡ true)
          → OnRead (IsGiven kind d) (itself (or_value_fault path r))
      plain (Ok v) h = record { fits = h; late = λ e. absurd (cc) }
      plain (Err cause) h = tt

      object : (t : ℕ) (id : List ℕ) → reference kind (as_str d) ≡ Some (t, id) → (r : Result Given Refusal) → OnRead (IsReferred t id) r
          → OnRead (IsGiven kind d) r
      object t id e (Ok g) h = record { fits = refers kind t id g (reference_is kind (as_str d) t id e) h; late = is_late kind t id d g e h }
      object t id e (Err refusal) h = tt

      by : (o : Option (ℕ × List ℕ)) → reference kind (as_str d) ≡ o → OnRead (IsGiven kind d) (given_by path types objects kind d o)
      by None e = plain (json_value types kind d) (value_fits no_class_of types few kind d)
      by (Some r) e = object r.0 r.1 e (referred path types objects r) (is_referred path r.0 r.1)

  -- ** objects that come too late

  pub early : (path : List ℕ) (d : Data) (ahead : Option Spec)
      → OnRead (λ u. (spec : Spec) → ahead ≡ Some spec → is_too_late place objects d spec ≡ false) (in_time path place objects d ahead)
  early path d None = λ spec e. absurd (cc)
  early path d (Some s) = by (is_too_late place objects d s) refl
    where
      by : (b : Bool) → is_too_late place objects d s ≡ b
          → OnRead {A = Unit {0}} (λ u. (spec : Spec) → Some s ≡ Some spec → is_too_late place objects d spec ≡ false)
          (if b then Err (forward_construct_only path) else Ok tt)
      by true e = tt
      by false e = λ spec h. let same : s ≡ spec = cc in subst (λ x. is_too_late place objects d x ≡ false) same e

  -- the property of an entry, read ahead
  pub ahead_is : (d : Data) (name : List ℕ) (slot : ℕ) (spec : Spec) → name_under (codes "name") d ≡ Some name → IsNamed specs name slot spec
      → spec_ahead specs d ≡ Some spec
  ahead_is d name slot spec e so =
      ap (option_and_then (λ n. option_and_then (slice_get specs) (slot_named specs n))) e
      ∙ ap (option_and_then (slice_get specs)) so.found ∙ so.is

  pub not_late : (d from : Data) (spec : Spec) → get (codes "value") d ≡ Some from → is_too_late place objects d spec ≡ false
      → is_from place (place_ahead objects (reference spec.kind (as_str from))) ≡ true → is_construct_only spec ≡ false
  not_late d from spec there e late =
      by (is_construct_only spec) refl
      (sym (ap (λ o. is_construct_only spec && is_from place (place_ahead objects (reference spec.kind (option_and_then as_str o)))) there) ∙ e)
    where
      by : (b : Bool) → is_construct_only spec ≡ b
          → (is_construct_only spec && is_from place (place_ahead objects (reference spec.kind (as_str from)))) ≡ false
          → is_construct_only spec ≡ false
      by false f h = f
      by true f h = absurd (let bad : (true && true) ≡ false = sym (ap (λ x. x && true) f) ∙ sym (ap (λ y. is_construct_only spec && y) late) ∙ h in cc)

  pub one_more : (given : List GivenProperty) (g : GivenProperty) → AreGiven types objects place specs given → is_given given g.slot ≡ false
      → IsFit types objects place specs g
      → AreGiven types objects place specs (given ++ g ∷ [])
  one_more given g old new fit = record {
    fit = each_append (IsFit types objects place specs) given (g ∷ []) old.fit (fit, tt);
    apart = apart_push (λ (x : GivenProperty). x.slot) nat_eq given g old.apart new;
  }
