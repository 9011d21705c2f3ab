-- The prototypes of a definition that was read: of concrete classes, given values that are no objects, without parents and signals. No peer is
-- named twice.
use Rattle.std.proofs.Common.{◌≡◌, ℕ, Bool, true, false, nat_eq, List, [], ◌∷◌, ◌++◌, map, slice_get, Option, None, Some, Result, Ok, Err, codes, refl}
use Rattle.std.specs.Prelude.{if◌then◌else◌, IfOk}
use Rattle.serde_json.specs.Data.{Data}
use Rattle.serde_json.specs.Find.{get}
use Rattle.g_values.specs.Reading.{json_value}
use Rattle.g_values.specs.declared.error.JsonFault.{JsonFault}
use Rattle.ui_machine.specs.Definition.Kinds.{Kind}
use Rattle.ui_machine.specs.Definition.Places.{Given, GivenProperty, Place, value}
use Rattle.ui_machine.specs.Definition.Properties.{Spec, is_writable}
use Rattle.ui_machine.specs.Definition.Types.{GType}
use Rattle.ui_machine.specs.Definition.Values.{Value}
use Rattle.ui_machine.specs.Output.Text.{members_of}
use Rattle.ui_machine.specs.Rules.Transform.{kind_fits}
use Rattle.definition_format.specs.Causes.{not_writable}
use Rattle.definition_format.specs.Refusals.{bad_spec, or_value_fault}
use Rattle.definition_format.specs.Document.{at_entry, under, nth, members_at, text_at, entries_at, only_at}
use Rattle.definition_format.specs.Denoted.Given.{property_named, is_given, named_once, itself}
use Rattle.definition_format.specs.Denoted.Objects.{new_id, class_at_key}
use Rattle.definition_format.specs.Denoted.Peers.{peers_of, peers_or}
use Rattle.definition_format.specs.Denoted.Prototypes.{if_writable, plain_value, keys_of_plain, plain_at, all_plain_at, room_for_prototype, keys_of_prototype, prototype_in, prototype_at, prototypes_in}
use Rattle.definition_format.proofs.Soundness.{OnRead, on_bind, on_all, on_each}
use Rattle.law_typing.specs.Verdict.Accepted.{Each}
use Rattle.law_typing.specs.Laws.WellRead.{no_two, no_class_of}
use Rattle.law_typing.proofs.Lists.{each_append}
use Rattle.law_reading.proofs.GivenProofs.{IsNamed, property_is, first_time}
use Rattle.law_reading.proofs.NameProofs.{apart_push}
use Rattle.law_reading.proofs.ObjectProofs.{IsConcrete, IsClassOf, class_read}
use Rattle.law_reading.proofs.PeerNames.{AreBeside, AreOnce, peers_read, place_once}
use Rattle.law_reading.proofs.ValueProofs.{HaveFewBits, value_fits}

-- a value itself, of the kind among these types
pub record IsItself (types : List GType) (kind : Kind) (g : Given) : Type 0 where
  pub of : Value
  pub is : g ≡ value of
  pub fits : kind_fits no_class_of types of kind ≡ true

-- what is so of a value that a prototype is given, where its class has these properties
pub record IsPlainFit (types : List GType) (specs : List Spec) (g : GivenProperty) : Type 0 where
  pub spec : Spec
  pub is : slice_get specs g.slot ≡ Some spec
  pub writable : is_writable spec ≡ true
  pub itself : IsItself types spec.kind g.given

pub record ArePlainGiven (types : List GType) (specs : List Spec) (given : List GivenProperty) : Type 0 where
  pub fit : Each (IsPlainFit types specs) given
  pub apart : no_two nat_eq (map (λ (g : GivenProperty). g.slot) given) ≡ true

-- what is so of a prototype that was read
pub record IsPrototypeRead (types : List GType) (specs : ℕ → List Spec) (p : Place) : Type 0 where
  pub class : IsConcrete types p.class
  pub given : ArePlainGiven types (specs p.class) p.given
  pub prototype : p.is_prototype ≡ true
  pub parent : p.parent ≡ None
  pub signals : p.signals ≡ []

abbrev pub ArePrototypes : List GType → (ℕ → List Spec) → List Place → Type 0
ArePrototypes types specs prototypes = Each (IsPrototypeRead types specs) prototypes

-- all prototypes of a document: no peer is named twice
pub record AreReadOnce (types : List GType) (specs : ℕ → List Spec) (prototypes : List Place) : Type 0 where
  pub read : ArePrototypes types specs prototypes
  pub once : AreOnce (peers_of prototypes)

writes : (path : List ℕ) (spec : Spec) → OnRead (λ u. is_writable spec ≡ true) (if_writable path spec)
writes path spec = by (is_writable spec) refl
  where
    by : (b : Bool) → is_writable spec ≡ b → OnRead {A = Unit {0}} (λ u. is_writable spec ≡ true) (if b then Ok tt else Err (bad_spec path not_writable))
    by true e = e
    by false e = tt

module _ (types : List GType) (few : (t : ℕ) → HaveFewBits (members_of types t)) where
  is_itself : (path : List ℕ) (kind : Kind) (given : Option Data) → OnRead (IsItself types kind) (plain_value path types kind given)
  is_itself path kind None = tt
  is_itself path kind (Some d) = by (json_value types kind d) (value_fits no_class_of types few kind d)
    where
      by : (r : Result Value JsonFault) → IfOk r (λ v. kind_fits no_class_of types v kind ≡ true)
          → OnRead (IsItself types kind) (itself (or_value_fault path r))
      by (Ok v) h = record { of = v; is = refl; fits = h }
      by (Err cause) h = tt

  module _ (specs : List Spec) where
    abbrev Fits : List GivenProperty → Type 0
    Fits given = ArePlainGiven types specs given

    one_more : (given : List GivenProperty) (g : GivenProperty) → Fits given → is_given given g.slot ≡ false → IsPlainFit types specs g → Fits (given ++ g ∷ [])
    one_more given g old new fit = record {
      fit = each_append (IsPlainFit types specs) given (g ∷ []) old.fit (fit, tt);
      apart = apart_push (λ (x : GivenProperty). x.slot) nat_eq given g old.apart new;
    }

    one_given : (path : List ℕ) (given : List GivenProperty) (d : Data) → Fits given → OnRead Fits (plain_at path types specs given d)
    unfolding plain_at
    one_given path given d old =
        on_bind (λ x. Unit {0}) Fits (members_at path d) _ (on_all _) λ ms u.
        on_bind (λ x. Unit {0}) Fits (text_at path d (codes "name")) _ (on_all _) λ name u.
        on_bind (λ p. IsNamed specs name p.slot p.spec) Fits (property_named (under path (codes "name")) specs name) _
        (property_is specs (under path (codes "name")) name) λ property is.
        on_bind (λ x. is_given given property.slot ≡ false) Fits (named_once (under path (codes "name")) given property.slot) _
        (first_time (under path (codes "name")) given property.slot) λ once new.
        on_bind (λ x. is_writable property.spec ≡ true) Fits (if_writable (under path (codes "name")) property.spec) _
        (writes (under path (codes "name")) property.spec) λ may writable.
        on_bind (IsItself types property.spec.kind) Fits (plain_value (under path (codes "value")) types property.spec.kind (get (codes "value") d)) _
        (is_itself (under path (codes "value")) property.spec.kind (get (codes "value") d)) λ g of.
        on_bind (λ x. Unit {0}) Fits (only_at path ms keys_of_plain) _ (on_all _) λ only u.
        one_more given (record { slot = property.slot; given = g }) old new
        (record { spec = property.spec; is = is.is; writable = writable; itself = of })

    all_given : (path : List ℕ) (d : Data) → OnRead Fits (all_plain_at path types specs d)
    unfolding all_plain_at
    all_given path d =
        on_bind (λ x. Unit {0}) Fits (entries_at path d (codes "properties")) _ (on_all _) λ list u.
        on_each Fits (at_entry (λ entry. plain_at entry types specs) (under path (codes "properties")))
        (λ i given d old. one_given (nth (under path (codes "properties")) i) given d old) 0 [] list (record { fit = tt; apart = refl })

  module _ (specs : ℕ → List Spec) (has_shape : ℕ → Bool) where
    abbrev All : List Place → Type 0
    All prototypes = AreReadOnce types specs prototypes

    -- a prototype, whose peers are none of these prototypes'
    record One (prototypes : List Place) (p : Place) : Type 0 where
      read : IsPrototypeRead types specs p
      once : AreBeside (peers_of prototypes) p.peers

    one_prototype : (path : List ℕ) (prototypes : List Place) (d : Data) → AreOnce (peers_of prototypes)
        → OnRead (One prototypes) (prototype_in path types specs has_shape prototypes d)
    unfolding prototype_in
    one_prototype path prototypes d before =
        on_bind (λ x. Unit {0}) (One prototypes) (members_at path d) _ (on_all _) λ ms u.
        on_bind (λ x. Unit {0}) (One prototypes) (room_for_prototype prototypes) _ (on_all _) λ room u.
        on_bind (λ x. Unit {0}) (One prototypes) (text_at path d (codes "id")) _ (on_all _) λ id u.
        on_bind (λ x. Unit {0}) (One prototypes) (new_id (under path (codes "id")) prototypes id) _ (on_all _) λ new u.
        on_bind (IsClassOf types d) (One prototypes) (class_at_key path types d) _ (class_read path types d) λ class is.
        on_bind (ArePlainGiven types (specs class)) (One prototypes) (all_plain_at path types (specs class) d) _ (all_given (specs class) path d) λ given fit.
        on_bind (AreBeside (peers_of prototypes)) (One prototypes)
        (peers_or (under path (codes "peers")) (has_shape class) (peers_of prototypes) (get (codes "peers") d)) _
        (peers_read (under path (codes "peers")) (has_shape class) (peers_of prototypes) (get (codes "peers") d) before) λ peers once.
        on_bind (λ x. Unit {0}) (One prototypes) (only_at path ms keys_of_prototype) _ (on_all _) λ only u.
        record { read = record { class = is.concrete; given = fit; prototype = refl; parent = refl; signals = refl }; once = once }

    added_read : (path : List ℕ) (prototypes : List Place) (d : Data) → All prototypes → OnRead All (prototype_at path types specs has_shape prototypes d)
    unfolding prototype_at
    added_read path prototypes d old =
        on_bind (One prototypes) All (prototype_in path types specs has_shape prototypes d) (λ p. Ok (prototypes ++ p ∷ []))
        (one_prototype path prototypes d old.once) λ p one.
        record {
          read = each_append (IsPrototypeRead types specs) prototypes (p ∷ []) old.read (one.read, tt);
          once = place_once [] prototypes p one.once;
        }

    pub all_prototypes : (d : Data) → OnRead All (prototypes_in types specs has_shape d)
    unfolding prototypes_in
    all_prototypes d =
        on_bind (λ x. Unit {0}) All (entries_at [] d (codes "prototypes")) _ (on_all _) λ list u.
        on_each All (at_entry (λ path. prototype_at path types specs has_shape) (under [] (codes "prototypes")))
        (λ i ps entry old. added_read (nth (under [] (codes "prototypes")) i) ps entry old) 0 [] list (record { read = tt; once = refl })
