-- A class has the properties and signals of what it is.
use Rattle.std.proofs.Common.{◌≡◌, ℕ, ◌+◌, ◌<◌, Bool, true, false, List, [], ◌∷◌, length, Option, None, Some, refl, ap, ◌∙◌, arith}
use Rattle.std.specs.List.{list_all}
use Rattle.std.proofs.lemmas.Bool.{eq-eqb}
use Rattle.ui_machine.specs.Definition.Kinds.{Kind}
use Rattle.ui_machine.specs.Definition.Kinds as kinds
use Rattle.ui_machine.specs.Definition.Names.{canonical, place_named}
use Rattle.ui_machine.specs.Definition.Properties.{Spec}
use Rattle.ui_machine.specs.Definition.Signals.{Signal, Accumulator, true_handled, first_wins}
use Rattle.ui_machine.specs.Definition.{Definition}
use Rattle.ui_machine.specs.Definition.Lookups.{class_of, specs_of, spec_of, slot_of}
use Rattle.ui_machine.specs.Rules.Ancestry.{is_a}
use Rattle.ui_machine.specs.Rules.Transform.{same_kind, same_bool}
use Rattle.machine_laws.proofs.ClampProofs.{same_value_itself}
use Rattle.ui_machine.specs.Rules.Connections.{signal_number}
use Rattle.ui_machine.specs.Rules.EmissionPlan.{signal_of}
use Rattle.law_typing.specs.Verdict.Inherits.{same_spec, same_kinds, same_result, same_accumulator, same_signal, is_spec, spec_named, is_signal, signal_named, has_all_of, implies, types_of, inherits}
use Rattle.law_reading.proofs.ListProofs.{all_listed, all_entries}
use Rattle.law_reading.proofs.NameProofs.{AreApart, AreNamed, spec_name, signal_name, name_refl, named_found}
use Rattle.law_reading.proofs.ValueProofs.{both_true, int_itself, whole_itself}

kind_itself : (k : Kind) → same_kind k k ≡ true
kind_itself kinds.bool = refl
kind_itself (kinds.whole k) = whole_itself k
kind_itself kinds.text = refl
kind_itself (kinds.enum t) = eq-eqb t t refl
kind_itself (kinds.flags t) = eq-eqb t t refl
kind_itself (kinds.object t) = eq-eqb t t refl

bool_itself : (b : Bool) → same_bool b b ≡ true
bool_itself true = refl
bool_itself false = refl

spec_itself : (s : Spec) → same_spec s s ≡ true
spec_itself s =
    let flags = eq-eqb s.flags s.flags refl in
    rw (name_refl s.name, kind_itself s.kind, flags, same_value_itself s.default, int_itself s.low, int_itself s.high) (bool_itself s.weak)

kinds_itself : (ks : List Kind) → same_kinds ks ks ≡ true
kinds_itself [] = refl
kinds_itself (k ∷ ks) = both_true (same_kind k k) (same_kinds ks ks) (kind_itself k) (kinds_itself ks)

result_itself : (result : Option Kind) → same_result result result ≡ true
result_itself None = refl
result_itself (Some k) = kind_itself k

accumulator_itself : (a : Option Accumulator) → same_accumulator a a ≡ true
accumulator_itself None = refl
accumulator_itself (Some true_handled) = refl
accumulator_itself (Some first_wins) = refl

signal_itself : (s : Signal) → same_signal s s ≡ true
signal_itself s =
    let flags = eq-eqb s.flags s.flags refl in
    rw (name_refl s.name, kinds_itself s.params, result_itself s.result, flags) (accumulator_itself s.accumulator)

module _ (d : Definition) where
  -- a property that a class has is found there by its name, if it is written as properties' names are
  found_spec : (class at : ℕ) (s : Spec) → AreNamed (specs_of d class) → canonical s.name ≡ s.name → spec_of d class at ≡ Some s
      → is_spec s (spec_named d class s.name) ≡ true
  found_spec class at s named plain has =
      let same : 0 + at ≡ at = omega arith in
      let slot : slot_of d class s.name ≡ Some at =
      ap (place_named spec_name (specs_of d class)) plain ∙ named_found spec_name 0 (specs_of d class) at s named has ∙ ap Some same in
      rw (slot, has) (spec_itself s)

  -- and so is a signal
  found_signal : (class at : ℕ) (s : Signal) → AreApart signal_name (class_of d class).signals → canonical s.name ≡ s.name
      → signal_of d class at ≡ Some s → is_signal s (signal_named d class s.name) ≡ true
  found_signal class at s named plain has =
      let same : 0 + at ≡ at = omega arith in
      let number : signal_number d class s.name ≡ Some at =
      ap (place_named signal_name (class_of d class).signals) plain
      ∙ named_found signal_name 0 (class_of d class).signals at s named has ∙ ap Some same in
      rw (number, has) (signal_itself s)

  -- What a class has, if it has each property of a type in some slot, and each signal under some number.
  pub has_all : (class type : ℕ) → AreNamed (specs_of d class)
      → ((slot : ℕ) (s : Spec) → spec_of d type slot ≡ Some s → (canonical s.name ≡ s.name) × ((at : ℕ) × (spec_of d class at ≡ Some s)))
      → AreApart signal_name (class_of d class).signals
      → ((number : ℕ) (s : Signal) → signal_of d type number ≡ Some s
      → (canonical s.name ≡ s.name) × ((at : ℕ) × (signal_of d class at ≡ Some s)))
      → has_all_of d class type ≡ true
  has_all class type named has apart has_signals =
      both_true (list_all (λ (s : Spec). is_spec s (spec_named d class s.name)) (specs_of d type)) _
      (all_entries (λ (s : Spec). is_spec s (spec_named d class s.name)) (specs_of d type)
      (λ slot s e. let h = has slot s e in found_spec class h.1.0 s named h.0 h.1.1))
      (all_entries (λ (s : Signal). is_signal s (signal_named d class s.name)) (class_of d type).signals
      (λ number s e. let h = has_signals number s e in found_signal class h.1.0 s apart h.0 h.1.1))

  implied : (a b : Bool) → (a ≡ true → b ≡ true) → implies a b ≡ true
  implied true b h = h refl
  implied false b h = refl

  pub inherited : ((class type : ℕ) → class < length d.types → type < length d.types → is_a d.types class type ≡ true
      → has_all_of d class type ≡ true)
      → inherits d ≡ true
  inherited all =
      all_listed (λ c. list_all (λ t. implies (is_a d.types c t) (has_all_of d c t)) (types_of d)) (λ c. c) (length d.types) (λ c known.
      all_listed (λ t. implies (is_a d.types c t) (has_all_of d c t)) (λ t. t) (length d.types) (λ t there.
      implied (is_a d.types c t) (has_all_of d c t) (all c t known there)))
