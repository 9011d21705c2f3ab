-- The properties of each class of a definition that was read.
use Rattle.std.proofs.Common.{◌≡◌, ℕ, ◌<◌, ◌≤◌, ◌^◌, int_lt, ℤ, ◌≤ℤ◌, Bool, true, false, refl, List, length, reverse, Some, slice_get, sym, ap, subst, ◌∙◌, inl, inr, ◌⊎◌, arith, lt-ltb}
use Rattle.std.specs.List.{list_all}
use Rattle.std.proofs.lemmas.Bool.{cases_lt}
use Rattle.std.proofs.lemmas.Option.{none-some}
use Rattle.std.proofs.lemmas.Int.{ints}
use Rattle.ui_machine.specs.Definition.Kinds.{Kind}
use Rattle.ui_machine.specs.Definition.Kinds as kinds
use Rattle.ui_machine.specs.Definition.Types.{GType}
use Rattle.ui_machine.specs.Rules.Transform.{least, greatest}
use Rattle.ui_machine.specs.Definition.{Definition, Class}
use Rattle.ui_machine.specs.Definition.Names.{same_name}
use Rattle.ui_machine.specs.Definition.Programs.{Program}
use Rattle.ui_machine.specs.Definition.Places.{Bind, Place}
use Rattle.ui_machine.specs.Definition.Properties.{Spec}
use Rattle.ui_machine.specs.Definition.Lookups.{spec_of}
use Rattle.ui_machine.specs.Rules.Ancestry.{lineage, is_a}
use Rattle.ui_machine.specs.Output.Text.{no_type}
use Rattle.ui_machine.specs.Seq.{read}
use Rattle.ui_machine.specs.declared.limits.Limits.{Limits}
use Rattle.definition_format.specs.Meaning.{type_with, IsPlain, IsPlainKind}
use Rattle.definition_format.specs.Denoted.Properties.{specs_by}
use Rattle.definition_format.specs.Denoted.Signals.{signals_by}
use Rattle.definition_format.specs.Denoted.Drafts.{ClassDraft, unanswered}
use Rattle.definition_format.specs.Denoted.{definition_with}
use Rattle.definition_format.proofs.Soundness.{PlainDraft, plain_flat, plain_get}
use Rattle.law_typing.specs.Laws.WellRead.{no_two, is_range, has_values, SpecRead}
use Rattle.law_typing.specs.Verdict.Inherits.{has_all_of, inherits}
use Rattle.law_typing.proofs.Lists.{each_flat}
use Rattle.law_reading.proofs.ListProofs.{all_listed, each_get}
use Rattle.law_reading.proofs.InheritProofs.{has_all, inherited}
use Rattle.law_reading.proofs.MemberProofs.{HasMembers}
use Rattle.law_reading.proofs.NameProofs.{names_of, AreNamed}
use Rattle.law_reading.proofs.PropertyProofs.{IsKept}
use Rattle.law_reading.proofs.ProvidedProofs.{has_each}
use Rattle.law_reading.proofs.TreeProofs.{GrownClasses}
use Rattle.law_reading.proofs.SignalProofs.{known, past, signals_apart, inherited_signal}

not_less : (a b : ℤ) → b ≤ℤ a → int_lt a b ≡ false
not_less a b h = by (int_lt a b) refl
  where
    by : (t : Bool) → int_lt a b ≡ t → int_lt a b ≡ false
    by true e = absurd (omega (arith, ints, h, e))
    by false e = e

range_of : (types : List GType) (k : Kind) (s : Spec) → IsPlainKind types k s → is_range k s.low s.high ≡ true
range_of types kinds.bool s p = refl
range_of types (kinds.whole k) s p =
    rw (not_less s.low (least k) p.0, not_less (greatest k) s.low p.1, not_less s.high (least k) p.2, not_less (greatest k) s.high p.3) refl
range_of types kinds.text s p = refl
range_of types (kinds.enum t) s p = refl
range_of types (kinds.flags t) s p = refl
range_of types (kinds.object t) s p = refl

-- an enum has members
values_of : (d : Definition) → ((t : ℕ) → HasMembers (read no_type d.types t)) → (k : Kind) (s : Spec) → IsPlainKind d.types k s
    → has_values d k ≡ true
values_of d members kinds.bool s p = refl
values_of d members (kinds.whole k) s p = refl
values_of d members kinds.text s p = refl
values_of d members (kinds.enum t) s p = (members t).filled p
values_of d members (kinds.flags t) s p = refl
values_of d members (kinds.object t) s p = refl

module _ (draft : ClassDraft) (programs : List Program) (places : List Place) (bindings : List Bind) (limits : Limits) (grown : GrownClasses draft) (plain : PlainDraft (unanswered draft)) where
  there : (class slot : ℕ) (s : Spec) → spec_of (definition_with draft programs places bindings limits) class slot ≡ Some s
      → slice_get (specs_by draft.types draft.own class) slot ≡ Some s
  there class slot s e = by (cases_lt class (length draft.types))
    where
      by : (class < length draft.types) ⊎ (length draft.types ≤ class) → slice_get (specs_by draft.types draft.own class) slot ≡ Some s
      by (inl h) = sym (ap (λ (c : Class). slice_get c.specs slot) (known draft programs places bindings limits class h)) ∙ e
      by (inr h) = absurd (none-some s (sym (ap (λ (c : Class). slice_get c.specs slot) (past draft programs places bindings limits class h)) ∙ e))

  kept : (class slot : ℕ) (s : Spec) → spec_of (definition_with draft programs places bindings limits) class slot ≡ Some s → IsKept s
  kept class slot s e =
      each_get IsKept (specs_by draft.types draft.own class) slot s
      (each_flat IsKept draft.own (reverse (lineage draft.types class)) (λ t h. grown.1.kept t)) (there class slot s e)

  is_plain : (class slot : ℕ) (s : Spec) → spec_of (definition_with draft programs places bindings limits) class slot ≡ Some s → IsPlain draft.types s
  is_plain class slot s e =
      plain_get draft.types (specs_by draft.types draft.own class) slot s
      (plain_flat draft.types draft.own plain.plain (reverse (lineage draft.types class))) (there class slot s e)

  pub spec_read : (class slot : ℕ) (s : Spec) → spec_of (definition_with draft programs places bindings limits) class slot ≡ Some s
      → SpecRead (definition_with draft programs places bindings limits) s
  spec_read class slot s e =
      let table = kept class slot s e in
      let declared = is_plain class slot s e in
      record {
        default = declared.default;
        construct = table.construct;
        construct_only = table.construct_only;
        range = range_of draft.types s.kind s declared.kind;
        flags = lt-ltb s.flags (2 ^ 32) table.flags;
        values = values_of (definition_with draft programs places bindings limits) grown.0.members s.kind s declared.kind;
      }

  pub names_apart : list_all (λ (c : Class). no_two same_name (names_of c.specs)) (definition_with draft programs places bindings limits).classes ≡ true
  names_apart =
      all_listed (λ (c : Class). no_two same_name (names_of c.specs))
      (λ t. type_with (specs_by draft.types draft.own t) (signals_by draft.types draft.signals t) (draft.answers.handlers t) (draft.answers.constructed t) (draft.answers.shaped t))
      (length draft.types)
      (λ t h. grown.1.named t)

  -- a class has the properties of what it is
  has_spec : (class type : ℕ) → class < length draft.types → is_a draft.types class type ≡ true → (slot : ℕ) (s : Spec)
      → spec_of (definition_with draft programs places bindings limits) type slot ≡ Some s
      → (at : ℕ) × (spec_of (definition_with draft programs places bindings limits) class at ≡ Some s)
  has_spec class type below is slot s e =
      let has = has_each draft.types grown.0.tree grown.0.heirs draft.own grown.2 class type is slot s (there type slot s e) in
      (has.0, ap (λ (c : Class). slice_get c.specs has.0) (known draft programs places bindings limits class below) ∙ has.1)

  pub specs_inherited : inherits (definition_with draft programs places bindings limits) ≡ true
  specs_inherited = inherited (definition_with draft programs places bindings limits) all
    where
      all : (class type : ℕ) → class < length draft.types → type < length draft.types → is_a draft.types class type ≡ true
          → has_all_of (definition_with draft programs places bindings limits) class type ≡ true
      all class type below there is =
          has_all (definition_with draft programs places bindings limits) class type
          (subst AreNamed (sym (ap (λ (c : Class). c.specs) (known draft programs places bindings limits class below))) (grown.1.named class))
          (λ slot s e. ((kept type slot s e).name, has_spec class type below is slot s e))
          (signals_apart draft programs places bindings limits grown.3 class below) (inherited_signal draft programs places bindings limits grown.3 grown.0 class type below is)
