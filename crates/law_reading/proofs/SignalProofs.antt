-- The signals of a definition that was read: each type has `notify`, and each signal of what it is; its own name finds each.
use Rattle.std.proofs.Common.{◌≡◌, ℕ, zero, suc, ◌+◌, ◌<◌, ◌≤◌, Bool, true, false, ◌||◌, nat_eq, List, [], ◌∷◌, ◌++◌, length, Option, None, Some, IfSome, slice_get, refl, sym, ap, subst, ◌∙◌, arith, inl, inr, ◌⊎◌}
use Rattle.std.specs.List.{list_all, list_any, flat_map, AllByRecursion}
use Rattle.std.proofs.Math.Path.{fun_ext}
use Rattle.std.proofs.lemmas.Bool.{cases_lt, eqb-true, eq-eqb}
use Rattle.std.proofs.lemmas.Option.{none-some}
use Rattle.ui_machine.specs.Definition.{Definition, Class}
use Rattle.ui_machine.specs.Definition.Types.{GType}
use Rattle.ui_machine.specs.Definition.Kinds.{Kind}
use Rattle.ui_machine.specs.Definition.Kinds as kinds
use Rattle.ui_machine.specs.Definition.Programs.{Program}
use Rattle.ui_machine.specs.Definition.Places.{Bind, Place}
use Rattle.ui_machine.specs.Definition.Signals.{Signal}
use Rattle.ui_machine.specs.Definition.Names.{place_named, canonical}
use Rattle.ui_machine.specs.Definition.Lookups.{no_class, class_of}
use Rattle.ui_machine.specs.Output.Text.{no_type}
use Rattle.ui_machine.specs.Rules.Connections.{signal_number}
use Rattle.ui_machine.specs.Rules.EmissionPlan.{signal_of, first_given}
use Rattle.ui_machine.specs.Rules.Construction.{nearest_shape}
use Rattle.ui_machine.specs.Rules.Ancestry.{lineage, is_a}
use Rattle.ui_machine.specs.Seq.{read}
use Rattle.ui_machine.specs.declared.limits.Limits.{Limits}
use Rattle.ui_machine.proofs.Listed.{read-listed, length-listed}
use Rattle.ui_machine.specs.Words.{notify}
use Rattle.signal_core.specs.Sources.{sources_of}
use Rattle.definition_format.specs.Meaning.{type_with, IsKnownKind, HasKnownKinds}
use Rattle.definition_format.specs.Denoted.Signals.{signals_by}
use Rattle.definition_format.specs.Denoted.Properties.{specs_by}
use Rattle.definition_format.specs.Denoted.Drafts.{ClassDraft}
use Rattle.definition_format.specs.Denoted.Shapes.{shape_by}
use Rattle.definition_format.specs.Denoted.{definition_with}
use Rattle.definition_format.proofs.Soundness.{AllSignals}
use Rattle.law_typing.specs.Laws.WellRead.{HasNotify, has_values, result_has_values}
use Rattle.law_reading.proofs.Ancestors.{transitive}
use Rattle.law_reading.proofs.ListProofs.{all_entries, all_listed, each_get, get_front, read_past}
use Rattle.law_reading.proofs.MemberProofs.{HasMembers}
use Rattle.law_reading.proofs.NameProofs.{AreApart, named_found, signal_name}
use Rattle.law_reading.proofs.OwnSignalProofs.{IsCanonical, SignalsRead}
use Rattle.law_reading.proofs.ProvidedProofs.{Has}
use Rattle.law_reading.proofs.SourceProofs.{sources_any}
use Rattle.law_reading.proofs.TreeProofs.{Grown}

-- ** what lists put together have

has_behind : {A : Type 0} (xs ys : List A) (x : A) → Has ys x → Has (xs ++ ys) x
has_behind [] ys x h = h
has_behind (y ∷ xs) ys x h = let rest = has_behind xs ys x h in (suc rest.0, rest.1)

in_either : {A : Type 0} (xs ys : List A) (i : ℕ) (x : A) → slice_get (xs ++ ys) i ≡ Some x → (Has xs x) ⊎ (Has ys x)
in_either [] ys i x h = inr (i, h)
in_either (y ∷ xs) ys zero x h = inl (0, h)
in_either (y ∷ xs) ys (suc i) x h = elim (in_either xs ys i x h) [ inl e ↦ inl (suc e.0, e.1) | inr e ↦ inr e ]

-- what one of some types has, all together have
has_of : {A : Type 0} (own : ℕ → List A) (ts : List ℕ) (u : ℕ) (x : A) → list_any (nat_eq u) ts ≡ true → Has (own u) x
    → Has (flat_map own ts) x
has_of own [] u x there h = absurd (cc)
has_of own (t ∷ ts) u x there h = by (nat_eq u t) refl there (λ e. has_of own ts u x e h)
  where
    by : (b : Bool) → nat_eq u t ≡ b → (b || list_any (nat_eq u) ts) ≡ true → (list_any (nat_eq u) ts ≡ true → Has (flat_map own ts) x)
        → Has (flat_map own (t ∷ ts)) x
    by true e there rest =
        let here : Has (own t) x = subst (λ v. Has (own v) x) (eqb-true u t e) h in
        (here.0, get_front (own t) (flat_map own ts) here.0 x here.1)
    by false e there rest = has_behind (own t) (flat_map own ts) x (rest there)

-- what all together have, one of them has
of_some : {A : Type 0} (own : ℕ → List A) (ts : List ℕ) (i : ℕ) (x : A) → slice_get (flat_map own ts) i ≡ Some x
    → (u : ℕ) × (list_any (nat_eq u) ts ≡ true) × Has (own u) x
of_some own [] i x h = absurd (cc)
of_some own (t ∷ ts) i x h = by (in_either (own t) (flat_map own ts) i x h) (λ j. of_some own ts j x)
  where
    by : (Has (own t) x) ⊎ (Has (flat_map own ts) x)
        → ((j : ℕ) → slice_get (flat_map own ts) j ≡ Some x → (u : ℕ) × (list_any (nat_eq u) ts ≡ true) × Has (own u) x)
        → (u : ℕ) × (list_any (nat_eq u) (t ∷ ts) ≡ true) × Has (own u) x
    by (inl e) rest = (t, ap (λ b. b || list_any (nat_eq t) ts) (eq-eqb t t refl), e)
    by (inr e) rest = let found = rest e.0 e.1 in (found.0, later (nat_eq found.0 t) found.1, found.2)
      where
        later : (b : Bool) {c : Bool} → c ≡ true → (b || c) ≡ true
        later true h = refl
        later false h = h

-- ** the signals of a type

module _ (types : List GType) (signals : ℕ → List Signal) (all : SignalsRead types signals) where
  -- a signal of a type is `notify`, or a type that it is has it
  some_source : (t number : ℕ) (s : Signal) → slice_get (signals_by types signals t) number ≡ Some s
      → (s ≡ notify) ⊎ ((u : ℕ) × (is_a types t u ≡ true) × Has (signals u) s)
  some_source t zero s e = let same : s ≡ notify = cc in inl same
  some_source t (suc number) s e =
      let found = of_some signals (sources_of types t) number s e in
      inr (found.0, sym (sources_any types t found.0) ∙ found.1, found.2)

  -- each signal is kept under a name in canonical spelling
  pub is_canonical : (t number : ℕ) (s : Signal) → slice_get (signals_by types signals t) number ≡ Some s → IsCanonical s
  is_canonical t number s e = by (some_source t number s e)
    where
      by : (s ≡ notify) ⊎ ((u : ℕ) × (is_a types t u ≡ true) × Has (signals u) s) → IsCanonical s
      by (inl same) = subst IsCanonical (sym same) refl
      by (inr found) = each_get IsCanonical (signals found.0) found.2.0 s (all.kept found.0) found.2.1

  -- a type has the signals of each type that it is
  pub has_signal : ((a b c : ℕ) → is_a types a b ≡ true → is_a types b c ≡ true → is_a types a c ≡ true)
      → (class type number : ℕ) (s : Signal) → is_a types class type ≡ true → slice_get (signals_by types signals type) number ≡ Some s → Has (signals_by types signals class) s
  has_signal over class type number s is e = by (some_source type number s e)
    where
      by : (s ≡ notify) ⊎ ((u : ℕ) × (is_a types type u ≡ true) × Has (signals u) s) → Has (signals_by types signals class) s
      by (inl same) = (0, ap Some (sym same))
      by (inr found) =
          has_behind (notify ∷ []) (flat_map signals (sources_of types class)) s
          (has_of signals (sources_of types class) found.0 s (sources_any types class found.0 ∙ over class type found.0 is found.1) found.2)

-- ** results

all_get : {A : Type 0} (P : A → Type 0) (xs : List A) (i : ℕ) (x : A) → AllByRecursion P xs → slice_get xs i ≡ Some x → P x
all_get P [] i x p h = absurd (cc)
all_get P (y ∷ ys) zero x p h = let e : y ≡ x = cc in subst P e p.0
all_get P (y ∷ ys) (suc i) x p h = all_get P ys i x p.1 h

-- an enum has members
known_filled : (d : Definition) → ((t : ℕ) → HasMembers (read no_type d.types t)) → (k : Kind) → IsKnownKind d.types k
    → has_values d k ≡ true
known_filled d members kinds.bool known = refl
known_filled d members (kinds.whole k) known = refl
known_filled d members kinds.text known = refl
known_filled d members (kinds.enum t) known = (members t).filled known
known_filled d members (kinds.flags t) known = refl
known_filled d members (kinds.object t) known = refl

result_filled : (d : Definition) → ((t : ℕ) → HasMembers (read no_type d.types t)) → (s : Signal) (result : Option Kind)
    → IfSome result (IsKnownKind d.types) → result_has_values d (record s { result = result }) ≡ true
result_filled d members s None known = refl
result_filled d members s (Some k) known = known_filled d members k known

-- ** classes

module _ (draft : ClassDraft) (programs : List Program) (places : List Place) (bindings : List Bind) (limits : Limits) where
  abbrev class : ℕ → Class
  class t = type_with (specs_by draft.types draft.own t) (signals_by draft.types draft.signals t) (draft.answers.handlers t) (draft.answers.constructed t) (draft.answers.shaped t)

  pub known : (t : ℕ) → t < length draft.types → class_of (definition_with draft programs places bindings limits) t ≡ class t
  known t h = read-listed no_class class (length draft.types) t (λ past. absurd (omega arith))

  pub past : (t : ℕ) → length draft.types ≤ t → class_of (definition_with draft programs places bindings limits) t ≡ no_class
  past t h = read_past no_class class (length draft.types) t h

  pub has_notify : (t : ℕ) → t < length draft.types → HasNotify (definition_with draft programs places bindings limits) t
  has_notify t h = record {
    signal = notify;
    is = ap (λ (c : Class). slice_get c.signals 0) (known t h);
    name = refl;
    flags = refl;
    params = refl;
    result = refl;
  }

  pub some_signal : (t number : ℕ) (s : Signal) → signal_of (definition_with draft programs places bindings limits) t number ≡ Some s → t < length draft.types
  some_signal t number s e = by (cases_lt t (length draft.types))
    where
      by : (t < length draft.types) ⊎ (length draft.types ≤ t) → t < length draft.types
      by (inl h) = h
      by (inr h) = absurd (none-some s (sym (ap (λ (c : Class). slice_get c.signals number) (past t h)) ∙ e))

  there : (t number : ℕ) (s : Signal) → signal_of (definition_with draft programs places bindings limits) t number ≡ Some s
      → slice_get (signals_by draft.types draft.signals t) number ≡ Some s
  there t number s e = sym (ap (λ (c : Class). slice_get c.signals number) (known t (some_signal t number s e))) ∙ e

  pub as_many : length (definition_with draft programs places bindings limits).classes ≡ length draft.types
  as_many = length-listed class (length draft.types)

  module _ (none : (t : ℕ) → length draft.types ≤ t → draft.answers.shaped t ≡ None) where
    own_shapes : (t : ℕ) → draft.answers.shaped t ≡ (class_of (definition_with draft programs places bindings limits) t).shape
    own_shapes t = by (cases_lt t (length draft.types))
      where
        by : (t < length draft.types) ⊎ (length draft.types ≤ t) → draft.answers.shaped t ≡ (class_of (definition_with draft programs places bindings limits) t).shape
        by (inl h) = sym (ap (λ (c : Class). c.shape) (known t h))
        by (inr h) = none t h ∙ sym (ap (λ (c : Class). c.shape) (past t h))

    -- the shape of a type is the one that reading finds
    pub shape_is : (t : ℕ) → shape_by draft.types draft.answers.shaped t ≡ nearest_shape (definition_with draft programs places bindings limits) t
    shape_is t = ap (λ (own : ℕ → Option ℕ). first_given own (lineage draft.types t)) (fun_ext own_shapes)

  module _ (all : SignalsRead draft.types draft.signals) where
    pub signals_apart : (t : ℕ) → t < length draft.types → AreApart signal_name (class_of (definition_with draft programs places bindings limits) t).signals
    signals_apart t h = subst (λ (c : Class). AreApart signal_name c.signals) (sym (known t h)) (all.apart t h)

    pub found : (t number : ℕ) (s : Signal) → signal_of (definition_with draft programs places bindings limits) t number ≡ Some s
        → signal_number (definition_with draft programs places bindings limits) t s.name ≡ Some number
    found t number s e =
        let h = some_signal t number s e in
        let same : 0 + number ≡ number = omega arith in
        ap (place_named signal_name (class_of (definition_with draft programs places bindings limits) t).signals)
        (is_canonical draft.types draft.signals all t number s (there t number s e))
        ∙ named_found signal_name 0 (class_of (definition_with draft programs places bindings limits) t).signals number s (signals_apart t h) e ∙ ap Some same

    -- a class has each signal of each type that it is
    pub inherited_signal : Grown draft.types → (class type : ℕ) → class < length draft.types → is_a draft.types class type ≡ true
        → (number : ℕ) (s : Signal) → signal_of (definition_with draft programs places bindings limits) type number ≡ Some s
        → (canonical s.name ≡ s.name) × ((at : ℕ) × (signal_of (definition_with draft programs places bindings limits) class at ≡ Some s))
    inherited_signal grown class type within is number s e =
        let over = transitive draft.types grown.tree grown.heirs in
        let has = has_signal draft.types draft.signals all over class type number s is (there type number s e) in (
          is_canonical draft.types draft.signals all type number s (there type number s e),
          (has.0, ap (λ (c : Class). slice_get c.signals has.0) (known class within) ∙ has.1),
        )

    pub results_filled : Grown draft.types → AllSignals draft.types draft.signals
        → list_all (λ (c : Class). list_all (result_has_values (definition_with draft programs places bindings limits)) c.signals)
        (definition_with draft programs places bindings limits).classes ≡ true
    results_filled grown kinds =
        all_listed (λ (c : Class). list_all (result_has_values (definition_with draft programs places bindings limits)) c.signals) class (length draft.types)
        (λ t h.
        all_entries (result_has_values (definition_with draft programs places bindings limits)) (signals_by draft.types draft.signals t) (λ number s e.
        result_filled (definition_with draft programs places bindings limits) grown.members s s.result
        (result_known s t (some_source draft.types draft.signals all t number s e))))
      where
        result_known : (s : Signal) (t : ℕ) → (s ≡ notify) ⊎ ((u : ℕ) × (is_a draft.types t u ≡ true) × Has (draft.signals u) s)
            → IfSome s.result (IsKnownKind draft.types)
        result_known s t (inl same) = subst (λ (x : Signal). IfSome x.result (IsKnownKind draft.types)) (sym same) tt
        result_known s t (inr of) = (all_get (HasKnownKinds draft.types) (draft.signals of.0) of.2.0 s (kinds of.0) of.2.1).result
