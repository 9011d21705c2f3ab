-- The specs, the signals and the name of a class of a definition, and the programs that it names.
use Rattle.std.proofs.Common.{◌≡◌, ℕ, zero, suc, ◌<◌, ◌≤◌, true, Option, List, [], ◌∷◌, length, map, Some, None, option_map, slice_get, refl, sym, ap, subst, ◌∙◌, arith, inl, inr}
use Rattle.std.specs.List.{AllByRecursion}
use Rattle.std.proofs.Math.Path.{fun_ext}
use Rattle.std.proofs.lemmas.Bool.{cases_lt}
use Rattle.std.proofs.lemmas.List.{length-map}
use Rattle.ui_machine.specs.Seq.{read, listed}
use Rattle.ui_machine.specs.Definition.Types.{GType}
use Rattle.ui_machine.specs.Output.Text.{no_type}
use Rattle.ui_machine.specs.Definition.{Class, Definition}
use Rattle.ui_machine.specs.Definition.Places.{Place}
use Rattle.ui_machine.specs.Definition.Programs.{Program}
use Rattle.ui_machine.specs.Definition.Lookups as lookups
use Rattle.ui_machine.specs.Definition.Properties.{Spec}
use Rattle.ui_machine.specs.Definition.Signals.{ClassHandler, Signal}
use Rattle.ui_machine.specs.Rules.Ancestry.{lineage}
use Rattle.ui_machine.specs.Rules.Construction.{nearest_shape}
use Rattle.ui_machine.specs.Rules.EmissionPlan.{first_given, handler_in, signal_of}
use Rattle.bytecode.specs.Shape.{shape_fault}
use Rattle.param_specs.specs.Table.{specs_of}
use Rattle.signal_core.specs.Laws.{walk_for}
use Rattle.signal_core.specs.Sources.{signals_of}
use Rattle.signal_core.specs.Table.{named_of, planned_for}
use Rattle.definition_format.specs.Meaning.{Parts, class_in, plain_program, meaning, IsPlain, HasKnownKinds, IsSound, IsSoundProgram, IsBasic, planned}
use Rattle.definition_format.specs.Denoted.Shapes.{shape_by}
use Rattle.ui_machine.proofs.Listed.{read-listed}
use Rattle.definition_format.proofs.AllPlaces.{objects_first, each_place}
use Rattle.definition_format.proofs.Registers.{few_registers}

read-past : {A : Type 0} (d : A) (f : ℕ → A) (n i : ℕ) → n ≤ i → read d (listed f n) i ≡ d
read-past d f zero i h = refl
read-past d f (suc n) zero h = absurd (omega arith)
read-past d f (suc n) (suc i) h = read-past d (λ j. f (suc j)) n i (omega arith)

module _ (p : Parts) where
  module _ (class : ℕ) where
    class_there : class < length p.types → lookups.class_of (meaning p) class ≡ class_in p class
    class_there known = read-listed lookups.no_class (class_in p) (length p.types) class (λ past. absurd (omega arith))

    class_past : length p.types ≤ class → lookups.class_of (meaning p) class ≡ lookups.no_class
    class_past past = read-past lookups.no_class (class_in p) (length p.types) class past

    pub known_specs : class < length p.types → lookups.specs_of (meaning p) class ≡ specs_of p.types p.specs class
    known_specs known = ap (λ (c : Class). c.specs) (class_there known)

    pub unknown_specs : length p.types ≤ class → lookups.specs_of (meaning p) class ≡ []
    unknown_specs past = ap (λ (c : Class). c.specs) (class_past past)

    pub known_signals : class < length p.types → (lookups.class_of (meaning p) class).signals ≡ signals_of p.types p.declared.signals class
    known_signals known = ap (λ (c : Class). c.signals) (class_there known)

    pub unknown_signals : length p.types ≤ class → (lookups.class_of (meaning p) class).signals ≡ []
    unknown_signals past = ap (λ (c : Class). c.signals) (class_past past)

    pub known_constructed : class < length p.types → read None p.constructed class ≡ (lookups.class_of (meaning p) class).constructed
    known_constructed known = sym (ap (λ (c : Class). c.constructed) (class_there known))

    pub unknown_constructed : length p.types ≤ class → None ≡ (lookups.class_of (meaning p) class).constructed
    unknown_constructed past = sym (ap (λ (c : Class). c.constructed) (class_past past))

    -- a signal by its number, where the definition is this one
    pub signal_known : (d : Definition) → meaning p ≡ d → class < length p.types → (number : ℕ) → slice_get (signals_of p.types p.declared.signals class) number ≡ signal_of d class number
    signal_known d is known number = ap (λ (xs : List Signal). slice_get xs number) (sym (known_signals known)) ∙ ap (λ (e : Definition). signal_of e class number) is

    pub signal_unknown : (d : Definition) → meaning p ≡ d → length p.types ≤ class → (number : ℕ) → None ≡ signal_of d class number
    signal_unknown d is past number = ap (λ (xs : List Signal). slice_get xs number) (sym (unknown_signals past)) ∙ ap (λ (e : Definition). signal_of e class number) is

  module _ (sound : IsSound p) where
    -- the programs that a class names itself for signals
    handlers_are : (class : ℕ) → named_of p.declared.handlers class ≡ (lookups.class_of (meaning p) class).handlers
    handlers_are class = elim (cases_lt class (length p.types)) [
      | inl known ↦ sym (ap (λ (c : Class). c.handlers) (class_there class known))
      | inr past ↦ sound.handlers class past ∙ sym (ap (λ (c : Class). c.handlers) (class_past class past))
    ]

    -- the shapes that classes name themselves
    shapes_are : (class : ℕ) → read None p.shaped class ≡ (lookups.class_of (meaning p) class).shape
    shapes_are class = elim (cases_lt class (length p.types)) [
      | inl known ↦ sym (ap (λ (c : Class). c.shape) (class_there class known))
      | inr past ↦ sound.shaped class past ∙ sym (ap (λ (c : Class). c.shape) (class_past class past))
    ]

    -- and those that they have
    pub nearest_is : (class : ℕ) → shape_by p.types (read None p.shaped) class ≡ nearest_shape (meaning p) class
    nearest_is class = ap (λ (own : ℕ → Option ℕ). first_given own (lineage p.types class)) (fun_ext shapes_are)

    module _ (class object number : ℕ) (detail : Option (List ℕ)) (greatest : ℕ) (d : Definition) (is : meaning p ≡ d) where
      -- an emission of a signal of a class begins with the program that the class or its nearest ancestor names
      pub begins : class < length p.types
          → option_map (λ (s : Signal). walk_for greatest s.accumulator (planned_for p.types p.declared.handlers class object number detail s)) (slice_get (signals_of p.types p.declared.signals class) number)
          ≡ option_map (λ (s : Signal). walk_for greatest s.accumulator (planned d class object number detail s)) (signal_of d class number)
      begins known =
          ap (λ (handlers : ℕ → List ClassHandler). option_map (λ (s : Signal). walk_for greatest s.accumulator (record { object = object; signal = number; detail = detail; flags = s.flags; class_program = first_given (λ c. handler_in (handlers c) s.name) (lineage p.types class); transfers = [] })) (slice_get (signals_of p.types p.declared.signals class) number)) (fun_ext handlers_are)
          ∙ ap (λ (signals : List Signal). option_map (λ (s : Signal). walk_for greatest s.accumulator (planned (meaning p) class object number detail s)) (slice_get signals number)) (sym (known_signals class known))
          ∙ ap (λ (e : Definition). option_map (λ (s : Signal). walk_for greatest s.accumulator (planned e class object number detail s)) (signal_of e class number)) is

      pub begins_nothing : length p.types ≤ class
          → None ≡ option_map (λ (s : Signal). walk_for greatest s.accumulator (planned d class object number detail s)) (signal_of d class number)
      begins_nothing past = ap (option_map (λ (s : Signal). walk_for greatest s.accumulator (planned d class object number detail s))) (signal_unknown class d is past number)

-- past the end there is nothing
got-past : {A : Type 0} (xs : List A) (i : ℕ) → length xs ≤ i → slice_get xs i ≡ None
got-past [] i h = refl
got-past (x ∷ xs) zero h = absurd (omega arith)
got-past (x ∷ xs) (suc i) h = got-past xs i (omega arith)

pub type_past : (types : List GType) (class : ℕ) → length types ≤ class → read no_type types class ≡ no_type
type_past [] i h = refl
type_past (x ∷ xs) zero h = absurd (omega arith)
type_past (x ∷ xs) (suc i) h = type_past xs i (omega arith)

-- ** a definition is basic

each_seen : {A B : Type 0} (P : B → Type 0) (view : A → B) (Q : A → Type 0) → ((x : A) → Q x → P (view x)) → (xs : List A) → AllByRecursion Q xs
    → (i : ℕ) (y : B) → slice_get (map view xs) i ≡ Some y → P y
each_seen P view Q all [] each i y h = cc
each_seen P view Q all (x ∷ xs) each zero y h = let e : view x ≡ y = cc in subst P e (all x each.0)
each_seen P view Q all (x ∷ xs) each (suc i) y h = each_seen P view Q all xs each.1 i y h

module _ (p : Parts) (sound : IsSound p) where
  plain_spec : (t slot : ℕ) (s : Spec) → lookups.spec_of (meaning p) t slot ≡ Some s → IsPlain p.types s
  plain_spec t slot s h = elim (cases_lt t (length p.types)) [
    | inl known ↦ sound.plain.at t slot s (ap (λ (xs : List Spec). slice_get xs slot) (sym (known_specs p t known)) ∙ h)
    | inr past ↦ let e : slice_get (lookups.specs_of (meaning p) t) slot ≡ None = ap (λ (xs : List Spec). slice_get xs slot) (unknown_specs p t past) in absurd (cc)
  ]

  known_kinds : (t number : ℕ) (s : Signal) → signal_of (meaning p) t number ≡ Some s → HasKnownKinds p.types s
  known_kinds t number s h = elim (cases_lt t (length p.types)) [
    | inl known ↦ sound.kinds.at t number s (ap (λ (xs : List Signal). slice_get xs number) (sym (known_signals p t known)) ∙ h)
    | inr past ↦ let e : signal_of (meaning p) t number ≡ None = ap (λ (xs : List Signal). slice_get xs number) (unknown_signals p t past) in absurd (cc)
  ]

  well_shaped : (number : ℕ) (q : Program) → lookups.program_at (meaning p) number ≡ Some q → shape_fault q ≡ None
  well_shaped = each_seen (λ (q : Program). shape_fault q ≡ None) plain_program (IsSoundProgram p.types) (λ e fine. fine.shaped) p.programs sound.programs

  pub basic : IsBasic (meaning p)
  basic = record {
    plain = plain_spec;
    prototypes = objects_first p.prototypes p.objects;
    no_parents = each_place p.prototypes (λ (place : Place). place.is_prototype ≡ true → place.parent ≡ None) (λ o h. absurd (cc)) (λ q h. refl) p.objects;
    silent = each_place p.prototypes (λ (place : Place). place.is_prototype ≡ true → place.signals ≡ []) (λ o h. absurd (cc)) (λ q h. refl) p.objects;
    few_programs = omega (arith, sound.few_programs, length-map p.programs plain_program);
    shaped = well_shaped;
    few_registers = λ number q h. few_registers q (well_shaped number q h);
    first_signal = λ t known. ap (λ (xs : List Signal). slice_get xs 0) (known_signals p t known);
    signal_kinds = known_kinds;
    unknown_signals = unknown_signals p;
    unknown_specs = unknown_specs p;
  }
