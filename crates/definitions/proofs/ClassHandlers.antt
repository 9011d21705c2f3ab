-- The programs that the classes of a definition name for signals.
use Rattle.std.proofs.Common.{◌≡◌, ℕ, zero, suc, ◌<◌, ◌≤◌, List, [], length, refl, sym, ap, ◌∙◌, arith, inl, inr}
use Rattle.std.proofs.Math.Path.{fun_ext}
use Rattle.std.proofs.lemmas.Bool.{cases_lt}
use Rattle.ui_machine.specs.Seq.{read, listed}
use Rattle.ui_machine.specs.Definition.{Class, Definition}
use Rattle.ui_machine.specs.Definition.Lookups.{class_of, no_class}
use Rattle.ui_machine.specs.Definition.Signals.{ClassHandler, Signal}
use Rattle.ui_machine.specs.Definition.Types.{GType}
use Rattle.ui_machine.specs.Rules.Ancestry.{lineage}
use Rattle.ui_machine.specs.Rules.EmissionPlan.{class_handler_of, first_given, handler_in}
use Rattle.ui_machine.proofs.Listed.{read-listed, length-listed}
use Rattle.signal_core.specs.Sources.{signals_of}
use Rattle.signal_core.specs.Table.{class_handler_named, named_of}
use Rattle.definition_format.specs.Meaning.{IsSound, Parts, class_in, meaning}
use Rattle.definition_format.proofs.Tables.{known_signals, unknown_signals}

read_past : {A : Type 0} (d : A) (f : ℕ → A) (n i : ℕ) → n ≤ i → read d (listed f n) i ≡ d
read_past d f zero i h = refl
read_past d f (suc n) zero h = absurd (omega arith)
read_past d f (suc n) (suc i) h = read_past d (λ j. f (suc j)) n i (omega arith)

module _ (p : Parts) (d : Definition) (is : meaning p ≡ d) where
  pub known_handlers : (class : ℕ) → class < length p.types → named_of p.declared.handlers class ≡ (class_of d class).handlers
  known_handlers class known =
      sym (ap (λ (c : Class). c.handlers) (read-listed no_class (class_in p) (length p.types) class (λ past. absurd (omega arith))))
      ∙ ap (λ (e : Definition). (class_of e class).handlers) is

  pub unknown_handlers : (class : ℕ) → length p.types ≤ class → [] ≡ (class_of d class).handlers
  unknown_handlers class past =
      sym (ap (λ (c : Class). c.handlers) (read_past no_class (class_in p) (length p.types) class past))
      ∙ ap (λ (e : Definition). (class_of e class).handlers) is

  pub class_count : length p.types ≡ length d.classes
  class_count = sym (length-listed (class_in p) (length p.types)) ∙ ap (λ (e : Definition). length e.classes) is

-- the program that a class or its nearest ancestor names for a signal
module _ (p : Parts) (sound : IsSound p) (d : Definition) (is : meaning p ≡ d) where
  handlers_are : (class : ℕ) → named_of p.declared.handlers class ≡ (class_of d class).handlers
  handlers_are class = elim (cases_lt class (length p.types)) [
    | inl known ↦ known_handlers p d is class known
    | inr past ↦ sound.handlers class past ∙ unknown_handlers p d is class past
  ]

  pub handler_is : (class : ℕ) (name : List ℕ) → class_handler_named p.types p.declared.handlers class name ≡ class_handler_of d class name
  handler_is class name =
      ap (λ (types : List GType). class_handler_named types p.declared.handlers class name) (ap (λ (e : Definition). e.types) is)
      ∙ ap (λ (handlers : ℕ → List ClassHandler). first_given (λ c. handler_in (handlers c) name) (lineage d.types class)) (fun_ext handlers_are)

-- how many signals a class has
module _ (p : Parts) (d : Definition) (is : meaning p ≡ d) where
  pub known_count : (class : ℕ) → class < length p.types → length (signals_of p.types p.declared.signals class) ≡ length (class_of d class).signals
  known_count class known =
      ap (λ (ss : List Signal). length ss) (sym (known_signals p class known)) ∙ ap (λ (e : Definition). length (class_of e class).signals) is

  pub unknown_count : (class : ℕ) → length p.types ≤ class → 0 ≡ length (class_of d class).signals
  unknown_count class past =
      ap (λ (ss : List Signal). length ss) (sym (unknown_signals p class past)) ∙ ap (λ (e : Definition). length (class_of e class).signals) is
