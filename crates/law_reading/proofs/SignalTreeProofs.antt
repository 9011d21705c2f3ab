-- The signals of types that were read are as they should be where a type is added, and an entry gives it signals.
use Rattle.std.proofs.Common.{◌≡◌, ◌<◌, ◌≤◌, ◌+◌, ℕ, Bool, true, false, nat_eq, arith, List, [], ◌∷◌, ◌++◌, length, None, Some, Ok, refl, sym, ap, subst, ◌∙◌, inl, inr, ◌⊎◌, append-nil, length-append}
use Rattle.std.proofs.lemmas.Bool.{cases_lt, eqb-true}
use Rattle.std.proofs.lemmas.Bool.Decides.{nat_tests}
use Rattle.serde_json.specs.Data.{Data}
use Rattle.ui_machine.specs.Definition.Signals.{Signal}
use Rattle.ui_machine.specs.Definition.Types.{GType}
use Rattle.ui_machine.specs.Output.Text.{no_type}
use Rattle.ui_machine.specs.Rules.Ancestry.{implemented}
use Rattle.ui_machine.specs.Words.{notify}
use Rattle.type_tree.proofs.Entries.{read-last}
use Rattle.type_tree.specs.Tree.{IsTree}
use Rattle.definition_format.specs.Denoted.Brought.{own_signals_ahead}
use Rattle.definition_format.specs.Denoted.Drafts.{Draft}
use Rattle.definition_format.specs.Denoted.Entries.{TypeNames}
use Rattle.definition_format.specs.Denoted.Signals.{signals_by, signals_at}
use Rattle.law_typing.specs.Verdict.Accepted.{Each}
use Rattle.law_reading.proofs.Ancestors.{AreInterfaces, Implements}
use Rattle.law_reading.proofs.BroughtProofs.{Brings}
use Rattle.law_reading.proofs.NameProofs.{AreApart, signal_name}
use Rattle.law_reading.proofs.OwnSignalProofs.{IsCanonical, AreNew, AreGiven, SignalsRead, given_signals}
use Rattle.law_reading.proofs.PropertyProofs.{OnlyAt}
use Rattle.law_reading.proofs.SourceProofs.{alone, kept_signals, brought_new, others_are, class_signals}

-- whatever signals an entry gives to a type behind these, all types' are as they should be
abbrev pub Announces : List ℕ → TypeNames → Draft → Data → List GType → Type 0
Announces path names draft d all =
    (signals : ℕ → List Signal) → signals_at path all names (length draft.types) draft.signals d ≡ Ok signals → SignalsRead all signals

module _ (types : List GType) (g : GType) (tree : IsTree types) (more : IsTree (types ++ g ∷ [])) (heirs : Implements types)
    (signals : ℕ → List Signal) (read : SignalsRead types signals) (names : TypeNames) (path : List ℕ) (d : Data) where
  one_longer : length (types ++ g ∷ []) ≡ length types + 1
  one_longer = length-append types (g ∷ [])

  -- the signals of a type that are its own, behind some and before others
  module _ (front back : List Signal)
      (has : (own : ℕ → List Signal) → OnlyAt (length types) signals own
      → signals_by (types ++ g ∷ []) own (length types) ≡ front ++ (own (length types) ++ back))
      (fine : (ahead : List (List ℕ)) → own_signals_ahead path d ≡ Ok ahead → AreNew ahead (front ++ back)
      → AreApart signal_name (front ++ back))
      (changed : ℕ → List Signal) (ahead : List (List ℕ)) (read_ahead : own_signals_ahead path d ≡ Ok ahead)
      (given : AreGiven (types ++ g ∷ []) names (length types) signals front back has ahead changed) where
    all_kept : (t : ℕ) (b : Bool) → nat_eq t (length types) ≡ b → Each IsCanonical (changed t)
    all_kept t true e = subst (λ u. Each IsCanonical (changed u)) (sym (eqb-true t (length types) e)) given.kept
    all_kept t false e = subst (Each IsCanonical) (sym (given.only t e)) (read.kept t)

    none_past : (t : ℕ) → length (types ++ g ∷ []) ≤ t → changed t ≡ []
    none_past t h =
        let long = one_longer in
        let differs : nat_eq t (length types) ≡ false = grind (arith, nat_tests) in
        given.only t differs ∙ read.past t (omega (arith, long, h))

    last_apart : AreApart signal_name (signals_by (types ++ g ∷ []) changed (length types))
    last_apart = subst (AreApart signal_name) (sym (has changed given.only)) (given.apart (fine ahead read_ahead given.new))

    all_apart : (t : ℕ) → t < length (types ++ g ∷ []) → (t < length types) ⊎ (length types ≤ t)
        → AreApart signal_name (signals_by (types ++ g ∷ []) changed t)
    all_apart t h (inl before) =
        subst (AreApart signal_name) (sym (kept_signals types g tree more heirs signals changed given.only t before)) (read.apart t before)
    all_apart t h (inr behind) =
        let long = one_longer in
        let here : length types ≡ t = omega (arith, long, h, behind) in
        subst (λ u. AreApart signal_name (signals_by (types ++ g ∷ []) changed u)) here last_apart

    all_read : SignalsRead (types ++ g ∷ []) changed
    all_read = record {
      kept = λ t. all_kept t (nat_eq t (length types)) refl;
      past = none_past;
      apart = λ t h. all_apart t h (cases_lt t (length types));
    }

  abbrev Announced : Type 0
  Announced =
      (changed : ℕ → List Signal) → signals_at path (types ++ g ∷ []) names (length types) signals d ≡ Ok changed
      → SignalsRead (types ++ g ∷ []) changed

  nothing_yet : signals (length types) ≡ []
  nothing_yet = read.past (length types) (omega arith)

  -- a type without parent that implements nothing
  pub root_announces : g.parent ≡ None → implemented g.sort g.interfaces ≡ [] → Announced
  root_announces root bare changed e =
      let given = given_signals (types ++ g ∷ []) names (length types) signals (notify ∷ []) [] has path d changed nothing_yet e in
      all_read (notify ∷ []) [] has (λ ahead read new. refl) changed given.0 given.1 given.2
    where
      has : (own : ℕ → List Signal) → OnlyAt (length types) signals own
          → signals_by (types ++ g ∷ []) own (length types) ≡ notify ∷ (own (length types) ++ [])
      has own same =
          alone (types ++ g ∷ []) more own (length types) (ap (λ (x : GType). x.parent) (read-last no_type g types) ∙ root)
          (ap (λ (x : GType). implemented x.sort x.interfaces) (read-last no_type g types) ∙ bare)
          ∙ ap (λ l. notify ∷ l) (sym (append-nil (own (length types))))

  -- a class
  pub class_announces : (parent : ℕ) → parent < length types → g.parent ≡ Some parent → (is : List ℕ) → AreInterfaces types is
      → implemented g.sort g.interfaces ≡ is
      → ((ahead : List (List ℕ)) → own_signals_ahead path d ≡ Ok ahead → Brings types signals parent ahead is) → Announced
  class_announces parent within above is all of_g brings changed e =
      let front = signals_by types signals parent in
      let back = brought_new types g tree more heirs parent within above is all of_g signals in
      let has = class_signals types g tree more heirs parent within above is all of_g signals in
      let others = others_are types g tree more heirs parent within above is all of_g signals in
      let given = given_signals (types ++ g ∷ []) names (length types) signals front back has path d changed nothing_yet e in
      all_read front back has
      (λ ahead read new. subst (AreApart signal_name) others (brings ahead read (subst (AreNew ahead) (sym others) new)))
      changed given.0 given.1 given.2
