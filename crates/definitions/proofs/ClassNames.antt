-- The names of the signals of a definition's classes.
use Rattle.std.proofs.Common.{◌≡◌, ◌≤◌, ◌<◌, ◌∙◌, ◌∷◌, [], ℕ, zero, suc, Bool, true, false, cond, nat_lt, List, length, Option, None, slice_get, refl, sym, ap, arith}
use Rattle.std.proofs.lemmas.List.{length-map}
use Rattle.std.proofs.lemmas.Option.{none-some}
use Rattle.std.proofs.lemmas.Bool.Decides.{nat_tests}
use Rattle.ui_machine.specs.Definition.Names.{canonical, place_named}
use Rattle.ui_machine.specs.Definition.Signals.{Signal}
use Rattle.ui_machine.specs.Definition.Types.{GType}
use Rattle.ui_machine.specs.Rules.Connections.{signal_number}
use Rattle.ui_machine.specs.Seq.{read}
use Rattle.definition_format.specs.Meaning.{Parts, meaning}
use Rattle.definition_format.proofs.Tables.{known_signals, unknown_signals}
use Rattle.name_tables.specs.Names.{Named, number_of}
use Rattle.signal_core.specs.SignalRows.{HasSignals, signal_at}
use Rattle.signal_core.specs.Sources.{signals_of}
use Rattle.signal_core.specs.declared.signal_rows.SignalPlace.{SignalPlace}
use Rattle.name_tables.specs.Steps.{HasUpTo}
use Rattle.definitions.specs.ClassNames.{AreSignals, signal_called}

-- what the types have is what the classes of the definition have
pub signals_named : (p : Parts) (names : List Named) → HasUpTo (signal_called p.types p.declared.signals) (length p.types) (number_of names) → AreSignals (meaning p) names
signals_named p names has class name = has class (canonical name) ∙ by (nat_lt class (length p.types)) refl
  where
    among : List Signal → Option ℕ
    among signals = place_named (λ (s : Signal). s.name) signals (canonical name)

    by : (b : Bool) → nat_lt class (length p.types) ≡ b
        → cond b (signal_called p.types p.declared.signals class (canonical name)) None ≡ signal_number (meaning p) class name
    by true e = let known : class < length p.types = grind (arith, nat_tests) in ap among (sym (known_signals p class known))
    by false e = let past : length p.types ≤ class = grind (arith, nat_tests) in ap among (sym (unknown_signals p class past))

-- ** how many there are

-- where nothing is there, the list has ended
pub past_last : {A : Type 0} (xs : List A) (i : ℕ) → slice_get xs i ≡ None → length xs ≤ i
past_last [] i none = omega arith
past_last (x ∷ xs) zero none = absurd (none-some x (sym none))
past_last (x ∷ xs) (suc i) none = let rest = past_last xs i none in omega (arith, rest)

-- a type has no more signals than its row has places, and `notify`
pub few_signals : (types : List GType) (own : List (List Signal)) (rows : List (List SignalPlace)) → HasSignals types own rows → (class : ℕ) → class < length types
    → length (read [] rows class) ≤ 16384 → length (signals_of types own class) ≤ 16385
few_signals types own rows has class known few =
    let placed = ap length (has.each class (omega (arith, known, has.all))).1 in
    omega (arith, few, placed, length-map (read [] rows class) (signal_at own))
