-- Declaring a signal, seen as the types' own signals.
use Rattle.std.proofs.Common.{◌≡◌, ℕ, true, false, List, None, Result, Ok, is_some, nat_le, refl, sym, ap, ◌∙◌}
use Rattle.std.proofs.Math.Path.{fun_ext}
use Rattle.serde_json.specs.Data.{Data}
use Rattle.ui_machine.specs.Outcome.{◌>>=◌}
use Rattle.ui_machine.specs.Definition.Signals.{Signal}
use Rattle.ui_machine.specs.Definition.Types.{GType}
use Rattle.type_tree.specs.PropertyName.{is_property_name}
use Rattle.signal_core.specs.Sources.{own_of, number_named, signals_of, declared_of}
use Rattle.signal_core.specs.Table.{AddsSignal, canonical_signal, declare_fault, line_count, takes_result}
use Rattle.definition_format.specs.declared.faults.ReadError.{ReadError}
use Rattle.definition_format.specs.Refusals.{Refusal, Fails}
use Rattle.definition_format.specs.Denoted.Entries.{TypeNames}
use Rattle.definition_format.specs.Denoted.Signals.{signals_by, add_signal, signal_of_entry, signal_at}
use Rattle.read_parts.proofs.Chains.{fails_first, fails_as}

pub signals_of-is : (types : List GType) (table : List (List Signal)) → signals_of types table ≡ signals_by types (own_of table)
unfolding declared_of
signals_of-is types table = refl

pub added : (old new : List (List Signal)) (t : ℕ) (s : Signal) → AddsSignal old new t (canonical_signal s)
    → add_signal (own_of old) t (canonical_signal s) ≡ own_of new
added old new t s adds = sym (fun_ext adds)

-- reading a signal beside those of a table
pub signal_at_is : (path : List ℕ) (types : List GType) (names : TypeNames) (t : ℕ) (table : List (List Signal)) (d : Data)
    → signal_at path types names t (own_of table) d
    ≡ (signal_of_entry path types names t (line_count types table t) (signals_of types table t) d >>= λ s. Ok (add_signal (own_of table) t (canonical_signal s)))
unfolding signal_at declared_of
signal_at_is path types names t table d = refl

module _ (path : List ℕ) (types : List GType) (names : TypeNames) (t : ℕ) (table : List (List Signal)) (d : Data) where
  next : Signal → Result (ℕ → List Signal) Refusal
  next s = Ok (add_signal (own_of table) t (canonical_signal s))

  pub signal_fails : (e : ReadError) → Fails e (signal_of_entry path types names t (line_count types table t) (signals_of types table t) d) → Fails e (signal_at path types names t (own_of table) d)
  unfolding next
  signal_fails e h = fails_as e _ _ (signal_at_is path types names t table d) (fails_first e (signal_of_entry path types names t (line_count types table t) (signals_of types table t) d) next h)

  pub signal_with : (s : Signal) → signal_of_entry path types names t (line_count types table t) (signals_of types table t) d ≡ Ok s
      → signal_at path types names t (own_of table) d ≡ Ok (add_signal (own_of table) t (canonical_signal s))
  unfolding next
  signal_with s h = signal_at_is path types names t table d ∙ ap (λ r. r >>= next) h
