-- What the code keeps of a class while its interfaces are read.
use Rattle.std.specs.Prelude.{ℕ, List, Option, option_map, map, String, string_bytes}
use Rattle.std.specs.Global.{Global}
use Rattle.param_specs.specs.declared.spec.Spec.{Spec}
use Rattle.param_specs.specs.View.{spec_view}
use Rattle.read_types.specs.declared.overrides.Override.{Override}
use Rattle.read_types.specs.declared.overrides.Override.TheVariants as ways
use Rattle.param_specs.specs.Table.{own_of}
use Rattle.signal_core.specs.Sources as signals
use Rattle.read_types.specs.declared.overrides.Heir.{Heir}
use Rattle.definition_format.specs.Denoted.Implements as pure_heir
use Rattle.definition_format.specs.Denoted.Overrides.{Own, fine, missing, different}
use Rattle.definition_format.specs.Denoted.Overrides as pure

-- a property by its name, or nothing where its entry is at fault
abbrev pub Entry : Type 0
Entry = String Global × Option Spec

abbrev pub own_view : Entry → Own
own_view entry = record { name = string_bytes entry.0; spec = option_map spec_view entry.1 }

abbrev pub override_view : Override → pure.Override
override_view ways.Fine = fine
override_view ways.Missing = missing
override_view ways.Different = different

-- the names that are kept
abbrev pub names_of : List (String Global) → List (List ℕ)
names_of keys = map (λ (k : String Global). string_bytes k) keys

abbrev pub heir_of : Heir → pure_heir.Heir
heir_of heir = record {
  types = heir.types.now;
  table = own_of heir.specs.now;
  signals = signals.own_of heir.signals.now.signals;
  parent = heir.parent;
  named = heir.named.now;
  own = map own_view heir.own.now.entries;
  own_signals = names_of heir.own_signals.now.keys;
}
