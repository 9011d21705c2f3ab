-- What a definition is made of, as specs see it, and what it may be made of.
use Rattle.std.specs.Prelude.{List}
use Rattle.definition_format.specs.Meaning as pure
use Rattle.definition_format.specs.Origin.{IsDenoted}
use Rattle.name_tables.specs.Names.{Named}
use Rattle.param_specs.specs.SlotRows.{HasSlots}
use Rattle.param_specs.specs.declared.slots.SlotPlace.{SlotPlace}
use Rattle.signal_core.specs.SignalRows.{HasSignals}
use Rattle.signal_core.specs.declared.signal_rows.SignalPlace.{SignalPlace}
use Rattle.definitions.specs.ClassNames.{AreHandlerNames, AreSignals}
use Rattle.definitions.specs.declared.parts.Parts.{Parts}

abbrev pub parts_of : Parts → pure.Parts
parts_of p = pure.parts p.types p.specs p.signals p.constructed.items p.shapes.entries p.shaped.items p.programs.entries p.prototypes.entries p.objects.entries p.bindings.items p.limits

-- parts that are sound, and some bytes denote the definition of them
pub record AreRead (p : pure.Parts) : Type 0 where
  pub sound : pure.IsSound p
  pub denoted : IsDenoted (pure.meaning p)

-- parts as a definition keeps them, with where the slots and the signals of its classes are, and by name the numbers of signals and the programs
-- that its classes run for them
pub record AreKept (p : pure.Parts) (slots : List (List SlotPlace)) (rows : List (List SignalPlace)) (names handlers : List Named) : Type 0 where
  pub sound : pure.IsSound p
  pub denoted : IsDenoted (pure.meaning p)
  pub placed : HasSlots p.types p.specs slots
  pub signals : HasSignals p.types p.declared.signals rows
  pub named : AreSignals (pure.meaning p) names
  pub handled : AreHandlerNames p.types p.declared.handlers handlers
