use Rattle.definitions.specs.PartsView.{parts_of}
use Rattle.definitions.proofs.ClassNames.{signals_named}
use Rattle.definitions.proofs.definition.Definition.new.Goals as goal

pub invariant_of-result : goal.invariant_of-result
invariant_of-result c = record {
  sound = c.requires.sound;
  denoted = c.requires.denoted;
  placed = c.in_ok-slots.ensures;
  signals = c.in_ok-rows.ensures;
  named = signals_named (parts_of c.args.parts) _ c.in_ok-signal_names.ensures;
  handled = c.in_ok-handler_names.ensures;
}
