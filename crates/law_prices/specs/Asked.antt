-- What a dispatch is asked for.
use Rattle.std.specs.Prelude.{ℕ}
use Rattle.ui_machine.specs.State.Tasks.{Request}
use Rattle.ui_machine.specs.State.Tasks as config

-- the build, a request to the object of a place, or the run of a source's program
pub data Asked : Type 0 where
  build : Asked
  set : (place slot : ℕ) → Asked
  get : (place slot : ℕ) → Asked
  emit : (place signal : ℕ) → Asked
  release : (place : ℕ) → Asked
  source : (program : ℕ) → Asked

-- what a request asks for
abbrev pub asked_by : Request → Asked
asked_by (config.set place slot given) = set place slot
asked_by (config.get place slot) = get place slot
asked_by (config.emit place signal args detail) = emit place signal
asked_by (config.release place) = release place
