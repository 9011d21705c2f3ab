-- The tests find each worked definition well read.
use Rattle.std.proofs.Common.{refl}
use Rattle.law_typing.specs.Laws.WorkedRead.{WorkedRead}
use Rattle.law_typing.proofs.WellReadProofs.{well_read}

pub worked_read : WorkedRead
worked_read = record {
  first_run = well_read _ refl;
  nothing_to_do = well_read _ refl;
  freezes = well_read _ refl;
  pair = well_read _ refl;
  labels = well_read _ refl;
  floating = well_read _ refl;
  last_reference = well_read _ refl;
  main_loop = well_read _ refl;
  label_chain = well_read _ refl;
  stickers = well_read _ refl;
  class_handlers = well_read _ refl;
  chain = well_read _ refl;
  knobs = well_read _ refl;
  repeated_block = well_read _ refl;
  most_passes = well_read _ refl;
  frozen_pair = well_read _ refl;
  frozen_target = well_read _ refl;
  frozen_twins = well_read _ refl;
}
