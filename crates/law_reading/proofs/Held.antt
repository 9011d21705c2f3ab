-- What is so of each definition that bytes denote is so of each that the code holds.
use Rattle.ui_machine.specs.Definition.{Definition}
use Rattle.law_reading.specs.Reading.{HeldIsWell, OfEachHeld, OfEachRead}
use Rattle.law_reading.proofs.Whole.{well_read}

pub on_held : (P : Definition → Type 0) → OfEachRead P → OfEachHeld P
on_held P each d from = each from.bytes d from.is

-- each `Definition` is well read: `Definition::types` says of each that some bytes denote it
pub held_well : HeldIsWell
held_well d from = well_read from.bytes d from.is
