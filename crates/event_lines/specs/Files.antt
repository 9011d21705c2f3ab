-- What a fault says of the device that a definition came from.
use Rattle.std.specs.Prelude.{◌≡◌, Bool, true, false}
use Rattle.event_lines.specs.declared.definition_file.FileFault.{FileFault}
use Rattle.event_lines.specs.declared.definition_file.FileFault.TheVariants as faults

-- whether the device has failed by then
abbrev pub Marks : Bool → FileFault → Type 0
Marks failed faults.OutOfMemory = failed ≡ false
Marks failed faults.Unreadable = failed ≡ true
