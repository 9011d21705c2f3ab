-- Bytes name peers plainly: by names that have a byte and no point.
use Rattle.std.specs.Prelude.{◌≡◌, true}
use Rattle.std.specs.List.{flat_map, list_all}
use Rattle.ui_machine.specs.Definition.Places.{Place}
use Rattle.law_peers.specs.NamesApart.{is_plain}
use Rattle.law_reading.specs.Reading.{OfEachRead}

-- Each definition that bytes denote names its peers plainly.
abbrev pub NamesPeersPlainly : Type 0
NamesPeersPlainly = OfEachRead (λ d. list_all is_plain (flat_map (λ (p : Place). p.peers) d.places) ≡ true)
