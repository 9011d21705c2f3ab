-- Whom a session may ask that begins without peers.
use Rattle.native_peers.specs.Seen.{Relations}
use Rattle.native_peers.specs.StandIns.{Faults}

-- whatever was asked would answer no value; there is nobody to ask
abbrev pub nobody : Relations
nobody number = Faults
