use Rattle.std.proofs.Common.{◌≡◌, ◌≤◌, ◌*◌, length, drop}
use Rattle.verify_channels.specs.ConnectedCode.{programs_connections}
use Rattle.verify_channels.proofs.ConnectedCodes.{SoFar}
use Rattle.verify_channels.proofs.connections.connections.Given as goal

abbrev pub invariant-loop-number : goal.invariant-loop-number
invariant-loop-number l = record {
  places : length l.connects.at.items ≡ length l.lookups.places;
  few : length l.connects.groups.items ≤ 512 * l.number;
  within : l.number ≤ 256;
  so_far :
      SoFar l.lookups l.initial.connects l.connects (programs_connections l.lookups (drop l.number l.lookups.programs)) (programs_connections l.lookups l.lookups.programs);
}
