use Rattle.std.proofs.Common.{◌+◌, ◌*◌, ◌≤◌, length, map, take}
use Rattle.verify_sketches.specs.View.{block_view as sketched_view}
use Rattle.verify_starts.specs.SketchedCode.{ArePrograms}
use Rattle.verify_starts.specs.Tables.{IsTable, starts_in}
use Rattle.verify_starts.proofs.programs.all_programs.Given as goal

abbrev pub invariant-loop-number : goal.invariant-loop-number
invariant-loop-number l = record {
  table : IsTable l.lookups l.numbers l.starts;
  few : length l.starts.starts.items ≤ 1 + 512 * l.number;
  within : l.number ≤ 256;
  programs : ArePrograms l.lookups l.numbers (starts_in l.starts) (map (λ v. map sketched_view v.items) l.programs.items) (take l.number l.lookups.programs);
}
