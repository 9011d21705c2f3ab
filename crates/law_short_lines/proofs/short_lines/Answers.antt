use Rattle.law_short_lines.proofs.ByteProofs.{dispatch_bytes_are_bounded, runs_say_short_lines}
use Rattle.law_short_lines.proofs.PeerParts.{ready_pools_are_short}
use Rattle.law_short_lines.proofs.RunProofs.{builds_are_all_short, dispatches_are_all_short, requests_are_all_short, runs_are_all_short, sources_are_all_short}
use Rattle.law_short_lines.proofs.StepProofs.{all_short_is_parts, steps_keep_all_short}
use Rattle.law_short_lines.proofs.short_lines.Goals as goal

pub returns : goal.returns
returns c = record {
  parts = all_short_is_parts;
  steps = steps_keep_all_short;
  pools = ready_pools_are_short;
  builds = builds_are_all_short;
  requests = requests_are_all_short;
  sources = sources_are_all_short;
  dispatches = dispatches_are_all_short;
  runs = runs_are_all_short;
  lines = runs_say_short_lines;
  bytes = dispatch_bytes_are_bounded;
}
