-- How many bytes a dispatch says at most.
use Rattle.law_steps.specs.Served.Sessions.{beginning_of}
use Rattle.law_line_lengths.proofs.DispatchProofs.{all_say, dispatch_bytes_are_within}
use Rattle.law_short_lines.specs.ShortLines.{DispatchBytesAreBounded, RunsSayShortLines}
use Rattle.law_short_lines.proofs.PeerParts.{ready_pools_are_short}
use Rattle.law_short_lines.proofs.RunProofs.{dispatches_are_all_short}
use Rattle.law_short_lines.proofs.StepProofs.{all_short_is_parts}

pub runs_say_short_lines : RunsSayShortLines
runs_say_short_lines d texts details peers pool events short x replies fit n at s =
    all_say d texts n replies fit (beginning_of x) at
    (λ m more fits e steps. all_short_is_parts d e (dispatches_are_all_short d texts details peers pool events short x more fits e (record { count = m; steps = steps }))) s

pub dispatch_bytes_are_bounded : DispatchBytesAreBounded
dispatch_bytes_are_bounded d well a texts details peers ready events read short x replies fit n at s =
    dispatch_bytes_are_within d well a peers ready events read x replies fit n at s texts
    (λ more fits e r. all_short_is_parts d e (dispatches_are_all_short d texts details peers (ready_pools_are_short d peers ready) events short x more fits e r))
