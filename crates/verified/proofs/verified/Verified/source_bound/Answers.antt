use Rattle.verified.proofs.LookUps.{never_without, source_read}
use Rattle.verified.proofs.verified.Verified.source_bound.Goals as goal

pub unreachable-requires : goal.unreachable-requires
unreachable-requires c =
    let kept = c.sources in
    never_without c.args.self.now kept.result.now kept.ensures.sources c.args.program c.requires kept.ensures.accepted c.in_default.ensures

pub returns : goal.returns
returns c =
    let kept = c.sources in
    source_read c.args.self.now kept.result.now kept.ensures.sources c.args.program c.requires c.in-Some.bound c.in-Some.ensures
