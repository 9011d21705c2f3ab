use Rattle.std.proofs.Common.{inl, subst}
use Rattle.event_lines.specs.CheckView.{IsJudged}
use Rattle.c_sessions.proofs.Limits.{refused_within}
use Rattle.c_sessions.proofs.starts.start_within.Goals as goal

pub returns-in-Refused : goal.returns-in-Refused
returns-in-Refused c =
    let judged = subst (IsJudged c.args.definition.now) c.in-Refused.is c.judge.ensures in
    (inl judged, refused_within c.args.definition.now c.args.most _ judged)

pub returns-in-Accepted : goal.returns-in-Accepted
returns-in-Accepted c = c.begin_within.ensures c.args.definition.now (subst (IsJudged c.args.definition.now) c.in-Accepted.is c.judge.ensures)
