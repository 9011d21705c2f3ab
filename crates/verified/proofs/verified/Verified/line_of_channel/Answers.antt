use Rattle.std.proofs.Common.{◌≡◌, String, string_bytes}
use Rattle.std.specs.Global.{Global}
use Rattle.std.proofs.lemmas.Result.{IfOk-weaker}
use Rattle.law_typing.specs.Graph.Channels.{channels}
use Rattle.law_typing.specs.Laws.{IsIn}
use Rattle.law_typing.specs.Verdict.Accepted.{Accepted}
use Rattle.verify_graph.specs.ChannelView.{channel_of}
use Rattle.verified.specs.Lines.{line_in, line_of_channel}
use Rattle.verified.proofs.ReportLines.{channel_line_is}
use Rattle.verified.proofs.verified.Verified.line_of_channel.Goals as goal

pub returns : goal.returns
returns c =
    let d = c.args.self.now in
    let e = c.definition.result.now in
    let channel = channel_of c.args.channel.now in
    let rank = c.rank_of-rank.result in
    let bound = c.bound_of-bound.result in
    IfOk-weaker c.channel_line.result (λ (line : String Global). string_bytes line ≡ line_of_channel e channel rank bound)
    (λ (line : String Global). IsIn channel (channels d) → (a : Accepted d) → string_bytes line ≡ line_in d a channel)
    (λ line is there. channel_line_is d e channel rank bound (string_bytes line) c.definition.ensures.same (c.rank_of-rank.ensures there) (c.bound_of-bound.ensures there) is)
    c.channel_line.ensures
