use Rattle.std.proofs.Common.{◌∙◌, ◌+◌, Some, ap}
use Rattle.std.specs.BTreeMap.{get}
use Rattle.signal_core.specs.Kept.{count_at, pair_cmp}
use Rattle.signal_core.proofs.Keys.{counted, one_more}
use Rattle.signal_core.proofs.code_counts.CodeCounts.add.Goals as goal

pub returns-clause-ok : goal.returns-clause-ok
returns-clause-ok c o s =
    counted (λ o s. get pair_cmp c.args.self.now.counts (o, s)) c.args.object c.args.signal o s (Some (c.count-count.result + 1)) _ (c.in_ok-insert.ensures.updates.0 (o, s))
    ∙ one_more (count_at c.args.self.now) c.args.object c.args.signal o s (c.count-count.result + 1) (ap (λ n. n + 1) c.count-count.ensures)
