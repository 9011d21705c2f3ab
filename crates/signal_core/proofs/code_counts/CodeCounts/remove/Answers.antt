use Rattle.std.proofs.Common.{◌∙◌, ◌-◌, Some, None, is_some, ap, sym, arith}
use Rattle.std.specs.BTreeMap.{get}
use Rattle.std.specs.Option.{option_copied_mut, unwrap_or}
use Rattle.signal_core.specs.Kept.{count_at, pair_cmp}
use Rattle.signal_core.proofs.Keys.{counted, one_less}
use Rattle.signal_core.proofs.code_counts.CodeCounts.remove.Goals as goal

pub returns-then-count-le1 : goal.returns-then-count-le1
returns-then-count-le1 c o s =
    counted (λ o s. get pair_cmp c.args.self.now.counts (o, s)) c.args.object c.args.signal o s None _ (c.remove.ensures.updates.0 (o, s))
    ∙ one_less (count_at c.args.self.now) c.args.object c.args.signal o s 0 (omega (arith, c.count.ensures, c.if-count-le1.true))

pub returns-in-Some : goal.returns-in-Some
returns-in-Some c o s =
    let here = sym c.get_mut.ensures.value ∙ ap option_copied_mut c.in-Some.is in
    let count = ap (λ x. unwrap_or x 0) here in
    counted (λ o s. get pair_cmp c.args.self.now.counts (o, s)) c.args.object c.args.signal o s (Some (c.in-Some.count.now - 1)) _
    (((c.get_mut.follows.holds (c.in-Some.count.now - 1)).3 (ap is_some here)).0 (o, s))
    ∙ one_less (count_at c.args.self.now) c.args.object c.args.signal o s (c.in-Some.count.now - 1) (ap (λ n. n - 1) (sym count))
