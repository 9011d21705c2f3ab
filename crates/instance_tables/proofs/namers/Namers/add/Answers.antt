use Rattle.std.proofs.Common.{◌||◌, ap, ◌∙◌}
use Rattle.std.specs.BTreeMap.{is_at}
use Rattle.std.specs.BTreeSet.{contains}
use Rattle.instance_tables.specs.Names.{pair_cmp}
use Rattle.instance_tables.proofs.Names.{still}
use Rattle.instance_tables.proofs.namers.Namers.add.Goals as goal

pub returns-clause-stays : goal.returns-clause-stays
returns-clause-stays c t h there =
    ap (λ b. c.args.self.now.is_given_up || b) (c.in-Ok.ensures.updates.0 (t, h))
    ∙ still c.args.self.now.is_given_up (is_at (pair_cmp (c.args.target.0, c.args.holder.0)) (t, h))
    (contains pair_cmp c.args.self.now.pairs (t, h)) there
