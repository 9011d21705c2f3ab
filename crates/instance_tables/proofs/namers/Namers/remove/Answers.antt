use Rattle.std.proofs.Common.{◌||◌, ap, ◌∙◌}
use Rattle.instance_tables.proofs.Names.{apart}
use Rattle.instance_tables.proofs.namers.Namers.remove.Goals as goal

pub returns-clause-others : goal.returns-clause-others
returns-clause-others c t h ne there =
    ap (λ b. c.args.self.now.is_given_up || b)
    (c.remove.ensures.updates.2 (t, h) (apart c.args.target.0 c.args.holder.0 t h ne))
    ∙ there
