use Rattle.std.proofs.Common.{refl}
use Rattle.ui_engine.proofs.Forgetting.{kept_without_lines}
use Rattle.ui_engine.proofs.cores.Core.forget.Goals as goal

pub invariant_of-self : goal.invariant_of-self
invariant_of-self c =
    let e = c.self.inside.engine in
    kept_without_lines c.self.inside.verified e (record e { world = record e.world { transcript = c.clear.new.self } }) refl c.clear.ensures.items c.self.inside.phase c.self.invariant
