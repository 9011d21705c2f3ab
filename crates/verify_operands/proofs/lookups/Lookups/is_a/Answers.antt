use Rattle.std.proofs.Common.{sym, subst}
use Rattle.ui_machine.specs.Definition.{Definition}
use Rattle.verify_operands.specs.Ancestry.{AreRows}
use Rattle.verify_operands.proofs.lookups.Lookups.is_a.Goals as goal

pub returns-in-Some : goal.returns-in-Some
returns-in-Some c =
    c.in-Some.ensures c.args.self.now.types
    (subst (λ rows. AreRows c.args.self.now.types rows) (sym c.as_slice.ensures.value)
    (subst (λ (d : Definition). AreRows d.types c.self.inside.ancestry.items) c.self.view_is c.self.invariant.0))
