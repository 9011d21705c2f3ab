use Rattle.std.proofs.Common.{subst}
use Rattle.param_specs.specs.View.{specs_in, lists_of}
use Rattle.param_specs.specs.Table.{SameSpecs}
use Rattle.param_specs.proofs.Lists.{SameSpecs-after, on_err_if}
use Rattle.param_specs.proofs.table.SpecTable.add_own.Goals as goal

pub returns-in_err-grow-clause-err : goal.returns-in_err-grow-clause-err
returns-in_err-grow-clause-err c =
    on_err_if c.from_residual.result (subst (λ old. SameSpecs old (lists_of (λ m. specs_in m.entries) c.grow.new.lists.items)) c.self.view_is c.in_err-grow.ensures.same)

pub returns-in_err-add-clause-err : goal.returns-in_err-add-clause-err
returns-in_err-add-clause-err c =
    on_err_if c.from_residual-in_err-add.result
    (subst (λ old. SameSpecs old (lists_of (λ m. specs_in m.entries) c.add.new.lists.items)) c.self.view_is
    (SameSpecs-after (lists_of (λ m. specs_in m.entries) c.self.inside.own.items) (lists_of (λ m. specs_in m.entries) c.grow.new.lists.items) (lists_of (λ m. specs_in m.entries) c.add.new.lists.items) c.in_ok-grow.ensures.same c.in_err-add.ensures.err))
