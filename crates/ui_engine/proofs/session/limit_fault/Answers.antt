use Rattle.std.proofs.Common.{◌∙◌, sym}
use Rattle.ui_engine.proofs.session.limit_fault.Goals as goal

pub returns-in-Ok-true-clause-may : goal.returns-in-Ok-true-clause-may
returns-in-Ok-true-clause-may c a = sym (c.in-Ok-true.ensures a) ∙ c.in-Ok-true.field-0-test

pub returns-in-Ok-false-clause-why : goal.returns-in-Ok-false-clause-why
returns-in-Ok-false-clause-why c lack a = sym (c.in-Ok-false.ensures a) ∙ c.in-Ok-false.field-0-test
