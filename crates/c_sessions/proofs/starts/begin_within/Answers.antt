use Rattle.std.proofs.Common.{◌∙◌, sym}
use Rattle.c_sessions.proofs.Limits.{are_within, begins_within}
use Rattle.c_sessions.proofs.starts.begin_within.Goals as goal

pub returns-in-Ok-true : goal.returns-in-Ok-true
returns-in-Ok-true c bytes judged = (
  c.begin.ensures bytes judged,
  begins_within bytes c.args.most c.begin.result
      (are_within bytes c.args.most c.args.verified judged.0 (λ a. sym (c.in-Ok-true.ensures a) ∙ c.in-Ok-true.field-0-test)),
)

pub returns-in-Ok-false : goal.returns-in-Ok-false
returns-in-Ok-false c bytes judged = (c.args.verified, judged.0, judged.1, λ a. sym (c.in-Ok-false.ensures a) ∙ c.in-Ok-false.field-0-test)
