use Rattle.std.proofs.Common.{◌∙◌, ap, sym}
use Rattle.law_idle.specs.Idle.{is_busy}
use Rattle.verified.specs.Told.{value_among, value_at}
use Rattle.verified.proofs.IdleNumbers.{no_number}
use Rattle.verified.proofs.LookUps.{bound_read}
use Rattle.verified.proofs.verified.Verified.idle_bound.Goals as goal

pub returns : goal.returns
returns c channel there idle =
    let idle_bound = c.self.inside.numbers.idle in
    let values = c.self.inside.numbers.bounds.items in
    let kept = c.self.invariant.busy_channels in
    bound_read c.self.invariant c.self.view_is channel idle_bound
    (sym (ap (λ busy. value_among busy values idle_bound channel) kept ∙ ap (value_at values idle_bound) (no_number c.self.inside.definition channel (ap (λ d. is_busy d channel) c.self.view_is ∙ idle))))
    there
