use Rattle.std.proofs.Common.{◌≡◌, ◌∙◌, ap, subst, IfOk}
use Rattle.std.specs.Fmt.{signed_decimal}
use Rattle.std.specs.Int.{w64}
use Rattle.std.specs.Rc.{rc_str_bytes}
use Rattle.std.proofs.lemmas.Int.{to_z-of_z}
use Rattle.g_values.proofs.whole.signed_text.Goals as goal

pub returns : goal.returns
returns c =
    let same = c.as_str.ensures.value ∙ c.in_ok-text.ensures.ok ∙ ap signed_decimal (to_z-of_z w64 c.args.number c.ranges.number) in
    subst (λ bytes. IfOk c.from_str.result (λ s. rc_str_bytes s ≡ bytes)) same c.from_str.ensures.ok
