use Rattle.std.proofs.Common.{is_some, refl, sym, ap, ◌∙◌, arith}
use Rattle.std.proofs.lemmas.Bool.Decides.{nat_tests}
use Rattle.std.specs.Option.{option_copied}
use Rattle.instance_tables.proofs.Shown.{lives, count_is}
use Rattle.instance_tables.proofs.table.Table.can_hold.Goals as goal

pub returns-in_default : goal.returns-in_default
returns-in_default c =
    let none = sym c.get.ensures.value ∙ ap option_copied c.in_default.is in
    let gone = sym (ap is_some none) ∙ lives _ _ c.self.inside.limit c.self.inside.floating.items _ c.self.invariant.0 c.self.view_is _ in
    rw (← gone) refl

pub returns : goal.returns
returns c =
    let here = sym c.get.ensures.value ∙ ap option_copied c.in-Some.is in
    let there = sym (ap is_some here) ∙ lives _ _ c.self.inside.limit c.self.inside.floating.items _ c.self.invariant.0 c.self.view_is _ in
    let same = count_is _ _ c.self.inside.limit c.self.inside.floating.items _ c.self.invariant.0 c.self.view_is _ _ here in
    rw (← there, same) (grind (arith, nat_tests))
