use Rattle.std.proofs.Common.{◌∙◌, sym, ap, subst, ◌++◌, drop, take, map}
use Rattle.law_typing.specs.Verdict.Judges.{IsToldCycle}
use Rattle.verify_numbers.specs.Links.{links_view}
use Rattle.ui_verifier.specs.Cycles.{IsFirst, lines}
use Rattle.ui_verifier.specs.Verdicts.{link_view}
use Rattle.ui_verifier.proofs.CycleProofs.{told}
use Rattle.ui_verifier.proofs.cycles.cycle_from_first.Goals as goal

pub returns : goal.returns
returns c = λ g less known busy once.
    let ls = c.in_ok-all.all.items in
    let n = c.least-first.result in
    let values = c.as_slice-2.ensures.value ∙ (c.in_ok-lines.ensures ∙ ap (lines c.args.channels.now) c.as_slice.ensures.value) in
    subst (λ xs. IsToldCycle g (map link_view xs)) (sym (c.in_ok-told.ensures ∙ ap (λ xs. drop n xs ++ take n xs) c.as_slice-3.ensures.value))
    (told g c.args.channels.now ls (links_view less c.args.links.now) n known (c.in_ok-all.ensures less busy) (subst (λ vs. IsFirst vs n) values c.least-first.ensures) once)
