use Rattle.std.proofs.Common.{rules, tests}
use Rattle.std.proofs.lemmas.Iterator.{YieldsList-from_slice, cases_from_all}
use Rattle.law_short_texts.specs.ShortValues.{IsShortGiven}
use Rattle.definition_format.specs.Meaning.{given_view}
use Rattle.checked_events.proofs.EachView.{answered}
use Rattle.checked_events.proofs.short_texts.are_short_givens.Goals as goal

pub returns : goal.returns
returns c =
    answered IsShortGiven given_view c.args.givens.now c.all.result
    (cases_from_all _ _ _ (λ x. IsShortGiven (given_view x)) (λ x. ¬ IsShortGiven (given_view x)) c.all.ensures.ran (YieldsList-from_slice c.args.givens.now cc) (λ x q k. search (rules, tests))
    (λ x q k. search (rules, tests)))
