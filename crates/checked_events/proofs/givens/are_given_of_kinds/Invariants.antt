use Rattle.std.proofs.Common.{◌↔◌, map}
use Rattle.std.specs.List.{AllZip}
use Rattle.g_values.specs.View.{kind_view}
use Rattle.law_typing.specs.Laws.WellRead.{GivenFits}
use Rattle.definition_format.specs.Meaning.{given_view}
use Rattle.checked_events.proofs.Zipping.{HoldsFrom}
use Rattle.checked_events.proofs.givens.are_given_of_kinds.Given as goal

abbrev pub invariant-givens : goal.invariant-givens
invariant-givens l =
    HoldsFrom (λ given kind. GivenFits l.definition kind given) given_view kind_view l.givens l.kinds l.index
    ↔ AllZip (λ given kind. GivenFits l.definition kind given) (map given_view l.givens) (map kind_view l.kinds)
