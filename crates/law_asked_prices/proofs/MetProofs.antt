-- The premise on shapes is met.
use Rattle.std.proofs.Common.{refl}
use Rattle.law_typing.specs.Rules.Typing.{data_in, passing, two_numbers, two_passing, moving, reckoning, comparing, sameness, negating, combining, joining, converting, property_of, get_property, changing_none, set_property, place_for, look_up_object, adopting, arguments, emitting, program_named, connecting, on_handlers, attaching, methods_for, method_named, calling, entering, branching, branching_null, returning}
use Rattle.law_steps.proofs.Served.WorkedProofs.{premises_met}
use Rattle.law_asked_prices.specs.Replies.{PremisesMetAlone}

pub premises_met_alone : PremisesMetAlone
unfolding data_in passing two_numbers two_passing moving reckoning comparing sameness negating combining joining converting property_of get_property changing_none set_property place_for look_up_object adopting arguments emitting program_named connecting on_handlers attaching methods_for method_named calling entering branching branching_null returning
premises_met_alone = record { session = premises_met; alone = refl; add = refl }
