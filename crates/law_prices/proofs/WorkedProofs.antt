-- The worked bounds compute.
use Rattle.std.proofs.Common.{refl}
use Rattle.law_typing.specs.Rules.Typing.{data_in, passing, two_numbers, two_passing, moving, reckoning, comparing, sameness, negating, combining, joining, converting, property_of, get_property, changing_none, set_property, place_for, look_up_object, adopting, arguments, emitting, program_named, connecting, on_handlers, attaching, methods_for, method_named, calling, entering, branching, branching_null, returning}
use Rattle.law_prices.specs.Worked.Knobs as knobs
use Rattle.law_prices.specs.Worked.LastReference as last_reference
use Rattle.law_prices.specs.Worked.Pair as pair

pub knobs_holds : knobs.Holds
unfolding data_in passing two_numbers two_passing moving reckoning comparing sameness negating combining joining converting property_of get_property changing_none set_property place_for look_up_object adopting arguments emitting program_named connecting on_handlers attaching methods_for method_named calling entering branching branching_null returning
knobs_holds = record { counted = refl; steps = refl; lines = refl; objects = refl; emissions = refl; runs = refl }

pub last_reference_holds : last_reference.Holds
unfolding data_in passing two_numbers two_passing moving reckoning comparing sameness negating combining joining converting property_of get_property changing_none set_property place_for look_up_object adopting arguments emitting program_named connecting on_handlers attaching methods_for method_named calling entering branching branching_null returning
last_reference_holds = record { counted = refl; steps = refl; lines = refl; objects = refl; add = refl; read = refl; runs = refl; emissions = refl }

pub pair_holds : pair.Holds
unfolding data_in passing two_numbers two_passing moving reckoning comparing sameness negating combining joining converting property_of get_property changing_none set_property place_for look_up_object adopting arguments emitting program_named connecting on_handlers attaching methods_for method_named calling entering branching branching_null returning
pair_holds = record { counted = refl; steps = refl; lines = refl; objects = refl; emissions = refl }
