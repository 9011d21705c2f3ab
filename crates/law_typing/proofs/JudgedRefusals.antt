-- The judgements compute.
use Rattle.std.proofs.Common.{refl}
use Rattle.law_typing.specs.Rules.Typing.{data_in, passing, two_numbers, two_passing, moving, reckoning, comparing, sameness, negating, combining, joining, converting, property_of, get_property, changing_none, set_property, place_for, look_up_object, adopting, arguments, emitting, program_named, connecting, on_handlers, attaching, methods_for, method_named, calling, entering, branching, branching_null, returning}
use Rattle.law_typing.specs.Examples.SetConstructOnly as setconstructonly_case
use Rattle.law_typing.specs.Examples.UnfitHandler as unfithandler_case
use Rattle.law_typing.specs.Examples.UnfitBinding as unfitbinding_case
use Rattle.law_typing.specs.Examples.SecondPair as secondpair_case
use Rattle.law_typing.specs.Examples.OpenFreeze as openfreeze_case
use Rattle.law_typing.specs.Examples.LabelCycle as labelcycle_case
use Rattle.law_typing.specs.Examples.TooLarge as toolarge_case
use Rattle.law_typing.specs.Examples.UnfitPass as unfitpass_case
use Rattle.law_typing.specs.Examples.FrozenCycle as frozencycle_case
use Rattle.law_typing.specs.Examples.UnfitChild as unfitchild_case
use Rattle.law_typing.specs.Examples.UnfitClassHandler as unfitclasshandler_case

pub setconstructonly_holds : setconstructonly_case.Holds
unfolding data_in passing two_numbers two_passing moving reckoning comparing sameness negating combining joining converting property_of get_property changing_none set_property place_for look_up_object adopting arguments emitting program_named connecting on_handlers attaching methods_for method_named calling entering branching branching_null returning
setconstructonly_holds = refl

pub unfithandler_holds : unfithandler_case.Holds
unfolding data_in passing two_numbers two_passing moving reckoning comparing sameness negating combining joining converting property_of get_property changing_none set_property place_for look_up_object adopting arguments emitting program_named connecting on_handlers attaching methods_for method_named calling entering branching branching_null returning
unfithandler_holds = refl

pub unfitbinding_holds : unfitbinding_case.Holds
unfolding data_in passing two_numbers two_passing moving reckoning comparing sameness negating combining joining converting property_of get_property changing_none set_property place_for look_up_object adopting arguments emitting program_named connecting on_handlers attaching methods_for method_named calling entering branching branching_null returning
unfitbinding_holds = refl

pub secondpair_holds : secondpair_case.Holds
unfolding data_in passing two_numbers two_passing moving reckoning comparing sameness negating combining joining converting property_of get_property changing_none set_property place_for look_up_object adopting arguments emitting program_named connecting on_handlers attaching methods_for method_named calling entering branching branching_null returning
secondpair_holds = refl

pub openfreeze_holds : openfreeze_case.Holds
unfolding data_in passing two_numbers two_passing moving reckoning comparing sameness negating combining joining converting property_of get_property changing_none set_property place_for look_up_object adopting arguments emitting program_named connecting on_handlers attaching methods_for method_named calling entering branching branching_null returning
openfreeze_holds = refl

pub labelcycle_holds : labelcycle_case.Holds
unfolding data_in passing two_numbers two_passing moving reckoning comparing sameness negating combining joining converting property_of get_property changing_none set_property place_for look_up_object adopting arguments emitting program_named connecting on_handlers attaching methods_for method_named calling entering branching branching_null returning
labelcycle_holds = (refl, refl)

pub toolarge_holds : toolarge_case.Holds
unfolding data_in passing two_numbers two_passing moving reckoning comparing sameness negating combining joining converting property_of get_property changing_none set_property place_for look_up_object adopting arguments emitting program_named connecting on_handlers attaching methods_for method_named calling entering branching branching_null returning
toolarge_holds = refl

pub unfitpass_holds : unfitpass_case.Holds
unfolding data_in passing two_numbers two_passing moving reckoning comparing sameness negating combining joining converting property_of get_property changing_none set_property place_for look_up_object adopting arguments emitting program_named connecting on_handlers attaching methods_for method_named calling entering branching branching_null returning
unfitpass_holds = refl

pub frozencycle_holds : frozencycle_case.Holds
unfolding data_in passing two_numbers two_passing moving reckoning comparing sameness negating combining joining converting property_of get_property changing_none set_property place_for look_up_object adopting arguments emitting program_named connecting on_handlers attaching methods_for method_named calling entering branching branching_null returning
frozencycle_holds = (refl, refl)

pub unfitchild_holds : unfitchild_case.Holds
unfolding data_in passing two_numbers two_passing moving reckoning comparing sameness negating combining joining converting property_of get_property changing_none set_property place_for look_up_object adopting arguments emitting program_named connecting on_handlers attaching methods_for method_named calling entering branching branching_null returning
unfitchild_holds = refl

pub unfitclasshandler_holds : unfitclasshandler_case.Holds
unfolding data_in passing two_numbers two_passing moving reckoning comparing sameness negating combining joining converting property_of get_property changing_none set_property place_for look_up_object adopting arguments emitting program_named connecting on_handlers attaching methods_for method_named calling entering branching branching_null returning
unfitclasshandler_holds = refl
