-- The judgements compute.
use Rattle.std.specs.Fmt.{digits}
use Rattle.std.proofs.Common.{refl}
use Rattle.law_typing.specs.Rules.Typing.{data_in, passing, two_numbers, two_passing, moving, reckoning, comparing, sameness, negating, combining, joining, converting, property_of, get_property, changing_none, set_property, place_for, look_up_object, adopting, arguments, emitting, program_named, connecting, on_handlers, attaching, methods_for, method_named, calling, entering, branching, branching_null, returning}
use Rattle.law_typing.specs.Examples.FirstRun as firstrun_case
use Rattle.law_typing.specs.Examples.NothingToDo as nothingtodo_case
use Rattle.law_typing.specs.Examples.Freezes as freezes_case
use Rattle.law_typing.specs.Examples.Pair as pair_case
use Rattle.law_typing.specs.Examples.Labels as labels_case
use Rattle.law_typing.specs.Examples.Floating as floating_case
use Rattle.law_typing.specs.Examples.LastReference as lastreference_case
use Rattle.law_typing.specs.Examples.MainLoop as mainloop_case
use Rattle.law_typing.specs.Examples.LabelChain as labelchain_case
use Rattle.law_typing.specs.Examples.LabelsRenamed as stickers_case
use Rattle.law_typing.specs.Examples.ClassHandlers as classhandlers_case
use Rattle.law_typing.specs.Examples.Chain as chain_case
use Rattle.law_typing.specs.Examples.AllParts as knobs_case
use Rattle.law_typing.specs.Examples.RepeatedBlock as repeatedblock_case
use Rattle.law_typing.specs.Examples.MostPasses as mostpasses_case
use Rattle.law_typing.specs.Examples.FrozenPair as frozenpair_case
use Rattle.law_typing.specs.Examples.FrozenTarget as frozentarget_case
use Rattle.law_typing.specs.Examples.FrozenTwins as frozentwins_case

pub firstrun_holds : firstrun_case.Holds
unfolding digits data_in passing two_numbers two_passing moving reckoning comparing sameness negating combining joining converting property_of get_property changing_none set_property place_for look_up_object adopting arguments emitting program_named connecting on_handlers attaching methods_for method_named calling entering branching branching_null returning
firstrun_holds = refl

pub nothingtodo_holds : nothingtodo_case.Holds
unfolding digits data_in passing two_numbers two_passing moving reckoning comparing sameness negating combining joining converting property_of get_property changing_none set_property place_for look_up_object adopting arguments emitting program_named connecting on_handlers attaching methods_for method_named calling entering branching branching_null returning
nothingtodo_holds = refl

pub freezes_holds : freezes_case.Holds
unfolding digits data_in passing two_numbers two_passing moving reckoning comparing sameness negating combining joining converting property_of get_property changing_none set_property place_for look_up_object adopting arguments emitting program_named connecting on_handlers attaching methods_for method_named calling entering branching branching_null returning
freezes_holds = refl

pub pair_holds : pair_case.Holds
unfolding digits data_in passing two_numbers two_passing moving reckoning comparing sameness negating combining joining converting property_of get_property changing_none set_property place_for look_up_object adopting arguments emitting program_named connecting on_handlers attaching methods_for method_named calling entering branching branching_null returning
pair_holds = refl

pub labels_holds : labels_case.Holds
unfolding digits data_in passing two_numbers two_passing moving reckoning comparing sameness negating combining joining converting property_of get_property changing_none set_property place_for look_up_object adopting arguments emitting program_named connecting on_handlers attaching methods_for method_named calling entering branching branching_null returning
labels_holds = refl

pub floating_holds : floating_case.Holds
unfolding digits data_in passing two_numbers two_passing moving reckoning comparing sameness negating combining joining converting property_of get_property changing_none set_property place_for look_up_object adopting arguments emitting program_named connecting on_handlers attaching methods_for method_named calling entering branching branching_null returning
floating_holds = refl

pub lastreference_holds : lastreference_case.Holds
unfolding digits data_in passing two_numbers two_passing moving reckoning comparing sameness negating combining joining converting property_of get_property changing_none set_property place_for look_up_object adopting arguments emitting program_named connecting on_handlers attaching methods_for method_named calling entering branching branching_null returning
lastreference_holds = refl

pub mainloop_holds : mainloop_case.Holds
unfolding digits data_in passing two_numbers two_passing moving reckoning comparing sameness negating combining joining converting property_of get_property changing_none set_property place_for look_up_object adopting arguments emitting program_named connecting on_handlers attaching methods_for method_named calling entering branching branching_null returning
mainloop_holds = refl

pub labelchain_holds : labelchain_case.Holds
unfolding digits data_in passing two_numbers two_passing moving reckoning comparing sameness negating combining joining converting property_of get_property changing_none set_property place_for look_up_object adopting arguments emitting program_named connecting on_handlers attaching methods_for method_named calling entering branching branching_null returning
labelchain_holds = refl

pub stickers_holds : stickers_case.Holds
unfolding digits data_in passing two_numbers two_passing moving reckoning comparing sameness negating combining joining converting property_of get_property changing_none set_property place_for look_up_object adopting arguments emitting program_named connecting on_handlers attaching methods_for method_named calling entering branching branching_null returning
stickers_holds = refl

pub classhandlers_holds : classhandlers_case.Holds
unfolding digits data_in passing two_numbers two_passing moving reckoning comparing sameness negating combining joining converting property_of get_property changing_none set_property place_for look_up_object adopting arguments emitting program_named connecting on_handlers attaching methods_for method_named calling entering branching branching_null returning
classhandlers_holds = refl

pub chain_holds : chain_case.Holds
unfolding digits data_in passing two_numbers two_passing moving reckoning comparing sameness negating combining joining converting property_of get_property changing_none set_property place_for look_up_object adopting arguments emitting program_named connecting on_handlers attaching methods_for method_named calling entering branching branching_null returning
chain_holds = refl

pub knobs_holds : knobs_case.Holds
unfolding digits data_in passing two_numbers two_passing moving reckoning comparing sameness negating combining joining converting property_of get_property changing_none set_property place_for look_up_object adopting arguments emitting program_named connecting on_handlers attaching methods_for method_named calling entering branching branching_null returning
knobs_holds = refl

pub repeatedblock_holds : repeatedblock_case.Holds
unfolding digits data_in passing two_numbers two_passing moving reckoning comparing sameness negating combining joining converting property_of get_property changing_none set_property place_for look_up_object adopting arguments emitting program_named connecting on_handlers attaching methods_for method_named calling entering branching branching_null returning
repeatedblock_holds = refl

pub mostpasses_holds : mostpasses_case.Holds
unfolding digits data_in passing two_numbers two_passing moving reckoning comparing sameness negating combining joining converting property_of get_property changing_none set_property place_for look_up_object adopting arguments emitting program_named connecting on_handlers attaching methods_for method_named calling entering branching branching_null returning
mostpasses_holds = refl

pub frozenpair_holds : frozenpair_case.Holds
unfolding digits data_in passing two_numbers two_passing moving reckoning comparing sameness negating combining joining converting property_of get_property changing_none set_property place_for look_up_object adopting arguments emitting program_named connecting on_handlers attaching methods_for method_named calling entering branching branching_null returning
frozenpair_holds = refl

pub frozentarget_holds : frozentarget_case.Holds
unfolding digits data_in passing two_numbers two_passing moving reckoning comparing sameness negating combining joining converting property_of get_property changing_none set_property place_for look_up_object adopting arguments emitting program_named connecting on_handlers attaching methods_for method_named calling entering branching branching_null returning
frozentarget_holds = refl

pub frozentwins_holds : frozentwins_case.Holds
unfolding digits data_in passing two_numbers two_passing moving reckoning comparing sameness negating combining joining converting property_of get_property changing_none set_property place_for look_up_object adopting arguments emitting program_named connecting on_handlers attaching methods_for method_named calling entering branching branching_null returning
frozentwins_holds = refl
