-- Names do not count.
use Rattle.std.proofs.Common.{refl, ap}
use Rattle.law_typing.specs.Rules.Typing.{data_in, passing, two_numbers, two_passing, moving, reckoning, comparing, sameness, negating, combining, joining, converting, property_of, get_property, changing_none, set_property, place_for, look_up_object, adopting, arguments, emitting, program_named, connecting, on_handlers, attaching, methods_for, method_named, calling, entering, branching, branching_null, returning}
use Rattle.law_typing.specs.Graph.Ranks.{ranks}
use Rattle.law_typing.specs.Graph.Costs.{costs, bound}
use Rattle.law_typing.specs.Graph.Depths.{depths}
use Rattle.law_typing.specs.Laws.{NamesDoNotCount}
use Rattle.law_typing.specs.Laws.Names.{OneGraph}

pub names_do_not_count : NamesDoNotCount
names_do_not_count d e same = (ap ranks same, ap costs same, ap depths same, λ t at. ap (λ g. bound g t at) same)

pub one_graph : OneGraph
unfolding data_in passing two_numbers two_passing moving reckoning comparing sameness negating combining joining converting property_of get_property changing_none set_property place_for look_up_object adopting arguments emitting program_named connecting on_handlers attaching methods_for method_named calling entering branching branching_null returning
one_graph = refl
