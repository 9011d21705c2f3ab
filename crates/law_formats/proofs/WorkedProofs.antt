-- The worked definition was accepted in the first format, and is accepted now.
use Rattle.std.specs.Fmt.{digits}
use Rattle.std.proofs.Common.{◌≡◌, refl, []}
use Rattle.law_typing.specs.Rules.Typing.{data_in, passing, two_numbers, two_passing, moving, reckoning, comparing, sameness, negating, combining, joining, converting, property_of, get_property, changing_none, set_property, place_for, look_up_object, adopting, arguments, emitting, program_named, connecting, on_handlers, attaching, methods_for, method_named, calling, entering, branching, branching_null, returning}
use Rattle.law_typing.specs.Verdict.{verdict, accepted}
use Rattle.law_typing.proofs.JudgedProofs.{judged_is_accepted}
use Rattle.law_formats.specs.FirstRules.{freezes_over_pairs}
use Rattle.law_formats.specs.WorkedBefore.{definition, lines, PremiseMet}
use Rattle.law_formats.proofs.NumberProofs.{nothing_else_changed}

holds : verdict definition ≡ accepted lines
unfolding digits data_in passing two_numbers two_passing moving reckoning comparing sameness negating combining joining converting property_of get_property changing_none set_property place_for look_up_object adopting arguments emitting program_named connecting on_handlers attaching methods_for method_named calling entering branching branching_null returning
holds = refl

freezes : freezes_over_pairs definition ≡ []
unfolding data_in passing two_numbers two_passing moving reckoning comparing sameness negating combining joining converting property_of get_property changing_none set_property place_for look_up_object adopting arguments emitting program_named connecting on_handlers attaching methods_for method_named calling entering branching branching_null returning
freezes = refl

pub premise_met : PremiseMet
premise_met = record {
  before = nothing_else_changed definition (judged_is_accepted definition lines refl holds).0 (((refl, (refl, (refl, tt))), ((refl, (refl, (refl, tt))), tt))) freezes;
  now = holds;
}
