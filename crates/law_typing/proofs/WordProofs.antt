-- The words of the rules compute.
use Rattle.std.proofs.Common.{refl}
use Rattle.law_typing.specs.Rules.Typing.{data_in, passing, two_numbers, two_passing, moving, reckoning, comparing, sameness, negating, combining, joining, converting, property_of, get_property, changing_none, set_property, place_for, look_up_object, adopting, arguments, emitting, program_named, connecting, on_handlers, attaching, methods_for, method_named, calling, entering, branching, branching_null, returning}
use Rattle.law_typing.specs.Laws.RuleWords.{RuleWords, BindingWords, BracketWords}

pub rule_words : RuleWords
unfolding data_in passing two_numbers two_passing moving reckoning comparing sameness negating combining joining converting property_of get_property changing_none set_property place_for look_up_object adopting arguments emitting program_named connecting on_handlers attaching methods_for method_named calling entering branching branching_null returning
rule_words = record { keeps = refl; unset = refl; kind = refl; null = refl; unknown = refl; flags = refl; construct_only = refl; detail = refl; signature = refl; result = refl; block = refl }

pub binding_words : BindingWords
binding_words = record { keeps = refl; same = refl; readable = refl; writable = refl; construct_only = refl; of_kinds = refl; invert = refl; backwards = refl }

pub bracket_words : BracketWords
bracket_words = record { nested = refl; crossed = refl; left_open = refl; thaw_first = refl; written_between = refl; result_between = refl; another_written = refl }
