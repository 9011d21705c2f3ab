-- Each worked definition's build begins well.
use Rattle.std.proofs.Common.{◌≡◌, refl, subst, ℕ, zero, suc, true, List, [], ◌∷◌, Option, None, Some}
use Rattle.std.specs.Prelude.{⊤}
use Rattle.ui_machine.specs.Definition.{Definition}
use Rattle.ui_machine.specs.Definition.Places.{Place}
use Rattle.law_typing.specs.Rules.Typing.{data_in, passing, two_numbers, two_passing, moving, reckoning, comparing, sameness, negating, combining, joining, converting, property_of, get_property, changing_none, set_property, place_for, look_up_object, adopting, arguments, emitting, program_named, connecting, on_handlers, attaching, methods_for, method_named, calling, entering, branching, branching_null, returning}
use Rattle.law_typing.specs.Rules.Brackets.{is_empty}
use Rattle.law_typing.specs.Verdict.Accepted.{Each}
use Rattle.law_typing.specs.Examples.LastReference as last_reference
use Rattle.law_typing.specs.Laws.StepsKeepGood.{PeerReady, PoolReady}
use Rattle.law_typing.specs.Laws.Beginnings.{tally, costs_of, depths_of, Begins, WorkedBegin}
use Rattle.law_typing.proofs.BuildBegins.{begins, Reckoned}
use Rattle.law_typing.proofs.Numbered.{all_from, all_from_get}

-- a pool that no place asks anything of is ready
none_asked : (d : Definition) → all_from (λ n (p : Place). is_empty p.peers) 0 d.places ≡ true → PoolReady d []
none_asked d e place p is = none p.peers (all_from_get (λ n (p : Place). is_empty p.peers) d.places place p e is)
  where
    none : (names : List (List ℕ)) → is_empty names ≡ true → Each (PeerReady d [] p) names
    none [] e = tt
    none (x ∷ names) e = absurd (cc)

-- the peers of a place, if there is one, are ready
abbrev TallyReady : Option Place → Type 0
TallyReady None = ⊤
TallyReady (Some p) = Each (PeerReady last_reference.definition (tally ∷ []) p) p.peers

tally_ready : PoolReady last_reference.definition (tally ∷ [])
tally_ready zero p e = subst TallyReady e tt
tally_ready (suc zero) p e = subst TallyReady e (
  record {
    number = 0;
    peer = tally;
    shape = 0;
    methods = _;
    is = refl;
    has = refl;
    of_class = refl;
    shaped = (refl, refl);
    is_open = refl;
    free = refl;
  },
  tt,
)
tally_ready (suc (suc n)) p e = absurd (cc)

pub worked_begin : WorkedBegin
unfolding data_in passing two_numbers two_passing moving reckoning comparing sameness negating combining joining converting property_of get_property changing_none set_property place_for look_up_object adopting arguments emitting program_named connecting on_handlers attaching methods_for method_named calling entering branching branching_null returning
worked_begin = record {
  first_run = plain _ 64 1 refl (record { cheap = refl; few = refl; shallow = refl });
  nothing_to_do = plain _ 64 0 refl (record { cheap = refl; few = refl; shallow = refl });
  freezes = plain _ 64 3 refl (record { cheap = refl; few = refl; shallow = refl });
  pair = plain _ 68 2 refl (record { cheap = refl; few = refl; shallow = refl });
  labels = plain _ 2 3 refl (record { cheap = refl; few = refl; shallow = refl });
  floating = plain _ 2 3 refl (record { cheap = refl; few = refl; shallow = refl });
  last_reference = begins _ _ _ 64 5 _ tally_ready (record { cheap = refl; few = refl; shallow = refl });
  main_loop = plain _ 64 2 refl (record { cheap = refl; few = refl; shallow = refl });
  label_chain = plain _ 3 4 refl (record { cheap = refl; few = refl; shallow = refl });
  stickers = plain _ 2 3 refl (record { cheap = refl; few = refl; shallow = refl });
  class_handlers = plain _ 3 3 refl (record { cheap = refl; few = refl; shallow = refl });
  chain = plain _ 1 7 refl (record { cheap = refl; few = refl; shallow = refl });
  knobs = plain _ 8 4 refl (record { cheap = refl; few = refl; shallow = refl });
}
  where
    plain : (d : Definition) (most_counted most : ℕ) → all_from (λ n (p : Place). is_empty p.peers) 0 d.places ≡ true →
        Reckoned d (costs_of d) (depths_of d) most_counted most →
        Begins d [] most_counted most
    plain d most_counted most e r = begins d (costs_of d) (depths_of d) most_counted most [] (none_asked d e) r
