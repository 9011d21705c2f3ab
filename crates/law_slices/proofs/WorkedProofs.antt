-- The parts of the worked definition.
use Rattle.std.proofs.Common.{◌≡◌, refl, sym, ap, subst, ◌∙◌, ℕ, zero, suc, ◌≤◌, [], Option, None, Some, arith}
use Rattle.std.specs.Prelude.{⊤}
use Rattle.ui_machine.specs.Definition.Places.{Place}
use Rattle.law_typing.specs.Examples.MostPasses.{definition, lines}
use Rattle.law_typing.specs.Laws.StepsKeepGood.{PeerReady, PoolReady}
use Rattle.law_typing.specs.Verdict.Accepted.{Each}
use Rattle.law_typing.specs.Rules.Typing.{data_in, passing, two_numbers, two_passing, moving, reckoning, comparing, sameness, negating, combining, joining, converting, property_of, get_property, changing_none, set_property, place_for, look_up_object, adopting, arguments, emitting, program_named, connecting, on_handlers, attaching, methods_for, method_named, calling, entering, branching, branching_null, returning}
use Rattle.law_typing.proofs.JudgedProofs.{judged_is_accepted}
use Rattle.law_typing.proofs.JudgedRows.{mostpasses_holds}
use Rattle.law_typing.proofs.WorkedReadProofs.{worked_read}
use Rattle.law_prices.specs.Asked.{Asked}
use Rattle.law_prices.specs.Bounds.{Within, most_price}
use Rattle.law_slices.specs.Lists.{extra}
use Rattle.law_slices.specs.WorkedParts.{HundredCounted, Numbers, PremisesMet, events, go}
use Rattle.law_slices.proofs.DepthProofs.{parts_are_within_depth}

-- no place names a peer
abbrev AreReady : Option Place → Type 0
AreReady None = ⊤
AreReady (Some p) = Each (PeerReady definition [] p) p.peers

ready : PoolReady definition []
ready zero p e = subst AreReady e tt
ready (suc n) p e = absurd (cc)

pub premises_met : PremisesMet
premises_met = record {
  well = worked_read.most_passes;
  accepted = (judged_is_accepted definition lines refl mostpasses_holds).0;
  ready = ready;
  read = (((_, refl, refl), 2, _, refl, refl, omega arith, tt, refl), tt);
}

pub numbers : Numbers
unfolding data_in passing two_numbers two_passing moving reckoning comparing sameness negating combining joining converting property_of get_property changing_none set_property place_for look_up_object adopting arguments emitting program_named connecting on_handlers attaching methods_for method_named calling entering branching branching_null returning
numbers = record { counted = refl; uncounted = refl; extra = refl; frames = refl }

some_is : (n m : ℕ) → Some n ≡ Some m → n ≡ m
some_is n m e = cc

few : (e : Asked) → e ≡ go → (n : ℕ) → Within definition extra e n → n ≤ 2
few e is n w =
    let most = some_is w.most 2 (sym w.is ∙ (ap (most_price definition extra) is ∙ numbers.extra)) in
    let low = w.within in
    omega (arith, most, low)

pub hundred_counted : HundredCounted
hundred_counted x is early fits m c before n replies fit at s none low =
    let w = parts_are_within_depth definition premises_met.well premises_met.accepted [] premises_met.ready events premises_met.read x early fits m c before n replies fit at s none 3 numbers.frames 100 low in
    let two = few _ is _ w in
    omega (arith, two)
