use Rattle.std.proofs.Common.{arith, ap, sym, ◌∙◌, ◌≤◌, ◌<◌, length, option_map, get_or, rules, FitsSigned, cond, Some, None, Bool, true, false, ◌≡◌, refl, Option, ℕ}
use Rattle.std.proofs.lemmas.Int.{to_z-of_z}
use Rattle.std.specs.Bool.{then_some}
use Rattle.std.specs.Int.{w128}
use Rattle.main_context.specs.Places.{has_rank, index_from}
use Rattle.main_context.specs.declared.places.Place.{Place}
use Rattle.main_context.proofs.PlaceOrder.{first_here, first_past, place}
use Rattle.main_context.proofs.places.first_of.Goals as goal

pub returns-in_err-first : goal.returns-in_err-first
returns-in_err-first c =
    let fits : FitsSigned w128 c.args.rank = c.ranges.rank in
    let at = simp to_z-of_z at c.index_from.ensures in
    let past : length c.args.places.now ≤ index_from (place c.args.rank 0) c.args.places.now = omega (arith, c.in_err-first.ensures.lookup, at) in
    c.from_residual.ensures ∙ sym (ap (option_map (λ (q : Place). q.number)) (first_past c.args.rank c.args.places.now c.requires past))

given : (t : Bool) (q : Place) → then_some t q.number ≡ option_map (λ (q : Place). q.number) (cond t (Some q) None)
given true q = refl
given false q = refl

pub returns : goal.returns
returns c =
    let fits : FitsSigned w128 c.args.rank = c.ranges.rank in
    let q = c.in_ok-first.first.now in
    let index = simp to_z-of_z at c.index_from.ensures in
    let has = simp to_z-of_z at c.has_rank.ensures in
    let read : q ≡ get_or c.args.places.now c.index_from.result q = search rules in
    let within : index_from (place c.args.rank 0) c.args.places.now < length c.args.places.now = omega (arith, c.in_ok-first.ensures.lookup, index) in
    let at : q ≡ get_or c.args.places.now (index_from (place c.args.rank 0) c.args.places.now) q = read ∙ ap (λ i. get_or c.args.places.now i q) index in
    c.then_some.ensures ∙ ap (λ t. then_some t q.number) has ∙ given (has_rank c.args.rank q) q
    ∙ sym (ap (option_map (λ (q : Place). q.number)) (first_here c.args.rank c.args.places.now q c.requires within at))
