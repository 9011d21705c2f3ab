use Rattle.std.proofs.Common.{◌≡◌, ◌∙◌, ◌++◌, Some, option_map, ap, subst, arith}
use Rattle.std.specs.List.{find}
use Rattle.bindings.specs.Made.{Made, is_next}
use Rattle.bindings.proofs.Numbers.{found_back, found_few, found_front, found_low}
use Rattle.bindings.proofs.list.Bindings.next_bound.Goals as goal

pub returns-in-Some-clause-next : goal.returns-in-Some-clause-next
returns-in-Some-clause-next c =
    let p = is_next c.args.object.0 c.args.slot c.args.from in
    subst (λ (m : Made). Some c.in-Some.bound.now ≡ find p m.bindings) c.self.view_is
    (found_front p c.self.inside.rising c.self.inside.others.items c.in-Some.bound.now c.in-Some.ensures)

pub returns-in-None-clause-next : goal.returns-in-None-clause-next
returns-in-None-clause-next c =
    let p = is_next c.args.object.0 c.args.slot c.args.from in
    subst (λ (m : Made). option_map (λ b. b.now) c.next_of.result ≡ find p m.bindings) c.self.view_is
    (c.next_of.ensures ∙ ap (find p) c.deref.ensures.value ∙ found_back p c.self.inside.rising c.self.inside.others.items c.in-None.ensures)

pub returns-in-Some-clause-few : goal.returns-in-Some-clause-few
returns-in-Some-clause-few c =
    let p = is_next c.args.object.0 c.args.slot c.args.from in
    let bs = c.self.inside.rising ++ c.self.inside.others.items in
    let low = found_low p bs c.self.inside.next c.in-Some.bound.now c.self.invariant.0
    (found_front p c.self.inside.rising c.self.inside.others.items c.in-Some.bound.now c.in-Some.ensures) in
    omega (arith, low, c.self.invariant.1)

pub returns-in-None-clause-few : goal.returns-in-None-clause-few
returns-in-None-clause-few c =
    let p = is_next c.args.object.0 c.args.slot c.args.from in
    let bs = c.self.inside.rising ++ c.self.inside.others.items in
    found_few (λ b. b.now) c.next_of.result p bs c.self.inside.next c.self.invariant.0 c.self.invariant.1
    (c.next_of.ensures ∙ ap (find p) c.deref.ensures.value ∙ found_back p c.self.inside.rising c.self.inside.others.items c.in-None.ensures)
