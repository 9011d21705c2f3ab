use Rattle.std.proofs.Common.{◌≡◌, ◌∙◌, ◌+◌, ◌-◌, ◌^◌, ap, option_map, subst, sym, arith}
use Rattle.std.specs.List.{AllByRecursion}
use Rattle.bindings.proofs.Stepping.{Later, found_first, later_begin, later_step, none_later, none_past}
use Rattle.bindings.proofs.rising.Rising.next_bound.Goals as goal

pub bindings-init : goal.bindings-init
bindings-init c = later_begin c.args.object.0 c.args.slot c.args.from c.args.self.now

pub bindings-preserved : goal.bindings-preserved
bindings-preserved c =
    let after : c.in_ok-at.at ≡ c.in-Some.number + 1 = omega (arith, c.in_ok-at.ensures) in
    subst (λ k. AllByRecursion (Later c.args.object.0 c.args.slot c.args.from k) c.args.self.now) (sym after)
    (later_step c.args.object.0 c.args.slot c.args.from c.bindings.at c.in-Some.number c.args.self.now c.bindings.invariant c.in-Some.ensures.1
    (sym (ap (option_map (λ b. b.now)) c.in_default-next_numbered.is) ∙ c.next_numbered.ensures))

pub returns : goal.returns
returns c = none_later c.args.object.0 c.args.slot c.args.from c.bindings.at c.args.self.now c.bindings.invariant c.in_default.ensures

pub returns-in-Some-next_numbered : goal.returns-in-Some-next_numbered
returns-in-Some-next_numbered c =
    found_first c.args.object.0 c.args.slot c.args.from c.bindings.at c.in-Some.number c.args.self.now c.bindings.invariant c.in-Some.ensures.1 c.in-Some-next_numbered.bound.now
    (2 ^ 64 - 1) c.len.ensures.rises (sym (ap (option_map (λ b. b.now)) c.in-Some-next_numbered.is) ∙ c.next_numbered.ensures)

pub returns-in_err-at : goal.returns-in_err-at
returns-in_err-at c =
    let later = later_step c.args.object.0 c.args.slot c.args.from c.bindings.at c.in-Some.number c.args.self.now c.bindings.invariant c.in-Some.ensures.1
    (sym (ap (option_map (λ b. b.now)) c.in_default-next_numbered.is) ∙ c.next_numbered.ensures) in
    ap (option_map (λ b. b.now)) c.from_residual.ensures
    ∙ none_past c.args.object.0 c.args.slot c.args.from (c.in-Some.number + 1) c.args.self.now (2 ^ 64 - 1) c.len.ensures.rises later (omega (arith, c.in_err-at.ensures))
