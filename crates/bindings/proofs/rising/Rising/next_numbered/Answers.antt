use Rattle.std.proofs.Common.{◌∙◌, ◌-◌, ◌^◌, option_map, sym, ap}
use Rattle.bindings.specs.Made.{is_next}
use Rattle.bindings.proofs.Keeping.{found_one, none_numbered, other_numbered, skip_find}
use Rattle.bindings.proofs.rising.Rising.next_numbered.Goals as goal

pub returns-in_err-bound : goal.returns-in_err-bound
returns-in_err-bound c =
    let p = is_next c.args.object.0 c.args.slot c.args.from in
    ap (option_map (λ b. b.now)) c.from_residual.ensures
    ∙ skip_find p c.args.number c.args.self.now (none_numbered p c.args.number c.args.self.now (sym c.get.ensures ∙ ap (option_map (λ b. b.now)) c.in_err-bound.was))

pub returns-then-is_next : goal.returns-then-is_next
returns-then-is_next c =
    let p = is_next c.args.object.0 c.args.slot c.args.from in
    found_one p c.args.number c.in_ok-bound.bound.now c.args.self.now (sym c.get.ensures ∙ ap (option_map (λ b. b.now)) c.in_ok-bound.was) (sym c.is_next.ensures ∙ c.if-is_next.true)

pub returns-else-is_next : goal.returns-else-is_next
returns-else-is_next c =
    let p = is_next c.args.object.0 c.args.slot c.args.from in
    skip_find p c.args.number c.args.self.now
    (other_numbered p c.args.number c.args.self.now c.in_ok-bound.bound.now (2 ^ 64 - 1) c.len.ensures.rises
    (sym c.get.ensures ∙ ap (option_map (λ b. b.now)) c.in_ok-bound.was) (sym c.is_next.ensures ∙ c.if-is_next.false))
