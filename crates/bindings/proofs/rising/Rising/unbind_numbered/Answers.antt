use Rattle.std.proofs.Common.{◌-◌, ◌^◌, ◌∙◌, option_map, sym, ap}
use Rattle.ui_machine.specs.State.Bindings.{is_called}
use Rattle.bindings.proofs.Keeping.{none_numbered, one_count, one_filter, other_numbered, skip_count, skip_filter}
use Rattle.bindings.proofs.rising.Rising.unbind_numbered.Goals as goal

pub returns-in_default-clause-count : goal.returns-in_default-clause-count
returns-in_default-clause-count c =
    let p = is_called c.args.name.now in
    skip_count p c.args.number c.args.self.now (none_numbered p c.args.number c.args.self.now (sym c.get.ensures ∙ ap (option_map (λ b. b.now)) c.in_default.is))

pub returns-in_default-clause-left : goal.returns-in_default-clause-left
returns-in_default-clause-left c =
    let p = is_called c.args.name.now in
    skip_filter p c.args.number c.args.self.now (none_numbered p c.args.number c.args.self.now (sym c.get.ensures ∙ ap (option_map (λ b. b.now)) c.in_default.is))

pub returns-then-not-is_called-clause-count : goal.returns-then-not-is_called-clause-count
returns-then-not-is_called-clause-count c =
    let p = is_called c.args.name.now in
    skip_count p c.args.number c.args.self.now
    (other_numbered p c.args.number c.args.self.now c.in-Some.bound.now (2 ^ 64 - 1) c.len.ensures.rises
    (sym c.get.ensures ∙ ap (option_map (λ b. b.now)) c.in-Some.is) (sym c.is_called.ensures ∙ c.if-not-is_called.true))

pub returns-then-not-is_called-clause-left : goal.returns-then-not-is_called-clause-left
returns-then-not-is_called-clause-left c =
    let p = is_called c.args.name.now in
    skip_filter p c.args.number c.args.self.now
    (other_numbered p c.args.number c.args.self.now c.in-Some.bound.now (2 ^ 64 - 1) c.len.ensures.rises
    (sym c.get.ensures ∙ ap (option_map (λ b. b.now)) c.in-Some.is) (sym c.is_called.ensures ∙ c.if-not-is_called.true))

pub returns-clause-count : goal.returns-clause-count
returns-clause-count c =
    let p = is_called c.args.name.now in
    one_count p c.args.number c.args.self.now c.in-Some.bound.now (2 ^ 64 - 1) c.len.ensures.rises
    (sym c.get.ensures ∙ ap (option_map (λ b. b.now)) c.in-Some.is) (sym c.is_called.ensures ∙ c.if-not-is_called.false)

pub returns-clause-left : goal.returns-clause-left
returns-clause-left c =
    let p = is_called c.args.name.now in
    c.remove.ensures
    ∙ one_filter p c.args.number c.args.self.now c.in-Some.bound.now (2 ^ 64 - 1) c.len.ensures.rises
    (sym c.get.ensures ∙ ap (option_map (λ b. b.now)) c.in-Some.is) (sym c.is_called.ensures ∙ c.if-not-is_called.false)
