use Rattle.std.proofs.Common.{◌∙◌, List, option_map, sym, ap}
use Rattle.ui_machine.specs.Rules.Connections.{blocked, is_on}
use Rattle.ui_machine.specs.State.Handlers.{Handler}
use Rattle.signal_core.proofs.Keeping.{none_numbered, one_change, one_count, other_numbered, skip_count, skip_map}
use Rattle.signal_core.proofs.handlers.Handlers.block_on.Goals as goal

pub returns-in_default-clause-count : goal.returns-in_default-clause-count
returns-in_default-clause-count c =
    let p = is_on c.args.object.0 c.args.program in
    skip_count p c.args.number c.args.self.now.handlers
    (none_numbered p c.args.number c.args.self.now.handlers (sym c.handler.ensures.found ∙ ap (option_map (λ h. h.now)) c.in_default.is))

pub returns-in_default-clause-blocked : goal.returns-in_default-clause-blocked
returns-in_default-clause-blocked c =
    let p = is_on c.args.object.0 c.args.program in
    ap (λ (hs : List Handler). record c.args.self.now { handlers = hs })
    (skip_map p c.args.number c.args.self.now.handlers
    (none_numbered p c.args.number c.args.self.now.handlers (sym c.handler.ensures.found ∙ ap (option_map (λ h. h.now)) c.in_default.is)) blocked)

pub returns-then-not-is_on-clause-count : goal.returns-then-not-is_on-clause-count
returns-then-not-is_on-clause-count c =
    let p = is_on c.args.object.0 c.args.program in
    skip_count p c.args.number c.args.self.now.handlers
    (other_numbered p c.args.number c.args.self.now.handlers c.in-Some.handler.now c.args.self.now.last c.handler.ensures.rises
    (sym c.handler.ensures.found ∙ ap (option_map (λ h. h.now)) c.in-Some.is) (sym c.is_on.ensures ∙ c.if-not-is_on.true))

pub returns-then-not-is_on-clause-blocked : goal.returns-then-not-is_on-clause-blocked
returns-then-not-is_on-clause-blocked c =
    let p = is_on c.args.object.0 c.args.program in
    ap (λ (hs : List Handler). record c.args.self.now { handlers = hs })
    (skip_map p c.args.number c.args.self.now.handlers
    (other_numbered p c.args.number c.args.self.now.handlers c.in-Some.handler.now c.args.self.now.last c.handler.ensures.rises
    (sym c.handler.ensures.found ∙ ap (option_map (λ h. h.now)) c.in-Some.is) (sym c.is_on.ensures ∙ c.if-not-is_on.true)) blocked)

pub returns-clause-count : goal.returns-clause-count
returns-clause-count c =
    let p = is_on c.args.object.0 c.args.program in
    one_count p c.args.number c.args.self.now.handlers c.in-Some.handler.now c.args.self.now.last c.handler.ensures.rises
    (sym c.handler.ensures.found ∙ ap (option_map (λ h. h.now)) c.in-Some.is) (sym c.is_on.ensures ∙ c.if-not-is_on.false)

pub returns-clause-blocked : goal.returns-clause-blocked
returns-clause-blocked c =
    let p = is_on c.args.object.0 c.args.program in
    c.block.ensures
    ∙ ap (λ (hs : List Handler). record c.args.self.now { handlers = hs })
    (one_change p c.args.number c.args.self.now.handlers c.in-Some.handler.now c.args.self.now.last c.handler.ensures.rises
    (sym c.handler.ensures.found ∙ ap (option_map (λ h. h.now)) c.in-Some.is) (sym c.is_on.ensures ∙ c.if-not-is_on.false) blocked)
