use Rattle.std.proofs.Common.{◌∙◌, List, option_map, sym, ap}
use Rattle.ui_machine.specs.Rules.Connections.{is_on}
use Rattle.ui_machine.specs.State.Handlers.{Handler}
use Rattle.signal_core.proofs.Keeping.{none_numbered, one_count, one_filter, other_numbered, skip_count, skip_filter}
use Rattle.signal_core.proofs.handlers.Handlers.disconnect_on.Goals as goal

pub returns-in_default-clause-count : goal.returns-in_default-clause-count
returns-in_default-clause-count c =
    let p = is_on c.args.object.0 c.args.program in
    skip_count p c.args.number c.args.self.now.handlers
    (none_numbered p c.args.number c.args.self.now.handlers (sym c.handler.ensures.found ∙ ap (option_map (λ h. h.now)) c.in_default.is))

pub returns-in_default-clause-left : goal.returns-in_default-clause-left
returns-in_default-clause-left c =
    let p = is_on c.args.object.0 c.args.program in
    ap (λ (hs : List Handler). record c.args.self.now { handlers = hs })
    (skip_filter p c.args.number c.args.self.now.handlers
    (none_numbered p c.args.number c.args.self.now.handlers (sym c.handler.ensures.found ∙ ap (option_map (λ h. h.now)) c.in_default.is)))

pub returns-then-not-is_on-clause-count : goal.returns-then-not-is_on-clause-count
returns-then-not-is_on-clause-count c =
    let p = is_on c.args.object.0 c.args.program in
    skip_count p c.args.number c.args.self.now.handlers
    (other_numbered p c.args.number c.args.self.now.handlers c.in-Some.handler.now c.args.self.now.last c.handler.ensures.rises
    (sym c.handler.ensures.found ∙ ap (option_map (λ h. h.now)) c.in-Some.is) (sym c.is_on.ensures ∙ c.if-not-is_on.true))

pub returns-then-not-is_on-clause-left : goal.returns-then-not-is_on-clause-left
returns-then-not-is_on-clause-left c =
    let p = is_on c.args.object.0 c.args.program in
    ap (λ (hs : List Handler). record c.args.self.now { handlers = hs })
    (skip_filter p c.args.number c.args.self.now.handlers
    (other_numbered p c.args.number c.args.self.now.handlers c.in-Some.handler.now c.args.self.now.last c.handler.ensures.rises
    (sym c.handler.ensures.found ∙ ap (option_map (λ h. h.now)) c.in-Some.is) (sym c.is_on.ensures ∙ c.if-not-is_on.true)))

pub returns-clause-count : goal.returns-clause-count
returns-clause-count c =
    let p = is_on c.args.object.0 c.args.program in
    one_count p c.args.number c.args.self.now.handlers c.in-Some.handler.now c.args.self.now.last c.handler.ensures.rises
    (sym c.handler.ensures.found ∙ ap (option_map (λ h. h.now)) c.in-Some.is) (sym c.is_on.ensures ∙ c.if-not-is_on.false)

pub returns-clause-left : goal.returns-clause-left
returns-clause-left c =
    let p = is_on c.args.object.0 c.args.program in
    c.disconnect.ensures
    ∙ ap (λ (hs : List Handler). record c.args.self.now { handlers = hs })
    (one_filter p c.args.number c.args.self.now.handlers c.in-Some.handler.now c.args.self.now.last c.handler.ensures.rises
    (sym c.handler.ensures.found ∙ ap (option_map (λ h. h.now)) c.in-Some.is) (sym c.is_on.ensures ∙ c.if-not-is_on.false))
