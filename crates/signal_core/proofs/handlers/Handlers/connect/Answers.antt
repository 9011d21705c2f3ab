use Rattle.std.proofs.Common.{◌≡◌, ◌∙◌, ◌+◌, ◌-◌, ◌<◌, ℕ, List, cond, true, false, sym, ap, subst, arith}
use Rattle.std.specs.Map.{values_of}
use Rattle.ui_machine.specs.Rules.Connections.{by_code_to}
use Rattle.ui_machine.specs.State.Handlers.{Handler}
use Rattle.signal_core.specs.Connected.{Connected, connection_of, has_room, with_connection}
use Rattle.signal_core.specs.Kept.{IsKept, count_at}
use Rattle.signal_core.proofs.Changes.{more_kept, more_values, same_kept}
use Rattle.signal_core.proofs.Connecting.{code_below, connected_is, last_below}
use Rattle.signal_core.proofs.Keeping.{count_within}
use Rattle.signal_core.proofs.Numbers.{number_given}
use Rattle.signal_core.proofs.handlers.Handlers.connect.Goals as goal

pub add-requires : goal.add-requires
add-requires c =
    let before = c.self.inside in
    let now : Connected = record { handlers = values_of before.connected.entries; last = before.last; to_come = before.to_come; most = before.most } in
    let conn = connection_of c.args.connection in
    let given = number_given (has_room c.args.self.now conn) (c.args.self.now.last + 1) c.in-Some.number (sym c.number_for.ensures ∙ c.in-Some.is) in
    let next = given.1 ∙ ap (λ (w : Connected). w.last + 1) (sym c.self.view_is) in
    let room = subst (λ (w : Connected). has_room w conn ≡ true) (sym c.self.view_is) given.0 in
    let mine = ap (λ (h : Handler). h.number) c.new-handler.ensures in
    let up : before.last < c.in-Some.number = omega (arith, next) in
    let x = c.new-handler.result in
    let counted = c.self.invariant.counted x.object x.signal in
    let few = count_within (by_code_to x.object x.signal) 0 (values_of before.connected.entries) before.last c.self.invariant.rising in
    let below = last_below now conn room in
    omega (arith, counted, few, below)

pub invariant_of-self : goal.invariant_of-self
invariant_of-self c =
    let before = c.self.inside in
    let now : Connected = record { handlers = values_of before.connected.entries; last = before.last; to_come = before.to_come; most = before.most } in
    let conn = connection_of c.args.connection in
    let given = number_given (has_room c.args.self.now conn) (c.args.self.now.last + 1) c.in-Some.number (sym c.number_for.ensures ∙ c.in-Some.is) in
    let next = given.1 ∙ ap (λ (w : Connected). w.last + 1) (sym c.self.view_is) in
    let room = subst (λ (w : Connected). has_room w conn ≡ true) (sym c.self.view_is) given.0 in
    let mine = ap (λ (h : Handler). h.number) c.new-handler.ensures in
    let up : before.last < c.in-Some.number = omega (arith, next) in
    same_kept before.connected.entries before.listings before.last before.to_come c.self.invariant c.in-Some.number c.add.new.self up
    (λ h other. c.add.ensures.stays h (λ same. other (same ∙ mine))) c.in_err-add.ensures.err

pub invariant_of-self-in-Err : goal.invariant_of-self-in-Err
invariant_of-self-in-Err c =
    let before = c.self.inside in
    let now : Connected = record { handlers = values_of before.connected.entries; last = before.last; to_come = before.to_come; most = before.most } in
    let conn = connection_of c.args.connection in
    let given = number_given (has_room c.args.self.now conn) (c.args.self.now.last + 1) c.in-Some.number (sym c.number_for.ensures ∙ c.in-Some.is) in
    let next = given.1 ∙ ap (λ (w : Connected). w.last + 1) (sym c.self.view_is) in
    let room = subst (λ (w : Connected). has_room w conn ≡ true) (sym c.self.view_is) given.0 in
    let mine = ap (λ (h : Handler). h.number) c.new-handler.ensures in
    let up : before.last < c.in-Some.number = omega (arith, next) in
    let x = c.new-handler.result in
    let back : c.in-Err.refused.value.1 ≡ x = ap (λ (p : ℕ × Handler). p.1) c.in-Err.ensures.value_returned in
    let counts : (o s : ℕ) → count_at c.remove.new.self.by_code o s ≡ count_at before.listings.by_code o s = λ o s.
    let less = c.remove.ensures.counts o s ∙ ap (λ (h : Handler). count_at c.add.new.self.by_code o s - cond (by_code_to o s h) 1 0) back in
    let more = c.in_ok-add.ensures.ok o s in omega (arith, less, more) in
    subst (λ (es : List (ℕ × Handler)). IsKept es c.remove.new.self before.last before.to_come) (sym c.in-Err.ensures.err)
    (same_kept before.connected.entries before.listings before.last before.to_come c.self.invariant c.in-Some.number c.remove.new.self up
    (λ h other listed.
    c.remove.ensures.stays h (λ same. other (same ∙ ap (λ (y : Handler). y.number) back ∙ mine)) (c.add.ensures.stays h (λ same. other (same ∙ mine)) listed)) counts)

pub invariant_of-self-then-not-by_code : goal.invariant_of-self-then-not-by_code
invariant_of-self-then-not-by_code c =
    let before = c.self.inside in
    let now : Connected = record { handlers = values_of before.connected.entries; last = before.last; to_come = before.to_come; most = before.most } in
    let conn = connection_of c.args.connection in
    let given = number_given (has_room c.args.self.now conn) (c.args.self.now.last + 1) c.in-Some.number (sym c.number_for.ensures ∙ c.in-Some.is) in
    let next = given.1 ∙ ap (λ (w : Connected). w.last + 1) (sym c.self.view_is) in
    let room = subst (λ (w : Connected). has_room w conn ≡ true) (sym c.self.view_is) given.0 in
    let mine = ap (λ (h : Handler). h.number) c.new-handler.ensures in
    let up : before.last < c.in-Some.number = omega (arith, next) in
    let left = c.saturating_sub-self-inside.ensures in
    more_kept before.connected.entries before.listings before.last before.to_come c.self.invariant c.in-Some.number c.new-handler.result c.insert.new.self.entries c.add.new.self
    c.saturating_sub-self-inside.result c.in_default-insert.ensures.entries mine up (let below = last_below now conn room in omega (arith, below, next, left, c.self.invariant.room))
    (λ h other. c.add.ensures.stays h (λ same. other (same ∙ mine))) c.in_ok-add.ensures.listed c.in_ok-add.ensures.ok

pub returns-then-not-by_code-clause-ok : goal.returns-then-not-by_code-clause-ok
returns-then-not-by_code-clause-ok c =
    let before = c.self.inside in
    let now : Connected = record { handlers = values_of before.connected.entries; last = before.last; to_come = before.to_come; most = before.most } in
    let conn = connection_of c.args.connection in
    let given = number_given (has_room c.args.self.now conn) (c.args.self.now.last + 1) c.in-Some.number (sym c.number_for.ensures ∙ c.in-Some.is) in
    let next = given.1 ∙ ap (λ (w : Connected). w.last + 1) (sym c.self.view_is) in
    let room = subst (λ (w : Connected). has_room w conn ≡ true) (sym c.self.view_is) given.0 in
    let mine = ap (λ (h : Handler). h.number) c.new-handler.ensures in
    let up : before.last < c.in-Some.number = omega (arith, next) in
    let built : conn.by_code ≡ false = sym (ap (λ (h : Handler). h.by_code) c.new-handler.ensures) ∙ sym c.is_by_code-by_code.ensures ∙ c.if-not-by_code.true in
    subst (λ (w : Connected). record { handlers = values_of c.insert.new.self.entries; last = c.in-Some.number; to_come = c.saturating_sub-self-inside.result; most = before.most } ≡ with_connection w conn) c.self.view_is
    (connected_is now (values_of c.insert.new.self.entries) c.in-Some.number c.saturating_sub-self-inside.result c.new-handler.result conn
    (more_values before.connected.entries before.listings before.last before.to_come c.self.invariant c.in-Some.number c.new-handler.result c.insert.new.self.entries c.in_default-insert.ensures.entries mine up)
    c.new-handler.ensures next (c.saturating_sub-self-inside.ensures ∙ sym (ap (λ b. cond b before.to_come (before.to_come - 1)) built)))

pub invariant_of-self-else-not-by_code : goal.invariant_of-self-else-not-by_code
invariant_of-self-else-not-by_code c =
    let before = c.self.inside in
    let now : Connected = record { handlers = values_of before.connected.entries; last = before.last; to_come = before.to_come; most = before.most } in
    let conn = connection_of c.args.connection in
    let given = number_given (has_room c.args.self.now conn) (c.args.self.now.last + 1) c.in-Some.number (sym c.number_for.ensures ∙ c.in-Some.is) in
    let next = given.1 ∙ ap (λ (w : Connected). w.last + 1) (sym c.self.view_is) in
    let room = subst (λ (w : Connected). has_room w conn ≡ true) (sym c.self.view_is) given.0 in
    let mine = ap (λ (h : Handler). h.number) c.new-handler.ensures in
    let up : before.last < c.in-Some.number = omega (arith, next) in
    let code : conn.by_code ≡ true = sym (ap (λ (h : Handler). h.by_code) c.new-handler.ensures) ∙ sym c.is_by_code-by_code.ensures ∙ c.if-not-by_code.false in
    more_kept before.connected.entries before.listings before.last before.to_come c.self.invariant c.in-Some.number c.new-handler.result c.insert.new.self.entries c.add.new.self
    before.to_come c.in_default-insert.ensures.entries mine up (let below = code_below now conn room code in omega (arith, below, next))
    (λ h other. c.add.ensures.stays h (λ same. other (same ∙ mine))) c.in_ok-add.ensures.listed c.in_ok-add.ensures.ok

pub returns-else-not-by_code-clause-ok : goal.returns-else-not-by_code-clause-ok
returns-else-not-by_code-clause-ok c =
    let before = c.self.inside in
    let now : Connected = record { handlers = values_of before.connected.entries; last = before.last; to_come = before.to_come; most = before.most } in
    let conn = connection_of c.args.connection in
    let given = number_given (has_room c.args.self.now conn) (c.args.self.now.last + 1) c.in-Some.number (sym c.number_for.ensures ∙ c.in-Some.is) in
    let next = given.1 ∙ ap (λ (w : Connected). w.last + 1) (sym c.self.view_is) in
    let room = subst (λ (w : Connected). has_room w conn ≡ true) (sym c.self.view_is) given.0 in
    let mine = ap (λ (h : Handler). h.number) c.new-handler.ensures in
    let up : before.last < c.in-Some.number = omega (arith, next) in
    let code : conn.by_code ≡ true = sym (ap (λ (h : Handler). h.by_code) c.new-handler.ensures) ∙ sym c.is_by_code-by_code.ensures ∙ c.if-not-by_code.false in
    subst (λ (w : Connected). record { handlers = values_of c.insert.new.self.entries; last = c.in-Some.number; to_come = before.to_come; most = before.most } ≡ with_connection w conn) c.self.view_is
    (connected_is now (values_of c.insert.new.self.entries) c.in-Some.number before.to_come c.new-handler.result conn
    (more_values before.connected.entries before.listings before.last before.to_come c.self.invariant c.in-Some.number c.new-handler.result c.insert.new.self.entries c.in_default-insert.ensures.entries mine up)
    c.new-handler.ensures next (sym (ap (λ b. cond b before.to_come (before.to_come - 1)) code)))
