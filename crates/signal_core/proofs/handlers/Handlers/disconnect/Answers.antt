use Rattle.std.proofs.Common.{◌≡◌, ◌∙◌, List, not, nat_eq, sym, ap, subst}
use Rattle.std.specs.List.{filter}
use Rattle.std.specs.Map.{values_of}
use Rattle.ui_machine.specs.State.Handlers.{Handler}
use Rattle.signal_core.specs.Connected.{Connected}
use Rattle.signal_core.proofs.Changes.{at_number, gone_kept, gone_values}
use Rattle.signal_core.proofs.Keeping.{found_number}
use Rattle.signal_core.proofs.handlers.Handlers.disconnect.Goals as goal

pub returns-in_default : goal.returns-in_default
returns-in_default c =
    let before = c.self.inside in
    subst (λ (w : Connected). record { handlers = values_of c.remove.new.self.entries; last = before.last; to_come = before.to_come; most = before.most } ≡ record w { handlers = filter (λ h. not (nat_eq h.number c.args.number)) w.handlers }) c.self.view_is
    (ap (λ (hs : List Handler). record { handlers = hs; last = before.last; to_come = before.to_come; most = before.most })
    (gone_values before.connected.entries before.listings before.last before.to_come c.self.invariant c.args.number c.remove.new.self.entries c.remove.ensures.entries))

pub invariant_of-self-2 : goal.invariant_of-self-2
invariant_of-self-2 c =
    let before = c.self.inside in
    gone_kept before.connected.entries before.listings before.last before.to_come c.self.invariant c.args.number c.in-Some.handler c.remove.new.self.entries c.remove-2.new.self
    c.remove.ensures.entries
    (sym (at_number before.connected.entries before.listings before.last before.to_come c.self.invariant c.args.number) ∙ sym c.remove.ensures.value ∙ c.in-Some.is)
    (λ h other. c.remove-2.ensures.stays h (λ same. other (same ∙ found_number c.args.number c.in-Some.handler (values_of before.connected.entries)
    (sym (at_number before.connected.entries before.listings before.last before.to_come c.self.invariant c.args.number) ∙ sym c.remove.ensures.value ∙ c.in-Some.is))))
    c.remove-2.ensures.counts

pub returns : goal.returns
returns c =
    let before = c.self.inside in
    subst (λ (w : Connected). record { handlers = values_of c.remove.new.self.entries; last = before.last; to_come = before.to_come; most = before.most } ≡ record w { handlers = filter (λ h. not (nat_eq h.number c.args.number)) w.handlers }) c.self.view_is
    (ap (λ (hs : List Handler). record { handlers = hs; last = before.last; to_come = before.to_come; most = before.most })
    (gone_values before.connected.entries before.listings before.last before.to_come c.self.invariant c.args.number c.remove.new.self.entries c.remove.ensures.entries))
