use Rattle.std.proofs.Common.{◌≡◌, ◌∙◌, ℕ, List, cond, map, nat_eq, refl, sym, ap, subst}
use Rattle.std.specs.BTreeMap.{BTreeMap}
use Rattle.std.specs.Map.{values_of}
use Rattle.std.specs.Option.{option_copied_mut}
use Rattle.ui_machine.specs.Rules.Connections.{blocked}
use Rattle.ui_machine.specs.State.Handlers.{Handler}
use Rattle.signal_core.specs.Connected.{Connected}
use Rattle.signal_core.specs.Kept.{IsBeside, count_at}
use Rattle.signal_core.specs.declared.code_counts.CodeCounts.{CodeCounts}
use Rattle.signal_core.proofs.Changes.{at_number, written_kept, written_values}
use Rattle.signal_core.proofs.Keeping.{found_number, none_map, same_map}
use Rattle.signal_core.proofs.handlers.Handlers.block.Goals as goal

pub returns-in_default : goal.returns-in_default
returns-in_default c =
    let before = c.self.inside in
    let none = sym (at_number before.connected.entries before.listings before.last before.to_come c.self.invariant c.args.number) ∙ sym c.get_mut.ensures.value ∙ ap option_copied_mut c.in_default.is in
    let same : c.get_mut.follows.lender-at-none ≡ before.connected = c.get_mut.follows.holds-at-none in
    subst (λ (w : Connected). record { handlers = values_of c.get_mut.follows.lender-at-none.entries; last = before.last; to_come = before.to_come; most = before.most } ≡ record w { handlers = map (λ h. cond (nat_eq h.number c.args.number) (blocked h) h) w.handlers }) c.self.view_is
    (ap (λ (hs : List Handler). record { handlers = hs; last = before.last; to_come = before.to_come; most = before.most })
    (ap (λ (m : BTreeMap ℕ Handler). values_of m.entries) same ∙ sym (none_map blocked c.args.number (values_of before.connected.entries) none)))

pub invariant_of-self-2 : goal.invariant_of-self-2
invariant_of-self-2 c =
    let before = c.self.inside in
    let found = sym (at_number before.connected.entries before.listings before.last before.to_come c.self.invariant c.args.number) ∙ sym c.get_mut.ensures.value ∙ ap option_copied_mut c.in-Some.is in
    let x = c.in-Some.handler.now in
    let w = c.block.new.self in
    let number = ap (λ (h : Handler). h.number) c.block.ensures ∙ found_number c.args.number x (values_of before.connected.entries) found in
    let beside : IsBeside w x = c.block.ensures ∙ ap (λ (b : ℕ). record x { blocks = b }) (sym (ap (λ (h : Handler). h.blocks) c.block.ensures)) in
    written_kept before.connected.entries before.listings before.last before.to_come c.self.invariant c.args.number w (c.get_mut.follows.lender w).entries (c.get_mut.follows.holds w).0
    number c.leave.new.self x found (λ h other. c.leave.ensures.stays h (λ same. other (same ∙ number))) (λ mine. c.leave.ensures.listed x mine beside) (λ o s. ap (λ (k : CodeCounts). count_at k o s) c.leave.ensures.counts) (λ o s. rw c.block.ensures refl)

pub returns : goal.returns
returns c =
    let before = c.self.inside in
    let found = sym (at_number before.connected.entries before.listings before.last before.to_come c.self.invariant c.args.number) ∙ sym c.get_mut.ensures.value ∙ ap option_copied_mut c.in-Some.is in
    let x = c.in-Some.handler.now in
    let w = c.block.new.self in
    subst (λ (v : Connected). record { handlers = values_of (c.get_mut.follows.lender w).entries; last = before.last; to_come = before.to_come; most = before.most } ≡ record v { handlers = map (λ h. cond (nat_eq h.number c.args.number) (blocked h) h) v.handlers }) c.self.view_is
    (ap (λ (hs : List Handler). record { handlers = hs; last = before.last; to_come = before.to_come; most = before.most })
    (written_values before.connected.entries before.listings before.last before.to_come c.self.invariant c.args.number w (c.get_mut.follows.lender w).entries (c.get_mut.follows.holds w).0
    (ap (λ (h : Handler). h.number) c.block.ensures ∙ found_number c.args.number x (values_of before.connected.entries) found)
    ∙ ap (λ (y : Handler). map (λ h. cond (nat_eq h.number c.args.number) y h) (values_of before.connected.entries)) c.block.ensures
    ∙ same_map blocked c.args.number x (values_of before.connected.entries) before.last c.self.invariant.rising found))
