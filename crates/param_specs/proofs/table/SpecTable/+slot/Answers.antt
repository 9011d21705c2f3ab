use Rattle.std.proofs.Common.{◌∙◌, ◌+◌, ap, sym, option_map}
use Rattle.param_specs.proofs.Specs.{slot-inherited, slot-own, slot-root}
use Rattle.param_specs.proofs.table.SpecTable.+slot.Goals as goal

pub returns-in_default-clause-slot : goal.returns-in_default-clause-slot
returns-in_default-clause-slot t c =
    c.own_slot-own.ensures.slot ∙ sym (slot-root c.args.tree.now c.in_default.ensures.tree c.args.self.now c.args.t c.args.name.now (sym c.in_default.ensures.parent))

pub returns-in_err-own-in-None-clause-slot : goal.returns-in_err-own-in-None-clause-slot
returns-in_err-own-in-None-clause-slot t c =
    c.from_residual.ensures ∙ ap (option_map (λ i. c.slots_of.result + i)) c.in_err-own-in-None.ensures.slot
    ∙ sym (slot-own c.args.tree.now c.in-Some.ensures.tree c.args.self.now c.args.t c.in-Some.parent c.slots_of.result c.args.name.now (sym c.in-Some.ensures.parent) (sym c.in-None.ensures.slot) c.slots_of.ensures.count)

pub returns-in-Some-slot-clause-slot : goal.returns-in-Some-slot-clause-slot
returns-in-Some-slot-clause-slot t c = sym (slot-inherited c.args.tree.now c.in-Some.ensures.tree c.args.self.now c.args.t c.in-Some.parent c.in-Some-slot.slot c.args.name.now (sym c.in-Some.ensures.parent) (sym c.in-Some-slot.ensures.slot))

pub returns-in_ok-own-in-None-clause-slot : goal.returns-in_ok-own-in-None-clause-slot
returns-in_ok-own-in-None-clause-slot t c =
    ap (option_map (λ i. c.slots_of.result + i)) c.in_ok-own-in-None.ensures.slot
    ∙ sym (slot-own c.args.tree.now c.in-Some.ensures.tree c.args.self.now c.args.t c.in-Some.parent c.slots_of.result c.args.name.now (sym c.in-Some.ensures.parent) (sym c.in-None.ensures.slot) c.slots_of.ensures.count)
