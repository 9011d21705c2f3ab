use Rattle.std.proofs.Common.{◌≡◌, ◌∙◌, ◌++◌, length, take, drop, arith}
use Rattle.std.proofs.lemmas.Grind.{common_steps}
use Rattle.bindings.proofs.Numbers.{both_set, set_below}
use Rattle.bindings.proofs.list.Bindings.setting.Goals as goal

pub invariant_of-self : goal.invariant_of-self
invariant_of-self c =
    let rising = c.self.inside.rising in
    let others = c.self.inside.others.items in
    let whole : take c.self.inside.others.len (c.mark-2.new.bound ++ drop (length c.mark-2.new.bound) others) ≡ c.mark-2.new.bound = grind (arith, common_steps) in (
      set_below c.args.number c.self.inside.next c.args.setting (rising ++ others) _ c.self.invariant.0
          (both_set c.args.number c.args.setting rising others c.mark.new.self _ c.mark.ensures (whole ∙ (rw c.deref_mut.ensures.value at c.mark-2.ensures))),
      c.self.invariant.1,
    )
