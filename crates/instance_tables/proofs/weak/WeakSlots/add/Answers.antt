use Rattle.std.proofs.Common.{ap, ◌∙◌}
use Rattle.std.specs.List.{list_any}
use Rattle.instance_tables.proofs.Marks.{said_more}
use Rattle.instance_tables.proofs.weak.WeakSlots.add.Goals as goal

pub invariant_of-self-2 : goal.invariant_of-self-2
invariant_of-self-2 c =
    said_more (λ v. v.items) _ _ c.self.inside.classes.items _ c.args.slots c.self.invariant
    (c.is_any_weak-is_weak.ensures ∙ ap (list_any (λ b. b)) c.deref.ensures.value) c.in_ok-push.ensures.items
