use Rattle.std.proofs.Common.{rules, ℕ, ◌+◌, List, refl, sym, subst, arith}
use Rattle.instance_tables.specs.declared.instance.Instance.{Instance}
use Rattle.instance_tables.specs.Store.{id_of}
use Rattle.instance_tables.specs.View.{held_in, instances_at}
use Rattle.instance_tables.proofs.Kin.{Well, few_with}
use Rattle.instance_tables.proofs.Noted.{is_born}
use Rattle.instance_tables.proofs.Maps.{identity_left, next_absent, stored}
use Rattle.instance_tables.proofs.table.Table.make.Goals as goal

pub overflow_add-id : goal.overflow_add-id
overflow_add-id c =
    let left = identity_left c.self.inside.instances c.self.inside.made c.self.inside.limit c.self.inside.floating.items _ c.self.invariant.0 c.self.view_is c.len-lives.ensures.ordered c.requires.identity in
    omega (arith, left)

pub insert-requires : goal.insert-requires
insert-requires c = record {
  absent = next_absent c.self.inside.instances c.self.inside.made c.self.inside.limit c.self.inside.floating.items _ c.self.invariant.0 c.self.view_is
      c.len-lives.ensures.ordered (c.self.inside.made + 1) refl;
}

pub returns-clause-made : goal.returns-clause-made
returns-clause-made c =
    let y : Instance = record { object = c.args.object; mentions = 0 } in
    stored c.self.inside.instances c.self.inside.made c.self.inside.limit c.self.inside.floating.items _ c.self.invariant.0 c.self.view_is c.len-lives.ensures.ordered
    c.insert.new.self (c.self.inside.made + 1) y c.in_ok-insert.ensures.ok refl refl

pub invariant_of-self : goal.invariant_of-self
invariant_of-self c =
    subst (λ (es : List (ℕ × Instance)). Well (instances_at es) c.self.inside.made c.self.inside.unheld c.add_names.new.self)
    (sym c.in_err-insert.ensures.err) (
      c.self.invariant.0,
      c.self.invariant.1,
      c.self.invariant.2,
      λ h t x here named. c.add_names.ensures.stays t h (c.self.invariant.3 h t x here named),
      c.self.invariant.4,
    )

pub invariant_of-self-2 : goal.invariant_of-self-2
invariant_of-self-2 c =
    let y : Instance = record { object = c.args.object; mentions = 0 } in (
      search rules,
      c.let_go.ensures (held_in (instances_at c.self.inside.instances)) (held_in (instances_at c.insert.new.self)) c.self.invariant.1
          (is_born (instances_at c.self.inside.instances) (instances_at c.insert.new.self) (c.self.inside.made + 1) y refl c.in_ok-insert.ensures.ok),
      search rules,
      search rules,
      few_with (instances_at c.self.inside.instances) (instances_at c.insert.new.self) (c.self.inside.made + 1) y c.self.invariant.4 c.holds_few.ensures c.in_ok-insert.ensures.ok,
    )
