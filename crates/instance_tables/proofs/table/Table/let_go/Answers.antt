use Rattle.std.proofs.Common.{ℕ, ◌-◌, refl, sym, ap, ◌∙◌, arith}
use Rattle.std.specs.Option.{option_copied_mut}
use Rattle.instance_tables.specs.Store.{id_of}
use Rattle.instance_tables.specs.declared.instance.Instance.{Instance}
use Rattle.instance_tables.proofs.Shown.{not_held, count_is}
use Rattle.instance_tables.proofs.Maps.{written_recounted}
use Rattle.instance_tables.proofs.Kin.{less_well}
use Rattle.instance_tables.proofs.table.Table.let_go.Goals as goal

pub returns-in_default : goal.returns-in_default
returns-in_default c =
    let none = sym c.get_mut.ensures.value ∙ ap option_copied_mut c.in_default.is in
    absurd (not_held _ _ c.self.inside.limit c.self.inside.floating.items _ c.self.invariant.0 c.self.view_is _ none c.requires.held)

pub overflow_sub-instance : goal.overflow_sub-instance
overflow_sub-instance c =
    let here = sym c.get_mut.ensures.value ∙ ap option_copied_mut c.in-Some.is in
    let same = count_is _ _ c.self.inside.limit c.self.inside.floating.items _ c.self.invariant.0 c.self.view_is _ _ here in
    omega (arith, same, c.requires.held)

pub returns : goal.returns
returns c =
    let here = sym c.get_mut.ensures.value ∙ ap option_copied_mut c.in-Some.is in
    let same = count_is _ _ c.self.inside.limit c.self.inside.floating.items _ c.self.invariant.0 c.self.view_is _ _ here in
    let y : Instance = record { object = c.in-Some.instance.now.object; mentions = c.in-Some.instance.now.mentions - 1 } in
    written_recounted c.self.inside.instances _ c.self.inside.limit c.self.inside.floating.items _ c.self.invariant.0 c.self.view_is _ _ y
    here _ refl (ap (λ (k : ℕ). k - 1) (sym same))

pub invariant_of-self-2 : goal.invariant_of-self-2
invariant_of-self-2 c =
    let here = sym c.get_mut.ensures.value ∙ ap option_copied_mut c.in-Some.is in
    let y : Instance = record { object = c.in-Some.instance.now.object; mentions = c.in-Some.instance.now.mentions - 1 } in
    less_well c.self.inside.instances _ _ c.self.inside.namers _ _ y here c.self.invariant c.let_go.new.self refl
    (omega arith) c.let_go.ensures
