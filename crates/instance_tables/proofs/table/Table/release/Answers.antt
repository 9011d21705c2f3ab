use Rattle.std.proofs.Common.{ℕ, ◌-◌, List, is_some, refl, sym, ap, ◌∙◌, arith}
use Rattle.std.specs.Option.{option_copied_mut}
use Rattle.instance_tables.specs.Store.{Store, count_of, id_of}
use Rattle.instance_tables.specs.View.{count_in}
use Rattle.instance_tables.specs.declared.instance.Instance.{Instance}
use Rattle.instance_tables.proofs.Shown.{counted_in, count_is}
use Rattle.instance_tables.proofs.Moves.{less_at, none_less}
use Rattle.instance_tables.proofs.Maps.{written_recounted}
use Rattle.instance_tables.proofs.Kin.{less_well}
use Rattle.instance_tables.proofs.table.Table.release.Goals as goal

pub returns-in_default-clause-counts : goal.returns-in_default-clause-counts
returns-in_default-clause-counts c o =
    let none = sym c.get_mut.ensures.value ∙ ap option_copied_mut c.in_default.is in
    ap (λ (s : Store). count_of s.counts o) c.self.view_is
    ∙ none_less _ _ c.args.times (counted_in _ _ c.self.inside.limit c.self.inside.floating.items _ c.self.invariant.0 c.self.view_is _ ∙ ap count_in none) o

pub returns-clause-counts : goal.returns-clause-counts
returns-clause-counts c o =
    let here = sym c.get_mut.ensures.value ∙ ap option_copied_mut c.in-Some.is in
    let y : Instance = record { object = c.in-Some.instance.now.object; mentions = c.saturating_sub-instance.result } in
    let counted = written_recounted c.self.inside.instances _ c.self.inside.limit c.self.inside.floating.items _ c.self.invariant.0 c.self.view_is _ _ y
    here y.mentions refl refl in
    let was = count_is _ _ c.self.inside.limit c.self.inside.floating.items _ c.self.invariant.0 c.self.view_is _ _ here in
    ap (λ (s : Store). count_of s.counts o) counted
    ∙ less_at c.args.self.now.counts c.args.id.0 y.mentions c.args.times (c.self.invariant.0 c.args.id.0 (ap is_some here)).0
    (c.saturating_sub-instance.ensures ∙ ap (λ (k : ℕ). k - c.args.times) (sym was)) o

pub returns-clause-beside : goal.returns-clause-beside
returns-clause-beside c =
    let here = sym c.get_mut.ensures.value ∙ ap option_copied_mut c.in-Some.is in
    let y : Instance = record { object = c.in-Some.instance.now.object; mentions = c.saturating_sub-instance.result } in
    let counted = written_recounted c.self.inside.instances _ c.self.inside.limit c.self.inside.floating.items _ c.self.invariant.0 c.self.view_is _ _ y
    here y.mentions refl refl in
    counted ∙ ap (λ (cs : List ℕ). record c.args.self.now { counts = cs }) (sym (ap (λ (s : Store). s.counts) counted))

pub invariant_of-self-2 : goal.invariant_of-self-2
invariant_of-self-2 c =
    let here = sym c.get_mut.ensures.value ∙ ap option_copied_mut c.in-Some.is in
    let y : Instance = record { object = c.in-Some.instance.now.object; mentions = c.saturating_sub-instance.result } in
    less_well c.self.inside.instances _ _ c.self.inside.namers _ _ y here c.self.invariant c.let_go.new.self refl
    (omega (arith, c.saturating_sub-instance.ensures)) c.let_go.ensures
