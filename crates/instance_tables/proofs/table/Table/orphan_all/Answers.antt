use Rattle.std.proofs.Common.{◌≡◌, ℕ, ◌+◌, ◌≤◌, ◌++◌, ◌∷◌, [], List, None, length, get_or, take, sym, ap, ◌∙◌, arith}
use Rattle.std.proofs.lemmas.List.{map_more}
use Rattle.ui_machine.specs.Seq.{total}
use Rattle.ui_machine.specs.State.Objects.{Objects}
use Rattle.ui_machine.specs.State.References.{same}
use Rattle.ui_machine.specs.Rules.Children.{updated, with_parent}
use Rattle.ui_machine.specs.Rules.Disposal.{orphans}
use Rattle.ui_machine.specs.declared.ids.ObjectId.{ObjectId}
use Rattle.instance_tables.specs.Store.{Store, count_of, ids_of}
use Rattle.instance_tables.proofs.Exact.{one_more}
use Rattle.instance_tables.proofs.Families.{length_updated}
use Rattle.instance_tables.proofs.Released.{both_changed, orphans_more, stands}
use Rattle.instance_tables.proofs.table.Table.orphan_all.Goals as goal

pub give_parent-requires-clause-given : goal.give_parent-requires-clause-given
give_parent-requires-clause-given c =
    let none : ObjectId = record { 0 = 0 } in
    omega (
      arith,
      c.loop-child.invariant.long,
      c.requires.given _ (stands c.args.children.now c.loop-child.child-index none c.loop-child-test.true),
    )

pub loop-child-preserved : goal.loop-child-preserved
loop-child-preserved c =
    let children = c.args.children.now in
    let i = c.loop-child.child-index in
    let none : ObjectId = record { 0 = 0 } in
    let child : ℕ = (get_or children i none).0 in
    let done : List ℕ = ids_of (take i children) in
    let next : ids_of (take (i + 1) children) ≡ done ++ child ∷ [] = map_more (λ (j : ObjectId). j.0) children i none c.loop-child-test.true in
    let was = c.loop-child.invariant in
    let kept = ap (λ (s : Store). s.objects) c.release.ensures.beside in
    let small : child ≤ length c.loop-child.self.objects = omega (arith, was.long, c.requires.given child (stands children i none c.loop-child-test.true)) in
    record {
      objects = kept ∙ c.give_parent.ensures.objects ∙ ap (updated (with_parent None) child) was.objects
          ∙ sym (orphans_more done child c.args.self.now.objects)
          ∙ ap (λ (is : List ℕ). orphans is c.args.self.now.objects) (sym next);
      long = ap (λ (os : Objects). length os) (kept ∙ c.give_parent.ensures.objects)
          ∙ length_updated (with_parent None) c.loop-child.self.objects child small ∙ was.long;
      counts = λ o.
          omega (
            arith,
            c.release.ensures.counts o,
            ap (λ (s : Store). count_of s.counts o) c.give_parent.ensures.beside,
            was.counts o,
            ap (λ (is : List ℕ). total (same o) is) next,
            one_more o child done,
          );
      beside = both_changed c.args.self.now c.loop-child.self c.give_parent.new.self c.release.new.self was.beside
          c.give_parent.ensures.beside c.release.ensures.beside;
    }
