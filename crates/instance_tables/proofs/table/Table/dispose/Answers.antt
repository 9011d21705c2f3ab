use Rattle.std.proofs.Common.{◌<◌, IsSome, List, length, sym, ap, subst, ◌∙◌}
use Rattle.std.proofs.lemmas.List.{length-map}
use Rattle.std.specs.Option.{option_map}
use Rattle.ui_machine.specs.Seq.{total}
use Rattle.ui_machine.specs.State.Objects.{living}
use Rattle.ui_machine.specs.State.References.{same}
use Rattle.ui_machine.specs.Rules.Disposal.{forgets}
use Rattle.ui_machine.specs.declared.ids.ObjectId.{ObjectId}
use Rattle.instance_tables.specs.Store.{Store, ids_of}
use Rattle.instance_tables.proofs.Disposed.{disposes, forgotten_lives, known_by}
use Rattle.instance_tables.proofs.table.Table.dispose.Goals as goal

pub empty-children-requires : goal.empty-children-requires
empty-children-requires c =
    let known = known_by c.args.weak.now in
    let now = ap (λ (s : Store). living s.objects c.args.id.0) (c.release_values.ensures.beside)
    ∙ ap (λ (s : Store). living s.objects c.args.id.0) (c.forget.ensures known.0 known.1) in
    record { live = subst IsSome (sym now) (forgotten_lives known.0 c.args.self.now.objects c.args.id.0 c.args.id.0 c.requires.live) }

pub orphan_all-requires : goal.orphan_all-requires
orphan_all-requires c = record {
  given = λ child some.
      c.empty-children.ensures.given child
      (subst (λ (is : List ObjectId). 0 < total (same child) (ids_of is)) c.deref.ensures.value some);
}

pub returns-clause-disposes : goal.returns-clause-disposes
returns-clause-disposes c d knows =
    disposes d c.args.weak.now knows c.args.self.now c.forget.new.self c.release_values.new.self c.empty-children.new.self c.orphan_all.new.self
    c.args.id.0 (ids_of c.deref.result.now) (c.forget.ensures d knows) c.release_values.ensures.counts c.release_values.ensures.beside
    c.empty-children.ensures.objects c.empty-children.ensures.beside
    (ap ids_of c.deref.ensures.value ∙ c.empty-children.ensures.children)
    c.orphan_all.ensures.objects c.orphan_all.ensures.counts c.orphan_all.ensures.beside

pub returns-clause-made : goal.returns-clause-made
returns-clause-made c =
    let known = known_by c.args.weak.now in
    c.orphan_all.ensures.made ∙ c.empty-children.ensures.made
    ∙ ap (λ (s : Store). length s.objects) c.release_values.ensures.beside
    ∙ ap (λ (s : Store). length s.objects) (c.forget.ensures known.0 known.1)
    ∙ length-map c.args.self.now.objects (option_map (forgets known.0 c.args.id.0))
