use Rattle.std.proofs.Common.{◌-◌, List, Bool, false, cond, Option, [], get_or, sym, ap, ◌∙◌, arith}
use Rattle.std.proofs.Math.Nat.{sub-zero}
use Rattle.std.proofs.lemmas.List.{take_all}
use Rattle.std.specs.Option.{option_copied}
use Rattle.ui_machine.specs.Seq.{read}
use Rattle.ui_machine.specs.State.Objects.{Object, living}
use Rattle.ui_machine.specs.State.References.{in_option}
use Rattle.instance_tables.specs.Store.{Store, count_of}
use Rattle.instance_tables.specs.Release.{in_strong, marks_in, name_at, values_in}
use Rattle.instance_tables.specs.View.{object_in}
use Rattle.instance_tables.proofs.Shown.{found_in}
use Rattle.instance_tables.proofs.Released.{strong_more}
use Rattle.instance_tables.proofs.table.Table.release_values.Goals as goal

pub returns-in_default-clause-counts : goal.returns-in_default-clause-counts
returns-in_default-clause-counts c i =
    let none = sym c.get.ensures.value ∙ ap option_copied c.in_default.is in
    let gone = found_in _ _ c.self.inside.limit c.self.inside.floating.items _ c.self.invariant.0 c.self.view_is _ ∙ ap object_in none in
    sym (sub-zero (count_of c.args.self.now.counts i))
    ∙ ap (λ (o : Option Object). count_of c.args.self.now.counts i - in_strong i (marks_in c.args.weak.now o) (values_in o)) (sym gone)

pub loop-slot-preserved : goal.loop-slot-preserved
loop-slot-preserved c =
    let bs = c.of-slots.result.now in
    let slot = c.loop-slot.slot in
    let o = living c.args.self.now.objects c.args.id.0 in
    let was = c.loop-slot.invariant in
    let same_objects = ap (λ (s : Store). s.objects) was.beside in
    record {
      counts = λ i.
          let here =
          ap (λ os. cond (get_or bs slot false) 0 (in_option i (name_at slot (living os c.args.id.0)))) same_objects in
          omega (
            arith,
            c.release_slot.ensures.counts i,
            here,
            was.counts i,
            strong_more i bs (values_in o) slot false c.loop-slot-test.true,
          );
      beside = c.release_slot.ensures.beside ∙ ap (λ (s : Store). record s { counts = c.release_slot.new.self.counts }) was.beside;
    }

pub returns-clause-counts : goal.returns-clause-counts
returns-clause-counts c i =
    let here = sym c.get.ensures.value ∙ ap option_copied c.in-Some.is in
    let lives = found_in _ _ c.self.inside.limit c.self.inside.floating.items _ c.self.invariant.0 c.self.view_is _ ∙ ap object_in here in
    let o = living c.args.self.now.objects c.args.id.0 in
    let marks = c.of-slots.ensures ∙ ap (read [] c.args.weak.now) c.class.ensures ∙ ap (marks_in c.args.weak.now) (sym lives) in
    c.loop-slot.invariant.counts i
    ∙ ap (λ (bs : List Bool). count_of c.args.self.now.counts i - in_strong i bs (values_in o))
    (take_all c.loop-slot.slot c.of-slots.result.now c.loop-slot-test.false ∙ marks)
