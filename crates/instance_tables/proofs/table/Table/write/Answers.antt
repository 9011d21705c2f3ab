use Rattle.std.proofs.Common.{◌≡◌, cond, IsOk, sym, ap, subst, ◌∙◌, arith}
use Rattle.g_values.specs.View.{value_view}
use Rattle.ui_machine.specs.State.Objects.{Objects, asked, living, value_at}
use Rattle.ui_machine.specs.State.References.{in_option, in_value}
use Rattle.instance_tables.specs.Store.{Store, count_of, id_of, may_hold_any}
use Rattle.instance_tables.specs.Weak.{strong_in}
use Rattle.instance_tables.proofs.Written.{by_name, same_read, writes_same}
use Rattle.instance_tables.proofs.table.Table.write.Goals as goal

pub replace-old-requires : goal.replace-old-requires
replace-old-requires c = record {
  slot = subst (λ (os : Objects). IsOk (asked os c.args.id.0 (value_at c.args.slot)))
      (sym (ap (λ (s : Store). s.objects) c.move_mention.ensures.beside ∙ ap (λ (s : Store). s.objects) c.limit_namers.ensures)) c.requires.slot;
}

pub returns-clause-changes : goal.returns-clause-changes
returns-clause-changes c =
    writes_same c.args.self.now.objects c.move_mention.new.self.objects c.replace-old.new.self.objects c.remove_namer.new.self.objects c.args.id.0
    c.args.slot (value_view c.args.value) (value_view c.replace-old.result)
    (ap (λ (s : Store). s.objects) c.move_mention.ensures.beside ∙ ap (λ (s : Store). s.objects) c.limit_namers.ensures)
    (ap (λ (s : Store). s.objects) c.remove_namer.ensures) c.replace-old.ensures.changes

pub returns-clause-moves : goal.returns-clause-moves
returns-clause-moves c room o =
    let new = value_view c.args.value in
    let was = value_view c.replace-old.result in
    let strong = strong_in c.args.weak.now c.args.slot (living c.args.self.now.objects c.args.id.0) in
    let objects = ap (λ (s : Store). s.objects) c.move_mention.ensures.beside ∙ ap (λ (s : Store). s.objects) c.limit_namers.ensures in
    let is = same_read c.args.self.now.objects c.move_mention.new.self.objects c.replace-old.new.self.objects c.args.id.0 c.args.slot new
    (value_view c.read.result.now) was objects c.read.ensures c.replace-old.ensures.changes in
    let gain : cond c.is_strong-is_strong.result (in_option o (id_of c.named-to.result)) 0 ≡ cond strong (in_value o new) 0 =
    ap (λ b. cond b (in_option o (id_of c.named-to.result)) 0) c.is_strong-is_strong.ensures
    ∙ ap (λ n. cond strong n 0) (ap (in_option o) c.named-to.ensures ∙ by_name o new) in
    let loss : cond c.is_strong-is_strong.result (in_option o (id_of c.named-was.result)) 0 ≡ cond strong (in_value o was) 0 =
    ap (λ b. cond b (in_option o (id_of c.named-was.result)) 0) c.is_strong-is_strong.ensures
    ∙ ap (λ n. cond strong n 0)
    (ap (in_option o) c.named-was.ensures ∙ by_name o (value_view c.read.result.now) ∙ ap (in_value o) is) in
    omega (
      arith,
      ap (λ (s : Store). count_of s.counts o) (c.remove_namer.ensures ∙ c.replace-old.ensures.beside),
      c.move_mention.ensures.moves (ap (λ (s : Store). may_hold_any s (id_of c.named-to.result)) c.limit_namers.ensures ∙ ap (may_hold_any c.args.self.now) c.named-to.ensures ∙ room) o,
      ap (λ (s : Store). count_of s.counts o) c.limit_namers.ensures,
      gain,
      loss,
    )

pub returns-clause-lets_go : goal.returns-clause-lets_go
returns-clause-lets_go c room o =
    let was = value_view c.replace-old.result in
    let strong = strong_in c.args.weak.now c.args.slot (living c.args.self.now.objects c.args.id.0) in
    let objects = ap (λ (s : Store). s.objects) c.move_mention.ensures.beside ∙ ap (λ (s : Store). s.objects) c.limit_namers.ensures in
    let is = same_read c.args.self.now.objects c.move_mention.new.self.objects c.replace-old.new.self.objects c.args.id.0 c.args.slot (value_view c.args.value)
    (value_view c.read.result.now) was objects c.read.ensures c.replace-old.ensures.changes in
    let loss : cond c.is_strong-is_strong.result (in_option o (id_of c.named-was.result)) 0 ≡ cond strong (in_value o was) 0 =
    ap (λ b. cond b (in_option o (id_of c.named-was.result)) 0) c.is_strong-is_strong.ensures
    ∙ ap (λ n. cond strong n 0)
    (ap (in_option o) c.named-was.ensures ∙ by_name o (value_view c.read.result.now) ∙ ap (in_value o) is) in
    omega (
      arith,
      ap (λ (s : Store). count_of s.counts o) (c.remove_namer.ensures ∙ c.replace-old.ensures.beside),
      c.move_mention.ensures.lets_go (ap (λ (s : Store). may_hold_any s (id_of c.named-to.result)) c.limit_namers.ensures ∙ ap (may_hold_any c.args.self.now) c.named-to.ensures ∙ room) o,
      ap (λ (s : Store). count_of s.counts o) c.limit_namers.ensures,
      loss,
    )
