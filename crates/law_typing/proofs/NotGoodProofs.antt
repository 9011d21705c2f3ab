-- Neither is good.
use Rattle.std.proofs.Common.{◌≡◌, sym, subst, ap, ◌∙◌, ℕ, zero, true, List, [], ◌∷◌, Option, None, Some, slice_get}
use Rattle.ui_machine.specs.Definition.Kinds as kinds
use Rattle.ui_machine.specs.Definition.Values as values
use Rattle.ui_machine.specs.Definition.Programs.{Block, Program}
use Rattle.law_typing.specs.Rules.RegisterKinds.{Kinds, kind_in}
use Rattle.law_typing.specs.Good.Standing.{standing, holds}
use Rattle.law_typing.specs.Laws.NotGood.{definition, two, NotGood}

abbrev registers_of : Option Program → ℕ
registers_of None = 0
registers_of (Some p) = p.registers

abbrev entry_of : Option Block → Kinds
entry_of None = []
entry_of (Some b) = b.entry

abbrev blocks_of : Option Program → List Block
blocks_of None = []
blocks_of (Some p) = p.blocks

pub not_good : NotGood
not_good = record {
  short = λ costs depths most_counted most g. (
      let r = g.agenda.3.1 in
      let two : 2 ≡ r.p.registers = ap registers_of r.is in
      let none = r.counted in
      absurd (cc));
  astray = λ costs depths most_counted most g. (
      let r = g.agenda.3.1 in
      let blocks = ap blocks_of r.is in
      let first = ap entry_of (ap (λ bs. slice_get bs 0) blocks ∙ r.in_block) in
      let kinds_are : r.ks ≡ kinds.some 1 ∷ kinds.plain kinds.bool ∷ [] = r.at_site ∙ sym first in
      let fit = r.fit zero in
      absurd (let wrong = subst (λ ks. holds definition (standing (Some two ∷ [])) (kind_in ks 0) (Some (values.object (Some 1))) ≡ true) kinds_are fit in cc));
}
