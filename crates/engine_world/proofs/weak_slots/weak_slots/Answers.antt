use Rattle.std.proofs.Common.{◌≡◌, ℕ, suc, ◌+◌, ◌<◌, ◌^◌, ◌++◌, ◌∷◌, [], length, Bool, List, ap, sym, rules, ◌∙◌, arith, length-append}
use Rattle.ui_machine.specs.Seq.{read}
use Rattle.ui_machine.specs.Definition.Lookups.{specs_of}
use Rattle.instance_tables.specs.Weak.{Marks}
use Rattle.engine_world.specs.WeakView.{weak_of}
use Rattle.std.proofs.lemmas.Bool.{cases_lt}
use Rattle.std.proofs.Common.{inl, inr}
use Rattle.engine_world.proofs.Marks.{one_type_more, read_past}
use Rattle.engine_world.proofs.weak_slots.weak_slots.Goals as goal

pub types-init : goal.types-init
types-init c = record {
  long = ap length c.new-weak.ensures;
  known = λ class small. absurd (omega arith);
}

pub overflow_cast-class : goal.overflow_cast-class
overflow_cast-class c =
    let few = c.parent-root.ensures.tree.few in
    let below : c.types.class < 2 ^ 16 = omega (arith, c.len-count.ensures, few, c.types-test.true) in
    search (rules, below)

pub types-preserved : goal.types-preserved
types-preserved c =
    let d = c.args.definition.now in
    let n = c.types.class in
    let rows = c.types.weak in
    let i = c.types.invariant in
    let next : n + 1 ≡ suc n = omega arith in
    let row = c.in_ok-weak_of.ensures ∙ ap (λ (k : ℕ). weak_of (specs_of d k)) c.new-in-types.ensures in
    let added : c.add.new.self ≡ rows ++ weak_of (specs_of d n) ∷ [] = c.in_ok-add.ensures.ok ∙ ap (λ (r : List Bool). rows ++ r ∷ []) row in
    record {
      long = omega (arith, ap length added, length-append rows (weak_of (specs_of d n) ∷ []), i.long);
      known = λ class small.
          one_type_more (λ k. weak_of (specs_of d k)) rows n i.long i.known class (omega (arith, small, next))
          ∙ ap (λ (m : Marks). read [] m class) (sym added);
    }

pub returns : goal.returns
returns c class =
    let d = c.args.definition.now in
    let all = ap length c.types-types.ensures.types in
    let i = c.types.invariant in
    elim (cases_lt class (length d.types)) as (λ _. weak_of (specs_of d class) ≡ read [] c.types.weak class) [
      | inl small ↦ i.known class (omega (arith, c.types-test.false, c.len-count.ensures, all, small))
      | inr past ↦
          ap weak_of (c.types-types.ensures.basic.unknown_specs class past)
          ∙ sym (read_past [] c.types.weak class (omega (arith, i.long, c.types.auto.class-end, c.len-count.ensures, all, past)))
    ]
