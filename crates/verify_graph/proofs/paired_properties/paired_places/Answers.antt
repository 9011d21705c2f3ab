use Rattle.std.proofs.Common.{◌≡◌, ◌∙◌, sym, ap, ◌++◌, ◌∷◌, [], Vec, ℕ, length, length-append, arith}
use Rattle.std.specs.Global.{Global}
use Rattle.ui_machine.specs.Seq.{listed}
use Rattle.ui_machine.specs.Definition.{Definition}
use Rattle.verify_graph.specs.Paired.{paired_at}
use Rattle.verify_graph.proofs.Prefixes.{listed_last, mapped_last}
use Rattle.verify_graph.proofs.paired_properties.paired_places.Goals as goal

pub loop-place-preserved : goal.loop-place-preserved
loop-place-preserved c =
    let d = c.args.lookups.now in
    let all = c.args.numbers.now in
    let others = c.args.others.now in
    let n = c.loop-place.place in
    record {
      places =
          mapped_last (λ (v : Vec ℕ Global). v.items) c.loop-place.places.items c.push.new.self.items c.in_ok-paired_at.field-0 c.in_ok-push.ensures.items
          ∙ (ap (λ xs. xs ++ c.in_ok-paired_at.field-0.items ∷ []) c.loop-place.invariant.places
          ∙ (ap (λ x. listed (paired_at d all others) n ++ x ∷ []) c.in_ok-paired_at.ensures ∙ sym (listed_last (paired_at d all others) n)));
      count =
          (let e = ap length c.in_ok-push.ensures.items in let l = length-append c.loop-place.places.items (c.in_ok-paired_at.field-0 ∷ []) in
          omega (arith, e, l, c.loop-place.invariant.count));
    }

pub returns-clause-places : goal.returns-clause-places
returns-clause-places c =
    let d = c.args.lookups.now in
    let count = ap (λ (e : Definition). length e.places) c.definition.ensures in
    let whole : c.loop-place.place ≡ length d.places = omega (arith, count) in
    c.loop-place.invariant.places ∙ ap (listed (paired_at d c.args.numbers.now c.args.others.now)) whole
