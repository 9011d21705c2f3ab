use Rattle.std.proofs.Common.{◌≡◌, ◌<◌, ◌-◌, suc, Some, drop, length, of_z, to_z, subst, sym, ap, arith, ◌∙◌}
use Rattle.std.specs.BTreeMap.{Updates}
use Rattle.std.specs.Int.{w128}
use Rattle.std.specs.List.{find}
use Rattle.std.specs.Ordering.{int_cmp, int_eq}
use Rattle.std.proofs.lemmas.Int.{ints, to_z-of_z}
use Rattle.type_tree.proofs.Numbered.{first_place, there}
use Rattle.type_tree.proofs.enum_members.places_of.Goals as goal

pub members-preserved : goal.members-preserved
members-preserved c =
    let members = c.args.members.now in
    let left = c.members.left - 1 in
    let m = c.index-members-left.result in
    let within : left < length members = omega (arith, c.members.invariant.within, c.members-test.true) in
    let same : to_z w128 (of_z w128 c.from.result) ≡ m.number = grind (arith, ints, to_z-of_z, c.from.ensures) in
    let back : suc left ≡ c.members.left = omega (arith, c.members-test.true) in
    record {
      within = omega (arith, c.members.invariant.within, c.members-test.true);
      places = first_place members c.members.places c.insert.new.self left m (there members left m within c.index-members-left.is)
          (subst (λ n. Updates int_cmp c.members.places c.insert.new.self n (Some left)) same c.in_ok-insert.ensures.updates)
          (λ n. c.members.invariant.places n ∙ ap (λ k. find (λ x. int_eq x.number n) (drop k members)) (sym back));
    }
