use Rattle.std.proofs.Common.{◌-◌, ◌^◌, ◌≡◌, ◌∙◌, nat_eq, ◌&&◌, count_by, not, ap, refl, sym, subst, arith}
use Rattle.std.proofs.lemmas.List.Sums.{count_by-le-length}
use Rattle.std.specs.List.{AllByRecursion, filter}
use Rattle.ui_machine.specs.State.Bindings.{is_end}
use Rattle.bindings.proofs.Stepping.{Below, all_below, all_stay, left_below, left_count, left_others, none_counted}
use Rattle.bindings.proofs.rising.Rising.end_of.Goals as goal

pub bindings-init : goal.bindings-init
bindings-init c = record {
  counted = omega arith;
  others = refl;
  below = subst (λ k. AllByRecursion (Below (is_end c.args.object.0) k) c.args.self.now) (omega arith) (all_below (is_end c.args.object.0) c.args.self.now (2 ^ 64 - 1) c.len.ensures.rises);
  few = omega (arith, c.len.ensures.count, c.len.ensures.few, count_by-le-length (is_end c.args.object.0) c.args.self.now);
}

pub overflow_add-count : goal.overflow_add-count
overflow_add-count c =
    let split = left_count (is_end c.args.object.0) c.in-Some.number c.bindings.self in
    omega (arith, c.bindings.invariant.counted, c.bindings.invariant.few, split, c.end_numbered-count.ensures.count)

pub bindings-preserved : goal.bindings-preserved
bindings-preserved c =
    let p = is_end c.args.object.0 in
    let n = c.in-Some.number in
    let gone = c.end_numbered-count.ensures.left in
    let left : count_by p c.end_numbered-count.new.self ≡ count_by p (filter (λ b. not (nat_eq b.number n && p b)) c.bindings.self) = ap (count_by p) gone in
    record {
      counted = omega (arith, c.bindings.invariant.counted, left_count p n c.bindings.self, c.end_numbered-count.ensures.count, left);
      others = ap (filter (λ b. not (p b))) gone ∙ left_others p n c.bindings.self ∙ c.bindings.invariant.others;
      below = subst (AllByRecursion (Below p n)) (sym gone) (left_below p n c.bindings.at c.bindings.self c.bindings.invariant.below c.in-Some.ensures.1);
      few = c.bindings.invariant.few;
    }

pub returns-clause-count : goal.returns-clause-count
returns-clause-count c =
    let none = none_counted (is_end c.args.object.0) c.bindings.at c.bindings.self c.bindings.invariant.below c.in_default.ensures in
    omega (arith, c.bindings.invariant.counted, none)

pub returns-clause-few : goal.returns-clause-few
returns-clause-few c = omega (arith, c.bindings.invariant.counted, c.bindings.invariant.few)

pub returns-clause-left : goal.returns-clause-left
returns-clause-left c =
    sym (all_stay (is_end c.args.object.0) c.bindings.at c.bindings.self c.bindings.invariant.below c.in_default.ensures) ∙ c.bindings.invariant.others
