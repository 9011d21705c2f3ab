use Rattle.std.proofs.Common.{◌≡◌, ◌∙◌, sym, ap, subst, ◌++◌, ◌∷◌, [], List, Option, None, ℕ, length, arith}
use Rattle.ui_machine.specs.Seq.{listed}
use Rattle.verify_graph.specs.Paired.{ArePaired}
use Rattle.verify_graph.proofs.PairedLists.{none_paired}
use Rattle.verify_graph.proofs.Prefixes.{listed_last}
use Rattle.verify_graph.proofs.pairs_by_number.PairedNumbers.alone.Goals as goal

pub loop-number-preserved : goal.loop-number-preserved
loop-number-preserved c =
    let n = c.loop-number.number in
    record {
      firsts = c.in_ok-push.ensures.items ∙ (ap (λ xs. xs ++ n ∷ []) c.loop-number.invariant.firsts ∙ sym (listed_last (λ k. k) n));
      others = c.in_ok-push-2.ensures.items ∙ (ap (λ xs. xs ++ None ∷ []) c.loop-number.invariant.others ∙ sym (listed_last (λ k. None) n));
    }

pub returns : goal.returns
returns c =
    let all = c.args.numbers.now in
    let n = c.loop-number.number in
    let whole : n ≡ length all = omega arith in
    subst (λ (xs : List ℕ). ArePaired all [] xs c.loop-number.others.items) (sym c.loop-number.invariant.firsts)
    (subst (λ (ys : List (Option ℕ)). ArePaired all [] (listed (λ k. k) n) ys) (sym c.loop-number.invariant.others)
    (none_paired all n c.count-number-end.ensures.countable.once whole))
