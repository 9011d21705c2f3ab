use Rattle.std.proofs.Common.{◌≡◌, ◌<◌, ◌+◌, ℕ, suc, List, map, drop, Option, Some, None, length, slice_get, sym, subst, ◌∙◌, ⊎_elim, arith}
use Rattle.std.proofs.lemmas.Option.{slice_get_cases}
use Rattle.law_peers.specs.Needs.{same_shape}
use Rattle.peer_shapes.specs.MethodViews.{lent_view, method_view}
use Rattle.native_peers.proofs.Lengths.{one_decides, rest_decides, shapes_not_same}
use Rattle.native_peers.proofs.Places.{here}
use Rattle.native_peers.proofs.shapes.is_same_shape.Goals as goal

-- what is inside is there
not_none : {A : Type 0} (xs : List A) (k : ℕ) → k < length xs → slice_get xs k ≡ None → ⊥
not_none xs k inside none =
    ⊎_elim (λ l. let never : ◌≡◌ {A = Option _} (Some l.0) None = sym l.2 ∙ none in cc never) (λ r. absurd (omega (arith, inside, r.0))) (slice_get_cases xs k).1

pub returns-then-len-right : goal.returns-then-len-right
returns-then-len-right c = shapes_not_same method_view c.args.left.now c.args.right.now (λ e. c.if-len-right.true (c.len.ensures ∙ e))

pub returns-in_default : goal.returns-in_default
returns-in_default c =
    let inside : c.methods.k < length c.args.left.now = let test = c.methods-test.true in let long = c.methods.invariant.long in omega (arith, test, long) in
    absurd (not_none c.args.left.now c.methods.k inside (sym c.in_default.ensures))

pub returns-then-not-is_method : goal.returns-then-not-is_method
returns-then-not-is_method c =
    sym (one_decides method_view c.args.left.now c.args.right.now c.methods.k (lent_view c.in-Some.own) c.index-right-k.result (sym c.in-Some.ensures)
    (here c.args.right.now c.methods.k c.index-right-k.result c.methods-test.true c.index-right-k.is) (sym c.is_method.ensures ∙ c.if-not-is_method.true))
    ∙ c.methods.invariant.same

pub methods-preserved : goal.methods-preserved
methods-preserved c =
    let left = c.args.left.now in
    let right = c.args.right.now in
    let next : suc c.methods.k ≡ c.methods.k + 1 = omega arith in
    record {
      same =
          subst (λ (k : ℕ). same_shape (drop k left) (map method_view (drop k right)) ≡ same_shape left (map method_view right)) next
          (sym (rest_decides method_view left right c.methods.k (lent_view c.in-Some.own) c.index-right-k.result (sym c.in-Some.ensures)
          (here right c.methods.k c.index-right-k.result c.methods-test.true c.index-right-k.is) (sym c.is_method.ensures ∙ c.if-not-is_method.false))
          ∙ c.methods.invariant.same);
      long = c.methods.invariant.long;
    }
