use Rattle.std.proofs.Common.{◌≡◌, ◌∙◌, ◌<◌, ℕ, ◌++◌, ◌||◌, true, false, nat_lt, not, sym, ap, arith}
use Rattle.std.proofs.lemmas.Bool.Decides.{nat_tests}
use Rattle.std.specs.List.{list_any}
use Rattle.ui_machine.specs.State.Bindings.{Binding, is_called}
use Rattle.bindings.specs.Made.{Made}
use Rattle.bindings.proofs.Numbers.{any_is, both_left, left_below}
use Rattle.bindings.proofs.list.Bindings.unbind.Goals as goal
use Rattle.bindings.proofs.list.Bindings.unbind.Goals.{then-count-gt0, else-count-gt0}

pub invariant_of-self : goal.invariant_of-self
invariant_of-self c =
    let rising = c.self.inside.rising in
    let others = c.self.inside.others.items in (
      left_below (λ (b : Binding). not (is_called c.args.name.now b)) (rising ++ others) (c.unbind-count.new.self ++ c.end_called.new.bound.items) c.self.inside.next c.self.invariant.0
          (both_left (λ (b : Binding). not (is_called c.args.name.now b)) rising others c.unbind-count.new.self c.end_called.new.bound.items c.unbind-count.ensures.left c.end_called.ensures),
      c.self.invariant.1,
    )

some : (n : ℕ) → 0 < n → true ≡ nat_lt 0 n
some n h = grind (arith, nat_tests)

none : (n : ℕ) → n ≡ 0 → false ≡ nat_lt 0 n
none n h = grind (arith, nat_tests)

pub returns-clause-found : goal.returns-clause-found
returns-clause-found c =
    let p = is_called c.args.name.now in
    let rising = c.self.inside.rising in
    let others = c.self.inside.others.items in
    let whole : (nat_lt 0 c.unbind-count.result || list_any p others) ≡ list_any p c.args.self.now.bindings =
    ap (λ n. nat_lt 0 n || list_any p others) c.unbind-count.ensures.count ∙ sym (any_is p rising others) ∙ ap (λ (m : Made). list_any p m.bindings) c.self.view_is in
    let second : c.has_called-found.result ≡ list_any p others = c.has_called-found.ensures ∙ ap (list_any p) c.deref.ensures.value in
    elim c.if-count-gt0.branch [
      | then-count-gt0 w ↦ w.result-is ∙ sym (some c.unbind-count.result (omega arith)) ∙ ap (λ t. t || list_any p others) (some c.unbind-count.result (omega arith)) ∙ whole
      | else-count-gt0 w ↦ w.result-is ∙ second ∙ ap (λ t. t || list_any p others) (none c.unbind-count.result (omega arith)) ∙ whole
    ]
