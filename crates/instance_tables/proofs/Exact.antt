-- Counts that stay exact.
use Rattle.std.proofs.Common.{◌≡◌, ℕ, ◌+◌, ◌-◌, zero, suc, List, [], ◌∷◌, ◌++◌, Option, Some, None, IsSome, is_some, Bool, true, false, cond, nat_eq, refl, sym, ap, arith}
use Rattle.std.proofs.lemmas.Bool.Decides.{nat_tests}
use Rattle.ui_machine.specs.Seq.{read, total}
use Rattle.ui_machine.specs.State.Config.{without}
use Rattle.ui_machine.specs.State.Objects.{Object, Objects, living}
use Rattle.ui_machine.specs.Definition.{Definition}
use Rattle.std.specs.Option.{option_map}
use Rattle.ui_machine.specs.Rules.Children.{updated, with_child, with_parent, without_child}
use Rattle.ui_machine.specs.Rules.Disposal.{children_of, forgets}
use Rattle.ui_machine.specs.State.References.{same, in_object}
use Rattle.instance_tables.specs.Store.{Store, count_of, so_often}
use Rattle.instance_tables.specs.Laws.{HoldCounts, LetGoCounts, SinkCounts, ForgetCounts, JoinCounts, LeaveCounts, CountedFinds, HeldLives}
use Rattle.instance_tables.proofs.Families.{was_made}
use Rattle.instance_tables.proofs.Held.{counted_finds, forgets_nothing, total_kept, total_put}
use Rattle.instance_tables.proofs.Moves.{more_at, less_at}
use Rattle.instance_tables.proofs.Without.{none_left, others_stay}

pub hold_exact : HoldCounts
hold_exact d beside s id lives counted o =
    let once : same o id ≡ so_often 1 id o = refl in
    omega (arith, counted o, once, more_at s.counts id (count_of s.counts id + 1) 1 (was_made s.objects id lives).0 refl o)

pub let_go_exact : LetGoCounts
let_go_exact d beside s id there counted o =
    let once : same o id ≡ so_often 1 id o = refl in
    omega (arith, counted o, once, less_at s.counts id (count_of s.counts id - 1) 1 there refl o)

-- what floats of an object, and what goes as it is taken out
pub split : (id o : ℕ) (floats : List ℕ) → total (same o) (without id floats) + so_often (total (same id) floats) id o ≡ total (same o) floats
split id o floats = by (nat_eq id o) refl
  where
    by : (b : Bool) → nat_eq id o ≡ b → total (same o) (without id floats) + cond b (total (same id) floats) 0 ≡ total (same o) floats
    by true e =
        let is : id ≡ o = grind (arith, nat_tests) in
        let gone : total (same o) (without id floats) ≡ total (same id) (without id floats) = ap (λ k. total (same k) (without id floats)) (sym is) in
        let there : total (same id) floats ≡ total (same o) floats = ap (λ k. total (same k) floats) is in
        omega (arith, gone, there, none_left id floats)
    by false e = omega (arith, others_stay id o floats e)

pub sink_exact : SinkCounts
sink_exact d beside s n id sinks counted o =
    let objects : total (in_object d o) n.objects ≡ total (in_object d o) s.objects =
    ap (λ (t : Store). total (in_object d o) t.objects) sinks.beside in
    let floats : total (same o) n.floating ≡ total (same o) (without id s.floating) = ap (λ (t : Store). total (same o) t.floating) sinks.beside in
    omega (arith, objects, floats, counted o, sinks.counts o, split id o s.floating)

pub forget_exact : ForgetCounts
forget_exact d beside s id counted o =
    omega (arith, counted o, total_kept (in_object d o) (option_map (forgets d id)) s.objects (forgets_nothing d id o))

-- ** one child more

pub one_more : (o child : ℕ) (ids : List ℕ) → total (same o) (ids ++ child ∷ []) ≡ total (same o) ids + same o child
one_more o child [] = omega arith
one_more o child (i ∷ is) = omega (arith, one_more o child is)

parent_same : (d : Definition) (o : ℕ) (parent : Option ℕ) (x : Option Object)
    → in_object d o (option_map (with_parent parent) x) ≡ in_object d o x
parent_same d o parent None = refl
parent_same d o parent (Some x) = refl

put_parent : (d : Definition) (o : ℕ) (parent : Option ℕ) (os : Objects) (id : ℕ)
    → total (in_object d o) (updated (with_parent parent) id os) ≡ total (in_object d o) os
put_parent d o parent os zero = refl
put_parent d o parent os (suc i) =
    omega (
      arith,
      total_put (in_object d o) os i (option_map (with_parent parent) (read None os i)) refl,
      parent_same d o parent (read None os i),
    )

child_more : (d : Definition) (o child : ℕ) (x : Option Object) → IsSome x
    → in_object d o (option_map (with_child child) x) ≡ in_object d o x + same o child
child_more d o child None some = absurd (cc)
child_more d o child (Some x) some = omega (arith, one_more o child x.children)

put_child : (d : Definition) (o child : ℕ) (os : Objects) (id : ℕ) → IsSome (living os id)
    → total (in_object d o) (updated (with_child child) id os) ≡ total (in_object d o) os + same o child
put_child d o child os zero some = absurd (cc)
put_child d o child os (suc i) some =
    omega (
      arith,
      total_put (in_object d o) os i (option_map (with_child child) (read None os i)) refl,
      child_more d o child (read None os i) some,
    )

pub join_exact : JoinCounts
join_exact d beside s n parent child lives joins counted o =
    let ms : Objects = updated (with_child child) parent s.objects in
    let objects : total (in_object d o) n.objects ≡ total (in_object d o) (updated (with_parent (Some parent)) child ms) =
    ap (λ (os : Objects). total (in_object d o) os) joins.objects in
    let floats : total (same o) n.floating ≡ total (same o) (without child s.floating) = ap (λ (is : List ℕ). total (same o) is) joins.floating in
    omega (
      arith,
      objects,
      floats,
      put_parent d o (Some parent) ms child,
      put_child d o child s.objects parent lives,
      counted o,
      joins.counts o,
      split child o s.floating,
    )

-- ** a child less

never : (id o : ℕ) → ◌≡◌ {A = ℕ} (so_often 0 id o) 0
never id o = by (nat_eq id o)
  where
    by : (b : Bool) → ◌≡◌ {A = ℕ} (cond b 0 0) 0
    by true = refl
    by false = refl

child_less : (d : Definition) (o child : ℕ) (x : Option Object)
    → in_object d o (option_map (without_child child) x) + so_often (total (same child) (children_of x)) child o ≡ in_object d o x
child_less d o child None = omega (arith, never child o)
child_less d o child (Some x) = omega (arith, split child o x.children)

take_child : (d : Definition) (o child : ℕ) (os : Objects) (id : ℕ)
    → total (in_object d o) (updated (without_child child) id os) + so_often (total (same child) (children_of (living os id))) child o
    ≡ total (in_object d o) os
take_child d o child os zero = omega (arith, never child o)
take_child d o child os (suc i) =
    omega (
      arith,
      total_put (in_object d o) os i (option_map (without_child child) (read None os i)) refl,
      child_less d o child (read None os i),
    )

pub leave_exact : LeaveCounts
leave_exact d beside s n parent child left counted o =
    let ms : Objects = updated (without_child child) parent s.objects in
    let objects : total (in_object d o) n.objects ≡ total (in_object d o) (updated (with_parent None) child ms) =
    ap (λ (os : Objects). total (in_object d o) os) left.objects in
    let floats : total (same o) n.floating ≡ total (same o) s.floating = ap (λ (is : List ℕ). total (same o) is) left.floating in
    omega (arith, objects, floats, put_parent d o None ms child, take_child d o child s.objects parent, counted o, left.counts o)

pub exact_finds : CountedFinds
exact_finds d beside s counted =
    counted_finds s.objects (count_of s.counts) (λ o. total (in_object d o) s.objects + (total (same o) s.floating + beside o))
    (λ id some. counted id)

pub held_alive : HeldLives
held_alive d beside s o counted dead held = by (living s.objects o) refl
  where
    by : (x : Option Object) → living s.objects o ≡ x → IsSome (living s.objects o)
    by None e = absurd (omega (arith, counted o, dead o e, held))
    by (Some x) e = ap is_some e
