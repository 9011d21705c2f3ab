-- Objects that are changed at one identity, and why one is no child.
use Rattle.std.proofs.Common.{◌≡◌, ℕ, zero, suc, ◌+◌, ◌-◌, ◌<◌, ◌≤◌, [], ◌∷◌, length, Bool, true, false, ◌&&◌, nat_lt, nat_eq, nat_le, Option, Some, None, is_some, IsSome, refl, sym, ap, ◌∙◌, arith}
use Rattle.std.specs.Option.{option_map}
use Rattle.ui_machine.specs.Seq.{read, write, total}
use Rattle.ui_machine.specs.State.Config.{without}
use Rattle.ui_machine.specs.State.Objects.{Object, Objects, living, put}
use Rattle.ui_machine.specs.State.References.{same}
use Rattle.ui_machine.specs.Rules.Children.{most_children, updated, with_child, with_parent, without_child}
use Rattle.ui_machine.specs.Rules.Disposal.{children_of}
use Rattle.ui_machine.specs.declared.ids.ObjectId.{ObjectId}
use Rattle.instance_tables.specs.Store.{Store, id_of, may_hold, count_of, so_often, with_count, with_objects}
use Rattle.instance_tables.specs.Family.{refusal, refusal_in, parent_in, Joins, Leaves, Sinks}
use Rattle.instance_tables.specs.declared.error.AdoptError.TheVariants.{NotLiving, HasParent, ChildLimit}
use Rattle.instance_tables.proofs.Moves.{more_at}

-- what lives was made
pub was_made : (os : Objects) (id : ℕ) → IsSome (living os id) → (0 < id) × (id ≤ length os)
was_made os zero some = absurd (cc)
was_made [] (suc i) some = absurd (cc)
was_made (o ∷ os) (suc zero) some = (omega arith, omega arith)
was_made (o ∷ os) (suc (suc i)) some = let rest = was_made os (suc i) some in (omega arith, omega (arith, rest.1))

pub length_put : (os : Objects) (id : ℕ) (x : Option Object) → id ≤ length os → length (put os id x) ≡ length os
length_put os zero x small = refl
length_put [] (suc i) x small = absurd (omega (arith, small))
length_put (o ∷ os) (suc zero) x small = refl
length_put (o ∷ os) (suc (suc i)) x small = ap suc (length_put os (suc i) x (omega (arith, small)))

kept_some : (change : Object → Object) (x : Option Object) → IsSome x → IsSome (option_map change x)
kept_some change None some = absurd (cc)
kept_some change (Some o) some = refl

-- what lives still lives after a change of one
pub still_live : (change : Object → Object) (os : Objects) (at id : ℕ) → IsSome (living os id) → IsSome (living (updated change at os) id)
still_live change os zero id some = some
still_live change os (suc i) zero some = some
still_live change os (suc i) (suc j) some = by os i j some
  where
    by : (xs : Objects) (i j : ℕ) → IsSome (read None xs j)
        → IsSome (read None (write None xs i (option_map change (read None xs i))) j)
    by [] i j some = absurd (cc)
    by (x ∷ xs) zero zero some = kept_some change x some
    by (x ∷ xs) zero (suc j) some = some
    by (x ∷ xs) (suc i) zero some = some
    by (x ∷ xs) (suc i) (suc j) some = by xs i j some

-- as many were made after a change of one that was
pub length_updated : (change : Object → Object) (os : Objects) (id : ℕ) → id ≤ length os → length (updated change id os) ≡ length os
length_updated change os id small = length_put os id (option_map change (living os id)) small

-- ** refusals

module _ (s : Store) (parent child : ℕ) where
  pub no_parent_object : living s.objects parent ≡ None → Some NotLiving ≡ refusal_in s parent child
  no_parent_object none = ap (λ (p : Option Object). refusal parent p child (living s.objects child)) (sym none)

  pub no_child_object : (p : Object) → living s.objects parent ≡ Some p → living s.objects child ≡ None
      → Some NotLiving ≡ refusal_in s parent child
  no_child_object p here none = rw (here, none) refl

  pub both : (p c : Object) → living s.objects parent ≡ Some p → living s.objects child ≡ Some c
      → refusal parent (Some p) child (Some c) ≡ refusal_in s parent child
  both p c here there = rw (here, there) refl

pub has_parent : (parent child : ℕ) (p c : Object) → is_some c.parent ≡ true → Some HasParent ≡ refusal parent (Some p) child (Some c)
has_parent parent child p c e = rw e refl

pub is_itself : (parent child : ℕ) (p c : Object) → nat_eq parent child ≡ true → is_some c.parent ≡ false
    → Some HasParent ≡ refusal parent (Some p) child (Some c)
is_itself parent child p c e none = rw (none, e) refl

pub is_full : (parent child : ℕ) (p c : Object) → is_some c.parent ≡ false → nat_eq parent child ≡ false
    → nat_le most_children (length p.children) ≡ true → Some ChildLimit ≡ refusal parent (Some p) child (Some c)
is_full parent child p c none other full = rw (none, other, full) refl

pub may_join : (parent child : ℕ) (p c : Object) → is_some c.parent ≡ false → nat_eq parent child ≡ false
    → nat_le most_children (length p.children) ≡ false → None ≡ refusal parent (Some p) child (Some c)
may_join parent child p c none other room = rw (none, other, room) refl

-- a parent that is there by its identity
pub same_parent : (id : Option ObjectId) (c : Object) → id_of id ≡ c.parent → is_some c.parent ≡ is_some id
same_parent None c e = sym (ap is_some e)
same_parent (Some i) c e = sym (ap is_some e)

pub held_lives : (s : Store) (id : ℕ) → may_hold s id ≡ true → IsSome (living s.objects id)
held_lives s id e = by (is_some (living s.objects id)) refl e
  where
    by : (b : Bool) → is_some (living s.objects id) ≡ b → b && nat_lt (count_of s.counts id) 340282366920938463463374607431768211455 ≡ true
        → is_some (living s.objects id) ≡ true
    by true is_it e = is_it
    by false is_it e = absurd (cc)

-- ** an object that became a child

pub both_live : (s : Store) (parent child : ℕ) → refusal_in s parent child ≡ None
    → IsSome (living s.objects parent) × IsSome (living s.objects child)
both_live s parent child none = by (living s.objects parent) refl (living s.objects child) refl none
  where
    by : (p : Option Object) → living s.objects parent ≡ p → (c : Option Object) → living s.objects child ≡ c
        → refusal parent p child c ≡ None → IsSome (living s.objects parent) × IsSome (living s.objects child)
    by None e c f refused = absurd (cc)
    by (Some p) e None f refused = absurd (cc)
    by (Some p) e (Some c) f refused = (ap is_some e, ap is_some f)

pub joins : (s h g n : Store) (parent child : ℕ) → refusal_in s parent child ≡ None
    → h ≡ with_count (with_objects s (updated (with_child child) parent s.objects)) child (count_of s.counts child + 1)
    → g.objects ≡ updated (with_parent (Some parent)) child h.objects → g ≡ with_objects h g.objects → Sinks child g n
    → Joins parent child s n
joins s h g n parent child none held given beside sinks =
    let live = both_live s parent child none in
    let below = was_made s.objects child live.1 in
    let objects : h.objects ≡ updated (with_child child) parent s.objects = ap (λ (t : Store). t.objects) held in
    let floats : g.floating ≡ s.floating = ap (λ (t : Store). t.floating) beside ∙ ap (λ (t : Store). t.floating) held in
    record {
      objects = ap (λ (t : Store). t.objects) sinks.beside ∙ given ∙ ap (updated (with_parent (Some parent)) child) objects;
      floating = ap (λ (t : Store). t.floating) sinks.beside ∙ ap (without child) floats;
      limit = ap (λ (t : Store). t.limit) sinks.beside ∙ ap (λ (t : Store). t.limit) beside ∙ ap (λ (t : Store). t.limit) held;
      counts = λ o.
          let more : count_of g.counts o ≡ count_of s.counts o + so_often 1 child o =
          ap (λ (t : Store). count_of t.counts o) beside ∙ ap (λ (t : Store). count_of t.counts o) held
          ∙ more_at s.counts child (count_of s.counts child + 1) 1 below.0 refl o in
          sinks.counts o ∙ ap (λ k. k - so_often (total (same child) g.floating) child o) more
          ∙ ap (λ fs. count_of s.counts o + so_often 1 child o - so_often (total (same child) fs) child o) floats;
    }

-- ** an object that left its parent

pub some_id : (i : ℕ) → ◌≡◌ {A = Option ℕ} None (Some i) → ⊥
some_id i e = absurd (cc)

pub has_one : (s : Store) (child parent : ℕ) → parent_in (living s.objects child) ≡ Some parent → IsSome (living s.objects child)
has_one s child parent e = by (living s.objects child) refl e
  where
    by : (o : Option Object) → living s.objects child ≡ o → parent_in o ≡ Some parent → IsSome (living s.objects child)
    by None is f = absurd (cc)
    by (Some x) is f = ap is_some is

pub leaves : (s r g n : Store) (found parent child gone : ℕ) → Some found ≡ parent_in (living s.objects child)
    → parent_in (living s.objects child) ≡ Some parent
    → r.objects ≡ updated (without_child child) found s.objects → r ≡ with_objects s r.objects
    → gone ≡ total (same child) (children_of (living s.objects found))
    → g.objects ≡ updated (with_parent None) child r.objects → g ≡ with_objects r g.objects
    → ((o : ℕ) → count_of n.counts o ≡ count_of g.counts o - so_often gone child o) → n ≡ record g { counts = n.counts }
    → Leaves parent child s n
leaves s r g n found parent child gone some here removed left many given beside counts same_rest =
    let is : found ≡ parent = (let e : Some found ≡ Some parent = some ∙ here in cc) in
    record {
      objects = ap (λ (t : Store). t.objects) same_rest ∙ given
          ∙ ap (updated (with_parent None) child) (removed ∙ ap (λ p. updated (without_child child) p s.objects) is);
      floating =
          ap (λ (t : Store). t.floating) same_rest ∙ ap (λ (t : Store). t.floating) beside ∙ ap (λ (t : Store). t.floating) left;
      limit = ap (λ (t : Store). t.limit) same_rest ∙ ap (λ (t : Store). t.limit) beside ∙ ap (λ (t : Store). t.limit) left;
      counts = λ o.
          let was : count_of g.counts o ≡ count_of s.counts o =
          ap (λ (t : Store). count_of t.counts o) beside ∙ ap (λ (t : Store). count_of t.counts o) left in
          counts o ∙ ap (λ k. k - so_often gone child o) was
          ∙ ap (λ k. count_of s.counts o - so_often k child o)
          (many ∙ ap (λ p. total (same child) (children_of (living s.objects p))) is);
    }
