-- A program takes an object from its parent, or gives it one.
use Rattle.std.proofs.Common.{◌≡◌, inl, inr, ◌⊎◌, refl, sym, ap, subst, ◌∙◌, ℕ, Bool, true, false, cond, List, [], ◌∷◌, ◌++◌, Option, None, Some, Ok, arith}
use Rattle.std.specs.Prelude.{nat_eq, option_map, codes}
use Rattle.std.proofs.Math.Path.{fun_ext}
use Rattle.std.proofs.lemmas.Bool.{eqb-true, eqb-false}
use Rattle.ui_machine.specs.Seq.{total}
use Rattle.ui_machine.specs.Definition.Kinds as kinds
use Rattle.ui_machine.specs.Definition.Values as values
use Rattle.ui_machine.specs.Definition.{Definition}
use Rattle.ui_machine.specs.Definition.Programs.{Instruction}
use Rattle.ui_machine.specs.Definition.Programs as words
use Rattle.ui_machine.specs.State.Objects.{Object, Objects, living, put, one_if}
use Rattle.ui_machine.specs.State.Tasks.{Frame, Running, Task}
use Rattle.ui_machine.specs.State.Config.{World, said, without}
use Rattle.ui_machine.specs.Output.Lines as lines
use Rattle.ui_machine.specs.Output.Text.{text_of_line}
use Rattle.ui_machine.specs.Rules.Children.{is_unadoptable, updated, with_parent, with_family, orphaned, adopted}
use Rattle.ui_machine.specs.Instructions.{in_front}
use Rattle.ui_machine.specs.Instructions.Registers.{operand_in, goes_on, tells}
use Rattle.ui_machine.specs.Instructions.Objects.{orphaning, adopting}
use Rattle.ui_machine.specs.Instructions.Jumps.{past}
use Rattle.law_typing.specs.Rules.RegisterKinds.{Kinds}
use Rattle.law_typing.specs.Rules.Typing as typing
use Rattle.law_typing.specs.Rules.Typing.{after}
use Rattle.law_typing.specs.Verdict.Accepted.{Each}
use Rattle.law_typing.specs.Laws.{IsIn}
use Rattle.law_typing.specs.Good.Standing.{standing, view, Lives}
use Rattle.law_typing.specs.Good.Objects.{FamilyGood, ObjectsGood}
use Rattle.law_typing.specs.Good.Freezes.{carried}
use Rattle.law_typing.proofs.Lists.{each_append}
use Rattle.law_typing.proofs.EdgeProofs.{append_left, append_right}
use Rattle.law_steps.specs.Kept.Agenda.{Serves}
use Rattle.law_steps.specs.Kept.Family.{Kin, FamiliesGood, with_families}
use Rattle.law_steps.proofs.Kept.FamilyProofs.{families_keep}
use Rattle.law_steps.proofs.Kept.DisposeProofs.{changed_here, put_apart, Was, was, place_same, sum_changed}
use Rattle.law_steps.specs.Instructed.Families.{FamiliesAreFine}
use Rattle.law_steps.proofs.Instructed.Around.{Due, making, r, taken, StepIsFine, fine_of}
use Rattle.law_steps.proofs.Instructed.Frozen.{is_bracket}
use Rattle.law_steps.proofs.Instructed.Written.{Moved, moved_fine, moved_written, said_moved, serves_itself}
use Rattle.law_steps.proofs.Instructed.Inverse.{bound}
use Rattle.law_steps.proofs.Instructed.Typed.{with_kind, changing_none_is}
use Rattle.law_steps.proofs.Instructed.Operand.{Named, named}

-- ** lists

in_without : (id other : ℕ) (ids : List ℕ) → (id ≡ other → ⊥) → IsIn other ids → IsIn other (without id ids)
in_without id other [] apart h = h
in_without id other (i ∷ ids) apart h = go (nat_eq i id) refl h (λ h. in_without id other ids apart h)
  where
    go : (b : Bool) → nat_eq i id ≡ b → IsIn other (i ∷ ids) → (IsIn other ids → IsIn other (without id ids)) → IsIn other (cond b (without id ids) (i ∷ without id ids))
    go true e (inl s) later = absurd (apart (sym (s ∙ eqb-true i id e)))
    go true e (inr h) later = later h
    go false e (inl s) later = inl s
    go false e (inr h) later = inr (later h)

pub each_without : (P : ℕ → Type 0) (id : ℕ) (ids : List ℕ) → Each P ids → Each P (without id ids)
each_without P id [] all = tt
each_without P id (i ∷ ids) all = go (nat_eq i id) (each_without P id ids all.1)
  where
    go : (b : Bool) → Each P (without id ids) → Each P (cond b (without id ids) (i ∷ without id ids))
    go true later = later
    go false later = (all.0, later)

-- ** objects

-- what is in the end where an object was
found_after : (f : Object → Object) (i j : ℕ) (os : Objects) (x : Object) → living os j ≡ Some x →
    (y : Object) × (living (put os i (option_map f (living os i))) j ≡ Some y) × (((i ≡ j) × (y ≡ f x)) ⊎ ((i ≡ j → ⊥) × (y ≡ x)))
found_after f i j os x e = go (nat_eq i j) refl
  where
    go : (b : Bool) → nat_eq i j ≡ b → (y : Object) × (living (put os i (option_map f (living os i))) j ≡ Some y) × (((i ≡ j) × (y ≡ f x)) ⊎ ((i ≡ j → ⊥) × (y ≡ x)))
    go true t =
        let same = eqb-true i j t in
        (f x, subst (λ k. living (put os i (option_map f (living os i))) k ≡ Some (f x)) same (changed_here f i os ∙ ap (option_map f) (ap (living os) same ∙ e)), inl (same, refl))
    go false t = let apart = eqb-false i j t in (x, put_apart (option_map f (living os i)) i j os apart ∙ e, inr (apart, refl))

-- other children
abbrev with_kids : (List ℕ → List ℕ) → Object → Object
with_kids kids o = record o { children = kids o.children }

-- an object gets other children, and then one another parent
abbrev pub twice : (List ℕ → List ℕ) → Option ℕ → (child parent : ℕ) → Objects → Objects
twice kids above child parent os = updated (with_parent above) child (updated (with_kids kids) parent os)

module _ (kids : List ℕ → List ℕ) (above : Option ℕ) (child parent : ℕ) (os : Objects) where
  pub stands_twice : standing (twice kids above child parent os) ≡ standing os
  stands_twice = fun_ext (λ j. place_same (with_parent above) (λ o. refl) child j (updated (with_kids kids) parent os) ∙ place_same (with_kids kids) (λ o. refl) parent j os)

  pub sum_twice : (f : Option Object → ℕ) → f None ≡ 0 → ((g : List ℕ → List ℕ) (o : Object) → f (Some (with_kids g o)) ≡ f (Some o)) → ((a : Option ℕ) (o : Object) → f (Some (with_parent a o)) ≡ f (Some o)) →
      total f (twice kids above child parent os) ≡ total f os
  sum_twice f none same also = sum_changed f none (with_parent above) (also above) (updated (with_kids kids) parent os) child ∙ sum_changed f none (with_kids kids) (same kids) os parent

  -- what an object was, with its children and its parent now
  pub record Before (id : ℕ) (x : Object) : Type 0 where
    pub old : Object
    pub was : living os id ≡ Some old
    pub children : List ℕ
    pub parents : Option ℕ
    pub same : x ≡ record old { children = children; parent = parents }
    pub kids_are : (children ≡ kids old.children) ⊎ (children ≡ old.children)
    pub parent_is : ((child ≡ id) × (parents ≡ above)) ⊎ ((child ≡ id → ⊥) × (parents ≡ old.parent))

  pub before : (id : ℕ) (x : Object) → living (twice kids above child parent os) id ≡ Some x → Before id x
  before id x e =
      let y = was (with_parent above) child id (updated (with_kids kids) parent os) x e in
      by y.old (was (with_kids kids) parent id os y.old y.is) y.how
    where
      by : (y : Object) → Was (with_kids kids) parent id os y → ((child ≡ id) × (x ≡ with_parent above y)) ⊎ ((child ≡ id → ⊥) × (x ≡ y)) → Before id x
      by y z how = of z.how how
        where
          of : ((parent ≡ id) × (y ≡ with_kids kids z.old)) ⊎ ((parent ≡ id → ⊥) × (y ≡ z.old)) → ((child ≡ id) × (x ≡ with_parent above y)) ⊎ ((child ≡ id → ⊥) × (x ≡ y)) → Before id x
          of (inl a) (inl b) = record { old = z.old; was = z.is; children = kids z.old.children; parents = above; same = b.1 ∙ ap (with_parent above) a.1; kids_are = inl refl; parent_is = inl (b.0, refl) }
          of (inl a) (inr b) = record { old = z.old; was = z.is; children = kids z.old.children; parents = z.old.parent; same = b.1 ∙ a.1; kids_are = inl refl; parent_is = inr (b.0, refl) }
          of (inr a) (inl b) = record { old = z.old; was = z.is; children = z.old.children; parents = above; same = b.1 ∙ ap (with_parent above) a.1; kids_are = inr refl; parent_is = inl (b.0, refl) }
          of (inr a) (inr b) = record { old = z.old; was = z.is; children = z.old.children; parents = z.old.parent; same = b.1 ∙ a.1; kids_are = inr refl; parent_is = inr (b.0, refl) }

  -- and what has become of one
  becomes : (id : ℕ) (o : Object) → living os id ≡ Some o →
      (x : Object) × (living (twice kids above child parent os) id ≡ Some x) × (((parent ≡ id) × (x.children ≡ kids o.children)) ⊎ ((parent ≡ id → ⊥) × (x.children ≡ o.children)))
  becomes id o e =
      let y = found_after (with_kids kids) parent id os o e in
      let x = found_after (with_parent above) child id (updated (with_kids kids) parent os) y.0 y.1 in
      (x.0, x.1, by x.0 y.0 (λ a b e. ap (λ (o : Object). o.children) e) x.2 y.2)
    where
      by : (x y : Object) → ((a b : Object) → a ≡ b → a.children ≡ b.children) → ((child ≡ id) × (x ≡ with_parent above y)) ⊎ ((child ≡ id → ⊥) × (x ≡ y)) → ((parent ≡ id) × (y ≡ with_kids kids o)) ⊎ ((parent ≡ id → ⊥) × (y ≡ o)) →
          ((parent ≡ id) × (x.children ≡ kids o.children)) ⊎ ((parent ≡ id → ⊥) × (x.children ≡ o.children))
      by x y c (inl a) (inl b) = inl (b.0, c x (with_parent above y) a.1 ∙ c y (with_kids kids o) b.1)
      by x y c (inl a) (inr b) = inr (b.0, c x (with_parent above y) a.1 ∙ c y o b.1)
      by x y c (inr a) (inl b) = inl (b.0, c x y a.1 ∙ c y (with_kids kids o) b.1)
      by x y c (inr a) (inr b) = inr (b.0, c x y a.1 ∙ c y o b.1)

-- ** the world

module _ {d : Definition} (w : World) (objects : ObjectsGood d w) (kids : List ℕ → List ℕ) (above : Option ℕ) (child parent : ℕ)
    (still : (id : ℕ) (ids : List ℕ) → (child ≡ id → ⊥) → IsIn id ids → IsIn id (kids ids)) (lives : (ids : List ℕ) → Each (Lives (standing w.objects)) ids → Each (Lives (standing w.objects)) (kids ids))
    (own : FamilyGood (twice kids above child parent w.objects) child above) where
  known : (id : ℕ) (o : Option ℕ) → (child ≡ id → ⊥) → FamilyGood w.objects id o → FamilyGood (twice kids above child parent w.objects) id o
  known id None apart g = tt
  known id (Some p) apart g = let x = becomes kids above child parent w.objects p g.0 g.1 in (x.0, x.1, by x.0 x.2)
    where
      by : (x : Object) → ((parent ≡ p) × (x.children ≡ kids g.0.children)) ⊎ ((parent ≡ p → ⊥) × (x.children ≡ g.0.children)) → IsIn id x.children
      by x (inl e) = subst (IsIn id) (sym e.1) (still id g.0.children apart g.2)
      by x (inr e) = subst (IsIn id) (sym e.1) g.2

  kin : (id : ℕ) (x : Object) → Before kids above child parent w.objects id x → Kin w (twice kids above child parent w.objects) id x
  kin id x b =
      let o = objects id b.old b.was in
      let same_children = ap (λ (o : Object). o.children) b.same in
      let same_parent = ap (λ (o : Object). o.parent) b.same in
      record {
        old = b.old;
        was = b.was;
        same = subst (λ x. x ≡ record b.old { children = x.children; parent = x.parent }) (sym b.same) refl;
        children = subst (Each (Lives (standing w.objects))) (sym same_children) (of_kids o.children b.kids_are);
        parent = subst (FamilyGood (twice kids above child parent w.objects) id) (sym same_parent) (of_parent o.parent b.parent_is);
      }
    where
      of_kids : Each (Lives (standing w.objects)) b.old.children → (b.children ≡ kids b.old.children) ⊎ (b.children ≡ b.old.children) → Each (Lives (standing w.objects)) b.children
      of_kids all (inl e) = subst (Each (Lives (standing w.objects))) (sym e) (lives b.old.children all)
      of_kids all (inr e) = subst (Each (Lives (standing w.objects))) (sym e) all

      of_parent : FamilyGood w.objects id b.old.parent → ((child ≡ id) × (b.parents ≡ above)) ⊎ ((child ≡ id → ⊥) × (b.parents ≡ b.old.parent)) →
          FamilyGood (twice kids above child parent w.objects) id b.parents
      of_parent good (inl e) = subst (FamilyGood (twice kids above child parent w.objects) id) (sym e.1) (subst (λ id. FamilyGood (twice kids above child parent w.objects) id above) e.0 own)
      of_parent good (inr e) = subst (FamilyGood (twice kids above child parent w.objects) id) (sym e.1) (known id b.old.parent e.0 good)

  pub families_good : FamiliesGood w (twice kids above child parent w.objects)
  families_good = record { stands = stands_twice kids above child parent w.objects; kin = λ id x e. kin id x (before kids above child parent w.objects id x e) }

-- a parent knows the child that it gets
pub own_child : (os : Objects) (child parent : ℕ) (o : Object) → living os parent ≡ Some o → FamilyGood (twice (λ ids. ids ++ child ∷ []) (Some parent) child parent os) child (Some parent)
own_child os child parent o is = let x = becomes (λ ids. ids ++ child ∷ []) (Some parent) child parent os parent o is in (x.0, x.1, by x.0 x.2)
  where
    by : (x : Object) → ((parent ≡ parent) × (x.children ≡ o.children ++ child ∷ [])) ⊎ ((parent ≡ parent → ⊥) × (x.children ≡ o.children)) → IsIn child x.children
    by x (inl e) = subst (IsIn child) (sym e.1) (append_right o.children (child ∷ []) child (inl refl))
    by x (inr e) = absurd (e.0 refl)

module _ {d : Definition} {i : Instruction} (t : Due d i) (plain : is_bracket i ≡ false) (kids : List ℕ → List ℕ) (above : Option ℕ) (child parent : ℕ)
    (still : (id : ℕ) (ids : List ℕ) → (child ≡ id → ⊥) → IsIn id ids → IsIn id (kids ids)) (lives : (ids : List ℕ) → Each (Lives (standing t.w.objects)) ids → Each (Lives (standing t.w.objects)) (kids ids))
    (own : FamilyGood (twice kids above child parent t.w.objects) child above) where
  open t use {a, w, f, rest, g}

  abbrev os : Objects
  os = twice kids above child parent w.objects

  family_moved : (floating : List ℕ) (lines : List (List ℕ)) → Each (Lives (standing w.objects)) floating → Moved t plain (with_families w os floating lines)
  family_moved floating lines all = record {
    whole =
        families_keep d a.weighed.costs a.weighed.depths (Running f ∷ rest) w os floating lines
        (families_good w g.objects kids above child parent still lives own) all
        (record { objects = g.objects; handlers = g.handlers; bindings = g.bindings; sources = g.sources; held = g.held; floating = g.floating; objects_first = g.objects_first });
    stands = stands_twice kids above child parent w.objects;
    served = subst (λ s. Serves d rest (view w) (record (view w) { stands = s })) (sym (stands_twice kids above child parent w.objects)) (serves_itself d rest (view w));
    pool = g.peers;
    queues = λ id x e. (let b = before kids above child parent w.objects id x e in
        (b.old, b.was, ap (λ (o : Object). o.place) b.same, ap (λ (o : Object). o.freezes) b.same, ap (λ (o : Object). o.queue) b.same));
    few = (let same = sum_twice kids above child parent w.objects one_if refl (λ g o. refl) (λ a o. refl) in omega (arith, same));
    queued = (let same = sum_twice kids above child parent w.objects (carried d a.weighed.costs (making t)) refl (λ g o. refl) (λ a o. refl) in omega (arith, same));
  }

-- ** orphan

orphan_goes : (d : Definition) (w : World) (rest : List Task) (f : Frame) (object id : ℕ) (o : Object) → operand_in w f object ≡ Ok id → living w.objects id ≡ Some o →
    in_front rest (orphaning d w f object) ≡ in_front rest (goes_on (orphaned d w id o.parent) [] f)
unfolding orphaning
orphan_goes d w rest f object id o e is = rw (e, is) refl

orphan_fine : {d : Definition} (object : ℕ) (t : Due d (words.orphan object)) → StepIsFine t
orphan_fine {d} object t =
    let k = changing_none_is (r t).ks (typing.operand d (r t).ks object) _ (taken t).typed in
    let o = named t object k.0 k.1 in
    go o.id o.o.parent k.2 (orphan_goes d t.w t.rest (past t.f) object o.id o.o o.asked o.lives)
  where
    go : (id : ℕ) (above : Option ℕ) → after d (r t).p (r t).ks (words.orphan object) ≡ (r t).ks →
        in_front t.rest (orphaning d t.w (past t.f) object) ≡ in_front t.rest (goes_on (orphaned d t.w id above) [] (past t.f)) → StepIsFine t
    go id None kinds_are does = moved_fine t refl t.w (said_moved t refl t.w.transcript) refl kinds_are does
    go id (Some parent) kinds_are does =
        moved_fine t refl (orphaned d t.w id (Some parent))
        (family_moved t refl (without id) None id parent (λ other ids apart h. in_without id other ids apart h) (λ ids all. each_without (Lives (standing t.w.objects)) id ids all) tt t.w.floating
        (t.w.transcript ++ text_of_line d.types (lines.orphan id) ∷ []) t.g.floating) refl kinds_are does

-- ** adopt

adopt_writes : (d : Definition) (w : World) (rest : List Task) (f : Frame) (to parent child p c : ℕ) (x y : Object) → operand_in w f parent ≡ Ok p → operand_in w f child ≡ Ok c → living w.objects p ≡ Some x →
    living w.objects c ≡ Some y → (b : Bool) → is_unadoptable p x c y ≡ b →
    in_front rest (adopting d w f to parent child)
    ≡ in_front rest (tells (cond b (record { state = said d w (lines.limit (codes "adopt")); answer = false }) (record { state = with_family d w p c; answer = true })) to f)
unfolding adopting adopted
adopt_writes d w rest f to parent child p c x y a e at_p at_c b is = rw (a, e, at_p, at_c, is) refl

-- what typing says: both are objects
adopting_is : (d : Definition) (ks : Kinds) (to parent child : ℕ) (next : Kinds) → typing.adopting d ks to parent child ≡ Ok next →
    (p : ℕ) × (c : ℕ) × (typing.operand d ks parent ≡ Ok p) × (typing.operand d ks child ≡ Ok c) × (next ≡ with_kind ks to (kinds.plain kinds.bool))
unfolding typing.adopting
adopting_is d ks to parent child next e =
    let x = bound (typing.operand d ks parent) _ next e in
    let y = bound (typing.operand d ks child) _ next x.2 in
    (x.0, y.0, x.1, y.1, (let f = y.2 in let s : with_kind ks to (kinds.plain kinds.bool) ≡ next = cc in sym s))

module _ {d : Definition} (to parent child : ℕ) (t : Due d (words.adopt to parent child)) where
  adopt_of : (a b : ℕ) → after d (r t).p (r t).ks (words.adopt to parent child) ≡ with_kind (r t).ks to (kinds.plain kinds.bool) → Named t parent a → Named t child b → StepIsFine t
  adopt_of a b kinds_are p c =
      go (is_unadoptable p.id p.o c.id c.o)
      (adopt_writes d t.w t.rest (past t.f) to parent child p.id c.id p.o c.o p.asked c.asked p.lives c.lives (is_unadoptable p.id p.o c.id c.o) refl)
    where
      own : FamilyGood (twice (λ ids. ids ++ c.id ∷ []) (Some p.id) c.id p.id t.w.objects) c.id (Some p.id)
      own = own_child t.w.objects c.id p.id p.o p.lives

      at : standing t.w.objects c.id ≡ Some c.o.place
      at = ap (option_map (λ (o : Object). o.place)) c.lives

      go : (x : Bool) → in_front t.rest (adopting d t.w (past t.f) to parent child)
          ≡ in_front t.rest (tells (cond x (record { state = said d t.w (lines.limit (codes "adopt")); answer = false }) (record { state = with_family d t.w p.id c.id; answer = true })) to (past t.f)) →
          StepIsFine t
      go true does =
          moved_written t refl (said d t.w (lines.limit (codes "adopt"))) (said_moved t refl (t.w.transcript ++ text_of_line d.types (lines.limit (codes "adopt")) ∷ [])) to (kinds.plain kinds.bool) (Some (values.bool false)) refl refl kinds_are refl does
      go false does =
          moved_written t refl (with_family d t.w p.id c.id)
          (family_moved t refl (λ ids. ids ++ c.id ∷ []) (Some p.id) c.id p.id (λ id ids apart h. append_left ids (c.id ∷ []) id h)
          (λ ids all. each_append (Lives (standing t.w.objects)) ids (c.id ∷ []) all (record { place = c.o.place; is = at; allowed = tt }, tt)) own (without c.id t.w.floating)
          (t.w.transcript ++ text_of_line d.types (lines.adopt p.id c.id) ∷ []) (each_without (Lives (standing t.w.objects)) c.id t.w.floating t.g.floating)) to (kinds.plain kinds.bool) (Some (values.bool true)) refl refl kinds_are refl does

  adopt_fine : StepIsFine t
  adopt_fine = let k = adopting_is d (r t).ks to parent child _ (taken t).typed in adopt_of k.0 k.1 k.4 (named t parent k.0 k.2) (named t child k.1 k.3)

pub families_are_fine : FamiliesAreFine
families_are_fine (words.orphan object) e = fine_of (λ d t. orphan_fine object t)
families_are_fine (words.adopt to parent child) e = fine_of (λ d t. adopt_fine to parent child t)
families_are_fine _ e = absurd (cc)
