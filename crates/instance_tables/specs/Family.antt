-- Parents and children: why an object does not become another's child, and what it leaves where it does.
use Rattle.std.specs.Prelude.{◌≡◌, ◌+◌, ◌-◌, ◌||◌, ℕ, cond, nat_eq, is_some, Option, Some, None, Result, Ok, Err}
use Rattle.ui_machine.specs.Seq.{total}
use Rattle.ui_machine.specs.State.Config.{without}
use Rattle.ui_machine.specs.State.Objects.{Object, living}
use Rattle.ui_machine.specs.State.References.{same}
use Rattle.ui_machine.specs.Rules.Children.{is_unadoptable, updated, with_child, with_parent, without_child}
use Rattle.ui_machine.specs.Rules.Disposal.{children_of}
use Rattle.instance_tables.specs.Store.{Store, count_of, so_often}
use Rattle.instance_tables.specs.declared.error.AdoptError.{AdoptError}
use Rattle.instance_tables.specs.declared.error.AdoptError.TheVariants.{NotLiving, HasParent, ChildLimit, OutOfMemory}

-- why one object may not become the child of another
abbrev pub refusal : ℕ → Option Object → ℕ → Option Object → Option AdoptError
refusal parent None child c = Some NotLiving
refusal parent (Some p) child None = Some NotLiving
refusal parent (Some p) child (Some c) =
    cond (is_unadoptable parent p child c) (Some (cond (is_some c.parent || nat_eq parent child) HasParent ChildLimit)) None

abbrev pub refusal_in : Store → ℕ → ℕ → Option AdoptError
refusal_in s parent child = refusal parent (living s.objects parent) child (living s.objects child)

-- an object keeps its children and its parent
pub record KeepsKin (old new : Object) : Type 0 where
  pub children : new.children ≡ old.children
  pub parent : new.parent ≡ old.parent

-- An object no longer floats. As often as it floated it is held less.
pub record Sinks (id : ℕ) (old new : Store) : Type 0 where
  pub beside : new ≡ record old { floating = without id old.floating; counts = new.counts }
  pub counts : (o : ℕ) → count_of new.counts o ≡ count_of old.counts o - so_often (total (same id) old.floating) id o

-- An object is another's child: the parent holds it, and it no longer floats.
pub record Joins (parent child : ℕ) (old new : Store) : Type 0 where
  pub objects : new.objects ≡ updated (with_parent (Some parent)) child (updated (with_child child) parent old.objects)
  pub floating : new.floating ≡ without child old.floating
  pub limit : new.limit ≡ old.limit
  pub counts : (o : ℕ) → count_of new.counts o
      ≡ count_of old.counts o + same o child - so_often (total (same child) old.floating) child o

-- the parent of an object that lives
abbrev pub parent_in : Option Object → Option ℕ
parent_in None = None
parent_in (Some o) = o.parent

-- An object is taken out of its parent's children. As often as it was one it is held less.
pub record Leaves (parent child : ℕ) (old new : Store) : Type 0 where
  pub objects : new.objects ≡ updated (with_parent None) child (updated (without_child child) parent old.objects)
  pub floating : new.floating ≡ old.floating
  pub limit : new.limit ≡ old.limit
  pub counts : (o : ℕ) → count_of new.counts o
      ≡ count_of old.counts o - so_often (total (same child) (children_of (living old.objects parent))) child o

-- It becomes a child, or there is a reason why not, and then all stays as it was.
abbrev pub Adopts : {X : Type 0} → Result X AdoptError → ℕ → ℕ → Store → Store → Type 0
Adopts (Ok x) parent child old new = (refusal_in old parent child ≡ None) × Joins parent child old new
Adopts (Err OutOfMemory) parent child old new = (refusal_in old parent child ≡ None) × (new ≡ old)
Adopts (Err NotLiving) parent child old new = (refusal_in old parent child ≡ Some NotLiving) × (new ≡ old)
Adopts (Err HasParent) parent child old new = (refusal_in old parent child ≡ Some HasParent) × (new ≡ old)
Adopts (Err ChildLimit) parent child old new = (refusal_in old parent child ≡ Some ChildLimit) × (new ≡ old)
