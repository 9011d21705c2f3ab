-- What is let go where an object is disposed and finalised.
use Rattle.std.specs.Prelude.{◌≡◌, ℕ, ◌+◌, ◌-◌, true, cond, Bool, List, [], ◌∷◌, Option, Some, None, slice_get}
use Rattle.ui_machine.specs.Seq.{read}
use Rattle.ui_machine.specs.Definition.{Definition}
use Rattle.ui_machine.specs.Definition.Values.{Value}
use Rattle.ui_machine.specs.State.Objects.{Object, living, put}
use Rattle.ui_machine.specs.State.References.{in_object, in_value}
use Rattle.ui_machine.specs.Rules.Disposal.{objects_disposed}
use Rattle.instance_tables.specs.Store.{Store, count_of, named_by}
use Rattle.instance_tables.specs.Weak.{Marks, masked, dropped_value}

-- ** one object

-- an object that was disposed: its strong values of an object kind are null, and it has no children
abbrev pub emptied : Marks → Object → Object
emptied weak o = record o { values = masked dropped_value (read [] weak o.class) o.values; children = []; disposed = true }

-- the values of an object, if it lives
abbrev pub values_in : Option Object → List Value
values_in None = []
values_in (Some o) = o.values

-- the marks of an object's class, if it lives
abbrev pub marks_in : Marks → Option Object → List Bool
marks_in weak None = []
marks_in weak (Some o) = read [] weak o.class

-- the object that a value names, if it is there
abbrev pub name_in : Option Value → Option ℕ
name_in None = None
name_in (Some v) = named_by v

-- the object that the value of a slot names
abbrev pub name_at : ℕ → Option Object → Option ℕ
name_at slot o = name_in (slice_get (values_in o) slot)

-- how often the values that have a mark and are not marked weak hold one
abbrev pub in_strong : ℕ → List Bool → List Value → ℕ
in_strong o [] vs = 0
in_strong o (b ∷ bs) [] = 0
in_strong o (b ∷ bs) (v ∷ vs) = cond b 0 (in_value o v) + in_strong o bs vs

-- ** the store

-- An object is disposed, as the machine does it. What it held is let go, and what floats stays.
pub record Disposes (d : Definition) (id : ℕ) (old new : Store) : Type 0 where
  pub objects : new.objects ≡ objects_disposed d id old.objects
  pub floating : new.floating ≡ old.floating
  pub limit : new.limit ≡ old.limit
  pub counts : (o : ℕ) → count_of new.counts o ≡ count_of old.counts o - in_object d o (living old.objects id)

-- An object is finalised: disposed, and then taken out.
pub record Finalises (d : Definition) (id : ℕ) (old new : Store) : Type 0 where
  pub objects : new.objects ≡ put (objects_disposed d id old.objects) id None
  pub floating : new.floating ≡ old.floating
  pub limit : new.limit ≡ old.limit
  pub counts : (o : ℕ) → count_of new.counts o ≡ count_of old.counts o - in_object d o (living old.objects id)
