-- Objects that are made and have not got their peers yet.
use Rattle.std.specs.Prelude.{◌≡◌, ◌++◌, ◌∷◌, [], ℕ, suc, Bool, cond, length, Some, string_bytes}
use Rattle.ui_machine.specs.Definition.{Definition}
use Rattle.ui_machine.specs.Rules.Construction.{lent}
use Rattle.ui_machine.specs.State.Config.{World}
use Rattle.ui_machine.specs.State.Objects.{Object}
use Rattle.ui_machine.specs.State.References.{in_object}
use Rattle.instance_tables.specs.Laws.{Counted}
use Rattle.instance_tables.specs.Store.{Store}
use Rattle.engine_world.specs.View.{with_line}
use Rattle.engine_world.specs.declared.objects.NewObject.{NewObject}

-- a world whose peers are those of an older one
abbrev pub before_lent : World → World → World
before_lent old w = record w { peers = old.peers }

-- a world in which the construction of a new object begins: the object gets its peer, and its line is said
abbrev pub begun : NewObject → World → World
begun new w = with_line (string_bytes new.line) (record w { peers = lent new.peer new.object.0 w.peers })

-- A table has one object more, under the next identity, and it floats or not. Counts that were exact are so where the object holds nothing.
pub record Adds (o : Object) (floats : Bool) (id : ℕ) (old new : Store) : Type 0 where
  pub identity : id ≡ suc (length old.objects)
  pub objects : new.objects ≡ old.objects ++ Some o ∷ []
  pub floating : new.floating ≡ cond floats (old.floating ++ id ∷ []) old.floating
  pub counted : (d : Definition) (beside : ℕ → ℕ) → ((q : ℕ) → in_object d q (Some o) ≡ 0) → Counted d beside old → Counted d beside new
