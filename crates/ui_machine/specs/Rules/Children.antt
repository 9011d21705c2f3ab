-- Parents and children (GTK manual, GtkBuildable: add_child).
use Rattle.std.specs.Prelude.{ℕ, Bool, true, false, cond, ◌||◌, nat_eq, nat_le, [], ◌∷◌, ◌++◌, length, Option, None, Some, Ok, is_some, option_map}
use Rattle.ui_machine.specs.Definition.{Definition}
use Rattle.std.specs.Prelude.{codes}
use Rattle.ui_machine.specs.Output.Lines as lines
use Rattle.ui_machine.specs.State.Objects.{Object, Objects, living, put, object_at}
use Rattle.ui_machine.specs.State.Config.{World, said, with_objects, sunk, without}
use Rattle.ui_machine.specs.Outcome.{After, Answer, ◌>>=◌}

-- the most children of an object
abbrev pub most_children : ℕ
most_children = 1024

-- whether an object may not become another's child: it has a parent, is that object, or there is no room
abbrev pub is_unadoptable : ℕ → Object → ℕ → Object → Bool
is_unadoptable parent p child c = is_some c.parent || (nat_eq parent child || nat_le most_children (length p.children))

-- an object with one more child
abbrev pub with_child : ℕ → Object → Object
with_child child o = record o { children = o.children ++ child ∷ [] }

-- an object with this parent, or none
abbrev pub with_parent : Option ℕ → Object → Object
with_parent parent o = record o { parent = parent }

-- an object without this child
abbrev pub without_child : ℕ → Object → Object
without_child child o = record o { children = without child o.children }

-- the objects with one changed, where it lives
abbrev pub updated : (Object → Object) → ℕ → Objects → Objects
updated change id os = put os id (option_map change (living os id))

-- the world after an object became a child, and no longer floats
abbrev pub with_family : Definition → World → ℕ → ℕ → World
with_family d w parent child =
    said d (sunk (with_objects w (updated (with_parent (Some parent)) child (updated (with_child child) parent w.objects))) child)
    (lines.adopt parent child)

-- an object becomes another's child, or does not, by a limit's line
unfoldable pub adopted : Definition → World → ℕ → ℕ → Answer (After World Bool)
adopted d w parent child = do
  p ← object_at w.objects parent
  c ← object_at w.objects child
  Ok (cond (is_unadoptable parent p child c) (record { state = said d w (lines.limit (codes "adopt")); answer = false })
      (record { state = with_family d w parent child; answer = true }))

-- the world after an object was taken out of its parent, if it has one
abbrev pub orphaned : Definition → World → ℕ → Option ℕ → World
orphaned d w child None = w
orphaned d w child (Some parent) =
    said d (with_objects w (updated (with_parent None) child (updated (without_child child) parent w.objects))) (lines.orphan child)
