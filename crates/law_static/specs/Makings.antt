-- The build's items for objects: they come first, in the order of the places, and what is connected later is reckoned at each place.
use Rattle.std.specs.Prelude.{◌≡◌, ℕ, ◌≤◌, List, ◌∷◌, ◌++◌, length}
use Rattle.ui_machine.specs.Seq.{total}
use Rattle.ui_machine.specs.Definition.{Definition}
use Rattle.ui_machine.specs.State.Tasks.{Item, makes}
use Rattle.ui_machine.specs.Rules.Build.{is_making, build_items}
use Rattle.law_typing.specs.Graph.{Raised, graph}
use Rattle.law_typing.specs.Graph.Tables.{Tables}
use Rattle.law_typing.specs.Graph.Costs.{programs_cost}
use Rattle.law_typing.specs.Laws.{IsIn}
use Rattle.law_typing.specs.Laws.WellRead.{WellRead, IsObject, objects_of}
use Rattle.law_typing.specs.Verdict.Accepted.{Accepted}
use Rattle.law_typing.specs.Good.Bindings.{is_binding}
use Rattle.law_typing.specs.Good.Handlers.{connecting_cost}

-- what is known where the build comes to such an item
pub record Makes (d : Definition) (done items : List Item) (place : ℕ) : Type 0 where
  pub object : IsObject d place
  -- as many objects are made as come before it
  pub order : place ≡ total is_making done
  -- each binding is still to be made
  pub bindings : total is_binding items ≡ length d.bindings

abbrev pub ObjectsComeFirst : Type 0
ObjectsComeFirst =
    (d : Definition) → WellRead d → (done items : List Item) (place : ℕ) → build_items d ≡ done ++ makes place ∷ items →
    Makes d done items place

-- what the items of the build connect costs at a channel no more than the definition's handlers there
abbrev pub ItemsCostLess : Type 0
ItemsCostLess =
    (d : Definition) (costs : Tables) (done items : List Item) → build_items d ≡ done ++ items → (r : Raised) → IsIn r (graph d).raised →
    total (connecting_cost d costs r.channel) items ≤ programs_cost costs r.handlers

-- all of them make the objects of the document
abbrev pub AllAreMade : Type 0
AllAreMade = (d : Definition) → Accepted d → total is_making (build_items d) ≡ objects_of d
