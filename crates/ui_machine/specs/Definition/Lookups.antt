-- What a definition has where: classes, specs, programs and places by their numbers (GObject manual, g_type_class_ref,
-- g_object_class_find_property; GTK manual, gtk_builder_get_object).
use Rattle.std.specs.Prelude.{ℕ, List, [], Option, None, slice_get}
use Rattle.ui_machine.specs.Seq.{read}
use Rattle.ui_machine.specs.Definition.Names.{canonical, place_named}
use Rattle.ui_machine.specs.Definition.Types.{GType}
use Rattle.ui_machine.specs.Output.Text.{no_type}
use Rattle.ui_machine.specs.Definition.Properties.{Spec}
use Rattle.ui_machine.specs.Definition.{Definition, Class}
use Rattle.ui_machine.specs.Definition.Programs.{Program}
use Rattle.ui_machine.specs.Definition.Places.{Place}

-- a type without properties, signals and programs
abbrev pub no_class : Class
no_class = record { specs = []; signals = []; handlers = []; constructed = None; shape = None }

-- an entry of the tree
abbrev pub type_of : Definition → ℕ → GType
type_of d t = read no_type d.types t

-- what the definition has of a type
abbrev pub class_of : Definition → ℕ → Class
class_of d t = read no_class d.classes t

-- the properties of a class, inherited first
abbrev pub specs_of : Definition → ℕ → List Spec
specs_of d class = (class_of d class).specs

-- a property of a class by its slot
abbrev pub spec_of : Definition → ℕ → ℕ → Option Spec
spec_of d class slot = slice_get (specs_of d class) slot

-- the slot of the property that a name names, in either spelling (GObject manual, property names)
abbrev pub slot_of : Definition → ℕ → List ℕ → Option ℕ
slot_of d class name = place_named (λ (s : Spec). s.name) (specs_of d class) (canonical name)

-- a program by its number
abbrev pub program_at : Definition → ℕ → Option Program
program_at d number = slice_get d.programs number

-- the number of the program of this name
abbrev pub program_of : Definition → List ℕ → Option ℕ
program_of d name = place_named (λ (p : Program). p.name) d.programs name

-- a place by its number
abbrev pub place_at : Definition → ℕ → Option Place
place_at d number = slice_get d.places number

-- the number of the place of this id
abbrev pub place_of : Definition → List ℕ → Option ℕ
place_of d id = place_named (λ (p : Place). p.id) d.places id
