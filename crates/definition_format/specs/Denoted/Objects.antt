-- The objects of a definition, and the bindings among them.
use Rattle.std.specs.Prelude.{ℕ, zero, suc, ◌+◌, List, [], ◌∷◌, ◌++◌, length, map, codes, Bool, nat_le, if◌then◌else◌, Option, Some, is_some, Result, Ok, Err}
use Rattle.serde_json.specs.Data.{Data}
use Rattle.ui_machine.specs.Outcome.{◌>>=◌}
use Rattle.ui_machine.specs.Definition.Types.{GType}
use Rattle.ui_machine.specs.Definition.Properties.{Spec}
use Rattle.ui_machine.specs.Definition.Names.{place_named}
use Rattle.ui_machine.specs.Definition.Places as machine
use Rattle.ui_machine.specs.Definition.Programs.{Program}
use Rattle.ui_machine.specs.Seq.{read}
use Rattle.ui_machine.specs.Output.Text.{no_type}
use Rattle.type_tree.specs.Adding.{class_named}
use Rattle.definition_format.specs.Causes.{abstract_class}
use Rattle.definition_format.specs.declared.faults.DefinitionLimit.TheVariants.{Places, Objects}
use Rattle.definition_format.specs.declared.objects.Bind.{Bind}
use Rattle.definition_format.specs.Meaning.{Entry, bind_view, plain_object, plain_place}
use Rattle.serde_json.specs.Find.{get}
use Rattle.definition_format.specs.Refusals.{Refusal, shape, unknown, bad_type, limit, or_refused}
use Rattle.definition_format.specs.Document.{under, members_at, text_at, entries_at, only_at, each, at_entry}
use Rattle.definition_format.specs.Denoted.Names.{unless_taken}
use Rattle.definition_format.specs.Denoted.Entries.{ObjectNames}
use Rattle.definition_format.specs.Denoted.Binds.{Target}
use Rattle.definition_format.specs.Denoted.Filled.{all_filled}
use Rattle.definition_format.specs.Denoted.Attached.{all_attached}
use Rattle.definition_format.specs.Denoted.Peers.{peer_or, peers_of}

-- there is a place for one more beside these prototypes and objects, and it may live
abbrev pub room_for_object : ℕ → List machine.Place → List machine.Place → Result (Unit {0}) Refusal
room_for_object most prototypes places =
    if nat_le 512 (length places + length prototypes) then Err (limit Places) else (if nat_le most (length places) then Err (limit Objects) else Ok tt)

-- an id beside those of these places
abbrev pub new_id : List ℕ → List machine.Place → List ℕ → Result (Unit {0}) Refusal
new_id path places id = unless_taken path id (is_some (place_named (λ (p : machine.Place). p.id) places id))

-- a class that has objects
abbrev pub unless_abstract : List ℕ → List GType → ℕ → Result ℕ Refusal
unless_abstract path types t = if (read no_type types t).is_abstract then Err (bad_type path abstract_class) else Ok t

abbrev pub class_at_key : List ℕ → List GType → Data → Result ℕ Refusal
class_at_key path types d = do
  name ← text_at path d (codes "class")
  class ← or_refused (unknown (under path (codes "class")) name) (class_named types name)
  unless_abstract (under path (codes "class")) types class

abbrev pub keys_of_object : List (List ℕ)
keys_of_object = codes "id" ∷ codes "class" ∷ codes "peer" ∷ codes "properties" ∷ codes "signals" ∷ codes "children" ∷ []

-- what is known where objects are read: the types with their properties, which of them have a shape, the programs, the prototypes, how many
-- objects may live, and the names of all objects
pub record Scope : Type 0 where
  pub types : List GType
  pub specs : ℕ → List Spec
  pub has_shape : ℕ → Bool
  pub programs : List Program
  pub prototypes : List machine.Place
  pub most : ℕ
  pub names : ObjectNames

-- objects that were read, and the bindings among the properties of these
pub record Built : Type 0 where
  pub places : List machine.Place
  pub bindings : List machine.Bind

-- of the code's objects and bindings
abbrev pub built_view : List Entry → List Bind → Built
built_view objects bindings = record { places = map plain_object objects; bindings = map bind_view bindings }

abbrev pub no_objects : Built
no_objects = record { places = []; bindings = [] }

-- an object more, and these bindings
abbrev pub with_place : Built → machine.Place → List machine.Bind → Built
with_place built place bindings = record { places = built.places ++ place ∷ []; bindings = bindings }

-- an object, and all bindings up to it
pub record Placed : Type 0 where
  pub place : machine.Place
  pub bindings : List machine.Bind

-- what is known where the properties of an object of a class are read, at this place
abbrev pub target_in : Scope → ℕ → ℕ → Target
target_in scope place class = record { types = scope.types; specs = scope.specs; objects = scope.names; place = place; class = class }

-- the object that an entry gives beside these, the child of the object at a place, if it is a child
unfoldable pub place_at : List ℕ → Scope → Option ℕ → Built → Data → Result Placed Refusal
place_at path scope parent built d = do
  room ← room_for_object scope.most scope.prototypes built.places
  id ← text_at path d (codes "id")
  new ← new_id (under path (codes "id")) (built.places ++ scope.prototypes) id
  class ← class_at_key path scope.types d
  peers ← peer_or (under path (codes "peer")) (scope.has_shape class) (peers_of scope.prototypes ++ peers_of built.places) (get (codes "peer") d)
  filled ← all_filled path (target_in scope (length built.places) class) built.bindings d
  signals ← all_attached path scope.programs scope.names d
  Ok (record { place = plain_place id class parent peers filled.given signals; bindings = filled.bindings })

-- these objects, with the one that an entry gives
unfoldable pub added_at : List ℕ → Scope → Option ℕ → Built → Data → Result Built Refusal
added_at path scope parent built d = do
  placed ← place_at path scope parent built d
  Ok (with_place built placed.place placed.bindings)

-- The same, with its children behind it. Lists nest so many levels deep.
unfoldable pub object_at : (levels : ℕ) → Scope → Option ℕ → List ℕ → Built → Data → Result Built Refusal
object_at zero scope parent path built d = Err (shape path)
object_at (suc levels) scope parent path built d = do
  members ← members_at path d
  more ← added_at path scope parent built d
  list ← entries_at path d (codes "children")
  all ← each (at_entry (object_at levels scope (Some (length built.places))) (under path (codes "children"))) 0 more list
  only ← only_at path members keys_of_object
  Ok all
