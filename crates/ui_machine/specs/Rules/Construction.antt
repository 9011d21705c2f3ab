-- Constructions: what an object is given as it is made (GObject manual, g_object_new_with_properties).
use Rattle.std.specs.List.{filter, flat_map, list_all}
use Rattle.std.specs.Prelude.{Bool, List, None, Option, Some, [], cond, false, is_some, length, map, nat_eq, nat_le, not, pos, reverse, suc, true, ℕ, ◌++◌, ◌||◌, ◌∷◌}
use Rattle.ui_machine.specs.declared.arm.Arm.TheVariants as arms
use Rattle.ui_machine.specs.Definition.{Definition}
use Rattle.ui_machine.specs.Definition.Kinds as kinds
use Rattle.ui_machine.specs.Definition.Lookups.{class_of, place_at, specs_of, type_of}
use Rattle.ui_machine.specs.Definition.Places.{Given, GivenProperty, Place, named, value}
use Rattle.ui_machine.specs.Definition.Properties.{Spec, is_construct, is_construct_only, is_writable}
use Rattle.ui_machine.specs.Definition.Values.{Value}
use Rattle.ui_machine.specs.Definition.Values as values
use Rattle.ui_machine.specs.Outcome.{Answer, known, only_if, ◌>>=◌}
use Rattle.ui_machine.specs.Output.Lines as lines
use Rattle.ui_machine.specs.Rules.Ancestry.{is_a, lineage}
use Rattle.ui_machine.specs.Rules.EmissionPlan.{first_given}
use Rattle.ui_machine.specs.Rules.NotifyQueue.{frozen_less}
use Rattle.ui_machine.specs.Rules.Programs.{program_before}
use Rattle.ui_machine.specs.Rules.Sets.{spec_at}
use Rattle.ui_machine.specs.Rules.Validation.{is_valid}
use Rattle.ui_machine.specs.Seq.{read, write}
use Rattle.ui_machine.specs.State.Config.{BuilderEntry, Started, World, built, builder_entry, is_unbuilt, released, said, starts, sunk, unbuilt, with_builder_entry, with_objects}
use Rattle.ui_machine.specs.State.Objects.{Object, changed, object_at}
use Rattle.ui_machine.specs.State.Peers.{Peer, first_left, no_peer}
use Rattle.ui_machine.specs.State.Tasks.{Constructing, ConstructStep, Setting, Task, Thawing, runs, sets, thaws}

-- ** which peer a new object gets

-- the shape of a class, or else of its nearest ancestor that has one
abbrev pub nearest_shape : Definition → ℕ → Option ℕ
nearest_shape d class = first_given (λ c. (class_of d c).shape) (lineage d.types class)

-- whether an object of the class has a peer
abbrev pub has_shape : Definition → ℕ → Bool
has_shape d class = is_some (nearest_shape d class)

-- ** given values

-- a name is a forward one where its object is not built before this place
abbrev pub is_forward : ℕ → Given → Bool
is_forward place (value v) = false
is_forward place (named to) = nat_le place to

-- the object that the builder has of a place
abbrev pub object_held : BuilderEntry → Option Value
object_held unbuilt = None
object_held (built id) = Some (values.object (Some id))
object_held released = None

-- the value that is given, where the builder has its object
abbrev pub given_value : World → Given → Option Value
given_value w (value v) = Some v
given_value w (named to) = object_held (builder_entry w to)

-- what is given without a forward name
abbrev pub not_forward : ℕ → List GivenProperty → List GivenProperty
not_forward place given = filter (λ (g : GivenProperty). not (is_forward place g.given)) given

-- the given value of a slot, if there is one
abbrev pub given_at : World → List GivenProperty → ℕ → Option Value
given_at w [] slot = None
given_at w (g ∷ gs) slot = cond (nat_eq g.slot slot) (given_value w g.given) (given_at w gs slot)

-- ** constructions

-- whether a property is set as its object is made
abbrev pub is_at_construction : Spec → Bool
is_at_construction s = is_construct s || is_construct_only s

-- the given value, or else the default
abbrev pub or_default : Option Value → Value → Value
or_default None v = v
or_default (Some given) v = given

-- the construct properties from this slot on, each with the given value or the default
abbrev pub construct_sets : World → List GivenProperty → ℕ → List Spec → List ConstructStep
construct_sets w given slot [] = []
construct_sets w given slot (s ∷ specs) =
    cond (is_at_construction s) (sets slot (or_default (given_at w given slot) s.default) ∷ []) []
    ++ construct_sets w given (suc slot) specs

-- a set of a value, if there is one
abbrev pub set_of : Option Value → ℕ → List ConstructStep
set_of None slot = []
set_of (Some v) slot = sets slot v ∷ []

-- the default where a property is not there
abbrev pub no_spec : Spec
no_spec = record { name = []; kind = kinds.bool; flags = 0; default = values.bool false; low = pos 0; high = pos 0; weak = false }

-- the other given properties, in the given order
abbrev pub given_sets : World → List Spec → List GivenProperty → List ConstructStep
given_sets w specs [] = []
given_sets w specs (g ∷ gs) =
    cond (is_at_construction (read no_spec specs g.slot)) [] (set_of (given_value w g.given) g.slot) ++ given_sets w specs gs

-- a run of a program, if there is one
abbrev pub run_of : Option ℕ → List ConstructStep
run_of None = []
run_of (Some program) = runs program ∷ []

-- the runs of the `constructed` programs of a class and its ancestors, the root's first
abbrev pub constructed_runs : Definition → ℕ → List ConstructStep
constructed_runs d class = flat_map (λ c. run_of (class_of d c).constructed) (reverse (lineage d.types class))

-- what a construction does after its object was made: the construct properties by slot, the programs, the other given properties, the thaw
abbrev pub construction : Definition → World → ℕ → Place → List ConstructStep
construction d w place p =
    construct_sets w (not_forward place p.given) 0 (specs_of d p.class)
    ++ (constructed_runs d p.class
    ++ (given_sets w (specs_of d p.class) (not_forward place p.given)
    ++ thaws ∷ []))

-- whether a default is valid; it names no object
abbrev pub has_valid_default : Definition → Spec → Bool
has_valid_default d s = is_valid (λ id. None) d.types s s.default

-- an object as it is made: each property has its default, and notifications are frozen
abbrev pub new_object : Definition → ℕ → Place → Option ℕ → Object
new_object d place p peer = record {
  class = p.class;
  place = place;
  values = map (λ (s : Spec). s.default) (specs_of d p.class);
  freezes = 1;
  queue = [];
  children = [];
  parent = None;
  disposed = false;
  peer = peer;
}

-- the number of GInitiallyUnowned
abbrev pub initially_unowned : ℕ
initially_unowned = 1

-- an object of a type under GInitiallyUnowned begins floating
abbrev pub floats : Definition → ℕ → ℕ → List ℕ → List ℕ
floats d class id floating = cond (is_a d.types class initially_unowned) (floating ++ id ∷ []) floating

-- the peers, where one has become an object's
abbrev pub lent : Option ℕ → ℕ → List Peer → List Peer
lent None id peers = peers
lent (Some number) id peers = write no_peer peers number (record (read no_peer peers number) { holder = Some id })

-- the world with one more object, under the next identity
abbrev pub with_object : Definition → World → Object → World
with_object d w o =
    record w {
      objects = w.objects ++ Some o ∷ [];
      floating = floats d o.class (suc (length w.objects)) w.floating;
      peers = lent o.peer (suc (length w.objects)) w.peers;
    }

-- a construction begins; `held` says that the builder holds the object at its end
unfoldable pub making : Definition → World → ℕ → Option ℕ → Bool → Answer Started
making d w place peer held = do
  p ← known arms.Code (place_at d place)
  only_if (not (type_of d p.class).is_abstract) arms.Abstract
      (only_if (list_all (has_valid_default d) (specs_of d p.class)) arms.Value
      (starts (said d (with_object d w (new_object d place p peer)) (lines.construct (suc (length w.objects)) (type_of d p.class).name))
      (Constructing (suc (length w.objects)) (construction d w place p) held ∷ [])))

-- a set of a construction, of a writable property
unfoldable pub apply_construct_property : Definition → World → (id slot : ℕ) → Value → List Task → Answer Started
apply_construct_property d w id slot v tasks = do
  s ← spec_at d w.objects id slot
  only_if (is_writable s) arms.Flags (starts w (Setting id slot v ∷ tasks))

-- the end of a construction: what the builder made is held by it, under the object's place, and sunk
unfoldable pub constructed : World → ℕ → Bool → Answer Started
constructed w id false = starts w []
constructed w id true = do
  o ← object_at w.objects id
  only_if (is_unbuilt (builder_entry w o.place)) arms.Code (starts (sunk (with_builder_entry w o.place (built id)) id) [])

-- the thaw that ends a construction
unfoldable pub thawing_made : World → ℕ → List ConstructStep → Bool → Answer Started
thawing_made w id steps held = do
  thaw ← changed w.objects id frozen_less
  starts (with_objects w thaw.state) (Thawing id thaw.answer ∷ Constructing id steps held ∷ [])

-- ** which peer a new object gets

-- the peer that is left for a prototype
abbrev pub peer_left : World → Place → Option ℕ
peer_left w p = first_left w.peers p.peers

-- the peer that a new object takes
abbrev pub peer_to_take : Definition → World → Place → Option ℕ
peer_to_take d w p = cond (has_shape d p.class) (peer_left w p) None

-- ** the steps of a construction

-- the next step of a construction
abbrev pub constructing : Definition → World → ℕ → List ConstructStep → Bool → Answer Started
constructing d w id [] held = constructed w id held
constructing d w id (sets slot v ∷ steps) held = apply_construct_property d w id slot v (Constructing id steps held ∷ [])
constructing d w id (runs program ∷ steps) held =
    program_before d w program (values.object (Some id) ∷ []) (Constructing id steps held ∷ [])
constructing d w id (thaws ∷ steps) held = thawing_made w id steps held
