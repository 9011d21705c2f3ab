-- Dispose and finalisation (GObject manual, g_object_run_dispose and finalize).
use Rattle.std.specs.List.{filter}
use Rattle.std.specs.Option.{option_map_or}
use Rattle.std.specs.Prelude.{Bool, List, None, Ok, Option, Some, [], cond, false, fold, map, nat_eq, not, option_map, slice_get, slice_set, true, ℕ, ◌||◌, ◌∷◌}
use Rattle.ui_machine.specs.declared.arm.Arm.TheVariants as arms
use Rattle.ui_machine.specs.Definition.{Definition}
use Rattle.ui_machine.specs.Definition.Lookups.{specs_of}
use Rattle.ui_machine.specs.Definition.Properties.{Spec}
use Rattle.ui_machine.specs.Definition.Values.{Value}
use Rattle.ui_machine.specs.Definition.Values as values
use Rattle.ui_machine.specs.Outcome.{Answer, known, ◌>>=◌}
use Rattle.ui_machine.specs.Output.Lines.{Line}
use Rattle.ui_machine.specs.Output.Lines as lines
use Rattle.ui_machine.specs.Seq.{write}
use Rattle.ui_machine.specs.State.Bindings.{bindings_without_end}
use Rattle.ui_machine.specs.State.Config.{World, said, with_objects}
use Rattle.ui_machine.specs.State.Handlers.{Handler}
use Rattle.ui_machine.specs.State.Objects.{Object, Objects, living, put}
use Rattle.ui_machine.specs.State.Peers.{Peer, closed_peer, no_peer}

-- ** what is forgotten

-- whether a value names the object
abbrev pub names_object : ℕ → Value → Bool
names_object id (values.bool b) = false
names_object id (values.whole kind n) = false
names_object id (values.text s) = false
names_object id (values.enum type n) = false
names_object id (values.flags type bits) = false
names_object id (values.object None) = false
names_object id (values.object (Some i)) = nat_eq i id

-- whether a value is of an object kind
abbrev pub is_object : Value → Bool
is_object (values.bool b) = false
is_object (values.whole kind n) = false
is_object (values.text s) = false
is_object (values.enum type n) = false
is_object (values.flags type bits) = false
is_object (values.object i) = true

-- the values with null where the test holds of a property
abbrev pub nulled : (Spec → Value → Bool) → List Spec → List Value → List Value
nulled test [] vs = vs
nulled test (s ∷ specs) [] = []
nulled test (s ∷ specs) (v ∷ vs) = cond (test s v) (values.object None) v ∷ nulled test specs vs

-- weak properties that name the object are null
abbrev pub forgets : Definition → ℕ → Object → Object
forgets d id o = record o { values = nulled (λ s v. cond s.weak (names_object id v) false) (specs_of d o.class) o.values }

-- its own strong object properties are null, and its children are released
abbrev pub lets_go : Definition → Object → Object
lets_go d o =
    record o { values = nulled (λ s v. cond s.weak false (is_object v)) (specs_of d o.class) o.values; children = []; disposed = true }

-- an object that is no one's child
abbrev pub without_parent : Object → Object
without_parent o = record o { parent = None }

-- these objects have no parent
abbrev pub orphans : List ℕ → Objects → Objects
orphans [] os = os
orphans (id ∷ ids) os = orphans ids (put os id (option_map without_parent (living os id)))

-- whether an identity, if there is one, is the object's
abbrev pub is_identity : ℕ → Option ℕ → Bool
is_identity id None = false
is_identity id (Some i) = nat_eq i id

-- whether a handler is on the object, or has it as data
abbrev pub is_of_object : ℕ → Handler → Bool
is_of_object id h = nat_eq h.object id || is_identity id h.arg

-- the children of an object, if it lives
abbrev pub children_of : Option Object → List ℕ
children_of None = []
children_of (Some o) = o.children

-- ** peers

-- the world after a peer of the pool was closed, if it is open
abbrev pub closed_if_open : Definition → World → ℕ → Peer → World
closed_if_open d w number p =
    cond p.state.is_open (said d (record w { peers = write no_peer w.peers number (closed_peer p) }) (lines.close p.name)) w

-- the world after the object's peer, if it has one, was closed
unfoldable pub closing : Definition → Option ℕ → World → Answer World
closing d None w = Ok w
closing d (Some number) w = do
  p ← known arms.Code (slice_get w.peers number)
  Ok (closed_if_open d w number p)

-- ** dispose

-- the world with the line said, if the test holds
abbrev pub said_if : Definition → Bool → World → Line → World
said_if d false w line = w
said_if d true w line = said d w line

-- whether an object is not disposed yet
abbrev pub is_first : Option Object → Bool
is_first None = false
is_first (Some o) = not o.disposed

-- the peer of an object, if it has one
abbrev pub peer_of : Option Object → Option ℕ
peer_of None = None
peer_of (Some o) = o.peer

-- first all objects forget one
abbrev pub all_forget : Definition → ℕ → Objects → Objects
all_forget d id os = map (option_map (forgets d id)) os

-- then it lets go of what it holds
abbrev pub one_lets_go : Definition → ℕ → Objects → Objects
one_lets_go d id os = put os id (option_map (lets_go d) (living os id))

-- the objects after one was disposed: at last the children that it had have no parent
abbrev pub objects_disposed : Definition → ℕ → Objects → Objects
objects_disposed d id os = orphans (children_of (living os id)) (one_lets_go d id (all_forget d id os))

-- the world where an object has let go of what it held, and is forgotten by weak properties, handlers and bindings
abbrev pub without_object : Definition → World → ℕ → World
without_object d w id = record w {
  objects = objects_disposed d id w.objects;
  handlers = filter (λ h. not (is_of_object id h)) w.handlers;
  bindings = bindings_without_end id w.bindings;
}

-- the world after an object was disposed
abbrev pub disposed : Definition → World → ℕ → Answer World
disposed d w id =
    closing d (peer_of (living w.objects id)) (said_if d (is_first (living w.objects id)) (without_object d w id) (lines.dispose id))

-- the world after an object was finalised: disposed, again if it was, and taken out
unfoldable pub finalised : Definition → World → ℕ → Answer World
finalised d w id = do
  v ← disposed d w id
  Ok (said d (with_objects v (put v.objects id None)) (lines.final id))

-- ** the end of a session

-- the peers with an object's closed if it is open
abbrev pub peers_closed : List Peer → Option Object → List Peer
peers_closed peers None = peers
peers_closed peers (Some o) = closed_at o.peer
  where
    closed_at : Option ℕ → List Peer
    closed_at None = peers
    closed_at (Some k) = option_map_or (λ p. slice_set peers k (closed_peer p)) (slice_get peers k) peers

-- the world as a session is finished: each object's open peer is closed, the lowest identity first, and nothing is said
abbrev pub finish : World → World
finish w = record w { peers = fold peers_closed w.peers w.objects }
