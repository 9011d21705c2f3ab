-- Which peers a definition needs, and how a pool may fail to match them.
use Rattle.std.specs.Prelude.{ℕ, Bool, true, false, cond, not, ◌&&◌, List, [], ◌∷◌, ◌++◌, map, Option, None, Some, option_map, slice_get}
use Rattle.std.specs.List.{filter, flat_map, list_any}
use Rattle.ui_machine.specs.Definition.Names.{same_name}
use Rattle.ui_machine.specs.Definition.Kinds.{Kind}
use Rattle.ui_machine.specs.Rules.Transform.{same_kind}
use Rattle.ui_machine.specs.Definition.{Definition}
use Rattle.ui_machine.specs.Definition.Signals.{Method, Shape}
use Rattle.ui_machine.specs.Definition.Places.{Place}
use Rattle.ui_machine.specs.State.Peers.{Peer, peer_number}
use Rattle.ui_machine.specs.Rules.Construction.{nearest_shape}

-- ** needs

-- a peer that is needed: its name, and the methods of its object's class; of a class without a shape none can be given
pub record Need : Type 0 where
  pub name : List ℕ
  pub methods : Option (List Method)

-- the methods of a shape, if there is one
abbrev pub methods_in : Definition → Option ℕ → Option (List Method)
methods_in d None = None
methods_in d (Some shape) = option_map (λ (s : Shape). s.methods) (slice_get d.shapes shape)

-- what a place needs: each peer that it names
abbrev pub needs_at : Definition → Place → List Need
needs_at d p = map (λ name. record { name = name; methods = methods_in d (nearest_shape d p.class) }) p.peers

abbrev pub prototypes : Definition → List Place
prototypes d = filter (λ (p : Place). p.is_prototype) d.places

abbrev pub objects : Definition → List Place
objects d = filter (λ (p : Place). not p.is_prototype) d.places

-- what a definition needs, as a document names it: the peers of prototypes first, then those of objects
abbrev pub needs_of : Definition → List Need
needs_of d = flat_map (needs_at d) (prototypes d) ++ flat_map (needs_at d) (objects d)

-- ** shapes

abbrev pub same_kinds : List Kind → List Kind → Bool
same_kinds [] [] = true
same_kinds [] (l ∷ ls) = false
same_kinds (k ∷ ks) [] = false
same_kinds (k ∷ ks) (l ∷ ls) = same_kind k l && same_kinds ks ls

abbrev pub same_method : Method → Method → Bool
same_method m n = same_name m.name n.name && (same_kinds m.params n.params && same_kind m.result n.result)

-- whether two shapes are one: the same methods in the same order, since a call names a method by its number
abbrev pub same_shape : List Method → List Method → Bool
same_shape [] [] = true
same_shape [] (n ∷ ns) = false
same_shape (m ∷ ms) [] = false
same_shape (m ∷ ms) (n ∷ ns) = same_method m n && same_shape ms ns

-- whether a peer is of the shape that is needed
abbrev pub is_shaped : Option (List Method) → List Method → Bool
is_shaped None own = false
is_shaped (Some methods) own = same_shape methods own

-- ** mismatches

-- how a pool fails to match, with the peer's name
pub data Mismatch : Type 0 where
  missing : (name : List ℕ) → Mismatch  -- no peer is called so
  closed : (name : List ℕ) → Mismatch  -- it is closed
  misshapen : (name : List ℕ) → Mismatch  -- it is of another shape
  unused : (name : List ℕ) → Mismatch  -- nothing needs it

-- the peer of a name in a pool
abbrev pub peer_named : List Peer → List ℕ → Option Peer
peer_named pool name = at (peer_number pool name)
  where
    at : Option ℕ → Option Peer
    at None = None
    at (Some number) = slice_get pool number

-- what is wrong with the peer of a need
abbrev pub wrong_with : Need → Option Peer → Option Mismatch
wrong_with n None = Some (missing n.name)
wrong_with n (Some p) = cond p.state.is_open (cond (is_shaped n.methods p.state.shape) None (Some (misshapen n.name))) (Some (closed n.name))

-- this one, or else the other
abbrev pub or_else : Option Mismatch → Option Mismatch → Option Mismatch
or_else None other = other
or_else (Some m) other = Some m

-- the first need whose peer is not as it should be
abbrev pub first_wrong : List Peer → List Need → Option Mismatch
first_wrong pool [] = None
first_wrong pool (n ∷ needs) = or_else (wrong_with n (peer_named pool n.name)) (first_wrong pool needs)

-- whether something needs a peer
abbrev pub is_needed : List Need → Peer → Bool
is_needed needs p = list_any (λ (n : Need). same_name n.name p.name) needs

-- the first peer that nothing needs
abbrev pub first_unused : List Need → List Peer → Option Mismatch
first_unused needs [] = None
first_unused needs (p ∷ pool) = cond (is_needed needs p) (first_unused needs pool) (Some (unused p.name))

-- how a pool fails to match these needs: need by need, and then peer by peer
abbrev pub mismatch_with : List Need → List Peer → Option Mismatch
mismatch_with needs pool = or_else (first_wrong pool needs) (first_unused needs pool)

-- how a pool fails to match what a definition needs
abbrev pub mismatch : Definition → List Peer → Option Mismatch
mismatch d pool = mismatch_with (needs_of d) pool
