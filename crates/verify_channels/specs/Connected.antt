-- Groups of programs that bytecode may connect alike.
use Rattle.std.specs.Prelude.{◌≡◌, ◌<◌, ℕ, zero, suc, true, cond, List, [], ◌∷◌, ◌++◌, length, map, Option, None, Some, Vec}
use Rattle.std.specs.Global.{Global}
use Rattle.std.specs.BTreeMap.{get}
use Rattle.std.specs.List.{filter, filter_map}
use Rattle.ui_machine.specs.Seq.{read}
use Rattle.ui_machine.specs.Definition.Kinds.{RegisterKind}
use Rattle.ui_machine.specs.Definition.Kinds as kinds
use Rattle.ui_machine.specs.Definition.{Definition}
use Rattle.ui_machine.specs.Definition.Lookups.{slot_of}
use Rattle.ui_machine.specs.Rules.Connections.{signal_number}
use Rattle.law_typing.specs.Graph.{Connection, may_be_at, place_of_channel}
use Rattle.law_typing.specs.Graph.Channels.{Channel, of_class}
use Rattle.law_typing.specs.Laws.{IsIn}
use Rattle.law_typing.specs.Rules.RegisterKinds.{class_at, covers, places}
use Rattle.verify_graph.specs.Numbering.{Key, compared}
use Rattle.verify_starts.specs.Triggers.{member_key}
use Rattle.verify_channels.specs.Meanings.{Meant, meaning_of, meaning_view, meant, of_signal, signal_of_channel}
use Rattle.verify_channels.specs.SignalLists.{list_of}
use Rattle.verify_channels.specs.declared.connections.PlacedGroup.{PlacedGroup}
use Rattle.verify_channels.specs.declared.connections.Connects.{Connects}
use Rattle.verify_channels.specs.declared.signal_lists.SignalLists.{SignalLists}

-- ** keys

-- the key of a signal with a detail, where the signal has this number in a class; a detail counts for `notify` alone
abbrev pub detail_key : Definition → (x sort : ℕ) → Option ℕ → (class : ℕ) → Option (List ℕ) → Option Key
detail_key d x sort None class detail = None
detail_key d x sort (Some zero) class None = Some (x, sort, 0)
detail_key d x sort (Some zero) class (Some detail) = member_key x (suc sort) (slot_of d class detail)
detail_key d x sort (Some (suc n)) class detail = Some (x, sort, suc n)

-- of a signal of a class
abbrev pub signal_key : Definition → (x sort class : ℕ) → List ℕ → Option (List ℕ) → Option Key
signal_key d x sort class signal detail = detail_key d x sort (signal_number d class signal) class detail

-- of the class of a place, if there is one
abbrev pub place_key : Definition → (place : ℕ) → Option ℕ → List ℕ → Option (List ℕ) → Option Key
place_key d place None signal detail = None
place_key d place (Some class) signal detail = signal_key d place 2 class signal detail

-- what connections that may be at the same channels have in common, where their names are known
abbrev pub connection_key : Definition → RegisterKind → List ℕ → Option (List ℕ) → Option Key
connection_key d (kinds.some type) signal detail = signal_key d type 0 type signal detail
connection_key d (kinds.at place) signal detail = place_key d place (class_at d place) signal detail
connection_key d _ signal detail = None

-- ** groups

abbrev pub group_view : PlacedGroup → Meant
group_view g = record { what = g.group; meaning = meaning_view g.meaning }

-- of the groups at a place, those that are for a signal, and what they are for
abbrev pub placed : List (SignalLists PlacedGroup) → (place number : ℕ) → List Meant
placed at place number = read [] (map (λ s. map group_view (list_of s number)) at) place

-- the groups that may be at a channel
abbrev pub groups_for : List (SignalLists PlacedGroup) → Channel → List ℕ
groups_for at c = meant c (placed at (place_of_channel c) (signal_of_channel c))

-- the programs of groups
abbrev pub programs_of : List (Vec ℕ Global) → List (List ℕ)
programs_of groups = map (λ v. v.items) groups

-- the programs of connections that may be at a channel of a class
abbrev pub connected_at : Definition → List Connection → Channel → ℕ → List ℕ
connected_at d ns c class = filter_map (λ (n : Connection). n.program) (filter (may_be_at d c class) ns)

-- a group is at those channels at which a connection may be
abbrev pub IsAlike : Definition → List (SignalLists PlacedGroup) → ℕ → Connection → Type 0
IsAlike d at g n =
    (c : Channel) (class : ℕ) → class_at d (place_of_channel c) ≡ Some class →
    (IsIn g (groups_for at c) → may_be_at d c class n ≡ true) × (may_be_at d c class n ≡ true → IsIn g (groups_for at c))

-- the connection of a program to what a kind covers
abbrev pub connection_over : Definition → RegisterKind → List ℕ → Option (List ℕ) → Option ℕ → Connection
connection_over d kind signal detail program = record { places = places d kind; signal = signal; detail = detail; program = program }

-- these connections are kept in groups
pub record AreConnected (d : Definition) (x : Connects) (ns : List Connection) : Type 0 where
  pub places : length x.at.items ≡ length d.places
  -- a program of a group at a channel may be connected there
  pub there : (c : Channel) (class g p : ℕ) → class_at d (place_of_channel c) ≡ Some class → IsIn g (groups_for x.at.items c) →
      IsIn p (read [] (programs_of x.groups.items) g) → IsIn p (connected_at d ns c class)
  -- and one that may be connected there is in one
  pub back : (c : Channel) (class p : ℕ) → class_at d (place_of_channel c) ≡ Some class → IsIn p (connected_at d ns c class) →
      (g : ℕ) × IsIn g (groups_for x.at.items c) × IsIn p (read [] (programs_of x.groups.items) g)
  -- groups that are at channels are there
  pub known : (c : Channel) (class g : ℕ) → class_at d (place_of_channel c) ≡ Some class → IsIn g (groups_for x.at.items c) → g < length x.groups.items
  -- the group of a key is at the channels of each connection with it
  pub kept : (kind : RegisterKind) (signal : List ℕ) (detail : Option (List ℕ)) (program : Option ℕ) (k : Key) (g : ℕ) →
      connection_key d kind signal detail ≡ Some k → get compared x.numbers k ≡ Some g →
      (g < length x.groups.items) × IsAlike d x.at.items g (connection_over d kind signal detail program)

-- some connections are put to those that are kept already
abbrev pub ConnectsMore : Definition → (old new : Connects) → List Connection → Type 0
ConnectsMore d old new more = (ns : List Connection) → AreConnected d old ns → AreConnected d new (ns ++ more)

-- ** a new group

-- a group at a place that a kind covers
abbrev pub meant_at : Definition → RegisterKind → List ℕ → Option (List ℕ) → (g place : ℕ) → List Meant
meant_at d kind signal detail g place =
    cond (covers d kind place) (of_class (λ class. record { what = g; meaning = meaning_of d class signal detail } ∷ []) (class_at d place)) []

-- a group of a program is new, at the places that a kind covers
pub record AddsGroup (d : Definition) (old new : Connects) (kind : RegisterKind) (signal : List ℕ) (detail : Option (List ℕ)) (p g : ℕ) : Type 0 where
  pub number : g ≡ length old.groups.items
  pub groups : programs_of new.groups.items ≡ programs_of old.groups.items ++ (p ∷ []) ∷ []
  pub numbers : new.numbers ≡ old.numbers
  pub places : length new.at.items ≡ length old.at.items
  pub placed_at : (n number : ℕ) → n < length d.places → placed new.at.items n number ≡ placed old.at.items n number ++ of_signal number (meant_at d kind signal detail g n)
