-- Connected handlers, and what those of an object cost together at each channel.
use Rattle.std.specs.Prelude.{◌≡◌, ℕ, ◌+◌, ◌≤◌, Bool, true, false, cond, not, ◌&&◌, nat_eq, List, length, Option, None, Some, option_map, slice_get}
use Rattle.std.specs.List.{filter}
use Rattle.ui_machine.specs.Seq.{total}
use Rattle.ui_machine.specs.Definition.Kinds.{RegisterKind}
use Rattle.ui_machine.specs.Definition.Kinds as kinds
use Rattle.ui_machine.specs.Definition.{Definition}
use Rattle.ui_machine.specs.Definition.Signals.{Signal}
use Rattle.ui_machine.specs.Definition.Places.{Attached}
use Rattle.ui_machine.specs.Definition.Lookups.{program_at}
use Rattle.ui_machine.specs.Rules.EmissionPlan.{signal_of, fits_detail}
use Rattle.ui_machine.specs.State.Handlers.{Handler}
use Rattle.ui_machine.specs.State.Tasks.{Item, connects, Task}
use Rattle.ui_machine.specs.Rules.Build.{of_items}
use Rattle.law_typing.specs.Rules.RegisterKinds.{class_at}
use Rattle.law_typing.specs.Rules.Signatures.{is_taken_by, given_kinds}
use Rattle.law_typing.specs.Graph.Channels.{Channel, property, signal, spec_at}
use Rattle.law_typing.specs.Graph.Channels as entries
use Rattle.law_typing.specs.Graph.{Raised, graph, place_of_channel, can_mean, attached_to}
use Rattle.law_typing.specs.Graph.Tables.{Tables, of_program, greatest}
use Rattle.law_typing.specs.Graph.Costs.{programs_cost}
use Rattle.law_typing.specs.Graph.Depths.{depth_within}
use Rattle.law_typing.specs.Verdict.Report.{property_name}
use Rattle.law_typing.specs.Verdict.Accepted.{Each}
use Rattle.law_typing.specs.Good.Standing.{Standing, Stands, LivesIf, Rising}

-- a program takes what an emission at the place gives it
abbrev pub Takes : Definition → (place number : ℕ) → (program : ℕ) → (swapped : Bool) → Option RegisterKind → Type 0
Takes d place number program swapped data_kind =
    (class : ℕ) × (sig : Signal) × (class_at d place ≡ Some class) × (signal_of d class number ≡ Some sig)
    × (is_taken_by d (program_at d program) (given_kinds swapped (kinds.at place) sig.params data_kind) sig.result ≡ true)

-- the kind of a handler's data, by the place of the data object
abbrev pub data_kind : Standing → Option ℕ → Option RegisterKind
data_kind s None = None
data_kind s (Some id) = option_map kinds.at (s id)

-- a connected handler: its object and its data live, and its program takes what it is given there
pub record HandlerGood (d : Definition) (s : Standing) (h : Handler) : Type 0 where
  pub at : Stands s h.object (λ place. Takes d place h.signal h.program h.swapped (data_kind s h.arg))
  pub arg : LivesIf s h.arg

-- whether a handler runs for what is raised at a channel of its object's place
abbrev pub runs_at : Definition → Handler → Channel → Bool
runs_at d h (entries.constructed place) = false
runs_at d h (property place slot) = nat_eq h.signal 0 && fits_detail h.detail (Some (property_name (spec_at d place slot)))
runs_at d h (signal place number) = nat_eq h.signal number

-- those of an object that do, connected by bytecode or by the definition
abbrev pub running_for : Definition → Bool → ℕ → Channel → List Handler → List Handler
running_for d by_code id c hs = filter (λ (h : Handler). cond by_code h.by_code (not h.by_code) && (nat_eq h.object id && runs_at d h c)) hs

-- whether a handler is by bytecode, on the object and to the signal
abbrev pub is_connected : (id number : ℕ) → Handler → Bool
is_connected id number h = h.by_code && (nat_eq h.object id && nat_eq h.signal number)

-- what a signal of the definition that is still to be connected may cost at a channel
abbrev pub connecting_cost : Definition → Tables → Channel → Item → ℕ
connecting_cost d costs c (connects place number) =
    cond (nat_eq (place_of_channel c) place) (of (class_at d place) (slice_get (attached_to d place) number)) 0
  where
    of : Option ℕ → Option Attached → ℕ
    of (Some class) (Some a) = cond (can_mean d class c a.signal a.detail) (of_program costs a.program) 0
    of class a = 0
connecting_cost d costs c item = 0

-- The handlers of an object that run at a channel of its place. Those of the definition, with those that the build has still to connect
-- there, cost together no more than the channel's part for them: said as a sum, so that it survives each disconnection. Those of bytecode
-- are no more than the limit, and each costs no more than
-- the costliest connectable one. None is deeper than what the channel's depth counts.
pub record ChannelGood (d : Definition) (costs depths : Tables) (agenda : List Task) (id : ℕ) (hs : List Handler)
    (r : Raised) : Type 0 where
  pub own :
      total (λ (h : Handler). of_program costs h.program) (running_for d false id r.channel hs)
      + total (of_items (connecting_cost d costs r.channel)) agenda
      ≤ programs_cost costs r.handlers
  pub connected : Each (λ (h : Handler). of_program costs h.program ≤ greatest (of_program costs) r.connectable)
      (running_for d true id r.channel hs)
  pub own_shallow : Each (λ (h : Handler). of_program depths h.program ≤ depth_within depths r) (running_for d false id r.channel hs)
  pub connected_shallow : Each (λ (h : Handler). of_program depths h.program ≤ depth_within depths r) (running_for d true id r.channel hs)

-- the handlers of a world, of which the last one connected has this number
pub record HandlersGood (d : Definition) (costs depths : Tables) (s : Standing) (agenda : List Task) (last : ℕ)
    (hs : List Handler) : Type 0 where
  -- each names what lives, and its program takes what it is given
  pub each : Each (HandlerGood d s) hs
  -- their numbers rise
  pub rising : Rising (λ (h : Handler). h.number) 0 hs
  -- and are at most the last one
  pub numbered : Each (λ (h : Handler). h.number ≤ last) hs
  -- bytecode connected no more than the limit to one signal of an object
  pub few : (id number : ℕ) → length (filter (is_connected id number) hs) ≤ d.most_handlers
  -- at each channel of each object they cost no more than is reckoned there
  pub channels : (id place : ℕ) → s id ≡ Some place →
      Each (λ (r : Raised). place_of_channel r.channel ≡ place → ChannelGood d costs depths agenda id hs r) (graph d).raised
