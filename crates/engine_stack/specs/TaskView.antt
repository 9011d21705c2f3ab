-- What a task of the engine denotes in the machine.
use Rattle.std.specs.Prelude.{ℕ, suc, Bool, List, [], ◌∷◌, ◌++◌, map, reverse, drop, Option, Some, None, option_map}
use Rattle.std.specs.Rc.{rc_str_bytes}
use Rattle.std.specs.List.{flat_map}
use Rattle.ui_machine.specs.Definition as machine
use Rattle.ui_machine.specs.Definition.Lookups.{place_at}
use Rattle.ui_machine.specs.Definition.Places.{Attached, Place}
use Rattle.ui_machine.specs.State.Tasks as config
use Rattle.ui_machine.specs.Rules.EmissionPlan.{new_emission}
use Rattle.ui_machine.specs.State.Handlers.{Handler}
use Rattle.ui_machine.specs.Rules.Build.{made_items, adopts_if, connected_items, forward_of, numbered}
use Rattle.g_values.specs.View.{value_view}
use Rattle.g_values.specs.declared.value.Value.{Value}
use Rattle.signal_core.specs.Emission.{Walk, is_over, to_come}
use Rattle.signal_core.specs.Laws.{entries_of}
use Rattle.definition_format.specs.Meaning.{request_of}
use Rattle.frames.specs.FrameView.{frame_view}
use Rattle.engine_stack.specs.declared.task.DueCall.{DueCall}
use Rattle.engine_stack.specs.declared.task.Task.{Task}
use Rattle.engine_stack.specs.declared.task.Task.TheVariants as tasks
use Rattle.engine_stack.specs.declared.task.ForwardReference.{ForwardReference}
use Rattle.engine_stack.specs.declared.task.NewEmission.{NewEmission}
use Rattle.engine_stack.specs.declared.stacks.Frames.{Frames}
use Rattle.engine_stack.specs.declared.task.Transfers.{Transfers}
use Rattle.engine_stack.specs.TransferView.{due_later, due_now, entries_due_of}
pub use Rattle.engine_stack.specs.MakingView.{making_of_code}

-- the item of the build that sets a forward reference
abbrev pub item_of : ForwardReference → config.Item
item_of f = config.forwards f.object.0 f.slot f.to.0

-- the items of forward references that are listed from the last one on
abbrev pub items_of : List ForwardReference → List config.Item
items_of forwards = map item_of (reverse forwards)

-- the forward references of the object at a place
abbrev pub forwards_of_place : ℕ → Option Place → List config.Item
forwards_of_place place None = []
forwards_of_place place (Some p) = flat_map (forward_of place) p.given

abbrev pub forwards_at : machine.Definition → ℕ → List config.Item
forwards_at d place = forwards_of_place place (place_at d place)

-- the signals of the object at a place
abbrev pub signals_of : Option Place → List Attached
signals_of None = []
signals_of (Some p) = p.signals

-- the items that connect the signals of an object from one on, and of all objects behind it
abbrev pub connects_from : machine.Definition → (place number : ℕ) → List config.Item
connects_from d place number =
    numbered (config.connects place) number (drop number (signals_of (place_at d place))) ++ connected_items (suc place) (drop (suc place) d.places)

-- the items that make the bindings from one on, and connect the signals of the objects
abbrev pub binds_from : machine.Definition → (number : ℕ) → List config.Item
binds_from d number = numbered config.binds number (drop number d.bindings) ++ connected_items 0 d.places

-- what the build does once all objects are made: these forward references, the bindings, and the signals of the objects
abbrev pub build_end : machine.Definition → List ForwardReference → List config.Item
build_end d forwards = map item_of forwards ++ binds_from d 0

-- the build of the objects from a place on, and what comes behind them
abbrev pub build_from : machine.Definition → ℕ → List ForwardReference → List config.Item
build_from d place forwards = made_items place (drop place d.places) ++ build_end d forwards

-- an object that was made becomes its parent's child, if it is one
abbrev pub adopts_of : ℕ → Option Place → List config.Item
adopts_of place None = []
adopts_of place (Some p) = adopts_if place p.parent

-- what the build does behind the making of the object at a place
abbrev pub build_behind : machine.Definition → ℕ → List ForwardReference → List config.Item
build_behind d place forwards = adopts_of place (place_at d place) ++ build_from d (suc place) forwards

-- ** emissions

-- an emission before it begins
abbrev pub new_of : NewEmission → config.Emission
new_of e = new_emission e.object.0 e.signal (option_map (λ detail. rc_str_bytes detail) e.detail) (map value_view e.args.items) e.by_event

-- one that goes on, by how far it has come and what it was given
abbrev pub emission_of : Walk → List Value → Bool → config.Emission
emission_of w args by_event = record {
  object = w.object;
  signal = w.signal;
  detail = w.detail;
  args = map value_view args;
  by_event = by_event;
  value = w.value;
  cleanup = is_over w.stage;
}

-- the entries that it has still to come, of the handlers as they are and of these transfers
abbrev pub entries_to_come : Walk → List Handler → Transfers → List config.PlanEntry
entries_to_come w hs ts = entries_due_of (due_now ts) ++ flat_map (entries_of (entries_due_of (due_later ts))) (to_come w hs)

-- ** calls

-- a call of a peer
abbrev pub call_of : DueCall → config.Call
call_of c = record { object = c.object.0; peer = c.peer; method = c.method; args = map value_view c.args.items; to = c.to.0 }

-- ** tasks

-- a task, where these handlers are connected
abbrev pub task_of : machine.Definition → List Handler → Task → config.Task
task_of d hs (tasks.Setting id slot v) = config.Setting id.0 slot (value_view v)
task_of d hs (tasks.Notifying id slot) = config.Notifying id.0 slot
task_of d hs (tasks.Beginning e) = config.Beginning (new_of e)
task_of d hs (tasks.Emitting f) = config.Emitting (emission_of f.cursor f.args.items f.by_event) (entries_to_come f.cursor hs f.transfers)
task_of d hs (tasks.Transferring number back) = config.Transferring number back
task_of d hs (tasks.Unsetting number) = config.Unsetting number
task_of d hs (tasks.Running frame) = config.Running (frame_view frame)
task_of d hs (tasks.Thawing id slots) = config.Thawing id.0 slots
task_of d hs (tasks.Constructing f) = config.Constructing f.object.0 f.steps f.held
task_of d hs (tasks.Building place forwards) = config.Building (build_from d place.0 forwards)
task_of d hs (tasks.Adopting place forwards) = config.Building (config.adopts place.0 ∷ build_from d (suc place.0) forwards)
task_of d hs (tasks.Binding number) = config.Building (binds_from d number)
task_of d hs (tasks.Connecting place number) = config.Building (connects_from d place.0 number)
task_of d hs (tasks.Answering source) = config.Answering source
task_of d hs (tasks.Calling call) = config.Calling (call_of call)
task_of d hs (tasks.Handling event) = config.Handling (request_of event)
task_of d hs (tasks.Due source) = config.Due source

-- the tasks of a stack, the first task first
abbrev pub tasks_of : machine.Definition → List Handler → Frames → List config.Task
tasks_of d hs s = reverse (map (task_of d hs) s.tasks.items)
