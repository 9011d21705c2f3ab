-- Emissions: what runs in them, and in which order (GObject manual, signals: g_signal_emit).
use Rattle.std.specs.List.{filter}
use Rattle.std.specs.Prelude.{Bool, List, None, Option, Some, [], cond, false, map, nat_eq, not, slice_get, true, ℕ, ◌&&◌, ◌++◌, ◌∷◌}
use Rattle.ui_machine.specs.declared.arm.Arm.TheVariants as arms
use Rattle.ui_machine.specs.Definition.{Definition}
use Rattle.ui_machine.specs.Definition.Lookups.{class_of, spec_of}
use Rattle.ui_machine.specs.Definition.Names.{same_name}
use Rattle.ui_machine.specs.Definition.Properties.{has_flags}
use Rattle.ui_machine.specs.Definition.Signals.{ClassHandler, Signal}
use Rattle.ui_machine.specs.Definition.Values.{Value}
use Rattle.ui_machine.specs.Outcome.{Answer, known, only_if, ◌>>=◌}
use Rattle.ui_machine.specs.Output.Lines as lines
use Rattle.ui_machine.specs.Rules.Ancestry.{lineage}
use Rattle.ui_machine.specs.Rules.Programs.{all_fit}
use Rattle.ui_machine.specs.Rules.Transform.{kind_fits}
use Rattle.ui_machine.specs.State.Bindings.{transfers}
use Rattle.ui_machine.specs.State.Config.{Started, World, said, starts}
use Rattle.ui_machine.specs.State.Handlers.{Handler}
use Rattle.ui_machine.specs.State.Objects.{class_in, object_at}
use Rattle.ui_machine.specs.State.Tasks.{Emission, Emitting, PlanEntry, class_handler, handler}

-- the entry of a class's list of signals; number 0 is `notify`
abbrev pub signal_of : Definition → ℕ → ℕ → Option Signal
signal_of d class number = slice_get (class_of d class).signals number

-- that signal, or the arm
unfoldable pub signal_at : Definition → ℕ → ℕ → Answer Signal
signal_at d class number = known arms.Code (signal_of d class number)

-- ** class handlers

-- the program that a class names for a signal
abbrev pub handler_in : List ClassHandler → List ℕ → Option ℕ
handler_in [] name = None
handler_in (h ∷ hs) name = cond (same_name h.signal name) (Some h.program) (handler_in hs name)

-- the first of two that is there
abbrev pub or_else : Option ℕ → Option ℕ → Option ℕ
or_else None other = other
or_else (Some p) other = Some p

-- what the first of some classes gives that gives something
abbrev pub first_given : (ℕ → Option ℕ) → List ℕ → Option ℕ
first_given f [] = None
first_given f (class ∷ above) = or_else (f class) (first_given f above)

-- the program that a class or else its nearest ancestor names for a signal
abbrev pub class_handler_of : Definition → ℕ → List ℕ → Option ℕ
class_handler_of d class name = first_given (λ c. handler_in (class_of d c).handlers name) (lineage d.types class)

-- ** the plan

-- whether a handler's detail allows that of an emission
abbrev pub fits_detail : Option (List ℕ) → Option (List ℕ) → Bool
fits_detail None detail = true
fits_detail (Some mine) None = false
fits_detail (Some mine) (Some detail) = same_name mine detail

-- whether a handler runs for an emission of the signal with the detail; one without a detail runs for all
abbrev pub runs_for : ℕ → ℕ → Option (List ℕ) → Handler → Bool
runs_for id signal detail h = (nat_eq h.object id && nat_eq h.signal signal) && fits_detail h.detail detail

-- the class handler's entry, if it runs at this stage
abbrev pub at_stage : Bool → Bool → Option ℕ → List PlanEntry
at_stage runs cleanup None = []
at_stage runs cleanup (Some program) = cond runs (class_handler program cleanup ∷ []) []

-- the entries of the handlers, before or after the class handler
abbrev pub handlers_for : List Handler → ℕ → ℕ → Option (List ℕ) → Bool → List PlanEntry
handlers_for hs id signal detail after =
    map (λ (h : Handler). handler h.number) (filter (λ (h : Handler). runs_for id signal detail h && cond after h.after (not h.after)) hs)

-- what an emission's entries are taken from
pub record Planned : Type 0 where
  pub object : ℕ
  pub signal : ℕ
  pub detail : Option (List ℕ)
  pub flags : ℕ  -- of the signal
  pub class_program : Option ℕ  -- that the class runs for it
  pub transfers : List PlanEntry  -- of a notification

-- the entries of an emission, taken as it begins: the class handler if RUN_FIRST; a notification's transfers; the handlers; the class
-- handler if RUN_LAST; the handlers connected after; the class handler if RUN_CLEANUP
abbrev pub plan : World → Planned → List PlanEntry
plan w p =
    at_stage (has_flags 1 p.flags) false p.class_program
    ++ (p.transfers
    ++ (handlers_for w.handlers p.object p.signal p.detail false
    ++ (at_stage (has_flags 2 p.flags) false p.class_program
    ++ (handlers_for w.handlers p.object p.signal p.detail true
    ++ at_stage (has_flags 4 p.flags) true p.class_program))))

-- ** notifications

-- an emission of `notify` for a property
abbrev pub notification : ℕ → List ℕ → Emission
notification id name = record { object = id; signal = 0; detail = Some name; args = []; by_event = false; value = None; cleanup = false }

-- the entries of a notification, by the signal `notify` of the class
abbrev pub notify_plan : Definition → World → Signal → (class id slot : ℕ) → List ℕ → List PlanEntry
notify_plan d w s class id slot name = plan w (record {
  object = id;
  signal = 0;
  detail = Some name;
  flags = s.flags;
  class_program = class_handler_of d class s.name;
  transfers = transfers id slot w.bindings;
})

-- a due notification begins
unfoldable pub notifying : Definition → World → ℕ → ℕ → Answer Started
notifying d w id slot = do
  o ← object_at w.objects id
  p ← known arms.Code (spec_of d o.class slot)
  s ← signal_at d o.class 0
  starts (said d w (lines.notify id p.name)) (Emitting (notification id p.name) (notify_plan d w s o.class id slot p.name) ∷ [])

-- ** other emissions

-- its entries, by its signal; it makes no transfers
abbrev pub emission_plan : Definition → World → Signal → (class : ℕ) → Emission → List PlanEntry
emission_plan d w s class e = plan w (record {
  object = e.object;
  signal = e.signal;
  detail = e.detail;
  flags = s.flags;
  class_program = class_handler_of d class s.name;
  transfers = [];
})

-- an emission that is due begins: its arguments fit, its line is said, and its entries are taken
unfoldable pub beginning_emission : Definition → World → Emission → Answer Started
beginning_emission d w e = do
  o ← object_at w.objects e.object
  s ← signal_at d o.class e.signal
  only_if (all_fit (kind_fits (class_in w.objects) d.types) e.args s.params) arms.Argument
      (starts (said d w (lines.emit e.object s.name e.detail e.args)) (Emitting e (emission_plan d w s o.class e) ∷ []))

-- an emission before it begins
abbrev pub new_emission : ℕ → ℕ → Option (List ℕ) → List Value → Bool → Emission
new_emission id signal detail args by_event =
    record { object = id; signal = signal; detail = detail; args = args; by_event = by_event; value = None; cleanup = false }
