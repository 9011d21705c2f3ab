-- Two configurations in the middle of a run, each reached by the machine: what each step is to keep holds there, within the bound and the
-- depth
-- of the report.
use Rattle.std.specs.Prelude.{◌≡◌, ℕ, zero, suc, pos, true, false, List, [], ◌∷◌, codes, None, Some, Ok}
use Rattle.ui_machine.specs.Definition.Kinds as kinds
use Rattle.ui_machine.specs.Definition.Values.{Value}
use Rattle.ui_machine.specs.Definition.Values as values
use Rattle.ui_machine.specs.Definition.{Definition}
use Rattle.ui_machine.specs.Definition.Places.{value}
use Rattle.ui_machine.specs.State.Objects.{Object}
use Rattle.ui_machine.specs.State.Handlers.{Handler}
use Rattle.ui_machine.specs.State.Tasks.{Emission, Frame, Notifying, Emitting, Running}
use Rattle.ui_machine.specs.State.Config.{built, World, Config}
use Rattle.ui_machine.specs.State.Tasks as config
use Rattle.ui_machine.specs.Outcome.{Answer, ◌>>=◌}
use Rattle.ui_machine.specs.Steps.{step}
use Rattle.ui_machine.specs.Runs.{first_world, of_request}
use Rattle.law_typing.specs.Examples.FirstRun as first_run
use Rattle.law_typing.specs.Examples.Freezes as freezes
use Rattle.law_typing.specs.Laws.Beginnings.{costs_of, depths_of}
use Rattle.law_typing.specs.Good.{Good}

-- the configuration after so many steps, none of which asks a peer
abbrev pub after : ℕ → Definition → Config → Answer Config
after zero d c = Ok c
after (suc n) d c = step d None c >>= (λ e. after n d e)

abbrev pub int : ℕ → Value
int n = values.whole kinds.int (pos n)

-- the one object of either definition, with these values
abbrev pub box : List Value → (freezes : ℕ) → (queue : List ℕ) → Object
box vs freezes queue = record {
  class = 2;
  place = 0;
  values = vs;
  freezes = freezes;
  queue = queue;
  children = [];
  parent = None;
  disposed = false;
  peer = None;
}

-- ** a notification is due

-- the world after the build
abbrev pub box_built : World
box_built = record (first_world first_run.definition []) { objects = Some (box (int 0 ∷ []) 0 []) ∷ []; builder = built 1 ∷ [] }

-- its property was set, and is to be notified
abbrev pub at_notification : Config
at_notification = record {
  world = record box_built { objects = Some (box (int 5 ∷ []) 0 []) ∷ []; transcript = codes "set #1.n 5" ∷ [] };
  agenda = Notifying 1 0 ∷ [];
  counted = 0;
}

-- ** a program has frozen its object

-- the world after the build: the one handler of the object's signal is connected
abbrev pub handler : Handler
handler = record {
  number = 1;
  object = 1;
  signal = 1;
  detail = None;
  program = 0;
  after = false;
  swapped = false;
  arg = None;
  blocks = 0;
  by_code = false;
}

abbrev pub freezer_built : World
freezer_built = record (first_world freezes.definition []) {
  objects = Some (box (int 0 ∷ int 0 ∷ []) 0 []) ∷ [];
  handlers = handler ∷ [];
  last_handler = 1;
  builder = built 1 ∷ [];
}

abbrev pub emission : Emission
emission = record { object = 1; signal = 1; detail = None; args = []; by_event = true; value = None; cleanup = false }

abbrev pub frame : Frame
frame = record {
  program = 0;
  block = 0;
  at = 3;
  passes = 1;
  into = None;
  registers = Some (values.object (Some 1)) ∷ Some (int 1) ∷ [];
}

-- the program that the signal runs has frozen the object and set a property, whose notification waits
abbrev pub at_freeze : Config
at_freeze = record {
  world = record freezer_built {
    objects = Some (box (int 1 ∷ int 0 ∷ []) 1 (0 ∷ [])) ∷ [];
    transcript = codes "emit #1.go()" ∷ codes "run f" ∷ codes "set #1.a 1" ∷ [];
  };
  agenda = Running frame ∷ Emitting emission [] ∷ [];
  counted = 4;
}

pub record MidRun : Type 0 where
  pub notification_reached :
      after 2 first_run.definition (of_request box_built (config.set 0 0 (value (int 5)))) ≡ Ok at_notification
  pub notification_good : Good first_run.definition (costs_of first_run.definition) (depths_of first_run.definition) 65 1 at_notification
  pub freeze_reached : after 7 freezes.definition (of_request freezer_built (config.emit 0 1 [] None)) ≡ Ok at_freeze
  pub freeze_good : Good freezes.definition (costs_of freezes.definition) (depths_of freezes.definition) 77 3 at_freeze
