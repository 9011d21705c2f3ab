-- Where builds begin: what each step is to keep holds where the build of each worked definition does, within the bound and the depth of its
-- report.
use Rattle.std.specs.Prelude.{ℕ, true, List, [], ◌∷◌, codes, Option, None, Some, slice_get}
use Rattle.ui_machine.specs.Definition.{Definition}
use Rattle.ui_machine.specs.State.Peers.{Peer}
use Rattle.ui_machine.specs.Runs.{of_build}
use Rattle.law_typing.specs.Rules.Typing.{methods_of}
use Rattle.law_typing.specs.Graph.{graph}
use Rattle.law_typing.specs.Graph.Tables.{Tables}
use Rattle.law_typing.specs.Graph.Costs.{costs}
use Rattle.law_typing.specs.Graph.Depths.{depths}
use Rattle.law_typing.specs.Good.{Good}
use Rattle.law_typing.specs.Examples.FirstRun as first_run
use Rattle.law_typing.specs.Examples.NothingToDo as nothing_to_do
use Rattle.law_typing.specs.Examples.Freezes as freezes
use Rattle.law_typing.specs.Examples.Pair as pair
use Rattle.law_typing.specs.Examples.Labels as labels
use Rattle.law_typing.specs.Examples.Floating as floating
use Rattle.law_typing.specs.Examples.LastReference as last_reference
use Rattle.law_typing.specs.Examples.MainLoop as main_loop
use Rattle.law_typing.specs.Examples.LabelChain as label_chain
use Rattle.law_typing.specs.Examples.LabelsRenamed as stickers
use Rattle.law_typing.specs.Examples.ClassHandlers as class_handlers
use Rattle.law_typing.specs.Examples.Chain as chain
use Rattle.law_typing.specs.Examples.AllParts as knobs

-- tables that were found
abbrev pub found : Option Tables → Tables
found None = record { channels = []; programs = [] }
found (Some t) = t

-- the costs of a definition
abbrev pub costs_of : Definition → Tables
costs_of d = found (costs (graph d))

-- its depths
abbrev pub depths_of : Definition → Tables
depths_of d = found (depths (graph d))

-- its build with a pool begins well, within so many steps and frames
abbrev pub Begins : Definition → List Peer → (most_counted most : ℕ) → Type 0
Begins d peers most_counted most = Good d (costs_of d) (depths_of d) most_counted most (of_build d peers)

-- the peer of the one that has any
abbrev pub tally : Peer
tally = record {
  name = codes "t";
  state = record { shape = methods_of (slice_get last_reference.definition.shapes 0); is_open = true; calls = 0; faults = 0; values = [] };
  holder = None;
}

pub record WorkedBegin : Type 0 where
  pub first_run : Begins first_run.definition [] 64 1
  pub nothing_to_do : Begins nothing_to_do.definition [] 64 0
  pub freezes : Begins freezes.definition [] 64 3
  pub pair : Begins pair.definition [] 68 2
  pub labels : Begins labels.definition [] 2 3
  pub floating : Begins floating.definition [] 2 3
  pub last_reference : Begins last_reference.definition (tally ∷ []) 64 5
  pub main_loop : Begins main_loop.definition [] 64 2
  pub label_chain : Begins label_chain.definition [] 3 4
  pub stickers : Begins stickers.definition [] 2 3
  pub class_handlers : Begins class_handlers.definition [] 3 3
  pub chain : Begins chain.definition [] 1 7
  pub knobs : Begins knobs.definition [] 8 4
