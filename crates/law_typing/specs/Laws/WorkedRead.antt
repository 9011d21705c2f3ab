-- Each worked definition that is accepted is well read.
use Rattle.law_typing.specs.Examples.FirstRun as first_run
use Rattle.law_typing.specs.Examples.NothingToDo as nothing_to_do
use Rattle.law_typing.specs.Examples.Freezes as freezes
use Rattle.law_typing.specs.Examples.Pair as pair
use Rattle.law_typing.specs.Examples.Labels as labels
use Rattle.law_typing.specs.Examples.Floating as floating
use Rattle.law_typing.specs.Examples.LastReference as last_reference
use Rattle.law_typing.specs.Examples.MainLoop as main_loop
use Rattle.law_typing.specs.Examples.LabelChain as label_chain
use Rattle.law_typing.specs.Examples.LabelsRenamed as stickers
use Rattle.law_typing.specs.Examples.ClassHandlers as class_handlers
use Rattle.law_typing.specs.Examples.Chain as chain
use Rattle.law_typing.specs.Examples.AllParts as knobs
use Rattle.law_typing.specs.Examples.RepeatedBlock as repeated_block
use Rattle.law_typing.specs.Examples.MostPasses as most_passes
use Rattle.law_typing.specs.Examples.FrozenPair as frozen_pair
use Rattle.law_typing.specs.Examples.FrozenTarget as frozen_target
use Rattle.law_typing.specs.Examples.FrozenTwins as frozen_twins
use Rattle.law_typing.specs.Laws.WellRead.{WellRead}

pub record WorkedRead : Type 0 where
  pub first_run : WellRead first_run.definition
  pub nothing_to_do : WellRead nothing_to_do.definition
  pub freezes : WellRead freezes.definition
  pub pair : WellRead pair.definition
  pub labels : WellRead labels.definition
  pub floating : WellRead floating.definition
  pub last_reference : WellRead last_reference.definition
  pub main_loop : WellRead main_loop.definition
  pub label_chain : WellRead label_chain.definition
  pub stickers : WellRead stickers.definition
  pub class_handlers : WellRead class_handlers.definition
  pub chain : WellRead chain.definition
  pub knobs : WellRead knobs.definition
  pub repeated_block : WellRead repeated_block.definition
  pub most_passes : WellRead most_passes.definition
  pub frozen_pair : WellRead frozen_pair.definition
  pub frozen_target : WellRead frozen_target.definition
  pub frozen_twins : WellRead frozen_twins.definition
