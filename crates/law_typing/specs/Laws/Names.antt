-- The labels and the stickers differ in names alone.
use Rattle.std.specs.Prelude.{◌≡◌}
use Rattle.law_typing.specs.Graph.{graph}
use Rattle.law_typing.specs.Examples.Labels as labels
use Rattle.law_typing.specs.Examples.LabelsRenamed as stickers

-- the two definitions have one graph
abbrev pub OneGraph : Type 0
OneGraph = graph labels.definition ≡ graph stickers.definition
