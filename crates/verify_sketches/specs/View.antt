-- Sketches of the code as those of the law.
use Rattle.std.specs.Prelude.{map}
use Rattle.verify_sketches.specs.Sketches as law
use Rattle.law_typing.specs.Graph.{listed_if}
use Rattle.verify_sketches.specs.declared.channels.SketchedChannel.{SketchedChannel}
use Rattle.verify_sketches.specs.declared.programs.SketchedBlock.{SketchedBlock}
use Rattle.verify_sketches.specs.declared.programs.SketchedStart.{SketchedStart}
use Rattle.verify_sketches.specs.declared.programs.SketchedStart.TheVariants as starts
use Rattle.verify_sketches.specs.declared.sketches.Sketch.{Sketch}

abbrev pub channel_view : SketchedChannel → law.SketchedChannel
channel_view k = record {
  emits = k.emits;
  class_handler = listed_if k.class_handler;
  stages = k.stages;
  handlers = k.handlers.items;
  groups = k.groups.items;
  transfers = k.transfers;
  targets = k.targets.items;
  first = k.first;
  other = k.other;
}

abbrev pub start_view : SketchedStart → law.SketchedStart
start_view starts.Nothing = law.nothing
start_view (starts.Raises channels) = law.raises channels.items
start_view (starts.Makes channels) = law.makes channels.items
start_view (starts.Thaws places) = law.thaws places.items

abbrev pub block_view : SketchedBlock → law.SketchedBlock
block_view b = record { starts = b.starts.items; passes = b.passes; next = b.next.items }

abbrev pub sketch_view : Sketch → law.Sketch
sketch_view s = record {
  channels = map channel_view s.channels.items;
  groups = map (λ v. v.items) s.groups.items;
  programs = map (λ v. map block_view v.items) s.programs.items;
  starts = map start_view s.starts.items;
  paired = map (λ v. v.items) s.paired.items;
}
