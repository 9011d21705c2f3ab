use Rattle.std.proofs.Common.{◌∙◌, ap, subst, List, Option, Vec, ℕ, length, map, arith}
use Rattle.std.specs.Global.{Global}
use Rattle.std.proofs.lemmas.List.{length-map}
use Rattle.ui_machine.specs.Seq.{listed}
use Rattle.law_typing.specs.Graph.{pairs_of}
use Rattle.law_typing.specs.Graph.Channels.{Channel}
use Rattle.law_idle.specs.Idle.{busy_channels}
use Rattle.verify_sketches.specs.Sketches.{Sketch}
use Rattle.verify_sketches.specs.View.{block_view, channel_view, start_view}
use Rattle.verify_graph.specs.Paired.{ArePaired, paired_at}
use Rattle.verify_channels.specs.Connected.{programs_of}
use Rattle.verify_channels.specs.Raised.{AreSketched}
use Rattle.verify_starts.specs.SketchedCode.{ArePrograms}
use Rattle.verify_starts.specs.Tables.{AreOfSome}
use Rattle.verify_channels.proofs.NoFaults.{no_pair_faults}
use Rattle.verify_channels.proofs.Sketched.{sketch_right}
use Rattle.verify_channels.proofs.sketches.sketch.Goals as goal

pub returns-clause-small : goal.returns-clause-small
returns-clause-small c =
    let raised = c.in_ok-raised.raised in
    let places = c.in_ok-places.places.items in
    let few = c.in_ok-sketched.ensures.few in
    record {
      channels = omega (arith, c.in_ok-raised.ensures.sketched.count, c.count-count.ensures.few, c.count-count.ensures.count);
      groups = (let e = length-map raised.groups.items (λ (v : Vec ℕ Global). v.items) in omega (arith, e, c.in_ok-raised.ensures.few));
      programs = few.programs;
      blocks = few.blocks;
      instructions = few.instructions;
      starts = few.starts;
      places = (let e = length-map places (λ (v : Vec ℕ Global). v.items) in omega (arith, e, c.in_ok-places.ensures.few));
    }

pub returns-clause-sketch : goal.returns-clause-sketch
returns-clause-sketch c none =
    let d = c.args.lookups.now in
    let no = no_pair_faults d none in
    let paired = c.in_ok-paired.paired in
    let raised = c.in_ok-raised.raised in
    let sketched = c.in_ok-sketched.sketched in
    let ks = map channel_view raised.channels.items in
    let groups = programs_of raised.groups.items in
    let starts = map start_view sketched.starts.items in
    let programs = map (λ v. map block_view v.items) sketched.programs.items in
    let places = map (λ v. v.items) c.in_ok-places.places.items in
    let s : Sketch = record { channels = ks; groups = groups; programs = programs; starts = starts; paired = places } in
    sketch_right d s paired no.bindings no.pairs
    (subst (λ (cs : List Channel). ArePaired cs (pairs_of d.bindings) paired.firsts.items paired.others.items) c.requires c.in_ok-paired.ensures)
    (subst (λ (cs : List Channel). AreSketched d cs paired groups ks) c.requires c.in_ok-raised.ensures.sketched)
    (subst (λ (cs : List Channel). ArePrograms d cs starts programs d.programs) c.requires c.in_ok-sketched.ensures.programs)
    (subst (λ (cs : List Channel). AreOfSome d cs starts) c.requires c.in_ok-sketched.ensures.each)
    (c.in_ok-places.ensures.places
    ∙ (ap (λ (cs : List Channel). listed (paired_at d cs c.as_slice.result.now) (length d.places)) c.requires
    ∙ ap (λ (os : List (Option ℕ)). listed (paired_at d (busy_channels d) os) (length d.places)) c.as_slice.ensures.value))
