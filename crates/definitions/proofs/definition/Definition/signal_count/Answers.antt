use Rattle.std.proofs.Common.{◌≡◌, ◌<◌, ◌+◌, ◌∙◌, [], length, ap, arith}
use Rattle.std.proofs.lemmas.List.{length-map}
use Rattle.ui_machine.specs.Seq.{read}
use Rattle.signal_core.specs.SignalRows.{signal_at}
use Rattle.signal_core.specs.Sources.{signals_of}
use Rattle.definition_format.specs.Meaning.{parts}
use Rattle.definitions.proofs.ClassHandlers.{known_count, unknown_count}
use Rattle.definitions.proofs.definition.Definition.signal_count.Goals as goal

pub returns-then-index-len : goal.returns-then-index-len
returns-then-index-len c = record {
  count =
      unknown_count (parts c.self.inside.types c.self.inside.specs c.self.inside.signals c.self.inside.constructed.items c.self.inside.shapes.entries c.self.inside.shaped.items c.self.inside.programs.entries c.self.inside.prototypes.entries c.self.inside.objects.entries c.self.inside.bindings.items c.self.inside.limits)
      c.args.self.now c.self.view_is c.args.class (omega (arith, c.len.ensures, c.index.ensures));
  few = omega arith;
}

pub returns-clause-count : goal.returns-clause-count
returns-clause-count c =
    let known : c.args.class < length c.self.inside.types = omega (arith, c.len.ensures, c.index.ensures, c.if-index-len.false) in
    let own = c.self.inside.signals.signals in
    let row = read [] c.self.inside.rows c.args.class in
    let placed = ap length (c.self.invariant.signals.each c.args.class (omega (arith, known, c.self.invariant.signals.all))).1 in
    let count : c.count.result + 1 ≡ length (signals_of c.self.inside.types own c.args.class) = omega (arith, placed, length-map row (signal_at own), c.count.ensures.count) in
    count
    ∙ known_count (parts c.self.inside.types c.self.inside.specs c.self.inside.signals c.self.inside.constructed.items c.self.inside.shapes.entries c.self.inside.shaped.items c.self.inside.programs.entries c.self.inside.prototypes.entries c.self.inside.objects.entries c.self.inside.bindings.items c.self.inside.limits)
    c.args.self.now c.self.view_is c.args.class known
