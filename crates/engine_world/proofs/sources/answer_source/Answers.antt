use Rattle.std.proofs.Common.{◌≡◌, true, false, not, ◌&&◌, refl, sym, ap, ◌∙◌, arith}
use Rattle.ui_machine.specs.Seq.{total}
use Rattle.ui_machine.specs.State.References.{in_option, in_source}
use Rattle.instance_tables.specs.Store.{id_of}
use Rattle.main_context.specs.Attached.{Attached, is_attached}
use Rattle.engine_world.specs.Counting.{OnlyCounts}
use Rattle.engine_world.proofs.SourceCounts.{answered_total, context_moves, data_given, data_in, staying_total}
use Rattle.engine_world.proofs.sources.answer_source.Goals as goal

pub let_go_any-requires : goal.let_go_any-requires
let_go_any-requires c = record {
  held = λ o.
      let x = c.args.engine.now.world.context in
      let same : id_of c.data_of-data.result ≡ data_in c.args.source x.sources = c.data_of-data.ensures ∙ data_given c.args.source x.sources c.find.result c.find.ensures in
      let gone : (not c.args.keep && is_attached x.sources c.args.source) ≡ true = sym c.if-answered.ensures.removed in
      omega (arith, c.requires.held.at o, ap (in_option o) same, answered_total o x.moment c.args.source c.args.keep x.sources gone);
}

pub returns-then-answered-clause-counted : goal.returns-then-answered-clause-counted
returns-then-answered-clause-counted c d =
    let e = c.args.engine.now in
    let x = e.world.context in
    let same : id_of c.data_of-data.result ≡ data_in c.args.source x.sources = c.data_of-data.ensures ∙ data_given c.args.source x.sources c.find.result c.find.ensures in
    let gone : (not c.args.keep && is_attached x.sources c.args.source) ≡ true = sym c.if-answered.ensures.removed in
    context_moves d e c.let_go_any.new.table c.answered.new.self c.let_go_any.ensures.only (λ o.
    omega (
      arith,
      c.let_go_any.ensures.counts o,
      ap (in_option o) same,
      ap (λ (a : Attached). total (in_source o) a.sources) c.answered.ensures.left,
      answered_total o x.moment c.args.source c.args.keep x.sources gone,
    ))

pub returns-else-answered-clause-counted : goal.returns-else-answered-clause-counted
returns-else-answered-clause-counted c d =
    let e = c.args.engine.now in
    let x = e.world.context in
    let stays : (not c.args.keep && is_attached x.sources c.args.source) ≡ false = sym c.if-answered.ensures.removed in
    let only : OnlyCounts e.world.table e.world.table = record { objects = refl; floating = refl } in
    context_moves d e e.world.table c.answered.new.self only (λ o.
    omega (
      arith,
      ap (λ (a : Attached). total (in_source o) a.sources) c.answered.ensures.left,
      staying_total o x.moment c.args.source c.args.keep x.sources stays,
    ))
