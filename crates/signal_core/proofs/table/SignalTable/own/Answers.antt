use Rattle.std.proofs.Common.{◌∙◌, ◌<◌, ◌≤◌, [], length, map, sym, ap, subst, arith}
use Rattle.std.proofs.lemmas.List.{length-map}
use Rattle.ui_machine.specs.Seq.{read}
use Rattle.signal_core.specs.SignalView.{signal_view}
use Rattle.signal_core.specs.Sources.{own_of}
use Rattle.signal_core.proofs.Lists.{read-map, read-map-past}
use Rattle.signal_core.proofs.table.SignalTable.own.Goals as goal

pub returns-then-at-len-clause-own : goal.returns-then-at-len-clause-own
returns-then-at-len-clause-own c =
    let lt : c.index-at.result < length c.self.inside.own.items = omega (arith, c.self.inside.own.ok.0) in
    ap (map signal_view) c.as_slice.ensures.value ∙ ap (λ v. map signal_view v.items) c.index.ensures
    ∙ sym (read-map (λ v. map signal_view v.items) [] c.index.result.now c.self.inside.own.items c.index-at.result lt)
    ∙ ap (λ i. read [] (map (λ v. map signal_view v.items) c.self.inside.own.items) i) c.index-at.ensures
    ∙ ap (λ table. own_of table.signals c.args.t) c.self.view_is

pub returns-then-at-len-clause-few : goal.returns-then-at-len-clause-few
returns-then-at-len-clause-few c =
    let lt : c.index-at.result < length c.self.inside.own.items = omega (arith, c.self.inside.own.ok.0) in
    let same = ap (map signal_view) c.as_slice.ensures.value ∙ ap (λ v. map signal_view v.items) c.index.ensures
    ∙ sym (read-map (λ v. map signal_view v.items) [] c.index.result.now c.self.inside.own.items c.index-at.result lt) in
    subst (λ n. n ≤ 64) (sym (sym (length-map c.as_slice.result.now signal_view) ∙ ap length same)) (c.self.invariant.0.own c.index-at.result)

pub returns-else-at-len-clause-own : goal.returns-else-at-len-clause-own
returns-else-at-len-clause-own c =
    let past : length c.self.inside.own.items ≤ c.index-at.result = omega (arith, c.self.inside.own.ok.0) in
    sym (read-map-past (λ v. map signal_view v.items) [] c.self.inside.own.items c.index-at.result past)
    ∙ ap (λ i. read [] (map (λ v. map signal_view v.items) c.self.inside.own.items) i) c.index-at.ensures
    ∙ ap (λ table. own_of table.signals c.args.t) c.self.view_is
