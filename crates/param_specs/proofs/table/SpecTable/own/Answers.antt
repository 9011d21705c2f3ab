use Rattle.std.proofs.Common.{◌∙◌, ◌<◌, ◌≤◌, [], length, map, sym, ap, subst, arith}
use Rattle.std.proofs.lemmas.List.{length-map}
use Rattle.ui_machine.specs.Seq.{read}
use Rattle.param_specs.specs.View.{spec_view, specs_in, AreNamed}
use Rattle.param_specs.specs.Table.{own_of}
use Rattle.param_specs.proofs.Specs.{read-map, read-map-past}
use Rattle.param_specs.proofs.Lists.{AllNamed-at}
use Rattle.param_specs.proofs.table.SpecTable.own.Goals as goal

pub returns-then-at-len-clause-own : goal.returns-then-at-len-clause-own
returns-then-at-len-clause-own c =
    let lt : c.index-at.result < length c.self.inside.own.items = omega (arith, c.self.inside.own.ok.0) in
    ap (λ m. map spec_view (specs_in m.entries)) c.index.ensures
    ∙ sym (read-map (λ m. map spec_view (specs_in m.entries)) [] c.index.result.now c.self.inside.own.items c.index-at.result lt)
    ∙ ap (λ i. read [] (map (λ m. map spec_view (specs_in m.entries)) c.self.inside.own.items) i) c.index-at.ensures
    ∙ ap (λ table. own_of table c.args.t) c.self.view_is

pub returns-then-at-len-clause-few : goal.returns-then-at-len-clause-few
returns-then-at-len-clause-few c =
    let lt : c.index-at.result < length c.self.inside.own.items = omega (arith, c.self.inside.own.ok.0) in
    let same = ap (λ m. map spec_view (specs_in m.entries)) c.index.ensures
    ∙ sym (read-map (λ m. map spec_view (specs_in m.entries)) [] c.index.result.now c.self.inside.own.items c.index-at.result lt) in
    let long = length-map (specs_in c.index.result.now.entries) spec_view ∙ length-map c.index.result.now.entries (λ e. e.1) in
    subst (λ n. n ≤ 64) (sym (sym long ∙ ap length same)) (c.self.invariant.0 c.index-at.result)

pub returns-then-at-len-clause-named : goal.returns-then-at-len-clause-named
returns-then-at-len-clause-named c =
    let lt : c.index-at.result < length c.self.inside.own.items = omega (arith, c.self.inside.own.ok.0) in
    subst AreNamed (ap (λ m. m.entries) (sym c.index.ensures))
    (AllNamed-at (λ m. m.entries) c.self.inside.own.items c.index-at.result c.index.result.now lt c.self.invariant.1)

pub returns-else-at-len-clause-own : goal.returns-else-at-len-clause-own
returns-else-at-len-clause-own c =
    let past : length c.self.inside.own.items ≤ c.index-at.result = omega (arith, c.self.inside.own.ok.0) in
    sym (read-map-past (λ m. map spec_view (specs_in m.entries)) [] c.self.inside.own.items c.index-at.result past)
    ∙ ap (λ i. read [] (map (λ m. map spec_view (specs_in m.entries)) c.self.inside.own.items) i) c.index-at.ensures
    ∙ ap (λ table. own_of table c.args.t) c.self.view_is
