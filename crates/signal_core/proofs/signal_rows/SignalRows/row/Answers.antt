use Rattle.std.proofs.Common.{◌∙◌, ◌<◌, ◌≤◌, [], length, map, sym, ap, arith}
use Rattle.ui_machine.specs.Seq.{read}
use Rattle.signal_core.proofs.Lists.{read-map, read-map-past}
use Rattle.signal_core.proofs.PlacesOfSignals.{few_at_most}
use Rattle.signal_core.proofs.signal_rows.SignalRows.row.Goals as goal

pub returns-then-at-len-clause-row : goal.returns-then-at-len-clause-row
returns-then-at-len-clause-row c =
    let lt : c.index-at.result < length c.self.inside.rows.items = omega (arith, c.self.inside.rows.ok.0) in
    c.as_slice.ensures.value ∙ ap (λ v. v.items) c.index.ensures
    ∙ sym (read-map (λ v. v.items) [] c.index.result.now c.self.inside.rows.items c.index-at.result lt)
    ∙ ap (λ i. read [] (map (λ v. v.items) c.self.inside.rows.items) i) c.index-at.ensures
    ∙ ap (λ rows. read [] rows c.args.t) c.self.view_is

pub returns-then-at-len-clause-few : goal.returns-then-at-len-clause-few
returns-then-at-len-clause-few c =
    let lt : c.index-at.result < length c.self.inside.rows.items = omega (arith, c.self.inside.rows.ok.0) in
    let seen = ap length (c.as_slice.ensures.value ∙ ap (λ v. v.items) c.index.ensures ∙ sym (read-map (λ v. v.items) [] c.index.result.now c.self.inside.rows.items c.index-at.result lt)) in
    omega (arith, seen, few_at_most (map (λ v. v.items) c.self.inside.rows.items) c.self.invariant c.index-at.result)

pub returns-else-at-len-clause-row : goal.returns-else-at-len-clause-row
returns-else-at-len-clause-row c =
    let past : length c.self.inside.rows.items ≤ c.index-at.result = omega (arith, c.self.inside.rows.ok.0) in
    sym (read-map-past (λ v. v.items) [] c.self.inside.rows.items c.index-at.result past)
    ∙ ap (λ i. read [] (map (λ v. v.items) c.self.inside.rows.items) i) c.index-at.ensures
    ∙ ap (λ rows. read [] rows c.args.t) c.self.view_is
