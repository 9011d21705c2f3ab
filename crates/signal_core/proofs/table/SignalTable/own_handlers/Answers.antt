use Rattle.std.proofs.Common.{◌∙◌, ◌<◌, ◌≤◌, [], length, map, sym, ap, arith}
use Rattle.ui_machine.specs.Seq.{read}
use Rattle.signal_core.specs.Table.{named_of}
use Rattle.signal_core.proofs.Lists.{read-map, read-map-past}
use Rattle.signal_core.proofs.table.SignalTable.own_handlers.Goals as goal

pub returns-then-at-len : goal.returns-then-at-len
returns-then-at-len c =
    let lt : c.index-at.result < length c.self.inside.handlers.items = omega (arith, c.self.inside.handlers.ok.0) in
    c.as_slice.ensures.value ∙ ap (λ v. v.items) c.index.ensures
    ∙ sym (read-map (λ v. v.items) [] c.index.result.now c.self.inside.handlers.items c.index-at.result lt)
    ∙ ap (λ i. read [] (map (λ v. v.items) c.self.inside.handlers.items) i) c.index-at.ensures
    ∙ ap (λ table. named_of table.handlers c.args.t) c.self.view_is

pub returns-else-at-len : goal.returns-else-at-len
returns-else-at-len c =
    let past : length c.self.inside.handlers.items ≤ c.index-at.result = omega (arith, c.self.inside.handlers.ok.0) in
    sym (read-map-past (λ v. v.items) [] c.self.inside.handlers.items c.index-at.result past)
    ∙ ap (λ i. read [] (map (λ v. v.items) c.self.inside.handlers.items) i) c.index-at.ensures
    ∙ ap (λ table. named_of table.handlers c.args.t) c.self.view_is
