use Rattle.std.proofs.Common.{OnOk, map, subst}
use Rattle.signal_core.specs.Growing.{AddsItem}
use Rattle.signal_core.specs.Table.{AddsHandler, SameHandlers}
use Rattle.signal_core.proofs.Lists.{on_err-map, on_ok-map}
use Rattle.signal_core.proofs.table.SignalTable.add_handler.Goals as goal

pub returns-clause-ok : goal.returns-clause-ok
returns-clause-ok c =
    on_ok-map c.add.result (λ adds. subst (λ d. AddsHandler d.handlers (map (λ v. v.items) c.add.new.lists.items) c.args.t c.args.handler) c.self.view_is adds)
    (subst (λ at. OnOk c.add.result (AddsItem (λ v. v.items) c.self.inside.handlers.items c.add.new.lists.items at c.args.handler)) c.index.ensures c.add.ensures.ok)

pub returns-clause-err : goal.returns-clause-err
returns-clause-err c =
    on_err-map c.add.result (λ same. subst (λ d. SameHandlers d.handlers (map (λ v. v.items) c.add.new.lists.items)) c.self.view_is same) c.add.ensures.err
