use Rattle.std.proofs.Common.{◌∙◌, ◌&&◌, ap, subst}
use Rattle.std.specs.List.{list_any}
use Rattle.ui_machine.specs.Rules.Ancestry.{is_a}
use Rattle.signal_core.specs.Owners.{AreOwners, has_signal}
use Rattle.signal_core.specs.Sources.{own_of}
use Rattle.signal_core.proofs.Owned.{by_owners}
use Rattle.signal_core.proofs.table.SignalTable.inherits.Goals as goal

pub returns : goal.returns
returns c =
    let types = c.args.tree.now in
    let signals = c.args.self.now.signals in
    let name = c.args.name.now in
    c.is_given.ensures
    ∙ ap (list_any (λ owner. is_a types c.args.t owner && has_signal (own_of signals owner) name)) c.listed.ensures
    ∙ by_owners types signals name c.self.inside.owners c.args.t (subst (λ d. AreOwners c.self.inside.owners d.signals) c.self.view_is c.self.invariant.1)
