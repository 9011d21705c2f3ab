use Rattle.std.proofs.Common.{◌∙◌, ◌<◌, ◌≤◌, OnOk, ap, length, map, nat_eq, sym, subst, arith}
use Rattle.std.specs.List.{list_any}
use Rattle.std.proofs.lemmas.List.{length-map}
use Rattle.signal_core.specs.Growing.{AddsItem}
use Rattle.signal_core.specs.SignalView.{signal_view, signals_in}
use Rattle.signal_core.specs.Sources.{own_of}
use Rattle.signal_core.specs.Table.{AddsSignal, SameSignals}
use Rattle.signal_core.specs.Owners.{listed_for}
use Rattle.signal_core.proofs.Owned.{owners_after}
use Rattle.signal_core.proofs.Lists.{IsTable-after, on_err-map, on_ok-map, signals-added, signals-same}
use Rattle.signal_core.proofs.table.SignalTable.add_own.Goals as goal

pub invariant_of-self-2 : goal.invariant_of-self-2
invariant_of-self-2 c =
    let old = c.self.inside.own.items in
    let new = c.add-2.new.lists.items in
    let room : length (own_of (signals_in (λ v. v.items) old) c.args.t) < 64 = subst (λ d. length (own_of d.signals c.args.t) < 64) (sym c.self.view_is) c.requires.room in
    let few : length (signals_in (λ v. v.items) new) ≤ 256 = rw (length-map new (λ v. map signal_view v.items))
    (let before = length-map old (λ v. map signal_view v.items) in
    omega (arith, before, c.self.invariant.0.few, c.add-2.ensures.few, c.index.ensures, c.requires.within, c.self.inside.own.ok.0, c.add-2.new.lists.ok.0)) in
    let ok = on_ok-map c.add-2.result (signals-added (λ v. v.items) old new c.args.t c.args.signal)
    (subst (λ at. OnOk c.add-2.result (AddsItem (λ v. v.items) old new at c.args.signal)) c.index.ensures c.add-2.ensures.ok) in
    let err = on_err-map c.add-2.result (signals-same (λ v. v.items) old new) c.add-2.ensures.err in
    let listed = ap (λ n. list_any (nat_eq c.args.t) (listed_for c.add.new.self n)) (sym c.as_str.ensures.value) ∙ c.in_ok-add.ensures.listed in (
      IsTable-after c.add-2.result (signals_in (λ v. v.items) old) (signals_in (λ v. v.items) new) c.args.t (signal_view c.args.signal) room ok err few c.self.invariant.0,
      owners_after c.add-2.result c.self.inside.owners c.add.new.self (signals_in (λ v. v.items) old) (signals_in (λ v. v.items) new) c.args.t (signal_view c.args.signal)
          c.self.invariant.1 c.in_ok-add.ensures.stays listed ok err,
    )

pub returns-clause-ok : goal.returns-clause-ok
returns-clause-ok c =
    let old = c.self.inside.own.items in
    let new = c.add-2.new.lists.items in
    on_ok-map c.add-2.result (λ adds. subst (λ d. AddsSignal d.signals (signals_in (λ v. v.items) new) c.args.t (signal_view c.args.signal)) c.self.view_is
    (signals-added (λ v. v.items) old new c.args.t c.args.signal adds))
    (subst (λ at. OnOk c.add-2.result (AddsItem (λ v. v.items) old new at c.args.signal)) c.index.ensures c.add-2.ensures.ok)

pub returns-clause-err : goal.returns-clause-err
returns-clause-err c =
    let old = c.self.inside.own.items in
    let new = c.add-2.new.lists.items in
    on_err-map c.add-2.result (λ same. subst (λ d. SameSignals d.signals (signals_in (λ v. v.items) new)) c.self.view_is
    (signals-same (λ v. v.items) old new same)) c.add-2.ensures.err
