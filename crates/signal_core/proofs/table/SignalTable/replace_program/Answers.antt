use Rattle.std.proofs.Common.{◌≡◌, ◌∙◌, ◌<◌, ◌≤◌, [], length, map, slice_set, sym, ap, subst, arith}
use Rattle.std.proofs.lemmas.List.{length-map, with_items_is}
use Rattle.std.specs.Vec.{with_items}
use Rattle.ui_machine.specs.Seq.{read}
use Rattle.signal_core.specs.Table.{RenamesHandlers, named_of, with_program}
use Rattle.signal_core.proofs.Lists.{read-map-past}
use Rattle.signal_core.proofs.Naming.{mapped-set, renames-none}
use Rattle.signal_core.proofs.table.SignalTable.replace_program.Goals as goal

pub returns-then-at-len-clause-handlers : goal.returns-then-at-len-clause-handlers
returns-then-at-len-clause-handlers c =
    let lt : c.index-at.result < length c.self.inside.handlers.items = omega (arith, c.self.inside.handlers.ok.0) in
    let change = with_program c.args.name.now c.args.program in
    let items = c.self.inside.handlers.items in
    let new = with_items c.index_mut.result.now c.give_program.new.handlers in
    let long = ap length c.give_program.ensures ∙ length-map c.deref_mut.result.now change ∙ c.deref_mut.ensures.len in
    let changed : new.items ≡ map change c.index_mut.result.now.items = with_items_is c.index_mut.result.now c.give_program.new.handlers long ∙ c.give_program.ensures ∙ ap (map change) c.deref_mut.ensures.value in
    let renames = mapped-set (λ v. v.items) change items c.index-at.result new c.index_mut.result.now lt
    (changed ∙ ap (λ v. map change v.items) c.index_mut.ensures.value) in
    subst (λ d. RenamesHandlers d.handlers (map (λ v. v.items) (slice_set items c.index-at.result new)) c.args.t c.args.name.now c.args.program) c.self.view_is
    (subst (λ at. RenamesHandlers (map (λ v. v.items) items) (map (λ v. v.items) (slice_set items c.index-at.result new)) at c.args.name.now c.args.program) c.index-at.ensures renames)

pub returns-else-at-len-clause-handlers : goal.returns-else-at-len-clause-handlers
returns-else-at-len-clause-handlers c =
    let past : length c.self.inside.handlers.items ≤ c.index-at.result = omega (arith, c.self.inside.handlers.ok.0) in
    renames-none c.args.self.now.handlers c.args.self.now.handlers c.args.t c.args.name.now c.args.program
    (ap (λ table. named_of table.handlers c.args.t) (sym c.self.view_is)
    ∙ ap (λ i. read [] (map (λ v. v.items) c.self.inside.handlers.items) i) (sym c.index-at.ensures)
    ∙ read-map-past (λ v. v.items) [] c.self.inside.handlers.items c.index-at.result past)
