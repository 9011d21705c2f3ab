use Rattle.std.proofs.Common.{◌∙◌, sym, ap, nat_eq}
use Rattle.std.specs.Prelude.{◌||◌, false}
use Rattle.ui_machine.specs.Seq.{read}
use Rattle.ui_machine.specs.Rules.Programs.{is_number}
use Rattle.verify_graph.proofs.BusySignals.{mark_written}
use Rattle.verify_graph.proofs.busy_signals.mark.Goals as goal

pub returns-in_ok-write : goal.returns-in_ok-write
returns-in_ok-write c n =
    let old = c.args.marks.now.items in
    mark_written old c.write.new.items.items c.from.result n c.in_ok-write.ensures
    ∙ (ap (λ at. read false old n || nat_eq at n) c.from.ensures ∙ ap (λ o. read false old n || is_number n o) (sym c.in-Some.is))
