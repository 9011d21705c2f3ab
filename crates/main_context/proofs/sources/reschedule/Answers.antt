use Rattle.std.proofs.Common.{◌≡◌, sym, ◌∙◌, ap, get_or, arith}
use Rattle.std.proofs.lemmas.List.{get_or_default}
use Rattle.std.proofs.lemmas.List.Quantifiers.{position-Some}
use Rattle.std.proofs.lemmas.Bool.Decides.{nat_tests}
use Rattle.ui_machine.specs.State.Sources.{Source, due_after, is_numbered}
use Rattle.main_context.proofs.Order.{nobody, position_none, restarted_at, restarted_none}
use Rattle.main_context.proofs.sources.reschedule.Goals as goal

pub returns-in-Some : goal.returns-in-Some
returns-in-Some c =
    let sources = c.args.sources.now.items in
    let at = c.in-Some.index in
    let here = position-Some (is_numbered c.args.number) sources at nobody (rw c.deref.ensures.value at (sym c.in-Some.ensures)) in
    let one : c.index_mut.result.now ≡ get_or sources at nobody = c.index_mut.ensures.value ∙ get_or_default sources at c.index_mut.result.now nobody here.0 in
    restarted_at c.args.moment c.args.number 0 sources at c.restart.new.self c.requires here.0 (grind (arith, nat_tests, here.1))
    (c.restart.ensures ∙ ap (λ (s : Source). record s { due = due_after c.args.moment s.interval }) one)

pub returns-in_default : goal.returns-in_default
returns-in_default c =
    restarted_none c.args.moment c.args.number c.args.sources.now.items
    (position_none (is_numbered c.args.number) c.args.sources.now.items (rw c.deref.ensures.value at c.in_default.ensures))
