use Rattle.std.proofs.Common.{◌≡◌, option_map, Some, subst, sym, ap, ◌∙◌, rules, FitsSigned, List}
use Rattle.std.specs.Int.{w128}
use Rattle.std.proofs.lemmas.Int.{to_z-of_z}
use Rattle.std.proofs.lemmas.Option.{none-some}
use Rattle.ui_machine.specs.State.Sources.{Source, runs_program}
use Rattle.main_context.specs.Attached.{Attached, IsKept}
use Rattle.main_context.specs.Dues.{due_of}
use Rattle.main_context.specs.Places.{IsAscending, program_rank}
use Rattle.main_context.proofs.First.{without_none}
use Rattle.main_context.proofs.Kept.{first, no_first}
use Rattle.main_context.proofs.Ranked.{places_ascend}
use Rattle.main_context.proofs.context.Context.remove.Goals as goal

pub first_of-requires : goal.first_of-requires
first_of-requires c =
    subst IsAscending (sym c.deref.ensures.value) (places_ascend program_rank c.self.inside.sources.items c.self.inside.programs.items c.self.invariant.by_program)

pub returns-in_err-number-clause-given : goal.returns-in_err-number-clause-given
returns-in_err-number-clause-given c =
    let kept = subst (λ (a : Attached). IsKept a.sources c.self.inside.programs.items c.self.inside.idles.items c.self.inside.timeouts.items c.self.inside.last) c.self.view_is c.self.invariant in
    let fits : FitsSigned w128 c.from.result = search rules in
    let plain = simp to_z-of_z at c.in_err-number.ensures in
    let none = simp (c.from.ensures, c.deref.ensures.value) at plain in
    c.from_residual.ensures ∙ ap (option_map due_of) (sym (no_first c.args.program c.args.self.now.sources c.self.inside.programs.items kept.order.rising kept.by_program none))

pub returns-in_err-number-clause-left : goal.returns-in_err-number-clause-left
returns-in_err-number-clause-left c =
    let kept = subst (λ (a : Attached). IsKept a.sources c.self.inside.programs.items c.self.inside.idles.items c.self.inside.timeouts.items c.self.inside.last) c.self.view_is c.self.invariant in
    let fits : FitsSigned w128 c.from.result = search rules in
    let plain = simp to_z-of_z at c.in_err-number.ensures in
    let none = simp (c.from.ensures, c.deref.ensures.value) at plain in
    let sources = c.args.self.now.sources in
    let gone = without_none (runs_program c.args.program) sources (no_first c.args.program sources c.self.inside.programs.items kept.order.rising kept.by_program none) in
    ap (λ (l : List Source). record c.args.self.now { sources = l }) (sym gone)

pub returns-in_err-source-clause-given : goal.returns-in_err-source-clause-given
returns-in_err-source-clause-given c =
    let kept = subst (λ (a : Attached). IsKept a.sources c.self.inside.programs.items c.self.inside.idles.items c.self.inside.timeouts.items c.self.inside.last) c.self.view_is c.self.invariant in
    let fits : FitsSigned w128 c.from.result = search rules in
    let plain = simp to_z-of_z at c.in_ok-number.ensures in
    let some = simp (c.from.ensures, c.deref.ensures.value) at plain in
    let here = first c.args.program c.in_ok-number.number c.args.self.now.sources c.self.inside.programs.items kept.order.rising kept.by_program some in
    absurd (none-some _ (c.in_err-source.ensures.given ∙ here.numbered))

pub returns-in_err-source-clause-left : goal.returns-in_err-source-clause-left
returns-in_err-source-clause-left c =
    let kept = subst (λ (a : Attached). IsKept a.sources c.self.inside.programs.items c.self.inside.idles.items c.self.inside.timeouts.items c.self.inside.last) c.self.view_is c.self.invariant in
    let fits : FitsSigned w128 c.from.result = search rules in
    let plain = simp to_z-of_z at c.in_ok-number.ensures in
    let some = simp (c.from.ensures, c.deref.ensures.value) at plain in
    let here = first c.args.program c.in_ok-number.number c.args.self.now.sources c.self.inside.programs.items kept.order.rising kept.by_program some in
    absurd (none-some _ (c.in_err-source.ensures.given ∙ here.numbered))

pub returns-clause-given : goal.returns-clause-given
returns-clause-given c =
    let kept = subst (λ (a : Attached). IsKept a.sources c.self.inside.programs.items c.self.inside.idles.items c.self.inside.timeouts.items c.self.inside.last) c.self.view_is c.self.invariant in
    let fits : FitsSigned w128 c.from.result = search rules in
    let plain = simp to_z-of_z at c.in_ok-number.ensures in
    let some = simp (c.from.ensures, c.deref.ensures.value) at plain in
    let here = first c.args.program c.in_ok-number.number c.args.self.now.sources c.self.inside.programs.items kept.order.rising kept.by_program some in
    ap Some c.due.ensures ∙ ap (option_map due_of) (c.in_ok-source.ensures.given ∙ here.numbered ∙ sym here.found)

pub returns-clause-left : goal.returns-clause-left
returns-clause-left c =
    let kept = subst (λ (a : Attached). IsKept a.sources c.self.inside.programs.items c.self.inside.idles.items c.self.inside.timeouts.items c.self.inside.last) c.self.view_is c.self.invariant in
    let fits : FitsSigned w128 c.from.result = search rules in
    let plain = simp to_z-of_z at c.in_ok-number.ensures in
    let some = simp (c.from.ensures, c.deref.ensures.value) at plain in
    let here = first c.args.program c.in_ok-number.number c.args.self.now.sources c.self.inside.programs.items kept.order.rising kept.by_program some in
    c.take.ensures.left ∙ ap (λ (l : List Source). record c.args.self.now { sources = l }) here.left
