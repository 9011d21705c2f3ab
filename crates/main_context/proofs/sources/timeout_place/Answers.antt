use Rattle.std.proofs.Common.{option_and_then, sym, ◌∙◌, ap}
use Rattle.ui_machine.specs.State.Sources.{is_numbered}
use Rattle.main_context.specs.Places.{place_by, timeout_rank}
use Rattle.main_context.proofs.First.{absent, first}
use Rattle.main_context.proofs.sources.timeout_place.Goals as goal

pub returns-in_err-index : goal.returns-in_err-index
returns-in_err-index c =
    let none = absent (is_numbered c.args.number) c.args.sources.now (sym c.in_err-index.ensures) in
    c.from_residual.ensures ∙ sym (ap (option_and_then (place_by timeout_rank)) none.found)

pub returns : goal.returns
returns c =
    let here = first (is_numbered c.args.number) c.args.sources.now c.in_ok-index.index c.index-sources-index.result (sym c.in_ok-index.ensures) c.index-sources-index.is in
    c.timeout_place.ensures ∙ sym (ap (option_and_then (place_by timeout_rank)) here.found)
