use Rattle.std.proofs.Common.{◌<◌, ◌≤◌, ◌∙◌, None, length, sym, ap, arith}
use Rattle.ui_machine.specs.Seq.{read}
use Rattle.engine_links.specs.Linked.{Linked, handler_at}
use Rattle.engine_links.proofs.Reading.{row_past, row_there}
use Rattle.engine_links.proofs.links.Links.class_handler.Goals as goal

pub returns-then-at-len : goal.returns-then-at-len
returns-then-at-len c =
    let rows = c.self.inside.handlers.items in
    let small : c.index-at.result < length rows = omega (arith, c.self.inside.handlers.ok.0) in
    c.program_at.ensures
    ∙ ap (λ programs. read None programs c.args.number) (c.deref.ensures.value ∙ ap (λ row. row.items) c.index.ensures ∙ row_there (λ row. row.items) rows c.index-at.result c.args.class c.index.result.now c.index-at.ensures small)
    ∙ ap (λ (l : Linked). handler_at l.handlers c.args.class c.args.number) c.self.view_is

pub returns-else-at-len : goal.returns-else-at-len
returns-else-at-len c =
    let rows = c.self.inside.handlers.items in
    let over : length rows ≤ c.args.class = omega (arith, c.self.inside.handlers.ok.0, c.index-at.ensures) in
    ap (λ programs. read None programs c.args.number) (sym (row_past (λ row. row.items) rows c.args.class over))
    ∙ ap (λ (l : Linked). handler_at l.handlers c.args.class c.args.number) c.self.view_is
