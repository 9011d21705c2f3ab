use Rattle.std.proofs.Common.{List, [], ℕ, Some, refl, sym, ap, ◌∙◌}
use Rattle.engine_links.specs.Linked.{numbers_by}
use Rattle.engine_links.specs.Rows.{NamedRows}
use Rattle.engine_links.proofs.Reading.{past, seen-past, seen-there, there}
use Rattle.engine_links.proofs.binding_rows.BindingRows.numbers.Goals as goal

pub returns-in-Some : goal.returns-in-Some
returns-in-Some c =
    let rows = c.self.inside.rows.items in
    let name = c.args.name in
    let numbers = c.in-Some.numbers.now in
    let got = c.in-Some.ensures.lookup in
    c.as_slice.ensures.value
    ∙ sym (seen-there (λ row. row.items) [] rows name numbers (there c.deref.result.now rows name name numbers c.deref.ensures.value refl got.3.0 got.1))
    ∙ ap (λ (b : NamedRows (List ℕ)). numbers_by b.rows (Some name)) c.self.view_is

pub returns-in-None : goal.returns-in-None
returns-in-None c =
    let rows = c.self.inside.rows.items in
    let name = c.args.name in
    sym (seen-past (λ row. row.items) [] rows name (past c.deref.result.now rows name name c.deref.ensures.value refl c.in-None.ensures.lookup.3))
    ∙ ap (λ (b : NamedRows (List ℕ)). numbers_by b.rows (Some name)) c.self.view_is
