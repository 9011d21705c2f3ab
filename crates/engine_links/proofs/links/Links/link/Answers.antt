use Rattle.std.proofs.Common.{◌∙◌, refl, ap}
use Rattle.engine_links.specs.Linked.{Linked, link_at}
use Rattle.engine_links.proofs.Reading.{a_link, no_block, no_link, no_program, past, there}
use Rattle.engine_links.proofs.links.Links.link.Goals as goal

pub returns-in_default : goal.returns-in_default
returns-in_default c =
    let a = c.args in
    let programs = c.self.inside.programs.items in
    no_program (λ p. p.items) (λ b. b.items) programs a.program a.block.0 a.at
    (past c.deref.result.now programs c.from.result a.program c.deref.ensures.value c.from.ensures c.in_default.ensures.lookup.3)
    ∙ ap (λ (l : Linked). link_at l.programs a.program a.block.0 a.at) c.self.view_is

pub returns-in_default-get : goal.returns-in_default-get
returns-in_default-get c =
    let a = c.args in
    let programs = c.self.inside.programs.items in
    let first = c.in-Some.ensures.lookup in
    no_block (λ p. p.items) (λ b. b.items) programs a.program a.block.0 a.at _
    (there c.deref.result.now programs c.from.result a.program _ c.deref.ensures.value c.from.ensures first.3.0 first.1)
    (past c.deref-2.result.now _ a.block.0 a.block.0 c.deref-2.ensures.value refl c.in_default-get.ensures.lookup.3)
    ∙ ap (λ (l : Linked). link_at l.programs a.program a.block.0 a.at) c.self.view_is

pub returns-in-None : goal.returns-in-None
returns-in-None c =
    let a = c.args in
    let programs = c.self.inside.programs.items in
    let links = c.in-Some-get.links.now in
    let first = c.in-Some.ensures.lookup in
    let second = c.in-Some-get.ensures.lookup in
    no_link (λ p. p.items) (λ b. b.items) programs a.program a.block.0 a.at _
    (there c.deref.result.now programs c.from.result a.program _ c.deref.ensures.value c.from.ensures first.3.0 first.1) links
    (there c.deref-2.result.now _ a.block.0 a.block.0 links c.deref-2.ensures.value refl second.3.0 second.1)
    (past c.deref-3.result.now links.items a.at a.at c.deref-3.ensures.value refl c.in-None.ensures.lookup.3)
    ∙ ap (λ (l : Linked). link_at l.programs a.program a.block.0 a.at) c.self.view_is

pub returns-in-Some-get-2 : goal.returns-in-Some-get-2
returns-in-Some-get-2 c =
    let a = c.args in
    let programs = c.self.inside.programs.items in
    let links = c.in-Some-get.links.now in
    let link = c.in-Some-get-2.link.now in
    let first = c.in-Some.ensures.lookup in
    let second = c.in-Some-get.ensures.lookup in
    let third = c.in-Some-get-2.ensures.lookup in
    a_link (λ p. p.items) (λ b. b.items) programs a.program a.block.0 a.at _
    (there c.deref.result.now programs c.from.result a.program _ c.deref.ensures.value c.from.ensures first.3.0 first.1) links
    (there c.deref-2.result.now _ a.block.0 a.block.0 links c.deref-2.ensures.value refl second.3.0 second.1) link
    (there c.deref-3.result.now links.items a.at a.at link c.deref-3.ensures.value refl third.3.0 third.1)
    ∙ ap (λ (l : Linked). link_at l.programs a.program a.block.0 a.at) c.self.view_is
