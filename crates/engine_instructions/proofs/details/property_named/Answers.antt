use Rattle.std.proofs.Common.{ℕ, Option, Some, sym, ◌∙◌, subst}
use Rattle.engine_links.specs.Linked.{IsDetail}
use Rattle.engine_instructions.proofs.LinkedNames.{detail_placed}
use Rattle.engine_instructions.proofs.details.property_named.Goals as goal

pub unreachable-requires : goal.unreachable-requires
unreachable-requires c =
    let d = c.args.definition.now in
    let l = c.args.engine.now.links in
    let none = sym c.detail.ensures ∙ c.in_default.is in
    detail_placed d l c.args.class c.args.detail.now (subst (λ (at : Option ℕ). IsDetail d l (Some c.args.detail.now) at) none c.requires.link) c.requires.able
