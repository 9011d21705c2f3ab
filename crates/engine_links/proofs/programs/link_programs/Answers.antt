use Rattle.std.proofs.Common.{map, sym}
use Rattle.engine_links.specs.Steps.{LinksBlocks, tables_alone}
use Rattle.engine_links.proofs.Linking.{pairwise_more, seen_more}
use Rattle.engine_links.proofs.programs.link_programs.Goals as goal

pub loop-program-preserved : goal.loop-program-preserved
loop-program-preserved c =
    let d = c.args.definition.now in
    let blocks = c.in_ok-program.field-0 in
    pairwise_more (LinksBlocks d (tables_alone c.args.tables.now)) d.programs c.loop-program.number _
    (map (λ p. map (λ b. b.items) p.items) c.loop-program.programs.items) (map (λ p. map (λ b. b.items) p.items) c.push.new.self.items) (map (λ b. b.items) blocks.items)
    (sym c.in-Some.ensures.program)
    (seen_more (λ p. map (λ b. b.items) p.items) c.loop-program.programs.items c.push.new.self.items blocks c.in_ok-push.ensures.items)
    c.in_ok-program.ensures c.loop-program.invariant
