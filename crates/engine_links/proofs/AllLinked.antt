-- The links of all instructions, once the lists of links fit those of the programs.
use Rattle.std.proofs.Common.{ℕ, List, [], Option, None, Some, option_and_then, slice_get, IfSome}
use Rattle.ui_machine.specs.Seq.{read}
use Rattle.ui_machine.specs.Definition.{Definition}
use Rattle.ui_machine.specs.Definition.Programs.{Block, Instruction, Program}
use Rattle.ui_machine.specs.Definition.Programs as words
use Rattle.engine_links.specs.Linked.{IsDetail, IsLink, detail_in, instruction_at, link_at}
use Rattle.engine_links.specs.Steps.{LinksBlock, LinksBlocks, LinksPrograms, linked_by, tables_alone}
use Rattle.engine_links.specs.declared.link.Link.{Link}
use Rattle.engine_links.specs.declared.tables.Tables.{Tables}
use Rattle.engine_links.specs.declared.link.Link.TheVariants as links
use Rattle.engine_links.proofs.Linking.{pairwise_at}

-- ** no link depends on the links

module _ (d : Definition) (t : Tables) (handlers : List (List (Option ℕ))) (all : List (List (List Link))) where
  detailed : (detail : Option (List ℕ)) (at : Option ℕ) → IsDetail d (tables_alone t) detail at → IsDetail d (linked_by t handlers all) detail at
  detailed None at so = tt
  detailed (Some name) at so = so

  one_link : (i : Instruction) (link : Link) → IsLink d (tables_alone t) i link → IsLink d (linked_by t handlers all) i link
  one_link (words.emit into object signal detail args) link so = (so.0, detailed detail (detail_in link) so.1)
  one_link (words.connect to object c) link so = ((so.0.0, detailed c.detail (detail_in link) so.0.1), so.1)
  one_link _ link so = so

  -- ** place by place

  pub all_linked : LinksPrograms d (tables_alone t) all
      → (program block at : ℕ) → IfSome (instruction_at d program block at) (λ i. IsLink d (linked_by t handlers all) i (link_at all program block at))
  all_linked so program block at =
      in_programs (slice_get d.programs program) (read [] all program) (pairwise_at (LinksBlocks d (tables_alone t)) d.programs all [] so program)
    where
      in_block : (o : Option Instruction) (link : Link) → IfSome o (λ i. IsLink d (tables_alone t) i link) → IfSome o (λ i. IsLink d (linked_by t handlers all) i link)
      in_block None link so = tt
      in_block (Some i) link so = one_link i link so

      in_blocks : (o : Option Block) (ls : List Link) → IfSome o (λ b. LinksBlock d (tables_alone t) b ls)
          → IfSome (option_and_then (λ (b : Block). slice_get b.code at) o) (λ i. IsLink d (linked_by t handlers all) i (read links.Nothing ls at))
      in_blocks None ls so = tt
      in_blocks (Some b) ls so = in_block (slice_get b.code at) (read links.Nothing ls at) (pairwise_at (IsLink d (tables_alone t)) b.code ls links.Nothing so at)

      in_programs : (o : Option Program) (bs : List (List Link)) → IfSome o (λ p. LinksBlocks d (tables_alone t) p bs)
          → IfSome (option_and_then (λ (b : Block). slice_get b.code at) (option_and_then (λ (p : Program). slice_get p.blocks block) o))
          (λ i. IsLink d (linked_by t handlers all) i (read links.Nothing (read [] bs block) at))
      in_programs None bs so = tt
      in_programs (Some p) bs so =
          in_blocks (slice_get p.blocks block) (read [] bs block) (pairwise_at (LinksBlock d (tables_alone t)) p.blocks bs [] so block)
