use Rattle.std.proofs.Common.{◌≡◌, ◌+◌, suc, take, sym, ap, ◌∙◌, arith}
use Rattle.ui_machine.specs.Definition.Lookups.{specs_of}
use Rattle.ui_machine.specs.Definition.Names.{place_named, same_name}
use Rattle.name_tables.specs.Names.{number_of, with_number}
use Rattle.name_tables.proofs.Adding.{adds_more, place_named-more}
use Rattle.engine_links.proofs.class_names.add_slots.Goals as goal

pub loop-spec-preserved : goal.loop-spec-preserved
loop-spec-preserved c =
    let specs = specs_of c.args.definition.now c.args.class in
    let slot = c.loop-spec.slot in
    let next : slot + 1 ≡ suc slot = omega arith in
    adds_more (number_of c.args.names.now) (number_of c.loop-spec.names) (number_of c.add.new.self) c.args.class slot c.as_str.result.now
    (place_named (λ s. s.name) (take slot specs)) (place_named (λ s. s.name) (take (slot + 1) specs)) c.loop-spec.invariant c.in_ok-add.ensures.ok
    (λ n.
    ap (λ k. place_named (λ s. s.name) (take k specs) n) next
    ∙ place_named-more (λ s. s.name) n specs slot _ (sym c.in-Some.ensures)
    ∙ ap (λ name. with_number (same_name name n) slot (place_named (λ s. s.name) (take slot specs) n)) (sym c.as_str.ensures.value))
