use Rattle.std.proofs.Common.{◌∙◌, sym, ap, subst, IsUtf8}
use Rattle.ui_machine.specs.Definition.Names.{canonical}
use Rattle.type_tree.proofs.Dashes.{canonical_utf8}
use Rattle.type_tree.proofs.member_name.canonical_name.Goals as goal

pub unreachable-requires : goal.unreachable-requires
unreachable-requires c =
    let made = c.in-Err.ensures.succeeds (subst IsUtf8 (sym (c.in_ok-bytes.ensures ∙ ap canonical c.as_bytes.ensures.value)) (canonical_utf8 c.args.name.now c.requires)) in
    cc
