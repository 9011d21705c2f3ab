use Rattle.std.proofs.Common.{◌∙◌, ap, true, map, if◌then◌else◌, string_bytes, w32}
use Rattle.std.specs.BTreeSet.{contains, contains_text}
use Rattle.std.specs.Ordering.{int_cmp, int_eq}
use Rattle.std.specs.Str.{bytes_eq}
use Rattle.std.proofs.lemmas.Int.{to_z-of_z}
use Rattle.std.proofs.lemmas.List.{map_push}
use Rattle.std.proofs.lemmas.Map.Text.{btree_set_updates_text}
use Rattle.type_tree.specs.Entry.{enum_member}
use Rattle.read_types.proofs.EnumParts.{same_parts}
use Rattle.read_types.proofs.enum_drafts.EnumDraft.add.Goals as goal

pub returns : goal.returns
returns c =
    let old = c.args.self.now in
    same_parts _ _ _ _ _ _
    (ap (λ ms. map enum_member ms) c.in_ok-push.ensures.items ∙ map_push enum_member old.members.items c.args.member)
    (λ name. btree_set_updates_text (string_bytes c.args.key) old.names c.insert.new.self true c.in_ok-insert.ensures.updates name
    ∙ ap (λ k. if bytes_eq k name then true else contains_text old.names name) c.requires.key)
    (λ n. c.in_ok-insert-2.ensures.updates.0 n
    ∙ ap (λ k. if int_eq k n then true else contains int_cmp old.numbers n) (to_z-of_z w32 c.args.number c.ranges.number ∙ c.requires.same))
