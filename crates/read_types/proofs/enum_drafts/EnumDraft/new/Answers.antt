use Rattle.std.proofs.Common.{[], ℤ, List, ap, map, String, Global, string_bytes}
use Rattle.std.specs.BTreeMap.{is_at}
use Rattle.std.specs.Cmp.Lexicographic.{slice_cmp}
use Rattle.std.specs.List.{list_any}
use Rattle.std.specs.Ordering.{int_cmp, nat_cmp}
use Rattle.type_tree.specs.Entry.{enum_member}
use Rattle.read_types.proofs.EnumParts.{same_parts}
use Rattle.read_types.proofs.enum_drafts.EnumDraft.new.Goals as goal

pub returns : goal.returns
returns c =
    same_parts _ [] _ _ _ _ (ap (λ ms. map enum_member ms) c.new.ensures.items)
    (λ name. ap (λ (ks : List (String Global)). list_any (is_at (λ k. slice_cmp nat_cmp name (string_bytes k))) ks) c.new-2.ensures.empty)
    (λ n. ap (λ (ks : List ℤ). list_any (is_at (int_cmp n)) ks) c.new-3.ensures.empty)
