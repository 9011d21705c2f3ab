use Rattle.std.proofs.Common.{◌≡◌, [], ◌∷◌, ◌++◌, string_bytes, sym, ap, ◌∙◌, append_assoc}
use Rattle.serde_json.proofs.Views as serde_views
use Rattle.json_trees.specs.View.{members_view}
use Rattle.json_trees.proofs.LastMembers.{one_more_member}
use Rattle.json_trees.proofs.copies.+copy.Goals as goal

pub copy_members-loop-key-preserved : goal.copy_members-loop-key-preserved
copy_members-loop-key-preserved t c =
    let l = c.loop-key in
    let done = l.invariant.0 in
    let e : serde_views.Entry = (c.in-Some.key.now, c.in-Some.member.now) in
    let left = c.next.new.self in
    let all : c.args.members.now.entries ≡ done ++ e ∷ left = l.invariant.1 ∙ ap (λ es. done ++ es) c.in-Some.ensures.steps in
    let named : string_bytes c.in_ok-name.name ≡ string_bytes e.0 = c.in_ok-name.ensures.cases in (
      done ++ e ∷ [],
      all ∙ sym (append_assoc done (e ∷ []) left),
      ap members_view c.in_ok-push.ensures.items ∙ one_more_member done e l.copies.items (c.in_ok-name.name, c.in_ok-copy.field-0) l.invariant.2 named c.in_ok-copy.ensures,
    )
