-- Members with one more at the end.
use Rattle.std.proofs.Common.{◌≡◌, ℕ, List, [], ◌∷◌, ◌++◌, String, Global, string_bytes, refl, sym, ap, ◌∙◌}
use Rattle.serde_json.specs.Data.{Data, Members, no_members, member}
use Rattle.serde_json.specs.View as serde_json
use Rattle.serde_json.proofs.Views as serde_views
use Rattle.json_trees.specs.View.{view, members_view}
use Rattle.json_trees.proofs.Views.{Entry}

-- with one more at the end
abbrev and_last : List ℕ → Data → Members → Members
and_last k d no_members = member k d no_members
and_last k d (member l e ms) = member l e (and_last k d ms)

last : (fs : List Entry) (f : Entry) → members_view (fs ++ f ∷ []) ≡ and_last (string_bytes f.0) (view f.1) (members_view fs)
last [] f = refl
last (g ∷ fs) f = ap (member (string_bytes g.0) (view g.1)) (last fs f)

serde_last : (es : List serde_views.Entry) (e : serde_views.Entry) → serde_json.members_view (es ++ e ∷ []) ≡ and_last (string_bytes e.0) (serde_json.view e.1) (serde_json.members_view es)
serde_last [] e = refl
serde_last (d ∷ es) e = ap (member (string_bytes d.0) (serde_json.view d.1)) (serde_last es e)

-- two lists of members that are seen as the same stay so with one more of each
pub one_more_member : (es : List serde_views.Entry) (e : serde_views.Entry) (fs : List Entry) (f : Entry) → members_view fs ≡ serde_json.members_view es → string_bytes f.0 ≡ string_bytes e.0 → view f.1 ≡ serde_json.view e.1
    → members_view (fs ++ f ∷ []) ≡ serde_json.members_view (es ++ e ∷ [])
one_more_member es e fs f same key value = last fs f ∙ rw (same, key, value) (sym (serde_last es e))
