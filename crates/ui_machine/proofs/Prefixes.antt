-- Lists that begin with another.
use Rattle.std.proofs.Common.{◌≡◌, List, [], ◌∷◌, ◌++◌, refl, sym, ap, ◌∙◌}
use Rattle.std.proofs.lemmas.List.{append-nil, append_assoc}
use Rattle.ui_machine.specs.Prefix.{IsPrefix}

pub prefix_same : {A : Type 0} (xs : List A) → IsPrefix xs xs
prefix_same xs = record { more = []; whole = sym (append-nil xs) }

pub prefix_by : {A : Type 0} {xs ys : List A} → ys ≡ xs → IsPrefix xs ys
prefix_by {A} {xs} {ys} same = record { more = []; whole = same ∙ sym (append-nil xs) }

pub prefix_one : {A : Type 0} (xs : List A) (x : A) → IsPrefix xs (xs ++ x ∷ [])
prefix_one xs x = record { more = x ∷ []; whole = refl }

pub prefix_on : {A : Type 0} {xs ys zs : List A} → IsPrefix xs ys → IsPrefix ys zs → IsPrefix xs zs
prefix_on {A} {xs} {ys} {zs} p q = record { more = p.more ++ q.more; whole = q.whole ∙ ap (λ all. all ++ q.more) p.whole ∙ append_assoc xs p.more q.more }
