use Rattle.std.proofs.Common.{◌≡◌, [], ◌∷◌, ◌++◌, Some, option_map, refl, sym, ap, ◌∙◌, append_assoc}
use Rattle.json.specs.Reads.{token_of}
use Rattle.serde_json.specs.View.{view}
use Rattle.read_lines.specs.Tokens.{scalar_data, scalars_data}
use Rattle.read_lines.proofs.Scalars.{one_more}
use Rattle.read_lines.proofs.lines.next_scalars.Goals as goal

pub values-init : goal.values-init
unfolding scalars_data
values-init c = ([], refl, rw c.new-values.ensures.items refl)

pub values-preserved : goal.values-preserved
values-preserved c =
    let so_far = c.values.invariant in
    let t = token_of c.in-Some.token in
    let one : scalar_data t ≡ Some (view c.in-Some-2.value) = sym c.in_ok-value.ensures ∙ ap (option_map view) c.in-Some-2.is in (
      so_far.0 ++ t ∷ [],
      so_far.1 ∙ ap (λ ts. so_far.0 ++ ts) c.in-Some.ensures.value ∙ sym (append_assoc so_far.0 (t ∷ []) c.next.new.self),
      rw c.in_ok-push.ensures.items (one_more so_far.0 t c.values.values.items c.in-Some-2.value so_far.2 one),
    )
