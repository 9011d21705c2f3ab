-- What the places of one kind need, place by place.
use Rattle.std.proofs.Common.{◌≡◌, refl, ap, sym, ◌∙◌, ℕ, ◌+◌, Bool, true, false, cond, List, [], ◌∷◌, ◌++◌, take, Some, append_assoc}
use Rattle.std.specs.List.{filter, flat_map}
use Rattle.std.proofs.Math.Bool.{beq}
use Rattle.std.specs.Prelude.{slice_get}
use Rattle.std.proofs.lemmas.List.{append-nil}
use Rattle.std.proofs.lemmas.List.Elements.{filter-append}
use Rattle.std.proofs.lemmas.Grind.{flat_map-append}
use Rattle.ui_machine.specs.Definition.{Definition}
use Rattle.ui_machine.specs.Definition.Places.{Place}
use Rattle.ui_machine.specs.Rules.Transform.{same_bool}
use Rattle.law_peers.specs.Needs.{Need, needs_at}
use Rattle.needed_peers.specs.Needing.{needs_of_kind}
use Rattle.needed_peers.proofs.Taken.{one_taken}

tested : (a b : Bool) → same_bool a b ≡ beq a b
tested true true = refl
tested true false = refl
tested false true = refl
tested false false = refl

module _ (d : Definition) (kind : Bool) (k : ℕ) (p : Place) (at : slice_get d.places k ≡ Some p) (start before : List Need) (so_far : before ≡ start ++ needs_of_kind d kind (take k d.places)) where
  -- one more place
  more : needs_of_kind d kind (take (k + 1) d.places) ≡ needs_of_kind d kind (take k d.places) ++ flat_map (needs_at d) (cond (same_bool p.is_prototype kind) (p ∷ []) [])
  more =
      let test : Place → Bool = λ (p : Place). same_bool p.is_prototype kind in
      ap (λ l. needs_of_kind d kind l) (one_taken d.places k p at)
      ∙ ap (λ l. flat_map (needs_at d) l) (filter-append test (take k d.places) (p ∷ []))
      ∙ flat_map-append (needs_at d) (filter test (take k d.places)) (filter test (p ∷ []))

  -- it is of the kind
  pub of_kind : (after : List Need) → beq p.is_prototype kind ≡ true → after ≡ before ++ needs_at d p → after ≡ start ++ needs_of_kind d kind (take (k + 1) d.places)
  of_kind after is added =
      let step : needs_of_kind d kind (take (k + 1) d.places) ≡ needs_of_kind d kind (take k d.places) ++ needs_at d p =
      more
      ∙ ap (λ b. needs_of_kind d kind (take k d.places) ++ flat_map (needs_at d) (cond b (p ∷ []) [])) (tested p.is_prototype kind ∙ is)
      ∙ ap (λ l. needs_of_kind d kind (take k d.places) ++ l) (append-nil (needs_at d p)) in
      added ∙ ap (λ l. l ++ needs_at d p) so_far ∙ append_assoc start (needs_of_kind d kind (take k d.places)) (needs_at d p) ∙ ap (λ l. start ++ l) (sym step)

  -- it is of the other kind
  pub of_other : beq p.is_prototype kind ≡ false → before ≡ start ++ needs_of_kind d kind (take (k + 1) d.places)
  of_other is =
      let step : needs_of_kind d kind (take (k + 1) d.places) ≡ needs_of_kind d kind (take k d.places) =
      more
      ∙ ap (λ b. needs_of_kind d kind (take k d.places) ++ flat_map (needs_at d) (cond b (p ∷ []) [])) (tested p.is_prototype kind ∙ is)
      ∙ append-nil (needs_of_kind d kind (take k d.places)) in
      so_far ∙ ap (λ l. start ++ l) (sym step)
