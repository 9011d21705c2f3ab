-- What the builder has built, by place.
use Rattle.std.proofs.Common.{◌≡◌, ℕ, zero, suc, Bool, true, false, Ok, Err, ◌<◌, ◌≤◌, List, [], ◌∷◌, ◌++◌, length, map, Option, Some, None, slice_get, slice_set, refl, ap, ◌∙◌, arith}
use Rattle.ui_machine.specs.declared.arm.Arm.{Arm}
use Rattle.ui_machine.specs.declared.arm.Arm.TheVariants as arms
use Rattle.ui_machine.specs.Seq.{read, write}
use Rattle.ui_machine.specs.State.Objects.{Object, living, asked}
use Rattle.ui_machine.specs.State.Config.{BuilderEntry, unbuilt, built, World, Started, starts, builder_entry, is_unbuilt, with_builder_entry, sunk}
use Rattle.ui_machine.specs.Outcome.{Answer, ◌>>=◌, known, only_if}
use Rattle.ui_machine.specs.Rules.Construction.{constructed}
use Rattle.engine_world.specs.declared.builder.BuilderEntry as code
use Rattle.engine_world.specs.View.{held_of}

-- what is found, if it is there
abbrev pub found_held : Option code.BuilderEntry → BuilderEntry
found_held None = unbuilt
found_held (Some h) = held_of h

-- what is there
pub held_is : (hs : List code.BuilderEntry) (place : ℕ) (found : Option code.BuilderEntry) → slice_get hs place ≡ found → read unbuilt (map held_of hs) place ≡ found_held found
held_is hs place found is = by hs place ∙ ap found_held is
  where
    by : (hs : List code.BuilderEntry) (place : ℕ) → read unbuilt (map held_of hs) place ≡ found_held (slice_get hs place)
    by [] place = refl
    by (h ∷ hs) zero = refl
    by (h ∷ hs) (suc place) = by hs place

-- one place more changes nothing of a write past the end
pub filled : (held : List BuilderEntry) (place : ℕ) (new : BuilderEntry) → length held ≤ place → write unbuilt (held ++ unbuilt ∷ []) place new ≡ write unbuilt held place new
filled [] zero new past = refl
filled [] (suc place) new past = refl
filled (h ∷ held) zero new past = absurd (omega arith)
filled (h ∷ held) (suc place) new past = ap (λ more. h ∷ more) (filled held place new (omega arith))

pub held_more : (hs : List code.BuilderEntry) (new : code.BuilderEntry) → map held_of (hs ++ new ∷ []) ≡ map held_of hs ++ held_of new ∷ []
held_more [] new = refl
held_more (h ∷ hs) new = ap (λ more. held_of h ∷ more) (held_more hs new)

pub held_set : (hs : List code.BuilderEntry) (place : ℕ) (new : code.BuilderEntry) → place < length hs → map held_of (slice_set hs place new) ≡ write unbuilt (map held_of hs) place (held_of new)
held_set [] place new within = absurd (omega arith)
held_set (h ∷ hs) zero new within = refl
held_set (h ∷ hs) (suc place) new within = ap (λ more. held_of h ∷ more) (held_set hs place new (omega arith))

-- ** the end of a construction

module _ (w : World) (id : ℕ) where
  hold_at : ℕ → Answer Started
  hold_at place = only_if (is_unbuilt (builder_entry w place)) arms.Code (starts (sunk (with_builder_entry w place (built id)) id) [])

  by_place : (r : Answer ℕ) → asked w.objects id (λ o. Ok o.place) ≡ r → constructed w id true ≡ (r >>= hold_at)
  unfolding asked constructed hold_at
  by_place r h = by (living w.objects id) ∙ ap (λ (a : Answer ℕ). a >>= hold_at) h
    where
      by : (o : Option Object) → (known arms.Operand o >>= λ x. hold_at x.place) ≡ ((known arms.Operand o >>= λ x. Ok x.place) >>= hold_at)
      by None = refl
      by (Some x) = refl

  pub no_object : (arm : Arm) → asked w.objects id (λ o. Ok o.place) ≡ Err arm → constructed w id true ≡ Err arm
  no_object arm h = by_place (Err arm) h

  module _ (place : ℕ) (at : asked w.objects id (λ o. Ok o.place) ≡ Ok place) where
    on_test : (b : Bool) → is_unbuilt (builder_entry w place) ≡ b → constructed w id true ≡ only_if b arms.Code (starts (sunk (with_builder_entry w place (built id)) id) [])
    unfolding hold_at
    on_test b h = by_place (Ok place) at ∙ ap (λ b. only_if b arms.Code (starts (sunk (with_builder_entry w place (built id)) id) [])) h

    pub held_before : is_unbuilt (builder_entry w place) ≡ false → constructed w id true ≡ Err arms.Code
    held_before h = on_test false h

    pub held_now : is_unbuilt (builder_entry w place) ≡ true → constructed w id true ≡ starts (sunk (with_builder_entry w place (built id)) id) []
    held_now h = on_test true h
