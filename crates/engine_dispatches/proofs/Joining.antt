-- What is left where an object becomes another's child, or does not: no more floats, nothing else waits, and only lines come.
use Rattle.std.proofs.Common.{◌≡◌, ℕ, zero, suc, ◌≤◌, Bool, true, false, cond, length, Option, Some, None, refl, arith}
use Rattle.std.specs.Prelude.{IfOk, codes, option_map}
use Rattle.ui_machine.specs.Definition.{Definition}
use Rattle.ui_machine.specs.Output.Lines as lines
use Rattle.ui_machine.specs.Outcome.{After}
use Rattle.ui_machine.specs.Prefix.{IsPrefix}
use Rattle.ui_machine.specs.Rules.Children.{is_unadoptable, updated, with_child, with_family, with_parent, adopted}
use Rattle.ui_machine.specs.Seq.{read}
use Rattle.ui_machine.specs.State.Config.{World, said}
use Rattle.ui_machine.specs.State.Objects.{Object, Objects, object_at}
use Rattle.ui_machine.proofs.Prefixes.{prefix_one}
use Rattle.instance_tables.proofs.Held.{total_put}
use Rattle.engine_world.specs.Measure.{waiting, waiting_in}
use Rattle.engine_world.proofs.Floats.{bind_ok, without_less}

pub record Joins (w new : World) : Type 0 where
  pub waits : waiting new.objects ≡ waiting w.objects
  pub floats : length new.floating ≤ length w.floating
  pub grows : IsPrefix w.transcript new.transcript

-- a change that leaves what waits
waits_on : (change : Object → Object) → ((x : Object) → waiting_in (Some (change x)) ≡ waiting_in (Some x)) → (os : Objects) (id : ℕ)
    → waiting (updated change id os) ≡ waiting os
waits_on change same os zero = refl
waits_on change same os (suc i) =
    omega (arith, total_put waiting_in os i (option_map change (read None os i)) refl, by (read None os i))
  where
    by : (x : Option Object) → waiting_in (option_map change x) ≡ waiting_in x
    by None = refl
    by (Some x) = same x

family_joins : (d : Definition) (w : World) (parent child : ℕ) → Joins w (with_family d w parent child)
family_joins d w parent child = record {
  waits =
      let ms : Objects = updated (with_child child) parent w.objects in
      omega (arith, waits_on (with_parent (Some parent)) (λ x. refl) ms child, waits_on (with_child child) (λ x. refl) w.objects parent);
  floats = without_less child w.floating;
  grows = prefix_one w.transcript _;
}

pub adopted_joins : (d : Definition) (w : World) (parent child : ℕ) → IfOk (adopted d w parent child) (λ r. Joins w r.state)
unfolding adopted
adopted_joins d w parent child =
    bind_ok (object_at w.objects parent) _ P (λ p _. bind_ok (object_at w.objects child) _ P (λ c _. by (is_unadoptable parent p child c)))
  where
    P : After World Bool → Type 0
    P = λ r. Joins w r.state

    by : (b : Bool) → P (cond b (record { state = said d w (lines.limit (codes "adopt")); answer = false }) (record { state = with_family d w parent child; answer = true }))
    by true = record { waits = refl; floats = omega arith; grows = prefix_one w.transcript _ }
    by false = family_joins d w parent child
