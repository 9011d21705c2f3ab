-- An object of the build and its parent, and what comes of its becoming a child.
use Rattle.std.specs.Prelude.{ℕ, Ok}
use Rattle.ui_machine.specs.declared.arm.Arm.TheVariants as arms
use Rattle.ui_machine.specs.Definition.{Definition}
use Rattle.ui_machine.specs.Definition.Lookups.{place_at}
use Rattle.ui_machine.specs.Definition.Places.{Place}
use Rattle.ui_machine.specs.Outcome.{Answer, known, ◌>>=◌}
use Rattle.ui_machine.specs.Rules.Build.{held_object}
use Rattle.ui_machine.specs.Rules.Children.{adopted}
use Rattle.ui_machine.specs.State.Config.{World}
use Rattle.engine_world.specs.declared.children.Kin as code

pub record Kin : Type 0 where
  pub parent : ℕ
  pub child : ℕ

abbrev pub kin_of : code.Kin → Kin
kin_of kin = record { parent = kin.parent.0; child = kin.child.0 }

-- what the builder holds of a place and of its parent's
abbrev pub kin_at : Definition → World → ℕ → Answer Kin
kin_at d w place =
    known arms.Code (place_at d place) >>= λ (p : Place). known arms.Code p.parent >>= λ above. held_object w above >>= λ parent.
    held_object w place >>= λ child. Ok (record { parent = parent; child = child })

-- the world after one became the other's child, or did not, by a limit's line
abbrev pub joined : Definition → World → ℕ → ℕ → Answer World
joined d w parent child = adopted d w parent child >>= λ family. Ok family.state
