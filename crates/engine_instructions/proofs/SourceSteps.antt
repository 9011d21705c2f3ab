-- What the instructions on sources lead to.
use Rattle.std.proofs.Common.{◌≡◌, ◌∙◌, Bool, true, false, [], Option, Some, Ok, refl, sym, ap, ℕ}
use Rattle.ui_machine.specs.declared.arm.Arm.TheVariants as arms
use Rattle.ui_machine.specs.Definition.{Definition}
use Rattle.ui_machine.specs.Definition.Lookups.{program_of}
use Rattle.ui_machine.specs.Definition.Values as values
use Rattle.ui_machine.specs.Instructions.{in_front}
use Rattle.ui_machine.specs.Instructions.Registers.{data_in, goes_on, tells, written_to}
use Rattle.ui_machine.specs.Instructions.Sources.{Attach, attached_to, attaching, removing, with_source}
use Rattle.ui_machine.specs.Outcome.{Answer, known, ◌>>=◌}
use Rattle.ui_machine.specs.Output.Lines as lines
use Rattle.ui_machine.specs.State.Config.{Config, World, said}
use Rattle.ui_machine.specs.State.Sources as sources
use Rattle.ui_machine.specs.State.Tasks.{Frame}
use Rattle.ui_machine.specs.Steps.{left}
use Rattle.std.specs.Prelude.{List}
use Rattle.engine_world.specs.Able.{Able}
use Rattle.engine_world.specs.FirstPrograms.{rest_of}
use Rattle.engine_world.specs.View.{world_of}
use Rattle.engine_world.specs.declared.engine.Engine.{Engine}
use Rattle.engine_world.proofs.Ableness.{able_as, first}
use Rattle.engine_instructions.proofs.Starting.{same_left}

module _ (d : Definition) (w : World) (f : Frame) (to : ℕ) (a : Attach) where
  -- where no arm stops it, its program is there
  pub attach_known : Able (attaching d w f to a) → Able (known arms.Code (program_of d a.program))
  unfolding attaching
  attach_known able = first (known arms.Code (program_of d a.program)) (λ program. data_in w f a.with >>= λ arg. tells (attached_to d w a program arg) to f) able

  module _ (program : ℕ) (is : program_of d a.program ≡ Some program) where
    attach_by : attaching d w f to a ≡ (data_in w f a.with >>= λ arg. tells (attached_to d w a program arg) to f)
    unfolding attaching
    attach_by = ap (λ (o : Option ℕ). known arms.Code o >>= λ p. data_in w f a.with >>= λ arg. tells (attached_to d w a p arg) to f) is

    -- and so is its data
    pub attach_held : Able (attaching d w f to a) → Able (data_in w f a.with)
    attach_held able = first (data_in w f a.with) (λ arg. tells (attached_to d w a program arg) to f) (able_as attach_by able)

    module _ (arg : Option ℕ) (found : data_in w f a.with ≡ Ok arg) where
      attach_tells : attaching d w f to a ≡ tells (attached_to d w a program arg) to f
      attach_tells = attach_by ∙ ap (λ (x : Answer (Option ℕ)). x >>= λ arg. tells (attached_to d w a program arg) to f) found

      -- where there is room the register gets TRUE
      pub attaches : sources.has_room w.sources w.last_source ≡ true → attaching d w f to a ≡ written_to (with_source w a program arg) to (Some (values.bool true)) f
      attaches room = attach_tells ∙ rw room refl

      -- else it gets FALSE, and a line says so
      pub attaches_none : sources.has_room w.sources w.last_source ≡ false → attaching d w f to a ≡ written_to (said d w (lines.limit a.word)) to (Some (values.bool false)) f
      attaches_none full = attach_tells ∙ rw full refl

-- a register is written behind it
module _ (d : Definition) (e m : Engine) (f : Frame) (to : ℕ) (a : Attach) (program : ℕ) (is : program_of d a.program ≡ Some program) (arg : Option ℕ)
    (found : data_in (world_of e.world) f a.with ≡ Ok arg) (agenda : rest_of d m ≡ rest_of d e) (count : m.counted ≡ e.counted) where
  abbrev attach_so : Answer Config
  attach_so = left e.counted (in_front (rest_of d e) (attaching d (world_of e.world) f to a))

  abbrev writes_behind : World → Bool → Answer Config
  writes_behind w b = left m.counted (in_front (rest_of d m) (written_to w to (Some (values.bool b)) f))

  pub attached_left : sources.has_room (world_of e.world).sources (world_of e.world).last_source ≡ true → world_of m.world ≡ with_source (world_of e.world) a program arg
      → attach_so ≡ writes_behind (world_of m.world) true
  attached_left room world =
      same_left e.counted m.counted (rest_of d e) (rest_of d m) _ _
      (attaches d (world_of e.world) f to a program is arg found room ∙ ap (λ (w : World). written_to w to (Some (values.bool true)) f) (sym world)) agenda count

  pub unattached_left : sources.has_room (world_of e.world).sources (world_of e.world).last_source ≡ false → world_of m.world ≡ world_of e.world
      → attach_so ≡ writes_behind (said d (world_of m.world) (lines.limit a.word)) false
  unattached_left full world =
      same_left e.counted m.counted (rest_of d e) (rest_of d m) _ _
      (attaches_none d (world_of e.world) f to a program is arg found full ∙ ap (λ (w : World). written_to (said d w (lines.limit a.word)) to (Some (values.bool false)) f) (sym world)) agenda count

module _ (d : Definition) (w : World) (f : Frame) (name : List ℕ) where
  pub remove_known : Able (removing d w f name) → Able (known arms.Code (program_of d name))
  unfolding removing
  remove_known able = first (known arms.Code (program_of d name)) (λ number. goes_on (record w { sources = sources.without_program number w.sources }) [] f) able

  pub removes : (number : ℕ) → program_of d name ≡ Some number → removing d w f name ≡ goes_on (record w { sources = sources.without_program number w.sources }) [] f
  unfolding removing
  removes number is = ap (λ (o : Option ℕ). known arms.Code o >>= λ number. goes_on (record w { sources = sources.without_program number w.sources }) [] f) is
