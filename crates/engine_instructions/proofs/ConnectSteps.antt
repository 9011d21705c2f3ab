-- What the instruction `connect` leads to.
use Rattle.std.proofs.Common.{◌≡◌, ◌∙◌, refl, sym, ap, ℕ, Bool, true, false, List, Option, Some, Ok}
use Rattle.ui_machine.specs.declared.arm.Arm.TheVariants as arms
use Rattle.ui_machine.specs.Definition.{Definition}
use Rattle.ui_machine.specs.Definition.Lookups.{program_of}
use Rattle.ui_machine.specs.Definition.Programs.{Connect}
use Rattle.ui_machine.specs.Definition.Values as values
use Rattle.ui_machine.specs.Instructions.{in_front}
use Rattle.ui_machine.specs.Instructions.Registers.{data_in, operand_in, tells, written_to}
use Rattle.ui_machine.specs.Instructions.Signals.{connecting, connection_by_code, signal_in}
use Rattle.ui_machine.specs.Outcome.{After, Answer, known, ◌>>=◌}
use Rattle.ui_machine.specs.Output.Lines as lines
use Rattle.ui_machine.specs.Rules.Build.{to_connect}
use Rattle.ui_machine.specs.Rules.Connections.{Connection, connected, detail_in}
use Rattle.ui_machine.specs.State.Config.{Config, Started, World, said}
use Rattle.ui_machine.specs.State.Tasks.{Frame, Task}
use Rattle.ui_machine.specs.Steps.{left}
use Rattle.std.specs.Prelude.{codes}
use Rattle.engine_world.specs.ConnectView.{connection_in, is_connected, is_full, left_by, told_by}
use Rattle.engine_world.specs.EngineView.{config_of}
use Rattle.engine_world.specs.Quiet.{IsQuiet}
use Rattle.engine_world.specs.FirstPrograms.{rest_of}
use Rattle.engine_world.specs.TaskView.{agenda_of}
use Rattle.engine_world.specs.View.{world_of}
use Rattle.engine_world.specs.declared.connections.Outcome.{Outcome}
use Rattle.engine_world.specs.declared.connections.Outcome.TheVariants as outcomes
use Rattle.engine_world.specs.declared.engine.Engine.{Engine}
use Rattle.engine_world.specs.Able.{Able}
use Rattle.engine_world.proofs.Ableness.{able_as, first, instructed, past}
use Rattle.engine_world.proofs.Signals.{bind_same}
use Rattle.engine_instructions.proofs.Starting.{written_able_elsewhere, written_elsewhere}

-- ** what a program connects, where no arm stops it

module _ (d : Definition) (w : World) (f : Frame) (object : ℕ) (k : Connect) where
  abbrev with_data : (id signal : ℕ) → Option (List ℕ) → (program : ℕ) → Option ℕ → Answer Connection
  with_data id signal detail program arg = Ok (connection_by_code id signal detail program arg k)

  abbrev with_program : (id signal : ℕ) → Option (List ℕ) → (program : ℕ) → Answer Connection
  with_program id signal detail program = data_in w f k.with >>= with_data id signal detail program

  abbrev with_detail : (id signal : ℕ) → Option (List ℕ) → Answer Connection
  with_detail id signal detail = known arms.Code (program_of d k.program) >>= with_program id signal detail

  abbrev with_signal : (id signal : ℕ) → Answer Connection
  with_signal id signal = detail_in d w id signal k.detail >>= with_detail id signal

  abbrev with_object : ℕ → Answer Connection
  with_object id = signal_in d w id k.signal >>= with_signal id

  module _ (able : Able (connection_in d w f object k)) (id : ℕ) (at : operand_in w f object ≡ Ok id) where
    past_object : Able (with_object id)
    past_object = past (operand_in w f object) with_object id at able

    pub signal_able : Able (signal_in d w id k.signal)
    signal_able = first (signal_in d w id k.signal) (with_signal id) past_object

    module _ (signal : ℕ) (named : signal_in d w id k.signal ≡ Ok signal) where
      past_signal : Able (with_signal id signal)
      past_signal = past (signal_in d w id k.signal) (with_signal id) signal named past_object

      pub detail_able : Able (detail_in d w id signal k.detail)
      detail_able = first (detail_in d w id signal k.detail) (with_detail id signal) past_signal

      module _ (detail : Option (List ℕ)) (told : detail_in d w id signal k.detail ≡ Ok detail) where
        past_detail : Able (with_detail id signal detail)
        past_detail = past (detail_in d w id signal k.detail) (with_detail id signal) detail told past_signal

        pub program_able : Able (known arms.Code (program_of d k.program))
        program_able = first (known arms.Code (program_of d k.program)) (with_program id signal detail) past_detail

        module _ (program : ℕ) (is : program_of d k.program ≡ Some program) where
          pub data_able : Able (data_in w f k.with)
          data_able =
              first (data_in w f k.with) (with_data id signal detail program)
              (past (known arms.Code (program_of d k.program)) (with_program id signal detail) program (ap (λ (o : Option ℕ). known arms.Code o) is) past_detail)

          pub connection_so : (arg : Option ℕ) → data_in w f k.with ≡ Ok arg → connection_in d w f object k ≡ Ok (connection_by_code id signal detail program arg k)
          connection_so arg found =
              ap (λ (a : Answer ℕ). a >>= with_object) at
              ∙ ap (λ (a : Answer ℕ). a >>= with_signal id) named
              ∙ ap (λ (a : Answer (Option (List ℕ))). a >>= with_detail id signal) told
              ∙ ap (λ (o : Option ℕ). known arms.Code o >>= with_program id signal detail) is
              ∙ ap (λ (a : Answer (Option ℕ)). a >>= with_data id signal detail program) found

-- ** what comes of it

module _ (d : Definition) (w : World) (rest : List Task) (f : Frame) (to object : ℕ) (k : Connect) where
  abbrev then_tells : Connection → Answer Started
  then_tells = λ x. tells (connected d w (to_connect rest) x) to f

  by_connection : connecting d w rest f to object k ≡ (connection_in d w f object k >>= λ x. tells (connected d w (to_connect rest) x) to f)
  unfolding connecting
  by_connection =
      bind_same (operand_in w f object) _ _ _ (λ id. bind_same (signal_in d w id k.signal) _ _ _ (λ signal. bind_same (detail_in d w id signal k.detail) _ _ _ (λ detail.
      bind_same (known arms.Code (program_of d k.program)) _ _ _ (λ program. bind_same (data_in w f k.with) _ _ _ (λ arg. refl)))))

  -- no arm stops the connection where none stops the program
  pub connection_able : (n : ℕ) (tasks : List Task) → Able (left n (in_front tasks (connecting d w rest f to object k))) → Able (connection_in d w f object k)
  connection_able n tasks able = first (connection_in d w f object k) then_tells (able_as by_connection (instructed n tasks (connecting d w rest f to object k) able))

  -- what came of it is reported
  pub connect_tells : (x : Connection) (o : Outcome) → connection_in d w f object k ≡ Ok x → connected d w (to_connect rest) x ≡ told_by d o w x
      → connecting d w rest f to object k ≡ written_to (told_by d o w x).state to (Some (values.bool (is_connected o))) f
  connect_tells x o meant comes =
      by_connection ∙ ap (λ (a : Answer Connection). a >>= then_tells) meant ∙ ap (λ (done : After World Bool). tells done to f) comes
      ∙ ap (λ b. written_to (told_by d o w x).state to (Some (values.bool b)) f) (answers o)
    where
      answers : (o : Outcome) → (told_by d o w x).answer ≡ is_connected o
      answers outcomes.Connected = refl
      answers outcomes.TooLate = refl
      answers outcomes.Full = refl

-- without a line nothing else is left
pub told_quietly : (d : Definition) (o : Outcome) (w : World) (x : Connection) → is_full o ≡ false → (told_by d o w x).state ≡ left_by o w x
told_quietly d outcomes.Connected w x quiet = refl
told_quietly d outcomes.TooLate w x quiet = refl
told_quietly d outcomes.Full w x quiet = cc quiet

-- where as many are connected as may be, the line is all
pub told_full : (d : Definition) (o : Outcome) (w : World) (x : Connection) → is_full o ≡ true → (told_by d o w x).state ≡ said d (left_by o w x) (lines.limit (codes "connect"))
told_full d outcomes.Connected w x full = cc full
told_full d outcomes.TooLate w x full = cc full
told_full d outcomes.Full w x full = refl

-- a register is written behind the connection, and then perhaps the line is said
module _ (d : Definition) (e m : Engine) (f : Frame) (to object : ℕ) (k : Connect) (x : Connection) (o : Outcome)
    (meant : connection_in d (world_of e.world) f object k ≡ Ok x)
    (comes : connected d (world_of e.world) (to_connect (rest_of d e)) x ≡ told_by d o (world_of e.world) x)
    (agenda : rest_of d m ≡ rest_of d e) (count : m.counted ≡ e.counted) (b : Bool) (answers : b ≡ is_connected o) where
  abbrev written_behind : Answer Config
  written_behind = left m.counted (in_front (rest_of d m) (written_to (world_of m.world) to (Some (values.bool b)) f))

  abbrev connect_so : Answer Config
  connect_so = left e.counted (in_front (rest_of d e) (connecting d (world_of e.world) (rest_of d e) f to object k))

  same_place : written_behind ≡ left e.counted (in_front (rest_of d e) (written_to (world_of m.world) to (Some (values.bool (is_connected o))) f))
  same_place =
      ap (λ (ts : List Task). left m.counted (in_front ts (written_to (world_of m.world) to (Some (values.bool b)) f))) agenda
      ∙ ap (λ n. left n (in_front (rest_of d e) (written_to (world_of m.world) to (Some (values.bool b)) f))) count
      ∙ ap (λ c. left e.counted (in_front (rest_of d e) (written_to (world_of m.world) to (Some (values.bool c)) f))) answers

  as_told : connect_so ≡ left e.counted (in_front (rest_of d e) (written_to (told_by d o (world_of e.world) x).state to (Some (values.bool (is_connected o))) f))
  as_told = ap (λ (a : Answer Started). left e.counted (in_front (rest_of d e) a)) (connect_tells d (world_of e.world) (rest_of d e) f to object k x o meant comes)

  -- no arm stops the write where none stops the program
  pub written_able : Able connect_so → Able written_behind
  written_able able =
      let told : Able (left e.counted (in_front (rest_of d e) (written_to (told_by d o (world_of e.world) x).state to (Some (values.bool (is_connected o))) f))) = able_as as_told able in
      able_as (sym same_place) (written_able_elsewhere e.counted (rest_of d e) to (Some (values.bool (is_connected o))) f (told_by d o (world_of e.world) x).state (world_of m.world) told)

  -- all that is left
  pub connect_written : (mid new : Engine) → written_behind ≡ Ok (config_of d mid) → world_of new.world ≡ (told_by d o (world_of e.world) x).state
      → agenda_of d new ≡ agenda_of d mid → new.counted ≡ mid.counted → connect_so ≡ Ok (config_of d new)
  connect_written mid new wrote world tasks counted =
      as_told
      ∙ (written_elsewhere e.counted (rest_of d e) to (Some (values.bool (is_connected o))) f (world_of m.world) (told_by d o (world_of e.world) x).state (config_of d mid) (sym same_place ∙ wrote)).1
      ∙ rw (world, tasks, counted) refl

  -- the world behind the write
  pub connect_world_behind : (mid : Engine) → written_behind ≡ Ok (config_of d mid) → world_of mid.world ≡ world_of m.world
  connect_world_behind mid wrote =
      (written_elsewhere e.counted (rest_of d e) to (Some (values.bool (is_connected o))) f (world_of m.world) (world_of m.world) (config_of d mid) (sym same_place ∙ wrote)).0

-- no line is reported by the connection itself
pub left_quiet : (o : Outcome) (w : World) (x : Connection) → IsQuiet w (left_by o w x)
left_quiet outcomes.Connected w x = (refl, refl)
left_quiet outcomes.TooLate w x = (refl, refl)
left_quiet outcomes.Full w x = (refl, refl)
