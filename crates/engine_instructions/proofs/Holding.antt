-- What programs hold: what they write, begin and give lives, and may be held once more.
use Rattle.std.proofs.Common.{◌≡◌, ℕ, zero, suc, ◌+◌, ◌<◌, ◌≤◌, ◌^◌, List, [], ◌∷◌, Option, None, IfSome, IsSome, ap, arith}
use Rattle.ui_machine.specs.Definition.{Definition}
use Rattle.ui_machine.specs.Definition.Values.{Value}
use Rattle.ui_machine.specs.Instructions.{in_front}
use Rattle.ui_machine.specs.Instructions.Registers.{goes_on}
use Rattle.ui_machine.specs.Outcome.{Answer}
use Rattle.ui_machine.specs.Seq.{total}
use Rattle.ui_machine.specs.State.Config.{Started, World}
use Rattle.ui_machine.specs.State.Objects.{living}
use Rattle.ui_machine.specs.State.References.{in_option, in_register, in_value, same}
use Rattle.ui_machine.specs.State.Tasks.{Call, Frame, Task}
use Rattle.ui_machine.specs.Steps.{left}
use Rattle.law_typing.specs.Good.Living.{IsLiving, NamesLiving, TaskNamesLiving}
use Rattle.law_typing.specs.Verdict.Accepted.{Each}
use Rattle.instance_tables.specs.Store.{count_of}
use Rattle.instance_tables.proofs.Few.{option_most}
use Rattle.engine_world.specs.Able.{LeadsToLiving}
use Rattle.engine_world.specs.Counting.{Counts, IsCounted, MayBeHeld, MayHold, nothing}
use Rattle.engine_world.specs.View.{world_of}
use Rattle.engine_world.specs.declared.engine.Engine.{Engine}
use Rattle.engine_world.proofs.Held.{counted_lives, may_counted, option_lives, register_lives, same_lives, values_live}
use Rattle.engine_world.proofs.Named.{names_as}
use Rattle.engine_world.proofs.Rooms.{register_most}

-- ** what lives

-- of two that may hold it, one does
one_of : (m n : ℕ) (P : Type 0) → (0 < m → P) → (0 < n → P) → 0 < m + n → P
one_of zero n P first later held = later (omega (arith, held))
one_of (suc m) n P first later held = first (omega arith)

-- what a call holds
pub call_lives : (w : World) (c : Call) (o : ℕ) → IsLiving w c.object × Each (NamesLiving w) c.args → 0 < same o c.object + total (in_value o) c.args → IsSome (living w.objects o)
call_lives w c o names held = one_of (same o c.object) (total (in_value o) c.args) _ (same_lives w.objects o c.object names.0) (values_live w o c.args names.1) held

-- what is begun before a program goes on names what lives
pub begun_names : (n : ℕ) (rest : List Task) (a : Answer Started) (w : World) (t : Task) (f : Frame) → a ≡ goes_on w (t ∷ []) f → LeadsToLiving (left n (in_front rest a)) → TaskNamesLiving w t
unfolding left in_front
begun_names n rest a w t f is names = (names_as (ap (λ (x : Answer Started). left n (in_front rest x)) is) names).0

-- ** what may be held

-- where nothing is taken off each object is counted
pub all_counted : (d : Definition) (e : Engine) → Counts d nothing e → IsCounted d e
all_counted d e h = record { taken = nothing; counts = h; little = λ o. omega arith }

-- and what lives may be held
pub lives_held : (d : Definition) (e : Engine) (id : ℕ) → Counts d nothing e → IsSome (living e.world.table.objects id) → MayBeHeld e id
lives_held d e id h lives = record { d = d; counted = all_counted d e h; lives = lives }

-- a value that is held already may be held once more
pub counted_may : (d : Definition) (e : Engine) (v : Option Value) → ((d : Definition) → IsCounted d e → (o : ℕ) → count_of e.world.table.counts o + 2 ^ 64 < 2 ^ 128)
    → ((o : ℕ) → living e.world.table.objects o ≡ None → count_of e.world.table.counts o ≡ 0) → IsCounted d e
    → ((o : ℕ) → in_register o v ≤ count_of e.world.table.counts o) → MayHold e.world.table (λ o. in_register o v)
counted_may d e v room dead counted within =
    may_counted d e (λ o. in_register o v) room counted (λ o. omega (arith, register_most o v))
    (λ o held. counted_lives d counted.taken e dead counted.counts o (omega (arith, held, within o, counted.counts.exact o)))

module _ (d : Definition) (e : Engine) (room : (d : Definition) → IsCounted d e → (o : ℕ) → count_of e.world.table.counts o + 2 ^ 64 < 2 ^ 128)
    (counts : Counts d nothing e) where
  -- what is written to a register of a program
  pub written_may : (v : Option Value) → IfSome v (NamesLiving (world_of e.world)) → MayHold e.world.table (λ o. in_register o v)
  written_may v names =
      may_counted d e (λ o. in_register o v) room (all_counted d e counts) (λ o. omega (arith, register_most o v)) (λ o held. register_lives e.world.table.objects o v names held)

  -- the data of a source
  pub data_may : (i : Option ℕ) → IfSome i (λ id. IsSome (living e.world.table.objects id)) → MayHold e.world.table (λ o. in_option o i)
  data_may i lives =
      may_counted d e (λ o. in_option o i) room (all_counted d e counts) (λ o. omega (arith, option_most o i)) (λ o held. option_lives e.world.table.objects o i lives held)
