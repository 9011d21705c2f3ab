-- What an instruction starts, as the engine leaves it.
use Rattle.std.proofs.Common.{◌≡◌, ◌∙◌, refl, sym, ap, subst, append_assoc, ℕ, List, [], ◌∷◌, ◌++◌, Option, Result, Ok, Err}
use Rattle.std.specs.declared.alloc.AllocError.{AllocError}
use Rattle.ui_machine.specs.declared.arm.Halt.{Halt}
use Rattle.ui_machine.specs.declared.arm.Halt.TheVariants as halts
use Rattle.ui_machine.specs.Definition.Values.{Value}
use Rattle.ui_machine.specs.Instructions.{in_front}
use Rattle.ui_machine.specs.Instructions.Properties.{then_goes_on}
use Rattle.ui_machine.specs.Instructions.Registers.{goes_on, with_register, written_to}
use Rattle.ui_machine.specs.Outcome.{Answer, Stops, ◌>>=◌}
use Rattle.ui_machine.specs.State.Config.{Config, Started, World}
use Rattle.ui_machine.specs.State.Tasks.{Frame, Registers, Running, Task}
use Rattle.ui_machine.specs.Steps.{left, uncounted}
use Rattle.engine_world.specs.Able.{Able, Leads}

-- what stops is stuck where another answer is
pub stops_as : {A : Type 0} (halt : Halt) (a b : Answer A) → a ≡ b → Stops halt b → Stops halt a
stops_as {A} halt a b is s = subst (λ (x : Answer A). Stops halt x) (sym is) s

module _ (n : ℕ) (rest : List Task) where
  -- a program that goes on behind what it starts
  pub started_left : (a : Answer Started) (w : World) (ts : List Task) (f : Frame) (world' : World) (agenda' : List Task) (counted' : ℕ) → a ≡ goes_on w ts f
      → world' ≡ w → agenda' ≡ ts ++ Running f ∷ rest → counted' ≡ n → left n (in_front rest a) ≡ Ok (record { world = world'; agenda = agenda'; counted = counted' })
  unfolding left in_front
  started_left a w ts f world' agenda' counted' is world agenda count =
      ap (λ (x : Answer Started). left n (in_front rest x)) is
      ∙ ap (λ (l : List Task). Ok (record { world = w; agenda = l; counted = n })) (append_assoc ts (Running f ∷ []) rest)
      ∙ rw (world, agenda, count) refl

  -- a step that starts something before the program goes on
  pub leads_then : {X : Type 0} (result : Result X AllocError) (f : Frame) (a : Answer Started) (new : Config)
      → Leads result (uncounted (Running f ∷ rest) n a) new → Leads result (left n (in_front rest (then_goes_on f a))) new
  unfolding left in_front then_goes_on
  leads_then {X} (Ok x) f (Ok s) new leads = ap (λ (l : List Task). Ok (record { world = s.world; agenda = l; counted = n })) (append_assoc s.tasks (Running f ∷ []) rest) ∙ leads
  leads_then {X} (Ok x) f (Err arm) new leads = absurd (cc leads)
  leads_then {X} (Err error) f a new leads = tt

  -- ** a register that is written in one world, and in another

  module _ (to : ℕ) (v : Option Value) (f : Frame) where
    abbrev writes : World → Answer Registers → Answer Config
    writes u rs = left n (in_front rest (rs >>= λ r. goes_on u [] (record f { registers = r })))

    pub written_elsewhere : (w u : World) (mid : Config) → left n (in_front rest (written_to w to v f)) ≡ Ok mid
        → (mid.world ≡ w) × (left n (in_front rest (written_to u to v f)) ≡ Ok (record mid { world = u }))
    unfolding left in_front written_to
    written_elsewhere w u mid is = by (with_register to v f.registers) is
      where
        by : (rs : Answer Registers) → writes w rs ≡ Ok mid → (mid.world ≡ w) × (writes u rs ≡ Ok (record mid { world = u }))
        by (Err arm) e = absurd (cc e)
        by (Ok r) e =
            let same : record { world = w; agenda = Running (record f { registers = r }) ∷ rest; counted = n } ≡ mid = cc e in
            (ap (λ (c : Config). c.world) (sym same), ap (λ (c : Config). Ok (record c { world = u })) same)

    pub stops_elsewhere : (w u : World) (halt : Halt) → Stops halt (left n (in_front rest (written_to w to v f))) → Stops halt (left n (in_front rest (written_to u to v f)))
    unfolding left in_front written_to
    stops_elsewhere w u halts.OutOfMemory s = tt
    stops_elsewhere w u (halts.Stuck arm) s = by (with_register to v f.registers) s
      where
        by : (rs : Answer Registers) → writes w rs ≡ Err arm → writes u rs ≡ Err arm
        by (Err other) e = e
        by (Ok r) e = absurd (cc e)

    -- whether an arm stops it does not depend on the world
    pub written_able_elsewhere : (w u : World) → Able (left n (in_front rest (written_to w to v f))) → Able (left n (in_front rest (written_to u to v f)))
    unfolding left in_front written_to
    written_able_elsewhere w u able = by (with_register to v f.registers) able
      where
        by : (rs : Answer Registers) → Able (writes w rs) → Able (writes u rs)
        by (Err arm) able = able
        by (Ok r) able = tt

-- what starts in one place starts in another that is the same
pub same_left : (n m : ℕ) (rest tasks : List Task) (a b : Answer Started) → a ≡ b → tasks ≡ rest → m ≡ n → left n (in_front rest a) ≡ left m (in_front tasks b)
same_left n m rest tasks a b same agenda count =
    ap (λ (x : Answer Started). left n (in_front rest x)) same ∙ ap (λ (ts : List Task). left n (in_front ts b)) (sym agenda) ∙ ap (λ (k : ℕ). left k (in_front tasks b)) (sym count)

-- and leads to the same
pub leads_as : {S X : Type 0} (result : Result X AllocError) (new : S) {a b : Answer S} → a ≡ b → Leads result b new → Leads result a new
leads_as {S} {X} result new same leads = subst (λ (x : Answer S). Leads result x new) (sym same) leads
