-- Frames that come and go among the tasks of a stack.
use Rattle.std.proofs.Common.{◌≡◌, ◌∙◌, ℕ, List, [], ◌∷◌, ◌++◌, Option, None, Some, map, option_map, append-nil, ap, refl, subst, sym}
use Rattle.std.specs.Option.{option_to_list}
use Rattle.std.proofs.lemmas.List.Concat.{flat_map-append}
use Rattle.ui_machine.specs.Definition.Values as machine
use Rattle.bytecode.specs.Computing.{registers_of}
use Rattle.g_values.specs.View.{value_view}
use Rattle.g_values.specs.declared.value.Value.{Value}
use Rattle.engine_stack.specs.ListedFrames.{Pops, ListedFrame, TakesOff, frames_among, frames_of, given_values, listed, values_kept}
use Rattle.engine_stack.specs.declared.plain_frames.Frame.{Frame}
use Rattle.engine_stack.specs.declared.plain_frames.Frame.TheVariants as frames
use Rattle.engine_stack.specs.declared.stacks.Frames.{Frames}
use Rattle.engine_stack.specs.declared.task.Task.{Task}

-- one task more
among_more : (items : List Task) (t : Task) → frames_among (items ++ t ∷ []) ≡ frames_among items ++ option_to_list (listed t)
among_more items t =
    flat_map-append (λ (t : Task). option_to_list (listed t)) items (t ∷ [])
    ∙ ap (λ (l : List ListedFrame). frames_among items ++ l) (append-nil (option_to_list (listed t)))

-- what that comes to, where it is known what the task is
among_known : (items new : List Task) (t : Task) (o : Option ListedFrame) → new ≡ items ++ t ∷ [] → listed t ≡ o → frames_among new ≡ frames_among items ++ option_to_list o
among_known items new t o is at =
    ap (λ (l : List Task). frames_among l) is ∙ among_more items t ∙ ap (λ (o : Option ListedFrame). frames_among items ++ option_to_list o) at

-- a frame is pushed
pub pushed : (items new : List Task) (t : Task) (s : ListedFrame) → new ≡ items ++ t ∷ [] → listed t ≡ Some s → frames_among new ≡ frames_among items ++ s ∷ []
pushed items new t s is at = among_known items new t (Some s) is at

-- a frame was taken off
pub popped : (old new : Frames) (f : Frame) → TakesOff (Some f) old new → Pops (frames_of old) (frames_of new) f
popped old new f off = by (listed off.task) refl off.is
  where
    by : (o : Option ListedFrame) → listed off.task ≡ o → Some f ≡ option_map (λ s. s.frame) o → Pops (frames_of old) (frames_of new) f
    by None at is = absurd (cc is)
    by (Some s) at is =
        let same : s.frame ≡ f = cc is in
        record {
          values = s.values;
          off =
              among_known new.tasks.items old.tasks.items off.task (Some s) off.was at
              ∙ ap (λ (g : Frame). frames_of new ++ record { frame = g; values = s.values } ∷ []) same;
        }

-- another task was taken off
pub passed : (old new : Frames) → TakesOff None old new → frames_of new ≡ frames_of old
passed old new off = by (listed off.task) refl off.is
  where
    by : (o : Option ListedFrame) → listed off.task ≡ o → None ≡ option_map (λ s. s.frame) o → frames_of new ≡ frames_of old
    by None at is = sym (among_known new.tasks.items old.tasks.items off.task None off.was at ∙ append-nil (frames_of new))
    by (Some s) at is = absurd (cc is)

-- registers that were filled with values
filled_given : (vs : List Value) → registers_of (map (λ v. Some v) vs) ≡ given_values vs
filled_given [] = refl
filled_given (v ∷ vs) = ap (λ (l : List (Option machine.Value)). Some (value_view v) ∷ l) (filled_given vs)

abbrev program_with : ℕ → List (Option machine.Value) → Option ListedFrame
program_with program values = Some (record { frame = frames.Program program; values = values })

-- so a program has the values with which it is pushed
pub program_filled : (frame : Frame) (program : ℕ) (registers : List (Option Value)) (vs : List Value) → frame ≡ frames.Program program → registers ≡ map (λ v. Some v) vs
    → ◌≡◌ {A = Option ListedFrame} (Some (record { frame = frames.Program program; values = registers_of registers }))
    (Some (record { frame = frame; values = values_kept frame (given_values vs) }))
program_filled frame program registers vs is filled =
    subst
    (λ (f : Frame). ◌≡◌ {A = Option ListedFrame} (program_with program (registers_of registers)) (Some (record { frame = f; values = values_kept f (given_values vs) })))
    (sym is)
    (ap (program_with program) (ap (λ (rs : List (Option Value)). registers_of rs) filled ∙ filled_given vs))
