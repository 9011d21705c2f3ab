-- What falls still falls where an emission, a call or a program ends.
use Rattle.std.proofs.Common.{◌≡◌, refl, sym, subst, ℕ, ◌<◌, Bool, true, false, cond, List, [], ◌∷◌, Option, None, Some, Ok, Err}
use Rattle.std.specs.Prelude.{IfOk}
use Rattle.ui_machine.specs.Definition.{Definition}
use Rattle.ui_machine.specs.declared.arm.Arm.TheVariants as arms
use Rattle.ui_machine.specs.Definition.Signals.{Signal}
use Rattle.ui_machine.specs.Definition.Values.{Value}
use Rattle.ui_machine.specs.Instructions.Jumps.{returned, returning}
use Rattle.ui_machine.specs.Instructions.Peers.{called, calling_on, left_with, replied, uncalled, with_method}
use Rattle.ui_machine.specs.Instructions.Registers.{with_register}
use Rattle.ui_machine.specs.Outcome.{Answer, known}
use Rattle.ui_machine.specs.Rules.Accumulation.{collected, collecting, down_to_emission, down_to_source, ending, entries_after, given_down, is_last, left_by_stop, passed_down, received, received_by, resulting, stopped, suits, taken, told}
use Rattle.ui_machine.specs.Rules.EmissionPlan.{signal_at}
use Rattle.ui_machine.specs.Rules.MainLoop.{kept_source}
use Rattle.ui_machine.specs.Rules.Transform.{kind_fits}
use Rattle.ui_machine.specs.State.Config.{is_asked, peer_at}
use Rattle.ui_machine.specs.State.Objects.{class_in, object_at}
use Rattle.ui_machine.specs.State.Peers.{Reply, method_of}
use Rattle.machine_laws.proofs.KeptProofs.{bind_keeps, cond_keeps, kept_at, only_keeps}
use Rattle.ui_machine.specs.State.Config.{World}
use Rattle.ui_machine.specs.State.Tasks.{Answering, Call, Calling, Emission, Emitting, Frame, PlanEntry, Running, Task}
use Rattle.law_typing.specs.Good.Standing.{standing}
use Rattle.law_typing.specs.Graph.Tables.{of_program}
use Rattle.law_typing.specs.Laws.StepsKeepGood.{IsGood}
use Rattle.law_typing.specs.Verdict.Accepted.{Accepted}
use Rattle.law_frames.specs.Frames.{FallsAt, Under}
use Rattle.law_frames.proofs.Leading.{framed}
use Rattle.law_frames.proofs.Ends.{both_gone, each_left, emission_goes_on, frame_goes_on, program_goes_on}
use Rattle.law_frames.proofs.Tasks.{LeadsLeft, Nothing, none_left}

-- the program below goes on
abbrev pub GoesRunning : Frame → List Task → List Task → Type 0
GoesRunning h rest agenda = (next : Frame) × (agenda ≡ Running next ∷ rest) × (next.program ≡ h.program)

receives : (h : Frame) (rest : List Task) (to : ℕ) (v : Option Value) → IfOk (received_by h rest to v) (GoesRunning h rest)
unfolding received_by
receives h rest to v = bind_keeps (with_register to v h.registers) _ _ (λ r _. (record h { into = None; registers = r }, refl, refl))

takes : (into : Option ℕ) (h : Frame) (rest : List Task) (v : Option Value) → IfOk (taken into h rest v) (GoesRunning h rest)
takes None h rest v = (h, refl, refl)
takes (Some to) h rest None = tt
takes (Some to) h rest (Some v) = receives h rest to (Some v)

module _ (d : Definition) (a : Accepted d) (most_counted : ℕ) (w : World) where
  -- ** emissions

  module _ (e : Emission) (n : ℕ) where
    abbrev GoodOn : List Task → Type 0
    GoodOn rest = IsGood d a most_counted (record { world = w; agenda = Emitting e [] ∷ rest; counted = n })

    abbrev FallsOn : List Task → Type 0
    FallsOn rest = FallsAt d a.weighed.depths (record { world = w; agenda = Emitting e [] ∷ rest; counted = n })

    passes : (rest : List Task) (g : GoodOn rest) (f : FallsOn rest) (v : Option Value) (u : World) → IfOk (passed_down rest v) (λ agenda. LeadsLeft d a most_counted w (Emitting e []) rest n g f Nothing n (record { world = u; agenda = agenda }))
    passes (Running h ∷ rest) g f v u = go (taken h.into h rest v) (takes h.into h rest v)
      where
        go : (x : Answer (List Task)) → IfOk x (GoesRunning h rest) → IfOk x (λ agenda. LeadsLeft d a most_counted w (Emitting e []) (Running h ∷ rest) n g f Nothing n (record { world = u; agenda = agenda }))
        go (Ok agenda) x =
            subst (λ agenda. LeadsLeft d a most_counted w (Emitting e []) (Running h ∷ rest) n g f Nothing n (record { world = u; agenda = agenda })) (sym x.1)
            (frame_goes_on d a most_counted w (Emitting e []) h rest n g f u x.0 n x.2)
        go (Err arm) x = tt
    passes rest g f v u = none_left d a most_counted w (Emitting e []) rest n g f Nothing u n (λ id slot none. none)

    pub ends : (rest : List Task) (g : GoodOn rest) (f : FallsOn rest) → IfOk (ending d w e rest) (LeadsLeft d a most_counted w (Emitting e []) rest n g f Nothing n)
    unfolding ending
    ends rest g f = bind_keeps (resulting d w e) _ _ (λ v _. bind_keeps (passed_down rest v) _ _ (λ agenda is.
        kept_at (λ (agenda : List Task). LeadsLeft d a most_counted w (Emitting e []) rest n g f Nothing n (record { world = told d w e.by_event v; agenda = agenda })) (passed_down rest v) agenda (passes rest g f v (told d w e.by_event v)) is))

  -- ** calls

  module _ (call : Call) (n : ℕ) where
    abbrev GoodUnder : List Task → Type 0
    GoodUnder rest = IsGood d a most_counted (record { world = w; agenda = Calling call ∷ rest; counted = n })

    abbrev FallsUnder : List Task → Type 0
    FallsUnder rest = FallsAt d a.weighed.depths (record { world = w; agenda = Calling call ∷ rest; counted = n })

    left_one : (rest : List Task) (g : GoodUnder rest) (f : FallsUnder rest) (u : World) (to : ℕ) (x : Value) → IfOk (left_with u rest to x) (LeadsLeft d a most_counted w (Calling call) rest n g f Nothing n)
    unfolding left_with
    left_one rest g f u to x = bind_keeps (received rest to (Some x)) _ _ (λ agenda is.
        kept_at (λ (agenda : List Task). LeadsLeft d a most_counted w (Calling call) rest n g f Nothing n (record { world = u; agenda = agenda })) (received rest to (Some x)) agenda (by rest g f) is)
      where
        by : (rest : List Task) (g : GoodUnder rest) (f : FallsUnder rest) → IfOk (received rest to (Some x)) (λ agenda. LeadsLeft d a most_counted w (Calling call) rest n g f Nothing n (record { world = u; agenda = agenda }))
        by (Running h ∷ rest) g f = go (received_by h rest to (Some x)) (receives h rest to (Some x))
          where
            go : (y : Answer (List Task)) → IfOk y (GoesRunning h rest) → IfOk y (λ agenda. LeadsLeft d a most_counted w (Calling call) (Running h ∷ rest) n g f Nothing n (record { world = u; agenda = agenda }))
            go (Ok agenda) y =
                subst (λ agenda. LeadsLeft d a most_counted w (Calling call) (Running h ∷ rest) n g f Nothing n (record { world = u; agenda = agenda })) (sym y.1)
                (frame_goes_on d a most_counted w (Calling call) h rest n g f u y.0 n y.2)
            go (Err arm) y = tt
        by _ g f = tt

    is_called : (rest : List Task) (g : GoodUnder rest) (f : FallsUnder rest) (reply : Reply) → IfOk (called d w call rest reply) (LeadsLeft d a most_counted w (Calling call) rest n g f Nothing n)
    unfolding called with_method
    is_called rest g f reply = bind_keeps (known arms.Call (peer_at w call.peer)) _ _ (λ p _. bind_keeps (known arms.Call (method_of p call.method)) _ _ (λ m _. left_one rest g f _ call.to _))

    is_uncalled : (rest : List Task) (g : GoodUnder rest) (f : FallsUnder rest) → IfOk (uncalled d w call rest) (LeadsLeft d a most_counted w (Calling call) rest n g f Nothing n)
    unfolding uncalled with_method
    is_uncalled rest g f = bind_keeps (known arms.Call (peer_at w call.peer)) _ _ (λ p _. bind_keeps (known arms.Call (method_of p call.method)) _ _ (λ m _. left_one rest g f _ call.to _))

    is_replied : (rest : List Task) (g : GoodUnder rest) (f : FallsUnder rest) (reply : Option Reply) → IfOk (replied d w call rest reply) (LeadsLeft d a most_counted w (Calling call) rest n g f Nothing n)
    is_replied rest g f None = tt
    is_replied rest g f (Some reply) = is_called rest g f reply

    pub calls : (rest : List Task) (g : GoodUnder rest) (f : FallsUnder rest) (reply : Option Reply) → IfOk (calling_on d w call rest reply) (LeadsLeft d a most_counted w (Calling call) rest n g f Nothing n)
    calls rest g f reply = cond_keeps (is_asked w call.peer) (replied d w call rest reply) (uncalled d w call rest) _ (is_replied rest g f reply) (is_uncalled rest g f)

  -- ** programs

  module _ (h : Frame) (n : ℕ) where
    abbrev GoodIn : List Task → Type 0
    GoodIn rest = IsGood d a most_counted (record { world = w; agenda = Running h ∷ rest; counted = n })

    abbrev FallsIn : List Task → Type 0
    FallsIn rest = FallsAt d a.weighed.depths (record { world = w; agenda = Running h ∷ rest; counted = n })

    pub stops : (next : Frame) (k : ℕ) → next.program ≡ h.program → (rest : List Task) (g : GoodIn rest) (f : FallsIn rest) → LeadsLeft d a most_counted w (Running h) rest n g f Nothing k (record { world = w; agenda = Running next ∷ stopped rest })
    stops next k same (Emitting e turns ∷ rest) g f =
        program_goes_on d a most_counted w h e turns rest n g f e (left_by_stop e turns) refl refl refl (λ P all. each_left P e turns all) next k same
    stops next k same rest g f = stays rest g f next k same
      where
        stays : (rest : List Task) (g : GoodIn rest) (f : FallsIn rest) (next : Frame) (k : ℕ) → next.program ≡ h.program → LeadsLeft d a most_counted w (Running h) rest n g f Nothing k (record { world = w; agenda = Running next ∷ rest })
        stays rest g f next k same =
            framed d a most_counted w (Running h) rest n g f Nothing w [] (Running next) k
            (λ good goes at falls. subst (λ p. Under d a.weighed.depths (standing w.objects) (of_program a.weighed.depths p) rest) (sym same) f.agenda.0)
            (λ good goes at falls. falls)
            (λ good goes at m u. subst (λ p. m < of_program a.weighed.depths p) (sym same) u)
            (λ id slot o is there. refl)
            (λ good goes falls id slot o is there none. absurd none)

    module _ (k : ℕ) where
      collects : (e : Emission) (turns : List PlanEntry) (rest : List Task) (g : GoodIn (Emitting e turns ∷ rest)) (f : FallsIn (Emitting e turns ∷ rest)) (given : Option Value) →
          IfOk (collecting d w e turns given) (λ t. LeadsLeft d a most_counted w (Running h) (Emitting e turns ∷ rest) n g f Nothing k (record { world = w; agenda = t ∷ rest }))
      unfolding collecting
      collects e turns rest g f given = bind_keeps (object_at w.objects e.object) _ _ (λ o _. bind_keeps (signal_at d o.class e.signal) _ _ (λ s _.
          only_keeps (suits (kind_fits (class_in w.objects) d.types) given s.result) arms.Result _ _ (by s given)))
        where
          plainly : LeadsLeft d a most_counted w (Running h) (Emitting e turns ∷ rest) n g f Nothing k (record { world = w; agenda = Emitting e turns ∷ rest })
          plainly = emission_goes_on d a most_counted w h e turns rest n g f e turns refl refl refl (λ P all. all) k

          after : (v : Value) (b : Bool) → LeadsLeft d a most_counted w (Running h) (Emitting e turns ∷ rest) n g f Nothing k (record { world = w; agenda = Emitting (record e { value = Some v }) (entries_after b e turns) ∷ rest })
          after v true = emission_goes_on d a most_counted w h e turns rest n g f (record e { value = Some v }) (left_by_stop e turns) refl refl refl (λ P all. each_left P e turns all) k
          after v false = emission_goes_on d a most_counted w h e turns rest n g f (record e { value = Some v }) turns refl refl refl (λ P all. all) k

          by : (s : Signal) (given : Option Value) → LeadsLeft d a most_counted w (Running h) (Emitting e turns ∷ rest) n g f Nothing k (record { world = w; agenda = collected s e turns given ∷ rest })
          by s None = plainly
          by s (Some v) = cleaned e.cleanup
            where
              cleaned : (b : Bool) → LeadsLeft d a most_counted w (Running h) (Emitting e turns ∷ rest) n g f Nothing k
                  (record { world = w; agenda = cond b (Emitting e turns) (Emitting (record e { value = Some v }) (entries_after (is_last s.accumulator v) e turns)) ∷ rest })
              cleaned true = plainly
              cleaned false = after v (is_last s.accumulator v)

      comes_down : (rest : List Task) (g : GoodIn rest) (f : FallsIn rest) (given : Option Value) → IfOk (given_down d w rest given) (LeadsLeft d a most_counted w (Running h) rest n g f Nothing k)
      unfolding down_to_emission down_to_source
      comes_down (Emitting e turns ∷ rest) g f given = bind_keeps (collecting d w e turns given) _ _ (λ t is.
          kept_at (λ (t : Task). LeadsLeft d a most_counted w (Running h) (Emitting e turns ∷ rest) n g f Nothing k (record { world = w; agenda = t ∷ rest })) (collecting d w e turns given) t (collects e turns rest g f given) is)
      comes_down (Answering source ∷ rest) g f given = bind_keeps (kept_source w source given) _ _ (λ kept _. both_gone d a most_counted w (Running h) (Answering source) rest n g f kept k)
      comes_down rest g f None = none_left d a most_counted w (Running h) rest n g f Nothing w k (λ id slot none. none)
      comes_down rest g f (Some v) = tt

      pub returns : (next : Frame) (rest : List Task) (g : GoodIn rest) (f : FallsIn rest) (from : Option ℕ) → IfOk (returning d w next rest from) (LeadsLeft d a most_counted w (Running h) rest n g f Nothing k)
      unfolding returning
      returns next rest g f from = bind_keeps (returned d w next from) _ _ (λ given _. comes_down rest g f given)
