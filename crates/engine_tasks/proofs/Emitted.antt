-- How emissions begin and end, by the class of the object that emits.
use Rattle.std.proofs.Common.{◌≡◌, ℕ, Bool, true, false, List, [], ◌∷◌, Option, Some, None, option_map, Ok, Err, refl, sym, ap, ◌∙◌}
use Rattle.ui_machine.specs.declared.arm.Arm.{Arm}
use Rattle.ui_machine.specs.declared.arm.Arm.TheVariants as arms
use Rattle.ui_machine.specs.Definition.{Definition}
use Rattle.ui_machine.specs.Definition.Signals.{Signal}
use Rattle.ui_machine.specs.Definition.Values.{Value}
use Rattle.ui_machine.specs.Outcome.{Answer, known, only_if, ◌>>=◌}
use Rattle.ui_machine.specs.Output.Lines as lines
use Rattle.ui_machine.specs.Rules.Accumulation.{ending, passed_down, result_of, resulting, told}
use Rattle.ui_machine.specs.Definition.Lookups.{spec_of}
use Rattle.ui_machine.specs.Definition.Properties.{Spec}
use Rattle.ui_machine.specs.Rules.EmissionPlan.{beginning_emission, emission_plan, notification, notifying, signal_at, signal_of}
use Rattle.ui_machine.specs.State.Bindings.{transfers}
use Rattle.bindings.specs.declared.due.DueTransfer.{DueTransfer}
use Rattle.ui_machine.specs.Rules.Programs.{all_fit}
use Rattle.ui_machine.specs.Rules.Transform.{kind_fits}
use Rattle.ui_machine.specs.State.Config.{Started, World, leaves, said, starts}
use Rattle.ui_machine.specs.State.Objects.{Object, asked, class_in, living}
use Rattle.ui_machine.specs.State.Tasks.{Emission, Emitting, PlanEntry, Task}
use Rattle.definition_format.specs.Meaning.{planned}
use Rattle.signal_core.specs.Connected.{Numbered}
use Rattle.signal_core.specs.Emission.{Walk, is_over, to_come}
use Rattle.signal_core.specs.declared.stage.Stage.{Stage}
use Rattle.signal_core.specs.Laws.{walk_for}
use Rattle.engine_stack.specs.TaskView.{emission_of, entries_to_come, new_of}
use Rattle.engine_stack.specs.TransferView.{entries_due_of}
use Rattle.engine_stack.specs.declared.task.Transfers.TheVariants as at
use Rattle.engine_world.proofs.SameTurns.{entries}
use Rattle.engine_stack.specs.declared.task.NewEmission.{NewEmission}
use Rattle.engine_world.proofs.Notified.{begun}
use Rattle.engine_tasks.proofs.EmissionTurns.{entries_planned}
use Rattle.g_values.specs.declared.value.Value as code
use Rattle.engine_world.specs.Able.{Able}
use Rattle.engine_world.proofs.Ableness.{able_as, first, tested}
use Rattle.ui_machine.specs.Steps.{act, left}

-- ** the beginning

module _ (d : Definition) (w : World) (e : Emission) where
  begin : ℕ → Signal → Answer Started
  begin class s =
      only_if (all_fit (kind_fits (class_in w.objects) d.types) e.args s.params) arms.Argument
      (starts (said d w (lines.emit e.object s.name e.detail e.args)) (Emitting e (emission_plan d w s class e) ∷ []))

  begin_on : ℕ → Answer Started
  begin_on class = signal_at d class e.signal >>= begin class

  begin_by : (r : Answer ℕ) → asked w.objects e.object (λ o. Ok o.class) ≡ r → beginning_emission d w e ≡ (r >>= begin_on)
  unfolding asked beginning_emission begin begin_on
  begin_by r h = by (living w.objects e.object) ∙ ap (λ (a : Answer ℕ). a >>= begin_on) h
    where
      by : (o : Option Object) → (known arms.Operand o >>= λ x. begin_on x.class) ≡ ((known arms.Operand o >>= λ x. Ok x.class) >>= begin_on)
      by None = refl
      by (Some x) = refl

  pub begin_unheard : (arm : Arm) → asked w.objects e.object (λ o. Ok o.class) ≡ Err arm → beginning_emission d w e ≡ Err arm
  begin_unheard arm h = begin_by (Err arm) h

  module _ (class : ℕ) (of : asked w.objects e.object (λ o. Ok o.class) ≡ Ok class) where
    pub begin_unknown : signal_of d class e.signal ≡ None → beginning_emission d w e ≡ Err arms.Code
    unfolding begin_on signal_at
    begin_unknown none = begin_by (Ok class) of ∙ ap (λ (s : Option Signal). known arms.Code s >>= begin class) none

    -- where no arm stops it, its arguments fit
    pub begin_fit : (s : Signal) → signal_of d class e.signal ≡ Some s → Able (beginning_emission d w e) → all_fit (kind_fits (class_in w.objects) d.types) e.args s.params ≡ true
    unfolding begin_on signal_at begin
    begin_fit s some able =
        tested (all_fit (kind_fits (class_in w.objects) d.types) e.args s.params) arms.Argument
        (starts (said d w (lines.emit e.object s.name e.detail e.args)) (Emitting e (emission_plan d w s class e) ∷ []))
        (able_as (begin_by (Ok class) of ∙ ap (λ (s : Option Signal). known arms.Code s >>= begin class) some) able)

    pub begin_known : (s : Signal) → signal_of d class e.signal ≡ Some s → all_fit (kind_fits (class_in w.objects) d.types) e.args s.params ≡ true
        → beginning_emission d w e ≡ starts (said d w (lines.emit e.object s.name e.detail e.args)) (Emitting e (emission_plan d w s class e) ∷ [])
    unfolding begin_on signal_at begin
    begin_known s some fit =
        begin_by (Ok class) of ∙ ap (λ (s : Option Signal). known arms.Code s >>= begin class) some
        ∙ ap (λ (b : Bool). only_if b arms.Argument (starts (said d w (lines.emit e.object s.name e.detail e.args)) (Emitting e (emission_plan d w s class e) ∷ []))) fit

-- what begins of a signal that is there is the walk of its plan
pub begun_as : {A : Type 0} (f : A → Walk) (g : Signal → Walk) (a : A) (found : Option Signal) (s : Signal) → option_map f (Some a) ≡ option_map g found → found ≡ Some s → f a ≡ g s
begun_as f g a found s is some = let same : Some (f a) ≡ Some (g s) = is ∙ ap (option_map g) some in cc same

-- nothing begins of one that is not
pub begun_none : {A : Type 0} (f : A → Walk) (g : Signal → Walk) (found : Option Signal) → option_map f None ≡ option_map g found → found ≡ None
begun_none f g None is = refl
begun_none f g (Some s) is = cc is

pub begun_some : {A : Type 0} (f : A → Walk) (g : Signal → Walk) (a : A) (found : Option Signal) → option_map f (Some a) ≡ option_map g found → (s : Signal) × (found ≡ Some s)
begun_some f g a None is = cc is
begun_some f g a (Some s) is = (s, refl)

-- ** the end

module _ (d : Definition) (w : World) (e : Emission) (rest : List Task) where
  gives : ℕ → Answer (Option Value)
  gives class = signal_at d class e.signal >>= λ s. Ok (result_of d s.result e.value)

  result_by : (r : Answer ℕ) → asked w.objects e.object (λ o. Ok o.class) ≡ r → resulting d w e ≡ (r >>= gives)
  unfolding asked resulting gives
  result_by r h = by (living w.objects e.object) ∙ ap (λ (a : Answer ℕ). a >>= gives) h
    where
      by : (o : Option Object) → (known arms.Operand o >>= λ x. gives x.class) ≡ ((known arms.Operand o >>= λ x. Ok x.class) >>= gives)
      by None = refl
      by (Some x) = refl

  ends_by : (a : Answer (Option Value)) → resulting d w e ≡ a → ending d w e rest ≡ (a >>= λ v. passed_down rest v >>= λ agenda. leaves (told d w e.by_event v) agenda)
  unfolding ending
  ends_by a h = ap (λ (a : Answer (Option Value)). a >>= λ v. passed_down rest v >>= λ agenda. leaves (told d w e.by_event v) agenda) h

  pub end_unheard : (arm : Arm) → asked w.objects e.object (λ o. Ok o.class) ≡ Err arm → ending d w e rest ≡ Err arm
  end_unheard arm h = ends_by (Err arm) (result_by (Err arm) h)

  module _ (class : ℕ) (of : asked w.objects e.object (λ o. Ok o.class) ≡ Ok class) where
    pub end_unknown : signal_of d class e.signal ≡ None → ending d w e rest ≡ Err arms.Code
    unfolding signal_at gives
    end_unknown none = ends_by (Err arms.Code) (result_by (Ok class) of ∙ ap (λ (s : Option Signal). known arms.Code s >>= λ s. Ok (result_of d s.result e.value)) none)

    ends_known : (s : Signal) → signal_of d class e.signal ≡ Some s → (v : Option Value) → v ≡ result_of d s.result e.value
        → ending d w e rest ≡ (passed_down rest v >>= λ agenda. leaves (told d w e.by_event v) agenda)
    unfolding signal_at gives
    ends_known s some v is =
        ends_by (Ok v) (result_by (Ok class) of ∙ ap (λ (s : Option Signal). known arms.Code s >>= λ s. Ok (result_of d s.result e.value)) some ∙ ap (λ (x : Option Value). Ok x) (sym is))

    pub end_known : (s : Signal) → signal_of d class e.signal ≡ Some s → (v : Option Value) → v ≡ result_of d s.result e.value → (agenda : List Task) → passed_down rest v ≡ Ok agenda
        → ending d w e rest ≡ leaves (told d w e.by_event v) agenda
    end_known s some v is agenda passes = ends_known s some v is ∙ ap (λ (a : Answer (List Task)). a >>= λ agenda. leaves (told d w e.by_event v) agenda) passes

    -- where no arm stops it, none stops that its result is passed down
    pub able_to_pass : (s : Signal) → signal_of d class e.signal ≡ Some s → (v : Option Value) → v ≡ result_of d s.result e.value → Able (ending d w e rest) → Able (passed_down rest v)
    able_to_pass s some v is able = first (passed_down rest v) (λ agenda. leaves (told d w e.by_event v) agenda) (able_as (ends_known s some v is) able)

-- how far it has come makes no difference to its end
pub end_alike : (d : Definition) (w : World) (e : Emission) (b : Bool) (rest : List Task) → ending d w (record e { cleanup = b }) rest ≡ ending d w e rest
unfolding ending resulting
end_alike d w e b rest = refl

-- ** what the engine puts before the other tasks

-- a notification that begins
pub notifying_starts : (d : Definition) (w : World) → Numbered 0 w.handlers w.last_handler → (id slot class : ℕ) (due : List DueTransfer) → entries_due_of due ≡ transfers id slot w.bindings → asked w.objects id (λ o. Ok o.class) ≡ Ok class
    → (p : Spec) → spec_of d class slot ≡ Some p → (s : Signal) → signal_of d class 0 ≡ Some s
    → (walk : Walk) → walk ≡ walk_for w.last_handler s.accumulator (planned d class id 0 (Some p.name) s)
    → notifying d w id slot ≡ starts (said d w (lines.notify id p.name)) (Emitting (emission_of walk [] false) (entries_to_come walk w.handlers (at.Ahead due)) ∷ [])
notifying_starts d w rises id slot class due takes of p some s declared walk is =
    let full = record (planned d class id 0 (Some p.name) s) { transfers = transfers id slot w.bindings } in
    let plain = walk_for w.last_handler s.accumulator full in
    begun d w id slot class of p some s declared
    ∙ ap (λ (all : List PlanEntry). starts (said d w (lines.notify id p.name)) (Emitting (notification id p.name) all ∷ [])) (sym (entries_planned w s.accumulator full rises (λ other. cc other)))
    ∙ ap (λ (of : List PlanEntry). starts (said d w (lines.notify id p.name)) (Emitting (notification id p.name) (entries of (to_come plain w.handlers)) ∷ [])) (sym takes)
    ∙ ap (λ (v : Walk). starts (said d w (lines.notify id p.name)) (Emitting (emission_of v [] false) (entries_to_come v w.handlers (at.Ahead due)) ∷ [])) (sym is)

-- another emission that begins
pub beginning_starts : (d : Definition) (w : World) → Numbered 0 w.handlers w.last_handler → (e : NewEmission) (class : ℕ) → asked w.objects e.object.0 (λ o. Ok o.class) ≡ Ok class
    → (s : Signal) → signal_of d class e.signal ≡ Some s → all_fit (kind_fits (class_in w.objects) d.types) (new_of e).args s.params ≡ true
    → (walk : Walk) → walk ≡ walk_for w.last_handler s.accumulator (planned d class e.object.0 e.signal (new_of e).detail s)
    → beginning_emission d w (new_of e)
    ≡ starts (said d w (lines.emit e.object.0 s.name (new_of e).detail (new_of e).args)) (Emitting (emission_of walk e.args.items e.by_event) (entries_to_come walk w.handlers (at.Due [])) ∷ [])
beginning_starts d w rises e class of s declared fit walk is =
    let plain = planned d class e.object.0 e.signal (new_of e).detail s in
    let line = lines.emit e.object.0 s.name (new_of e).detail (new_of e).args in
    begin_known d w (new_of e) class of s declared fit
    ∙ ap (λ (entries : List PlanEntry). starts (said d w line) (Emitting (new_of e) entries ∷ [])) (sym (entries_planned w s.accumulator plain rises (λ _. refl)))
    ∙ ap (λ (v : Walk). starts (said d w line) (Emitting (emission_of v e.args.items e.by_event) (entries_to_come v w.handlers (at.Due [])) ∷ [])) (sym is)

-- an emission without a turn ends, wherever it is
pub ends_on : (d : Definition) (v : World) (rest : List Task) (n : ℕ) (w u : Walk) (args : List code.Value) (by_event : Bool) (stage : Stage) → u ≡ record w { stage = stage }
    → (all : List PlanEntry) → all ≡ [] → act d v None (Emitting (emission_of w args by_event) all ∷ rest) n ≡ left n (ending d v (emission_of u args by_event) rest)
ends_on d v rest n w u args by_event stage is all none =
    ap (λ (es : List PlanEntry). act d v None (Emitting (emission_of w args by_event) es ∷ rest) n) none
    ∙ sym (ap (left n) (ap (λ (x : Walk). ending d v (emission_of x args by_event) rest) is ∙ end_alike d v (emission_of w args by_event) (is_over stage) rest))
