-- What falls still falls where a set is due.
use Rattle.std.proofs.Common.{◌≡◌, inr, refl, sym, subst, ◌∙◌, ℕ, Bool, true, false, cond, List, [], ◌∷◌, ◌++◌, Some, arith}
use Rattle.std.specs.Prelude.{IfOk, ◌&&◌, ◌||◌}
use Rattle.ui_machine.specs.declared.arm.Arm.TheVariants as arms
use Rattle.ui_machine.specs.Seq.{total}
use Rattle.ui_machine.specs.Definition.{Definition}
use Rattle.ui_machine.specs.Definition.Properties.{Spec, is_lax}
use Rattle.ui_machine.specs.Definition.Values.{Value}
use Rattle.ui_machine.specs.Output.Lines as lines
use Rattle.ui_machine.specs.Rules.NotifyQueue.{raised}
use Rattle.ui_machine.specs.Rules.Sets.{has_kind, lives, notifies, raising, raising_if, setting, settled, spec_at, without_disposed, written}
use Rattle.ui_machine.specs.Rules.Transform.{same_value}
use Rattle.ui_machine.specs.Rules.Validation.{clamp}
use Rattle.ui_machine.specs.State.Config.{World, Config, said, starts, with_objects}
use Rattle.ui_machine.specs.State.Objects.{Object, changed, class_in, living, with_value}
use Rattle.ui_machine.specs.State.Tasks.{Task, Notifying, Setting}
use Rattle.machine_laws.proofs.KeptProofs.{bind_keeps, cond_keeps, only_keeps}
use Rattle.law_typing.specs.Good.Freezes.{frozen_by}
use Rattle.law_typing.specs.Good.Standing.{standing}
use Rattle.law_typing.specs.Graph.{graph}
use Rattle.law_typing.specs.Graph.Channels.{property}
use Rattle.law_typing.specs.Graph.Depths.{depth}
use Rattle.law_typing.specs.Graph.Tables.{Tables, entry}
use Rattle.law_typing.specs.Laws.{IsIn}
use Rattle.law_typing.specs.Laws.StepsKeepGood.{IsGood}
use Rattle.law_typing.specs.Verdict.Accepted.{Accepted}
use Rattle.law_steps.proofs.Kept.NewProofs.{at_place}
use Rattle.law_frames.specs.Frames.{DueFalls, Falls, FallsAt, IsHeld, height}
use Rattle.law_frames.proofs.Going.{GoesOn}
use Rattle.law_frames.proofs.Leading.{Leads, frozen_somewhere, held_where_due, plain}
use Rattle.law_frames.proofs.Staying.{SameAt, apart_stays, same_at, same_place, under_stays}
use Rattle.law_frames.proofs.Tasks.{LeadsStarted}

-- this property alone is left out
abbrev pub Only : (id slot : ℕ) → ℕ → ℕ → Type 0
Only id slot i s = (i ≡ id) × (s ≡ slot)

module _ (d : Definition) (a : Accepted d) (most_counted : ℕ) (w : World) (id slot : ℕ) (x : Value) (rest : List Task) (n : ℕ)
    (g : IsGood d a most_counted (record { world = w; agenda = Setting id slot x ∷ rest; counted = n })) (f : FallsAt d a.weighed.depths (record { world = w; agenda = Setting id slot x ∷ rest; counted = n })) where
  abbrev depths : Tables
  depths = a.weighed.depths

  due : DueFalls d depths (standing w.objects) rest id slot
  due = f.agenda.0

  abbrev Leading : Config → Type 0
  Leading = Leads d a most_counted w (Setting id slot x) rest n g f (Only id slot)

  -- what waits there is held
  held : (v : World) (k : ℕ) (agenda : List Task) → IsGood d a most_counted (record { world = v; agenda = agenda; counted = k }) → ((i : ℕ) → total (frozen_by d i) agenda ≡ total (frozen_by d i) rest) →
      GoesOn (Only id slot) w v → SameAt (standing w.objects) (standing v.objects) rest → Falls d depths (standing v.objects) v.handlers rest →
      (i s : ℕ) (o : Object) → living v.objects i ≡ Some o → IsIn s o.queue → Only id slot i s → IsHeld d depths (standing v.objects) i (entry depths.channels (property o.place s)) rest
  held v k agenda good same_frozen goes same falls i s o is there but =
      let was = at_place w.objects id due.place due.is in
      let here : living v.objects id ≡ Some o = subst (λ i. living v.objects i ≡ Some o) but.0 is in
      let place : o.place ≡ due.place = goes.places id was.0 o was.1 here ∙ was.2 in
      let all = frozen_somewhere d depths (depth (graph d) depths) agenda k v good.queues i s o is there in
      let some = same_frozen i in
      let at = held_where_due d depths (standing v.objects) v.handlers i (property due.place slot) rest
      (under_stays d depths (standing w.objects) (standing v.objects) (height d depths rest (property due.place slot)) rest same due.under) falls (omega (arith, all, some)) in
      subst (λ p. IsHeld d depths (standing v.objects) i (entry depths.channels (property p s)) rest) (sym place)
      (subst (λ s. IsHeld d depths (standing v.objects) i (entry depths.channels (property due.place s)) rest) (sym but.1) at)

  pub leads_nothing : (v : World) → Leading (record { world = v; agenda = rest; counted = n })
  leads_nothing v =
      plain d a most_counted w (Setting id slot x) rest n g f (Only id slot) v [] n (λ good goes same falls. falls) (λ id. refl)
      (λ good goes falls i s o is there but.
      held v n rest good (λ i. refl) goes (same_at d a.weighed.costs depths (depth (graph d) depths) w v goes.places rest _ _ g.agenda.2 good.budget g.agenda.6 good.agenda) falls i s o is there but)

  leads_notifying : (v : World) → Leading (record { world = v; agenda = Notifying id slot ∷ rest; counted = n })
  leads_notifying v =
      plain d a most_counted w (Setting id slot x) rest n g f (Only id slot) v (Notifying id slot ∷ []) n
      (λ good goes same falls. (
        record {
          place = due.place;
          is = same_place w.objects v.objects goes.places id due.place good.agenda.3.1.due.place due.is good.agenda.3.1.due.is ∙ due.is;
          under = under_stays d depths (standing w.objects) (standing v.objects) (height d depths rest (property due.place slot)) rest same due.under;
          apart = apart_stays d depths (standing w.objects) (standing v.objects) (property due.place slot) rest same due.apart;
        },
        falls,
      ))
      (λ id. refl)
      (λ good goes falls i s o is there but.
      inr (held v n (Notifying id slot ∷ rest) good (λ i. omega arith) goes
      (same_at d a.weighed.costs depths (depth (graph d) depths) w v goes.places rest _ _ g.agenda.2 good.agenda.2 g.agenda.6 good.agenda.6) falls i s o is there but))

  raises : (u : World) → IfOk (raising u id slot) (LeadsStarted d a most_counted w (Setting id slot x) rest n g f (Only id slot) n)
  unfolding raising
  raises u = bind_keeps (changed u.objects id (raised slot)) _ _ (λ r at. by (with_objects u r.state) r.answer)
    where
      by : (v : World) (b : Bool) → Leading (record { world = v; agenda = cond b (Notifying id slot ∷ []) [] ++ rest; counted = n })
      by v true = leads_notifying v
      by v false = leads_nothing v

  raises_if : (b : Bool) (u : World) → IfOk (raising_if b u id slot) (LeadsStarted d a most_counted w (Setting id slot x) rest n g f (Only id slot) n)
  raises_if true u = raises u
  raises_if false u = leads_nothing u

  writes : (s : Spec) (v : Value) → IfOk (written d w id slot s v) (LeadsStarted d a most_counted w (Setting id slot x) rest n g f (Only id slot) n)
  unfolding written
  writes s v = bind_keeps (changed w.objects id (with_value slot v)) _ _ (λ r at. raises_if (notifies s r.answer v) (said d (with_objects w r.state) (lines.set id s.name v)))

  settles : (s : Spec) (valid : Value) → IfOk (settled d w id slot s x valid) (LeadsStarted d a most_counted w (Setting id slot x) rest n g f (Only id slot) n)
  settles s valid =
      cond_keeps (same_value valid x || is_lax s) (written d w id slot s (without_disposed w.objects s valid)) (starts (said d w (lines.refused id s.name x)) []) _
      (writes s (without_disposed w.objects s valid)) (leads_nothing (said d w (lines.refused id s.name x)))

  pub sets_one : IfOk (setting d w id slot x) (LeadsStarted d a most_counted w (Setting id slot x) rest n g f (Only id slot) n)
  unfolding setting
  sets_one = bind_keeps (spec_at d w.objects id slot) _ _ (λ s _.
      let valid = clamp (class_in w.objects) d.types s x in
      only_keeps (has_kind x s.kind && lives w.objects x) arms.Value (settled d w id slot s x valid) _ (settles s valid))
