-- How an object is disposed, and how one that nothing holds is finalised.
use Rattle.std.proofs.Common.{◌≡◌, ℕ, Bool, true, false, not, String, Global, string_bytes, List, [], map, Option, Some, None, IsSome, slice_get, Ok, Err, refl, sym, ap, subst, ◌∙◌}
use Rattle.ui_machine.specs.declared.arm.Arm.{Arm}
use Rattle.ui_machine.specs.declared.arm.Arm.TheVariants as arms
use Rattle.ui_machine.specs.declared.arm.Halt.{Halt}
use Rattle.ui_machine.specs.declared.arm.Halt.TheVariants as halts
use Rattle.ui_machine.specs.Definition.{Definition}
use Rattle.ui_machine.specs.Output.Lines as lines
use Rattle.ui_machine.specs.Output.Text.{text_of_line}
use Rattle.ui_machine.specs.Outcome.{Answer, Stops, known, ◌>>=◌}
use Rattle.ui_machine.specs.Rules.Disposal.{is_of_object, closed_if_open, closing, said_if, is_first, peer_of, disposed, finalised}
use Rattle.ui_machine.specs.Rules.Disposal as disposal
use Rattle.ui_machine.specs.Rules.Sets.{is_disposed}
use Rattle.ui_machine.specs.State.Config.{World, starts, said, with_objects}
use Rattle.ui_machine.specs.State.Objects.{Object, Objects, living, put}
use Rattle.ui_machine.specs.State.Peers.{Peer}
use Rattle.ui_machine.specs.Steps.{finalising}
use Rattle.ui_machine.specs.State.Bindings.{bindings_without_end}
use Rattle.bindings.specs.Made.{Made}
use Rattle.instance_tables.specs.Store.{Store}
use Rattle.instance_tables.specs.Release.{Disposes, Finalises}
use Rattle.signal_core.specs.Connected.{Connected, Numbered, without_object}
use Rattle.machine_laws.specs.GoneLaws.{pruned}
use Rattle.engine_world.specs.Standing.{gone_handlers}
use Rattle.ui_machine.specs.State.Handlers.{Handler}
use Rattle.engine_world.specs.TaskView.{agenda_of}
use Rattle.engine_stack.specs.TaskView.{tasks_of}
use Rattle.engine_world.specs.declared.engine.Engine.{Engine}
use Rattle.engine_world.proofs.Gone.{kept_left, tasks_alike}
use Rattle.engine_world.specs.declared.world.World as code
use Rattle.engine_world.specs.ClosingView.{with_closed}
use Rattle.engine_world.specs.View.{with_line, with_line_if, world_of}
use Rattle.engine_world.specs.declared.closings.Closing.{Closing}
use Rattle.engine_world.specs.Able.{Able}
use Rattle.engine_world.proofs.Ableness.{no_arm, none_stops}
use Rattle.engine_world.proofs.Emits.{stops_on}

-- who is not disposed yet is reported
pub first_time : (os : Objects) (id : ℕ) → IsSome (living os id) → is_first (living os id) ≡ not (is_disposed (living os id))
first_time os id some = by (living os id) some
  where
    by : (o : Option Object) → IsSome o → is_first o ≡ not (is_disposed o)
    by None h = cc h
    by (Some o) h = refl

-- a line, if there is one, leaves the peers
pub peers_with_line : (line : Option (String Global)) (w : World) → (with_line_if line w).peers ≡ w.peers
peers_with_line None w = refl
peers_with_line (Some line) w = refl

module _ (d : Definition) (v : code.World) (id : ℕ) (closed : Option Closing) (first : Option (String Global)) where
  -- the peer is closed so, whatever else is of the world
  abbrev pub ClosesSo : Type 0
  ClosesSo = (w : World) → w.peers ≡ v.seats → closing d (peer_of (living v.table.objects id)) w ≡ Ok (with_closed closed w)

  -- the dispose is reported so
  abbrev pub TellsSo : Type 0
  TellsSo = (w : World) → with_line_if first w ≡ said_if d (is_first (living v.table.objects id)) w (lines.dispose id)

  -- the world without the object, whose peer is closed
  abbrev pub gone : World
  gone = with_closed closed (with_line_if first (disposal.without_object d (world_of v) id))

  pub disposed_so : ClosesSo → TellsSo → disposed d (world_of v) id ≡ Ok gone
  disposed_so closes tells =
      ap (closing d (peer_of (living v.table.objects id))) (sym (tells (disposal.without_object d (world_of v) id)))
      ∙ closes (with_line_if first (disposal.without_object d (world_of v) id)) (peers_with_line first (disposal.without_object d (world_of v) id))

  -- and it is taken out
  abbrev pub taken_out : World
  taken_out = said d (with_objects gone (put gone.objects id None)) (lines.final id)

  pub finalised_so : ClosesSo → TellsSo → finalising d (world_of v) id ≡ starts taken_out []
  unfolding finalising finalised
  finalised_so closes tells =
      ap (λ (a : Answer World). (a >>= λ u. Ok (said d (with_objects u (put u.objects id None)) (lines.final id))) >>= λ u. starts u []) (disposed_so closes tells)

-- what stops the close of a peer stops the dispose, and the finalisation
pub disposed_stops : (d : Definition) (v : code.World) (id : ℕ) (halt : Halt)
    → ((w : World) → w.peers ≡ v.seats → Stops halt (closing d (peer_of (living v.table.objects id)) w)) → Stops halt (disposed d (world_of v) id)
disposed_stops d v id halt stops = stops (said_if d (is_first (living v.table.objects id)) (disposal.without_object d (world_of v) id) (lines.dispose id)) (by (is_first (living v.table.objects id)))
  where
    by : (b : Bool) → (said_if d b (disposal.without_object d (world_of v) id) (lines.dispose id)).peers ≡ v.seats
    by true = refl
    by false = refl

pub finalised_stops : (d : Definition) (v : code.World) (id : ℕ) (halt : Halt)
    → ((w : World) → w.peers ≡ v.seats → Stops halt (closing d (peer_of (living v.table.objects id)) w)) → Stops halt (finalising d (world_of v) id)
unfolding finalising finalised
finalised_stops d v id halt stops =
    stops_on halt (disposed d (world_of v) id >>= λ u. Ok (said d (with_objects u (put u.objects id None)) (lines.final id))) (λ u. starts u [])
    (stops_on halt (disposed d (world_of v) id) (λ u. Ok (said d (with_objects u (put u.objects id None)) (lines.final id))) (disposed_stops d v id halt stops))

-- the close of a peer is stuck in one world as in another with the same peers
closing_alike : (d : Definition) (found : Option ℕ) (w v : World) → w.peers ≡ v.peers → (arm : Arm) → closing d found w ≡ Err arm → closing d found v ≡ Err arm
unfolding closing
closing_alike d None w v same arm stuck = absurd (cc stuck)
closing_alike d (Some number) w v same arm stuck = by (slice_get w.peers number) (slice_get v.peers number) (ap (λ (ps : List Peer). slice_get ps number) same) stuck
  where
    by : (p q : Option Peer) → p ≡ q → (known arms.Code p >>= λ x. Ok (closed_if_open d w number x)) ≡ Err arm → (known arms.Code q >>= λ x. Ok (closed_if_open d v number x)) ≡ Err arm
    by None None same e = e
    by None (Some q) same e = absurd (cc same)
    by (Some p) q same e = absurd (cc e)

-- where the dispose is not stuck, the close of a peer is not
pub closing_able : (d : Definition) (v : code.World) (id : ℕ) → Able (disposed d (world_of v) id) → Able (closing d (peer_of (living v.table.objects id)) (world_of v))
closing_able d v id able =
    none_stops _ (λ arm stuck. no_arm _ arm able
    (disposed_stops d v id (halts.Stuck arm) (λ w same. closing_alike d (peer_of (living v.table.objects id)) (world_of v) w (sym same) arm stuck)))

pub finalising_able : (d : Definition) (v : code.World) (id : ℕ) → Able (finalising d (world_of v) id) → Able (closing d (peer_of (living v.table.objects id)) (world_of v))
finalising_able d v id able =
    none_stops _ (λ arm stuck. no_arm _ arm able
    (finalised_stops d v id (halts.Stuck arm) (λ w same. closing_alike d (peer_of (living v.table.objects id)) (world_of v) w (sym same) arm stuck)))

-- what code leaves of a dispose
pub code_gone : (d : Definition) (v : code.World) (t : Store) (hs : Connected) (bs : Made) (id : ℕ) (closed : Option Closing) (first : Option (String Global))
    → Disposes d id v.table t → hs ≡ record v.handlers { handlers = without_object id v.handlers.handlers }
    → bs ≡ record v.bindings { bindings = bindings_without_end id v.bindings.bindings }
    → with_closed closed (with_line_if first (world_of (record v { table = t; handlers = hs; bindings = bs }))) ≡ gone d v id closed first
code_gone d v t hs bs id closed first dis left ends =
    ap (λ (w : World). with_closed closed (with_line_if first w)) (let objects = dis.objects in let floating = dis.floating in rw (objects, floating, left, ends) refl)

-- the object is taken out before or after its peer is closed
taken_after : (d : Definition) (id : ℕ) (without : World) (closed : Option Closing) (first : Option (String Global))
    → said d (with_closed closed (with_line_if first (with_objects without (put without.objects id None)))) (lines.final id)
    ≡ said d (with_objects (with_closed closed (with_line_if first without)) (put (with_closed closed (with_line_if first without)).objects id None)) (lines.final id)
taken_after d id without None None = refl
taken_after d id without None (Some x) = refl
taken_after d id without (Some c) None = refl
taken_after d id without (Some c) (Some x) = refl

-- what code leaves of a finalisation
pub code_taken_out : (d : Definition) (v : code.World) (t : Store) (hs : Connected) (bs : Made) (id : ℕ) (closed : Option Closing) (first : Option (String Global)) (last : String Global)
    → Finalises d id v.table t → hs ≡ record v.handlers { handlers = without_object id v.handlers.handlers }
    → bs ≡ record v.bindings { bindings = bindings_without_end id v.bindings.bindings } → string_bytes last ≡ text_of_line d.types (lines.final id)
    → with_line_if (Some last) (with_closed closed (with_line_if first (world_of (record v { table = t; handlers = hs; bindings = bs })))) ≡ taken_out d v id closed first
code_taken_out d v t hs bs id closed first last fin left ends told =
    ap (λ (x : List ℕ). with_line x (with_closed closed (with_line_if first (world_of (record v { table = t; handlers = hs; bindings = bs }))))) told
    ∙ ap (λ (w : World). said d (with_closed closed (with_line_if first w)) (lines.final id)) (let objects = fin.objects in let floating = fin.floating in rw (objects, floating, left, ends) refl)
    ∙ taken_after d id (disposal.without_object d (world_of v) id) closed first

-- ** handlers of an object that goes

module _ (e : Engine) (hs : Connected) (w : code.World) (id : ℕ) (left : hs ≡ record e.world.handlers { handlers = without_object id e.world.handlers.handlers }) (same : w.handlers ≡ hs) where
  own : w.handlers.handlers ≡ without_object id e.world.handlers.handlers
  own = ap (λ (c : Connected). c.handlers) (same ∙ left)

  last : w.handlers.last ≡ e.world.handlers.last
  last = ap (λ (c : Connected). c.last) (same ∙ left)

-- the emissions have no more turns of them
pub finalised_agenda : (d : Definition) (e : Engine) (hs : Connected) (w : code.World) (id : ℕ) → hs ≡ record e.world.handlers { handlers = without_object id e.world.handlers.handlers }
    → w.handlers ≡ hs → Numbered 0 e.world.handlers.handlers e.world.handlers.last
    → tasks_of d w.handlers.handlers e.stack ≡ map (pruned (gone_handlers (world_of w))) (agenda_of d e)
finalised_agenda d e hs w id left same rises =
    let kept = own e hs w id left same in
    let numbered : Numbered 0 e.world.handlers.handlers w.handlers.last = subst (λ n. Numbered 0 e.world.handlers.handlers n) (sym (last e hs w id left same)) rises in
    ap (λ (l : List Handler). tasks_of d l e.stack) kept
    ∙ sym (tasks_alike (gone_handlers (world_of w)) (λ n. refl) (λ h. not (is_of_object id h)) d e.world.handlers.handlers (kept_left (λ h. not (is_of_object id h)) (world_of w) e.world.handlers.handlers kept numbered) e.stack)
