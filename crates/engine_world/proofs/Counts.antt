-- Counts that move as the machine's mentions do.
use Rattle.std.proofs.Common.{◌≡◌, ℕ, zero, suc, ◌+◌, ◌-◌, ◌<◌, Bool, true, false, cond, nat_eq, nat_lt, List, ◌∷◌, length, map, Option, Some, None, Vec, Global, slice_get, slice_set, Ok, refl, sym, ap, subst, ◌∙◌, arith}
use Rattle.std.specs.Prelude.{IfOk, IfSome}
use Rattle.std.proofs.lemmas.Bool.Decides.{nat_tests}
use Rattle.ui_machine.specs.declared.arm.Arm.TheVariants as arms
use Rattle.ui_machine.specs.Seq.{read, total}
use Rattle.ui_machine.specs.Definition.{Definition}
use Rattle.ui_machine.specs.Definition.Values.{Value}
use Rattle.ui_machine.specs.Outcome.{After, Answer, ◌>>=◌, known, only_if}
use Rattle.ui_machine.specs.Rules.Construction.{lent}
use Rattle.ui_machine.specs.Rules.NotifyQueue.{queued, raised, less_frozen, frozen_less}
use Rattle.ui_machine.specs.State.Config.{BuilderEntry}
use Rattle.ui_machine.specs.State.Objects.{Object, Objects, living, put, asked, changed, value_at, with_value}
use Rattle.ui_machine.specs.State.Peers.{Peer}
use Rattle.ui_machine.specs.State.References.{same, in_value, in_object, in_held, in_source, in_task, mentions, next_unheld}
use Rattle.main_context.specs.Attached.{Attached}
use Rattle.ui_machine.specs.State.Tasks.{Emission, Emitting, PlanEntry, Task}
use Rattle.instance_tables.specs.Family.{Sinks}
use Rattle.instance_tables.specs.Laws.{Counted}
use Rattle.instance_tables.specs.Store.{Store, count_of, counts_with, so_often, with_objects, with_object}
use Rattle.instance_tables.specs.Weak.{Marks, Knows, is_strong, strong_in}
use Rattle.instance_tables.proofs.Created.{create_exact}
use Rattle.instance_tables.proofs.Disposed.{finalise_exact}
use Rattle.instance_tables.proofs.Exact.{sink_exact}
use Rattle.instance_tables.proofs.Held.{counted_finds}
use Rattle.instance_tables.specs.Release.{Finalises}
use Rattle.instance_tables.proofs.Held.{total_put}
use Rattle.instance_tables.proofs.Moves.{less_at}
use Rattle.instance_tables.proofs.WriteExact.{write_exact}
use Rattle.engine_world.specs.declared.engine.Engine.{Engine}
use Rattle.engine_stack.specs.declared.stacks.Frames.{Frames}
use Rattle.engine_world.specs.declared.world.World.{World}
use Rattle.bindings.specs.Made.{Made}
use Rattle.engine_world.specs.EngineView.{config_of}
use Rattle.engine_world.specs.View.{held_of, world_of}
use Rattle.engine_stack.specs.declared.task.Task as code
use Rattle.engine_world.specs.TaskView.{task_in, agenda_of}
use Rattle.engine_stack.specs.TaskView.{tasks_of}
use Rattle.machine_laws.specs.GoneLaws.{Gone, pruned}
use Rattle.machine_laws.proofs.GoneProofs.{hold_as}
use Rattle.engine_world.proofs.Left.{same_agenda}
use Rattle.signal_core.specs.Connected.{Connected}
use Rattle.ui_machine.specs.State.Handlers.{Handler}
use Rattle.engine_stack.specs.KnownHandlers.{AllTakeKnownHandlers}
use Rattle.engine_links.specs.Linked.{AreLinked, Linked}
use Rattle.engine_world.specs.Counting.{OnlyCounts, Connects, Counts, IsCounted, KeepsCounts, PassesGot, PassesIn, nothing}
use Rattle.engine_stack.specs.HeldByTasks.{in_emitted, in_subject}
use Rattle.engine_world.specs.PeerPlaces.{AreAlike, AreGot, AreNumbered}
use Rattle.engine_world.proofs.Floats.{if_ok_at, bind_ok}
use Rattle.engine_world.proofs.GotPeers.{alike_got, alike_numbered, lent_got, names_lent}

-- two changes of counts alone
pub both_only : (t m n : Store) → OnlyCounts t m → OnlyCounts m n → OnlyCounts t n
both_only t m n p q = record { objects = q.objects ∙ p.objects; floating = q.floating ∙ p.floating }

-- ** counts by what holds

-- the counts of a table, beside its objects, what floats, the builder and the tasks
abbrev pub Exact : Definition → (ℕ → ℕ) → Store → List BuilderEntry → List Task → Type 0
Exact d taken t builder agenda =
    (o : ℕ) → count_of t.counts o
    ≡ total (in_object d o) t.objects + (total (in_held o) builder + (total (same o) t.floating + (0 + total (in_task o) agenda))) + taken o

-- what is held beside the objects and what floats
abbrev pub beside_of : (ℕ → ℕ) → List BuilderEntry → List Task → ℕ → ℕ
beside_of taken builder agenda o = total (in_held o) builder + (total (in_task o) agenda + taken o)

module _ (d : Definition) (taken : ℕ → ℕ) where
  pub to_counted : (t : Store) (b : List BuilderEntry) (a : List Task) → Exact d taken t b a → Counted d (beside_of taken b a) t
  to_counted t b a h o = omega (arith, h o)

  pub from_counted : (t : Store) (b : List BuilderEntry) (a : List Task) → Counted d (beside_of taken b a) t → Exact d taken t b a
  from_counted t b a h o = omega (arith, h o)

  -- one holder more
  pub holder_more : (t n : Store) (b c : List BuilderEntry) (a r : List Task) (come : ℕ → ℕ) → OnlyCounts t n
      → ((o : ℕ) → count_of n.counts o ≡ count_of t.counts o + come o)
      → ((o : ℕ) → total (in_held o) c + total (in_task o) r ≡ total (in_held o) b + total (in_task o) a + come o)
      → Exact d taken t b a → Exact d taken n c r
  holder_more t n b c a r come only counts holders h o =
      let objects : total (in_object d o) n.objects ≡ total (in_object d o) t.objects = ap (total (in_object d o)) only.objects in
      let floats : total (same o) n.floating ≡ total (same o) t.floating = ap (total (same o)) only.floating in
      omega (arith, objects, floats, counts o, holders o, h o)

  -- one holder less
  pub holder_less : (t n : Store) (b c : List BuilderEntry) (a r : List Task) (gone : ℕ → ℕ) → OnlyCounts t n
      → ((o : ℕ) → count_of n.counts o + gone o ≡ count_of t.counts o)
      → ((o : ℕ) → total (in_held o) c + total (in_task o) r + gone o ≡ total (in_held o) b + total (in_task o) a)
      → Exact d taken t b a → Exact d taken n c r
  holder_less t n b c a r gone only counts holders h o =
      let objects : total (in_object d o) n.objects ≡ total (in_object d o) t.objects = ap (total (in_object d o)) only.objects in
      let floats : total (same o) n.floating ≡ total (same o) t.floating = ap (total (same o)) only.floating in
      omega (arith, objects, floats, counts o, holders o, h o)

  -- an object that no longer floats
  pub sunk_exact : (t n : Store) (b : List BuilderEntry) (a : List Task) (id : ℕ) → Sinks id t n → Exact d taken t b a → Exact d taken n b a
  sunk_exact t n b a id sinks h = from_counted n b a (sink_exact d (beside_of taken b a) t n id sinks (to_counted t b a h))

  -- objects that hold what they held
  pub objects_alike : (t n : Store) (b : List BuilderEntry) (a : List Task) → n ≡ with_objects t n.objects
      → ((o : ℕ) → total (in_object d o) n.objects ≡ total (in_object d o) t.objects) → Exact d taken t b a → Exact d taken n b a
  objects_alike t n b a beside alike h o =
      let floats : total (same o) n.floating ≡ total (same o) t.floating = ap (λ (s : Store). total (same o) s.floating) beside in
      let counts : count_of n.counts o ≡ count_of t.counts o = ap (λ (s : Store). count_of s.counts o) beside in
      omega (arith, floats, counts, alike o, h o)

  -- an object that holds nothing is made
  pub made_counted : (beside : ℕ → ℕ) (t n : Store) (x : Object) → n ≡ with_object x t → ((o : ℕ) → in_object d o (Some x) ≡ 0)
      → Counted d beside t → Counted d beside n
  made_counted beside t n x is none h =
      subst (λ (s : Store). Counted d beside s) (sym is) (create_exact d beside t x (λ o. omega (arith, h o, none o)))

-- ** changes of one object that move nothing

-- a change that leaves what an object holds
abbrev pub Alike : {X : Type 0} → Definition → (Object → Answer (After Object X)) → Type 0
Alike d change = (x : Object) → IfOk (change x) (λ r. (o : ℕ) → in_object d o (Some r.state) ≡ in_object d o (Some x))

module _ {X : Type 0} (d : Definition) (os : Objects) (change : Object → Answer (After Object X)) (alike : Alike d change) where
  AllAlike : After Objects X → Type 0
  AllAlike = λ r. (o : ℕ) → total (in_object d o) r.state ≡ total (in_object d o) os

  pub changed_alike : (id : ℕ) → IfOk (changed os id change) (λ r. (o : ℕ) → total (in_object d o) r.state ≡ total (in_object d o) os)
  unfolding changed AllAlike
  changed_alike zero = tt
  changed_alike (suc i) = by (read None os i) refl
    where
      by : (found : Option Object) → read None os i ≡ found
          → IfOk (known arms.Operand found >>= λ x. change x >>= λ new. Ok (record { state = put os (suc i) (Some new.state); answer = new.answer })) AllAlike
      by None e = tt
      by (Some x) e = bind_ok (change x) _ AllAlike (λ new is o.
          let one = if_ok_at (λ (r : After Object X). (q : ℕ) → in_object d q (Some r.state) ≡ in_object d q (Some x)) (change x) new (alike x) is o in
          let was : in_object d o (read None os i) ≡ in_object d o (Some x) = ap (in_object d o) e in
          omega (arith, total_put (in_object d o) os i (Some new.state) refl, one, was))

pub raised_alike : (d : Definition) (slot : ℕ) → Alike d (raised slot)
raised_alike d slot x = by (nat_eq x.freezes 0)
  where
    by : (b : Bool) → (let r : After Object Bool = cond b (record { state = x; answer = true }) (record { state = record x { queue = queued x.queue slot }; answer = false }) in
        (o : ℕ) → in_object d o (Some r.state) ≡ in_object d o (Some x))
    by true o = refl
    by false o = refl

pub frozen_alike : (d : Definition) → Alike d frozen_less
frozen_alike d x = by (nat_lt 0 x.freezes)
  where
    less : (n : ℕ) (o : ℕ) → in_object d o (Some (less_frozen n x).state) ≡ in_object d o (Some x)
    less zero o = refl
    less (suc n) o = refl

    by : (b : Bool) → IfOk (only_if b arms.Freeze (Ok (less_frozen (x.freezes - 1) x))) (λ r. (o : ℕ) → in_object d o (Some r.state) ≡ in_object d o (Some x))
    by true = less (x.freezes - 1)
    by false = tt

-- ** a property that is written

state_of : (r s : After Objects Value) → ◌≡◌ {A = Answer (After Objects Value)} (Ok r) (Ok s) → r.state ≡ s.state
state_of r s e = let same : r ≡ s = cc e in ap (λ (a : After Objects Value). a.state) same

-- what a write changes and moves
module _ (d : Definition) (m : Marks) (t n : Store) (id slot : ℕ) (v : Value) where
  abbrev Moved : Value → Type 0
  Moved was = (let strong = strong_in m slot (living t.objects id) in
      (o : ℕ) → count_of n.counts o ≡ count_of t.counts o + cond strong (in_value o v) 0 - cond strong (in_value o was) 0)

  put_in : After Object Value → Answer (After Objects Value)
  put_in r = Ok (record { state = put t.objects id (Some r.state); answer = r.answer })

  set_in : Object → Value → Answer (After Object Value)
  set_in x old = Ok (record { state = record x { values = slice_set x.values slot v }; answer = old })

  pub written_exact : (taken : ℕ → ℕ) (b : List BuilderEntry) (a : List Task) (was : Value) → Knows d m
      → changed t.objects id (with_value slot v) ≡ Ok (record { state = n.objects; answer = was })
      → n ≡ record t { objects = n.objects; counts = n.counts }
      → ((w : Value) → asked t.objects id (value_at slot) ≡ Ok w → Moved w)
      → Exact d taken t b a → Exact d taken n b a
  unfolding changed asked with_value put_in set_in
  written_exact taken b a was knows is beside moves h = by (living t.objects id) refl is moves
    where
      of_value : (x : Object) → living t.objects id ≡ Some x → (old : Option Value) → slice_get x.values slot ≡ old
          → ((known arms.Code old >>= set_in x) >>= put_in) ≡ Ok (record { state = n.objects; answer = was })
          → ((w : Value) → known arms.Code old ≡ Ok w → Moved w) → Exact d taken n b a
      of_value x here None at f moved = cc f
      of_value x here (Some w) at f moved =
          let objects : n.objects ≡ put t.objects id (Some (record x { values = slice_set x.values slot v })) = sym (state_of _ _ f) in
          let strong : strong_in m slot (living t.objects id) ≡ is_strong m x.class slot = ap (strong_in m slot) here in
          let floats : n.floating ≡ t.floating = ap (λ (s : Store). s.floating) beside in
          from_counted d taken n b a
          (write_exact d m (beside_of taken b a) t n id slot x w v knows here at objects floats
          (λ o. moved w refl o ∙ ap (λ c. count_of t.counts o + cond c (in_value o v) 0 - cond c (in_value o w) 0) strong)
          (to_counted d taken t b a h))

      by : (found : Option Object) → living t.objects id ≡ found
          → (known arms.Operand found >>= λ x. (value_at slot x >>= set_in x) >>= put_in) ≡ Ok (record { state = n.objects; answer = was })
          → ((w : Value) → (known arms.Operand found >>= value_at slot) ≡ Ok w → Moved w) → Exact d taken n b a
      by None here f moved = cc f
      by (Some x) here f moved = of_value x here (slice_get x.values slot) refl f moved

-- ** the engine

-- the same handlers and tasks, and what may be connected to them
pub stays : (d : Definition) (e new : Engine) → new.world.handlers ≡ e.world.handlers → new.stack ≡ e.stack → Connects d e → Connects d new
stays d e new handlers stack h = record {
  most = ap (λ (c : Connected). c.most) handlers ∙ h.most;
  to_come = ap (λ (c : Connected). c.to_come) handlers ∙ h.to_come;
  begun =
      subst (λ (c : Connected). AllTakeKnownHandlers c.last new.stack) (sym handlers)
      (subst (λ (s : Frames). AllTakeKnownHandlers e.world.handlers.last s) (sym stack) h.begun);
}

-- nothing but the list of handlers differs
pub only_list : (hs old : Connected) (l : List Handler) → hs ≡ record old { handlers = l } → hs ≡ record old { handlers = hs.handlers }
only_list hs old l is = is ∙ ap (λ (k : List Handler). record old { handlers = k }) (sym (ap (λ (c : Connected). c.handlers) is))

-- some of the handlers, as they are, or blocked, and what may be connected to them
pub handled : (d : Definition) (e new : Engine) (hs : Connected) → new.world.handlers ≡ hs → hs ≡ record e.world.handlers { handlers = hs.handlers } → new.stack ≡ e.stack
    → Connects d e → Connects d new
handled d e new hs is only stack h = record {
  most = ap (λ (c : Connected). c.most) (is ∙ only) ∙ h.most;
  to_come = ap (λ (c : Connected). c.to_come) (is ∙ only) ∙ h.to_come;
  begun =
      subst (λ (last : ℕ). AllTakeKnownHandlers last new.stack) (sym (ap (λ (c : Connected). c.last) (is ∙ only)))
      (subst (λ (s : Frames). AllTakeKnownHandlers e.world.handlers.last s) (sym stack) h.begun);
}

-- the same handlers with other tasks
pub restacked : (d : Definition) (e : Engine) (s : Frames) → ((last : ℕ) → AllTakeKnownHandlers last e.stack → AllTakeKnownHandlers last s) → Connects d e → Connects d (record e { stack = s })
restacked d e s begun h = record { most = h.most; to_come = h.to_come; begun = begun e.world.handlers.last h.begun }

module _ (d : Definition) (e new : Engine) where
  pub keeps_by : new.world.weak ≡ e.world.weak → new.links ≡ e.links → (PassesGot d e → PassesGot d new) → new.world.context ≡ e.world.context → (Connects d e → Connects d new)
      → ((taken : ℕ → ℕ) → Knows d e.world.weak → Exact d taken e.world.table (map held_of e.world.builder.items) (agenda_of d e)
      → Exact d taken new.world.table (map held_of new.world.builder.items) (agenda_of d new))
      → KeepsCounts d e new
  keeps_by weak links passes context connects moves = record {
    at = λ taken h. record {
      knows = subst (λ (m : Marks). Knows d m) (sym weak) h.knows;
      links = subst (λ (l : Linked). AreLinked d l) (sym links) h.links;
      passes = passes h.passes;
      connects = connects h.connects;
      exact = λ o.
          let sources : (o : ℕ) → ℕ = λ o. total (in_source o) e.world.context.sources in
          let moved = moves (λ o. sources o + taken o) h.knows (λ o. omega (arith, h.exact o)) o in
          omega (arith, moved, ap (λ (c : Attached). total (in_source o) c.sources) context);
    };
  }

pub keeps_on : (d : Definition) (e f new : Engine) → KeepsCounts d e f → KeepsCounts d f new → KeepsCounts d e new
keeps_on d e f new p q = record { at = λ taken h. q.at taken (p.at taken h) }

-- what is counted stays so
pub still_counted : (d : Definition) (e new : Engine) → KeepsCounts d e new → IsCounted d e → IsCounted d new
still_counted d e new keeps is = record { taken = is.taken; counts = keeps.at is.taken is.counts; little = is.little }

-- a line more, another result or another count of steps moves nothing
pub keeps_same : (d : Definition) (e new : Engine) → new.world.table ≡ e.world.table → new.world.weak ≡ e.world.weak → new.links ≡ e.links → (PassesGot d e → PassesGot d new)
    → new.world.context ≡ e.world.context → new.world.builder ≡ e.world.builder → new.stack ≡ e.stack → new.world.handlers ≡ e.world.handlers → KeepsCounts d e new
keeps_same d e new table weak links passes context builder stack handlers = keeps_by d e new weak links passes context (stays d e new handlers stack) (λ taken _ h.
    subst (λ (t : Store). Exact d taken t (map held_of new.world.builder.items) (agenda_of d new)) (sym table)
    (subst (λ (ts : List Task). Exact d taken e.world.table (map held_of new.world.builder.items) ts) (sym (same_agenda d e new stack handlers))
    (subst (λ bs. Exact d taken e.world.table (map held_of bs.items) (agenda_of d e)) (sym builder) h)))

-- a line that was said
pub keeps_said : (d : Definition) (e : Engine) (w : World) → w ≡ record e.world { transcript = w.transcript } → KeepsCounts d e (record e { world = w })
keeps_said d e w is =
    keeps_same d e (record e { world = w }) (ap (λ (v : World). v.table) is) (ap (λ (v : World). v.weak) is) refl (subst (PassesIn d) (sym is)) (ap (λ (v : World). v.context) is) (ap (λ (v : World). v.builder) is) refl (ap (λ (v : World). v.handlers) is)

-- a peer that became an object's
pub keeps_lent : (d : Definition) (e : Engine) (peer : Option ℕ) (id : ℕ) (seats : List Peer) → seats ≡ lent peer id e.world.seats → IfSome peer (λ number. number < length e.world.seats)
    → KeepsCounts d e (record e { world = record e.world { seats = seats } })
keeps_lent d e peer id seats is within =
    keeps_same d e (record e { world = record e.world { seats = seats } }) refl refl refl
    (λ passes. record {
      got = subst (λ (ps : List Peer). AreGot d ps e.world.got_peers.items) (sym is) (lent_got d e.world.seats peer id e.world.got_peers.items within passes.got);
      numbered =
          subst (λ (ps : List Peer). AreNumbered d ps e.world.peer_numbers.items) (sym is)
          (alike_numbered d e.world.seats (lent peer id e.world.seats) e.world.peer_numbers.items (names_lent e.world.seats peer id within) passes.numbered);
    }) refl refl refl refl

-- an object that changed and holds what it held
pub keeps_changed : (d : Definition) (e : Engine) (t : Store) → t ≡ with_objects e.world.table t.objects
    → ((o : ℕ) → total (in_object d o) t.objects ≡ total (in_object d o) e.world.table.objects)
    → KeepsCounts d e (record e { world = record e.world { table = t } })
keeps_changed d e t beside alike =
    keeps_by d e (record e { world = record e.world { table = t } }) refl refl (λ g. g) refl (stays d e _ refl refl)
    (λ taken _ h. objects_alike d taken e.world.table t (map held_of e.world.builder.items) (agenda_of d e) beside alike h)

-- the same of a change that answers
pub keeps_change : {X : Type 0} (d : Definition) (e : Engine) (t : Store) (id : ℕ) (change : Object → Answer (After Object X)) (answer : X) → Alike d change
    → changed e.world.table.objects id change ≡ Ok (record { state = t.objects; answer = answer }) → t ≡ with_objects e.world.table t.objects
    → KeepsCounts d e (record e { world = record e.world { table = t } })
keeps_change {X} d e t id change answer alike is beside =
    keeps_changed d e t beside
    (if_ok_at (λ (r : After Objects X). (o : ℕ) → total (in_object d o) r.state ≡ total (in_object d o) e.world.table.objects)
    (changed e.world.table.objects id change) (record { state = t.objects; answer = answer }) (changed_alike d e.world.table.objects change alike id) is)

-- what is let go was held
pub let_go_less : (counts : List ℕ) (id o : ℕ) → 0 < count_of counts id
    → count_of (counts_with counts id (count_of counts id - 1)) o + same o id ≡ count_of counts o
let_go_less counts zero o held = absurd (omega arith)
let_go_less counts (suc i) o held = by (nat_eq (suc i) o) refl
  where
    less : count_of (counts_with counts (suc i) (count_of counts (suc i) - 1)) o ≡ count_of counts o - so_often 1 (suc i) o
    less = less_at counts (suc i) (count_of counts (suc i) - 1) 1 (omega arith) refl o

    by : (b : Bool) → nat_eq (suc i) o ≡ b → count_of (counts_with counts (suc i) (count_of counts (suc i) - 1)) o + same o (suc i) ≡ count_of counts o
    by true e =
        let is : suc i ≡ o = grind (arith, nat_tests) in
        let there : count_of counts (suc i) ≡ count_of counts o = ap (count_of counts) is in
        let one : same o (suc i) ≡ 1 = ap (λ c. cond c 1 0) e in
        let once : so_often 1 (suc i) o ≡ 1 = ap (λ c. cond c 1 0) e in
        omega (arith, less, there, one, once, held)
    by false e =
        let none : same o (suc i) ≡ 0 = ap (λ c. cond c 1 0) e in
        let never : so_often 1 (suc i) o ≡ 0 = ap (λ c. cond c 1 0) e in
        omega (arith, less, none, never)

-- ** tasks that are taken off, and done

-- nothing of the machine's is a count
pub config_same : (d : Definition) (e : Engine) (t : Store) → OnlyCounts e.world.table t → config_of d (record e { world = record e.world { table = t } }) ≡ config_of d e
config_same d e t only =
    ap (λ (os : Objects). record (config_of d e) { world = record (world_of e.world) { objects = os; floating = t.floating } }) only.objects
    ∙ ap (λ floating. record (config_of d e) { world = record (world_of e.world) { floating = floating } }) only.floating

-- a task that was taken off counts on
pub taken_off : (d : Definition) (e : Engine) (s : Frames) (t : Task) → agenda_of d e ≡ t ∷ tasks_of d e.world.handlers.handlers s
    → ((last : ℕ) → AllTakeKnownHandlers last e.stack → AllTakeKnownHandlers last s) → Counts d nothing e → Counts d (λ o. in_task o t) (record e { stack = s })
taken_off d e s t first begun h = record {
  knows = h.knows;
  links = h.links;
  passes = h.passes;
  connects = restacked d e s begun h.connects;
  exact = λ o. omega (arith, h.exact o, ap (λ (ts : List Task). total (in_task o) ts) first);
}

-- and what it held is let go as it is done
pub given_back : (d : Definition) (e : Engine) (t : Store) (gone : ℕ → ℕ) → OnlyCounts e.world.table t
    → ((o : ℕ) → count_of t.counts o + gone o ≡ count_of e.world.table.counts o) → Counts d gone e
    → Counts d nothing (record e { world = record e.world { table = t } })
given_back d e t gone only counts h = record {
  knows = h.knows;
  links = h.links;
  passes = h.passes;
  connects = stays d e _ refl refl h.connects;
  exact = λ o.
      let objects : total (in_object d o) t.objects ≡ total (in_object d o) e.world.table.objects = ap (total (in_object d o)) only.objects in
      let floats : total (same o) t.floating ≡ total (same o) e.world.table.floating = ap (total (same o)) only.floating in
      omega (arith, objects, floats, counts o, h.exact o);
}

-- another stack of the same tasks
pub same_tasks : (d : Definition) (e : Engine) (s : Frames) → tasks_of d e.world.handlers.handlers s ≡ agenda_of d e
    → ((last : ℕ) → AllTakeKnownHandlers last e.stack → AllTakeKnownHandlers last s) → Counts d nothing e → Counts d nothing (record e { stack = s })
same_tasks d e s is begun h = record {
  knows = h.knows;
  links = h.links;
  passes = h.passes;
  connects = restacked d e s begun h.connects;
  exact = λ o. omega (arith, h.exact o, ap (λ (ts : List Task). total (in_task o) ts) is);
}

-- ** peers that are closed

-- what is passed over stays so where the same peers are left
pub closed_passes : (d : Definition) (old new : World) → AreAlike old.seats new.seats → new.got_peers ≡ old.got_peers → new.peer_numbers ≡ old.peer_numbers → PassesIn d old → PassesIn d new
closed_passes d old new alike got numbers passes = record {
  got = subst (λ (g : Vec ℕ Global). AreGot d new.seats g.items) (sym got) (alike_got d old.seats new.seats old.got_peers.items alike passes.got);
  numbered =
      subst (λ (k : Vec (Vec (Option ℕ) Global) Global). AreNumbered d new.seats k.items) (sym numbers)
      (alike_numbered d old.seats new.seats old.peer_numbers.items alike.numbers passes.numbered);
}

-- ** what is to be finalised

-- the table finds what the machine does
pub finds_mentioned : (d : Definition) (e : Engine) → Counts d nothing e
    → next_unheld (count_of e.world.table.counts) e.world.table.objects ≡ next_unheld (mentions d (config_of d e)) e.world.table.objects
finds_mentioned d e h =
    counted_finds e.world.table.objects (count_of e.world.table.counts) (mentions d (config_of d e)) (λ id some. omega (arith, h.exact id))

-- what is finalised held what it let go of; its handlers hold nothing
pub keeps_finalised : (d : Definition) (e : Engine) (t : Store) (hs : Connected) (bs : Made) (w : World) (gone : Gone) (id n : ℕ) (closing : Option ℕ) → (Knows d e.world.weak → Finalises d id e.world.table t)
    → AreAlike e.world.seats w.seats → hs ≡ record e.world.handlers { handlers = hs.handlers }
    → w ≡ record (record e.world { table = t; handlers = hs; bindings = bs }) { seats = w.seats; transcript = w.transcript } → tasks_of d hs.handlers e.stack ≡ map (pruned gone) (agenda_of d e)
    → KeepsCounts d e (record e { world = w; counted = n; closing = closing })
keeps_finalised d e t hs bs w gone id n closing finalises closes only is left =
    keeps_by d e (record e { world = w; counted = n; closing = closing }) (ap (λ (v : World). v.weak) is) refl (closed_passes d e.world w closes (ap (λ (v : World). v.got_peers) is) (ap (λ (v : World). v.peer_numbers) is)) (ap (λ (v : World). v.context) is)
    (λ h. handled d e (record e { world = w; counted = n; closing = closing }) hs (ap (λ (v : World). v.handlers) is) only refl h) (λ taken knows h.
    let b = map held_of e.world.builder.items in
    let a = agenda_of d e in
    let after = from_counted d taken t b a (finalise_exact d (beside_of taken b a) e.world.table t id (finalises knows) (to_counted d taken e.world.table b a h)) in
    let alike : (o : ℕ) → total (in_task o) (tasks_of d hs.handlers e.stack) ≡ total (in_task o) a = λ o. ap (total (in_task o)) left ∙ hold_as gone d o a in
    subst (λ (v : World). Exact d taken v.table (map held_of v.builder.items) (tasks_of d v.handlers.handlers e.stack)) (sym is)
    (λ o. omega (arith, after o, alike o)))

-- the engine with another table
abbrev pub with_table : Engine → Store → Engine
with_table e t = record e { world = record e.world { table = t } }

-- as much is held beside
pub taken_alike : (d : Definition) (e : Engine) (more less : ℕ → ℕ) → ((o : ℕ) → more o ≡ less o) → Counts d more e → Counts d less e
taken_alike d e more less alike h = record { knows = h.knows; links = h.links; passes = h.passes; connects = h.connects; exact = λ o. omega (arith, h.exact o, alike o) }

-- the rest of an emission goes on with what it was given, and holds its object
pub pushed_rest : (d : Definition) (e : Engine) (t : Store) (s : Frames) (taken : ℕ → ℕ) (m : Emission) (entries : List PlanEntry) → OnlyCounts e.world.table t
    → ((o : ℕ) → count_of t.counts o ≡ count_of e.world.table.counts o + same o m.object)
    → tasks_of d e.world.handlers.handlers s ≡ Emitting m entries ∷ agenda_of d e → (AllTakeKnownHandlers e.world.handlers.last e.stack → AllTakeKnownHandlers e.world.handlers.last s)
    → Counts d (λ o. taken o + in_emitted o m) e → Counts d taken (record e { world = record e.world { table = t }; stack = s })
pushed_rest d e t s taken m entries only counts first begun h = record {
  knows = h.knows;
  links = h.links;
  passes = h.passes;
  connects = record { most = h.connects.most; to_come = h.connects.to_come; begun = begun h.connects.begun };
  exact = λ o.
      let objects : total (in_object d o) t.objects ≡ total (in_object d o) e.world.table.objects = ap (total (in_object d o)) only.objects in
      let floats : total (same o) t.floating ≡ total (same o) e.world.table.floating = ap (total (same o)) only.floating in
      omega (arith, objects, floats, counts o, ap (λ (ts : List Task). total (in_task o) ts) first, h.exact o);
}

-- the first task was taken off, and lets go what it held beside what is held for it from then on
pub dropped : (d : Definition) (e : Engine) (t : Store) (s : Frames) (taken left gone : ℕ → ℕ) (rest : List Task) → OnlyCounts e.world.table t
    → ((o : ℕ) → count_of t.counts o + gone o ≡ count_of e.world.table.counts o)
    → ((o : ℕ) → total (in_task o) (agenda_of d e) + taken o ≡ total (in_task o) rest + (left o + gone o))
    → tasks_of d e.world.handlers.handlers s ≡ rest → ((last : ℕ) → AllTakeKnownHandlers last e.stack → AllTakeKnownHandlers last s)
    → Counts d taken e → Counts d left (record e { world = record e.world { table = t }; stack = s })
dropped d e t s taken left gone rest only counts parts behind begun h = record {
  knows = h.knows;
  links = h.links;
  passes = h.passes;
  connects = record { most = h.connects.most; to_come = h.connects.to_come; begun = begun e.world.handlers.last h.connects.begun };
  exact = λ o.
      let objects : total (in_object d o) t.objects ≡ total (in_object d o) e.world.table.objects = ap (total (in_object d o)) only.objects in
      let floats : total (same o) t.floating ≡ total (same o) e.world.table.floating = ap (total (same o)) only.floating in
      omega (arith, objects, floats, counts o, parts o, ap (λ (ts : List Task). total (in_task o) ts) behind, h.exact o);
}

-- what was held beside is let go
pub less_held : (d : Definition) (e : Engine) (t : Store) (more left gone : ℕ → ℕ) → OnlyCounts e.world.table t
    → ((o : ℕ) → count_of t.counts o + gone o ≡ count_of e.world.table.counts o) → ((o : ℕ) → more o ≡ left o + gone o)
    → Counts d more e → Counts d left (record e { world = record e.world { table = t } })
less_held d e t more left gone only counts parts h = record {
  knows = h.knows;
  links = h.links;
  passes = h.passes;
  connects = stays d e _ refl refl h.connects;
  exact = λ o.
      let objects : total (in_object d o) t.objects ≡ total (in_object d o) e.world.table.objects = ap (total (in_object d o)) only.objects in
      let floats : total (same o) t.floating ≡ total (same o) e.world.table.floating = ap (total (same o)) only.floating in
      omega (arith, objects, floats, counts o, parts o, h.exact o);
}

-- a task that holds no more than its object is done
pub done_plain : (d : Definition) (e new : Engine) (t u : code.Task) → t ≡ u → ((o : ℕ) → in_task o (task_in d e u) ≡ in_subject o (task_in d e u)) → KeepsCounts d e new
    → Counts d (λ o. in_task o (task_in d e t)) e → Counts d (λ o. in_subject o (task_in d e t)) new
done_plain d e new t u is alike keeps h =
    taken_alike d new (λ o. in_task o (task_in d e t)) (λ o. in_subject o (task_in d e t))
    (subst (λ (x : code.Task). (o : ℕ) → in_task o (task_in d e x) ≡ in_subject o (task_in d e x)) (sym is) alike) (keeps.at _ h)
