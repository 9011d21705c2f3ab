use Rattle.engine_dispatches.specs.Promises.{IsRoomy}
-- How the build begins: nothing lives, and objects are all that there is to make; and how the engine knows its pool there.
use Rattle.std.proofs.Common.{◌≡◌, ℕ, zero, suc, List, [], ◌∷◌, ◌++◌, map, None, refl, sym, ap, subst, ◌∙◌, arith, vec_capacity}
use Rattle.ui_machine.specs.Seq.{total}
use Rattle.ui_machine.specs.State.References.{in_task, mentions}
use Rattle.instance_tables.specs.Store.{count_of}
use Rattle.instance_tables.specs.Weak.{Knows, Marks}
use Rattle.engine_links.specs.Linked.{AreLinked}
use Rattle.engine_world.specs.Counting.{Connects, Counts, nothing, PassesGot}
use Rattle.engine_world.specs.EngineView.{config_of}
use Rattle.engine_world.specs.View.{world_of}
use Rattle.engine_world.specs.declared.engine.Engine.{Engine}
use Rattle.ui_machine.specs.Definition.{Definition}
use Rattle.ui_machine.specs.Output.Lines as lines
use Rattle.ui_machine.specs.Runs.{beginning, first_world, of_build}
use Rattle.ui_machine.specs.State.Config.{World, said}
use Rattle.ui_machine.specs.State.Peers.{Peer}
use Rattle.ui_machine.specs.State.Tasks.{Building, Item, Task, binds}
use Rattle.ui_machine.specs.Rules.Build.{made_items, forward_items, numbered, connected_items, build_items}
use Rattle.law_peers.specs.Forgetting.{forgotten}
use Rattle.law_peers.specs.MatchedPools.{AllFree}
use Rattle.native_peers.specs.Matching.{as_peer, as_peers}
use Rattle.native_peers.specs.Seen.{Seen}
use Rattle.engine_stack.specs.declared.task.ForwardReference.{ForwardReference}
use Rattle.engine_world.specs.TaskView.{agenda_of}
use Rattle.engine_stack.specs.TaskView.{item_of, build_from}
use Rattle.law_peers.specs.Needs.{mismatch}
use Rattle.engine_dispatches.specs.Dispatched.{IsAtRest}
use Rattle.engine_dispatches.specs.PoolView.{forgotten_seen, seen_of, with_seen, world_at}
use Rattle.ui_engine.specs.BuildBegins.{IsBegun}
use Rattle.ui_engine.specs.declared.starts.Beginning.{Beginning}

-- objects, and then forward references, bindings and signals
only_objects : (d : Definition) (fs : List ForwardReference) → map item_of fs ≡ forward_items 0 d.places → build_items d ≡ build_from d 0 fs
only_objects d fs all = ap (λ forwards. made_items 0 d.places ++ (forwards ++ (numbered binds 0 d.bindings ++ connected_items 0 d.places))) (sym all)

-- where a world's first line is said, the build begins there
pub begins_at : (d : Definition) (peers : List Peer) (w : World) (fs : List ForwardReference) → w ≡ said d (first_world d peers) lines.build → map item_of fs ≡ forward_items 0 d.places
    → beginning w (Building (build_from d 0 fs)) ≡ of_build d peers
begins_at d peers w fs first all =
    ap (λ (v : World). beginning v (Building (build_from d 0 fs))) first
    ∙ ap (λ (items : List Item). beginning (said d (first_world d peers) lines.build) (Building items)) (sym (only_objects d fs all))

-- ** the pool as the engine knows it

pub known_first : (pool : List Seen) → map forgotten_seen pool ≡ map seen_of (map forgotten (as_peers pool))
known_first [] = refl
known_first (s ∷ pool) = ap (λ (l : List Seen). forgotten_seen s ∷ l) (known_first pool)

pub seen_first : (pool : List Seen) → with_seen pool (map forgotten (as_peers pool)) ≡ as_peers pool
seen_first [] = refl
seen_first (s ∷ pool) = ap (λ (l : List Peer). as_peer s ∷ l) (seen_first pool)

-- no object has got any of these
pub all_free : (pool : List Seen) → AllFree (as_peers pool)
all_free [] = tt
all_free (s ∷ pool) = (refl, all_free pool)

-- ** nothing is counted where nothing lives

none_of : (o : ℕ) → count_of [] o ≡ 0
none_of zero = refl
none_of (suc o) = refl

pub none_counted_with : (d : Definition) (peers : List Peer) (e : Engine) (m : Marks) → Knows d m → AreLinked d e.links → PassesGot d e → Connects d e → e.world.weak ≡ m → e.world.table.counts ≡ []
    → world_of e.world ≡ said d (first_world d peers) lines.build → agenda_of d e ≡ [] → Counts d nothing e
none_counted_with d peers e m knows links passes connects marks counts world idle = record {
  knows = subst (λ (w : Marks). Knows d w) (sym marks) knows;
  links = links;
  passes = passes;
  connects = connects;
  exact = λ o.
      let none : count_of e.world.table.counts o ≡ 0 = ap (λ cs. count_of cs o) counts ∙ none_of o in
      let same : mentions d (config_of d e) o ≡ 0 =
      ap (λ (w : World). mentions d (record { world = w; agenda = agenda_of d e; counted = e.counted }) o) world
      ∙ omega (arith, ap (λ (ts : List Task). total (in_task o) ts) idle) in
      omega (arith, none, same);
}

-- ** what a build begins with

pub begun_at : (d : Definition) (pool : List Seen) (seats : List Peer) (b : Beginning) → mismatch d (as_peers pool) ≡ None → seats ≡ map forgotten (as_peers pool) → IsAtRest d b.engine
    → world_of b.engine.world ≡ said d (first_world d seats) lines.build → map item_of b.forwards ≡ forward_items 0 d.places
    → IsRoomy d (vec_capacity b.engine.stack.tasks) → IsBegun d pool b
begun_at d pool seats b matches sat rests world forwards room =
    let there = world ∙ ap (λ (l : List Peer). said d (first_world d l) lines.build) sat in
    record {
      matches = matches;
      rests = rests;
      knows = known_first pool ∙ sym (ap (λ (w : World). map seen_of w.peers) there);
      world = ap (λ (w : World). world_at pool w) there ∙ ap (λ (l : List Peer). said d (first_world d l) lines.build) (seen_first pool);
      forwards = forwards;
      room = room;
    }
