-- How a dispatch ends, as a session answers it.
use Rattle.std.proofs.Common.{◌≡◌, ℕ, List, Ok, refl, ap, subst}
use Rattle.ui_machine.specs.Definition.{Definition}
use Rattle.ui_machine.specs.Runs.{beginning, of_build}
use Rattle.ui_machine.specs.State.Config.{Config, World}
use Rattle.ui_machine.specs.State.Peers.{Peer}
use Rattle.ui_machine.specs.State.Tasks.{Building}
use Rattle.engine_world.specs.TaskView.{agenda_of}
use Rattle.engine_stack.specs.TaskView.{build_from}
use Rattle.engine_world.specs.View.{world_of}
use Rattle.engine_world.specs.declared.engine.Engine.{Engine}
use Rattle.engine_stack.specs.declared.task.ForwardReference.{ForwardReference}
use Rattle.native_peers.specs.Seen.{Relations, Seen}
use Rattle.engine_dispatches.specs.declared.dispatches.Reply.{Reply}
use Rattle.engine_dispatches.specs.Dispatched.{Carried}
use Rattle.engine_dispatches.specs.Following.{Halting}
use Rattle.engine_dispatches.specs.PoolView.{Replied, world_at}
use Rattle.engine_dispatches.specs.Ways.{Ways, carrying_out}
use Rattle.ui_engine.specs.declared.cores.Phase.{Phase}
use Rattle.ui_engine.specs.declared.cores.Phase.TheVariants as phases
use Rattle.ui_engine.specs.Phases.{has_stopped, is_under_way}
use Rattle.ui_engine.specs.SessionView.{BreaksOff, Ends, SessionState, state_at}

-- a session of a definition with an engine
abbrev pub session_at : Definition → Engine → Phase → SessionState
session_at d e phase = record {
  definition = d;
  world = world_of e.world;
  agenda = agenda_of d e;
  counted = e.counted;
  stopped = has_stopped phase;
  under_way = is_under_way phase;
}

-- what broke off and left this pool
pub broken : (ways : Ways) (d : Definition) (pool : List Seen) (new : Engine) → ways.breaks_off (world_at pool (world_of new.world)).peers (world_of new.world).transcript
    → BreaksOff ways d (state_at pool (session_at d new phases.Stopped))
broken ways d pool new h = record { breaks_off = h; definition = refl; stops = refl }

module _ (d : Definition) (may : Relations) (pool : List Seen) where
  -- a dispatch came to its end
  pub ended : (c : Config) (reply : Reply) (new : Engine) → Carried (Ok reply) d may c (world_at pool (world_of new.world))
      → Ends reply (carrying_out may d c) d (state_at pool (session_at d new phases.AtRest))
  ended c reply new carried = record {
    leads = record {
      replies = carried.0.replies;
      given = carried.0.given;
      so = record { steps = reply.steps; counts = ap (λ n. record { dispatches = n; steps = reply.steps }) carried.2; dispatches = carried.0.so };
    };
    value = carried.1;
    definition = refl;
    goes_on = refl;
  }

  -- no memory was found in it
  pub broke_off : (c : Config) (new : Engine) → Replied may (λ replies. Halting d may replies c (world_at pool (world_of new.world)).peers (world_of new.world).transcript)
      → BreaksOff (carrying_out may d c) d (state_at pool (session_at d new phases.Stopped))
  broke_off c new h = broken (carrying_out may d c) d pool new h

-- a build from where the code names the definition otherwise
pub built_as : {d e : Definition} (peers : List Peer) (w : World) (fs : List ForwardReference) {may : Relations} (reply : Reply) {new : World} → e ≡ d → beginning w (Building (build_from d 0 fs)) ≡ of_build d peers
    → Carried (Ok reply) e may (beginning w (Building (build_from e 0 fs))) new → Carried (Ok reply) d may (of_build d peers) new
built_as {d} {e} peers w fs {may} reply {new} same begins carried =
    subst (λ (x : Config). Carried (Ok reply) d may x new) begins (subst (λ (x : Definition). Carried (Ok reply) x may (beginning w (Building (build_from x 0 fs))) new) same carried)

pub build_broken_as : {d e : Definition} (peers : List Peer) (w : World) (fs : List ForwardReference) {may : Relations} {left : List Peer} {shown : List (List ℕ)} → e ≡ d
    → beginning w (Building (build_from d 0 fs)) ≡ of_build d peers → Replied may (λ replies. Halting e may replies (beginning w (Building (build_from e 0 fs))) left shown)
    → Replied may (λ replies. Halting d may replies (of_build d peers) left shown)
build_broken_as {d} {e} peers w fs {may} {left} {shown} same begins h =
    subst (λ (x : Config). Replied may (λ replies. Halting d may replies x left shown)) begins
    (subst (λ (x : Definition). Replied may (λ replies. Halting x may replies (beginning w (Building (build_from x 0 fs))) left shown)) same h)
