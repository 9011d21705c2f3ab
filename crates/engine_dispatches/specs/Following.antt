-- How the machine follows the engine and its pool. The engine has no turns of handlers that are gone, and of a peer it knows neither its
-- calls and faults nor what it keeps; these are the pool's.
use Rattle.std.specs.Prelude.{◌≡◌, ℕ, List, map}
use Rattle.ui_machine.specs.declared.arm.Halt.TheVariants as halts
use Rattle.ui_machine.specs.Definition.{Definition}
use Rattle.ui_machine.specs.Runs.{Halts, Reaches}
use Rattle.ui_machine.specs.State.Config.{Config}
use Rattle.ui_machine.specs.State.Peers.{Peer, Reply}
use Rattle.law_peers.specs.Forgetting.{forgotten_at}
use Rattle.law_typing.specs.Verdict.Accepted.{Each}
use Rattle.native_peers.specs.Seen.{Relations, Seen}
use Rattle.engine_world.specs.Standing.{without_gone}
use Rattle.engine_dispatches.specs.PoolView.{GivenBy, IsLeft, seen_of}

-- where a run has come to: what is seen of the pool, and the engine's configuration
pub record Point : Type 0 where
  pub pool : List Seen
  pub view : Config

-- the machine's configuration is there
pub record Stands (p : Point) (c : Config) : Type 0 where
  pub view : without_gone (forgotten_at c) ≡ p.view
  pub peers : map seen_of c.world.peers ≡ p.pool

-- from a configuration of the machine these replies lead to one that is there
pub record Arrives (d : Definition) (replies : List Reply) (c : Config) (p : Point) : Type 0 where
  pub at : Config
  pub reached : Reaches d replies c at
  pub stands : Stands p at

-- some replies of the pool do so from each configuration that is at the first point
pub record Follows (d : Definition) (may : Relations) (old new : Point) : Type 0 where
  pub replies : List Reply
  pub given : Each (GivenBy may) replies
  pub arrives : (c : Config) → Stands old c → Arrives d replies c new

-- from a configuration of the machine no memory is found after these replies and lines, and these peers are left
pub record Halting (d : Definition) (may : Relations) (replies : List Reply) (c : Config) (left : List Peer) (shown : List (List ℕ)) : Type 0 where
  pub halts : Halts d replies c halts.OutOfMemory shown
  pub leaves : IsLeft d may halts.at left

-- so it is after some replies of the pool from each configuration that is at the point
pub record Breaks (d : Definition) (may : Relations) (old : Point) (left : List Peer) (shown : List (List ℕ)) : Type 0 where
  pub replies : List Reply
  pub given : Each (GivenBy may) replies
  pub breaks : (c : Config) → Stands old c → Halting d may replies c left shown
