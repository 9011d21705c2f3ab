-- The engine's configuration has no turns of handlers that are gone.
use Rattle.std.proofs.Common.{◌≡◌, List, Result, Ok, Err, ap, refl}
use Rattle.std.specs.declared.alloc.AllocError.{AllocError}
use Rattle.ui_machine.specs.Definition.{Definition}
use Rattle.ui_machine.specs.Outcome.{Answer}
use Rattle.ui_machine.specs.State.Config.{Config}
use Rattle.ui_machine.specs.State.Tasks.{Task}
use Rattle.machine_laws.proofs.GoneProofs.{given_are_gone}
use Rattle.engine_world.specs.Able.{Leads, LeadsWithoutGone}
use Rattle.engine_world.specs.EngineView.{config_of}
use Rattle.engine_world.specs.Standing.{gone_handlers, without_gone}
use Rattle.engine_world.specs.View.{world_of}
use Rattle.engine_world.specs.declared.engine.Engine.{Engine}
use Rattle.engine_world.proofs.Gone.{none_gone}

pub engine_whole : (d : Definition) (e : Engine) → without_gone (config_of d e) ≡ config_of d e
engine_whole d e =
    ap (λ (ts : List Task). record (config_of d e) { agenda = ts }) (none_gone d (gone_handlers (world_of e.world)) (λ n. refl) e.world.handlers.handlers e.stack (given_are_gone (world_of e.world)).handlers)

-- what code leads to exactly has none of them
pub whole_so : (d : Definition) (e : Engine) (a : Answer Config) → a ≡ Ok (config_of d e) → (c : Config) × (a ≡ Ok c) × (without_gone c ≡ config_of d e)
whole_so d e a is = (config_of d e, is, engine_whole d e)

pub leads_whole : {X : Type 0} (d : Definition) (e : Engine) (r : Result X AllocError) (a : Answer Config) → Leads r a (config_of d e) → LeadsWithoutGone r a (config_of d e)
leads_whole d e (Ok x) a leads = whole_so d e a leads
leads_whole d e (Err error) a leads = tt
