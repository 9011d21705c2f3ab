use Rattle.law_steps.proofs.Kept.BindingsProofs.{bindings_left, left_bindings_found, binding_sets, binding_unset, binding_made}
use Rattle.law_steps.proofs.kept_worlds.bindings.Goals as goal

pub returns : goal.returns
returns c = record { left = bindings_left; found = left_bindings_found; sets = binding_sets; unset = binding_unset; made = binding_made }
