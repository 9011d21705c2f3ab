-- Which opening the code's denotes.
use Rattle.std.specs.Prelude.{◌≡◌, ℕ, List, string_bytes}
use Rattle.ui_machine.specs.State.Peers.{Peer}
use Rattle.law_typing.specs.Verdict.FaultText.{fault_text}
use Rattle.builder_defs.specs.FaultText.{refusal_text}
use Rattle.native_peers.specs.Seen.{Relations, Seen}
use Rattle.native_peers.specs.declared.pooled_peers.Peers.{Ghosts}
use Rattle.ui_engine.specs.SessionView.{state_at}
use Rattle.event_lines.specs.Texts.{mismatch_text}
use Rattle.event_lines.specs.Opening as openings
use Rattle.event_lines.specs.Opening.{Opens}
use Rattle.event_lines.specs.declared.session_start.Opening.{Opening}
use Rattle.event_lines.specs.declared.session_start.Opening.TheVariants as code

-- the pool of an opening
abbrev pub pool_in : {P : Type 0} {g : Ghosts P} → Opening P g → P
pool_in (code.Refused text pool) = pool
pool_in (code.Unbegun pool) = pool
pool_in (code.Stopped session) = session.pool
pool_in (code.Built session) = session.pool

-- the opening that the code's denotes, where this is seen of a pool
abbrev pub IsOpening : {P : Type 0} {g : Ghosts P} → (P → List Seen) → Opening P g → openings.Opening → Type 0
IsOpening see (code.Refused text pool) (openings.refused refusal) = string_bytes text ≡ refusal_text refusal
IsOpening see (code.Refused text pool) (openings.rejected d fault) = string_bytes text ≡ fault_text d fault
IsOpening see (code.Refused text pool) (openings.mismatched d m) = string_bytes text ≡ mismatch_text m
IsOpening see (code.Unbegun pool) openings.unbegun = Unit {0}
IsOpening see (code.Stopped session) (openings.stopped s) = state_at (see session.pool) session.core ≡ s
IsOpening see (code.Built session) (openings.built s) = state_at (see session.pool) session.core ≡ s
IsOpening _ _ _ = ⊥

-- where nothing was begun the pool is as it was
abbrev pub Leaves : {P : Type 0} {g : Ghosts P} → P → Opening P g → Type 0
Leaves old (code.Refused text pool) = pool ≡ old
Leaves old (code.Unbegun pool) = pool ≡ old
Leaves old (code.Stopped session) = Unit {0}
Leaves old (code.Built session) = Unit {0}

-- the code's opening is one that the bytes and the pool may come to
pub record Opened {P : Type 0} {g : Ghosts P} (see : P → List Seen) (may : Relations) (peers : List Peer) (old : P) (bytes : List ℕ) (found : Opening P g) : Type 0 where
  pub opening : openings.Opening
  pub is : IsOpening see found opening
  pub opens : Opens may peers bytes opening
  pub leaves : Leaves old found
