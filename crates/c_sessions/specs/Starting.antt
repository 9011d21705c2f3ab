-- How sessions without peers start.
use Rattle.std.specs.Prelude.{◌≡◌, ◌⊎◌, ℕ, List, [], None, Some, Ok, string_bytes}
use Rattle.ui_machine.specs.Definition.{Definition}
use Rattle.law_peers.specs.Needs.{Mismatch, mismatch}
use Rattle.law_typing.specs.Verdict.Judges.{Judges}
use Rattle.builder_defs.specs.Denoted.{denoted}
use Rattle.event_lines.specs.CheckView.{IsRejected, IsUnread}
use Rattle.event_lines.specs.Opening.{Opens, built, stopped}
use Rattle.event_lines.specs.Texts.{lines_text, mismatch_text}
use Rattle.c_sessions.specs.Nobody.{nobody}
use Rattle.c_sessions.specs.Reached.{held}
use Rattle.c_sessions.specs.Unread.{unread}
use Rattle.c_sessions.specs.declared.hosted_session.HostedSession.{HostedSession}
use Rattle.c_sessions.specs.declared.starts.Started.{Started}
use Rattle.c_sessions.specs.declared.starts.Started.TheVariants as code

-- the bytes denote an accepted definition, which needs a peer: with this text there is none
abbrev pub IsLacking : List ℕ → List ℕ → Type 0
IsLacking bytes text =
    (d : Definition) × (m : Mismatch) × (denoted bytes ≡ Ok d) × Judges d None × (mismatch d [] ≡ Some m) × (text ≡ mismatch_text m)

-- the bytes of a definition are refused with this text: by reading, by the verdict, or for want of a peer
abbrev pub IsRefused : List ℕ → List ℕ → Type 0
IsRefused bytes text = (IsUnread bytes text ⊎ IsRejected bytes text) ⊎ IsLacking bytes text

-- the session was built from these bytes, and none of its lines was taken
abbrev pub IsBuilt : List ℕ → HostedSession → Type 0
IsBuilt bytes h = Opens nobody [] bytes (built (held h)) × (unread h ≡ lines_text h.running.core.world.transcript)

-- it stopped in its build from these bytes, and none of its lines was taken
abbrev pub IsStopped : List ℕ → HostedSession → Type 0
IsStopped bytes h = Opens nobody [] bytes (stopped (held h)) × (unread h ≡ lines_text h.running.core.world.transcript)

-- what the bytes of a definition may come to
abbrev pub StartsAs : List ℕ → Started → Type 0
StartsAs bytes (code.Built h) = IsBuilt bytes h
StartsAs bytes (code.Stopped h) = IsStopped bytes h
StartsAs bytes (code.Refused text) = IsRefused bytes (string_bytes text)
StartsAs bytes code.Unbegun = Unit {0}
