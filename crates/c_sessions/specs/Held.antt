-- What is owned of a session that is kept behind an address.
use Rattle.std.specs.Prelude.{Bool, true, false, Option, None, Some}
use base.Fml.{Fml, ftrue}
use denote.RawPtr.{Ptr}
use Rattle.std.specs.Box.Ownership.{box_owns}
use Rattle.std.specs.declared.alloc.Global.{Global}
use Rattle.std.specs.contracts.impls.GlobalAllocator.TheImpl.{ghosts}
use Rattle.c_sessions.specs.declared.hosted_session.HostedSession.{HostedSession}
use Rattle.c_sessions.specs.contracts.hosted_session.HostedSession.{the_row}

-- the allocator of the program, of which there is one
abbrev heap : Global
heap = record { memory = record { seal = tt } }

-- its box; nothing where there is no session
abbrev pub held : Ptr → Option HostedSession → Fml
held at None = ftrue
held at (Some session) = box_owns (ghosts.dealloc_token heap) the_row at session

-- whether there is a session
abbrev pub is_kept : Option HostedSession → Bool
is_kept None = false
is_kept (Some session) = true
