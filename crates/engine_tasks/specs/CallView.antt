-- What a due call of a peer asks, and what its answer leads to: a line that reports it, and the value that the program is given.
use Rattle.std.specs.Prelude.{ℕ, List, None, Option, Ok, Some, map, string_bytes}
use Rattle.ui_machine.specs.Definition.{Definition}
use Rattle.ui_machine.specs.Definition.Signals.{Method}
use Rattle.ui_machine.specs.Definition.Values as values
use Rattle.ui_machine.specs.Instructions.Peers.{with_method}
use Rattle.ui_machine.specs.Outcome.{Answer, ◌>>=◌}
use Rattle.ui_machine.specs.Output.Lines as lines
use Rattle.ui_machine.specs.Output.Text.{text_of_line}
use Rattle.ui_machine.specs.Rules.Accumulation.{or_zero}
use Rattle.ui_machine.specs.Rules.Transform.{zero_value}
use Rattle.ui_machine.specs.State.Config.{World, peer_state}
use Rattle.ui_machine.specs.State.Peers as peers
use Rattle.ui_machine.specs.State.Tasks as config
use Rattle.g_values.specs.View.{value_view}
use Rattle.peer_shapes.specs.MethodViews.{lent_view}
use Rattle.engine_tasks.specs.declared.calls.Conclusion as code
use Rattle.engine_tasks.specs.declared.calls.NamedMethod.{NamedMethod}
use Rattle.engine_tasks.specs.declared.calls.PeerQuestion.{PeerQuestion}

-- what is asked, in the state that the peer has in a world
abbrev pub question_view : World → PeerQuestion → peers.Question
question_view w q = record { peer = q.peer; state = peer_state w q.peer; method = q.method; args = map value_view q.args.now }

-- the reply to a call with this answer; what the engine knows of the peer's state stays
abbrev pub reply_of : World → config.Call → Option values.Value → peers.Reply
reply_of w call answer = record {
  question = record { peer = call.peer; state = peer_state w call.peer; method = call.method; args = call.args };
  answer = answer;
  state = peer_state w call.peer;
}

-- ** what a call comes to

pub record Conclusion : Type 0 where
  pub line : List ℕ
  pub value : values.Value

abbrev pub conclusion_view : code.Conclusion → Conclusion
conclusion_view c = record { line = string_bytes c.line; value = value_view c.value }

-- a method of a peer, under the peer's name
pub record Named : Type 0 where
  pub peer : List ℕ
  pub method : Method

abbrev pub named_view : NamedMethod → Named
named_view c = record { peer = c.peer.now; method = lent_view c.method }

-- the method that a call asks for
abbrev pub method_called : World → config.Call → Answer Named
method_called w call = with_method w call.peer call.method (λ p m. Ok (record { peer = p.name; method = m }))

-- the line of a call that is answered, or of a fault
abbrev pub line_of : Named → config.Call → Option values.Value → lines.Line
line_of n call None = lines.fault n.peer n.method.name call.args
line_of n call (Some v) = lines.call n.peer n.method.name call.args v

-- a peer answers, or it faults
abbrev pub answered : Definition → World → config.Call → Option values.Value → Answer Conclusion
answered d w call answer =
    method_called w call >>= λ n. Ok (record { line = text_of_line d.types (line_of n call answer); value = or_zero d n.method.result answer })

-- a peer is closed
abbrev pub unanswered : Definition → World → config.Call → Answer Conclusion
unanswered d w call =
    method_called w call >>= λ n.
    Ok (record { line = text_of_line d.types (lines.closed n.peer n.method.name call.args); value = zero_value d.types n.method.result })
