-- The lines of a dispose, and the peer that is closed between them.
use Rattle.std.proofs.Common.{◌≡◌, ℕ, List, ◌++◌, Option, None, Some, String, Global, append_assoc, append-nil, refl, ap, sym, ◌∙◌}
use Rattle.std.specs.Option.{option_map_or}
use Rattle.std.specs.Prelude.{option_map}
use Rattle.ui_machine.specs.State.Config.{World}
use Rattle.ui_machine.specs.State.Peers.{Peer}
use Rattle.engine_world.specs.ClosingView.{with_closed}
use Rattle.engine_world.specs.SeatView.{closed_at}
use Rattle.engine_world.specs.View.{line_if, with_line_if, with_lines}
use Rattle.engine_world.specs.declared.closings.Closing.{Closing}

-- these peers, of which one may be closed
abbrev pub closed_if : Option ℕ → List Peer → List Peer
closed_if number peers = option_map_or (λ n. closed_at peers n) number peers

abbrev said_with : World → List (List ℕ) → List Peer → World
said_with w lines peers = record w { transcript = lines; peers = peers }

line_said : (line : Option (String Global)) (w : World) → with_line_if line w ≡ with_lines (line_if line) w
line_said None w = ap (λ ls. said_with w ls w.peers) (sym (append-nil w.transcript))
line_said (Some line) w = refl

closed_said : (closed : Option Closing) (w : World)
    → with_closed closed w ≡ said_with w (w.transcript ++ line_if (option_map (λ (c : Closing). c.line) closed)) (closed_if (option_map (λ (c : Closing). c.peer) closed) w.peers)
closed_said None w = ap (λ ls. said_with w ls w.peers) (sym (append-nil w.transcript))
closed_said (Some c) w = refl

-- all lines at once, and the peer closed
said_at_once : (first last : Option (String Global)) (closed : Option Closing) (w : World)
    → said_with w (w.transcript ++ (line_if first ++ (line_if (option_map (λ (c : Closing). c.line) closed) ++ line_if last))) (closed_if (option_map (λ (c : Closing). c.peer) closed) w.peers)
    ≡ with_line_if last (with_closed closed (with_line_if first w))
said_at_once first last closed w =
    let middle = line_if (option_map (λ (c : Closing). c.line) closed) in
    let peers = closed_if (option_map (λ (c : Closing). c.peer) closed) w.peers in
    ap (λ ls. said_with w ls peers) (sym (append_assoc (w.transcript ++ line_if first) middle (line_if last) ∙ append_assoc w.transcript (line_if first) (middle ++ line_if last)))
    ∙ sym (line_said last (with_closed closed (with_line_if first w)) ∙ ap (λ v. with_lines (line_if last) v) (ap (with_closed closed) (line_said first w) ∙ closed_said closed (with_lines (line_if first) w)))

-- the lines were said together, and then the peer was closed
pub said_and_closed : (first last : Option (String Global)) (closed : Option Closing) (old said new : World) (peer : Option ℕ) (line : Option (String Global))
    → said ≡ with_lines (line_if first ++ (line_if line ++ line_if last)) old → new ≡ record said { peers = closed_if peer said.peers }
    → peer ≡ option_map (λ (c : Closing). c.peer) closed → line ≡ option_map (λ (c : Closing). c.line) closed
    → new ≡ with_line_if last (with_closed closed (with_line_if first old))
said_and_closed first last closed old said new peer line says closes is_peer is_line =
    let middle = option_map (λ (c : Closing). c.line) closed in
    closes
    ∙ ap (λ (v : World). record v { peers = closed_if peer v.peers }) says
    ∙ ap (λ l. said_with old (old.transcript ++ (line_if first ++ (line_if l ++ line_if last))) (closed_if peer old.peers)) is_line
    ∙ ap (λ p. said_with old (old.transcript ++ (line_if first ++ (line_if middle ++ line_if last))) (closed_if p old.peers)) is_peer
    ∙ said_at_once first last closed old
