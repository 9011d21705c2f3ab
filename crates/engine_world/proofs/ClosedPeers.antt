-- How the peer of an object is closed, by what is known of it.
use Rattle.std.proofs.Common.{◌≡◌, ◌∙◌, sym, ap, ℕ, Bool, true, false, cond, List, None, Option, Some, Ok, Err, slice_get}
use Rattle.ui_machine.specs.declared.arm.Arm.TheVariants as arms
use Rattle.ui_machine.specs.Definition.{Definition}
use Rattle.ui_machine.specs.Outcome.{known, ◌>>=◌}
use Rattle.ui_machine.specs.Output.Lines as lines
use Rattle.ui_machine.specs.Output.Text.{text_of_line}
use Rattle.ui_machine.specs.Rules.Disposal.{closed_if_open, closing}
use Rattle.ui_machine.specs.Seq.{write}
use Rattle.ui_machine.specs.State.Config.{World, said}
use Rattle.ui_machine.specs.State.Peers.{Peer, closed_peer, no_peer}
use Rattle.engine_world.specs.SeatView.{closed_at}
use Rattle.engine_world.specs.View.{with_line}
use Rattle.engine_world.proofs.MakingSteps.{read_there}

module _ (d : Definition) (peers : List Peer) (found : Option ℕ) (w : World) (same : w.peers ≡ peers) where
  pub closes_none : found ≡ None → closing d found w ≡ Ok w
  unfolding closing
  closes_none none = ap (λ (peer : Option ℕ). closing d peer w) none

  module _ (number : ℕ) (is : found ≡ Some number) where
    -- the peer that is there, or none
    closes_by : (at : Option Peer) → slice_get peers number ≡ at → closing d found w ≡ (known arms.Code at >>= λ p. Ok (closed_if_open d w number p))
    unfolding closing
    closes_by at there =
        ap (λ (peer : Option ℕ). closing d peer w) is
        ∙ ap (λ (ps : List Peer). known arms.Code (slice_get ps number) >>= λ p. Ok (closed_if_open d w number p)) same
        ∙ ap (λ (o : Option Peer). known arms.Code o >>= λ p. Ok (closed_if_open d w number p)) there

    pub closes_nowhere : None ≡ slice_get peers number → closing d found w ≡ Err arms.Code
    closes_nowhere none = closes_by None (sym none)

    module _ (p : Peer) (at : Some p ≡ slice_get peers number) where
      closes_if : (b : Bool) → p.state.is_open ≡ b
          → closing d found w ≡ Ok (cond b (said d (record w { peers = write no_peer w.peers number (closed_peer p) }) (lines.close p.name)) w)
      closes_if b so =
          closes_by (Some p) (sym at)
          ∙ ap (λ c. Ok (cond c (said d (record w { peers = write no_peer w.peers number (closed_peer p) }) (lines.close p.name)) w)) so

      pub closes_not : p.state.is_open ≡ false → closing d found w ≡ Ok w
      closes_not so = closes_if false so

      pub closes : (text : List ℕ) → p.state.is_open ≡ true → text ≡ text_of_line d.types (lines.close p.name)
          → closing d found w ≡ Ok (with_line text (record w { peers = closed_at w.peers number }))
      closes text so told =
          closes_if true so
          ∙ ap (λ (q : Peer). Ok (said d (record w { peers = write no_peer w.peers number (closed_peer q) }) (lines.close p.name)))
          (sym (read_there no_peer w.peers number p (ap (λ (ps : List Peer). slice_get ps number) same ∙ sym at)))
          ∙ ap (λ (t : List ℕ). Ok (with_line t (record w { peers = closed_at w.peers number }))) (sym told)
