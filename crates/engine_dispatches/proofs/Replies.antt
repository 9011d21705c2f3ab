-- A box that was asked, as a reply of the machine.
use Rattle.std.proofs.Common.{◌≡◌, refl, ap, sym, ◌∙◌, ℕ, zero, suc, List, [], ◌∷◌, map, Option, Some}
use Rattle.std.specs.Prelude.{slice_get, slice_set}
use Rattle.ui_machine.specs.Definition.Signals.{Method}
use Rattle.ui_machine.specs.Definition.Values.{Value}
use Rattle.ui_machine.specs.State.Config.{World}
use Rattle.ui_machine.specs.State.Peers.{Reply}
use Rattle.native_peers.specs.Seen.{Asks, Relations, Seen}
use Rattle.engine_dispatches.specs.PoolView.{GivenBy, Knows, forgotten_seen}
use Rattle.engine_dispatches.proofs.Fitting.{answer_fits}

forgotten_set : (pool : List Seen) (k : ℕ) (s t : Seen) → slice_get pool k ≡ Some s → forgotten_seen t ≡ forgotten_seen s → map forgotten_seen (slice_set pool k t) ≡ map forgotten_seen pool
forgotten_set [] k s t at same = refl
forgotten_set (x ∷ pool) zero s t at same = let here : x ≡ s = cc at in ap (λ (y : Seen). y ∷ map forgotten_seen pool) (same ∙ ap forgotten_seen (sym here))
forgotten_set (x ∷ pool) (suc k) s t at same = ap (λ (l : List Seen). forgotten_seen x ∷ l) (forgotten_set pool k s t at same)

module _ (k : ℕ) (old new : List Seen) (may : Relations) (method : ℕ) (args : List Value) (answer : Option Value) (asked : Asks k old new may method args answer) where
  abbrev pub reply_given : Reply
  reply_given = record { question = record { peer = k; state = asked.peer.state; method = method; args = args }; answer = answer; state = asked.after }

  -- it is one that the pool may give
  pub given : GivenBy may reply_given
  given = record {
    allowed = asked.moved;
    fits = λ d. record {
      shape = asked.keeps.shape;
      openness = asked.keeps.openness;
      calls = asked.keeps.calls;
      faults = asked.keeps.faults;
      answer = answer_fits d (slice_get asked.peer.state.shape method) answer asked.keeps.value;
    };
  }

  -- what the engine knows of the pool stays
  pub known_asked : (w : World) → Knows w old → Knows w new
  known_asked w knows =
      let stays : forgotten_seen (record asked.peer { state = asked.after }) ≡ forgotten_seen asked.peer =
      ap (λ (shape : List Method). record { name = asked.peer.name; state = record { shape = shape; is_open = asked.after.is_open; calls = 0; faults = 0; values = [] } }) asked.keeps.shape
      ∙ ap (λ b. record { name = asked.peer.name; state = record { shape = asked.peer.state.shape; is_open = b; calls = 0; faults = 0; values = [] } }) asked.keeps.openness in
      ap (λ (l : List Seen). map forgotten_seen l) asked.new_state ∙ forgotten_set old k asked.peer (record asked.peer { state = asked.after }) asked.at stays ∙ knows
