-- Each step keeps all short, and so does all that a dispatch comes to.
use Rattle.std.proofs.Common.{◌≡◌, refl, ap, subst, ◌∙◌, ℕ, zero, suc, List, [], ◌∷◌, Option, None, Some}
use Rattle.std.specs.Prelude.{IfSome}
use Rattle.ui_machine.specs.Definition.{Definition}
use Rattle.ui_machine.specs.Runs.{Fits, Steps, listed}
use Rattle.ui_machine.specs.State.Config.{Config, World, peer_at}
use Rattle.ui_machine.specs.State.Objects.{Object, living}
use Rattle.ui_machine.specs.State.Peers.{Peer, Reply}
use Rattle.ui_machine.specs.State.References.{mentions, next_unheld}
use Rattle.ui_machine.specs.State.Tasks.{Beginning, Calling, Task}
use Rattle.ui_machine.specs.Steps.{step}
use Rattle.machine_laws.proofs.KeptProofs.{kept_at}
use Rattle.law_typing.specs.Verdict.Accepted.{Each}
use Rattle.law_steps.specs.Served.Dispatches.{Throughout}
use Rattle.law_steps.proofs.Served.DispatchProofs.{both_fit}
use Rattle.law_peers.proofs.RunLives.{step_lives}
use Rattle.law_held_peers.proofs.Changes.{peer_seen}
use Rattle.law_held_peers.proofs.HolderProofs.{read_there}
use Rattle.law_short_texts.specs.ShortValues.{HasShortTexts}
use Rattle.law_short_texts.proofs.StepProofs.{steps_keep_short}
use Rattle.law_line_lengths.specs.LineLengths.{IsLikeNameOf}
use Rattle.law_line_lengths.specs.StepLines.{IsLikePeerAt, IsLikePeerOf, IsLikeTaskOf}
use Rattle.law_line_lengths.proofs.DispatchProofs.{reply_short}
use Rattle.law_short_lines.specs.ShortLines.{AllShortIsParts, StepsKeepAllShort}
use Rattle.law_short_lines.specs.ShortParts.{HasAllShort, HasShortDetails, HasShortPeers, IsShortDue, IsShortMethod, IsShortPeer, IsShortPeerAt}
use Rattle.law_short_lines.proofs.Objects.{Have}
use Rattle.law_short_lines.proofs.PeerParts.{Stay, live_short, pool_stays}
use Rattle.law_short_lines.proofs.TaskProofs.{Comes, steps_first}
use Rattle.law_short_lines.proofs.Tasks.{due_all, due_stays}

-- ** parts of lines

module _ (d : Definition) (w : World) where
  names_like : (p : Peer) → IsShortPeer d p → IsLikePeerOf d p
  names_like p short = (short.0, all p.state.shape short.1)
    where
      all : (ms : List _) → Each (IsShortMethod d) ms → Each (λ m. IsLikeNameOf d m.name) ms
      all [] each = tt
      all (m ∷ ms) each = (each.0.0, all ms each.1)

  like_at : (number : ℕ) → IsShortPeerAt d w.peers number → IsLikePeerAt d w number
  like_at number short = by (peer_at w number) refl
    where
      by : (o : Option Peer) → peer_at w number ≡ o → IfSome o (IsLikePeerOf d)
      by None e = tt
      by (Some p) e = names_like p (subst (IsShortPeer d) (read_there w.peers number p e) short)

  like_tasks : (tasks : List Task) → Each (IsShortDue d w.peers) tasks → Each (IsLikeTaskOf d w) tasks
  like_tasks [] all = tt
  like_tasks (Beginning e ∷ tasks) all = (all.0, like_tasks tasks all.1)
  like_tasks (Calling call ∷ tasks) all = ((like_at call.peer all.0.0, all.0.1), like_tasks tasks all.1)
  like_tasks (task ∷ tasks) all = (tt, like_tasks tasks all.1)

pub all_short_is_parts : AllShortIsParts
all_short_is_parts d c all = record {
  values = all.values;
  peers = λ id number o lives own. like_at d c.world number (all.peers.objects id number o lives own);
  tasks = like_tasks d c.world c.agenda all.tasks;
}

-- ** one step

module _ (d : Definition) where
  -- the peers of objects, as they are seen
  have_seen : (w : World) → HasShortPeers d w → Have (IsShortPeerAt d w.peers) w.objects
  have_seen w peers = record { each = λ id number is. by id number (living w.objects id) refl is }
    where
      by : (id number : ℕ) (x : Option Object) → living w.objects id ≡ x → peer_seen x ≡ Some (Some number) → IsShortPeerAt d w.peers number
      by id number None e is = absurd (cc is)
      by id number (Some o) e is = peers.objects id number o e (let f : ◌≡◌ {A = Option (Option ℕ)} (Some o.peer) (Some (Some number)) = is in cc f)

  -- where peers stay short, they are short in the new world
  new_peers : (w v : World) → Stay d w.peers v.peers → HasShortPeers d w → Have (IsShortPeerAt d w.peers) v.objects → HasShortPeers d v
  new_peers w v stay before have = record {
    pool = pool_stays d w.peers v.peers stay before.pool;
    objects = λ id number o lives own. stay.at number (have.each id number (ap peer_seen lives ∙ ap (λ (p : Option ℕ). Some p) own));
  }

  fits_listed : (reply : Option Reply) → IfSome reply (Fits d) → Each (Fits d) (listed reply)
  fits_listed None fit = tt
  fits_listed (Some r) fit = (fit, tt)

  fits_some : (reply : Option Reply) → Each (Fits d) (listed reply) → IfSome reply (Fits d)
  fits_some None fit = tt
  fits_some (Some r) fit = fit.0

pub steps_keep_all_short : StepsKeepAllShort
steps_keep_all_short d texts details c all reply fit next s =
    let lives = (step_lives d reply c next s).lives in
    let stay : Stay d c.world.peers next.world.peers = live_short d lives (fits_listed d reply fit) in
    let have = have_seen d c.world all.peers in
    let new = kept_at (Comes d details c.world all.peers.pool have) (step d reply c) next
    (steps_first d details c.world all.peers.pool have reply c.agenda (due_all d c.world.peers c.agenda all.tasks) c.counted (next_unheld (mentions d c) c.world.objects)) s.leads in
    record {
      values = steps_keep_short d texts c all.values reply (reply_short d reply (fits_listed d reply fit)) next s;
      peers = new_peers d c.world next.world stay all.peers new.0;
      tasks = due_stays d c.world.peers next.world.peers stay next.agenda new.1;
    }

-- ** dispatches

module _ (d : Definition) (texts : HasShortTexts d) (details : HasShortDetails d) where
  stays : (count : ℕ) (replies : List Reply) → Each (Fits d) replies → (c e : Config) → HasAllShort d c → Steps d count replies c e → HasAllShort d e
  stays zero replies fit c e all h = subst (HasAllShort d) h.1 all
  stays (suc count) replies fit c e all h =
      let parts = both_fit d (listed h.reply) h.later (subst (Each (Fits d)) h.replied fit) in
      stays count h.later parts.1 h.mid e (steps_keep_all_short d texts details c all h.reply (fits_some d h.reply parts.0) h.mid h.step) h.follows

  -- wherever a dispatch comes to from where all is short, all is short
  pub throughout_short : (c : Config) → HasAllShort d c → Throughout d c (HasAllShort d)
  throughout_short c all replies fit at r = stays r.count replies fit c at all r.steps
