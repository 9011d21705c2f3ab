-- What the lines of a step are made of: each line that a step says is one of short parts, where what the machine holds is short.
use Rattle.std.specs.Prelude.{◌≡◌, ℕ, ◌≤◌, length, List, Option, Some, IfSome, ⊤}
use Rattle.ui_machine.specs.Definition.{Definition}
use Rattle.ui_machine.specs.Definition.Signals.{Method}
use Rattle.ui_machine.specs.Output.Lines.{Line}
use Rattle.ui_machine.specs.Runs.{Step}
use Rattle.ui_machine.specs.State.Config.{Config, World, peer_at}
use Rattle.ui_machine.specs.State.Objects.{Object, living}
use Rattle.ui_machine.specs.State.Peers.{Peer, Reply}
use Rattle.ui_machine.specs.State.Tasks.{Beginning, Calling, Task}
use Rattle.law_typing.specs.Verdict.Accepted.{Each}
use Rattle.law_short_texts.specs.ShortValues.{AllShort, HasShortAnswer, HasShortTexts}
use Rattle.law_line_lengths.specs.LineLengths.{GrowsBy, IsLikeNameOf, detail_length, most_arguments}

-- a transcript grows by lines of short parts
pub record Grows (d : Definition) (before after : List (List ℕ)) : Type 0 where
  pub said : List Line
  pub by : GrowsBy d said before after

-- a peer's name and those of its methods are no longer than the longest name of the definition
abbrev pub IsLikePeerOf : Definition → Peer → Type 0
IsLikePeerOf d p = IsLikeNameOf d p.name × Each (λ (m : Method). IsLikeNameOf d m.name) p.state.shape

-- and so it is of the peer of this number, if it is in the pool
abbrev pub IsLikePeerAt : Definition → World → ℕ → Type 0
IsLikePeerAt d w number = IfSome (peer_at w number) (IsLikePeerOf d)

-- and of the peer of each object that lives, if it has one; a peer that no object has may be called as it is
abbrev pub HasLikePeers : Definition → World → Type 0
HasLikePeers d w = (id number : ℕ) (o : Object) → living w.objects id ≡ Some o → o.peer ≡ Some number → IsLikePeerAt d w number

-- An emission that is due has a short detail, if it has one. A call that is due is of such a peer, and has no more arguments than a
-- signal or a method.
abbrev pub IsLikeTaskOf : Definition → World → Task → Type 0
IsLikeTaskOf d w (Beginning e) = IfSome e.detail (λ (s : List ℕ). length s ≤ detail_length)
IsLikeTaskOf d w (Calling call) = IsLikePeerAt d w call.peer × (length call.args ≤ most_arguments d)
IsLikeTaskOf d w _ = ⊤

-- what a configuration holds is short: its values, the names of the peers that its objects have, and what its tasks bring
pub record HasShortParts (d : Definition) (c : Config) : Type 0 where
  pub values : AllShort c
  pub peers : HasLikePeers d c.world
  pub tasks : Each (IsLikeTaskOf d c.world) c.agenda

-- from such a configuration each step says lines of short parts only
abbrev pub StepsSayShortLines : Type 0
StepsSayShortLines =
    (d : Definition) → HasShortTexts d → (c : Config) → HasShortParts d c → (reply : Option Reply) → IfSome reply HasShortAnswer →
    (next : Config) → Step d reply c next → Grows d c.world.transcript next.world.transcript
