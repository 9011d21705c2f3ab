-- Lines that are no longer kept make no difference to where the machine is, nor to where it comes to.
use Rattle.std.proofs.Common.{◌≡◌, refl, ap, sym, ◌∙◌, subst, ℕ, List, ◌++◌, ◌∷◌, [], Option, None, Some, append_assoc}
use Rattle.std.specs.Prelude.{IfSome}
use Rattle.ui_machine.specs.Definition.{Definition}
use Rattle.ui_machine.specs.Output.Lines.{Line}
use Rattle.ui_machine.specs.Output.Text.{text_of_line}
use Rattle.ui_machine.specs.Runs.{HasEnded, Reaches}
use Rattle.ui_machine.specs.State.Config.{Config, World, said}
use Rattle.ui_machine.specs.State.Peers.{Peer, Question, Reply}
use Rattle.ui_machine.specs.Steps.{question}
use Rattle.machine_laws.specs.FrontLaws.{fronted, fronted_at, mapped}
use Rattle.machine_laws.proofs.FrontProofs.{question_stays, step_appends}
use Rattle.machine_laws.proofs.FrontRuns.{steps_append}
use Rattle.law_runs.specs.Meanings.{HasMeanings}
use Rattle.law_typing.specs.Good.Living.{AllNamesLiving}
use Rattle.native_peers.specs.Seen.{Relations}
use Rattle.engine_dispatches.specs.Courses.{fronted_point}
use Rattle.engine_dispatches.specs.Following.{Breaks, Follows, Halting, Point, Stands}
use Rattle.engine_dispatches.specs.PoolView.{IsLeft, as_shown, one_more}
use Rattle.engine_dispatches.specs.Safety.{ComesOfSafe, HasNumbersLeft, IsApt, IsSafe}
use Rattle.engine_dispatches.proofs.Named.{tasks_elsewhere}

module _ (d : Definition) (front : List (List ℕ)) where
  behind : {replies : List Reply} {c e : Config} → Reaches d replies c e → Reaches d replies (fronted_at front c) (fronted_at front e)
  behind {replies} {c} {e} r = (steps_append d 0 replies).1 front c e r

  -- with the lines that are kept at the point alone
  abbrev kept_at : Point → Config → Config
  kept_at p c = record c { world = record c.world { transcript = p.view.world.transcript } }

  module _ (p : Point) (c : Config) (stands : Stands (fronted_point front p) c) where
    pub stands_kept : Stands p (kept_at p c)
    stands_kept = record {
      view = ap (λ (x : Config). record x { world = record x.world { transcript = p.view.world.transcript } }) stands.view;
      peers = stands.peers;
    }

    pub kept_behind : fronted_at front (kept_at p c) ≡ c
    kept_behind =
        ap (λ (lines : List (List ℕ)). record c { world = record c.world { transcript = lines } }) (sym (ap (λ (x : Config). x.world.transcript) stands.view))

  -- ** where it comes to

  pub follows_behind : {may : Relations} {p q : Point} → Follows d may p q → Follows d may (fronted_point front p) (fronted_point front q)
  follows_behind {may} {p} {q} f = record {
    replies = f.replies;
    given = f.given;
    arrives = λ c stands.
        let x = f.arrives (kept_at p c) (stands_kept p c stands) in
        record {
          at = fronted_at front x.at;
          reached = subst (λ (from : Config). Reaches d f.replies from (fronted_at front x.at)) (kept_behind p c stands) (behind x.reached);
          stands = record { view = ap (fronted_at front) x.stands.view; peers = x.stands.peers };
        };
  }

  left_behind : {may : Relations} {at : Config} {left : List Peer} → IsLeft d may at left → IsLeft d may (fronted_at front at) left
  left_behind (as_shown same) = as_shown same
  left_behind {may} {at} {left} (one_more o) = one_more (record { reply = o.reply; given = o.given; asks = question_stays front d at ∙ o.asks; peers = o.peers })

  pub halting_behind : {may : Relations} {replies : List Reply} {c : Config} {left : List Peer} {shown : List (List ℕ)} → Halting d may replies c left shown
      → Halting d may replies (fronted_at front c) left (front ++ shown)
  halting_behind h = record {
    halts = record {
      at = fronted_at front h.halts.at;
      reached = behind h.halts.reached;
      stops = tt;
      lines = ap (λ (lines : List (List ℕ)). front ++ lines) h.halts.lines;
    };
    leaves = left_behind h.leaves;
  }

  pub breaks_behind : {may : Relations} {p : Point} {left : List Peer} {shown : List (List ℕ)} → Breaks d may p left shown → Breaks d may (fronted_point front p) left (front ++ shown)
  breaks_behind {may} {p} {left} {shown} b = record {
    replies = b.replies;
    given = b.given;
    breaks = λ c stands.
        subst (λ (from : Config). Halting d may b.replies from left (front ++ shown)) (kept_behind p c stands)
        (halting_behind (b.breaks (kept_at p c) (stands_kept p c stands)));
  }

  -- ** what is safe

  apt_kept : (c : Config) (q : Option Question) → IfSome q (IsApt d (fronted_at front c)) → IfSome q (IsApt d c)
  apt_kept c None apt = tt
  apt_kept c (Some q) apt = record { there = apt.there; args = apt.args }

  names_kept : (c : Config) → AllNamesLiving d (fronted_at front c) → AllNamesLiving d c
  names_kept c n = record {
    world = record {
      values = n.world.values;
      children = n.world.children;
      handlers = n.world.handlers;
      bindings = n.world.bindings;
      sources = n.world.sources;
      builder = n.world.builder;
      floating = n.world.floating;
    };
    tasks = tasks_elsewhere (fronted_at front c).world c.world refl c.agenda n.tasks;
    room = n.room;
  }

  meanings_kept : (c : Config) → HasMeanings d (fronted_at front c) → HasMeanings d c
  meanings_kept c m = record { bindings = m.bindings; methods = m.methods }

  numbers_kept : (at : Config) → HasNumbersLeft (fronted_at front at) → HasNumbersLeft at
  numbers_kept at left = record { identities = left.identities; handlers = left.handlers }

  pub safe_kept : {room : ℕ} (c : Config) → IsSafe d room (fronted_at front c) → IsSafe d room c
  safe_kept c s = record {
    most = s.most;
    safe = record {
      unstuck = λ replies fit at r arm stuck fits.
          s.safe.unstuck replies fit (fronted_at front at) (behind r) arm (record {
            reply = stuck.reply;
            asks = question_stays front d at ∙ stuck.asks;
            stuck = step_appends front d stuck.reply at ∙ ap (mapped (fronted_at front)) stuck.stuck;
          }) fits;
      shallow = λ replies fit at r. s.safe.shallow replies fit (fronted_at front at) (behind r);
    };
    asks = λ replies fit at r.
        apt_kept at (question d at)
        (subst (λ (q : Option Question). IfSome q (IsApt d (fronted_at front at))) (question_stays front d at) (s.asks replies fit (fronted_at front at) (behind r)));
    names = λ replies fit at r. names_kept at (s.names replies fit (fronted_at front at) (behind r));
    meanings = λ replies fit at r. meanings_kept at (s.meanings replies fit (fronted_at front at) (behind r));
    few = λ replies fit at r. s.few replies fit (fronted_at front at) (behind r);
    numbers = λ replies fit at r. numbers_kept at (s.numbers replies fit (fronted_at front at) (behind r));
  }

  pub comes_of_safe : {room : ℕ} (p : Point) (c : Config) → Stands (fronted_point front p) c → IsSafe d room c → ComesOfSafe d room p
  comes_of_safe {room} p c stands safe = record {
    at = kept_at p c;
    safe = safe_kept (kept_at p c) (subst (IsSafe d room) (sym (kept_behind p c stands)) safe);
    stands = stands_kept p c stands;
  }

  -- ** how a dispatch ends

  pub ends_behind : (c : Config) → HasEnded d c → HasEnded d (fronted_at front c)
  ends_behind c h = record { agenda = h.agenda; floating = h.floating; held = h.held }

  pub says_behind : (w : World) (line : Line) → said d (fronted front w) line ≡ fronted front (said d w line)
  says_behind w line = ap (λ (lines : List (List ℕ)). record w { transcript = lines }) (append_assoc front w.transcript (text_of_line d.types line ∷ []))
