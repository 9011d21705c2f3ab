-- How the machine follows from point to point.
use Rattle.std.proofs.Common.{◌≡◌, refl, ap, sym, ◌∙◌, subst, ℕ, List, [], ◌∷◌, ◌++◌, map, length, Option}
use Rattle.std.proofs.lemmas.List.{length-map}
use Rattle.ui_machine.specs.Definition.{Definition}
use Rattle.ui_machine.specs.Runs.{Fits, HasEnded, Reaches}
use Rattle.ui_machine.specs.Seq.{read}
use Rattle.ui_machine.specs.State.Config.{Config, World}
use Rattle.ui_machine.specs.State.Peers.{Peer, Reply, no_peer}
use Rattle.ui_machine.specs.State.Tasks.{Task}
use Rattle.law_peers.specs.Forgetting.{forgotten, forgotten_at}
use Rattle.law_peers.specs.PeerLaws.{peer_in}
use Rattle.law_peers.proofs.RunLives.{reaches_lives}
use Rattle.law_steps.proofs.Served.SafeProofs.{safe_stays}
use Rattle.law_typing.specs.Verdict.Accepted.{Each}
use Rattle.machine_laws.specs.GoneLaws.{pruned}
use Rattle.engine_world.specs.Quiet.{IsQuiet, holders}
use Rattle.engine_world.specs.Standing as engine
use Rattle.engine_world.specs.Standing.{gone_handlers, without_gone}
use Rattle.native_peers.specs.Seen.{Relations, SameRelations, Seen}
use Rattle.engine_dispatches.specs.Following.{Arrives, Breaks, Follows, Halting, Point, Stands}
use Rattle.engine_dispatches.specs.PoolView.{GivenBy, IsLeft, Knows, Replied, as_shown, forgotten_seen, one_more, seen_of, with_seen, world_at}
use Rattle.engine_dispatches.specs.Safety.{ComesOfSafe}
use Rattle.engine_dispatches.proofs.Lifting.{lift}
use Rattle.engine_dispatches.proofs.Living.{all_seen, map_read, no_seen, none_replies, same_lists, seen_at, shut_seen}
use Rattle.engine_dispatches.proofs.Reaching.{reaches_here, reaches_on}
use Rattle.engine_dispatches.proofs.Standing.{unheld_so}

-- ** replies

pub each_both : {A : Type 0} (P : A → Type 0) (xs ys : List A) → Each P xs → Each P ys → Each P (xs ++ ys)
each_both P [] ys first later = later
each_both P (x ∷ xs) ys first later = (first.0, each_both P xs ys first.1 later)

pub fitting : (d : Definition) (may : Relations) (rs : List Reply) → Each (GivenBy may) rs → Each (Fits d) rs
fitting d may [] given = tt
fitting d may (r ∷ rs) given = (given.0.fits d, fitting d may rs given.1)

-- what peers may do stays as it is
pub given_before : (may later : Relations) → SameRelations may later → (rs : List Reply) → Each (GivenBy later) rs → Each (GivenBy may) rs
given_before may later same [] given = tt
given_before may later same (r ∷ rs) given = (
  record { allowed = (same r.question.peer r.question.state r.question.method r.question.args r.answer r.state).1 given.0.allowed; fits = given.0.fits },
  given_before may later same rs given.1,
)

pub replied_before : {may later : Relations} {P Q : List Reply → Type 0} → SameRelations may later → ((rs : List Reply) → P rs → Q rs) → Replied later P → Replied may Q
replied_before {may} {later} same on r = record { replies = r.replies; given = given_before may later same r.replies r.given; so = on r.replies r.so }

-- one after the other
pub same_on : {a b c : Relations} → SameRelations a b → SameRelations b c → SameRelations a c
same_on first later k s m args answer t =
    let p = first k s m args answer t in
    let q = later k s m args answer t in
    (λ x. q.0 (p.0 x), λ x. p.1 (q.1 x))

pub same_here : (a : Relations) → SameRelations a a
same_here a k s m args answer t = (λ x. x, λ x. x)

-- ** peers

-- what is known of peers that are seen so
pub forgotten_as_seen : (ps : List Peer) → map forgotten_seen (map seen_of ps) ≡ map seen_of (map forgotten ps)
forgotten_as_seen [] = refl
forgotten_as_seen (p ∷ ps) = ap (λ (l : List Seen). forgotten_seen (seen_of p) ∷ l) (forgotten_as_seen ps)

pub seen_with : (ps : List Peer) → with_seen (map seen_of ps) (map forgotten ps) ≡ ps
seen_with [] = refl
seen_with (p ∷ ps) = ap (λ (l : List Peer). p ∷ l) (seen_with ps)

pub forgets_to : (pool : List Seen) (ps : List Peer) → map forgotten_seen pool ≡ map seen_of ps → map forgotten (with_seen pool ps) ≡ ps
forgets_to [] [] e = refl
forgets_to [] (p ∷ ps) e = absurd (cc e)
forgets_to (s ∷ pool) [] e = absurd (cc e)
forgets_to (s ∷ pool) (p ∷ ps) e =
    let first : forgotten_seen s ≡ seen_of p = cc e in
    let rest : map forgotten_seen pool ≡ map seen_of ps = cc e in
    ap (λ (x : Seen). record { name = x.name; state = x.state; holder = p.holder } ∷ map forgotten (with_seen pool ps)) first
    ∙ ap (λ (l : List Peer). p ∷ l) (forgets_to pool ps rest)

pub with_seen_is : (pool : List Seen) (ps : List Peer) → map seen_of (with_seen pool ps) ≡ pool
with_seen_is [] ps = refl
with_seen_is (s ∷ pool) [] = ap (λ (l : List Seen). s ∷ l) (with_seen_is pool [])
with_seen_is (s ∷ pool) (p ∷ ps) = ap (λ (l : List Seen). s ∷ l) (with_seen_is pool ps)

-- ** whose peers are

held_seen : (qs ps : List Peer) → holders ps ≡ holders qs → with_seen (map seen_of qs) ps ≡ qs
held_seen [] ps same = refl
held_seen (q ∷ qs) [] same = absurd (cc same)
held_seen (q ∷ qs) (p ∷ ps) same =
    let first : p.holder ≡ q.holder = cc same in
    let rest : holders ps ≡ holders qs = cc same in
    ap (λ (h : Option ℕ). record { name = q.name; state = q.state; holder = h } ∷ with_seen (map seen_of qs) ps) first
    ∙ ap (λ (l : List Peer). q ∷ l) (held_seen qs ps rest)

-- peers are those that are seen so in a pool, with the holders that others have too
pub left_as : (qs ps : List Peer) (pool : List Seen) → map seen_of qs ≡ pool → holders ps ≡ holders qs → qs ≡ with_seen pool ps
left_as qs ps pool seen same = sym (ap (λ (l : List Seen). with_seen l ps) (sym seen) ∙ held_seen qs ps same)

held_forgotten : (ps : List Peer) → holders (map forgotten ps) ≡ holders ps
held_forgotten [] = refl
held_forgotten (p ∷ ps) = ap (λ (l : List (Option ℕ)). p.holder ∷ l) (held_forgotten ps)

-- peers that are known are whose they were, however they are seen
pub held_with : (pool : List Seen) (ps : List Peer) → map forgotten_seen pool ≡ map seen_of ps → holders (with_seen pool ps) ≡ holders ps
held_with [] [] e = refl
held_with [] (p ∷ ps) e = absurd (cc e)
held_with (s ∷ pool) [] e = absurd (cc e)
held_with (s ∷ pool) (p ∷ ps) e =
    let rest : map forgotten_seen pool ≡ map seen_of ps = cc e in
    ap (λ (l : List (Option ℕ)). p.holder ∷ l) (held_with pool ps rest)

-- as they are seen, whoever else has the same holders
pub seen_so : (pool : List Seen) (ps qs : List Peer) → holders qs ≡ holders ps → with_seen pool ps ≡ with_seen pool qs
seen_so [] ps qs same = refl
seen_so (s ∷ pool) [] [] same = refl
seen_so (s ∷ pool) [] (q ∷ qs) same = absurd (cc same)
seen_so (s ∷ pool) (p ∷ ps) [] same = absurd (cc same)
seen_so (s ∷ pool) (p ∷ ps) (q ∷ qs) same =
    let first : q.holder ≡ p.holder = cc same in
    let rest : holders qs ≡ holders ps = cc same in
    ap (λ (h : Option ℕ). record { name = s.name; state = s.state; holder = h } ∷ with_seen pool ps) (sym first)
    ∙ ap (λ (l : List Peer). record { name = s.name; state = s.state; holder = q.holder } ∷ l) (seen_so pool ps qs rest)

-- ** what is seen of them

-- what is seen of peers, by all that is known of them, and by what is seen of each but whether it is open
pub seen_by : (w : World) (qs : List Peer) (pool : List Seen) → map forgotten qs ≡ w.peers → Knows w pool
    → ((k : ℕ) → shut_seen (seen_of (peer_in qs k)) ≡ shut_seen (read no_seen pool k)) → map seen_of qs ≡ pool
seen_by w qs pool known knows rest = same_lists no_seen (map seen_of qs) pool long same
  where
    long : length (map seen_of qs) ≡ length pool
    long =
        length-map qs seen_of ∙ sym (length-map qs forgotten) ∙ ap (λ (l : List Peer). length l) known ∙ sym (length-map w.peers seen_of)
        ∙ ap (λ (l : List Seen). length l) (sym knows) ∙ length-map pool forgotten_seen

    opens : (k : ℕ) → (peer_in qs k).state.is_open ≡ (read no_seen pool k).state.is_open
    opens k =
        ap (λ (p : Peer). p.state.is_open) (sym (map_read forgotten no_peer qs k))
        ∙ ap (λ (l : List Peer). (peer_in l k).state.is_open) known
        ∙ ap (λ (s : Seen). s.state.is_open) (sym (seen_at w.peers k))
        ∙ ap (λ (l : List Seen). (read no_seen l k).state.is_open) (sym knows)
        ∙ ap (λ (s : Seen). s.state.is_open) (map_read forgotten_seen no_seen pool k)

    same : (k : ℕ) → read no_seen (map seen_of qs) k ≡ read no_seen pool k
    same k = seen_at qs k ∙ all_seen (seen_of (peer_in qs k)) (read no_seen pool k) (rest k) (opens k)

module _ (d : Definition) where
  pub known_at : (p : Point) (c : Config) → Stands p c → map forgotten c.world.peers ≡ p.view.world.peers
  known_at p c stands = ap (λ (x : Config). x.world.peers) stands.view

  -- a peer is the machine's object's that has got it
  pub held_there : (p : Point) (c : Config) → Stands p c → holders p.view.world.peers ≡ holders c.world.peers
  held_there p c stands = ap holders (sym (known_at p c stands)) ∙ held_forgotten c.world.peers

  -- ** steps in which no peer replies

  pub follows_quietly : (may : Relations) (p q : Point) → engine.Follows d p.view q.view → Knows q.view.world q.pool → map shut_seen q.pool ≡ map shut_seen p.pool
      → Follows d may p q
  follows_quietly may p q follows knows same = record { replies = []; given = tt; arrives = there }
    where
      there : (c : Config) → Stands p c → Arrives d [] c q
      there c stands =
          let m = follows.arrives (forgotten_at c) stands.view in
          let x = lift d c m.at m.reached in
          let view = ap without_gone x.is ∙ m.stands in
          let lives = reaches_lives d [] c x.at x.reached in
          record {
            at = x.at;
            reached = x.reached;
            stands = record {
              view = view;
              peers = seen_by q.view.world x.at.world.peers q.pool (ap (λ (y : Config). y.world.peers) view) knows (λ k.
                  none_replies d c.world.peers x.at.world.peers lives.lines lives.lives k
                  ∙ ap shut_seen (sym (seen_at c.world.peers k) ∙ ap (λ (l : List Seen). read no_seen l k) stands.peers)
                  ∙ sym (map_read shut_seen no_seen p.pool k)
                  ∙ ap (λ (l : List Seen). read no_seen l k) (sym same)
                  ∙ map_read shut_seen no_seen q.pool k);
            };
          }

  -- ** runs

  pub follows_here : (may : Relations) (p : Point) → Follows d may p p
  follows_here may p = record { replies = []; given = tt; arrives = λ c stands. record { at = c; reached = reaches_here d c; stands = stands } }

  -- one after the other
  pub follows_on : {may : Relations} {p q r : Point} → Follows d may p q → Follows d may q r → Follows d may p r
  follows_on first later = record {
    replies = first.replies ++ later.replies;
    given = each_both _ first.replies later.replies first.given later.given;
    arrives = λ c stands.
        let x = first.arrives c stands in
        let y = later.arrives x.at x.stands in
        record { at = y.at; reached = reaches_on d x.reached y.reached; stands = y.stands };
  }

  -- by what peers might do before
  pub follows_before : {may later : Relations} {p q : Point} → SameRelations may later → Follows d later p q → Follows d may p q
  follows_before {may} {later} same f = record { replies = f.replies; given = given_before may later same f.replies f.given; arrives = f.arrives }

  pub follows_to : {may : Relations} {p : Point} {pool : List Seen} {v x : Config} → v ≡ x → Follows d may p (record { pool = pool; view = v }) → Follows d may p (record { pool = pool; view = x })
  follows_to {may} {p} {pool} same f = subst (λ (y : Config). Follows d may p (record { pool = pool; view = y })) same f

  -- what safe configurations lead to is safe
  pub safe_on : {may : Relations} {room : ℕ} {p q : Point} → ComesOfSafe d room p → Follows d may p q → ComesOfSafe d room q
  safe_on {may} from follows =
      let there = follows.arrives from.at from.stands in
      let fits = fitting d may follows.replies follows.given in
      record {
        at = there.at;
        safe = record {
          most = from.safe.most;
          safe = safe_stays d from.safe.most from.at from.safe.safe follows.replies fits there.at there.reached;
          asks = λ replies fit at reached. from.safe.asks (follows.replies ++ replies) (each_both (Fits d) follows.replies replies fits fit) at (reaches_on d there.reached reached);
          names = λ replies fit at reached. from.safe.names (follows.replies ++ replies) (each_both (Fits d) follows.replies replies fits fit) at (reaches_on d there.reached reached);
          meanings = λ replies fit at reached. from.safe.meanings (follows.replies ++ replies) (each_both (Fits d) follows.replies replies fits fit) at (reaches_on d there.reached reached);
          few = λ replies fit at reached. from.safe.few (follows.replies ++ replies) (each_both (Fits d) follows.replies replies fits fit) at (reaches_on d there.reached reached);
          numbers = λ replies fit at reached. from.safe.numbers (follows.replies ++ replies) (each_both (Fits d) follows.replies replies fits fit) at (reaches_on d there.reached reached);
        };
        stands = there.stands;
      }

  -- the room is what it was
  pub safe_in : {old new : ℕ} {p : Point} → new ≡ old → ComesOfSafe d old p → ComesOfSafe d new p
  safe_in {old} {new} {p} same from = subst (λ (room : ℕ). ComesOfSafe d room p) (sym same) from

  -- the engine knows the pool there
  pub safe_knows : {room : ℕ} {p : Point} → ComesOfSafe d room p → Knows p.view.world p.pool
  safe_knows {room} {p} from =
      ap (λ (l : List Seen). map forgotten_seen l) (sym from.stands.peers)
      ∙ forgotten_as_seen from.at.world.peers
      ∙ ap (λ (l : List Peer). map seen_of l) (known_at p from.at from.stands)

  -- ** where no memory is found

  -- here
  pub cut_off : (may : Relations) (p : Point) (pool : List Seen) (w : World) → p.pool ≡ pool → IsQuiet p.view.world w → Breaks d may p (with_seen pool w.peers) w.transcript
  cut_off may p pool w same quiet = record {
    replies = [];
    given = tt;
    breaks = λ c stands. record {
      halts = record { at = c; reached = reaches_here d c; stops = tt; lines = ap (λ (x : Config). x.world.transcript) stands.view ∙ sym quiet.0 };
      leaves = as_shown (left_as c.world.peers w.peers pool (stands.peers ∙ same) (quiet.1 ∙ held_there p c stands));
    };
  }

  pub halting_on : {may : Relations} {first later : List Reply} {c m : Config} {left : List Peer} {shown : List (List ℕ)} → Reaches d first c m → Halting d may later m left shown
      → Halting d may (first ++ later) c left shown
  halting_on r h = record {
    halts = record { at = h.halts.at; reached = reaches_on d r h.halts.reached; stops = h.halts.stops; lines = h.halts.lines };
    leaves = h.leaves;
  }

  pub breaks_on : {may : Relations} {p q : Point} {left : List Peer} {shown : List (List ℕ)} → Follows d may p q → Breaks d may q left shown → Breaks d may p left shown
  breaks_on first later = record {
    replies = first.replies ++ later.replies;
    given = each_both _ first.replies later.replies first.given later.given;
    breaks = λ c stands. let x = first.arrives c stands in halting_on x.reached (later.breaks x.at x.stands);
  }

  pub left_before : {may later : Relations} {at : Config} {left : List Peer} → SameRelations may later → IsLeft d later at left → IsLeft d may at left
  left_before same (as_shown seen) = as_shown seen
  left_before {may} {later} same (one_more o) =
      one_more (record { reply = o.reply; given = (given_before may later same (o.reply ∷ []) (o.given, tt)).0; asks = o.asks; peers = o.peers })

  pub breaks_before : {may later : Relations} {p : Point} {left : List Peer} {shown : List (List ℕ)} → SameRelations may later → Breaks d later p left shown → Breaks d may p left shown
  breaks_before {may} {later} same b = record {
    replies = b.replies;
    given = given_before may later same b.replies b.given;
    breaks = λ c stands. let h = b.breaks c stands in record { halts = h.halts; leaves = left_before same h.leaves };
  }

  pub halting_before : {may later : Relations} {replies : List Reply} {c : Config} {left : List Peer} {shown : List (List ℕ)} → SameRelations may later
      → Halting d later replies c left shown → Halting d may replies c left shown
  halting_before same h = record { halts = h.halts; leaves = left_before same h.leaves }

  -- ** where a dispatch begins and ends

  -- the machine's configuration with the peers of the pool
  abbrev pub real : Point → Config
  real p = record p.view { world = world_at p.pool p.view.world }

  pub stands_there : (p : Point) → without_gone p.view ≡ p.view → Knows p.view.world p.pool → Stands p (real p)
  stands_there p whole knows = record {
    view = ap (λ (l : List Peer). without_gone (record p.view { world = record p.view.world { peers = l } })) (forgets_to p.pool p.view.world.peers knows) ∙ whole;
    peers = with_seen_is p.pool p.view.world.peers;
  }

  -- its world is the engine's with the peers of the pool
  pub world_there : (p : Point) (c : Config) → Stands p c → c.world ≡ world_at p.pool p.view.world
  world_there p c stands =
      ap (λ (l : List Peer). record c.world { peers = l }) (sym (seen_with c.world.peers)
      ∙ ap (λ (l : List Seen). with_seen l (map forgotten c.world.peers)) stands.peers
      ∙ ap (λ (l : List Peer). with_seen p.pool l) (known_at p c stands))
      ∙ ap (λ (w : World). record w { peers = with_seen p.pool p.view.world.peers }) (ap (λ (x : Config). x.world) stands.view)

  no_tasks : (f : Task → Task) (ts : List Task) → map f ts ≡ [] → ts ≡ []
  no_tasks f [] none = refl
  no_tasks f (t ∷ ts) none = absurd (cc none)

  -- where the engine has ended so has the machine
  pub ended_there : (p : Point) (c : Config) → Stands p c → HasEnded d p.view → HasEnded d c
  ended_there p c stands ended = record {
    agenda = no_tasks (pruned (gone_handlers c.world)) c.agenda (ap (λ (x : Config). x.agenda) stands.view ∙ ended.agenda);
    floating = ap (λ (x : Config). x.world.floating) stands.view ∙ ended.floating;
    held = unheld_so d p.view (forgotten_at c) stands.view ∙ ended.held;
  }
