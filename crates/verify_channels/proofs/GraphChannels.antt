-- The channels of a definition's graph, and their numbers.
use Rattle.std.proofs.Common.{◌≡◌, ◌∙◌, inl, inr, refl, sym, ap, subst, ℕ, zero, suc, ◌+◌, ◌<◌, Bool, true, false, cond, List, [], ◌∷◌, ◌++◌, length, map, Option, None, Some, slice_get, arith}
use Rattle.std.specs.Prelude.{◌||◌, is_some}
use Rattle.std.specs.List.{cons_option, filter, list_any}
use Rattle.std.proofs.lemmas.Bool.Decides.{nat_tests}
use Rattle.std.proofs.lemmas.Option.{none-some, same_Some}
use Rattle.ui_machine.specs.Definition.{Definition}
use Rattle.ui_machine.specs.Definition.Signals.{Signal}
use Rattle.ui_machine.specs.Definition.Places.{Place}
use Rattle.ui_machine.specs.Definition.Lookups.{specs_of}
use Rattle.ui_machine.specs.Seq.{read}
use Rattle.law_typing.specs.Graph.{Connection, Graph, Raised, connections, graph, making_of, makings_from, raised_at, set_from}
use Rattle.law_typing.specs.Graph.Channels.{Channel, channels, channels_at, constructed, constructed_at, emitted_at, is_channel, is_filled, present, readable_at, same_channel, signals_at, signals_from}
use Rattle.law_typing.specs.Graph.Ranks.{is_raised}
use Rattle.law_typing.specs.Rules.RegisterKinds.{place_numbers}
use Rattle.law_typing.specs.Laws.{IsIn}
use Rattle.law_typing.specs.Rules.Sites.{sites}
use Rattle.law_typing.specs.Verdict.Accepted.{Each}
use Rattle.law_typing.proofs.EdgeProofs.{channel_is_raised, readable_there}
use Rattle.law_typing.proofs.Lists.{each_append, each_flat}
use Rattle.verify_sketches.specs.Sketches.{AreNamed, AreOnce, channels_in}
use Rattle.law_idle.specs.Idle.{busy_channels, busy_graph, is_busy}
use Rattle.law_idle.proofs.Resting.{same_any}
use Rattle.verify_graph.specs.Numbers.{number_from, number_of, numbers_of}
use Rattle.verify_graph.proofs.Once.{busy_once}
use Rattle.verify_graph.proofs.Positions.{found_is}

each_get : {A : Type 0} (P : A → Type 0) (xs : List A) (n : ℕ) (x : A) → Each P xs → slice_get xs n ≡ Some x → P x
each_get P [] n x all is = absurd (none-some x is)
each_get P (y ∷ ys) zero x all is = subst P (same_Some _ _ is) all.0
each_get P (y ∷ ys) (suc n) x all is = each_get P ys n x all.1 is

-- ** the channels of a graph

-- a channel that is raised has a number
raised_from : (rs : List Raised) (n : ℕ) (c : Channel) → list_any (λ (r : Raised). same_channel r.channel c) rs ≡ is_some (number_from n (map (λ (r : Raised). r.channel) rs) c)
raised_from [] n c = refl
raised_from (r ∷ rs) n c = by (same_channel r.channel c) (raised_from rs (suc n) c)
  where
    by : (b : Bool) → list_any (λ (r : Raised). same_channel r.channel c) rs ≡ is_some (number_from (suc n) (map (λ (r : Raised). r.channel) rs) c) →
        (b || list_any (λ (r : Raised). same_channel r.channel c) rs) ≡ is_some (cond b (Some n) (number_from (suc n) (map (λ (r : Raised). r.channel) rs) c))
    by true later = refl
    by false later = later

module _ (g : Graph) where
  -- the numbers of those of some channels that are raised
  pub named_raised : (cs : List Channel) → AreNamed g (numbers_of (channels_in g) cs) (filter (is_raised g) cs)
  named_raised [] = tt
  named_raised (c ∷ cs) = by (number_of (channels_in g) c) refl (is_raised g c) (raised_from g.raised 0 c) (named_raised cs)
    where
      by : (o : Option ℕ) → number_of (channels_in g) c ≡ o → (b : Bool) → b ≡ is_some (number_of (channels_in g) c) → AreNamed g (numbers_of (channels_in g) cs) (filter (is_raised g) cs) →
          AreNamed g (cons_option o (numbers_of (channels_in g) cs)) (cond b (c ∷ filter (is_raised g) cs) (filter (is_raised g) cs))
      by None is true test later = absurd (let e = ap is_some is in cc)
      by None is false test later = later
      by (Some n) is true test later = (found_is (channels_in g) c n is, later)
      by (Some n) is false test later = absurd (let e = ap is_some is in cc)

  -- and of channels that all are
  pub named_each : (cs : List Channel) → Each (λ c. is_raised g c ≡ true) cs → AreNamed g (numbers_of (channels_in g) cs) cs
  named_each [] all = tt
  named_each (c ∷ cs) all = by (number_of (channels_in g) c) refl (named_each cs all.1)
    where
      by : (o : Option ℕ) → number_of (channels_in g) c ≡ o → AreNamed g (numbers_of (channels_in g) cs) cs →
          AreNamed g (cons_option o (numbers_of (channels_in g) cs)) (c ∷ cs)
      by None is later = absurd (let e = ap is_some is in let f = raised_from g.raised 0 c in let t = all.0 in cc)
      by (Some n) is later = (found_is (channels_in g) c n is, later)

-- ** those of a definition

module _ (d : Definition) where
  busy_back : (ns : List Connection) (cs : List Channel) → filter (λ (r : Raised). is_busy d r.channel) (map (raised_at d ns) cs) ≡ map (raised_at d ns) (filter (is_busy d) cs)
  busy_back ns [] = refl
  busy_back ns (c ∷ cs) = by (is_busy d c) (busy_back ns cs)
    where
      by : (b : Bool) → filter (λ (r : Raised). is_busy d r.channel) (map (raised_at d ns) cs) ≡ map (raised_at d ns) (filter (is_busy d) cs) →
          cond b (raised_at d ns c ∷ filter (λ (r : Raised). is_busy d r.channel) (map (raised_at d ns) cs)) (filter (λ (r : Raised). is_busy d r.channel) (map (raised_at d ns) cs))
          ≡ map (raised_at d ns) (cond b (c ∷ filter (is_busy d) cs) (filter (is_busy d) cs))
      by true later = ap (λ rs. raised_at d ns c ∷ rs) later
      by false later = later

  -- what runs at the busy channels
  pub busy_raised : (busy_graph d).raised ≡ map (raised_at d (connections d (sites d))) (busy_channels d)
  busy_raised = busy_back (connections d (sites d)) (channels d)

  channels_back : (ns : List Connection) (cs : List Channel) → map (λ (r : Raised). r.channel) (map (raised_at d ns) cs) ≡ cs
  channels_back ns [] = refl
  channels_back ns (c ∷ cs) = ap (λ xs. c ∷ xs) (channels_back ns cs)

  pub graph_channels : channels_in (busy_graph d) ≡ busy_channels d
  graph_channels = ap (map (λ (r : Raised). r.channel)) busy_raised ∙ channels_back (connections d (sites d)) (busy_channels d)

  pub graph_once : AreOnce (busy_graph d)
  graph_once = subst (λ (cs : List Channel). (i j : ℕ) (c : Channel) → slice_get cs i ≡ Some c → slice_get cs j ≡ Some c → i ≡ j) (sym graph_channels) (busy_once d)

  abbrev There : Channel → Type 0
  There c = is_channel d c ≡ true

  signals_there : (place n : ℕ) (ss : List Signal) → 0 < n → n + length ss ≡ length (signals_at d place) → Each There (signals_from place n ss)
  signals_there place n [] above is = tt
  signals_there place n (s ∷ ss) above is = (
    (let low : n < length (signals_at d place) = omega (arith, is) in grind (arith, nat_tests)),
    signals_there place (suc n) ss (omega arith) (omega (arith, is)),
  )

  emitted_there : (place : ℕ) (ss : List Signal) → length ss ≡ length (signals_at d place) → Each There (emitted_at place ss)
  emitted_there place [] is = tt
  emitted_there place (s ∷ ss) is = signals_there place 1 ss (omega arith) (omega (arith, is))

  constructed_there : (place : ℕ) (b : Bool) → is_filled (constructed_at d place) ≡ b → Each There (cond b (constructed place ∷ []) [])
  constructed_there place true is = (is, tt)
  constructed_there place false is = tt

  -- each of the channels is one
  pub each_channel : Each There (channels d)
  each_channel =
      each_flat There (channels_at d) (place_numbers d)
      (λ place h. each_append There (cond (is_filled (constructed_at d place)) (constructed place ∷ []) []) (readable_at d place ++ emitted_at place (signals_at d place))
      (constructed_there place (is_filled (constructed_at d place)) refl)
      (each_append There (readable_at d place) (emitted_at place (signals_at d place)) (readable_there d place) (emitted_there place (signals_at d place) refl)))

  each_kept : (test : Channel → Bool) (cs : List Channel) → Each There cs → Each There (filter test cs)
  each_kept test [] all = tt
  each_kept test (c ∷ cs) all = by (test c) (each_kept test cs all.1)
    where
      by : (b : Bool) → Each There (filter test cs) → Each There (cond b (c ∷ filter test cs) (filter test cs))
      by true later = (all.0, later)
      by false later = later

  -- and so is each busy one
  each_busy : Each There (busy_channels d)
  each_busy = each_kept (is_busy d) (channels d) each_channel

  -- a busy channel is raised where it is one
  pub busy_is_raised : (c : Channel) → is_busy d c ≡ true → is_channel d c ≡ true → is_raised (busy_graph d) c ≡ true
  busy_is_raised c busy is = same_any (is_busy d) c busy (graph d).raised ∙ channel_is_raised d c is

  not_raised : (c : Channel) → is_channel d c ≡ false → is_raised (busy_graph d) c ≡ false
  not_raised c is = by (number_of (channels_in (busy_graph d)) c) refl
    where
      by : (o : Option ℕ) → number_of (channels_in (busy_graph d)) c ≡ o → is_raised (busy_graph d) c ≡ false
      by None number = raised_from (busy_graph d).raised 0 c ∙ ap is_some number
      by (Some n) number =
          let at : slice_get (busy_channels d) n ≡ Some c = ap (λ cs. slice_get cs n) (sym graph_channels) ∙ found_is (channels_in (busy_graph d)) c n number in
          let there = each_get There (busy_channels d) n c each_busy at in
          absurd (cc)

  -- the numbers of those that are there, where these are busy
  pub named_present : (cs : List Channel) → ((c : Channel) → IsIn c (present d cs) → is_busy d c ≡ true) →
      AreNamed (busy_graph d) (numbers_of (channels_in (busy_graph d)) cs) (present d cs)
  named_present cs busy = subst (AreNamed (busy_graph d) (numbers_of (channels_in (busy_graph d)) cs)) (sym (kept cs busy)) (named_raised (busy_graph d) cs)
    where
      kept : (xs : List Channel) → ((c : Channel) → IsIn c (present d xs) → is_busy d c ≡ true) → filter (is_channel d) xs ≡ filter (is_raised (busy_graph d)) xs
      kept [] busy = refl
      kept (x ∷ xs) busy = by (is_channel d x) refl busy (kept xs)
        where
          by : (b : Bool) → is_channel d x ≡ b → ((c : Channel) → IsIn c (cond b (x ∷ present d xs) (present d xs)) → is_busy d c ≡ true) →
              (((c : Channel) → IsIn c (present d xs) → is_busy d c ≡ true) → filter (is_channel d) xs ≡ filter (is_raised (busy_graph d)) xs) →
              cond b (x ∷ filter (is_channel d) xs) (filter (is_channel d) xs)
              ≡ cond (is_raised (busy_graph d) x) (x ∷ filter (is_raised (busy_graph d)) xs) (filter (is_raised (busy_graph d)) xs)
          by true is all later =
              ap (λ ys. x ∷ ys) (later (λ c h. all c (inr h)))
              ∙ sym (ap (λ b. cond b (x ∷ filter (is_raised (busy_graph d)) xs) (filter (is_raised (busy_graph d)) xs)) (busy_is_raised x (all x (inl refl)) is))
          by false is all later =
              later all ∙ sym (ap (λ b. cond b (x ∷ filter (is_raised (busy_graph d)) xs) (filter (is_raised (busy_graph d)) xs)) (not_raised x is))

  pub named_there : (cs : List Channel) → Each There cs → ((c : Channel) → IsIn c cs → is_busy d c ≡ true) → AreNamed (busy_graph d) (numbers_of (channels_in (busy_graph d)) cs) cs
  named_there cs all busy = named_each (busy_graph d) cs (to cs all busy)
    where
      to : (xs : List Channel) → Each There xs → ((c : Channel) → IsIn c xs → is_busy d c ≡ true) → Each (λ c. is_raised (busy_graph d) c ≡ true) xs
      to [] all busy = tt
      to (x ∷ xs) all busy = (busy_is_raised x (busy x (inl refl)) all.0, to xs all.1 (λ c h. busy c (inr h)))

  -- ** makings

  each_present : (cs : List Channel) → Each There (present d cs)
  each_present [] = tt
  each_present (c ∷ cs) = by (is_channel d c) refl (each_present cs)
    where
      by : (b : Bool) → is_channel d c ≡ b → Each There (present d cs) → Each There (cond b (c ∷ present d cs) (present d cs))
      by true is later = (is, later)
      by false is later = later

  made_there : (place : ℕ) (ps : List Place) (n : ℕ) → Each There (read [] (makings_from d place ps) n)
  made_there place [] n = tt
  made_there place (p ∷ ps) zero = each_present (constructed place ∷ set_from place p.given 0 (specs_of d p.class))
  made_there place (p ∷ ps) (suc n) = made_there (suc place) ps n

  pub making_there : (o : Option ℕ) → Each There (making_of d o)
  making_there None = tt
  making_there (Some place) = made_there 0 d.places place

  -- a busy channel has a number
  pub has_number : (c : Channel) → is_busy d c ≡ true → is_channel d c ≡ true → is_some (number_of (channels_in (busy_graph d)) c) ≡ true
  has_number c busy is = sym (raised_from (busy_graph d).raised 0 c) ∙ busy_is_raised c busy is

  -- one that has a number is one
  pub channel_there : (c : Channel) (n : ℕ) → slice_get (channels_in (busy_graph d)) n ≡ Some c → is_channel d c ≡ true
  channel_there c n at = each_get There (busy_channels d) n c each_busy (ap (λ cs. slice_get cs n) (sym graph_channels) ∙ at)

  -- and what is none has none
  pub no_channel : (c : Channel) (n : ℕ) → slice_get (channels_in (busy_graph d)) n ≡ Some c → is_channel d c ≡ false → ⊥
  no_channel c n at is = no (is_channel d c) (channel_there c n at) is
    where
      no : (b : Bool) → b ≡ true → b ≡ false → ⊥
      no true p q = absurd (cc)
      no false p q = absurd (cc)
