-- Handlers that are disconnected, blocked and unblocked.
use Rattle.std.proofs.Common.{◌≡◌, refl, sym, ap, subst, ◌∙◌, ℕ, ◌≤◌, Bool, true, false, cond, List, map, Option, None, Some, arith}
use Rattle.std.specs.Prelude.{not, ◌&&◌, nat_eq, option_map}
use Rattle.std.specs.List.{filter}
use Rattle.ui_machine.specs.Definition.Kinds.{RegisterKind}
use Rattle.ui_machine.specs.Definition.Kinds as kinds
use Rattle.ui_machine.specs.Definition.{Definition}
use Rattle.ui_machine.specs.State.Handlers.{Handler}
use Rattle.ui_machine.specs.State.Tasks.{Task}
use Rattle.law_typing.specs.Graph.Channels.{Channel}
use Rattle.law_typing.specs.Graph.Channels as entries
use Rattle.law_typing.specs.Graph.{Raised, graph, place_of_channel}
use Rattle.law_typing.specs.Graph.Tables.{Tables, of_program, greatest}
use Rattle.law_typing.specs.Graph.Depths.{depth_within}
use Rattle.law_typing.specs.Good.Standing.{Standing, LivesIf}
use Rattle.law_typing.specs.Good.Handlers.{Takes, data_kind, HandlerGood, runs_at, is_connected, ChannelGood}
use Rattle.law_steps.specs.Kept.Agenda.{Stays}
use Rattle.law_steps.specs.Kept.Handlers.{HandlersLeft, OnlyBlocks, HandlersChanged, LeftAreFound}
use Rattle.law_steps.proofs.Kept.Left.{each_to, each_left, each_left_twice, total_left, length_left, rising_left, left_found, each_changed, each_changed_left, total_changed, length_changed, rising_changed}

-- ** those that are left

module _ (d : Definition) (s z : Standing) where
  pub data_kept : (arg : Option ℕ) → ((id : ℕ) → arg ≡ Some id → Stays s z id) → LivesIf s arg → LivesIf z arg × (data_kind z arg ≡ data_kind s arg)
  data_kept None stays lives = (tt, refl)
  data_kept (Some id) stays lives =
      let now = stays id refl lives.place lives.is in
      (record { place = lives.place; is = now; allowed = tt }, ap (option_map kinds.at) (now ∙ sym lives.is))

  pub handler_kept : (h : Handler) → Stays s z h.object → ((id : ℕ) → h.arg ≡ Some id → Stays s z id) → HandlerGood d s h → HandlerGood d z h
  handler_kept h stays data_stays g =
      let held = data_kept h.arg data_stays g.arg in
      record {
        at = record {
          place = g.at.place;
          is = stays g.at.place g.at.is;
          allowed = subst (λ k. Takes d g.at.place h.signal h.program h.swapped k) (sym held.1) g.at.allowed;
        };
        arg = held.0;
      }

channel_left : (d : Definition) (costs depths : Tables) (agenda : List Task) (id : ℕ) (hs : List Handler) (test : Handler → Bool) (r : Raised) →
    ChannelGood d costs depths agenda id hs r → ChannelGood d costs depths agenda id (filter test hs) r
channel_left d costs depths agenda id hs test r g = record {
  own = (let less = total_left (λ (h : Handler). of_program costs h.program) (own false) test hs in let old = g.own in omega (arith, less, old));
  connected = each_left_twice (λ (h : Handler). of_program costs h.program ≤ greatest (of_program costs) r.connectable) (own true) test hs g.connected;
  own_shallow = each_left_twice (λ (h : Handler). of_program depths h.program ≤ depth_within depths r) (own false) test hs g.own_shallow;
  connected_shallow = each_left_twice (λ (h : Handler). of_program depths h.program ≤ depth_within depths r) (own true) test hs g.connected_shallow;
}
  where
    own : Bool → Handler → Bool
    own by_code h = cond by_code h.by_code (not h.by_code) && (nat_eq h.object id && runs_at d h r.channel)

pub handlers_left : HandlersLeft
handlers_left d costs depths s z agenda last hs test no_more stays g = record {
  each = each_left (HandlerGood d s) (HandlerGood d z) test hs (λ h passes good. (let k = stays h passes in handler_kept d s z h k.0 k.1 good)) g.each;
  rising = rising_left (λ (h : Handler). h.number) test 0 hs g.rising;
  numbered = each_left (λ (h : Handler). h.number ≤ last) (λ (h : Handler). h.number ≤ last) test hs (λ h passes low. low) g.numbered;
  few = λ id number. (let less = length_left (is_connected id number) test hs in let old = g.few id number in omega (arith, less, old));
  channels = λ id place is.
      each_to (λ (r : Raised). place_of_channel r.channel ≡ place → ChannelGood d costs depths agenda id hs r)
      (λ (r : Raised). place_of_channel r.channel ≡ place → ChannelGood d costs depths agenda id (filter test hs) r) (graph d).raised
      (λ r f same. channel_left d costs depths agenda id hs test r (f same)) (g.channels id place (no_more id place is));
}

pub left_are_found : LeftAreFound
left_are_found d costs depths s agenda last hs test g number h is = left_found (λ (h : Handler). h.number) test 0 number hs h g.rising is

-- ** those that are changed

module _ (d : Definition) (change : Handler → Handler) (only : OnlyBlocks change) where
  handler_changed : (s : Standing) (h : Handler) → HandlerGood d s h → HandlerGood d s (change h)
  handler_changed s h g =
      subst (HandlerGood d s) (sym (same (change h) h (only.object h) (only.signal h) (only.program h) (only.swapped h) (only.arg h)))
      (record {
        at = record { place = g.at.place; is = g.at.is; allowed = g.at.allowed };
        arg = g.arg;
      })
    where
      same : (x h : Handler) → x.object ≡ h.object → x.signal ≡ h.signal → x.program ≡ h.program → x.swapped ≡ h.swapped → x.arg ≡ h.arg →
          x ≡ record x { object = h.object; signal = h.signal; program = h.program; swapped = h.swapped; arg = h.arg }
      same x h a b c e f =
          ap (λ y. record x { object = y }) a
          ∙ (ap (λ y. record x { object = h.object; signal = y }) b
          ∙ (ap (λ y. record x { object = h.object; signal = h.signal; program = y }) c
          ∙ (ap (λ y. record x { object = h.object; signal = h.signal; program = h.program; swapped = y }) e
          ∙ ap (λ y. record x { object = h.object; signal = h.signal; program = h.program; swapped = h.swapped; arg = y }) f)))

  abbrev own : ℕ → Channel → Bool → Handler → Bool
  own id c by_code h = cond by_code h.by_code (not h.by_code) && (nat_eq h.object id && runs_at d h c)

  runs_same : (c : Channel) (h : Handler) → runs_at d (change h) c ≡ runs_at d h c
  runs_same (entries.constructed place) h = refl
  runs_same (entries.property place slot) h = rw (only.signal h, only.detail h)
  runs_same (entries.signal place number) h = ap (λ n. nat_eq n number) (only.signal h)

  own_same : (id : ℕ) (c : Channel) (by_code : Bool) (h : Handler) → own id c by_code (change h) ≡ own id c by_code h
  own_same id c by_code h =
      ap (λ b. cond by_code b (not b) && (nat_eq (change h).object id && runs_at d (change h) c)) (only.by_code h)
      ∙ (ap (λ o. cond by_code h.by_code (not h.by_code) && (nat_eq o id && runs_at d (change h) c)) (only.object h)
      ∙ ap (λ r. cond by_code h.by_code (not h.by_code) && (nat_eq h.object id && r)) (runs_same c h))

  channel_changed : (costs depths : Tables) (agenda : List Task) (id : ℕ) (hs : List Handler) (r : Raised) → ChannelGood d costs depths agenda id hs r →
      ChannelGood d costs depths agenda id (map change hs) r
  channel_changed costs depths agenda id hs r g = record {
    own =
        (let same = total_changed (λ (h : Handler). of_program costs h.program) (own id r.channel false) change hs (own_same id r.channel false) (λ h. ap (of_program costs) (only.program h)) in
        let old = g.own in omega (arith, same, old));
    connected =
        each_changed_left (λ (h : Handler). of_program costs h.program ≤ greatest (of_program costs) r.connectable) (own id r.channel true) change hs (own_same id r.channel true)
        (λ h low. subst (λ p. of_program costs p ≤ greatest (of_program costs) r.connectable) (sym (only.program h)) low) g.connected;
    own_shallow =
        each_changed_left (λ (h : Handler). of_program depths h.program ≤ depth_within depths r) (own id r.channel false) change hs (own_same id r.channel false)
        (λ h low. subst (λ p. of_program depths p ≤ depth_within depths r) (sym (only.program h)) low) g.own_shallow;
    connected_shallow =
        each_changed_left (λ (h : Handler). of_program depths h.program ≤ depth_within depths r) (own id r.channel true) change hs (own_same id r.channel true)
        (λ h low. subst (λ p. of_program depths p ≤ depth_within depths r) (sym (only.program h)) low) g.connected_shallow;
  }

  connected_same : (id number : ℕ) (h : Handler) → is_connected id number (change h) ≡ is_connected id number h
  connected_same id number h = rw (only.by_code h, only.object h, only.signal h)

pub handlers_changed : HandlersChanged
handlers_changed d costs depths s agenda last hs change only g = record {
  each = each_changed (HandlerGood d s) change hs (handler_changed d change only s) g.each;
  rising = rising_changed (λ (h : Handler). h.number) change 0 hs only.number g.rising;
  numbered = each_changed (λ (h : Handler). h.number ≤ last) change hs (λ h low. (let e = only.number h in omega (arith, e, low))) g.numbered;
  few = λ id number. (let same = length_changed (is_connected id number) change hs (connected_same d change only id number) in let old = g.few id number in omega (arith, same, old));
  channels = λ id place is.
      each_to (λ (r : Raised). place_of_channel r.channel ≡ place → ChannelGood d costs depths agenda id hs r)
      (λ (r : Raised). place_of_channel r.channel ≡ place → ChannelGood d costs depths agenda id (map change hs) r) (graph d).raised
      (λ r f same. channel_changed d change only costs depths agenda id hs r (f same)) (g.channels id place is);
}
