-- Tables of prices that going on does not change solve their equations.
use Rattle.std.proofs.Common.{◌≡◌, refl, sym, ap, subst, ◌∙◌, ℕ, zero, suc, ◌+◌, Bool, true, false, List, [], ◌∷◌, length, map, Option, Some}
use Rattle.std.specs.Prelude.{nat_eq}
use Rattle.std.proofs.lemmas.Bool.{eqb-true}
use Rattle.ui_machine.specs.Definition.{Definition}
use Rattle.law_typing.specs.Graph.{Raised, graph}
use Rattle.law_typing.specs.Graph.Channels.{Channel}
use Rattle.law_typing.specs.Graph.Costs.{no_tables}
use Rattle.law_typing.specs.Graph.Tables.{Table, Tables, goes_on, same_numbers, same_table, same_tables, settled}
use Rattle.law_typing.proofs.Lists.{both_parts}
use Rattle.law_typing.proofs.SettledProofs.{same_numbers_true}
use Rattle.law_prices.specs.Deeds.{PriceList}
use Rattle.law_prices.specs.Prices.{channel_price, channels_by, programs_by}
use Rattle.law_prices.specs.Solved.{PricesAreSolved}

-- what is reached is the next of something that is the same as its next
record Reached {A : Type 0} (same : A → A → Bool) (next : A → A) (Keeps : A → Type 0) (u : A) : Type 0 where
  pub at : A
  pub kept : Keeps at
  pub stays : same at (next at) ≡ true
  pub is : u ≡ next at

module _ {A : Type 0} (same : A → A → Bool) (next : A → A) (Keeps : A → Type 0) (keeps : (x : A) → Keeps x → Keeps (next x)) where
  by_test : (b : Bool) (at u : A) (more : A → Option A) → same at (next at) ≡ b → Keeps at → (more (next at) ≡ Some u → Reached same next Keeps u) → goes_on b more (next at) ≡ Some u → Reached same next Keeps u
  by_test true at u more e kept later f = record { at = at; kept = kept; stays = e; is = let g : next at ≡ u = cc in sym g }
  by_test false at u more e kept later f = later f

  reached : (n : ℕ) (at u : A) → Keeps at → settled same n next at ≡ Some u → Reached same next Keeps u
  reached zero at u kept e = absurd (cc)
  reached (suc n) at u kept e = by_test (same at (next at)) at u (settled same n next) refl kept (reached n (next at) u (keeps at kept)) e

-- a table that has a number for each channel of the graph
abbrev table_of : List Raised → (Raised → ℕ) → Table
table_of rs f = map (λ (r : Raised). (r.channel, f r)) rs

same_table_true : (rs : List Raised) (f g : Raised → ℕ) → same_table (table_of rs f) (table_of rs g) ≡ true → table_of rs f ≡ table_of rs g
same_table_true [] f g e = refl
same_table_true (r ∷ rs) f g e =
    let b = both_parts (nat_eq (f r) (g r)) (same_table (table_of rs f) (table_of rs g)) e in
    let h = eqb-true (f r) (g r) b.0 in
    let t = same_table_true rs f g b.1 in
    let p : (Channel × ℕ) = (r.channel, g r) in
    ap (λ n. (r.channel, n) ∷ table_of rs f) h ∙ ap (λ ts. (r.channel, g r) ∷ ts) t

module _ (d : Definition) (P : PriceList) where
  -- tables of the definition's graph
  record IsFor (t : Tables) : Type 0 where
    pub number : Raised → ℕ
    pub is : t.channels ≡ table_of (graph d).raised number

  abbrev next : Tables → Tables
  next t = channels_by d P (programs_by d P t)

  tables_stay : (t : Tables) → IsFor t → same_tables t (next t) ≡ true → t ≡ next t
  tables_stay t of e =
      let b = both_parts (same_table t.channels (next t).channels) (same_numbers t.programs (next t).programs) e in
      let h = same_table_true (graph d).raised of.number (channel_price d P (programs_by d P t)) (subst (λ u. same_table u (next t).channels ≡ true) of.is b.0) in
      let c : t.channels ≡ (next t).channels = of.is ∙ h in
      let p : t.programs ≡ (next t).programs = same_numbers_true t.programs (next t).programs b.1 in
      ap (λ (cs : Table). record t { channels = cs }) c ∙ ap (λ (ps : List ℕ). record (next t) { programs = ps }) p

pub prices_are_solved : PricesAreSolved
prices_are_solved d P u e =
    let r = reached same_tables (next d P) (IsFor d P) (λ t k. record { number = channel_price d P (programs_by d P t); is = refl }) (3 + length (graph d).raised) (no_tables (graph d)) u (record { number = λ r. 0; is = refl }) e in
    let same : r.at ≡ u = tables_stay d P r.at r.kept r.stays ∙ sym r.is in
    let fixed : u ≡ next d P u = r.is ∙ ap (next d P) same in
    let programs : u.programs ≡ (programs_by d P u).programs = ap (λ (t : Tables). t.programs) fixed in
    let whole : u ≡ programs_by d P u = ap (λ (ps : List ℕ). record u { programs = ps }) programs in
    record {
      channels = ap (λ (t : Tables). t.channels) fixed ∙ ap (λ (t : Tables). (channels_by d P t).channels) (sym whole);
      programs = programs;
    }
