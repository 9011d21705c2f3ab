use Rattle.std.proofs.Common.{◌≡◌, ℕ, List, Bor, true, false, Some, Ok, nat_eq, option_map, arith, sym, ap, ◌∙◌}
use Rattle.std.proofs.lemmas.Bool.Decides.{nat_tests}
use Rattle.engine_world.proofs.Details.{names_property, stands_none, stands_notify, stands_other, stands_so}
use Rattle.engine_world.proofs.arguments.detail_for.Goals as goal

pub returns-in_default : goal.returns-in_default
returns-in_default c =
    let so = stands_so c.args.definition.now c.args.class c.args.signal _ c.requires.able in
    rw c.in_default.is (rw c.in_default.is at so ∙ ap (λ o. Ok o) (stands_none c.args.signal))

pub returns-then-signal-ne0 : goal.returns-then-signal-ne0
returns-then-signal-ne0 c =
    let other : nat_eq c.args.signal 0 ≡ false = grind (arith, nat_tests, c.if-signal-ne0.true) in
    let same = ap (option_map (λ (text : Bor (List ℕ)). text.now)) c.in-Some.is ∙ ap (λ (text : List ℕ). Some text) (sym c.in_ok-from_str.ensures.ok) in
    stands_so c.args.definition.now c.args.class c.args.signal _ c.requires.able ∙ ap (λ o. Ok o) (stands_other c.args.signal _ other ∙ same)

pub property_named-name-requires : goal.property_named-name-requires
property_named-name-requires c = record {
  able =
      let first : nat_eq c.args.signal 0 ≡ true = grind (arith, nat_tests, c.if-signal-ne0.false) in
      names_property c.args.definition.now c.args.class c.args.signal _ first (rw c.in-Some.is at c.requires.able);
}

pub returns : goal.returns
returns c =
    let d = c.args.definition.now in
    let first : nat_eq c.args.signal 0 ≡ true = grind (arith, nat_tests, c.if-signal-ne0.false) in
    let named = stands_notify d c.args.class c.args.signal c.in-Some.detail.now _ first (c.property_named-name.ensures ∙ ap (λ (xs : List ℕ). Ok xs) (sym (c.in_ok-from_str-2.ensures.ok ∙ c.as_str.ensures.value))) in
    let so = stands_so d c.args.class c.args.signal _ c.requires.able in
    rw c.in-Some.is (rw c.in-Some.is at so ∙ ap (λ o. Ok o) named)
