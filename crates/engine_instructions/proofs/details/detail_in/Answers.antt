use Rattle.std.proofs.Common.{◌≡◌, ℕ, Bool, List, Option, None, Some, Ok, Bor, true, false, if◌then◌else◌, nat_eq, option_map, refl, sym, ap, subst, ◌∙◌}
use Rattle.std.proofs.lemmas.Option.{none-some}
use Rattle.ui_machine.specs.Rules.Connections.{detail_at, detail_for}
use Rattle.engine_world.specs.Able.{Able}
use Rattle.engine_world.specs.View.{world_of}
use Rattle.engine_world.proofs.Ableness.{able_as, no_arm}
use Rattle.engine_world.proofs.Details.{detail_heard, detail_unheard, names_property, stands_notify, stands_so}
use Rattle.engine_world.proofs.LivingObjects.{lives_where}
use Rattle.engine_instructions.proofs.details.detail_in.Goals as goal

-- a detail that is there is that of a notification
notified_at : (n : ℕ) (detail : Option (Bor (List ℕ))) (text : Bor (List ℕ)) → (if nat_eq n 0 then detail else None) ≡ Some text
    → (nat_eq n 0 ≡ true) × (detail ≡ Some text)
notified_at n detail text is = by (nat_eq n 0) refl is
  where
    by : (b : Bool) → nat_eq n 0 ≡ b → (if b then detail else None) ≡ Some text → (nat_eq n 0 ≡ true) × (detail ≡ Some text)
    by true e h = (e, h)
    by false e h = absurd (none-some text h)

pub class_of-class-requires : goal.class_of-class-requires
class_of-class-requires c = record {
  live =
      let w = world_of c.args.engine.now.world in
      lives_where w.objects c.args.object.0 _
      (λ arm is. no_arm _ arm c.requires.able (detail_unheard c.args.definition.now w c.args.object.0 c.args.signal _ arm is));
}

pub property_named-requires-clause-able : goal.property_named-requires-clause-able
property_named-requires-clause-able c =
    let d = c.args.definition.now in
    let w = world_of c.args.engine.now.world in
    let class = c.class_of-class.result in
    let is = notified_at c.args.signal c.args.detail c.in-Some.text (sym c.notified.ensures ∙ c.in-Some.is) in
    let first = is.0 in
    let said : option_map (λ (text : Bor (List ℕ)). text.now) c.args.detail ≡ Some c.in-Some.text.now = ap (option_map (λ (text : Bor (List ℕ)). text.now)) is.1 in
    let heard = detail_heard d w c.args.object.0 c.args.signal (option_map (λ (text : Bor (List ℕ)). text.now) c.args.detail) class c.class_of-class.ensures in
    names_property d class c.args.signal c.in-Some.text.now first (subst (λ (o : Option (List ℕ)). Able (detail_at d class c.args.signal o)) said (able_as heard c.requires.able))

pub returns : goal.returns
returns c =
    let d = c.args.definition.now in
    let w = world_of c.args.engine.now.world in
    let class = c.class_of-class.result in
    let n = c.args.signal in
    let is = notified_at n c.args.detail c.in-Some.text (sym c.notified.ensures ∙ c.in-Some.is) in
    let first = is.0 in
    let said : option_map (λ (text : Bor (List ℕ)). text.now) c.args.detail ≡ Some c.in-Some.text.now = ap (option_map (λ (text : Bor (List ℕ)). text.now)) is.1 in
    let heard = detail_heard d w c.args.object.0 n (option_map (λ (text : Bor (List ℕ)). text.now) c.args.detail) class c.class_of-class.ensures in
    heard
    ∙ stands_so d class n _ (able_as heard c.requires.able)
    ∙ ap (λ o. Ok o) (ap (detail_for n) said ∙ stands_notify d class n c.in-Some.text.now _ first c.in_ok-name.ensures)
