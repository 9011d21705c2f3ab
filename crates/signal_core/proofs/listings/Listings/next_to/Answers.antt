use Rattle.std.proofs.Common.{◌≡◌, ◌∙◌, None, Some, sym, ap, subst}
use Rattle.signal_core.specs.Kept.{NotBefore, channel, detail_number}
use Rattle.signal_core.proofs.Stepping.{plain_only, plain_or_own}
use Rattle.signal_core.proofs.listings.Listings.next_to.Goals as goal

pub returns-in_default-clause-next : goal.returns-in_default-clause-next
returns-in_default-clause-next c =
    let w = c.args.cursor.now in
    let l = c.args.self.now in
    let at = c.channel-channel.ensures ∙ ap (λ s. channel s c.args.after) c.signal.ensures in
    let number = c.number.ensures ∙ ap (detail_number l.details) c.detail.ensures in
    plain_only w c.args.after l c.args.given c.object-object.result.0 c.channel-channel.result c.object-object.ensures at c.requires c.next-plain.result c.next-plain.ensures
    (λ k e. let no : Some k ≡ None = sym e ∙ sym number ∙ c.in_default.is in absurd (cc))

pub returns-then-detail-eq0-clause-next : goal.returns-then-detail-eq0-clause-next
returns-then-detail-eq0-clause-next c =
    let w = c.args.cursor.now in
    let l = c.args.self.now in
    let at = c.channel-channel.ensures ∙ ap (λ s. channel s c.args.after) c.signal.ensures in
    let number = c.number.ensures ∙ ap (detail_number l.details) c.detail.ensures in
    plain_only w c.args.after l c.args.given c.object-object.result.0 c.channel-channel.result c.object-object.ensures at c.requires c.next-plain.result c.next-plain.ensures
    (λ k e. let same : Some k ≡ Some c.in-Some.detail = sym e ∙ sym number ∙ c.in-Some.is in let is : k ≡ c.in-Some.detail = cc in is ∙ c.if-detail-eq0.true)

pub returns-clause-next : goal.returns-clause-next
returns-clause-next c h mine of =
    let w = c.args.cursor.now in
    let l = c.args.self.now in
    let at = c.channel-channel.ensures ∙ ap (λ s. channel s c.args.after) c.signal.ensures in
    let number = c.number.ensures ∙ ap (detail_number l.details) c.detail.ensures in
    subst (λ next. NotBefore c.args.given next h.number) (sym c.least.ensures)
    (plain_or_own w c.args.after l c.args.given c.object-object.result.0 c.channel-channel.result c.object-object.ensures at c.requires c.in-Some.detail c.next-plain.result c.next.result
    (sym number ∙ c.in-Some.is) c.next-plain.ensures c.next.ensures h mine of)
