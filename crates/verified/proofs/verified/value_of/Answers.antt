use Rattle.std.proofs.Common.{◌∙◌, length, refl, sym, ap}
use Rattle.std.proofs.lemmas.Bool.{ltb-true}
use Rattle.std.proofs.lemmas.Option.{slice_get_read}
use Rattle.verify_graph.proofs.Prefixes.{read_past}
use Rattle.verified.specs.Told.{value_at}
use Rattle.verified.proofs.LookUps.{read_got}
use Rattle.verified.proofs.verified.value_of.Goals as goal

pub returns-in-Some-get : goal.returns-in-Some-get
returns-in-Some-get g c =
    let values = c.args.values.now in
    let number = c.in-Some.number in
    let value = c.in-Some-get.value.now in
    let got = c.in-Some-get.ensures.lookup in
    read_got c.args.idle values number value (slice_get_read values (length values) number value refl (ltb-true number (length values) (sym got.0)) got.1)
    ∙ ap (value_at values c.args.idle) c.in-Some.ensures.number

pub returns-in-None : goal.returns-in-None
returns-in-None g c =
    read_past c.args.idle c.args.values.now c.in-Some.number c.in-None.ensures.lookup.3
    ∙ ap (value_at c.args.values.now c.args.idle) c.in-Some.ensures.number
