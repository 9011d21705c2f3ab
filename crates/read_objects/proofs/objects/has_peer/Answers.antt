use Rattle.std.proofs.Common.{◌∙◌, ap, sym, string_bytes}
use Rattle.std.specs.List.{list_any}
use Rattle.std.specs.Str.{bytes_eq}
use Rattle.read_objects.proofs.NamedPeers.{found_here, found_later, nothing_later}
use Rattle.read_objects.proofs.objects.has_peer.Goals as goal
use Rattle.read_objects.proofs.objects.has_peer.Goals.{in-Some+else-is_named, in_default}

pub returns-then-is_named : goal.returns-then-is_named
returns-then-is_named c =
    let named = ap (λ peers. list_any (λ peer. bytes_eq (string_bytes peer) c.args.name.now) peers) (sym c.as_slice.ensures.value) ∙ sym c.is_named.ensures ∙ c.if-is_named.true in
    sym (c.objects.invariant ∙ found_here c.args.name.now c.args.objects.now.entries c.objects.number (c.in-Some.field-0-0.now, c.in-Some.body.now) (sym c.in-Some.ensures.entry) named)

pub objects-preserved : goal.objects-preserved
objects-preserved c = elim c.match-get_index.branch [
  | in-Some+else-is_named w ↦
      let named = ap (λ peers. list_any (λ peer. bytes_eq (string_bytes peer) c.args.name.now) peers) (sym w.as_slice.ensures.value) ∙ sym w.is_named.ensures ∙ w.if-is_named.false in
      c.objects.invariant ∙ found_later c.args.name.now c.args.objects.now.entries c.objects.number (w.in-Some.field-0-0.now, w.in-Some.body.now) (sym w.in-Some.ensures.entry) named
  | in_default w ↦ c.objects.invariant ∙ nothing_later c.args.name.now c.args.objects.now.entries c.objects.number (sym w.in_default.ensures.entry)
]
