use Rattle.std.proofs.Common.{◌≡◌, ◌++◌, length, string_bytes}
use Rattle.instance_tables.specs.Store.{ids_of}
use Rattle.object_texts.specs.ObjectTexts.{numbers_text}
use Rattle.object_texts.proofs.objects.push_identities.Given as goal

abbrev pub invariant-ids : goal.invariant-ids
invariant-ids l = string_bytes l.text ++ numbers_text (ids_of l.left) ≡ string_bytes l.fn.text ++ numbers_text (ids_of l.ids)

abbrev pub decreases-ids : goal.decreases-ids
decreases-ids l = length l.left
