-- The links of a definition in which a pair is followed: the names of its properties and signals, and what its two programs name. It has no
-- shapes, its bindings have no names, and no class names a program for a signal.
use Rattle.std.specs.Prelude.{[], ◌∷◌, codes, Some}
use Rattle.worked.specs.Laws.Gathering.{definition}
use Rattle.engine_links.specs.Linked.{AreLinked, Linked}
use Rattle.engine_links.specs.declared.link.Link.TheVariants as links
use Rattle.name_tables.specs.Names.{Named}

-- the properties of the third class, and the signal that each of the four has
abbrev pub on : Named
on = record { name = codes "on"; numbers = (2, 0) ∷ [] }

abbrev pub amount : Named
amount = record { name = codes "amount"; numbers = (2, 1) ∷ [] }

abbrev pub notify : Named
notify = record { name = codes "notify"; numbers = (0, 0) ∷ (1, 0) ∷ (2, 0) ∷ (3, 0) ∷ [] }

-- what each instruction names: in the first program the object `b`, and the amount that is set; in the second the prototype
abbrev pub linked : Linked
linked = record {
  slots = on ∷ amount ∷ [];
  signals = notify ∷ [];
  methods = [];
  bindings = [];
  handlers = [];
  programs =
      ((links.Place (Some (record { 0 = 1 })) ∷ links.Nothing ∷ []) ∷ (links.Nothing ∷ []) ∷ (links.Nothing ∷ links.Property (Some 1) ∷ links.Nothing ∷ []) ∷ [])
      ∷ ((links.Place (Some (record { 0 = 4 })) ∷ links.Nothing ∷ []) ∷ [])
      ∷ [];
}

-- they are the definition's
abbrev pub GatheringLinked : Type 0
GatheringLinked = AreLinked definition linked
