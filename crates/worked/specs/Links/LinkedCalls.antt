-- The links of a definition that names methods and bindings: two shapes have a method of one name, and two bindings have one name.
use Rattle.std.specs.Prelude.{[], ◌∷◌, codes, None, Some}
use Rattle.ui_machine.specs.Definition.{Definition}
use Rattle.ui_machine.specs.Definition.Kinds as kinds
use Rattle.ui_machine.specs.Definition.Programs.{Program}
use Rattle.ui_machine.specs.Definition.Programs as words
use Rattle.ui_machine.specs.Words.{bind, block, method, program, shape}
use Rattle.worked.specs.Laws.Gathering as gathering
use Rattle.engine_links.specs.Linked.{AreLinked, Linked}
use Rattle.engine_links.specs.declared.link.Link.TheVariants as links
use Rattle.worked.specs.Links.LinkedGathering as plain

-- it asks an object's peer how much it has counted, and ends the bindings
abbrev pub finish : Program
finish =
    program (codes "finish") (kinds.some 3 ∷ []) 2 None
    (block (kinds.some 3 ∷ kinds.unset ∷ []) None (words.call 1 0 (codes "read") [] ∷ words.unbind (codes "link") ∷ words.return None ∷ []) ∷ [])

-- the classes are those of the other definition
abbrev pub definition : Definition
definition = record gathering.definition {
  shapes =
      shape (codes "Tally") (method (codes "add") (kinds.whole kinds.int64 ∷ []) (kinds.whole kinds.int64) ∷ method (codes "read") [] (kinds.whole kinds.int64) ∷ [])
      ∷ shape (codes "Gauge") (method (codes "read") [] (kinds.whole kinds.int64) ∷ [])
      ∷ [];
  programs = finish ∷ [];
  bindings = bind (Some (codes "link")) 0 0 1 0 1 0 ∷ bind None 1 1 2 1 0 0 ∷ bind (Some (codes "link")) 1 0 2 0 0 1 ∷ [];
}

-- `add` is the first method of the first shape; `read` is its second, and the first of the second shape; `link` is the first and the third binding
abbrev pub linked : Linked
linked = record plain.linked {
  methods = ((0, 0) ∷ []) ∷ ((0, 1) ∷ (1, 0) ∷ []) ∷ [];
  bindings = (0 ∷ 2 ∷ []) ∷ [];
  programs = ((links.Method (Some 1) ∷ links.Bindings (Some 0) ∷ links.Nothing ∷ []) ∷ []) ∷ [];
}

-- they are the definition's
abbrev pub CallsLinked : Type 0
CallsLinked = AreLinked definition linked
