-- Each word of a rule that an instruction or a binding may break, as the answer for one that breaks it.
use Rattle.std.specs.Prelude.{◌≡◌, ℕ, pos, true, negsuc, false, [], ◌∷◌, codes, Option, None, Some, Ok, Err}
use Rattle.ui_machine.specs.Seq.{read}
use Rattle.ui_machine.specs.Definition.Kinds as kinds
use Rattle.ui_machine.specs.Definition.Values as values
use Rattle.ui_machine.specs.Definition.Types.{plain_class}
use Rattle.ui_machine.specs.Definition.{Definition}
use Rattle.ui_machine.specs.Definition.Programs.{Instruction, Program}
use Rattle.ui_machine.specs.Definition.Programs as words
use Rattle.law_typing.specs.Rules.RegisterKinds.{Kinds}
use Rattle.law_typing.specs.Rules.Answers.{Typing}
use Rattle.law_typing.specs.Rules.Answers as rules
use Rattle.law_typing.specs.Rules.Typing.{typed}
use Rattle.law_typing.specs.Rules.Faults.{BindingWord}
use Rattle.law_typing.specs.Rules.Faults as faults
use Rattle.law_typing.specs.Rules.BindingRules.{word_of}
use Rattle.law_typing.specs.Rules.Brackets.{is_balanced}
use Rattle.ui_machine.specs.Words.{class_type, property, signal, notify, class_with, block, program, object, bind}

abbrev pub definition : Definition
definition = record {
  types =
      plain_class (codes "GObject") None []
      ∷ class_type (codes "GInitiallyUnowned") 0 false false []
      ∷ class_type (codes "Knob") 0 false false []
      ∷ [];
  classes =
      class_with [] (notify ∷ []) [] None None
      ∷ class_with [] (notify ∷ []) [] None None
      ∷ class_with (property (codes "value") (kinds.whole kinds.int) 3 (values.whole kinds.int (pos 0)) (negsuc 2147483647)
      (pos 2147483647) false
      ∷ property (codes "secret") (kinds.whole kinds.int) 2 (values.whole kinds.int (pos 0)) (negsuc 2147483647)
      (pos 2147483647) false
      ∷ property (codes "level") (kinds.whole kinds.int) 1 (values.whole kinds.int (pos 0)) (negsuc 2147483647)
      (pos 2147483647) false
      ∷ property (codes "serial") (kinds.whole kinds.int) 11 (values.whole kinds.int (pos 0)) (negsuc 2147483647)
      (pos 2147483647) false ∷ property (codes "next") (kinds.object 2) 3 (values.object None) (pos 0) (pos 0) false ∷ []) (notify
      ∷ signal (codes "turned") [] None 2 None ∷ []) [] None None
      ∷ [];
  shapes =
      [];
  programs =
      program (codes "p") ((kinds.some 2) ∷ []) 6 None
      (block ((kinds.some 2) ∷ kinds.unset ∷ kinds.unset ∷ kinds.unset ∷ kinds.unset ∷ kinds.unset
      ∷ []) None (words.const 1 kinds.text (values.text (Some (codes "x"))) ∷ words.jump 1 ∷ [])
      ∷ block ((kinds.some 2) ∷ (kinds.plain kinds.text) ∷ kinds.unset ∷ kinds.unset ∷ kinds.unset ∷ kinds.unset
      ∷ []) None (words.return None ∷ [])
      ∷ [])
      ∷ [];
  places =
      object (codes "k") 2 None [] [] []
      ∷ object (codes "m") 2 None [] [] []
      ∷ [];
  bindings =
      [];
  most_objects = 64;
  most_handlers = 0;
}

-- the program
abbrev pub p : Program
p = read (program [] [] 0 None []) definition.programs 0

-- a knob, a number, a text, a knob or null, and two registers that hold nothing
abbrev pub before : Kinds
before =
    kinds.some 2 ∷ kinds.plain (kinds.whole kinds.int) ∷ kinds.plain kinds.text ∷ kinds.plain (kinds.object 2) ∷ kinds.unset
    ∷ kinds.unset ∷ []

-- what an instruction answers there
abbrev pub answer : Instruction → Typing Kinds
answer i = typed definition p before i

-- an instruction that keeps its rule, and one for each word
pub record RuleWords : Type 0 where
  pub keeps : answer (words.get 1 0 (codes "value")) ≡ Ok before
  pub unset : answer (words.get 5 4 (codes "value")) ≡ Err rules.unset
  pub kind : answer (words.set 0 (codes "value") 2) ≡ Err rules.kind
  pub null : answer (words.get 5 3 (codes "value")) ≡ Err rules.null
  pub unknown : answer (words.get 5 0 (codes "size")) ≡ Err rules.unknown
  pub flags : answer (words.get 5 0 (codes "secret")) ≡ Err rules.flags
  pub construct_only : answer (words.set 0 (codes "serial") 1) ≡ Err rules.construct_only
  pub detail : answer (words.emit None 0 (codes "turned") (Some (codes "x")) []) ≡ Err rules.detail
  pub signature : answer (words.idle 5 (codes "p") (pos 0) None) ≡ Err rules.signature
  pub result : answer (words.emit (Some 5) 0 (codes "turned") None []) ≡ Err rules.result
  pub block : answer (words.jump 1) ≡ Err rules.block

-- a binding from a property of the first knob to one of the second
abbrev pub from_to : (source target flags : ℕ) → Option BindingWord
from_to source target flags = word_of definition (bind None 0 source 1 target flags 0)

-- a binding that keeps the rules, and one for each word
pub record BindingWords : Type 0 where
  pub keeps : from_to 0 0 1 ≡ None
  pub same : word_of definition (bind None 1 0 1 0 0 0) ≡ Some faults.same
  pub readable : from_to 1 0 0 ≡ Some faults.readable
  pub writable : from_to 0 2 0 ≡ Some faults.writable
  pub construct_only : from_to 0 3 0 ≡ Some faults.construct_only
  pub of_kinds : from_to 0 4 0 ≡ Some faults.kinds
  pub invert : from_to 0 0 4 ≡ Some faults.invert
  -- backwards the other end has to be writable
  pub backwards : from_to 2 0 1 ≡ Some faults.writable

-- freezes and thaws that match, and some that do not
pub record BracketWords : Type 0 where
  pub nested : is_balanced (words.freeze 0 ∷ words.freeze 0 ∷ words.thaw 0 ∷ words.thaw 0 ∷ words.return None ∷ []) ≡ true
  pub crossed : is_balanced (words.freeze 0 ∷ words.freeze 1 ∷ words.thaw 0 ∷ words.thaw 1 ∷ words.return None ∷ []) ≡ true
  pub left_open : is_balanced (words.freeze 0 ∷ words.return None ∷ []) ≡ false
  pub thaw_first : is_balanced (words.thaw 0 ∷ words.freeze 0 ∷ words.return None ∷ []) ≡ false
  pub written_between : is_balanced (words.freeze 0 ∷ words.move 0 0 ∷ words.thaw 0 ∷ words.return None ∷ []) ≡ false
  pub result_between : is_balanced (words.freeze 0 ∷ words.emit (Some 0) 1 (codes "s") None [] ∷ words.thaw 0 ∷ words.return None
      ∷ []) ≡ false
  pub another_written : is_balanced (words.freeze 0 ∷ words.move 1 0 ∷ words.thaw 0 ∷ words.return None ∷ []) ≡ true
