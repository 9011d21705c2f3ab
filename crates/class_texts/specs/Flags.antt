-- Flags in the words of the format.
use Rattle.std.specs.Prelude.{ℕ, List, [], ◌∷◌, ◌++◌, cond, codes}
use Rattle.ui_machine.specs.Definition.Properties.{has_flags}
use Rattle.class_texts.specs.declared.flags.FlagWord.{FlagWord}
use Rattle.class_texts.specs.declared.flags.FlagWord.TheVariants.{Construct, ConstructOnly, Detailed, ExplicitNotify, LaxValidation, Readable, RunCleanup, RunFirst, RunLast, Writable}

-- a word as a definition spells it
abbrev pub word_text : FlagWord → List ℕ
word_text Readable = codes "readable"
word_text Writable = codes "writable"
word_text Construct = codes "construct"
word_text ConstructOnly = codes "construct-only"
word_text LaxValidation = codes "lax-validation"
word_text ExplicitNotify = codes "explicit-notify"
word_text RunFirst = codes "run-first"
word_text RunLast = codes "run-last"
word_text RunCleanup = codes "run-cleanup"
word_text Detailed = codes "detailed"

-- the word of a flag, if it is among these
abbrev pub word_if : (flag : ℕ) → FlagWord → (flags : ℕ) → List FlagWord
word_if flag word flags = cond (has_flags flag flags) (word ∷ []) []

-- the words of a property's flags
abbrev pub property_words : ℕ → List FlagWord
property_words flags =
    word_if 1 Readable flags ++ word_if 2 Writable flags ++ word_if 4 Construct flags ++ word_if 8 ConstructOnly flags
    ++ word_if 16 LaxValidation flags ++ word_if 1073741824 ExplicitNotify flags

-- the words of a signal's flags
abbrev pub signal_words : ℕ → List FlagWord
signal_words flags = word_if 1 RunFirst flags ++ word_if 2 RunLast flags ++ word_if 4 RunCleanup flags ++ word_if 16 Detailed flags
