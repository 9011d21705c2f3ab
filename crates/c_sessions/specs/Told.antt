-- What C is told of the objects and classes of a session.
use Rattle.std.specs.Str.{IsUtf8}
use Rattle.std.specs.Prelude.{◌≡◌, ◌⊎◌, ℕ, List, [], Option, None, Some, length, option_and_then, option_map, slice_get}
use Rattle.ui_machine.specs.Definition.{Definition}
use Rattle.ui_machine.specs.Definition.Lookups.{slot_of}
use Rattle.ui_machine.specs.Definition.Places.{Place}
use Rattle.ui_machine.specs.Definition.Values.{Value}
use Rattle.ui_machine.specs.Rules.Build.{identity_held}
use Rattle.ui_machine.specs.State.Config.{World, builder_entry}
use Rattle.ui_machine.specs.State.Objects.{Object, living}
use Rattle.ui_machine.specs.declared.ids.ObjectId.{ObjectId}
use Rattle.definition_format.specs.Meaning.{object_place}
use Rattle.class_texts.specs.ClassTexts.{class_text}
use Rattle.instance_tables.specs.Store.{IsNextLiving, id_of}
use Rattle.object_texts.specs.ObjectTexts.{object_text, value_text}
use Rattle.c_sessions.specs.Buffers.{with_text}
use Rattle.c_sessions.specs.declared.hosted_session.HostedSession.{HostedSession}

-- the identity of the document's object with an id, while the builder holds it
abbrev pub identity_told : List ℕ → HostedSession → Option ℕ
identity_told id h = of (object_place h.running.core.definition id)
  where
    of : Option ℕ → Option ℕ
    of None = None
    of (Some place) = identity_held (builder_entry h.running.core.world place)

-- an object, if it lives
abbrev pub object_told : ℕ → HostedSession → Option (List ℕ)
object_told id h = option_and_then (λ (o : Object). of o (slice_get h.running.core.definition.places o.place)) (living h.running.core.world.objects id)
  where
    of : Object → Option Place → Option (List ℕ)
    of o place = option_map (λ (p : Place). object_text h.running.core.definition p o) place

-- the value of a property, if the object lives and has it
abbrev pub value_told : ℕ → List ℕ → HostedSession → Option (List ℕ)
value_told id name h = option_and_then (λ (o : Object). of o (slot_of h.running.core.definition o.class name)) (living h.running.core.world.objects id)
  where
    of : Object → Option ℕ → Option (List ℕ)
    of o None = None
    of o (Some slot) = option_map (λ (v : Value). value_text h.running.core.definition.types v) (slice_get o.values slot)

-- the class of a name
abbrev pub class_told : List ℕ → HostedSession → Option (List ℕ)
class_told name h = class_text h.running.core.definition name

-- What a call answers that tells of something, and what a buffer holds then that held this before: the whole length of the text, and as much
-- of it as there is room for. It is nothing where there is nothing to tell, or no memory was found.
abbrev pub TellsText : Option (List ℕ) → List ℕ → ℕ → List ℕ → Type 0
TellsText told before count after = (text : List ℕ) × (count ≡ length text) × (after ≡ with_text before text) × ((text ≡ []) ⊎ (told ≡ Some text))

-- so of the session that is kept, if one is; it stays as it was
abbrev pub Tells : (HostedSession → Option (List ℕ)) → Option HostedSession → List ℕ → ℕ → Option HostedSession → List ℕ → Type 0
Tells told None before count new after = (count ≡ 0) × (new ≡ None) × (after ≡ with_text before [])
Tells told (Some session) before count new after = (new ≡ Some session) × TellsText (told session) before count after

-- ** identities

-- the number of an identity, or 0
abbrev pub number_of : Option ObjectId → ℕ
number_of None = 0
number_of (Some id) = id.0

-- the next object that lives from an identity on is found, by its number, in the session that is kept, if one is; it stays as it was
abbrev pub FindsNext : ℕ → Option HostedSession → ℕ → Option HostedSession → Type 0
FindsNext from None number new = (number ≡ 0) × (new ≡ None)
FindsNext from (Some session) number new =
    (next : Option ObjectId) × (number ≡ number_of next) × IsNextLiving session.running.core.world.objects from (id_of next) × (new ≡ Some session)

-- an object's identity is found by its id, in the session that is kept, if one is; it stays as it was
abbrev pub Finds : List ℕ → Option HostedSession → ℕ → Option HostedSession → Type 0
Finds id None number new = (number ≡ 0) × (new ≡ None)
Finds id (Some session) number new =
    (found : Option ObjectId) × (number ≡ number_of found) × (IsUtf8 id → id_of found ≡ identity_told id session)
    × ((IsUtf8 id → ⊥) → found ≡ None) × (new ≡ Some session)
