-- The limits that a definition declares for its sessions.
use Rattle.std.specs.Prelude.{ℕ, ℤ, pos, unsigned_abs, List, [], ◌∷◌, codes, if◌then◌else◌, Option, None, Some, Result, Ok, Err}
use Rattle.serde_json.specs.Data.{Data}
use Rattle.serde_json.specs.Find.{get}
use Rattle.ui_machine.specs.Outcome.{◌>>=◌}
use Rattle.ui_machine.specs.Rules.Transform.{is_between}
use Rattle.ui_machine.specs.declared.limits.Limits.{Limits}
use Rattle.g_values.specs.Reading.{whole_number}
use Rattle.definition_format.specs.declared.faults.DefinitionLimit.{DefinitionLimit}
use Rattle.definition_format.specs.declared.faults.DefinitionLimit.TheVariants.{Objects, Handlers}
use Rattle.definition_format.specs.Meaning.{default_limits}
use Rattle.definition_format.specs.Refusals.{Refusal, shape, limit, or_refused}
use Rattle.definition_format.specs.Document.{under, members_at, only_at}

-- a number between two others, both included
abbrev pub limit_within : DefinitionLimit → ℤ → ℤ → ℤ → Result ℕ Refusal
limit_within which low high n = if is_between low high n then Ok (unsigned_abs n) else Err (limit which)

-- the number that a member gives
unfoldable pub given_limit : List ℕ → DefinitionLimit → ℤ → ℤ → Data → Result ℕ Refusal
given_limit path which low high d = do
  n ← or_refused (shape path) (whole_number d)
  limit_within which low high n

-- or this one, where there is no such member
abbrev pub limit_or : List ℕ → DefinitionLimit → ℤ → ℤ → ℕ → Option Data → Result ℕ Refusal
limit_or path which low high own None = Ok own
limit_or path which low high own (Some d) = given_limit path which low high d

abbrev pub keys_of_limits : List (List ℕ)
keys_of_limits = codes "objects" ∷ codes "handlers" ∷ []

-- 1 to 4,096 objects and up to 16 handlers
unfoldable pub given_limits : List ℕ → Data → Result Limits Refusal
given_limits path d = do
  members ← members_at path d
  objects ← limit_or (under path (codes "objects")) Objects (pos 1) (pos 4096) default_limits.objects (get (codes "objects") d)
  handlers ← limit_or (under path (codes "handlers")) Handlers (pos 0) (pos 16) default_limits.handlers (get (codes "handlers") d)
  only ← only_at path members keys_of_limits
  Ok (record { objects = objects; handlers = handlers })

-- the limits of a member, and the default ones where there is none
abbrev pub limits_or : List ℕ → Option Data → Result Limits Refusal
limits_or path None = Ok default_limits
limits_or path (Some d) = given_limits path d

abbrev pub limits_in : Data → Result Limits Refusal
limits_in d = limits_or (under [] (codes "limits")) (get (codes "limits") d)
