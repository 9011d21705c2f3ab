-- Instances in a slab, and an index of their keys by identity.
use Rattle.std.specs.Prelude.{◌≡◌, ℕ, List, [], ◌∷◌, Option, Some, None}
use Rattle.std.specs.Option.{option_map}
use Rattle.instance_tables.specs.declared.instance.Instance.{Instance}
use Rattle.instance_tables.specs.declared.instances.Entry.{Entry}

-- whose an entry is
abbrev pub identity_in : Option Entry → Option ℕ
identity_in x = option_map (λ (e : Entry). e.id.0) x

-- the instance of an entry, if there is one, under an identity before others
abbrev pub put_first : ℕ → Option Entry → List (ℕ × Instance) → List (ℕ × Instance)
put_first id None rest = rest
put_first id (Some x) rest = (id, x.instance) ∷ rest

-- the instances under these keys, each with the identity of the key
abbrev pub in_order : (ℕ → Option Entry) → List (ℕ × ℕ) → List (ℕ × Instance)
in_order entries [] = []
in_order entries (k ∷ ks) = put_first k.0 (entries k.1) (in_order entries ks)

-- An identity has a key just where the entry under the key has the identity. So no two have one key, and each entry is found.
pub record IsIndex (entries : ℕ → Option Entry) (keys : ℕ → Option ℕ) : Type 0 where
  pub found : (id key : ℕ) → keys id ≡ Some key → identity_in (entries key) ≡ Some id
  pub listed : (id key : ℕ) → identity_in (entries key) ≡ Some id → keys id ≡ Some key
