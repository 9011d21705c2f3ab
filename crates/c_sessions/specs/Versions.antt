-- The version of the library.
use Rattle.std.specs.Prelude.{List, codes, ℕ}

abbrev pub version : List ℕ
version = codes "0.39.0"
