-- The lines of a transcript that are about a peer: `call`, `fault` and `close`.
use Rattle.std.specs.Prelude.{ℕ, Bool, true, false, cond, codes, nat_eq, List, [], ◌∷◌, ◌++◌, ◌||◌}
use Rattle.std.specs.List.{filter}

-- whether a line begins with these bytes
abbrev pub begins_with : List ℕ → List ℕ → Bool
begins_with [] line = true
begins_with (x ∷ xs) [] = false
begins_with (x ∷ xs) (y ∷ line) = cond (nat_eq x y) (begins_with xs line) false

-- whether a line says what a peer replied
abbrev pub is_reply_line : List ℕ → Bool
is_reply_line line = begins_with (codes "call ") line || begins_with (codes "fault ") line

-- whether a line says what the peer of this name replied
abbrev pub is_reply_line_of : List ℕ → List ℕ → Bool
is_reply_line_of name line =
    begins_with (codes "call " ++ (name ++ codes ".")) line || begins_with (codes "fault " ++ (name ++ codes ".")) line

-- whether there is no point in a name
abbrev pub has_no_point : List ℕ → Bool
has_no_point [] = true
has_no_point (x ∷ name) = cond (nat_eq x 46) false (has_no_point name)

-- whether a line says that, or that a peer was closed
abbrev pub is_peer_line : List ℕ → Bool
is_peer_line line = is_reply_line line || begins_with (codes "close ") line

-- those lines of a transcript
abbrev pub peer_lines : List (List ℕ) → List (List ℕ)
peer_lines lines = filter is_peer_line lines
