-- The connections that code may make, one after the other.
use Rattle.std.proofs.Common.{◌≡◌, ◌∙◌, refl, sym, ap, subst, ℕ, suc, List, [], ◌∷◌, ◌++◌, Option, None, Some, append_assoc, append-nil}
use Rattle.std.specs.List.{cons_option, filter_map}
use Rattle.std.proofs.lemmas.List.Elements.{filter_map-append}
use Rattle.ui_machine.specs.Definition.{Definition}
use Rattle.ui_machine.specs.Definition.Programs.{Block, Instruction, Program}
use Rattle.law_typing.specs.Graph.{Connection, connection_of, connections, listed_if}
use Rattle.law_typing.specs.Rules.RegisterKinds.{Kinds}
use Rattle.law_typing.specs.Rules.Sites.{Site, block_sites, code_sites, program_sites, sites}
use Rattle.law_typing.specs.Rules.Typing.{after}
use Rattle.verify_channels.specs.Connected.{AreConnected, ConnectsMore}
use Rattle.verify_channels.specs.ConnectedCode.{blocks_connections, code_connections, programs_connections}
use Rattle.verify_channels.specs.declared.connections.Connects.{Connects}

-- ** by sites

abbrev at_site : Definition → Site → Option Connection
at_site d s = connection_of d s.kinds s.instruction

cons_listed : {A : Type 0} → (o : Option A) (xs : List A) → cons_option o xs ≡ listed_if o ++ xs
cons_listed None xs = refl
cons_listed (Some x) xs = refl

code_is : (d : Definition) (p : Program) (program block at : ℕ) (ks : Kinds) (code : List Instruction) →
    filter_map (at_site d) (code_sites d p program block at ks code) ≡ code_connections d p ks code
code_is d p program block at ks [] = refl
code_is d p program block at ks (i ∷ rest) =
    cons_listed (connection_of d ks i) (filter_map (at_site d) (code_sites d p program block (suc at) (after d p ks i) rest))
    ∙ ap (λ xs. listed_if (connection_of d ks i) ++ xs) (code_is d p program block (suc at) (after d p ks i) rest)

blocks_are : (d : Definition) (p : Program) (program block : ℕ) (blocks : List Block) → filter_map (at_site d) (block_sites d p program block blocks) ≡ blocks_connections d p blocks
blocks_are d p program block [] = refl
blocks_are d p program block (b ∷ blocks) =
    filter_map-append (at_site d) (code_sites d p program block 0 b.entry b.code) (block_sites d p program (suc block) blocks)
    ∙ (ap (λ xs. xs ++ filter_map (at_site d) (block_sites d p program (suc block) blocks)) (code_is d p program block 0 b.entry b.code)
    ∙ ap (λ xs. code_connections d p b.entry b.code ++ xs) (blocks_are d p program (suc block) blocks))

programs_are : (d : Definition) (program : ℕ) (programs : List Program) → filter_map (at_site d) (program_sites d program programs) ≡ programs_connections d programs
programs_are d program [] = refl
programs_are d program (p ∷ programs) =
    filter_map-append (at_site d) (block_sites d p program 0 p.blocks) (program_sites d (suc program) programs)
    ∙ (ap (λ xs. xs ++ filter_map (at_site d) (program_sites d (suc program) programs)) (blocks_are d p program 0 p.blocks)
    ∙ ap (λ xs. blocks_connections d p p.blocks ++ xs) (programs_are d (suc program) programs))

pub all_connections : (d : Definition) → connections d (sites d) ≡ programs_connections d d.programs
all_connections d = programs_are d 0 d.programs

-- ** one after the other

pub more_none : (d : Definition) (x : Connects) → ConnectsMore d x x []
more_none d x ns are = subst (AreConnected d x) (sym (append-nil ns)) are

pub more_both : (d : Definition) (old middle new : Connects) (xs ys : List Connection) → ConnectsMore d old middle xs → ConnectsMore d middle new ys → ConnectsMore d old new (xs ++ ys)
more_both d old middle new xs ys one two ns are = subst (AreConnected d new) (append_assoc ns xs ys) (two (ns ++ xs) (one ns are))

-- the connections so far, where these are left
pub record SoFar (d : Definition) (old new : Connects) (rest whole : List Connection) : Type 0 where
  pub done : List Connection
  pub more : ConnectsMore d old new done
  pub is : done ++ rest ≡ whole

pub none_so_far : (d : Definition) (x : Connects) (whole : List Connection) → SoFar d x x whole whole
none_so_far d x whole = record { done = []; more = more_none d x; is = refl }

pub one_so_far : (d : Definition) (old middle new : Connects) (rest later whole next : List Connection) → SoFar d old middle rest whole → ConnectsMore d middle new next →
    rest ≡ next ++ later → SoFar d old new later whole
one_so_far d old middle new rest later whole next so_far more is = record {
  done = so_far.done ++ next;
  more = more_both d old middle new so_far.done next so_far.more more;
  is = append_assoc so_far.done next later ∙ (ap (λ xs. so_far.done ++ xs) (sym is) ∙ so_far.is);
}

pub all_so_far : (d : Definition) (old new : Connects) (rest whole : List Connection) → SoFar d old new rest whole → rest ≡ [] → ConnectsMore d old new whole
all_so_far d old new rest whole so_far none =
    subst (ConnectsMore d old new) (sym (append-nil so_far.done) ∙ (ap (λ xs. so_far.done ++ xs) (sym none) ∙ so_far.is)) so_far.more
