-- A source is attached, or past the limit its line said.
use Rattle.std.proofs.Common.{◌≡◌, refl, ap, ◌∙◌, ℕ, suc, Bool, true, false, cond, List, [], ◌∷◌, ◌++◌, Option, None, Some, Ok, arith}
use Rattle.std.specs.Prelude.{◌&&◌, codes}
use Rattle.ui_machine.specs.Definition.Kinds.{RegisterKind}
use Rattle.ui_machine.specs.Definition.Kinds as kinds
use Rattle.ui_machine.specs.Definition.Values as values
use Rattle.ui_machine.specs.Definition.{Definition}
use Rattle.ui_machine.specs.Definition.Lookups.{program_of}
use Rattle.ui_machine.specs.Definition.Programs.{Instruction, Program}
use Rattle.ui_machine.specs.Definition.Programs as words
use Rattle.ui_machine.specs.State.Sources as sources
use Rattle.ui_machine.specs.State.Tasks.{Frame, Task}
use Rattle.ui_machine.specs.State.Config.{World, said}
use Rattle.ui_machine.specs.Output.Lines as lines
use Rattle.ui_machine.specs.Output.Text.{text_of_line}
use Rattle.ui_machine.specs.Instructions.{instruction_step, in_front}
use Rattle.ui_machine.specs.Instructions.Registers.{data_in, tells}
use Rattle.ui_machine.specs.Instructions.Sources.{Attach, with_source, attached_to, attaching}
use Rattle.ui_machine.specs.Instructions.Jumps.{past}
use Rattle.law_typing.specs.Rules.RegisterKinds.{fits}
use Rattle.law_typing.specs.Rules.Signatures.{parameters_fit, result_fits, takes, is_taken_by, data_kinds}
use Rattle.law_typing.specs.Rules.Typing.{after}
use Rattle.law_typing.specs.Rules.Brackets.{written}
use Rattle.law_typing.specs.Graph.{graph, source_named}
use Rattle.law_typing.specs.Laws.{IsIn}
use Rattle.law_typing.specs.Laws.WellRead.{ends}
use Rattle.law_typing.specs.Good.Standing.{standing}
use Rattle.law_typing.specs.Good.Handlers.{data_kind}
use Rattle.law_typing.specs.Good.Bindings.{SourceGood}
use Rattle.law_typing.proofs.Lists.{both_parts}
use Rattle.law_static.specs.Sites.{BlockIs, site}
use Rattle.law_static.proofs.SiteProofs.{sites_keep}
use Rattle.law_static.proofs.RaisesProofs.{sources_known}
use Rattle.law_steps.proofs.Kept.SourcesProofs.{sources_attached}
use Rattle.law_steps.specs.Instructed.Attaching.{AttachmentsAreFine}
use Rattle.law_steps.proofs.Instructed.Frozen.{is_bracket}
use Rattle.law_steps.proofs.Instructed.Around.{Due, r, here, taken, StepIsFine, fine_of}
use Rattle.law_steps.proofs.Instructed.Written.{Moved, moved_written, said_moved}
use Rattle.law_steps.proofs.Instructed.Lists.{lists_of, lists_moved}
use Rattle.law_steps.proofs.Instructed.Typed.{Attaches, attaching_is}
use Rattle.law_steps.proofs.Instructed.Data.{OneKind, none, some, HasData, has_data}

-- what a program takes of one kind it takes of one that may take its place
taken_too : (d : Definition) (p : Program) (k l : Option RegisterKind) → OneKind d k l → takes d p (data_kinds k) (Some kinds.bool) ≡ true → takes d p (data_kinds l) (Some kinds.bool) ≡ true
taken_too d p _ _ none e = e
taken_too d p _ _ (some a b stands) e =
    let x = both_parts (parameters_fit d (a ∷ []) p.params) (result_fits d p.result (Some kinds.bool)) e in
    ap (λ b. b && result_fits d p.result (Some kinds.bool)) (one p.params x.0) ∙ x.1
  where
    one : (ps : _) → parameters_fit d (a ∷ []) ps ≡ true → parameters_fit d (b ∷ []) ps ≡ true
    one [] e = absurd (cc)
    one (q ∷ ps) e = let x = both_parts (fits d a q) (parameters_fit d [] ps) e in ap (λ b. b && parameters_fit d [] ps) (stands q x.0) ∙ x.1

attach_writes : (d : Definition) (w : World) (rest : List Task) (f : Frame) (to : ℕ) (x : Attach) (number : ℕ) (arg : Option ℕ) → program_of d x.program ≡ Some number →
    data_in w f x.with ≡ Ok arg → in_front rest (attaching d w f to x) ≡ in_front rest (tells (attached_to d w x number arg) to f)
unfolding attaching
attach_writes d w rest f to x number arg e is = rw (e, is) refl

module _ {d : Definition} {i : Instruction} (t : Due d i) (plain : is_bracket i ≡ false) where
  open t use {a, w, f, rest, g}

  -- the world with a new source, and its line said
  source_moved : (x : Attach) (program : ℕ) (arg : Option ℕ) → SourceGood d (standing w.objects) (sources.new_source (suc w.last_source) w.moment program x.priority x.interval arg) →
      Moved t plain (with_source w x program arg)
  source_moved x program arg good =
      lists_moved t plain (record (lists_of w) { sources = sources.attached w.sources (sources.new_source (suc w.last_source) w.moment program x.priority x.interval arg); last_source = suc w.last_source })
      (record {
        handlers = g.handlers;
        bindings = g.bindings;
        sources = sources_attached d (standing w.objects) w.sources _ g.sources good;
        floating = g.floating;
        none = λ e. e;
        last = omega arith;
        handlers_were = λ number low h is. (h, is, refl, refl, refl);
        bindings_were = λ number b is. is;
      })

  attach_fine : (to : ℕ) (x : Attach) → ends i ≡ false → written i ≡ Some to → ((number : ℕ) → program_of d x.program ≡ Some number → source_named d i ≡ Some number) →
      Attaches d (r t).ks to x.program x.with (after d (r t).p (r t).ks i) → instruction_step d w rest (past f) i ≡ in_front rest (attaching d w (past f) to x) → StepIsFine t
  attach_fine to x more writes names k does =
      go (sources.has_room w.sources w.last_source) (does ∙ attach_writes d w rest (past f) to x k.number datum.arg k.is datum.is)
    where
      datum : HasData t x.with k.data_kind
      datum = has_data t x.with k.data_kind k.given

      told : IsIn k.number (graph d).sources
      told =
          let block : BlockIs d f.program f.block (r t).p (r t).b = record { is = (r t).is; has = (r t).in_block } in
          let kept = sites_keep d a f.program f.block f.at (r t).p (r t).b i block (here t) in
          sources_known d (site d f.program f.block (r t).p (r t).b f.at i) k.number k.p kept.known (names k.number k.is) k.there

      good : SourceGood d (standing w.objects) (sources.new_source (suc w.last_source) w.moment k.number x.priority x.interval datum.arg)
      good = record {
        arg = datum.lives;
        takes =
            ap (λ p. is_taken_by d p (data_kinds (data_kind (standing w.objects) datum.arg)) (Some kinds.bool)) k.there
            ∙ taken_too d k.p k.data_kind (data_kind (standing w.objects) datum.arg) datum.kind k.takes;
        told = told;
      }

      go : (room : Bool) → instruction_step d w rest (past f) i
          ≡ in_front rest (tells (cond room (record { state = with_source w x k.number datum.arg; answer = true }) (record { state = said d w (lines.limit x.word); answer = false })) to (past f)) →
          StepIsFine t
      go true does = moved_written t plain (with_source w x k.number datum.arg) (source_moved x k.number datum.arg good) to (kinds.plain kinds.bool) (Some (values.bool true)) more writes k.kinds_are refl does
      go false does =
          moved_written t plain (said d w (lines.limit x.word)) (said_moved t plain (w.transcript ++ text_of_line d.types (lines.limit x.word) ∷ [])) to (kinds.plain kinds.bool) (Some (values.bool false)) more writes k.kinds_are refl does

pub attachments_are_fine : AttachmentsAreFine
attachments_are_fine (words.idle to program priority with) e =
    fine_of (λ d t. attach_fine t refl to (record { word = codes "idle"; program = program; priority = priority; interval = None; with = with }) refl refl (λ number is. is)
    (attaching_is d (r t).ks to program with _ (taken t).typed) refl)
attachments_are_fine (words.timeout to program priority interval with) e =
    fine_of (λ d t. attach_fine t refl to (record { word = codes "timeout"; program = program; priority = priority; interval = Some interval; with = with }) refl refl (λ number is. is)
    (attaching_is d (r t).ks to program with _ (taken t).typed) refl)
attachments_are_fine _ e = absurd (cc)
