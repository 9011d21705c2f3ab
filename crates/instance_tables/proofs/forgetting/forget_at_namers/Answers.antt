use Rattle.std.proofs.Common.{◌≡◌, ℕ, ◌<◌, inl, inr, Option, Some, None, is_some, refl, sym, ap, ◌∙◌, arith}
use Rattle.std.proofs.lemmas.Bool.{cases_eq, cases_lt}
use Rattle.std.specs.Option.{option_map}
use Rattle.instance_tables.specs.Names.{forgotten_in}
use Rattle.instance_tables.specs.declared.instance.Instance.{Instance}
use Rattle.instance_tables.specs.View.{instances_at}
use Rattle.instance_tables.proofs.Naming.{unnamed_stays}
use Rattle.instance_tables.proofs.forgetting.forget_at_namers.Goals as goal

pub holders-preserved : goal.holders-preserved
holders-preserved c =
    let weak = c.args.weak.now in
    let id : ℕ = c.args.id.0 in
    let at = instances_at c.holders.instances in
    let holder = c.in-Some.holder in
    let was = c.holders.invariant in
    record {
      done = λ q small.
          elim (cases_eq q holder) [
            | inl is ↦
                ap (instances_at c.forget_at.new.instances) is ∙ c.forget_at.ensures.changed
                ∙ ap (option_map (forgotten_in weak id)) (was.left holder c.in-Some.ensures.0 ∙ ap (instances_at c.args.instances.now) (sym is))
            | inr ne ↦
                c.forget_at.ensures.others q ne
                ∙ elim (cases_lt c.holders.at q) [
                  | inl more ↦
                      unnamed_stays weak c.holders.namers at id q was.known
                      (λ may. c.in-Some.ensures.1 q was.kept may more (omega (arith, small, ne)))
                      ∙ ap (option_map (forgotten_in weak id)) (was.left q more)
                  | inr few ↦ was.done q few
                ]
          ];
      left = λ q more.
          c.forget_at.ensures.others q (λ is. omega (arith, more, is))
          ∙ was.left q (omega (arith, more, c.in-Some.ensures.0));
      known = c.forget_at.ensures.known was.known;
      kept = c.forget_at.ensures.kept ∙ was.kept;
    }

pub returns-clause-forgotten : goal.returns-clause-forgotten
returns-clause-forgotten c q =
    elim (cases_lt c.holders.at q) [
      | inl more ↦ by (instances_at c.holders.instances q) refl more
      | inr few ↦ c.holders.invariant.done q few
    ]
  where
    g : Option Instance → Option Instance
    g = option_map (forgotten_in c.args.weak.now c.args.id.0)

    by : (o : Option Instance) → instances_at c.holders.instances q ≡ o → c.holders.at < q
        → instances_at c.holders.instances q ≡ g (instances_at c.args.instances.now q)
    by None gone more = gone ∙ ap g (sym gone ∙ c.holders.invariant.left q more)
    by (Some x) here more =
        let given = c.requires.given q (ap is_some (sym (c.holders.invariant.left q more) ∙ here)) in
        unnamed_stays c.args.weak.now c.holders.namers (instances_at c.holders.instances) c.args.id.0 q c.holders.invariant.known
        (λ may. c.in_default.ensures.1 q c.holders.invariant.kept may more (omega (arith, given.1, c.ranges.last.fits)))
        ∙ ap g (c.holders.invariant.left q more)
