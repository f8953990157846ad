-- A literal wants room where no earlier one is on its property.
use Rattle.std.proofs.Common.{sym, ◌∙◌, arith}
use Rattle.std.proofs.lemmas.Grind.{common_steps}
use Rattle.ec_entries.proofs.Wanting.{IsWider-then, WantsMore-again, WantsMore-first}
use Rattle.ec_entries.proofs.reserving.want_entry.Goals as goal
use Rattle.ec_entries.proofs.reserving.want_entry.Goals.{then-not-is_any_on+in_ok-want, else-not-is_any_on}

pub loop-k-preserved : goal.loop-k-preserved
loop-k-preserved g c =
    elim c.if-not-is_any_on.branch [
      | then-not-is_any_on+in_ok-want w ↦ rw (w.rows-is, w.wanted-is)
          (record {
            wider = IsWider-then c.args.rows.now c.loop-k.rows w.want.new.rows c.loop-k.invariant.wider w.in_ok-want.ensures.wider;
            wants = WantsMore-first c.args.literals.now c.loop-k.k _ c.loop-k-test.true c.args.wanted.now c.loop-k.wanted w.want.new.wanted c.loop-k.rows w.want.new.rows
                c.loop-k.invariant.wants (sym c.is_any_on.ensures ∙ w.if-not-is_any_on.true) w.in_ok-want.ensures.ok;
          })
      | else-not-is_any_on w ↦ rw (w.rows-is, w.wanted-is)
          (record {
            wider = c.loop-k.invariant.wider;
            wants = WantsMore-again c.args.literals.now c.loop-k.k _ c.loop-k-test.true c.args.wanted.now c.loop-k.wanted c.loop-k.wanted c.loop-k.rows c.loop-k.rows
                c.loop-k.invariant.wants (sym c.is_any_on.ensures ∙ w.if-not-is_any_on.false);
          })
    ]

pub returns-in_err-want-clause-wider : goal.returns-in_err-want-clause-wider
returns-in_err-want-clause-wider c = grind (arith, common_steps)

pub loop-k-init : goal.loop-k-init
loop-k-init c = grind (arith, common_steps)

pub returns-clause-ok : goal.returns-clause-ok
returns-clause-ok c = grind (arith, common_steps)

pub want-requires : goal.want-requires
want-requires c = grind (arith, common_steps)
