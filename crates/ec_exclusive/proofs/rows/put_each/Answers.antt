-- The next list is what it was.
use Rattle.std.proofs.Common.{◌≡◌, sym, subst, ◌∙◌, arith}
use Rattle.std.proofs.lemmas.Grind.{common_steps}
use Rattle.ec_numbered.specs.PropSet.{with_number}
use Rattle.ec_numbered.specs.ByNumber.{kept_at}
use Rattle.ec_exclusive.specs.Kept.{HasRoom}
use Rattle.ec_exclusive.proofs.InTurn.{AreEdited-more, kept_at-next, has_number-at, prop_at_place, read_at_place}
use Rattle.ec_exclusive.proofs.rows.put_each.Goals as goal
use Rattle.ec_exclusive.proofs.rows.put_each.Goals.{In-loop-q}

-- the list in turn
next : (c : In-loop-q) → kept_at (prop_at_place c.args.props.now c.loop-q.q-index).0 c.loop-q.rows ≡ kept_at (prop_at_place c.args.props.now c.loop-q.q-index).0 c.args.rows.now
next c =
    kept_at-next c.args.props.now (with_number c.args.p) c.loop-q.q-index c.args.rows.now c.loop-q.rows _ c.loop-q.invariant.edited c.requires.ascends c.loop-q-test.true
    (read_at_place c.args.props.now c.loop-q.q-index c.loop-q-test.true)

pub put_in-requires : goal.put_in-requires
put_in-requires c =
    subst HasRoom (sym (next (goal.at.put_in-requires c).In-loop-q))
    (c.requires.room (prop_at_place c.args.props.now c.loop-q.q-index) (has_number-at c.args.props.now c.loop-q.q-index _ c.loop-q-test.true))

pub loop-q-preserved : goal.loop-q-preserved
loop-q-preserved c = record {
  len = c.put_in.ensures.len ∙ c.loop-q.invariant.len;
  edited = AreEdited-more c.args.props.now (with_number c.args.p) c.loop-q.q-index c.args.rows.now c.loop-q.rows c.put_in.new.rows
      (prop_at_place c.args.props.now c.loop-q.q-index) c.loop-q.invariant.edited c.requires.ascends c.loop-q-test.true
      (read_at_place c.args.props.now c.loop-q.q-index c.loop-q-test.true) c.put_in.ensures.put c.put_in.ensures.others;
}

pub returns-clause-others : goal.returns-clause-others
returns-clause-others c = grind (arith, common_steps)

pub returns-clause-put : goal.returns-clause-put
returns-clause-put c = grind (arith, common_steps)
