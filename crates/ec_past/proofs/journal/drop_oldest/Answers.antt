-- What weighs more than there is room for has an oldest update, which goes.
use Rattle.std.proofs.Common.{sym, ap, ◌∙◌, arith}
use Rattle.ec_commands.specs.declared.limits.TheConstants.{MOST_PAST}
use Rattle.ec_past.specs.Journals.{latest_within, weights_of}
use Rattle.ec_past.proofs.Windows.{latest_within-all, latest_within-last, oldest-weighs}
use Rattle.ec_past.proofs.journal.drop_oldest.Goals as goal

pub overflow_sub-weight : goal.overflow_sub-weight
overflow_sub-weight g c =
    let together = oldest-weighs c.loop-weight.kept.items c.pop_back.new.self.items c.in-Some.oldest c.in-Some.ensures.items in
    let before = c.loop-weight.invariant.weighs in
    let gone = c.weight_of-weight.ensures in
    omega arith

pub loop-weight-preserved : goal.loop-weight-preserved
loop-weight-preserved g c =
    let together = oldest-weighs c.loop-weight.kept.items c.pop_back.new.self.items c.in-Some.oldest c.in-Some.ensures.items in
    let before = c.loop-weight.invariant.weighs in
    let gone = c.weight_of-weight.ensures in
    let over = c.loop-weight-test.true in
    record {
      weighs = omega arith;
      latest =
          sym (latest_within-last MOST_PAST c.pop_back.new.self.items c.in-Some.oldest (omega (arith, ap weights_of c.in-Some.ensures.items)))
          ∙ ap (latest_within MOST_PAST) (sym c.in-Some.ensures.items) ∙ c.loop-weight.invariant.latest;
      capacity = c.in-Some.ensures.capacity ∙ c.loop-weight.invariant.capacity;
    }

pub returns-clause-kept : goal.returns-clause-kept
returns-clause-kept g c =
    let before = c.loop-weight.invariant.weighs in
    let fits = c.loop-weight-test.false in
    sym (latest_within-all MOST_PAST c.loop-weight.kept.items (omega arith)) ∙ c.loop-weight.invariant.latest
