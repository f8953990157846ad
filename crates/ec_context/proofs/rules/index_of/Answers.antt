-- At first nothing is found, and one rule more is for no events of which nothing is found.
use Rattle.std.proofs.Common.{◌∷◌, is_some, sym, ap, ◌∙◌, arith}
use Rattle.std.proofs.lemmas.Grind.{common_steps}
use Rattle.std.proofs.lemmas.Bool.{false≢true}
use Rattle.ec_context.proofs.IndexLemmas.{found_at-empty}
use Rattle.ec_context.proofs.PlaceLemmas.{places_for-none, places_for-not_met}
use Rattle.ec_context.proofs.rules.index_of.Goals as goal

pub loop-rule-init : goal.loop-rule-init
loop-rule-init c = record {
  exact = λ name arity found. absurd (false≢true (ap is_some (sym (found_at-empty c.new-index.result (arity ∷ name) c.new-index.ensures.empty)) ∙ found));
  none = λ name arity none. places_for-none name arity;
}

pub loop-rule-preserved : goal.loop-rule-preserved
loop-rule-preserved c = record {
  exact = c.in_ok-add.ensures.exact;
  none = λ name arity none. places_for-not_met name arity c.args.rules.now c.loop-rule.rule-index c.rule-item.result c.loop-rule-test.true c.rule-item.is
      (c.in_ok-add.ensures.here name arity none)
      ∙ c.loop-rule.invariant.none name arity (c.in_ok-add.ensures.kept name arity none);
}

pub returns : goal.returns
returns c = grind (arith, common_steps)
