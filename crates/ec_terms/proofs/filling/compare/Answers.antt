use Rattle.std.proofs.Common.{◌≡◌, ◌∙◌, ap, not}
use Rattle.std.specs.Ordering.{is_lt, is_le, is_some_and}
use Rattle.ec_terms.specs.contracts.ground.ArgRefPartialEq.TheImpl.{eq-value}
use Rattle.ec_terms.specs.Term.{arg_of}
use Rattle.ec_terms.proofs.MatchingLemmas.{arg_ref_eq}
use Rattle.ec_terms.proofs.FillingLemmas.{arg_ref_partial_cmp, compares-same, compares-differ, compares-below, compares-at_most}
use Rattle.ec_terms.proofs.filling.compare.Goals as goal

pub returns-in-Same : goal.returns-in-Same
returns-in-Same c = c.eq.ensures ∙ arg_ref_eq c.args.left c.args.right ∙ compares-same c.args.op (arg_of c.args.left) (arg_of c.args.right) c.in-Same.is

pub returns-in-Differ : goal.returns-in-Differ
returns-in-Differ c =
    let differ : c.ne.result ≡ not (eq-value.it c.args.left c.args.right) = c.ne.ensures in
    differ ∙ ap not (arg_ref_eq c.args.left c.args.right) ∙ compares-differ c.args.op (arg_of c.args.left) (arg_of c.args.right) c.in-Differ.is

pub returns-in-Less : goal.returns-in-Less
returns-in-Less c =
    c.lt.ensures ∙ ap (is_some_and is_lt) (arg_ref_partial_cmp c.args.left c.args.right) ∙ compares-below c.args.op (arg_of c.args.left) (arg_of c.args.right) c.in-Less.is

pub returns-in-AtMost : goal.returns-in-AtMost
returns-in-AtMost c =
    c.le.ensures ∙ ap (is_some_and is_le) (arg_ref_partial_cmp c.args.left c.args.right) ∙ compares-at_most c.args.op (arg_of c.args.left) (arg_of c.args.right) c.in-AtMost.is
