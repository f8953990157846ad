use Rattle.ec_theory.specs.Walk.{Condition as PartCondition, ConditionAt, PatternAt, AfterPattern}
use Rattle.ec_theory.specs.Reader.{left_of, BeginsLiteral, BeginsTest}
use Rattle.ec_theory.proofs.WalkSteps.{goes_from}
use Rattle.ec_theory.proofs.ConditionWalk.{literal_is, literal_not, literal_goes, not_goes}
use Rattle.std.proofs.lemmas.Bool.{MatchBool-at_true}
use Rattle.ec_theory.proofs.condition.read_condition.Goals as goal

pub returns-in-Some-clause-takes : goal.returns-in-Some-clause-takes
returns-in-Some-clause-takes c = literal_not _ (left_of c.args.cursor) (left_of c.in-Some.behind) _ c.in-Some.ensures.some c.read_literal.ensures.takes

pub returns-in-Some-clause-goes : goal.returns-in-Some-clause-goes
returns-in-Some-clause-goes c =
    goes_from ConditionAt (PatternAt PartCondition) (AfterPattern PartCondition) (left_of c.args.cursor) (left_of c.in-Some.behind) _
    (not_goes (left_of c.args.cursor) (left_of c.in-Some.behind) c.in-Some.ensures.some) c.read_literal.ensures.goes

pub returns-then-begins_literal-clause-takes : goal.returns-then-begins_literal-clause-takes
returns-then-begins_literal-clause-takes c = literal_is _ (left_of c.args.cursor) _ c.read_literal-then-begins_literal.ensures.takes

pub returns-then-begins_literal-clause-goes : goal.returns-then-begins_literal-clause-goes
returns-then-begins_literal-clause-goes c =
    goes_from ConditionAt (PatternAt PartCondition) (AfterPattern PartCondition) (left_of c.args.cursor) (left_of c.args.cursor) _
    (literal_goes (left_of c.args.cursor) (MatchBool-at_true (BeginsLiteral (left_of c.args.cursor)) (BeginsTest (left_of c.args.cursor)) c.if-begins_literal.true c.begins_literal.ensures)) c.read_literal-then-begins_literal.ensures.goes
