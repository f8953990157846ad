use Rattle.std.proofs.Common.{subst, arith}
use Rattle.std.proofs.lemmas.Grind.{common_steps}
use Rattle.ec_theory.specs.Reader.{left_of, HasKeyword}
use Rattle.ec_theory.specs.Walk.{Beginning, PatternAt, StrongNameAt, TimeKindAt, Event, Left, Initial}
use Rattle.ec_theory.proofs.WalkSteps.{goes_from}
use Rattle.ec_theory.proofs.ClauseWalk.{rule_goes, exclusive_goes, strong_goes, initially_goes, time_goes, no_clause}
use Rattle.ec_theory.proofs.clause.read_with_names.Goals as goal

pub returns-in-Some-Rule-default-clause-goes : goal.returns-in-Some-Rule-default-clause-goes
returns-in-Some-Rule-default-clause-goes c =
    goes_from Beginning (PatternAt Event) Beginning (left_of c.args.cursor) _ _ (rule_goes (left_of c.args.cursor) _ (subst (λ k. HasKeyword (left_of c.args.cursor) k (left_of c.in-Some-Rule-default.behind)) c.in-Some-Rule-default.field-0-0-is c.in-Some-Rule-default.ensures.some)) c.read_rule.ensures.goes

pub returns-in-Some-Exclusive-default-clause-goes : goal.returns-in-Some-Exclusive-default-clause-goes
returns-in-Some-Exclusive-default-clause-goes c =
    goes_from Beginning (PatternAt Left) Beginning (left_of c.args.cursor) _ _ (exclusive_goes (left_of c.args.cursor) _ (subst (λ k. HasKeyword (left_of c.args.cursor) k (left_of c.in-Some-Exclusive-default.behind)) c.in-Some-Exclusive-default.field-0-0-is c.in-Some-Exclusive-default.ensures.some)) c.read_exclusive.ensures.goes

pub returns-in-Some-Strong-default-clause-goes : goal.returns-in-Some-Strong-default-clause-goes
returns-in-Some-Strong-default-clause-goes c =
    goes_from Beginning StrongNameAt Beginning (left_of c.args.cursor) _ _ (strong_goes (left_of c.args.cursor) _ (subst (λ k. HasKeyword (left_of c.args.cursor) k (left_of c.in-Some-Strong-default.behind)) c.in-Some-Strong-default.field-0-0-is c.in-Some-Strong-default.ensures.some)) c.read_strong.ensures.goes

pub returns-in-Some-Initially-default-clause-goes : goal.returns-in-Some-Initially-default-clause-goes
returns-in-Some-Initially-default-clause-goes c =
    goes_from Beginning (PatternAt Initial) Beginning (left_of c.args.cursor) _ _ (initially_goes (left_of c.args.cursor) _ (subst (λ k. HasKeyword (left_of c.args.cursor) k (left_of c.in-Some-Initially-default.behind)) c.in-Some-Initially-default.field-0-0-is c.in-Some-Initially-default.ensures.some)) c.read_initial.ensures.goes

pub returns-in-Some-Time-default-clause-goes : goal.returns-in-Some-Time-default-clause-goes
returns-in-Some-Time-default-clause-goes c =
    goes_from Beginning TimeKindAt Beginning (left_of c.args.cursor) _ _ (time_goes (left_of c.args.cursor) _ (subst (λ k. HasKeyword (left_of c.args.cursor) k (left_of c.in-Some-Time-default.behind)) c.in-Some-Time-default.field-0-0-is c.in-Some-Time-default.ensures.some)) c.read_time.ensures.goes

pub returns-in-None-clause-goes : goal.returns-in-None-clause-goes
returns-in-None-clause-goes c = no_clause c.args.cursor.rest.now c.args.cursor.end _ c.requires c.in-None.ensures.none c.fault.ensures

pub returns-in-Some-Rule-default-clause-takes : goal.returns-in-Some-Rule-default-clause-takes
returns-in-Some-Rule-default-clause-takes c = grind (arith, common_steps)
