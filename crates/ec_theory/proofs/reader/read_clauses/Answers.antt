use Rattle.std.proofs.Common.{map, ap, subst, arith}
use Rattle.std.proofs.lemmas.Grind.{common_steps}
use Rattle.ec_theory.specs.Lexeme.{Lexemes, lexeme_of}
use Rattle.ec_theory.specs.Sign.{sign_of, signs_of}
use Rattle.ec_theory.specs.Grammar.{ReadsFrom}
use Rattle.ec_theory.proofs.ShorterRests.{signs_length}
use Rattle.ec_theory.proofs.ClauseLoop.{clause_shorter, clauses_more, clauses_all}
use Rattle.ec_theory.proofs.reader.read_clauses.Goals as goal

pub loop-next-smaller : goal.loop-next-smaller
loop-next-smaller c = omega (arith, clause_shorter c.in_ok-clause.ensures.takes, signs_length c.loop-next.next.rest.now, signs_length c.in_ok-clause.behind.rest.now)

pub loop-next-preserved : goal.loop-next-preserved
loop-next-preserved c = clauses_more c.loop-next.invariant c.push_clause.new.theory c.in_ok-clause.ensures.takes c.in_ok-clause.ensures.goes c.in_ok-push_clause.ensures

pub returns-clause-ok : goal.returns-clause-ok
returns-clause-ok c =
    subst (λ (l : Lexemes). ReadsFrom 1 (signs_of l) c.loop-next.theory) c.new-next.ensures
    (clauses_all c.loop-next.invariant (ap (λ t. map sign_of (map lexeme_of t)) (c.is_at_end.ensures.0 c.loop-next-test.false)))

pub overflow_add-number : goal.overflow_add-number
overflow_add-number c = grind (arith, common_steps)

pub read_clause-requires : goal.read_clause-requires
read_clause-requires c = grind (arith, common_steps)
