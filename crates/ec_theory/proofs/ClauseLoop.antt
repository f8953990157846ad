-- What the loop over the clauses of a theory keeps.
use Rattle.std.proofs.Common.{◌≡◌, ℕ, ◌+◌, ◌<◌, ◌≤◌, List, [], ◌∷◌, ◌++◌, length, sym, refl, ap, ◌∙◌, subst, arith, append_assoc, append-nil}
use Rattle.std.proofs.lemmas.List.{length-map}
use Rattle.ec_terms.specs.declared.theory.Theory.{Theory}
use Rattle.ec_theory.specs.Lexeme.{Lexemes}
use Rattle.ec_theory.specs.declared.clause.Clause.{Clause}
use Rattle.ec_theory.specs.declared.clause.Clause.TheVariants as clause
use Rattle.ec_theory.specs.Sign.{Sign, sign_of, signs_of, variables_of}
use Rattle.ec_theory.specs.Grammar.{TakesClause, rule, exclusive, strong, initially, time, TakesBody, empty, conditions, TakesConditions, final, further, ReadsFrom, no_more, one_more, no_clauses, with_clause}
use Rattle.ec_theory.specs.Walk.{Beginning, stop_of}
use Rattle.ec_theory.specs.Reader.{clause_added}
use Rattle.ec_theory.proofs.ShorterRests.{pattern_shorter, condition_shorter}
use Rattle.ec_theory.specs.declared.condition.Condition.{Condition}

conditions_shorter : {names : List (List ℕ)} {signs : List Sign} {cs : List Condition} {rest : List Sign} → TakesConditions names signs cs rest → length rest < length signs
conditions_shorter (final t) = omega (arith, condition_shorter t)
conditions_shorter (further t ts) = omega (arith, condition_shorter t, conditions_shorter ts)

body_shorter : {names : List (List ℕ)} {signs : List Sign} {cs : List Condition} {rest : List Sign} → TakesBody names signs cs rest → length rest < length signs
body_shorter empty = omega arith
body_shorter (conditions t) = omega (arith, conditions_shorter t)

pub clause_shorter : {names : List (List ℕ)} {number : ℕ} {signs : List Sign} {c : Clause} {rest : List Sign} → TakesClause names number signs c rest → length rest < length signs
clause_shorter (rule begins event head body) = omega (arith, pattern_shorter event, pattern_shorter head, body_shorter body)
clause_shorter (exclusive begins left right) = omega (arith, pattern_shorter left, pattern_shorter right)
clause_shorter (strong begins) = omega arith
clause_shorter (initially begins prop) = omega (arith, pattern_shorter prop)
clause_shorter (time begins named) = omega arith

-- the clauses of one theory and then those of another
abbrev pub joined : Theory → Theory → Theory
joined before after = record {
  rules = before.rules ++ after.rules;
  exclusives = before.exclusives ++ after.exclusives;
  strongs = before.strongs ++ after.strongs;
  initials = before.initials ++ after.initials;
  times = before.times ++ after.times;
}

joined_clause : (before : Theory) (c : Clause) (after : Theory) → joined (clause_added before c) after ≡ joined before (with_clause c after)
unfolding clause_added with_clause
joined_clause before (clause.Rule r) after = ap (λ l. record (joined before after) { rules = l }) (append_assoc before.rules (r ∷ []) after.rules)
joined_clause before (clause.Exclusive e) after = ap (λ l. record (joined before after) { exclusives = l }) (append_assoc before.exclusives (e ∷ []) after.exclusives)
joined_clause before (clause.Strong s) after = ap (λ l. record (joined before after) { strongs = l }) (append_assoc before.strongs (s ∷ []) after.strongs)
joined_clause before (clause.Initial i) after = ap (λ l. record (joined before after) { initials = l }) (append_assoc before.initials (i ∷ []) after.initials)
joined_clause before (clause.Time t) after = ap (λ l. record (joined before after) { times = l }) (append_assoc before.times (t ∷ []) after.times)

joined_none : (before : Theory) → joined before no_clauses ≡ before
joined_none before =
    λ i. record {
      rules = append-nil before.rules i;
      exclusives = append-nil before.exclusives i;
      strongs = append-nil before.strongs i;
      initials = append-nil before.initials i;
      times = append-nil before.times i;
    }

-- the clauses so far: whatever clauses come next, all together are the text; and the walk came here
pub record Clauses (start : Lexemes) (theory : Theory) (number : ℕ) (here : Lexemes) : Type 0 where
  pub takes : (more : Theory) → ReadsFrom number (signs_of here) more → ReadsFrom 1 (signs_of start) (joined theory more)
  pub goes : stop_of Beginning start ≡ stop_of Beginning here
  pub count : number + length here.tokens ≤ 1 + length start.tokens

pub clauses_none : (start : Lexemes) (theory : Theory) → theory ≡ no_clauses → Clauses start theory 1 start
clauses_none start theory none = record { takes = λ more reads. rw none reads; goes = refl; count = omega arith }

module _ {start : Lexemes} {theory : Theory} {number : ℕ} {here : Lexemes} (so_far : Clauses start theory number here) where
  pub clauses_more : {c : Clause} {behind : Lexemes} (theory' : Theory) → TakesClause (variables_of (signs_of here)) number (signs_of here) c (signs_of behind) → stop_of Beginning here ≡ stop_of Beginning behind → theory' ≡ clause_added theory c → Clauses start theory' (number + 1) behind
  clauses_more {c = c} {behind = behind} theory' takes goes added = record {
    takes = λ more reads. subst (λ th. ReadsFrom 1 (signs_of start) th) (sym (ap (λ th. joined th more) added ∙ joined_clause theory c more)) (so_far.takes (with_clause c more) (one_more takes reads));
    goes = so_far.goes ∙ goes;
    count = omega (arith, clause_shorter takes, length-map here.tokens sign_of, length-map behind.tokens sign_of, so_far.count);
  }

  pub clauses_all : signs_of here ≡ [] → ReadsFrom 1 (signs_of start) theory
  clauses_all none = subst (λ th. ReadsFrom 1 (signs_of start) th) (joined_none theory) (so_far.takes no_clauses (rw none no_more))
