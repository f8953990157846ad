-- A list of tokens has at most one reading.
use Rattle.std.proofs.Common.{◌≡◌, ℕ, ◌+◌, true, false, List, [], ◌∷◌, sym, refl, ap, ◌∙◌, subst}
use Rattle.ec_terms.specs.declared.pattern.PatArg.{PatArg}
use Rattle.ec_terms.specs.declared.pattern.Pattern.{Pattern}
use Rattle.ec_terms.specs.declared.theory.Theory.{Theory}
use Rattle.ec_theory.specs.declared.condition.Condition.{Condition}
use Rattle.ec_theory.specs.declared.condition.Condition.TheVariants as condition
use Rattle.ec_theory.specs.declared.clause.Clause.{Clause}
use Rattle.ec_theory.specs.declared.clause.Clause.TheVariants as clause
use Rattle.ec_theory.specs.declared.sign.Symbol.TheVariants.{Comma, Dot}
use Rattle.ec_theory.specs.Sign.{Sign, Given, argument_of, variables_of}
use Rattle.ec_theory.specs.Grammar.{TakesArguments, last, more, TakesPattern, alone, applied, TakesCondition, current, not_current, test, TakesConditions, final, further, TakesBody, empty, conditions, TakesClause, rule, exclusive, strong, initially, time, tests_of, literals_of, ReadsFrom, no_more, one_more, with_clause}
use Rattle.ec_theory.proofs.WalkEnds.{opens, compares, pattern_closed, body_closed}

module _ (names : List (List ℕ)) where
  arguments_same : {signs : List Sign} {args args' : List PatArg} {rest rest' : List Sign} → TakesArguments names signs args rest → TakesArguments names signs args' rest' → (args ≡ args') × (rest ≡ rest')
  arguments_same (last e) (last e') = (cc, refl)
  arguments_same (more e t) (more e' t') = let same = arguments_same t t' in (cc, same.1)

  pattern_same : {signs : List Sign} {p p' : Pattern} {rest rest' : List Sign} → TakesPattern names signs p rest → TakesPattern names signs p' rest' → opens rest ≡ false → opens rest' ≡ false → (p ≡ p') × (rest ≡ rest')
  pattern_same alone alone closed closed' = (refl, refl)
  pattern_same alone (applied t) closed closed' = cc
  pattern_same (applied t) alone closed closed' = cc
  pattern_same (applied {w = w} t) (applied t') closed closed' = let same = arguments_same t t' in (ap (λ l. record { name = w; args = l }) same.0, same.1)

  condition_same : {signs : List Sign} {c c' : Condition} {rest rest' : List Sign} → TakesCondition names signs c rest → TakesCondition names signs c' rest' → opens rest ≡ false → opens rest' ≡ false → compares rest ≡ false → compares rest' ≡ false → (c ≡ c') × (rest ≡ rest')
  unfolding argument_of
  condition_same (current t) (current t') o o' p p' = let same = pattern_same t t' o o' in (ap (λ x. condition.Literal (record { positive = true; prop = x })) same.0, same.1)
  condition_same (current t) (not_current t') o o' p p' = elim t [ ]
  condition_same (current alone) (test e f) o o' p p' = cc
  condition_same (not_current t) (current t') o o' p p' = elim t' [ ]
  condition_same (not_current t) (not_current t') o o' p p' = let same = pattern_same t t' o o' in (ap (λ x. condition.Literal (record { positive = false; prop = x })) same.0, same.1)
  condition_same (not_current t) (test e f) o o' p p' = cc
  condition_same (test e f) (current alone) o o' p p' = cc
  condition_same (test e f) (not_current t') o o' p p' = cc
  condition_same (test e f) (test e' f') o o' p p' = (cc, refl)

  conditions_same : {signs : List Sign} {cs cs' : List Condition} {rest rest' : List Sign} → TakesConditions names signs cs rest → TakesConditions names signs cs' rest' → (cs ≡ cs') × (rest ≡ rest')
  conditions_same (final t) (final t') = let same = condition_same t t' refl refl refl refl in (ap (λ c. c ∷ []) same.0, cc)
  conditions_same (final t) (further t' ts') = let same = condition_same t t' refl refl refl refl in cc
  conditions_same (further t ts) (final t') = let same = condition_same t t' refl refl refl refl in cc
  conditions_same (further {middle = m} {c = c} {cs = cs} {rest = r} t ts) (further {middle = m'} {c = c'} {cs = cs'} {rest = r'} t' ts') =
      let same = condition_same t t' refl refl refl refl in
      let tail : Given Comma ∷ m ≡ Given Comma ∷ m' = same.1 in
      let middle : m ≡ m' = cc in
      let later = conditions_same ts (subst (λ x. TakesConditions names x cs' r') (sym middle) ts') in
      ((λ i. same.0 i ∷ later.0 i), later.1)

  body_same : {signs : List Sign} {cs cs' : List Condition} {rest rest' : List Sign} → TakesBody names signs cs rest → TakesBody names signs cs' rest' → (cs ≡ cs') × (rest ≡ rest')
  body_same empty empty = (refl, refl)
  body_same (conditions t) (conditions t') = conditions_same t t'

  clause_same : {number : ℕ} {signs : List Sign} {c c' : Clause} {rest rest' : List Sign} → TakesClause names number signs c rest → TakesClause names number signs c' rest' → (c ≡ c') × (rest ≡ rest')
  clause_same {number = n} (rule {kind = k} begins event head body) (rule {kind = k'} {tail = tail'} {event = event_pattern'} {head = head_pattern'} {cs = cs'} {rest = r'} begins' event' head' body') =
      let kind : k ≡ k' = (let e = sym begins ∙ begins' in cc) in
      let first = pattern_same event event' (pattern_closed _ head) (pattern_closed _ head') in
      let second = pattern_same head (subst (λ x. TakesPattern names x head_pattern' tail') (sym first.1) head') (body_closed _ body) (body_closed _ body') in
      let third = body_same body (subst (λ x. TakesBody names x cs' r') (sym second.1) body') in
      ((λ i. clause.Rule (record { clause = n; kind = kind i; event = first.0 i; head = second.0 i; tests = tests_of (third.0 i); literals = literals_of (third.0 i) })), third.1)
  clause_same (rule begins event head body) (exclusive begins' left right) = let e = sym begins ∙ begins' in cc
  clause_same (rule begins event head body) (strong begins') = let e = sym begins ∙ begins' in cc
  clause_same (rule begins event head body) (initially begins' prop) = let e = sym begins ∙ begins' in cc
  clause_same (rule begins event head body) (time begins' named) = let e = sym begins ∙ begins' in cc
  clause_same (exclusive begins left right) (rule begins' event head body) = let e = sym begins ∙ begins' in cc
  clause_same {number = n} (exclusive {rest = r} begins left right) (exclusive {right = right_pattern'} {rest = r'} begins' left' right') =
      let first = pattern_same left left' (pattern_closed _ right) (pattern_closed _ right') in
      let second = pattern_same right (subst (λ x. TakesPattern names x right_pattern' (Given Dot ∷ r')) (sym first.1) right') refl refl in
      let tail : Given Dot ∷ r ≡ Given Dot ∷ r' = second.1 in
      ((λ i. clause.Exclusive (record { clause = n; left = first.0 i; right = second.0 i })), cc)
  clause_same (exclusive begins left right) (strong begins') = let e = sym begins ∙ begins' in cc
  clause_same (exclusive begins left right) (initially begins' prop) = let e = sym begins ∙ begins' in cc
  clause_same (exclusive begins left right) (time begins' named) = let e = sym begins ∙ begins' in cc
  clause_same (strong begins) (rule begins' event head body) = let e = sym begins ∙ begins' in cc
  clause_same (strong begins) (exclusive begins' left right) = let e = sym begins ∙ begins' in cc
  clause_same (strong begins) (strong begins') = (refl, refl)
  clause_same (strong begins) (initially begins' prop) = let e = sym begins ∙ begins' in cc
  clause_same (initially begins prop) (rule begins' event head body) = let e = sym begins ∙ begins' in cc
  clause_same (initially begins prop) (exclusive begins' left right) = let e = sym begins ∙ begins' in cc
  clause_same (initially begins prop) (strong begins') = let e = sym begins ∙ begins' in cc
  clause_same {number = n} (initially {rest = r} begins prop) (initially {rest = r'} begins' prop') =
      let same = pattern_same prop prop' refl refl in
      let tail : Given Dot ∷ r ≡ Given Dot ∷ r' = same.1 in
      ((λ i. clause.Initial (record { clause = n; prop = same.0 i })), cc)
  clause_same (initially begins prop) (time begins' named) = let e = sym begins ∙ begins' in cc
  clause_same (time begins named) (rule begins' event head body) = let e = sym begins ∙ begins' in cc
  clause_same (time begins named) (exclusive begins' left right) = let e = sym begins ∙ begins' in cc
  clause_same (time begins named) (initially begins' prop) = let e = sym begins ∙ begins' in cc
  clause_same {number = n} (time {kind = k} begins named) (time {kind = k'} begins' named') =
      let kind : k ≡ k' = (let e = sym named ∙ named' in cc) in
      ((λ i. clause.Time (record { clause = n; kind = kind i })), refl)

-- two readings of one list are the same
pub reading_same : {number : ℕ} {signs : List Sign} {a b : Theory} → ReadsFrom number signs a → ReadsFrom number signs b → a ≡ b
reading_same no_more no_more = refl
reading_same no_more (one_more t reads) = elim t [ ]
reading_same (one_more t reads) no_more = elim t [ ]
reading_same (one_more {number = n} {signs = signs} t reads) (one_more {theory = theory'} t' reads') =
    let same = clause_same (variables_of signs) t t' in
    let later = reading_same reads (subst (λ x. ReadsFrom (n + 1) x theory') (sym same.1) reads') in
    (λ i. with_clause (same.0 i) (later i))
