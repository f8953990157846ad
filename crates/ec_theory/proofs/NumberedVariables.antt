-- A reading gives the variables of each clause the numbers from 0 on without a gap.
use Rattle.std.proofs.Common.{◌≡◌, ℕ, ◌+◌, ◌<◌, ◌≤◌, suc, Bool, true, false, cond, not, ◌||◌, eqb, List, [], ◌∷◌, ◌++◌, length, Some, refl, sym, ap, ◌∙◌, arith, ⊎_elim, eqb-true, append_assoc, append-nil, length-append}
use Rattle.std.specs.Prelude.{bytes_eq}
use Rattle.std.specs.List.{All, list_any, flat_map, position_or_len}
use Rattle.std.proofs.lemmas.Bool.{false≢true, or_cases, eq-eqb, cases_eq}
use Rattle.std.proofs.lemmas.List.Elements.{All-nil, All-cons}
use Rattle.std.proofs.lemmas.List.Folds.{list_any-append}
use Rattle.std.proofs.lemmas.Slice.Eq.{bytes_eq-Decides}
use Rattle.std.proofs.Math.Bool.{or_assoc, or-false, or-true}
use Rattle.ec_lists.proofs.Booleans.{or_left_comm}
use Rattle.ec_terms.specs.declared.pattern.PatArg.{PatArg}
use Rattle.ec_terms.specs.declared.pattern.PatArg.TheVariants.{Var, Any, Fixed}
use Rattle.ec_terms.specs.declared.ground.Arg.TheVariants.{Int, Word as Named}
use Rattle.ec_terms.specs.declared.pattern.Pattern.{Pattern}
use Rattle.ec_terms.specs.declared.theory.Test.{Test}
use Rattle.ec_terms.specs.declared.theory.Literal.{Literal}
use Rattle.ec_terms.specs.declared.theory.Rule.{Rule}
use Rattle.ec_terms.specs.declared.theory.Exclusive.{Exclusive}
use Rattle.ec_terms.specs.declared.theory.Initial.{Initial}
use Rattle.ec_terms.specs.declared.theory.Theory.{Theory}
use Rattle.ec_terms.specs.Binding.{stands_at}
use Rattle.ec_check.specs.Faults.{rule_places, exclusive_places}
use Rattle.ec_check.specs.Numbering.{AreWithoutGap}
use Rattle.ec_theory.specs.declared.condition.Condition.{Condition}
use Rattle.ec_theory.specs.declared.condition.Condition.TheVariants as condition
use Rattle.ec_theory.specs.declared.clause.Clause.{Clause}
use Rattle.ec_theory.specs.declared.clause.Clause.TheVariants as clause
use Rattle.ec_theory.specs.declared.sign.Symbol.{Symbol}
use Rattle.ec_theory.specs.declared.sign.Symbol.TheVariants.{If, Not, Anything, Open, Close, Comma, Dot, Slash}
use Rattle.ec_theory.specs.Sign.{Sign, Word, Variable, Number, Given, Compare, argument_of, is_given, with_variable, with_sign, variables_from, variables_of, number_of}
use Rattle.ec_theory.specs.Grammar.{TakesArguments, last, more, TakesPattern, alone, applied, TakesCondition, current, not_current, test, TakesConditions, final, further, TakesBody, empty, conditions, tests_of, literals_of, TakesClause, rule, exclusive, strong, initially, time, ReadsFrom, no_more, one_more, with_clause}

-- ---- the variables up to the next dot

-- the token is the variable with this number
is_variable_at : List (List ℕ) → ℕ → Sign → Bool
is_variable_at names q (Variable v) = eqb (number_of names v) q
is_variable_at names q (Word w) = false
is_variable_at names q (Number z) = false
is_variable_at names q (Given symbol) = false
is_variable_at names q (Compare op) = false

-- the variable with this number stands before the next dot
stands_before_dot : List (List ℕ) → ℕ → List Sign → Bool
stands_before_dot names q [] = false
stands_before_dot names q (s ∷ signs) = cond (is_given Dot s) false (is_variable_at names q s || stands_before_dot names q signs)

-- a condition has the variable
has_variable : ℕ → Condition → Bool
has_variable q (condition.Literal l) = list_any (stands_at q) l.prop.args
has_variable q (condition.Test t) = stands_at q t.left || stands_at q t.right

module _ (names : List (List ℕ)) (q : ℕ) where
  given_step : (symbol : Symbol) (a : PatArg) (signs : List Sign) → argument_of names (Given symbol) ≡ Some a → stands_before_dot names q (Given symbol ∷ signs) ≡ (stands_at q a || stands_before_dot names q signs)
  unfolding stands_before_dot is_variable_at argument_of
  given_step Anything a signs e = let same : Any ≡ a = cc in ap (λ x. stands_at q x || stands_before_dot names q signs) same
  given_step If a signs e = cc
  given_step Not a signs e = cc
  given_step Open a signs e = cc
  given_step Close a signs e = cc
  given_step Comma a signs e = cc
  given_step Dot a signs e = cc
  given_step Slash a signs e = cc

  argument_step : (s : Sign) (a : PatArg) (signs : List Sign) → argument_of names s ≡ Some a → stands_before_dot names q (s ∷ signs) ≡ (stands_at q a || stands_before_dot names q signs)
  unfolding stands_before_dot is_variable_at argument_of
  argument_step (Word w) a signs e = let same : Fixed (Named w) ≡ a = cc in ap (λ x. stands_at q x || stands_before_dot names q signs) same
  argument_step (Variable v) a signs e = let same : Var (number_of names v) ≡ a = cc in ap (λ x. stands_at q x || stands_before_dot names q signs) same
  argument_step (Number z) a signs e = let same : Fixed (Int z) ≡ a = cc in ap (λ x. stands_at q x || stands_before_dot names q signs) same
  argument_step (Given symbol) a signs e = given_step symbol a signs e
  argument_step (Compare op) a signs e = cc

  arguments_step : {signs : List Sign} {args : List PatArg} {rest : List Sign} → TakesArguments names signs args rest → stands_before_dot names q signs ≡ (list_any (stands_at q) args || stands_before_dot names q rest)
  unfolding stands_before_dot is_variable_at
  arguments_step (last {s = s} {a = a} {rest = rest} e) =
      argument_step s a (Given Close ∷ rest) e ∙ ap (λ b. b || stands_before_dot names q rest) (sym (or-false (stands_at q a)))
  arguments_step (more {s = s} {a = a} {signs = signs} {args = args} {rest = rest} e takes) =
      argument_step s a (Given Comma ∷ signs) e ∙ ap (λ b. stands_at q a || b) (arguments_step takes) ∙ sym (or_assoc (stands_at q a) (list_any (stands_at q) args) (stands_before_dot names q rest))

  pattern_step : {signs : List Sign} {p : Pattern} {rest : List Sign} → TakesPattern names signs p rest → stands_before_dot names q signs ≡ (list_any (stands_at q) p.args || stands_before_dot names q rest)
  unfolding stands_before_dot is_variable_at
  pattern_step alone = refl
  pattern_step (applied takes) = arguments_step takes

  condition_step : {signs : List Sign} {c : Condition} {rest : List Sign} → TakesCondition names signs c rest → stands_before_dot names q signs ≡ (has_variable q c || stands_before_dot names q rest)
  unfolding stands_before_dot is_variable_at has_variable
  condition_step (current takes) = pattern_step takes
  condition_step (not_current takes) = pattern_step takes
  condition_step (test {l = l} {r = r} {a = a} {b = b} {op = op} {rest = rest} e f) =
      argument_step l a (Compare op ∷ r ∷ rest) e ∙ ap (λ x. stands_at q a || x) (argument_step r b rest f) ∙ sym (or_assoc (stands_at q a) (stands_at q b) (stands_before_dot names q rest))

  conditions_step : {signs : List Sign} {cs : List Condition} {rest : List Sign} → TakesConditions names signs cs rest → stands_before_dot names q signs ≡ list_any (has_variable q) cs
  unfolding stands_before_dot is_variable_at
  conditions_step (final takes) = condition_step takes
  conditions_step (further {c = c} takes later) = condition_step takes ∙ ap (λ b. has_variable q c || b) (conditions_step later)

  body_step : {signs : List Sign} {cs : List Condition} {rest : List Sign} → TakesBody names signs cs rest → stands_before_dot names q signs ≡ list_any (has_variable q) cs
  unfolding stands_before_dot is_variable_at
  body_step empty = refl
  body_step (conditions takes) = conditions_step takes

  -- conditions are their tests and their literals
  conditions_places : (cs : List Condition) → list_any (has_variable q) cs ≡ (list_any (stands_at q) (flat_map (λ (t : Test). t.left ∷ t.right ∷ []) (tests_of cs)) || list_any (stands_at q) (flat_map (λ (l : Literal). l.prop.args) (literals_of cs)))
  unfolding has_variable tests_of literals_of
  conditions_places [] = refl
  conditions_places (condition.Test t ∷ cs) =
      let tests = list_any (stands_at q) (flat_map (λ (t : Test). t.left ∷ t.right ∷ []) (tests_of cs)) in
      let literals = list_any (stands_at q) (flat_map (λ (l : Literal). l.prop.args) (literals_of cs)) in
      ap (λ b. (stands_at q t.left || stands_at q t.right) || b) (conditions_places cs)
      ∙ or_assoc (stands_at q t.left) (stands_at q t.right) (tests || literals)
      ∙ ap (λ b. stands_at q t.left || b) (sym (or_assoc (stands_at q t.right) tests literals))
      ∙ sym (or_assoc (stands_at q t.left) (stands_at q t.right || tests) literals)
  conditions_places (condition.Literal l ∷ cs) =
      let tests = list_any (stands_at q) (flat_map (λ (t : Test). t.left ∷ t.right ∷ []) (tests_of cs)) in
      let later = flat_map (λ (l : Literal). l.prop.args) (literals_of cs) in
      ap (λ b. list_any (stands_at q) l.prop.args || b) (conditions_places cs)
      ∙ or_left_comm (list_any (stands_at q) l.prop.args) tests (list_any (stands_at q) later)
      ∙ ap (λ b. tests || b) (sym (list_any-append (stands_at q) l.prop.args later))

-- the places of a clause
clause_places : Clause → List PatArg
clause_places (clause.Rule r) = rule_places r
clause_places (clause.Exclusive e) = exclusive_places e
clause_places (clause.Strong s) = []
clause_places (clause.Initial i) = i.prop.args
clause_places (clause.Time t) = []

-- the variables of a clause are those up to its dot
clause_step : {names : List (List ℕ)} {number : ℕ} {signs : List Sign} {c : Clause} {rest : List Sign} (q : ℕ) → TakesClause names number signs c rest → stands_before_dot names q signs ≡ list_any (stands_at q) (clause_places c)
unfolding stands_before_dot is_variable_at clause_places rule_places
clause_step {names = names} q (rule {event = event} {head = head} {cs = cs} begins takes_event takes_head body) =
    let tests = flat_map (λ (t : Test). t.left ∷ t.right ∷ []) (tests_of cs) in
    let literals = flat_map (λ (l : Literal). l.prop.args) (literals_of cs) in
    pattern_step names q takes_event
    ∙ ap (λ b. list_any (stands_at q) event.args || b) (pattern_step names q takes_head ∙ ap (λ b. list_any (stands_at q) head.args || b) (body_step names q body ∙ conditions_places names q cs ∙ sym (list_any-append (stands_at q) tests literals)) ∙ sym (list_any-append (stands_at q) head.args (tests ++ literals)))
    ∙ sym (list_any-append (stands_at q) event.args (head.args ++ (tests ++ literals)))
clause_step {names = names} q (exclusive {left = left} {right = right} begins takes_left takes_right) =
    pattern_step names q takes_left
    ∙ ap (λ b. list_any (stands_at q) left.args || b) (pattern_step names q takes_right ∙ or-false (list_any (stands_at q) right.args))
    ∙ sym (list_any-append (stands_at q) left.args right.args)
clause_step q (strong begins) = refl
clause_step {names = names} q (initially {prop = prop} begins takes) = pattern_step names q takes ∙ or-false (list_any (stands_at q) prop.args)
clause_step q (time begins named) = refl

-- ---- the numbers of the variables

-- the first that passes is before the end, where one passes
position_or_len-below : {A : Type 0} (p : A → Bool) (xs : List A) → list_any p xs ≡ true → position_or_len p xs < length xs
position_or_len-below p [] there = absurd (false≢true there)
position_or_len-below p (x ∷ xs) there = by_test (p x) there (position_or_len-below p xs)
  where
    by_test : (t : Bool) → (t || list_any p xs) ≡ true → (list_any p xs ≡ true → position_or_len p xs < length xs) → cond (not t) (1 + position_or_len p xs) 0 < suc (length xs)
    by_test true there later = omega arith
    by_test false there later = let below = later there in omega arith

-- the first that passes is behind those that do not
position_or_len-behind : {A : Type 0} (p : A → Bool) (xs : List A) (x : A) (behind : List A) → list_any p xs ≡ false → p x ≡ true → position_or_len p ((xs ++ x ∷ []) ++ behind) ≡ length xs
position_or_len-behind p [] x behind none passes = rw passes refl
position_or_len-behind p (y ∷ xs) x behind none passes = by_test (p y) none (λ e. position_or_len-behind p xs x behind e passes)
  where
    by_test : (t : Bool) → (t || list_any p xs) ≡ false → (list_any p xs ≡ false → position_or_len p ((xs ++ x ∷ []) ++ behind) ≡ length xs) → cond (not t) (1 + position_or_len p ((xs ++ x ∷ []) ++ behind)) 0 ≡ suc (length xs)
    by_test true none later = cc
    by_test false none later = let e = later none in omega (arith, e)

with_variable-has : (names : List (List ℕ)) (v : List ℕ) → list_any (bytes_eq v) (with_variable names v) ≡ true
unfolding with_variable
with_variable-has names v = by_test (list_any (bytes_eq v) names) refl
  where
    by_test : (t : Bool) → list_any (bytes_eq v) names ≡ t → list_any (bytes_eq v) (cond t names (names ++ v ∷ [])) ≡ true
    by_test true there = there
    by_test false none = list_any-append (bytes_eq v) names (v ∷ []) ∙ ap (λ b. list_any (bytes_eq v) names || (b || false)) ((bytes_eq-Decides v v).1 refl) ∙ or-true (list_any (bytes_eq v) names)

-- names that are there stay in front
with_sign-front : (names : List (List ℕ)) (s : Sign) → (own : List (List ℕ)) × (with_sign names s ≡ names ++ own)
unfolding with_sign with_variable
with_sign-front names (Variable v) = by_test (list_any (bytes_eq v) names)
  where
    by_test : (t : Bool) → (own : List (List ℕ)) × (cond t names (names ++ v ∷ []) ≡ names ++ own)
    by_test true = ([], sym (append-nil names))
    by_test false = (v ∷ [], refl)
with_sign-front names (Word w) = ([], sym (append-nil names))
with_sign-front names (Number z) = ([], sym (append-nil names))
with_sign-front names (Given symbol) = ([], sym (append-nil names))
with_sign-front names (Compare op) = ([], sym (append-nil names))

variables_from-front : (signs : List Sign) (names : List (List ℕ)) → (behind : List (List ℕ)) × (variables_from names signs ≡ names ++ behind)
unfolding variables_from
variables_from-front [] names = ([], sym (append-nil names))
variables_from-front (s ∷ signs) names = by_dot (is_given Dot s) (variables_from-front signs (with_sign names s)) (with_sign-front names s)
  where
    by_dot : (t : Bool) → (behind : List (List ℕ)) × (variables_from (with_sign names s) signs ≡ with_sign names s ++ behind) → (own : List (List ℕ)) × (with_sign names s ≡ names ++ own) → (behind : List (List ℕ)) × (cond t names (variables_from (with_sign names s) signs) ≡ names ++ behind)
    by_dot true later own = ([], sym (append-nil names))
    by_dot false later own = (own.0 ++ later.0, later.1 ∙ ap (λ l. l ++ later.0) own.1 ∙ append_assoc names own.0 later.0)

-- a name that is in front has a number
number_of-below : (names front behind : List (List ℕ)) (v : List ℕ) → names ≡ front ++ behind → list_any (bytes_eq v) front ≡ true → number_of names v < length names
number_of-below names front behind v cut there =
    position_or_len-below (bytes_eq v) names (ap (list_any (bytes_eq v)) cut ∙ list_any-append (bytes_eq v) front behind ∙ ap (λ b. b || list_any (bytes_eq v) behind) there)

own_number : (s : Sign) (signs : List Sign) (so_far names : List (List ℕ)) (q : ℕ) → names ≡ variables_from (with_sign so_far s) signs → is_variable_at names q s ≡ true → q < length names
unfolding is_variable_at with_sign
own_number (Variable v) signs so_far names q all own =
    let front = variables_from-front signs (with_variable so_far v) in
    let below = number_of-below names (with_variable so_far v) front.0 v (all ∙ front.1) (with_variable-has so_far v) in
    let same = eqb-true (number_of names v) q own in omega arith
own_number (Word w) signs so_far names q all own = absurd (false≢true own)
own_number (Number z) signs so_far names q all own = absurd (false≢true own)
own_number (Given symbol) signs so_far names q all own = absurd (false≢true own)
own_number (Compare op) signs so_far names q all own = absurd (false≢true own)

-- a variable that stands before the dot has a number below how many names there are
stands-numbered : (signs : List Sign) (so_far names : List (List ℕ)) (q : ℕ) → names ≡ variables_from so_far signs → stands_before_dot names q signs ≡ true → q < length names
unfolding variables_from stands_before_dot
stands-numbered [] so_far names q all stands = absurd (false≢true stands)
stands-numbered (s ∷ signs) so_far names q all stands = by_dot (is_given Dot s) all stands (stands-numbered signs (with_sign so_far s) names q)
  where
    by_dot : (t : Bool) → names ≡ cond t so_far (variables_from (with_sign so_far s) signs) → cond t false (is_variable_at names q s || stands_before_dot names q signs) ≡ true →
        (names ≡ variables_from (with_sign so_far s) signs → stands_before_dot names q signs ≡ true → q < length names) → q < length names
    by_dot true all stands later = absurd (false≢true stands)
    by_dot false all stands later = ⊎_elim (λ own. own_number s signs so_far names q all own) (λ e. later all e) (or_cases (is_variable_at names q s) (stands_before_dot names q signs) stands)

-- the token is the variable with the number, or the variable stands behind it
sign_stands : (s : Sign) (signs : List Sign) (so_far names : List (List ℕ)) (q : ℕ) → names ≡ variables_from (with_sign so_far s) signs → length so_far ≤ q → q < length names →
    ((front : List (List ℕ)) → names ≡ variables_from front signs → length front ≤ q → q < length names → stands_before_dot names q signs ≡ true) →
    (is_variable_at names q s || stands_before_dot names q signs) ≡ true
unfolding is_variable_at with_sign with_variable
sign_stands (Variable v) signs so_far names q all new below later = by_test (list_any (bytes_eq v) so_far) refl all
  where
    by_test : (t : Bool) → list_any (bytes_eq v) so_far ≡ t → names ≡ variables_from (cond t so_far (so_far ++ v ∷ [])) signs → (eqb (number_of names v) q || stands_before_dot names q signs) ≡ true
    by_test true there all = rw (later so_far all new below) (or-true (eqb (number_of names v) q))
    by_test false none all =
        ⊎_elim
        (λ same. let front = variables_from-front signs (so_far ++ v ∷ []) in
        let number : number_of names v ≡ length so_far = ap (λ l. number_of l v) (all ∙ front.1) ∙ position_or_len-behind (bytes_eq v) so_far v front.0 none ((bytes_eq-Decides v v).1 refl) in
        ap (λ b. b || stands_before_dot names q signs) (eq-eqb (number_of names v) q (number ∙ sym same)))
        (λ other. let longer = length-append so_far (v ∷ []) in rw (later (so_far ++ v ∷ []) all (omega (arith, longer, new, other)) below) (or-true (eqb (number_of names v) q)))
        (cases_eq q (length so_far))
sign_stands (Word w) signs so_far names q all new below later = later so_far all new below
sign_stands (Number z) signs so_far names q all new below later = later so_far all new below
sign_stands (Given symbol) signs so_far names q all new below later = later so_far all new below
sign_stands (Compare op) signs so_far names q all new below later = later so_far all new below

-- and each number below that is one of a variable before the dot, but for the names that were there
numbered-stands : (signs : List Sign) (so_far names : List (List ℕ)) (q : ℕ) → names ≡ variables_from so_far signs → length so_far ≤ q → q < length names → stands_before_dot names q signs ≡ true
unfolding variables_from stands_before_dot
numbered-stands [] so_far names q all new below = let same = ap length all in absurd (omega (arith, same, new, below))
numbered-stands (s ∷ signs) so_far names q all new below = by_dot (is_given Dot s) all (λ so_far. numbered-stands signs so_far names q)
  where
    by_dot : (t : Bool) → names ≡ cond t so_far (variables_from (with_sign so_far s) signs) →
        ((front : List (List ℕ)) → names ≡ variables_from front signs → length front ≤ q → q < length names → stands_before_dot names q signs ≡ true) →
        cond t false (is_variable_at names q s || stands_before_dot names q signs) ≡ true
    by_dot true all later = let same = ap length all in absurd (omega (arith, same, new, below))
    by_dot false all later = sign_stands s signs so_far names q all new below later

-- ---- clauses

clause_without_gap : {number : ℕ} {signs : List Sign} {c : Clause} {rest : List Sign} → TakesClause (variables_of signs) number signs c rest → AreWithoutGap (clause_places c)
clause_without_gap {signs = signs} {c = c} takes v w there less =
    let names = variables_of signs in
    let below = stands-numbered signs [] names v refl (clause_step v takes ∙ there) in
    sym (clause_step w takes) ∙ numbered-stands signs [] names w refl (omega arith) (omega (arith, below, less))

-- the variables of every clause
pub record AllWithoutGap (theory : Theory) : Type 0 where
  pub rules : All (λ (r : Rule). AreWithoutGap (rule_places r)) theory.rules
  pub exclusives : All (λ (e : Exclusive). AreWithoutGap (exclusive_places e)) theory.exclusives
  pub initials : All (λ (i : Initial). AreWithoutGap i.prop.args) theory.initials

AllWithoutGap-with : (c : Clause) (theory : Theory) → AreWithoutGap (clause_places c) → AllWithoutGap theory → AllWithoutGap (with_clause c theory)
unfolding with_clause clause_places
AllWithoutGap-with (clause.Rule r) theory own later = record { rules = All-cons (λ (r : Rule). AreWithoutGap (rule_places r)) r theory.rules own later.rules; exclusives = later.exclusives; initials = later.initials }
AllWithoutGap-with (clause.Exclusive e) theory own later = record { rules = later.rules; exclusives = All-cons (λ (e : Exclusive). AreWithoutGap (exclusive_places e)) e theory.exclusives own later.exclusives; initials = later.initials }
AllWithoutGap-with (clause.Strong s) theory own later = record { rules = later.rules; exclusives = later.exclusives; initials = later.initials }
AllWithoutGap-with (clause.Initial i) theory own later = record { rules = later.rules; exclusives = later.exclusives; initials = All-cons (λ (i : Initial). AreWithoutGap i.prop.args) i theory.initials own later.initials }
AllWithoutGap-with (clause.Time t) theory own later = record { rules = later.rules; exclusives = later.exclusives; initials = later.initials }

pub all_without_gap : {number : ℕ} {signs : List Sign} {theory : Theory} → ReadsFrom number signs theory → AllWithoutGap theory
all_without_gap no_more = record { rules = All-nil (λ (r : Rule). AreWithoutGap (rule_places r)); exclusives = All-nil (λ (e : Exclusive). AreWithoutGap (exclusive_places e)); initials = All-nil (λ (i : Initial). AreWithoutGap i.prop.args) }
all_without_gap (one_more {c = c} {theory = theory} takes reads) = AllWithoutGap-with c theory (clause_without_gap takes) (all_without_gap reads)
