-- A reading gives its clauses the numbers from the first on, each once, ascending in each list.
use Rattle.std.proofs.Common.{◌≡◌, ℕ, ◌+◌, ◌<◌, ◌≤◌, zero, suc, Bool, true, false, cond, eqb, List, [], ◌∷◌, length, get_or, refl, sym, ap, ◌∙◌, subst, arith, eqb-true}
use Rattle.std.specs.Prelude.{filter}
use Rattle.std.specs.List.{All}
use Rattle.std.specs.List.Sorted.{IsStrictlyIncreasing}
use Rattle.std.proofs.lemmas.Bool.{eq-eqb, false_from_ne_true}
use Rattle.std.proofs.lemmas.List.Elements.{All-nil, All-cons}
use Rattle.ec_terms.specs.declared.theory.Theory.{Theory}
use Rattle.ec_check.specs.Numbering.{count_of, rule_numbers, exclusive_numbers, strong_numbers, initial_numbers, time_numbers, clauses_numbered, clause_count}
use Rattle.ec_theory.specs.declared.clause.Clause.{Clause}
use Rattle.ec_theory.specs.declared.clause.Clause.TheVariants as clause
use Rattle.ec_theory.specs.Sign.{Sign}
use Rattle.ec_theory.specs.Grammar.{TakesClause, rule, exclusive, strong, initially, time, ReadsFrom, no_more, one_more, with_clause}

-- the number of a clause
number_in : Clause → ℕ
number_in (clause.Rule r) = r.clause
number_in (clause.Exclusive e) = e.clause
number_in (clause.Strong s) = s.clause
number_in (clause.Initial i) = i.clause
number_in (clause.Time t) = t.clause

takes-number : {names : List (List ℕ)} {number : ℕ} {signs : List Sign} {c : Clause} {rest : List Sign} → TakesClause names number signs c rest → number_in c ≡ number
unfolding number_in
takes-number (rule begins event head body) = refl
takes-number (exclusive begins left right) = refl
takes-number (strong begins) = refl
takes-number (initially begins prop) = refl
takes-number (time begins named) = refl

-- ---- how many clauses have a number

abbrev one_if : Bool → ℕ
one_if b = cond b 1 0

count_of-cons : (n m : ℕ) (numbers : List ℕ) → count_of n (m ∷ numbers) ≡ one_if (eqb m n) + count_of n numbers
count_of-cons n m numbers = by_test (eqb m n)
  where
    by_test : (t : Bool) → length (cond t (m ∷ filter (λ k. eqb k n) numbers) (filter (λ k. eqb k n) numbers)) ≡ one_if t + count_of n numbers
    by_test true = omega arith
    by_test false = omega arith

clauses_numbered-with : (n : ℕ) (c : Clause) (theory : Theory) → clauses_numbered n (with_clause c theory) ≡ one_if (eqb (number_in c) n) + clauses_numbered n theory
unfolding clauses_numbered with_clause number_in
clauses_numbered-with n (clause.Rule r) theory = let e = count_of-cons n r.clause (rule_numbers theory) in omega (arith, e)
clauses_numbered-with n (clause.Exclusive x) theory = let e = count_of-cons n x.clause (exclusive_numbers theory) in omega (arith, e)
clauses_numbered-with n (clause.Strong s) theory = let e = count_of-cons n s.clause (strong_numbers theory) in omega (arith, e)
clauses_numbered-with n (clause.Initial i) theory = let e = count_of-cons n i.clause (initial_numbers theory) in omega (arith, e)
clauses_numbered-with n (clause.Time t) theory = let e = count_of-cons n t.clause (time_numbers theory) in omega (arith, e)

clause_count-with : (c : Clause) (theory : Theory) → clause_count (with_clause c theory) ≡ 1 + clause_count theory
unfolding clause_count with_clause
clause_count-with (clause.Rule r) theory = omega arith
clause_count-with (clause.Exclusive e) theory = omega arith
clause_count-with (clause.Strong s) theory = omega arith
clause_count-with (clause.Initial i) theory = omega arith
clause_count-with (clause.Time t) theory = omega arith

-- another number
eqb-other : (a b : ℕ) → a < b → eqb a b ≡ false
eqb-other a b less = false_from_ne_true (eqb a b) (λ same. let e = eqb-true a b same in absurd (omega arith))

eqb-lower : (a b : ℕ) → b < a → eqb a b ≡ false
eqb-lower a b less = false_from_ne_true (eqb a b) (λ same. let e = eqb-true a b same in absurd (omega arith))

-- no clause has a number below the first
none_below : {number : ℕ} {signs : List Sign} {theory : Theory} → ReadsFrom number signs theory → (n : ℕ) → n < number → clauses_numbered n theory ≡ 0
unfolding clauses_numbered
none_below no_more n less = refl
none_below (one_more {number = number} {c = c} {theory = theory} takes reads) n less =
    let first = clauses_numbered-with n c theory in
    let other = ap (λ m. one_if (eqb m n)) (takes-number takes) ∙ ap one_if (eqb-lower number n less) in
    let later = none_below reads n (omega arith) in omega (arith, first, other, later)

-- from the first on each number is that of one clause
pub one_each : {number : ℕ} {signs : List Sign} {theory : Theory} → ReadsFrom number signs theory → (k : ℕ) → k < clause_count theory → clauses_numbered (number + k) theory ≡ 1
unfolding clause_count
one_each no_more k less = absurd (omega arith)
one_each (one_more {number = number} {c = c} {theory = theory} takes reads) zero less =
    let first = clauses_numbered-with (number + 0) c theory in
    let own = ap (λ m. one_if (eqb m (number + 0))) (takes-number takes) ∙ ap one_if (eq-eqb number (number + 0) (omega arith)) in
    let later = none_below reads (number + 0) (omega arith) in omega (arith, first, own, later)
one_each (one_more {number = number} {c = c} {theory = theory} takes reads) (suc k) less =
    let first = clauses_numbered-with (number + suc k) c theory in
    let other = ap (λ m. one_if (eqb m (number + suc k))) (takes-number takes) ∙ ap one_if (eqb-other number (number + suc k) (omega arith)) in
    let count = clause_count-with c theory in
    let later = ap (λ m. clauses_numbered m theory) (let e : number + suc k ≡ number + 1 + k = omega arith in e) ∙ one_each reads k (omega (arith, less, count)) in
    omega (arith, first, other, later)

-- ---- numbers that ascend

-- numbers from a first on, ascending
pub record Rises (first : ℕ) (numbers : List ℕ) : Type 0 where
  above : All (λ m. first ≤ m) numbers
  pub ascend : IsStrictlyIncreasing numbers

Rises-nil : (first : ℕ) → Rises first []
Rises-nil first = record { above = All-nil (λ m. first ≤ m); ascend = λ k below. absurd (omega arith) }

Rises-later : (first : ℕ) (numbers : List ℕ) → Rises (first + 1) numbers → Rises first numbers
Rises-later first numbers rises = record { above = λ k d below. let high = rises.above k d below in omega arith; ascend = rises.ascend }

Rises-cons : (first n : ℕ) (numbers : List ℕ) → n ≡ first → Rises (first + 1) numbers → Rises first (n ∷ numbers)
Rises-cons first n numbers same rises = record {
  above = All-cons (λ m. first ≤ m) n numbers (omega arith) (λ k d below. let high = rises.above k d below in omega arith);
  ascend = steps;
}
  where
    steps : IsStrictlyIncreasing (n ∷ numbers)
    steps zero below = let high = rises.above 0 0 (omega arith) in omega arith
    steps (suc k) below =
        let e : suc k + 1 ≡ suc (k + 1) = omega arith in
        subst (λ m. get_or numbers k 0 < get_or (n ∷ numbers) m 0) (sym e) (rises.ascend k (omega arith))

-- the lists of a theory
pub record AllRise (first : ℕ) (theory : Theory) : Type 0 where
  pub rules : Rises first (rule_numbers theory)
  pub exclusives : Rises first (exclusive_numbers theory)
  pub strongs : Rises first (strong_numbers theory)
  pub initials : Rises first (initial_numbers theory)
  pub times : Rises first (time_numbers theory)

AllRise-with : (first : ℕ) (c : Clause) (theory : Theory) → number_in c ≡ first → AllRise (first + 1) theory → AllRise first (with_clause c theory)
unfolding with_clause number_in
AllRise-with first (clause.Rule r) theory same later = record {
  rules = Rises-cons first r.clause (rule_numbers theory) same later.rules;
  exclusives = Rises-later first _ later.exclusives;
  strongs = Rises-later first _ later.strongs;
  initials = Rises-later first _ later.initials;
  times = Rises-later first _ later.times;
}
AllRise-with first (clause.Exclusive e) theory same later = record {
  rules = Rises-later first _ later.rules;
  exclusives = Rises-cons first e.clause (exclusive_numbers theory) same later.exclusives;
  strongs = Rises-later first _ later.strongs;
  initials = Rises-later first _ later.initials;
  times = Rises-later first _ later.times;
}
AllRise-with first (clause.Strong s) theory same later = record {
  rules = Rises-later first _ later.rules;
  exclusives = Rises-later first _ later.exclusives;
  strongs = Rises-cons first s.clause (strong_numbers theory) same later.strongs;
  initials = Rises-later first _ later.initials;
  times = Rises-later first _ later.times;
}
AllRise-with first (clause.Initial i) theory same later = record {
  rules = Rises-later first _ later.rules;
  exclusives = Rises-later first _ later.exclusives;
  strongs = Rises-later first _ later.strongs;
  initials = Rises-cons first i.clause (initial_numbers theory) same later.initials;
  times = Rises-later first _ later.times;
}
AllRise-with first (clause.Time t) theory same later = record {
  rules = Rises-later first _ later.rules;
  exclusives = Rises-later first _ later.exclusives;
  strongs = Rises-later first _ later.strongs;
  initials = Rises-later first _ later.initials;
  times = Rises-cons first t.clause (time_numbers theory) same later.times;
}

pub all_rise : {number : ℕ} {signs : List Sign} {theory : Theory} → ReadsFrom number signs theory → AllRise number theory
all_rise (no_more {number = number}) = record { rules = Rises-nil number; exclusives = Rises-nil number; strongs = Rises-nil number; initials = Rises-nil number; times = Rises-nil number }
all_rise (one_more {number = number} {c = c} {theory = theory} takes reads) = AllRise-with number c theory (takes-number takes) (all_rise reads)
