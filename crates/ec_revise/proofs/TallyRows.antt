-- What a tally has of each property after a turn is counted for one more.
use Rattle.std.proofs.Common.{◌≡◌, ℕ, ◌+◌, ◌<◌, Bool, true, false, cond, ◌||◌, List, [], ◌∷◌, length, take, get_or, Some, refl, sym, ap, ap₂, subst, ◌∙◌, ⊎_elim, add-one, arith}
use Rattle.std.specs.Prelude.{◌==◌, is_some, if◌then◌else◌, unwrap_or}
use Rattle.std.proofs.lemmas.Bool.{cases_Bool, cond-false, cond-true, eqb-true, or_right}
use Rattle.std.proofs.lemmas.List.Folds.{list_any-append}
use Rattle.std.proofs.Math.Bool.{or-false}
use Rattle.std.proofs.Math.Seq.{take-suc}
use Rattle.ec_lists.proofs.Booleans.{is_some-cond, or_turned}
use Rattle.ec_terms.specs.declared.ids.PropId.{PropId}
use Rattle.ec_numbered.specs.PropSet.{are_ascending, has_number}
use Rattle.ec_exclusive.proofs.InTurn.{not-yet}
use Rattle.ec_revise.specs.declared.settled.Tallied.{Tallied}
use Rattle.ec_revise.specs.declared.tally.Part.{Part}
use Rattle.ec_revise.specs.declared.tally.Part.TheVariants.{Inits, Clashes}
use Rattle.ec_revise.specs.TurnCounts.{CountsEach, count_in, counts_of, nothing_tallied, row_at, tallied_at, with_one}

-- a row that is put in the place of one counts a turn of its property
pub CountsEach-put : (p : PropId) (part : Part) (up : Bool) (value : Tallied) (before after : List (ℕ × Tallied))
    → ((n : ℕ) → row_at n after ≡ cond (p.0 == n) (Some value) (row_at n before)) → value ≡ with_one part up (tallied_at p before)
    → CountsEach (p ∷ []) part up before after
CountsEach-put p part up value before after put is = record {
  counted = λ q.
      ap (λ o. unwrap_or o nothing_tallied) (put q.0)
      ∙ ⊎_elim
      (λ same.
      ap (λ o. unwrap_or o nothing_tallied) (cond-true (p.0 == q.0) (Some value) (row_at q.0 before) same)
      ∙ is ∙ ap (λ n. with_one part up (unwrap_or (row_at n before) nothing_tallied)) (eqb-true p.0 q.0 same)
      ∙ sym (cond-true _ _ _ (or-false (p.0 == q.0) ∙ same)))
      (λ apart.
      ap (λ o. unwrap_or o nothing_tallied) (cond-false (p.0 == q.0) (Some value) (row_at q.0 before) apart)
      ∙ sym (cond-false _ _ _ (or-false (p.0 == q.0) ∙ apart)))
      (cases_Bool (p.0 == q.0));
  rows = λ q. ap is_some (put q.0) ∙ sym (is_some-cond (p.0 == q.0) value (row_at q.0 before)) ∙ ap (λ b. b || is_some (row_at q.0 before)) (sym (or-false (p.0 == q.0)));
}

-- one member more
has_number-more : (ps : List PropId) (i : ℕ) (d : PropId) (n : ℕ) → i < length ps
    → has_number n (take (i + 1) ps) ≡ (has_number n (take i ps) || ((get_or ps i d).0 == n))
has_number-more ps i d n below =
    ap (λ j. has_number n (take j ps)) (add-one i) ∙ ap (has_number n) (take-suc ps i d below) ∙ list_any-append (λ (p : PropId). p.0 == n) (take i ps) (get_or ps i d ∷ [])
    ∙ ap (λ b. has_number n (take i ps) || b) (or-false ((get_or ps i d).0 == n))

-- counting goes on with one property more, which was not counted yet
pub CountsEach-more : (ps : List PropId) (i : ℕ) (d : PropId) (part : Part) (up : Bool) (first before after : List (ℕ × Tallied))
    → are_ascending ps ≡ true → i < length ps → CountsEach (take i ps) part up first before → CountsEach (get_or ps i d ∷ []) part up before after
    → CountsEach (take (i + 1) ps) part up first after
CountsEach-more ps i d part up first before after ascending below done more = record {
  counted = λ q.
      more.counted q
      ∙ ⊎_elim
      (λ here.
      let n : (get_or ps i d).0 ≡ q.0 = eqb-true (get_or ps i d).0 q.0 here in
      let unseen : has_number q.0 (take i ps) ≡ false = subst (λ m. has_number m (take i ps) ≡ false) n (not-yet ps i d ascending below) in
      cond-true _ _ _ (or-false ((get_or ps i d).0 == q.0) ∙ here)
      ∙ ap (with_one part up) (done.counted q ∙ cond-false _ _ _ unseen)
      ∙ sym (cond-true _ _ _ (has_number-more ps i d q.0 below ∙ or_right (has_number q.0 (take i ps)) _ here)))
      (λ apart.
      cond-false _ _ _ (or-false ((get_or ps i d).0 == q.0) ∙ apart)
      ∙ done.counted q
      ∙ ap (λ b. if b then with_one part up (tallied_at q first) else tallied_at q first) (sym (has_number-more ps i d q.0 below ∙ left_alone (has_number q.0 (take i ps)) _ apart)))
      (cases_Bool ((get_or ps i d).0 == q.0));
  rows = λ q.
      more.rows q
      ∙ ap₂ (λ b c. b || c) (or-false ((get_or ps i d).0 == q.0)) (done.rows q)
      ∙ or_turned ((get_or ps i d).0 == q.0) (has_number q.0 (take i ps)) (is_some (row_at q.0 first))
      ∙ ap (λ b. b || is_some (row_at q.0 first)) (sym (has_number-more ps i d q.0 below));
}
  where
    left_alone : (b c : Bool) → c ≡ false → (b || c) ≡ b
    left_alone b c fails = grind arith

-- counting none leaves all
pub CountsEach-none : (part : Part) (up : Bool) (rows : List (ℕ × Tallied)) → CountsEach [] part up rows rows
CountsEach-none part up rows = record { counted = λ q. refl; rows = λ q. refl }

-- a property of a list that ascends is not counted before its place
pub tallied_at-fresh : (ps : List PropId) (i : ℕ) (d : PropId) (part : Part) (up : Bool) (first before : List (ℕ × Tallied))
    → are_ascending ps ≡ true → i < length ps → CountsEach (take i ps) part up first before → tallied_at (get_or ps i d) before ≡ tallied_at (get_or ps i d) first
tallied_at-fresh ps i d part up first before ascending below done =
    done.counted (get_or ps i d) ∙ cond-false _ _ _ (not-yet ps i d ascending below)

-- counting initiations leaves the clashes
pub clashes-kept : (b up way : Bool) (tallied : Tallied)
    → count_in Clashes (counts_of way (if b then with_one Inits up tallied else tallied)) ≡ count_in Clashes (counts_of way tallied)
clashes-kept false up way tallied = refl
clashes-kept true true true tallied = refl
clashes-kept true true false tallied = refl
clashes-kept true false true tallied = refl
clashes-kept true false false tallied = refl

-- a row that is put in its own place leaves what is tallied
pub tallied_at-put : (p : PropId) (value : Tallied) (before after : List (ℕ × Tallied))
    → ((n : ℕ) → row_at n after ≡ cond (p.0 == n) (Some value) (row_at n before)) → value ≡ tallied_at p before → (q : PropId) → tallied_at q after ≡ tallied_at q before
tallied_at-put p value before after put is q =
    ap (λ o. unwrap_or o nothing_tallied) (put q.0)
    ∙ ⊎_elim
    (λ same.
    ap (λ o. unwrap_or o nothing_tallied) (cond-true (p.0 == q.0) (Some value) (row_at q.0 before) same)
    ∙ is ∙ ap (λ n. unwrap_or (row_at n before) nothing_tallied) (eqb-true p.0 q.0 same))
    (λ apart. ap (λ o. unwrap_or o nothing_tallied) (cond-false (p.0 == q.0) (Some value) (row_at q.0 before) apart))
    (cases_Bool (p.0 == q.0))

-- and it is a row
pub row_at-put : (p : PropId) (value : Tallied) (before after : List (ℕ × Tallied))
    → ((n : ℕ) → row_at n after ≡ cond (p.0 == n) (Some value) (row_at n before)) → (q : PropId) → is_some (row_at q.0 after) ≡ (p.0 == q.0 || is_some (row_at q.0 before))
row_at-put p value before after put q = ap is_some (put q.0) ∙ sym (is_some-cond (p.0 == q.0) value (row_at q.0 before))
