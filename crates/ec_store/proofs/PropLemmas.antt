-- Kept properties: what is found among them, and what a property more, a property less, or other mentions leave.
use Rattle.std.proofs.Common.{◌≡◌, ℕ, zero, suc, Bool, true, false, cond, not, ◌&&◌, ◌||◌, List, [], ◌∷◌, map, Option, Some, None, refl, sym, ap, ap₂, subst, ◌∙◌, ⊎_elim, slice_get, is_some}
use Rattle.std.specs.Prelude.{find, option_map, ◌==◌, if◌then◌else◌}
use Rattle.std.specs.List.{list_any, list_all, insert, remove}
use Rattle.std.specs.declared.cmp.Ordering.{Ordering}
use Rattle.std.specs.declared.cmp.Ordering.TheVariants.{Less, Equal, Greater}
use Rattle.std.specs.Ordering.{is_lt, is_eq}
use Rattle.std.proofs.lemmas.Bool.{cases_Bool, false≢true, eqb-true, or_parts}
use Rattle.ec_terms.specs.declared.ground.Ground.{Ground}
use Rattle.ec_terms.specs.declared.ids.PropId.{PropId}
use Rattle.ec_terms.specs.Term.{term_cmp, term_eq}
use Rattle.ec_terms.proofs.OrderLemmas.{term_cmp-total, term_cmp-exact, term_cmp-Equal, term_eq-Decides}
use Rattle.ec_rows.specs.Ordered.{is_ascending}
use Rattle.ec_lists.proofs.Booleans.{and-left, and-right}
use Rattle.ec_rows.proofs.OrderedLemmas.{IsOrder, IsOrder-by_key, ascending-first, ascending-rest}
use Rattle.ec_store.specs.Table.{KeptProp, prop_at, term_at, mentions_at, prop_of, prop_before, is_in_order, without_prop, mentioned, with_mentions, number_of}
use Rattle.ec_lists.proofs.Booleans.{option_map-cond, cond_comm, cond-same, cond-again}
use Rattle.ec_lists.proofs.Finds.{find-none, is_some-find}
use Rattle.ec_lists.proofs.Numbers.{eqb-same}
use Rattle.ec_lists.proofs.Options.{is_some-option_map}
use Rattle.ec_lists.proofs.Orderings.{Equal-from_is_eq}
use Rattle.ec_lists.proofs.Tests.{list_all-slice_get}

-- ---- the property of a number

-- a property that is there
pub some-kept : (o : Option KeptProp) → is_some o ≡ true → (k : KeptProp) × (o ≡ Some k)
some-kept None some = absurd (false≢true some)
some-kept (Some k) some = (k, refl)

-- what a number finds has that number
pub prop_at-id : (id : ℕ) (ks : List KeptProp) (k : KeptProp) → prop_at id ks ≡ Some k → k.id ≡ id
prop_at-id id [] k is = cc
prop_at-id id (j ∷ js) k is =
    ⊎_elim
    (λ e. let found : Some j ≡ Some k = sym (ap (λ b. cond b (Some j) (prop_at id js)) e) ∙ is in
    let same : j ≡ k = cc in ap (λ (x : KeptProp). x.id) (sym same) ∙ eqb-true j.id id e)
    (λ e. prop_at-id id js k (sym (ap (λ b. cond b (Some j) (prop_at id js)) e) ∙ is))
    (cases_Bool (j.id == id))

-- no property has the number
absent-first : (id : ℕ) (k : KeptProp) (ks : List KeptProp) → prop_at id (k ∷ ks) ≡ None → (k.id == id) ≡ false
absent-first id k ks none =
    ⊎_elim (λ e. let found : Some k ≡ None = sym (ap (λ b. cond b (Some k) (prop_at id ks)) e) ∙ none in cc) (λ e. e) (cases_Bool (k.id == id))

absent-rest : (id : ℕ) (k : KeptProp) (ks : List KeptProp) → prop_at id (k ∷ ks) ≡ None → prop_at id ks ≡ None
absent-rest id k ks none = sym (ap (λ b. cond b (Some k) (prop_at id ks)) (absent-first id k ks none)) ∙ none

-- with a property more, under a number that none had
pub prop_at-insert : (k : KeptProp) (ks : List KeptProp) (i id : ℕ) → prop_at k.id ks ≡ None →
    prop_at id (insert ks i k) ≡ cond (k.id == id) (Some k) (prop_at id ks)
prop_at-insert k [] zero id none = refl
prop_at-insert k [] (suc i) id none = refl
prop_at-insert k (j ∷ js) zero id none = refl
prop_at-insert k (j ∷ js) (suc i) id none =
    let apart : (k.id == id) ≡ true → (j.id == id) ≡ false =
    λ e. subst (λ n. (j.id == n) ≡ false) (eqb-true k.id id e) (absent-first k.id j js none) in
    ap (λ o. cond (j.id == id) (Some j) o) (prop_at-insert k js i id (absent-rest k.id j js none))
    ∙ cond_comm (j.id == id) (k.id == id) (Some j) (Some k) (prop_at id js) apart

-- with a property less
pub prop_at-without : (p id : ℕ) (ks : List KeptProp) → prop_at id (without_prop p ks) ≡ cond (p == id) None (prop_at id ks)
prop_at-without p id [] = cond-same (p == id) None
prop_at-without p id (k ∷ ks) =
    let rest : List KeptProp = without_prop p ks in
    let ih : prop_at id rest ≡ cond (p == id) None (prop_at id ks) = prop_at-without p id ks in
    ⊎_elim
    (λ e. let same : (k.id == id) ≡ (p == id) = ap (λ n. n == id) (eqb-true k.id p e) in
    ap (λ b. prop_at id (cond (not b) (k ∷ rest) rest)) e ∙ ih
    ∙ cond-again (p == id) None (Some k) (prop_at id ks)
    ∙ ap (λ b. cond (p == id) None (cond b (Some k) (prop_at id ks))) (sym same))
    (λ e. let apart : (p == id) ≡ true → (k.id == id) ≡ false = λ is. subst (λ n. (k.id == n) ≡ false) (eqb-true p id is) e in
    ap (λ b. prop_at id (cond (not b) (k ∷ rest) rest)) e
    ∙ ap (λ o. cond (k.id == id) (Some k) o) ih
    ∙ cond_comm (k.id == id) (p == id) (Some k) None (prop_at id ks) apart)
    (cases_Bool (k.id == p))

-- mentions change neither the number nor the term
pub mentioned-id : (p count : ℕ) (k : KeptProp) → (mentioned p count k).id ≡ k.id
mentioned-id p count k = ⊎_elim (λ e. rw e refl) (λ e. rw e refl) (cases_Bool (k.id == p))

pub mentioned-term : (p count : ℕ) (k : KeptProp) → (mentioned p count k).term ≡ k.term
mentioned-term p count k = ⊎_elim (λ e. rw e refl) (λ e. rw e refl) (cases_Bool (k.id == p))

-- with other mentions
pub prop_at-with_mentions : (p count id : ℕ) (ks : List KeptProp) → prop_at id (with_mentions p count ks) ≡ option_map (mentioned p count) (prop_at id ks)
prop_at-with_mentions p count id [] = refl
prop_at-with_mentions p count id (k ∷ ks) =
    ap₂ (λ n o. cond (n == id) (Some (mentioned p count k)) o) (mentioned-id p count k) (prop_at-with_mentions p count id ks)
    ∙ sym (option_map-cond (mentioned p count) (k.id == id) k (prop_at id ks))

-- ---- the order

-- properties are ordered by their terms
pub by_term : IsOrder prop_before
by_term = IsOrder-by_key term_cmp term_cmp-total (λ (k : KeptProp). k.term)

-- mentions leave the order
list_all-mentioned : (p count : ℕ) (j : KeptProp) (ks : List KeptProp) →
    list_all (prop_before (mentioned p count j)) (with_mentions p count ks) ≡ list_all (prop_before j) ks
list_all-mentioned p count j [] = refl
list_all-mentioned p count j (k ∷ ks) =
    ap₂ (λ a b. a && b) (ap₂ (λ s t. is_lt (term_cmp s t)) (mentioned-term p count j) (mentioned-term p count k)) (list_all-mentioned p count j ks)

pub in_order-with_mentions : (p count : ℕ) (ks : List KeptProp) → is_in_order (with_mentions p count ks) ≡ is_in_order ks
unfolding is_ascending
in_order-with_mentions p count [] = refl
in_order-with_mentions p count (k ∷ ks) = ap₂ (λ a b. a && b) (list_all-mentioned p count k ks) (in_order-with_mentions p count ks)

-- ---- the property of a term

-- terms at the same place of the order are the same
pub same_term : (p q : Ground) → is_eq (term_cmp p q) ≡ true → p ≡ q
same_term p q e = term_cmp-exact p q (Equal-from_is_eq (term_cmp p q) e)

-- a term has the place of another in the order exactly where it is the same
pub term_eq-is_eq : (p q : Ground) → term_eq p q ≡ is_eq (term_cmp p q)
term_eq-is_eq p q =
    ⊎_elim
    (λ e. (term_eq-Decides p q).1 (same_term p q e) ∙ sym e)
    (λ e. ⊎_elim (λ same. absurd (false≢true (sym e ∙ ap is_eq ((term_cmp-Equal p q).1 ((term_eq-Decides p q).0 same))))) (λ other. other ∙ sym e) (cases_Bool (term_eq p q)))
    (cases_Bool (is_eq (term_cmp p q)))

-- a term that stands before another is not the same
before-other : (p q : Ground) → is_lt (term_cmp p q) ≡ true → term_eq p q ≡ false
before-other p q e = term_eq-is_eq p q ∙ from_less (term_cmp p q) e
  where
    from_less : (r : Ordering) → is_lt r ≡ true → is_eq r ≡ false
    from_less Less e = refl
    from_less Equal e = cc
    from_less Greater e = refl

-- nor is one that it stands before
behind-other : (p q : Ground) → is_lt (term_cmp p q) ≡ true → term_eq q p ≡ false
behind-other p q e =
    ⊎_elim (λ same. absurd (false≢true (sym (before-other p q e) ∙ (term_eq-Decides p q).1 (sym ((term_eq-Decides q p).0 same))))) (λ other. other) (cases_Bool (term_eq q p))

-- a term finds the one property that has it
pub find-term : (ks : List KeptProp) (i : ℕ) (k : KeptProp) → is_in_order ks ≡ true → slice_get ks i ≡ Some k →
    find (λ (j : KeptProp). term_eq j.term k.term) ks ≡ Some k
find-term [] i k ordered is = cc
find-term (j ∷ js) zero k ordered is =
    let same : j ≡ k = cc in
    subst (λ (x : KeptProp). find (λ (y : KeptProp). term_eq y.term x.term) (j ∷ js) ≡ Some x) same
    (ap (λ b. cond b (Some j) (find (λ (y : KeptProp). term_eq y.term j.term) js)) ((term_eq-Decides j.term j.term).1 refl))
find-term (j ∷ js) (suc i) k ordered is =
    let before : prop_before j k ≡ true = list_all-slice_get (prop_before j) js i k (ascending-first prop_before j js ordered) is in
    ap (λ b. cond b (Some j) (find (λ (y : KeptProp). term_eq y.term k.term) js)) (before-other j.term k.term before)
    ∙ find-term js i k (ascending-rest prop_before j js ordered) is

-- what a term finds has that term
pub find-has_term : (term : Ground) (ks : List KeptProp) (k : KeptProp) → find (λ (j : KeptProp). term_eq j.term term) ks ≡ Some k → k.term ≡ term
find-has_term term [] k is = cc
find-has_term term (j ∷ js) k is =
    ⊎_elim
    (λ e. let found : Some j ≡ Some k = sym (ap (λ b. cond b (Some j) (find (λ (y : KeptProp). term_eq y.term term) js)) e) ∙ is in
    let same : j ≡ k = cc in ap (λ (x : KeptProp). x.term) (sym same) ∙ (term_eq-Decides j.term term).0 e)
    (λ e. find-has_term term js k (sym (ap (λ b. cond b (Some j) (find (λ (y : KeptProp). term_eq y.term term) js)) e) ∙ is))
    (cases_Bool (term_eq j.term term))

-- ---- terms under their numbers

-- mentions leave each term under its number
pub term_at-with_mentions : (p count id : ℕ) (ks : List KeptProp) → term_at id (with_mentions p count ks) ≡ term_at id ks
term_at-with_mentions p count id ks = ap (option_map (λ (k : KeptProp). k.term)) (prop_at-with_mentions p count id ks) ∙ of (prop_at id ks)
  where
    of : (o : Option KeptProp) → option_map (λ (k : KeptProp). k.term) (option_map (mentioned p count) o) ≡ option_map (λ (k : KeptProp). k.term) o
    of None = refl
    of (Some k) = ap Some (mentioned-term p count k)

-- and leave the numbers
pub numbers-with_mentions : (p count : ℕ) (ks : List KeptProp) → map number_of (with_mentions p count ks) ≡ map number_of ks
numbers-with_mentions p count [] = refl
numbers-with_mentions p count (k ∷ ks) =
    ap₂ {C = List PropId} (λ n ns. record { 0 = n } ∷ ns) (mentioned-id p count k) (numbers-with_mentions p count ks)

-- a property less leaves the others under their numbers
pub prop_at-without_other : (p id : ℕ) (ks : List KeptProp) → (id ≡ p → ⊥) → prop_at id (without_prop p ks) ≡ prop_at id ks
prop_at-without_other p id ks other =
    ⊎_elim (λ e. absurd (other (sym (eqb-true p id e)))) (λ e. prop_at-without p id ks ∙ ap (λ b. cond b None (prop_at id ks)) e) (cases_Bool (p == id))

-- and none under its own
pub prop_at-without_itself : (p : ℕ) (ks : List KeptProp) → prop_at p (without_prop p ks) ≡ None
prop_at-without_itself p ks = prop_at-without p p ks ∙ ap (λ b. cond b None (prop_at p ks)) (eqb-same p)

-- what a number finds stands at some place
pub place-prop_at : (id : ℕ) (ks : List KeptProp) (k : KeptProp) → prop_at id ks ≡ Some k → (i : ℕ) × (slice_get ks i ≡ Some k)
place-prop_at id [] k is = cc
place-prop_at id (j ∷ js) k is =
    ⊎_elim
    (λ e. (zero, sym (ap (λ b. cond b (Some j) (prop_at id js)) e) ∙ is))
    (λ e. let later = place-prop_at id js k (sym (ap (λ b. cond b (Some j) (prop_at id js)) e) ∙ is) in (suc later.0, later.1))
    (cases_Bool (j.id == id))

-- two places with the same term have the same property
pub same-places : (ks : List KeptProp) (i j : ℕ) (k l : KeptProp) → is_in_order ks ≡ true → slice_get ks i ≡ Some k → slice_get ks j ≡ Some l → k.term ≡ l.term → k ≡ l
same-places ks i j k l ordered at there same =
    let both : Some k ≡ Some l = sym (find-term ks i k ordered at) ∙ ap (λ t. find (λ (x : KeptProp). term_eq x.term t) ks) same ∙ find-term ks j l ordered there in cc

-- a number that finds the same term in two tables is kept in both
pub kept-same_term : (id : ℕ) (ks js : List KeptProp) → term_at id ks ≡ term_at id js → is_some (prop_at id js) ≡ true → is_some (prop_at id ks) ≡ true
kept-same_term id ks js same kept =
    sym (is_some-option_map (λ (k : KeptProp). k.term) (prop_at id ks)) ∙ ap is_some same ∙ is_some-option_map (λ (k : KeptProp). k.term) (prop_at id js) ∙ kept

-- the mentions that were set
pub mentions_at-with_mentions : (p count : ℕ) (ks : List KeptProp) → is_some (prop_at p ks) ≡ true → mentions_at p (with_mentions p count ks) ≡ Some count
mentions_at-with_mentions p count ks kept =
    let found = some-kept (prop_at p ks) kept in
    ap (option_map (λ (k : KeptProp). k.mentions)) (prop_at-with_mentions p count p ks ∙ ap (option_map (mentioned p count)) found.1)
    ∙ ap (λ b. Some (if b then record (found.0) { mentions = count } else found.0).mentions)
    (ap (λ n. n == p) (prop_at-id p ks found.0 found.1) ∙ eqb-same p)

-- and those under other numbers
pub prop_at-with_other_mentions : (p count id : ℕ) (ks : List KeptProp) → (id ≡ p → ⊥) → prop_at id (with_mentions p count ks) ≡ prop_at id ks
prop_at-with_other_mentions p count id ks other = prop_at-with_mentions p count id ks ∙ of (prop_at id ks) refl
  where
    of : (o : Option KeptProp) → prop_at id ks ≡ o → option_map (mentioned p count) o ≡ o
    of None is = refl
    of (Some k) is =
        ⊎_elim (λ e. absurd (other (sym (prop_at-id id ks k is) ∙ eqb-true k.id p e)))
        (λ e. ap (λ b. Some (if b then record k { mentions = count } else k)) e) (cases_Bool (k.id == p))

-- ---- what a test finds, with a member more and with one less

-- with a member more, which no other stands for
pub find-insert : {A : Type 0} (p : A → Bool) (x : A) (xs : List A) (i : ℕ) → (p x ≡ true → list_any p xs ≡ false) → find p (insert xs i x) ≡ cond (p x) (Some x) (find p xs)
find-insert p x [] zero alone = refl
find-insert p x [] (suc i) alone = refl
find-insert p x (y ∷ ys) zero alone = refl
find-insert p x (y ∷ ys) (suc i) alone =
    ap (λ o. cond (p y) (Some y) o) (find-insert p x ys i (λ e. (or_parts (p y) (list_any p ys) (alone e)).1))
    ∙ cond_comm (p y) (p x) (Some y) (Some x) (find p ys) (λ e. (or_parts (p y) (list_any p ys) (alone e)).0)

-- with the member at a place less, for which a test does not ask
pub find-remove : {A : Type 0} (p : A → Bool) (xs : List A) (i : ℕ) (x : A) → slice_get xs i ≡ Some x → p x ≡ false → find p (remove xs i) ≡ find p xs
find-remove p [] i x is other = cc
find-remove p (y ∷ ys) zero x is other = let same : y ≡ x = cc in sym (ap (λ b. cond b (Some y) (find p ys)) (ap p same ∙ other))
find-remove p (y ∷ ys) (suc i) x is other = ap (λ o. cond (p y) (Some y) o) (find-remove p ys i x is other)

-- a term that is new is kept under no number
pub list_any-absent : (term : Ground) (ks : List KeptProp) → prop_of term ks ≡ None → list_any (λ (k : KeptProp). term_eq k.term term) ks ≡ false
list_any-absent term ks none = sym (is_some-find (λ (k : KeptProp). term_eq k.term term) ks) ∙ from (find (λ (k : KeptProp). term_eq k.term term) ks) none
  where
    from : (o : Option KeptProp) → option_map (λ (k : KeptProp). k.id) o ≡ None → is_some o ≡ false
    from None is = refl
    from (Some k) is = cc

pub list_any-kept : (term : Ground) (ks : List KeptProp) (id : ℕ) → prop_of term ks ≡ Some id → list_any (λ (k : KeptProp). term_eq k.term term) ks ≡ true
list_any-kept term ks id some = sym (is_some-find (λ (k : KeptProp). term_eq k.term term) ks) ∙ from (find (λ (k : KeptProp). term_eq k.term term) ks) some
  where
    from : (o : Option KeptProp) → option_map (λ (k : KeptProp). k.id) o ≡ Some id → is_some o ≡ true
    from None is = cc
    from (Some k) is = refl

-- the number of a term, with a property more
pub prop_of-insert : (other : Ground) (k : KeptProp) (ks : List KeptProp) (i : ℕ) → prop_of k.term ks ≡ None →
    prop_of other (insert ks i k) ≡ cond (term_eq k.term other) (Some k.id) (prop_of other ks)
prop_of-insert other k ks i none =
    ap (option_map (λ (j : KeptProp). j.id)) (find-insert (λ (j : KeptProp). term_eq j.term other) k ks i alone)
    ∙ option_map-cond (λ (j : KeptProp). j.id) (term_eq k.term other) k (find (λ (j : KeptProp). term_eq j.term other) ks)
  where
    alone : term_eq k.term other ≡ true → list_any (λ (j : KeptProp). term_eq j.term other) ks ≡ false
    alone e = subst (λ t. list_any (λ (j : KeptProp). term_eq j.term t) ks ≡ false) ((term_eq-Decides k.term other).0 e) (list_any-absent k.term ks none)

-- with other mentions
pub prop_of-with_mentions : (p count : ℕ) (term : Ground) (ks : List KeptProp) → prop_of term (with_mentions p count ks) ≡ prop_of term ks
prop_of-with_mentions p count term [] = refl
prop_of-with_mentions p count term (k ∷ ks) =
    let rest = prop_of-with_mentions p count term ks in
    option_map-cond (λ (j : KeptProp). j.id) (term_eq (mentioned p count k).term term) (mentioned p count k) (find (λ (j : KeptProp). term_eq j.term term) (with_mentions p count ks))
    ∙ ap₂ (λ t o. cond (term_eq t term) (Some (mentioned p count k).id) o) (mentioned-term p count k) rest
    ∙ ap (λ n. cond (term_eq k.term term) (Some n) (prop_of term ks)) (mentioned-id p count k)
    ∙ sym (option_map-cond (λ (j : KeptProp). j.id) (term_eq k.term term) k (find (λ (j : KeptProp). term_eq j.term term) ks))

-- the term of a property that goes is kept under no number
pub prop_of-remove_own : (ks : List KeptProp) (i : ℕ) (k : KeptProp) → is_in_order ks ≡ true → slice_get ks i ≡ Some k → prop_of k.term (remove ks i) ≡ None
prop_of-remove_own ks i k ordered is =
    ap (option_map (λ (j : KeptProp). j.id)) (find-none (λ (j : KeptProp). term_eq j.term k.term) (remove ks i) (none ks i ordered is))
  where
    others : (js : List KeptProp) → list_all (prop_before k) js ≡ true → list_any (λ (j : KeptProp). term_eq j.term k.term) js ≡ false
    others [] all = refl
    others (j ∷ js) all =
        let here : term_eq j.term k.term ≡ false = behind-other k.term j.term (and-left (prop_before k j) (list_all (prop_before k) js) all) in
        let rest = others js (and-right (prop_before k j) (list_all (prop_before k) js) all) in
        ap₂ (λ a b. a || b) here rest

    none : (js : List KeptProp) (n : ℕ) → is_in_order js ≡ true → slice_get js n ≡ Some k → list_any (λ (j : KeptProp). term_eq j.term k.term) (remove js n) ≡ false
    none [] n ascending there = cc
    none (j ∷ js) zero ascending there =
        let same : j ≡ k = cc in others js (subst (λ x. list_all (prop_before x) js ≡ true) same (ascending-first prop_before j js ascending))
    none (j ∷ js) (suc n) ascending there =
        let before : prop_before j k ≡ true = list_all-slice_get (prop_before j) js n k (ascending-first prop_before j js ascending) there in
        ap₂ (λ a b. a || b) (before-other j.term k.term before) (none js n (ascending-rest prop_before j js ascending) there)

-- the number of a term, with the property at a place less
pub prop_of-remove : (other : Ground) (ks : List KeptProp) (i : ℕ) (k : KeptProp) → is_in_order ks ≡ true → slice_get ks i ≡ Some k →
    prop_of other (remove ks i) ≡ cond (term_eq k.term other) None (prop_of other ks)
prop_of-remove other ks i k ordered is =
    ⊎_elim
    (λ e. subst (λ t. prop_of t (remove ks i) ≡ None) ((term_eq-Decides k.term other).0 e) (prop_of-remove_own ks i k ordered is)
    ∙ sym (ap (λ b. cond b None (prop_of other ks)) e))
    (λ e. ap (option_map (λ (j : KeptProp). j.id)) (find-remove (λ (j : KeptProp). term_eq j.term other) ks i k is e)
    ∙ sym (ap (λ b. cond b None (prop_of other ks)) e))
    (cases_Bool (term_eq k.term other))
