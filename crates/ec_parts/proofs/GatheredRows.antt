-- Marks of clashes, gathered one initiation after the other.
use Rattle.std.proofs.Common.{◌≡◌, ℕ, suc, ℤ, ◌+◌, ◌<◌, ◌≤◌, Bool, true, false, cond, List, [], ◌∷◌, ◌++◌, ◌-◌, take, drop, ap₂, get_or, length, refl, sym, ap, subst, ◌∙◌, is_eq, is_lt, add-one, arith}
use Rattle.std.specs.Prelude.{int_lt, nat_lt}
use Rattle.std.specs.List.{All}
use Rattle.std.specs.Ordering.{int_eq, int_cmp}
use Rattle.std.proofs.lemmas.Bool.{false≢true}
use Rattle.std.proofs.lemmas.Int.{ints}
use Rattle.std.proofs.lemmas.List.{take_more, take_all, get_or_default}
use Rattle.std.specs.List.Sorted.{IsPermutation}
use Rattle.std.proofs.lemmas.List.Sorted.{sum_by-IsPermutation}
use Rattle.std.proofs.lemmas.List.Elements.{All-nil, All-append, All-cons}
use Rattle.std.proofs.lemmas.List.Sums.{sum_by-append, sum_by-take-le}
use Rattle.ec_lists.proofs.Integers.{int_eq-same, int_lt-trans}
use Rattle.ec_lists.proofs.Tests.{list_all-push, list_all-weaker}
use Rattle.ec_rows.specs.declared.mark.Mark.{Mark}
use Rattle.ec_rows.specs.Marks.{IsMarkRow, is_counted, mark_before, are_before}
use Rattle.ec_rows.proofs.MarkLemmas.{IsMarkRow-nil, IsMarkRow-push}
use Rattle.ec_parts.specs.Gathered.{initiations_at, clashes_at, clashing, AreInTime, CountsClashesAlone, AreGathered}

-- marks that count initiations as clashes, with one that is still open behind them
pub record AreOpen {T : Type 0} (rank : T → ℤ) (others marks : List (Mark T)) (open_mark : Mark T) : Type 0 where
  pub row : IsMarkRow rank marks
  pub before : are_before rank marks open_mark ≡ true
  pub alone : All CountsClashesAlone marks
  pub own : CountsClashesAlone open_mark
  pub counted : 0 < open_mark.clashes
  pub clashes : (t : ℤ) → clashes_at rank t marks + cond (int_eq (rank open_mark.at) t) open_mark.clashes 0 ≡ initiations_at rank t others

module _ {T : Type 0} (rank : T → ℤ) where
  -- the next of some marks stands behind those in front of it
  pub take-next : (first : Mark T) (rest : List (Mark T)) (i : ℕ) (mark : Mark T) → i < length rest → mark ≡ get_or rest i mark
      → first ∷ take (i + 1) rest ≡ (first ∷ take i rest) ++ mark ∷ []
  take-next first rest i mark within is = ap (λ ms. first ∷ ms) (take_more rest i mark within ∙ ap (λ m. take i rest ++ m ∷ []) (sym is))

  -- and at the place behind theirs
  pub get_or-next : (first : Mark T) (rest : List (Mark T)) (i : ℕ) (mark : Mark T) → i < length rest → mark ≡ get_or rest i mark → get_or (first ∷ rest) (i + 1) first ≡ mark
  get_or-next first rest i mark within is = ap (λ n. get_or (first ∷ rest) n first) (add-one i) ∙ get_or_default rest i first mark within ∙ sym is

  -- one initiation alone
  pub AreOpen-first : (first : Mark T) → 0 < first.inits → (marks : List (Mark T)) → marks ≡ [] → AreOpen rank (first ∷ []) marks (clashing first)
  AreOpen-first first some marks none =
      subst (λ ms. AreOpen rank (first ∷ []) ms (clashing first)) (sym none)
      (record {
        row = IsMarkRow-nil rank [] refl;
        before = refl;
        alone = All-nil CountsClashesAlone;
        own = record { inits = refl; terms = refl };
        counted = some;
        clashes = λ t. refl;
      })

  -- the open mark ends: they are gathered
  pub AreGathered-open : (others marks new : List (Mark T)) (open_mark : Mark T) → new ≡ marks ++ open_mark ∷ [] → AreOpen rank others marks open_mark → AreGathered rank others new
  AreGathered-open others marks new open_mark is so_far =
      subst (AreGathered rank others) (sym is)
      (record {
        row = IsMarkRow-push rank open_mark marks (marks ++ open_mark ∷ []) (is_counted-open open_mark so_far.own so_far.counted) so_far.before so_far.row refl;
        alone = All-append CountsClashesAlone marks (open_mark ∷ []) so_far.alone (All-cons CountsClashesAlone open_mark [] so_far.own (All-nil CountsClashesAlone));
        clashes = λ t. sum_by-append (λ (m : Mark T). cond (int_eq (rank m.at) t) m.clashes 0) marks (open_mark ∷ []) ∙ one (clashes_at rank t marks) _ ∙ so_far.clashes t;
      })
    where
      one : (a b : ℕ) → a + (0 + b) ≡ a + b
      one a b = omega arith

      is_counted-open : (m : Mark T) → CountsClashesAlone m → 0 < m.clashes → is_counted m ≡ true
      is_counted-open m own some = ap (λ n. nat_lt 0 (n + m.terms + m.clashes)) own.inits ∙ ap (λ n. nat_lt 0 (0 + n + m.clashes)) own.terms ∙ positive m.clashes some
        where
          positive : (n : ℕ) → 0 < n → nat_lt 0 (0 + 0 + n) ≡ true
          positive n some = grind arith

  -- one initiation more at the same time
  pub AreOpen-same : (others more marks : List (Mark T)) (open_mark mark : Mark T) → more ≡ others ++ mark ∷ [] → rank mark.at ≡ rank open_mark.at → AreOpen rank others marks open_mark
      → AreOpen rank more marks (record open_mark { clashes = open_mark.clashes + mark.inits })
  AreOpen-same others more marks open_mark mark is same so_far =
      subst (λ ms. AreOpen rank ms marks (record open_mark { clashes = open_mark.clashes + mark.inits })) (sym is)
      (record {
        row = so_far.row;
        before = so_far.before;
        alone = so_far.alone;
        own = record { inits = so_far.own.inits; terms = so_far.own.terms };
        counted = omega (arith, so_far.counted);
        clashes = λ t.
            split (clashes_at rank t marks) open_mark.clashes mark.inits (int_eq (rank open_mark.at) t) (initiations_at rank t others) (so_far.clashes t)
            ∙ ap (λ r. initiations_at rank t others + (0 + cond (int_eq r t) mark.inits 0)) (sym same)
            ∙ sym (sum_by-append (λ (m : Mark T). cond (int_eq (rank m.at) t) m.inits 0) others (mark ∷ []));
      })
    where
      split : (a n m : ℕ) (b : Bool) (sum : ℕ) → a + cond b n 0 ≡ sum → a + cond b (n + m) 0 ≡ sum + (0 + cond b m 0)
      split a n m true sum e = omega (arith, e)
      split a n m false sum e = omega (arith, e)

  -- one initiation more at a later time: the open mark ends, and another is open
  pub AreOpen-later : (others more marks new : List (Mark T)) (open_mark mark : Mark T) → more ≡ others ++ mark ∷ [] → new ≡ marks ++ open_mark ∷ []
      → int_lt (rank open_mark.at) (rank mark.at) ≡ true → 0 < mark.inits → AreOpen rank others marks open_mark → AreOpen rank more new (clashing mark)
  AreOpen-later others more marks new open_mark mark is pushed later some so_far =
      let gathered = AreGathered-open others marks new open_mark pushed so_far in
      subst (λ ms. AreOpen rank ms new (clashing mark)) (sym is)
      (record {
        row = gathered.row;
        before = subst (λ ms. are_before rank ms (clashing mark) ≡ true) (sym pushed)
            (list_all-push (λ m. mark_before rank m (clashing mark)) marks open_mark
            (list_all-weaker (λ m. mark_before rank m open_mark) (λ m. mark_before rank m (clashing mark)) (λ m earlier. int_lt-trans (rank m.at) (rank open_mark.at) (rank mark.at) earlier later) marks so_far.before) later);
        alone = gathered.alone;
        own = record { inits = refl; terms = refl };
        counted = some;
        clashes = λ t.
            ap (λ n. n + cond (int_eq (rank mark.at) t) mark.inits 0) (gathered.clashes t)
            ∙ one (initiations_at rank t others) (cond (int_eq (rank mark.at) t) mark.inits 0)
            ∙ sym (sum_by-append (λ (m : Mark T). cond (int_eq (rank m.at) t) m.inits 0) others (mark ∷ []));
      })
    where
      one : (a b : ℕ) → a + b ≡ a + (0 + b)
      one a b = omega arith

  -- ---- the next of some marks in the order of time

  -- it is no earlier than the one in front of it, so where it is not at the time of the open mark, it is later
  pub is-later : (first : Mark T) (rest : List (Mark T)) (i : ℕ) (mark open_mark : Mark T) → AreInTime rank (first ∷ rest) → i < length rest → mark ≡ get_or rest i mark
      → rank (get_or (first ∷ rest) i first).at ≡ rank open_mark.at → is_eq (int_cmp (rank mark.at) (rank open_mark.at)) ≡ false → int_lt (rank open_mark.at) (rank mark.at) ≡ true
  is-later first rest i mark open_mark order within is last apart =
      later (rank mark.at) (rank open_mark.at)
      (ap (λ r. is_lt (int_cmp (rank mark.at) r)) (sym last)
      ∙ ap (λ (m : Mark T). is_lt (int_cmp (rank m.at) (rank (get_or (first ∷ rest) i first).at))) (sym (get_or-next first rest i mark within is))
      ∙ order i first (omega arith) (omega arith)) apart
    where
      later : (a b : ℤ) → is_lt (int_cmp a b) ≡ false → is_eq (int_cmp a b) ≡ false → int_lt b a ≡ true
      later a b no_less apart = grind (arith, ints)

  -- so many initiations at the time of the open mark fit where all at that time do
  pub clashes-fit : (first : Mark T) (rest marks : List (Mark T)) (i : ℕ) (mark open_mark : Mark T) (n : ℕ) → ((t : ℤ) → initiations_at rank t (first ∷ rest) < n)
      → i < length rest → mark ≡ get_or rest i mark → rank mark.at ≡ rank open_mark.at → AreOpen rank (first ∷ take i rest) marks open_mark → open_mark.clashes + mark.inits < n
  clashes-fit first rest marks i mark open_mark n few within is same so_far =
      let more = AreOpen-same (first ∷ take i rest) (first ∷ take (i + 1) rest) marks open_mark mark (take-next first rest i mark within is) same so_far in
      below (clashes_at rank (rank open_mark.at) marks) (open_mark.clashes + mark.inits) (initiations_at rank (rank open_mark.at) (first ∷ take (i + 1) rest))
      (initiations_at rank (rank open_mark.at) (first ∷ rest)) (int_eq (rank open_mark.at) (rank open_mark.at)) (int_eq-same (rank open_mark.at)) (more.clashes (rank open_mark.at))
      (within_all (rank open_mark.at)) (few (rank open_mark.at))
    where
      below : (a b c d : ℕ) (e : Bool) → e ≡ true → a + cond e b 0 ≡ c → c ≤ d → d < n → b < n
      below a b c d true here is le lt = omega arith
      below a b c d false here is le lt = absurd (false≢true here)

      within_all : (t : ℤ) → initiations_at rank t (first ∷ take (i + 1) rest) ≤ initiations_at rank t (first ∷ rest)
      within_all t = sum_by-take-le (λ (m : Mark T). cond (int_eq (rank m.at) t) m.inits 0) (first ∷ rest) (suc (i + 1))

  -- ---- marks in another order

  -- what gathers some marks gathers them in another order
  pub AreGathered-permuted : (others sorted marks : List (Mark T)) → IsPermutation others sorted → AreGathered rank sorted marks → AreGathered rank others marks
  AreGathered-permuted others sorted marks moved gathered = record {
    row = gathered.row;
    alone = gathered.alone;
    clashes = λ t. gathered.clashes t ∙ sum_by-IsPermutation (λ (m : Mark T). cond (int_eq (rank m.at) t) m.inits 0) others sorted moved;
  }

  -- and they count as few initiations
  pub few-permuted : (others sorted : List (Mark T)) (n : ℕ) → IsPermutation others sorted → ((t : ℤ) → initiations_at rank t others < n) → (t : ℤ) → initiations_at rank t sorted < n
  few-permuted others sorted n moved few t = subst (λ k. k < n) (sym (sum_by-IsPermutation (λ (m : Mark T). cond (int_eq (rank m.at) t) m.inits 0) others sorted moved)) (few t)

  -- and no marks gather no marks
  pub AreGathered-none : (others marks : List (Mark T)) → others ≡ [] → marks ≡ [] → AreGathered rank others marks
  AreGathered-none others marks no_others none =
      subst (λ ms. AreGathered rank ms marks) (sym no_others)
      (subst (AreGathered rank []) (sym none) (record { row = IsMarkRow-nil rank [] refl; alone = All-nil CountsClashesAlone; clashes = λ t. refl }))

-- a first member and the others behind it are the whole list
pub first-others : {X : Type 0} (xs : List X) (first : X) → 1 ≤ length xs → first ≡ get_or xs 0 first → first ∷ take (length xs - 1) (drop 1 xs) ≡ xs
first-others [] first some is = absurd (omega arith)
first-others (x ∷ xs) first some is = ap₂ (λ y ys. y ∷ ys) is (ap (λ n. take n xs) (less (length xs)) ∙ take_all (length xs) xs (omega arith))
  where
    less : (n : ℕ) → suc n - 1 ≡ n
    less n = omega arith
