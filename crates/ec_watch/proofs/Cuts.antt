-- The place of a property among the rows, and the edits at it.
use Rattle.std.proofs.Common.{◌≡◌, ℕ, suc, ◌+◌, ◌-◌, ◌*◌, ◌≤◌, ◌<◌, true, false, List, [], ◌∷◌, ◌++◌, length, take, drop, replicate, slice_set, get_or, refl, sym, ap, subst, ◌∙◌, arith}
use Rattle.std.specs.List.{insert, remove, list_all, list_any}
use Rattle.std.specs.List.Sorted.{IsPartitionPoint, IsPartitionedBy}
use Rattle.std.specs.Ordering.{is_eq, is_lt, ordering_reverse}
use Rattle.std.specs.declared.cmp.Ordering.{Ordering}
use Rattle.std.specs.declared.cmp.Ordering.TheVariants.{Less, Equal, Greater}
use Rattle.std.proofs.lemmas.Bool.{and_parts, and_from}
use Rattle.std.proofs.Math.Seq.{drop-cons}
use Rattle.std.proofs.Math.ListN.{drop_of_length-le}
use Rattle.std.proofs.lemmas.List.{get_or_default, length-append, length-take-le, drop-set-lt, set-append_right, take-append-drop, take-set}
use Rattle.ec_lists.proofs.Partitions.{take-partition}
use Rattle.ec_lists.proofs.Filters.{list_all-kept}
use Rattle.ec_lists.proofs.Tests.{list_all-weaker}
use Rattle.ec_lists.proofs.Orderings.{Less-from_is_lt}
use Rattle.ec_terms.specs.declared.ground.Ground.{Ground}
use Rattle.ec_terms.specs.Term.{term_cmp}
use Rattle.ec_terms.proofs.OrderLemmas.{term_cmp-total, term_cmp-Equal}
use Rattle.ec_rows.specs.Ordered.{is_ascending}
use Rattle.ec_rows.proofs.OrderedLemmas.{IsPartitionedBy-ascending}
use Rattle.ec_commands.specs.declared.limits.TheConstants.{MOST_WATCHED, SESSIONS}
use Rattle.ec_watch.specs.declared.row.Row.{Row}
use Rattle.ec_watch.specs.Watched.{AreRows, HasUnwatched, HasWatched, IsThere, IsFree, comes_first, watched_by, is_watched_by, is_below, is_above, has_property}
use Rattle.ec_watch.proofs.Rows.{length-rows}
use Rattle.ec_watch.proofs.Edits.{entered, gone, left, has_property-none, has_property-row, joined}

-- ---- what the search finds

-- what comes before a row below a property is below it: so the property cuts the rows in two
pub IsPartitionedBy-below : (p : Ground) (rows : List Row) → is_ascending comes_first rows ≡ true → IsPartitionedBy (is_below p) rows
IsPartitionedBy-below p rows ascend =
    IsPartitionedBy-ascending comes_first (is_below p)
    (λ x y before below. ap is_lt (term_cmp-total.trans x.prop y.prop p (Less-from_is_lt (term_cmp x.prop y.prop) before) (Less-from_is_lt (term_cmp y.prop p) below)))
    rows ascend

-- behind a place, said in two ways
drop-next : (rows : List Row) (i : ℕ) → drop (suc i) rows ≡ drop (i + 1) rows
drop-next rows i = let next : suc i ≡ i + 1 = omega arith in ap (λ n. drop n rows) next

-- what stands from a place on begins with what stands there
drop-here : (rows : List Row) (i : ℕ) (row : Row) → i < length rows → row ≡ get_or rows i row → drop i rows ≡ row ∷ drop (suc i) rows
drop-here rows i row within here = drop-cons rows i row within ∙ ap (λ r. r ∷ drop (suc i) rows) (sym here)

-- the rows in front of the cut are below
front_below : (p : Ground) (rows : List Row) (i : ℕ) → IsPartitionPoint (λ row. is_below p row ≡ true) (λ row. is_below p row ≡ false) rows i → list_all (is_below p) (take i rows) ≡ true
front_below p rows i cut = ap (list_all (is_below p)) (take-partition (is_below p) rows i cut) ∙ list_all-kept (is_below p) rows

-- what is behind some rows is in order too
is_ascending-behind : (xs ys : List Row) → is_ascending comes_first (xs ++ ys) ≡ true → is_ascending comes_first ys ≡ true
unfolding is_ascending
is_ascending-behind [] ys ascend = ascend
is_ascending-behind (x ∷ xs) ys ascend = is_ascending-behind xs ys (and_parts (list_all (comes_first x) (xs ++ ys)) (is_ascending comes_first (xs ++ ys)) ascend).1

-- behind the row of a property all are above it
behind_there : (p : Ground) (row : Row) (ys : List Row) → row.prop ≡ p → is_ascending comes_first (row ∷ ys) ≡ true → list_all (is_above p) ys ≡ true
unfolding is_ascending
behind_there p row ys same ascend = subst (λ q. list_all (λ (r : Row). is_lt (term_cmp q r.prop)) ys ≡ true) same (and_parts (list_all (comes_first row) ys) (is_ascending comes_first ys) ascend).0

-- what comes behind a row that is above a property is above it
above-trans : (p : Ground) (y z : Row) → is_above p y ≡ true → comes_first y z ≡ true → is_above p z ≡ true
above-trans p y z one two =
    let less = term_cmp-total.trans p y.prop z.prop (Less-from_is_lt (term_cmp p y.prop) one) (Less-from_is_lt (term_cmp y.prop z.prop) two) in ap is_lt less

-- so where the first is above it all are
behind_free : (p : Ground) (y : Row) (ys : List Row) → is_above p y ≡ true → is_ascending comes_first (y ∷ ys) ≡ true → list_all (is_above p) (y ∷ ys) ≡ true
unfolding is_ascending
behind_free p y ys above ascend =
    and_from (is_above p y) (list_all (is_above p) ys) above
    (list_all-weaker (comes_first y) (is_above p) (λ z later. above-trans p y z above later) ys (and_parts (list_all (comes_first y) ys) (is_ascending comes_first ys) ascend).0)

-- the rows from a place on are in order
drop_ascends : (rows : List Row) (i : ℕ) → is_ascending comes_first rows ≡ true → is_ascending comes_first (drop i rows) ≡ true
drop_ascends rows i ascend = is_ascending-behind (take i rows) (drop i rows) (ap (is_ascending comes_first) (take-append-drop i rows) ∙ ascend)

-- the row at the cut is the property's
pub there-cut : (p : Ground) (rows : List Row) (i : ℕ) (row : Row) → IsPartitionPoint (λ row. is_below p row ≡ true) (λ row. is_below p row ≡ false) rows i
    → is_ascending comes_first rows ≡ true → i < length rows → row ≡ get_or rows i row → term_cmp row.prop p ≡ Equal → IsThere p rows i
there-cut p rows i row cut ascend within here equal =
    let same : row.prop ≡ p = (term_cmp-Equal row.prop p).0 equal in
    let next : suc i ≡ i + 1 = omega arith in
    record {
      within = within;
      front = front_below p rows i cut;
      here = λ d. ap (λ (r : Row). r.prop) (get_or_default rows i d row within ∙ sym here) ∙ same;
      behind = subst (λ n. list_all (is_above p) (drop n rows) ≡ true) next
          (behind_there p row (drop (suc i) rows) same (ap (is_ascending comes_first) (sym (drop-here rows i row within here)) ∙ drop_ascends rows i ascend));
    }

-- no row at the cut is
pub free-cut : (p : Ground) (rows : List Row) (i : ℕ) (row : Row) → IsPartitionPoint (λ row. is_below p row ≡ true) (λ row. is_below p row ≡ false) rows i
    → is_ascending comes_first rows ≡ true → i < length rows → row ≡ get_or rows i row → is_above p row ≡ true → IsFree p rows i
free-cut p rows i row cut ascend within here above = record {
  within = omega (arith, within);
  front = front_below p rows i cut;
  behind = ap (list_all (is_above p)) (drop-here rows i row within here)
      ∙ behind_free p row (drop (suc i) rows) above (ap (is_ascending comes_first) (sym (drop-here rows i row within here)) ∙ drop_ascends rows i ascend);
}

-- the test of an order says what it is
pub equal-from_test : (r : Ordering) → is_eq r ≡ true → r ≡ Equal
equal-from_test Less is = cc
equal-from_test Equal is = refl
equal-from_test Greater is = cc

-- a row that is neither below a property nor its own is above it
pub above-cut : (p : Ground) (row : Row) → is_below p row ≡ false → is_eq (term_cmp row.prop p) ≡ false → is_above p row ≡ true
above-cut p row below equal = by_order (term_cmp row.prop p) refl
  where
    by_order : (r : Ordering) → term_cmp row.prop p ≡ r → is_above p row ≡ true
    by_order Less is = absurd (let no = sym (ap is_lt is) ∙ below in cc)
    by_order Equal is = absurd (let no = sym (ap is_eq is) ∙ equal in cc)
    by_order Greater is = ap is_lt (term_cmp-total.antisymm p row.prop ∙ ap ordering_reverse is)

-- nor where the cut is at the end
pub free-end : (p : Ground) (rows : List Row) (i : ℕ) → IsPartitionPoint (λ row. is_below p row ≡ true) (λ row. is_below p row ≡ false) rows i → i ≤ length rows → length rows ≤ i → IsFree p rows i
free-end p rows i cut within end = record {
  within = within;
  front = front_below p rows i cut;
  behind = ap (list_all (is_above p)) (drop_of_length-le rows end);
}

-- ---- the edits at a place

-- what is read at a place is one row, whatever stands in for none
pub row_same : (rows : List Row) (i : ℕ) (row other : Row) → i < length rows → row ≡ get_or rows i row → other ≡ get_or rows i other → other ≡ row
row_same rows i row other within one two = two ∙ get_or_default rows i other row within ∙ sym one

-- rows are those in front of a place, the one at it and those behind it
split : (rows : List Row) (i : ℕ) (row : Row) → i < length rows → row ≡ get_or rows i row → rows ≡ take i rows ++ row ∷ drop (i + 1) rows
split rows i row within here =
    let next : suc i ≡ i + 1 = omega arith in
    sym (take-append-drop i rows) ∙ ap (λ ys. take i rows ++ ys) (drop-here rows i row within here ∙ ap (λ n. row ∷ drop n rows) next)

-- and the same with another at it
set-split : (rows : List Row) (i : ℕ) (row other : Row) → i < length rows → row ≡ get_or rows i row → slice_set rows i other ≡ take i rows ++ other ∷ drop (i + 1) rows
set-split rows i row other within here =
    let first : i - i ≡ 0 = omega arith in
    let front : length (take i rows) ≡ i = length-take-le i rows (omega (arith, within)) in
    ap (λ all. slice_set all i other) (split rows i row within here)
    ∙ set-append_right (take i rows) (row ∷ drop (i + 1) rows) i i other front (omega arith)
    ∙ ap (λ n. take i rows ++ slice_set (row ∷ drop (i + 1) rows) n other) first

-- a session's place of the row at a place is set
pub joined_at : (p : Ground) (session : ℕ) (rows : List Row) (i : ℕ) (row other : Row) → session < SESSIONS → IsThere p rows i → row ≡ get_or rows i row → other.prop ≡ row.prop
    → other.sessions ≡ slice_set row.sessions session true → AreRows rows → is_watched_by session row ≡ false → length (watched_by session rows) < MOST_WATCHED
    → HasWatched p session rows (slice_set rows i other)
joined_at p session rows i row other within there here kept set are unwatched was_few =
    let old = split rows i row there.within here in
    let new = set-split rows i row other there.within here in
    let same : row.prop ≡ p = ap (λ (r : Row). r.prop) here ∙ there.here row in
    let done = joined p session (take i rows) row other (drop (i + 1) rows) within (record { below = there.front; above = there.behind }) same kept set
    (subst AreRows old are) unwatched (subst (λ all. length (watched_by session all) < MOST_WATCHED) old was_few) in
    subst (λ all. HasWatched p session all (slice_set rows i other)) (sym old) (subst (λ all. HasWatched p session (take i rows ++ row ∷ drop (i + 1) rows) all) (sym new) done)

-- whether the session watches the property is told by its row
pub has_property-at : (p : Ground) (session : ℕ) (rows : List Row) (i : ℕ) (row : Row) → IsThere p rows i → row ≡ get_or rows i row
    → has_property p (watched_by session rows) ≡ is_watched_by session row
has_property-at p session rows i row there here =
    let old = split rows i row there.within here in
    let same : row.prop ≡ p = ap (λ (r : Row). r.prop) here ∙ there.here row in
    ap (λ all. has_property p (watched_by session all)) old
    ∙ has_property-row p session (take i rows) row (drop (i + 1) rows) (record { below = there.front; above = there.behind }) same

-- and where it has none no session watches it
pub has_property-free : (p : Ground) (session : ℕ) (rows : List Row) (i : ℕ) → IsFree p rows i → has_property p (watched_by session rows) ≡ false
has_property-free p session rows i free =
    ap (λ all. has_property p (watched_by session all)) (sym (take-append-drop i rows))
    ∙ has_property-none p session (take i rows) (drop i rows) (record { below = free.front; above = free.behind })

-- a row comes in at a place
pub entered_at : (p : Ground) (session : ℕ) (rows : List Row) (i : ℕ) (row : Row) → session < SESSIONS → IsFree p rows i → row.prop ≡ p
    → row.sessions ≡ slice_set (replicate SESSIONS false) session true → AreRows rows → length (watched_by session rows) < MOST_WATCHED
    → HasWatched p session rows (insert rows i row)
entered_at p session rows i row within free same set are was_few =
    let old = take-append-drop i rows in
    let done = entered p session (take i rows) row (drop i rows) within (record { below = free.front; above = free.behind }) same set
    (subst AreRows (sym old) are) (subst (λ all. length (watched_by session all) < MOST_WATCHED) (sym old) was_few) in
    subst (λ all. HasWatched p session all (insert rows i row)) old done

-- there is room for one more row where a session could watch one property more
pub room_at : (p : Ground) (session : ℕ) (rows : List Row) (i : ℕ) (row : Row) → HasWatched p session rows (insert rows i row) → length rows < SESSIONS * MOST_WATCHED
room_at p session rows i row watched =
    let few = length-rows (insert rows i row) watched.rows in
    let all = length-append (take i rows) (row ∷ drop i rows) in
    let old = ap length (take-append-drop i rows) in
    let both = length-append (take i rows) (drop i rows) in omega (arith, few, all, old, both)

-- a session's place of the row at a place is cleared, where others watch it
pub left_at : (p : Ground) (session : ℕ) (rows : List Row) (i : ℕ) (row other : Row) → session < SESSIONS → IsThere p rows i → row ≡ get_or rows i row → other.prop ≡ row.prop
    → other.sessions ≡ slice_set row.sessions session false → AreRows rows → is_watched_by session row ≡ true → list_any (λ watches. watches) other.sessions ≡ true
    → HasUnwatched p session rows (slice_set rows i other)
left_at p session rows i row other within there here kept set are watched used =
    let old = split rows i row there.within here in
    let new = set-split rows i row other there.within here in
    let same : row.prop ≡ p = ap (λ (r : Row). r.prop) here ∙ there.here row in
    let done = left p session (take i rows) row other (drop (i + 1) rows) within (record { below = there.front; above = there.behind }) same kept set (subst AreRows old are) watched used in
    subst (λ all. HasUnwatched p session all (slice_set rows i other)) (sym old) (subst (λ all. HasUnwatched p session (take i rows ++ row ∷ drop (i + 1) rows) all) (sym new) done)

-- and the row goes where none does
pub gone_at : (p : Ground) (session : ℕ) (rows : List Row) (i : ℕ) (row other : Row) → session < SESSIONS → IsThere p rows i → row ≡ get_or rows i row
    → other.sessions ≡ slice_set row.sessions session false → AreRows rows → is_watched_by session row ≡ true → list_any (λ watches. watches) other.sessions ≡ false
    → HasUnwatched p session rows (remove (slice_set rows i other) i)
gone_at p session rows i row other within there here set are watched unused =
    let old = split rows i row there.within here in
    let same : row.prop ≡ p = ap (λ (r : Row). r.prop) here ∙ there.here row in
    let done = gone p session (take i rows) row other (drop (i + 1) rows) within (record { below = there.front; above = there.behind }) same set (subst AreRows old are) watched unused in
    let new : remove (slice_set rows i other) i ≡ take i rows ++ drop (i + 1) rows =
    ap (λ front. front ++ drop (suc i) (slice_set rows i other)) (take-set rows i other) ∙ ap (λ behind. take i rows ++ behind) (drop-set-lt (suc i) rows i other (omega arith) ∙ drop-next rows i) in
    subst (λ all. HasUnwatched p session all (remove (slice_set rows i other) i)) (sym old) (subst (λ all. HasUnwatched p session (take i rows ++ row ∷ drop (i + 1) rows) all) (sym new) done)
