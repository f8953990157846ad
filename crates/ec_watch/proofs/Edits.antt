-- What the edits of the table do to the lists that it stands for.
use Rattle.std.proofs.Common.{◌≡◌, ℕ, zero, suc, ◌+◌, ◌≤◌, ◌<◌, ◌≢◌, Bool, true, false, cond, not, ◌&&◌, ◌==◌, List, [], ◌∷◌, ◌++◌, map, filter, length, replicate, slice_set, slice_index_or, refl, sym, ap, subst, ◌∙◌, arith}
use Rattle.std.specs.List.{list_any, list_all}
use Rattle.std.specs.Ordering.{is_lt}
use Rattle.std.proofs.lemmas.Bool.{and_parts, and_from}
use Rattle.std.proofs.lemmas.List.{length-append, length-set, length-replicate, get_or_past, get_or-set_same, get_or-set_other}
use Rattle.std.proofs.lemmas.List.Folds.{list_all-append, list_any_at}
use Rattle.std.proofs.lemmas.Bool.{eqb-true, eq-eqb}
use Rattle.ec_lists.proofs.Filters.{length-filter_le}
use Rattle.ec_lists.proofs.Places.{get_or-copies}
use Rattle.ec_terms.specs.declared.ground.Ground.{Ground}
use Rattle.ec_terms.specs.Term.{term_cmp, term_eq}
use Rattle.ec_axioms.specs.Links.{with_property}
use Rattle.ec_rows.specs.Ordered.{is_ascending}
use Rattle.ec_commands.specs.declared.limits.TheConstants.{MOST_WATCHED, SESSIONS}
use Rattle.ec_watch.specs.declared.row.Row.{Row}
use Rattle.ec_watch.specs.Watched.{AreRows, HasWatched, HasUnwatched, comes_first, watched_by, is_watched_by, is_below, is_above, is_used, has_property, without_property}
use Rattle.ec_watch.proofs.Rows.{watched_by-append, list_all-watched_by, watched_by_each-set, with_property-between, has_property-between, has_property-there, without_property-between}

-- ---- one row among others

-- what a session watches, with a row in front of others
watched_by-front : (k : ℕ) (row : Row) (ys : List Row) → watched_by k (row ∷ ys) ≡ cond (is_watched_by k row) (row.prop ∷ []) [] ++ watched_by k ys
watched_by-front k row ys =
    elim (is_watched_by k row) as (λ b. map (λ (r : Row). r.prop) (cond b (row ∷ filter (is_watched_by k) ys) (filter (is_watched_by k) ys)) ≡ cond b (row.prop ∷ []) [] ++ watched_by k ys)
    [ true ↦ refl | false ↦ refl ]

-- and with a row between others
watched_by-between : (k : ℕ) (xs : List Row) (row : Row) (ys : List Row) → watched_by k (xs ++ row ∷ ys) ≡ watched_by k xs ++ (cond (is_watched_by k row) (row.prop ∷ []) [] ++ watched_by k ys)
watched_by-between k xs row ys = watched_by-append k xs (row ∷ ys) ∙ ap (λ rest. watched_by k xs ++ rest) (watched_by-front k row ys)

-- the order of rows is that of their properties
is_ascending-swap : (xs : List Row) (row other : Row) (ys : List Row) → other.prop ≡ row.prop → is_ascending comes_first (xs ++ row ∷ ys) ≡ true → is_ascending comes_first (xs ++ other ∷ ys) ≡ true
unfolding is_ascending
is_ascending-swap [] row other ys same ascend = subst (λ prop. list_all (λ (r : Row). is_lt (term_cmp prop r.prop)) ys && is_ascending comes_first ys ≡ true) (sym same) ascend
is_ascending-swap (x ∷ xs) row other ys same ascend =
    let parts = and_parts (list_all (comes_first x) (xs ++ row ∷ ys)) (is_ascending comes_first (xs ++ row ∷ ys)) ascend in
    let rest = is_ascending-swap xs row other ys same parts.1 in
    let old = list_all-append (comes_first x) xs (row ∷ ys) in
    let new = list_all-append (comes_first x) xs (other ∷ ys) in
    let here : comes_first x other ≡ comes_first x row = ap (λ prop. is_lt (term_cmp x.prop prop)) same in
    grind (arith, parts, rest, old, new, here)

-- a row comes in between those below it and those above it
is_ascending-between : (p : Ground) (xs : List Row) (row : Row) (ys : List Row) → row.prop ≡ p → list_all (is_below p) xs ≡ true → list_all (is_above p) ys ≡ true
    → is_ascending comes_first (xs ++ ys) ≡ true → is_ascending comes_first (xs ++ row ∷ ys) ≡ true
unfolding is_ascending
is_ascending-between p [] row ys same below above ascend = and_from (list_all (comes_first row) ys) (is_ascending comes_first ys) (subst (λ q. list_all (λ (r : Row). is_lt (term_cmp q r.prop)) ys ≡ true) (sym same) above) ascend
is_ascending-between p (x ∷ xs) row ys same below above ascend =
    let parts = and_parts (list_all (comes_first x) (xs ++ ys)) (is_ascending comes_first (xs ++ ys)) ascend in
    let under = and_parts (is_below p x) (list_all (is_below p) xs) below in
    let rest = is_ascending-between p xs row ys same under.1 above parts.1 in
    let old = list_all-append (comes_first x) xs ys in
    let new = list_all-append (comes_first x) xs (row ∷ ys) in
    let here : comes_first x row ≡ is_below p x = ap (λ q. is_lt (term_cmp x.prop q)) same in
    grind (arith, parts, under, rest, old, new, here)

-- without one of them the others are in order
is_ascending-without : (xs : List Row) (row : Row) (ys : List Row) → is_ascending comes_first (xs ++ row ∷ ys) ≡ true → is_ascending comes_first (xs ++ ys) ≡ true
unfolding is_ascending
is_ascending-without [] row ys ascend = (and_parts (list_all (comes_first row) ys) (is_ascending comes_first ys) ascend).1
is_ascending-without (x ∷ xs) row ys ascend =
    let parts = and_parts (list_all (comes_first x) (xs ++ row ∷ ys)) (is_ascending comes_first (xs ++ row ∷ ys)) ascend in
    let rest = is_ascending-without xs row ys parts.1 in
    let old = list_all-append (comes_first x) xs (row ∷ ys) in
    let new = list_all-append (comes_first x) xs ys in
    grind (arith, parts, rest, old, new)

-- ---- rows around a place

-- rows below a property and rows above it, and what a session watches among them
pub record IsAround (p : Ground) (xs ys : List Row) : Type 0 where
  pub below : list_all (is_below p) xs ≡ true
  pub above : list_all (is_above p) ys ≡ true

props_below : (p : Ground) (k : ℕ) (xs : List Row) → list_all (is_below p) xs ≡ true → list_all (λ q. is_lt (term_cmp q p)) (watched_by k xs) ≡ true
props_below p k xs below = list_all-watched_by (λ q. is_lt (term_cmp q p)) k xs below

props_above : (p : Ground) (k : ℕ) (ys : List Row) → list_all (is_above p) ys ≡ true → list_all (λ q. is_lt (term_cmp p q)) (watched_by k ys) ≡ true
props_above p k ys above = list_all-watched_by (λ q. is_lt (term_cmp p q)) k ys above

-- a session that watches the row between them watches its property there
watched_by-with : (p : Ground) (k : ℕ) (xs : List Row) (row : Row) (ys : List Row) → row.prop ≡ p → is_watched_by k row ≡ true → watched_by k (xs ++ row ∷ ys) ≡ watched_by k xs ++ p ∷ watched_by k ys
watched_by-with p k xs row ys same is =
    watched_by-between k xs row ys
    ∙ ap (λ b. watched_by k xs ++ (cond b (row.prop ∷ []) [] ++ watched_by k ys)) is
    ∙ ap (λ q. watched_by k xs ++ q ∷ watched_by k ys) same

-- and one that does not watches what it watches of the others
watched_by-others : (k : ℕ) (xs : List Row) (row : Row) (ys : List Row) → is_watched_by k row ≡ false → watched_by k (xs ++ row ∷ ys) ≡ watched_by k (xs ++ ys)
watched_by-others k xs row ys is =
    watched_by-between k xs row ys
    ∙ ap (λ b. watched_by k xs ++ (cond b (row.prop ∷ []) [] ++ watched_by k ys)) is
    ∙ sym (watched_by-append k xs ys)

-- the property is watched if the row between them is
pub has_property-row : (p : Ground) (k : ℕ) (xs : List Row) (row : Row) (ys : List Row) → IsAround p xs ys → row.prop ≡ p
    → has_property p (watched_by k (xs ++ row ∷ ys)) ≡ is_watched_by k row
has_property-row p k xs row ys around same = by_test (is_watched_by k row) refl
  where
    by_test : (b : Bool) → is_watched_by k row ≡ b → has_property p (watched_by k (xs ++ row ∷ ys)) ≡ is_watched_by k row
    by_test true is = ap (has_property p) (watched_by-with p k xs row ys same is) ∙ has_property-there p (watched_by k xs) (watched_by k ys) ∙ sym is
    by_test false is =
        ap (has_property p) (watched_by-others k xs row ys is ∙ watched_by-append k xs ys)
        ∙ has_property-between p (watched_by k xs) (watched_by k ys) (props_below p k xs around.below) (props_above p k ys around.above) ∙ sym is

-- and it is not where no row is between them
pub has_property-none : (p : Ground) (k : ℕ) (xs ys : List Row) → IsAround p xs ys → has_property p (watched_by k (xs ++ ys)) ≡ false
has_property-none p k xs ys around =
    ap (has_property p) (watched_by-append k xs ys)
    ∙ has_property-between p (watched_by k xs) (watched_by k ys) (props_below p k xs around.below) (props_above p k ys around.above)

-- with the row a session watches one property more
watched_by-more : (p : Ground) (k : ℕ) (xs : List Row) (row : Row) (ys : List Row) → IsAround p xs ys → row.prop ≡ p → is_watched_by k row ≡ true
    → watched_by k (xs ++ row ∷ ys) ≡ with_property p (watched_by k (xs ++ ys))
watched_by-more p k xs row ys around same is =
    watched_by-with p k xs row ys same is
    ∙ sym (ap (with_property p) (watched_by-append k xs ys)
    ∙ with_property-between p (watched_by k xs) (watched_by k ys) (props_below p k xs around.below) (props_above p k ys around.above))

-- and without it one property less
watched_by-less : (p : Ground) (k : ℕ) (xs : List Row) (row : Row) (ys : List Row) → IsAround p xs ys → row.prop ≡ p → is_watched_by k row ≡ true
    → watched_by k (xs ++ ys) ≡ without_property p (watched_by k (xs ++ row ∷ ys))
watched_by-less p k xs row ys around same is =
    watched_by-append k xs ys
    ∙ sym (ap (without_property p) (watched_by-with p k xs row ys same is)
    ∙ without_property-between p (watched_by k xs) (watched_by k ys) (props_below p k xs around.below) (props_above p k ys around.above))

-- how many that is
length-watched_by-more : (p : Ground) (k : ℕ) (xs : List Row) (row : Row) (ys : List Row) → row.prop ≡ p → is_watched_by k row ≡ true
    → length (watched_by k (xs ++ row ∷ ys)) ≡ length (watched_by k (xs ++ ys)) + 1
length-watched_by-more p k xs row ys same is =
    let more = watched_by-with p k xs row ys same is in let both = watched_by-append k xs ys in
    let longer = length-append (watched_by k xs) (p ∷ watched_by k ys) in let shorter = length-append (watched_by k xs) (watched_by k ys) in
    grind (arith, more, both, longer, shorter)

-- ---- the edits

-- a row's place for a session, after it is set
is_watched_by-set : (row other : Row) (session : ℕ) (watches : Bool) → length row.sessions ≡ SESSIONS → session < SESSIONS → other.sessions ≡ slice_set row.sessions session watches
    → (is_watched_by session other ≡ watches) × ((k : ℕ) → k ≢ session → is_watched_by k other ≡ is_watched_by k row)
is_watched_by-set row other session watches places within set = (
  ap (λ bits. slice_index_or bits session false) set ∙ get_or-set_same row.sessions session watches false (subst (λ n. session < n) (sym places) within),
  λ k apart. ap (λ bits. slice_index_or bits k false) set ∙ get_or-set_other row.sessions session k watches false apart,
)

-- a row among others has a place for each session
row_places : (xs : List Row) (row : Row) (ys : List Row) → list_all is_used (xs ++ row ∷ ys) ≡ true → length row.sessions ≡ SESSIONS
row_places xs row ys used =
    let all = list_all-append is_used xs (row ∷ ys) in
    let parts = and_parts (list_all is_used xs) (list_all is_used (row ∷ ys)) (sym all ∙ used) in
    let own = and_parts (is_used row) (list_all is_used ys) parts.1 in
    let two = and_parts (list_any (λ watches. watches) row.sessions) (length row.sessions == SESSIONS) own.0 in
    eqb-true (length row.sessions) SESSIONS two.1

-- one row in the place of another keeps what the others are
used-swap : (xs : List Row) (row other : Row) (ys : List Row) → list_all is_used (xs ++ row ∷ ys) ≡ true → is_used other ≡ true → list_all is_used (xs ++ other ∷ ys) ≡ true
used-swap xs row other ys used own =
    let old = list_all-append is_used xs (row ∷ ys) in let new = list_all-append is_used xs (other ∷ ys) in
    let parts = and_parts (list_all is_used xs) (list_all is_used (row ∷ ys)) (sym old ∙ used) in
    let rest = and_parts (is_used row) (list_all is_used ys) parts.1 in grind (arith, new, parts, rest, own)

-- a row of which a session's place is set
used-set : (row other : Row) (session : ℕ) → length row.sessions ≡ SESSIONS → session < SESSIONS → other.sessions ≡ slice_set row.sessions session true → is_used other ≡ true
used-set row other session places within set =
    let bits = is_watched_by-set row other session true places within set in
    let long : length other.sessions ≡ SESSIONS = ap length set ∙ length-set row.sessions session true ∙ places in
    and_from (list_any (λ watches. watches) other.sessions) (length other.sessions == SESSIONS) (list_any_at (λ watches. watches) other.sessions session false (subst (λ n. session < n) (sym long) within) bits.0) (eq-eqb (length other.sessions) SESSIONS long)

-- of a row that is another one's to all but one session, the others watch the same
watched_by-same : (k : ℕ) (xs : List Row) (row other : Row) (ys : List Row) → other.prop ≡ row.prop → is_watched_by k other ≡ is_watched_by k row
    → watched_by k (xs ++ other ∷ ys) ≡ watched_by k (xs ++ row ∷ ys)
watched_by-same k xs row other ys same bit =
    watched_by-between k xs other ys
    ∙ ap (λ b. watched_by k xs ++ (cond b (other.prop ∷ []) [] ++ watched_by k ys)) bit
    ∙ ap (λ q. watched_by k xs ++ (cond (is_watched_by k row) (q ∷ []) [] ++ watched_by k ys)) same
    ∙ sym (watched_by-between k xs row ys)

-- no session watches more than it may, where one that could watch one more does so, and the others watch what they did
few-more : (old new : List Row) (session : ℕ) → ((k : ℕ) → k < SESSIONS → length (watched_by k old) ≤ MOST_WATCHED) → length (watched_by session new) ≤ MOST_WATCHED
    → ((k : ℕ) → k < SESSIONS → k ≢ session → watched_by k new ≡ watched_by k old) → (k : ℕ) → k < SESSIONS → length (watched_by k new) ≤ MOST_WATCHED
few-more old new session few own others k within = by_test (k == session) refl
  where
    by_test : (b : Bool) → (k == session) ≡ b → length (watched_by k new) ≤ MOST_WATCHED
    by_test true is = subst (λ n. length (watched_by n new) ≤ MOST_WATCHED) (sym (eqb-true k session is)) own
    by_test false is =
        let apart : k ≢ session = λ same. absurd (let no = sym is ∙ eq-eqb k session same in cc) in
        subst (λ props. length props ≤ MOST_WATCHED) (sym (others k within apart)) (few k within)

-- a session's place of a watched row is set
pub joined : (p : Ground) (session : ℕ) (xs : List Row) (row other : Row) (ys : List Row) → session < SESSIONS → IsAround p xs ys → row.prop ≡ p → other.prop ≡ row.prop
    → other.sessions ≡ slice_set row.sessions session true → AreRows (xs ++ row ∷ ys) → is_watched_by session row ≡ false → length (watched_by session (xs ++ row ∷ ys)) < MOST_WATCHED
    → HasWatched p session (xs ++ row ∷ ys) (xs ++ other ∷ ys)
joined p session xs row other ys within around same kept set are unwatched was_few =
    let places = row_places xs row ys are.used in
    let bits = is_watched_by-set row other session true places within set in
    let without = watched_by-others session xs row ys unwatched in
    let own : watched_by session (xs ++ other ∷ ys) ≡ with_property p (watched_by session (xs ++ row ∷ ys)) =
    watched_by-more p session xs other ys around (kept ∙ same) bits.0 ∙ ap (with_property p) (sym without) in
    let others : (k : ℕ) → k < SESSIONS → k ≢ session → watched_by k (xs ++ other ∷ ys) ≡ watched_by k (xs ++ row ∷ ys) =
    λ k low apart. watched_by-same k xs row other ys kept (bits.1 k apart) in
    let longer = length-watched_by-more p session xs other ys (kept ∙ same) bits.0 in
    record {
      rows = record {
        ascend = is_ascending-swap xs row other ys kept are.ascend;
        used = used-swap xs row other ys are.used (used-set row other session places within set);
        few = few-more (xs ++ row ∷ ys) (xs ++ other ∷ ys) session are.few (let shorter = ap length without in omega (arith, longer, shorter, was_few)) others;
      };
      lists = watched_by_each-set (xs ++ row ∷ ys) (xs ++ other ∷ ys) session (with_property p (watched_by session (xs ++ row ∷ ys))) within own others;
      new_one = has_property-row p session xs row ys around same ∙ unwatched;
      was_few = was_few;
    }

-- a new row's place for a session
is_watched_by-new : (row : Row) (session : ℕ) → session < SESSIONS → row.sessions ≡ slice_set (replicate SESSIONS false) session true
    → (is_watched_by session row ≡ true) × ((k : ℕ) → k ≢ session → is_watched_by k row ≡ false)
is_watched_by-new row session within set =
    let none : Row = record { prop = row.prop; sessions = replicate SESSIONS false } in
    let bits = is_watched_by-set none row session true (length-replicate SESSIONS false) within set in
    (bits.0, λ k apart. bits.1 k apart ∙ get_or-copies SESSIONS k false)

-- a row comes in
pub entered : (p : Ground) (session : ℕ) (xs : List Row) (row : Row) (ys : List Row) → session < SESSIONS → IsAround p xs ys → row.prop ≡ p
    → row.sessions ≡ slice_set (replicate SESSIONS false) session true → AreRows (xs ++ ys) → length (watched_by session (xs ++ ys)) < MOST_WATCHED
    → HasWatched p session (xs ++ ys) (xs ++ row ∷ ys)
entered p session xs row ys within around same set are was_few =
    let none : Row = record { prop = row.prop; sessions = replicate SESSIONS false } in
    let bits = is_watched_by-new row session within set in
    let own = watched_by-more p session xs row ys around same bits.0 in
    let others : (k : ℕ) → k < SESSIONS → k ≢ session → watched_by k (xs ++ row ∷ ys) ≡ watched_by k (xs ++ ys) =
    λ k low apart. watched_by-others k xs row ys (bits.1 k apart) in
    let longer = length-watched_by-more p session xs row ys same bits.0 in
    let all = list_all-append is_used xs ys in let more = list_all-append is_used xs (row ∷ ys) in
    let parts = and_parts (list_all is_used xs) (list_all is_used ys) (sym all ∙ are.used) in
    let used = used-set none row session (length-replicate SESSIONS false) within set in
    record {
      rows = record {
        ascend = is_ascending-between p xs row ys same around.below around.above are.ascend;
        used = grind (arith, more, parts, used);
        few = few-more (xs ++ ys) (xs ++ row ∷ ys) session are.few (omega (arith, longer, was_few)) others;
      };
      lists = watched_by_each-set (xs ++ ys) (xs ++ row ∷ ys) session (with_property p (watched_by session (xs ++ ys))) within own others;
      new_one = has_property-none p session xs ys around;
      was_few = was_few;
    }

-- of a row that no session watches each place is clear
unused_by : (row : Row) (k : ℕ) → list_any (λ watches. watches) row.sessions ≡ false → is_watched_by k row ≡ false
unused_by row k unused = by_bits row.sessions k unused
  where
    by_bits : (bits : List Bool) (k : ℕ) → list_any (λ watches. watches) bits ≡ false → slice_index_or bits k false ≡ false
    by_bits [] k none = get_or_past [] k false (omega arith)
    by_bits (false ∷ bits) zero none = refl
    by_bits (false ∷ bits) (suc k) none = by_bits bits k none
    by_bits (true ∷ bits) k none = absurd (cc)

-- a list without a property is no longer than it was
left_few : (old new : List Row) (session : ℕ) (p : Ground) → AreRows old → session < SESSIONS → watched_by session new ≡ without_property p (watched_by session old)
    → ((k : ℕ) → k < SESSIONS → k ≢ session → watched_by k new ≡ watched_by k old) → (k : ℕ) → k < SESSIONS → length (watched_by k new) ≤ MOST_WATCHED
left_few old new session p are within own others =
    let was = are.few session within in
    let fewer = length-filter_le (λ q. not (term_eq p q)) (watched_by session old) in
    let same = ap length own in few-more old new session are.few (omega (arith, was, fewer, same)) others

-- a session's place of a row that others watch is cleared
pub left : (p : Ground) (session : ℕ) (xs : List Row) (row other : Row) (ys : List Row) → session < SESSIONS → IsAround p xs ys → row.prop ≡ p → other.prop ≡ row.prop
    → other.sessions ≡ slice_set row.sessions session false → AreRows (xs ++ row ∷ ys) → is_watched_by session row ≡ true → list_any (λ watches. watches) other.sessions ≡ true
    → HasUnwatched p session (xs ++ row ∷ ys) (xs ++ other ∷ ys)
left p session xs row other ys within around same kept set are watched used =
    let places = row_places xs row ys are.used in
    let bits = is_watched_by-set row other session false places within set in
    let own : watched_by session (xs ++ other ∷ ys) ≡ without_property p (watched_by session (xs ++ row ∷ ys)) =
    watched_by-others session xs other ys bits.0 ∙ watched_by-less p session xs row ys around same watched in
    let others : (k : ℕ) → k < SESSIONS → k ≢ session → watched_by k (xs ++ other ∷ ys) ≡ watched_by k (xs ++ row ∷ ys) =
    λ k low apart. watched_by-same k xs row other ys kept (bits.1 k apart) in
    let long : length other.sessions ≡ SESSIONS = ap length set ∙ length-set row.sessions session false ∙ places in
    record {
      rows = record {
        ascend = is_ascending-swap xs row other ys kept are.ascend;
        used = used-swap xs row other ys are.used (and_from (list_any (λ watches. watches) other.sessions) (length other.sessions == SESSIONS) used (eq-eqb (length other.sessions) SESSIONS long));
        few = left_few (xs ++ row ∷ ys) (xs ++ other ∷ ys) session p are within own others;
      };
      lists = watched_by_each-set (xs ++ row ∷ ys) (xs ++ other ∷ ys) session (without_property p (watched_by session (xs ++ row ∷ ys))) within own others;
      was_watched = has_property-row p session xs row ys around same ∙ watched;
    }

-- a row that no other session watches goes
pub gone : (p : Ground) (session : ℕ) (xs : List Row) (row other : Row) (ys : List Row) → session < SESSIONS → IsAround p xs ys → row.prop ≡ p
    → other.sessions ≡ slice_set row.sessions session false → AreRows (xs ++ row ∷ ys) → is_watched_by session row ≡ true → list_any (λ watches. watches) other.sessions ≡ false
    → HasUnwatched p session (xs ++ row ∷ ys) (xs ++ ys)
gone p session xs row other ys within around same set are watched unused =
    let places = row_places xs row ys are.used in
    let bits = is_watched_by-set row other session false places within set in
    let own = watched_by-less p session xs row ys around same watched in
    let others : (k : ℕ) → k < SESSIONS → k ≢ session → watched_by k (xs ++ ys) ≡ watched_by k (xs ++ row ∷ ys) =
    λ k low apart. sym (watched_by-others k xs row ys (sym (bits.1 k apart) ∙ unused_by other k unused)) in
    let all = list_all-append is_used xs (row ∷ ys) in let fewer = list_all-append is_used xs ys in
    let parts = and_parts (list_all is_used xs) (list_all is_used (row ∷ ys)) (sym all ∙ are.used) in
    let rest = and_parts (is_used row) (list_all is_used ys) parts.1 in
    record {
      rows = record {
        ascend = is_ascending-without xs row ys are.ascend;
        used = grind (arith, fewer, parts, rest);
        few = left_few (xs ++ row ∷ ys) (xs ++ ys) session p are within own others;
      };
      lists = watched_by_each-set (xs ++ row ∷ ys) (xs ++ ys) session (without_property p (watched_by session (xs ++ row ∷ ys))) within own others;
      was_watched = has_property-row p session xs row ys around same ∙ watched;
    }
