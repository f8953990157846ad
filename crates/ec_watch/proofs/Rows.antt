-- The table of watched properties, and the lists that it stands for.
use Rattle.std.proofs.Common.{◌≡◌, ℕ, zero, suc, ◌+◌, ◌≤◌, ◌<◌, ◌*◌, ◌≢◌, Bool, true, false, cond, ◌==◌, List, [], ◌∷◌, ◌++◌, map, filter, length, replicate, slice_set, slice_index_or, refl, sym, ap, ◌∙◌, arith}
use Rattle.std.specs.List.{range_with_len, list_any, list_all, sum_by}
use Rattle.std.specs.Ordering.{is_lt}
use Rattle.std.specs.declared.cmp.Ordering.{Ordering}
use Rattle.std.specs.declared.cmp.Ordering.TheVariants.{Less, Equal, Greater}
use Rattle.std.proofs.lemmas.List.{map-append}
use Rattle.std.proofs.lemmas.List.Elements.{filter-append}
use Rattle.std.proofs.lemmas.List.Folds.{list_all-map}
use Rattle.std.proofs.lemmas.List.FromFn.{get_or-map-range_with_len}
use Rattle.std.proofs.lemmas.Bool.{and_parts, eqb-true}
use Rattle.std.proofs.lemmas.List.Sums.{sum_by-cons}
use Rattle.ec_lists.proofs.Filters.{filter-not_any}
use Rattle.ec_lists.proofs.Tests.{list_all-filter}
use Rattle.ec_terms.specs.declared.ground.Ground.{Ground}
use Rattle.ec_terms.specs.Term.{term_cmp, term_eq}
use Rattle.ec_terms.proofs.OrderLemmas.{term_cmp-total, term_cmp-Equal, term_eq-Decides}
use Rattle.ec_axioms.specs.Links.{with_property}
use Rattle.ec_rows.specs.Ordered.{is_ascending}
use Rattle.ec_commands.specs.declared.limits.TheConstants.{MOST_WATCHED, SESSIONS}
use Rattle.ec_watch.specs.declared.row.Row.{Row}
use Rattle.ec_watch.specs.Watched.{watched_by, watched_by_each, watched_in, is_watched_by, is_used, has_property, without_property, AreRows}

-- ---- one list for each session

-- a function that is always the same gives as many copies
map-same : (Y : Type 0) (y : Y) (a n : ℕ) → map (λ x. y) (range_with_len a n) ≡ replicate n y
map-same Y y a zero = refl
map-same Y y a (suc n) = ap (λ ys. y ∷ ys) (map-same Y y (a + 1) n)

-- nothing is watched where the table has no row
pub watched_by_each-none : watched_by_each [] ≡ replicate SESSIONS []
unfolding watched_by_each
watched_by_each-none = map-same (List Ground) [] 0 SESSIONS

-- functions that agree give the same list
map-agree : {X : Type 0} (f g : ℕ → X) (a n : ℕ) → ((k : ℕ) → a ≤ k → k < a + n → g k ≡ f k) → map g (range_with_len a n) ≡ map f (range_with_len a n)
map-agree f g a zero agree = refl
map-agree f g a (suc n) agree =
    let here : g a ≡ f a = agree a (omega arith) (omega arith) in
    let rest = map-agree f g (a + 1) n (λ k low high. agree k (omega (arith, low)) (omega (arith, high))) in
    grind (arith, here, rest)

-- functions that agree but at one number give lists that agree but at its place
map-slice_set : {X : Type 0} (f g : ℕ → X) (a n i : ℕ) → ((k : ℕ) → a ≤ k → k < a + n → k ≢ a + i → g k ≡ f k)
    → i < n → map g (range_with_len a n) ≡ slice_set (map f (range_with_len a n)) i (g (a + i))
map-slice_set f g a zero i agree within = absurd (omega (arith, within))
map-slice_set f g a (suc n) zero agree within =
    let rest : map g (range_with_len (a + 1) n) ≡ map f (range_with_len (a + 1) n) = map-agree f g (a + 1) n (λ k low high. agree k (omega (arith, low)) (omega (arith, high)) (λ same. omega (arith, same, low))) in
    let here : g (a + 0) ≡ g a = ap g (omega arith) in grind (arith, rest, here)
map-slice_set f g a (suc n) (suc i) agree within =
    let here : g a ≡ f a = agree a (omega arith) (omega arith) (λ same. omega (arith, same)) in
    let place : a + 1 + i ≡ a + suc i = omega arith in
    let rest = map-slice_set f g (a + 1) n i (λ k low high other. agree k (omega (arith, low)) (omega (arith, high)) (λ same. other (same ∙ sym place))) (omega (arith, within)) in
    grind (arith, here, place, rest)

-- what a session watches, among the lists of all
pub watched_in-each : (rows : List Row) (session : ℕ) → session < SESSIONS → watched_in (watched_by_each rows) session ≡ watched_by session rows
unfolding watched_by_each
watched_in-each rows session within = get_or-map-range_with_len (λ k. watched_by k rows) 0 SESSIONS session session [] within (omega arith)

-- where one session watches other properties, its list alone is another
pub watched_by_each-set : (old new : List Row) (session : ℕ) (props : List Ground) → session < SESSIONS → watched_by session new ≡ props
    → ((k : ℕ) → k < SESSIONS → k ≢ session → watched_by k new ≡ watched_by k old) → watched_by_each new ≡ slice_set (watched_by_each old) session props
unfolding watched_by_each
watched_by_each-set old new session props within own others =
    let at_place : 0 + session ≡ session = omega arith in
    let all = map-slice_set (λ k. watched_by k old) (λ k. watched_by k new) 0 SESSIONS session (λ k low high other. others k (omega (arith, high)) (λ same. other (same ∙ sym at_place))) within in
    let at : watched_by (0 + session) new ≡ watched_by session new = ap (λ k. watched_by k new) (omega arith) in
    all ∙ ap (slice_set (map (λ k. watched_by k old) (range_with_len 0 SESSIONS)) session) (at ∙ own)

-- ---- a property among the properties of a session

-- what is below a property is not it, and it is not below that
is_lt-other : (p q : Ground) → is_lt (term_cmp q p) ≡ true → (term_eq p q ≡ false) × (is_lt (term_cmp p q) ≡ false)
is_lt-other p q below = by_order (term_cmp q p) refl
  where
    by_order : (r : Ordering) → term_cmp q p ≡ r → (term_eq p q ≡ false) × (is_lt (term_cmp p q) ≡ false)
    by_order Less is = (grind (arith, is, term_cmp-total.antisymm p q, term_cmp-Equal p q, term_eq-Decides p q), grind (arith, is, term_cmp-total.antisymm p q))
    by_order Equal is = absurd (grind (arith, is, below))
    by_order Greater is = absurd (grind (arith, is, below))

-- of two that differ by the order neither is the other
is_lt-apart : (p q : Ground) → is_lt (term_cmp p q) ≡ true → term_eq p q ≡ false
is_lt-apart p q below = by_order (term_cmp p q) refl
  where
    by_order : (r : Ordering) → term_cmp p q ≡ r → term_eq p q ≡ false
    by_order Less is = grind (arith, is, term_cmp-Equal p q, term_eq-Decides p q)
    by_order Equal is = absurd (grind (arith, is, below))
    by_order Greater is = absurd (grind (arith, is, below))

-- a property is itself
term_eq-itself : (p : Ground) → term_eq p p ≡ true
term_eq-itself p = (term_eq-Decides p p).1 refl

-- it comes in between those below it and those above it
pub with_property-between : (p : Ground) (xs ys : List Ground) → list_all (λ q. is_lt (term_cmp q p)) xs ≡ true → list_all (λ q. is_lt (term_cmp p q)) ys ≡ true
    → with_property p (xs ++ ys) ≡ xs ++ p ∷ ys
with_property-between p [] [] below above = refl
with_property-between p [] (y ∷ ys) below above =
    let parts = and_parts (is_lt (term_cmp p y)) (list_all (λ q. is_lt (term_cmp p q)) ys) above in
    let apart = is_lt-apart p y parts.0 in grind (arith, parts, apart)
with_property-between p (x ∷ xs) ys below above =
    let parts = and_parts (is_lt (term_cmp x p)) (list_all (λ q. is_lt (term_cmp q p)) xs) below in
    let other = is_lt-other p x parts.0 in
    let rest = with_property-between p xs ys parts.1 above in grind (arith, parts, other, rest)

-- none of those below it or above it is it
pub has_property-between : (p : Ground) (xs ys : List Ground) → list_all (λ q. is_lt (term_cmp q p)) xs ≡ true → list_all (λ q. is_lt (term_cmp p q)) ys ≡ true
    → has_property p (xs ++ ys) ≡ false
has_property-between p [] [] below above = refl
has_property-between p [] (y ∷ ys) below above =
    let parts = and_parts (is_lt (term_cmp p y)) (list_all (λ q. is_lt (term_cmp p q)) ys) above in
    let apart = is_lt-apart p y parts.0 in
    let rest = has_property-between p [] ys below parts.1 in grind (arith, parts, apart, rest)
has_property-between p (x ∷ xs) ys below above =
    let parts = and_parts (is_lt (term_cmp x p)) (list_all (λ q. is_lt (term_cmp q p)) xs) below in
    let other = is_lt-other p x parts.0 in
    let rest = has_property-between p xs ys parts.1 above in grind (arith, parts, other, rest)

-- it is found where it stands
pub has_property-there : (p : Ground) (xs ys : List Ground) → has_property p (xs ++ p ∷ ys) ≡ true
has_property-there p [] ys = let same = term_eq-itself p in grind (arith, same)
has_property-there p (x ∷ xs) ys = let rest = has_property-there p xs ys in grind (arith, rest)

-- taken out from between them it leaves them
pub without_property-between : (p : Ground) (xs ys : List Ground) → list_all (λ q. is_lt (term_cmp q p)) xs ≡ true → list_all (λ q. is_lt (term_cmp p q)) ys ≡ true
    → without_property p (xs ++ p ∷ ys) ≡ xs ++ ys
without_property-between p [] ys below above =
    let none = has_property-between p [] ys refl above in
    let same = term_eq-itself p in
    let rest = filter-not_any (term_eq p) ys none in grind (arith, same, rest)
without_property-between p (x ∷ xs) ys below above =
    let parts = and_parts (is_lt (term_cmp x p)) (list_all (λ q. is_lt (term_cmp q p)) xs) below in
    let other = is_lt-other p x parts.0 in
    let rest = without_property-between p xs ys parts.1 above in grind (arith, parts, other, rest)

-- ---- the properties of a session among the rows

-- rows one behind another
pub watched_by-append : (session : ℕ) (xs ys : List Row) → watched_by session (xs ++ ys) ≡ watched_by session xs ++ watched_by session ys
watched_by-append session xs ys =
    ap (map (λ (row : Row). row.prop)) (filter-append (is_watched_by session) xs ys)
    ∙ map-append (λ (row : Row). row.prop) (filter (is_watched_by session) xs) (filter (is_watched_by session) ys)

-- what holds of the properties of all rows holds of those that a session watches
pub list_all-watched_by : (test : Ground → Bool) (session : ℕ) (rows : List Row) → list_all (λ (row : Row). test row.prop) rows ≡ true
    → list_all test (watched_by session rows) ≡ true
list_all-watched_by test session rows all =
    list_all-map test (λ (row : Row). row.prop) (filter (is_watched_by session) rows)
    ∙ list_all-filter (λ (row : Row). test row.prop) (is_watched_by session) rows all

-- ---- no more rows than watches

-- a sum of two terms each is the sum of both sums
sum_by-both : {X : Type 0} (f g : X → ℕ) (xs : List X) → sum_by (λ x. f x + g x) xs ≡ sum_by f xs + sum_by g xs
sum_by-both f g [] = refl
sum_by-both f g (x ∷ xs) =
    let rest = sum_by-both f g xs in
    let both = sum_by-cons (λ y. f y + g y) x xs in let one = sum_by-cons f x xs in let other = sum_by-cons g x xs in grind (arith, rest, both, one, other)

-- a sum where one of some numbers counts is not nothing
sum_by-some : (bits : List Bool) (a n : ℕ) (f : ℕ → ℕ) → length bits ≤ n → ((i : ℕ) → i < length bits → f (a + i) ≡ cond (slice_index_or bits i false) 1 0)
    → list_any (λ bit. bit) bits ≡ true → 1 ≤ sum_by f (range_with_len a n)
sum_by-some [] a n f few each some = absurd (cc)
sum_by-some (bit ∷ bits) a zero f few each some = absurd (omega (arith, few))
sum_by-some (true ∷ bits) a (suc n) f few each some =
    let here : f (a + 0) ≡ 1 = each 0 (omega arith) in
    let at : f (a + 0) ≡ f a = ap f (omega arith) in
    let sum = sum_by-cons f a (range_with_len (a + 1) n) in grind (arith, here, at, sum)
sum_by-some (false ∷ bits) a (suc n) f few each some =
    let rest = sum_by-some bits (a + 1) n f (omega (arith, few)) (λ i within. ap f (omega arith) ∙ each (suc i) (omega (arith, within))) some in
    let sum = sum_by-cons f a (range_with_len (a + 1) n) in grind (arith, rest, sum)

-- equal terms have one sum
sum_by-agree : {X : Type 0} (f g : X → ℕ) (xs : List X) → ((x : X) → f x ≡ g x) → sum_by f xs ≡ sum_by g xs
sum_by-agree f g [] agree = refl
sum_by-agree f g (x ∷ xs) agree =
    let rest = sum_by-agree f g xs agree in let here = agree x in
    let one = sum_by-cons f x xs in let other = sum_by-cons g x xs in grind (arith, rest, here, one, other)

-- a row counts for some session
row_counts : (row : Row) → is_used row ≡ true → 1 ≤ sum_by (λ k. cond (is_watched_by k row) 1 0) (range_with_len 0 SESSIONS)
row_counts row used =
    let parts = and_parts (list_any (λ bit. bit) row.sessions) (length row.sessions == SESSIONS) used in
    let places : length row.sessions ≡ SESSIONS = eqb-true (length row.sessions) SESSIONS parts.1 in
    sum_by-some row.sessions 0 SESSIONS (λ k. cond (is_watched_by k row) 1 0) (omega (arith, places)) (λ i within. ap (λ k. cond (is_watched_by k row) 1 0) (omega arith)) parts.0

-- with one row more a session watches one property more, if it is one of the row's
length-watched_by : (k : ℕ) (row : Row) (rows : List Row) → length (watched_by k (row ∷ rows)) ≡ cond (is_watched_by k row) 1 0 + length (watched_by k rows)
length-watched_by k row rows = by_test (is_watched_by k row) refl
  where
    by_test : (b : Bool) → is_watched_by k row ≡ b → length (watched_by k (row ∷ rows)) ≡ cond (is_watched_by k row) 1 0 + length (watched_by k rows)
    by_test true is = grind (arith, is)
    by_test false is = grind (arith, is)

-- there are no more rows than watches
rows_are_watched : (rows : List Row) → list_all is_used rows ≡ true → length rows ≤ sum_by (λ k. length (watched_by k rows)) (range_with_len 0 SESSIONS)
rows_are_watched [] used = omega arith
rows_are_watched (row ∷ rows) used =
    let parts = and_parts (is_used row) (list_all is_used rows) used in
    let rest = rows_are_watched rows parts.1 in
    let here = row_counts row parts.0 in
    let sum = sum_by-agree (λ k. length (watched_by k (row ∷ rows))) (λ k. cond (is_watched_by k row) 1 0 + length (watched_by k rows)) (range_with_len 0 SESSIONS) (λ k. length-watched_by k row rows) in
    let both = sum_by-both (λ k. cond (is_watched_by k row) 1 0) (λ k. length (watched_by k rows)) (range_with_len 0 SESSIONS) in
    grind (arith, rest, here, sum, both)

-- a sum of terms that are at most so great, over the numbers of a range
sum_by-few : (f : ℕ → ℕ) (m a n : ℕ) → ((k : ℕ) → k < a + n → f k ≤ m) → sum_by f (range_with_len a n) ≤ n * m
sum_by-few f m a zero few = omega arith
sum_by-few f m a (suc n) few =
    let here = few a (omega arith) in
    let rest = sum_by-few f m (a + 1) n (λ k within. few k (omega (arith, within))) in
    let sum = sum_by-cons f a (range_with_len (a + 1) n) in
    let product : suc n * m ≡ m + n * m = grind arith in omega (arith, here, rest, sum, product)

-- so there are at most so many
pub length-rows : (rows : List Row) → AreRows rows → length rows ≤ SESSIONS * MOST_WATCHED
length-rows rows are =
    let all = rows_are_watched rows are.used in
    let few = sum_by-few (λ k. length (watched_by k rows)) MOST_WATCHED 0 SESSIONS (λ k within. are.few k (omega (arith, within))) in omega (arith, all, few)

-- no row is in order
pub AreRows-none : AreRows []
unfolding is_ascending
AreRows-none = record { ascend = refl; used = refl; few = λ k within. omega arith }
