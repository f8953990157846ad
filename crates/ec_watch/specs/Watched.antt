-- What each session watches, and how that is kept: a row for each watched property, in term order, with the sessions that watch it.
use Rattle.std.specs.Prelude.{◌≡◌, ◌≢◌, ◌≤◌, ◌<◌, ◌+◌, ◌&&◌, ◌==◌, ℕ, Bool, true, false, not, List, [], map, filter, length, take, drop, get_or, slice_get, slice_index_or, slice_set, Some, IsTrue}
use Rattle.std.specs.List.{range_with_len, list_any, list_all}
use Rattle.std.specs.Ordering.{is_lt}
use Rattle.ec_terms.specs.declared.ground.Ground.{Ground}
use Rattle.ec_terms.specs.Term.{term_cmp, term_eq}
use Rattle.ec_axioms.specs.Links.{with_property}
use Rattle.ec_rows.specs.Ordered.{is_ascending}
use Rattle.ec_commands.specs.declared.limits.TheConstants.{MOST_WATCHED, SESSIONS}
use Rattle.ec_watch.specs.declared.row.Row.{Row}
use Rattle.ec_watch.specs.declared.watches.WatchRefusal.{WatchRefusal}
use Rattle.ec_watch.specs.declared.watches.WatchRefusal.TheVariants.{Watched, Full}

-- ---- what is watched

-- what a session watches, among the lists of all
abbrev pub watched_in : List (List Ground) → ℕ → List Ground
watched_in watches session = slice_index_or watches session []

-- a property is among them
abbrev pub has_property : Ground → List Ground → Bool
has_property p props = list_any (term_eq p) props

-- the list without a property
abbrev pub without_property : Ground → List Ground → List Ground
without_property p props = filter (λ q. not (term_eq p q)) props

-- ---- how it is kept

-- a session watches the property of a row
abbrev pub is_watched_by : ℕ → Row → Bool
is_watched_by session row = slice_index_or row.sessions session false

-- the properties that a session watches
abbrev pub watched_by : ℕ → List Row → List Ground
watched_by session rows = map (λ (row : Row). row.prop) (filter (is_watched_by session) rows)

-- the lists of all sessions
unfoldable pub watched_by_each : List Row → List (List Ground)
watched_by_each rows = map (λ session. watched_by session rows) (range_with_len 0 SESSIONS)

-- the property of a row comes before that of another
abbrev pub comes_first : Row → Row → Bool
comes_first row other = is_lt (term_cmp row.prop other.prop)

-- a row stands in front of a property in term order, and behind it
abbrev pub is_below : Ground → Row → Bool
is_below p row = is_lt (term_cmp row.prop p)

abbrev pub is_above : Ground → Row → Bool
is_above p row = is_lt (term_cmp p row.prop)

-- some session watches the property of a row, which has a place for each
abbrev pub is_used : Row → Bool
is_used row = list_any (λ watches. watches) row.sessions && (length row.sessions == SESSIONS)

-- the rows are in term order, each with some session, and no session watches more properties than it may
pub record AreRows (rows : List Row) : Type 0 where
  pub ascend : IsTrue (is_ascending comes_first rows)
  pub used : IsTrue (list_all is_used rows)
  pub few : (session : ℕ) → session < SESSIONS → length (watched_by session rows) ≤ MOST_WATCHED

-- the row at a place is that of a property
pub record IsThere (p : Ground) (rows : List Row) (i : ℕ) : Type 0 where
  pub within : i < length rows
  pub front : IsTrue (list_all (is_below p) (take i rows))
  pub here : (d : Row) → (get_or rows i d).prop ≡ p
  pub behind : IsTrue (list_all (is_above p) (drop (i + 1) rows))

-- no row is that of a property, whose row would come in at a place
pub record IsFree (p : Ground) (rows : List Row) (i : ℕ) : Type 0 where
  pub within : i ≤ length rows
  pub front : IsTrue (list_all (is_below p) (take i rows))
  pub behind : IsTrue (list_all (is_above p) (drop i rows))

-- no row is that of a property
abbrev pub HasNoRow : Ground → List Row → Type 0
HasNoRow p rows = (i : ℕ) (row : Row) → slice_get rows i ≡ Some row → row.prop ≢ p

-- ---- what the calls do

-- why a watch of a property is refused, by what the session watches
abbrev pub IsRefusedWatch : WatchRefusal → Ground → List Ground → Type 0
IsRefusedWatch Watched p props = IsTrue (has_property p props)
IsRefusedWatch Full p props = (has_property p props ≡ false) × (MOST_WATCHED ≤ length props)

-- a session watches one property more
pub record HasWatched (p : Ground) (session : ℕ) (old new : List Row) : Type 0 where
  pub rows : AreRows new
  pub lists : watched_by_each new ≡ slice_set (watched_by_each old) session (with_property p (watched_by session old))
  pub new_one : has_property p (watched_by session old) ≡ false
  pub was_few : length (watched_by session old) < MOST_WATCHED

-- a session watches a property no more
pub record HasUnwatched (p : Ground) (session : ℕ) (old new : List Row) : Type 0 where
  pub rows : AreRows new
  pub lists : watched_by_each new ≡ slice_set (watched_by_each old) session (without_property p (watched_by session old))
  pub was_watched : has_property p (watched_by session old) ≡ true
