-- The notes of a session are those on the properties of tails, since all others have the same intervals in both lists.
use Rattle.std.proofs.Common.{◌≡◌, ℕ, ◌+◌, ◌-◌, ◌<◌, ◌≤◌, zero, suc, ℤ, Bool, true, false, cond, ◌||◌, ◌&&◌, List, [], ◌∷◌, ◌++◌, Option, Some, None, map, filter, drop, length, nat_lt, refl, ap, ap₂, ◌∙◌, arith}
use Rattle.std.specs.Prelude.{◌==◌, flat_map, slice_get}
use Rattle.std.specs.List.{list_all}
use Rattle.std.proofs.lemmas.Bool.{cond-false}
use Rattle.std.proofs.lemmas.Bool.Decides.{nat_tests}
use Rattle.std.proofs.lemmas.List.{drop_all}
use Rattle.std.proofs.lemmas.List.FromFn.{length-map-range_with_len}
use Rattle.std.proofs.lemmas.Option.{slice_get-get_or}
use Rattle.ec_lists.proofs.Booleans.{and-left, and-right}
use Rattle.ec_lists.proofs.Fronts.{drop-slice_get}
use Rattle.ec_terms.specs.declared.theory.Theory.{Theory}
use Rattle.ec_axioms.specs.Calculus.{PlainEvent}
use Rattle.ec_axioms.specs.Changes.{has_other_intervals}
use Rattle.ec_changes.proofs.OtherIntervals.{OtherIntervalsDiffer-law}
use Rattle.ec_commands.specs.QueryTexts.{Canon}
use Rattle.ec_commands.specs.declared.limits.TheConstants.{SESSIONS}
use Rattle.ec_rows.proofs.OrderedLemmas.{ascending-first, ascending-rest}
use Rattle.ec_replies.specs.Notes.{note_between, notes_from, session_notes}
use Rattle.ec_watch.specs.Tails.{AreTails, are_placed, has_tail}
use Rattle.ec_watch.specs.Watched.{is_watched_by, watched_by, watched_by_each}
use Rattle.ec_watch.proofs.Rows.{watched_in-each}
use Rattle.ec_watch.specs.declared.row.Row.{Row}
use Rattle.ec_watch.specs.declared.tails.Tail.{Tail}
use Rattle.ec_compare.specs.TailNotes.{note_at, note_of, row_note}

-- each session has its list
length-each : (rows : List Row) → length (watched_by_each rows) ≡ SESSIONS
unfolding watched_by_each
length-each rows = length-map-range_with_len (λ session. watched_by session rows) 0 SESSIONS

module _ (theory : Theory) (canon : Canon) (session : ℕ) (old new : List PlainEvent) where
  -- the notes of a session are those of the rows that it watches
  by-rows : (rows : List Row) → session_notes theory canon session (watched_by session rows) old new ≡ flat_map (row_note theory canon session old new) rows
  unfolding session_notes
  by-rows [] = refl
  by-rows (row ∷ rows) = here (is_watched_by session row) (by-rows rows)
    where
      here : (b : Bool) → session_notes theory canon session (watched_by session rows) old new ≡ flat_map (row_note theory canon session old new) rows
          → session_notes theory canon session (map (λ (r : Row). r.prop) (cond b (row ∷ filter (is_watched_by session) rows) (filter (is_watched_by session) rows))) old new
          ≡ cond b (note_between theory canon session row.prop old new) [] ++ flat_map (row_note theory canon session old new) rows
      here true rest = ap (λ text. note_between theory canon session row.prop old new ++ text) rest
      here false rest = rest

  -- the row at a place, and those behind it
  step : (rows : List Row) (a : ℕ) → flat_map (row_note theory canon session old new) (drop a rows) ≡ note_at theory canon session old new rows a ++ flat_map (row_note theory canon session old new) (drop (suc a) rows)
  step [] zero = refl
  step [] (suc a) = refl
  step (row ∷ rows) zero = refl
  step (row ∷ rows) (suc a) = step rows a

  module _ (rows : List Row) where
    abbrev rest : ℕ → List ℕ
    rest a = flat_map (row_note theory canon session old new) (drop a rows)

    -- rows without a note
    skip : (n a : ℕ) → ((k : ℕ) → a ≤ k → k < a + n → note_at theory canon session old new rows k ≡ []) → rest a ≡ rest (a + n)
    skip zero a none = let same : a ≡ a + 0 = omega arith in ap rest same
    skip (suc n) a none =
        let behind : suc a + n ≡ a + suc n = omega arith in
        step rows a ∙ ap (λ text. text ++ rest (suc a)) (none a (omega arith) (omega arith))
        ∙ skip n (suc a) (λ k from to. none k (omega (arith, from)) (omega (arith, to))) ∙ ap rest behind

    module _ {T : Type 0} where
      -- of the rows from a place on those that have a tail have a note
      spread : (tails : List (Tail T)) (a : ℕ) → are_placed tails ≡ true → list_all (λ (tail : Tail T). nat_lt a (suc tail.place)) tails ≡ true
          → ((k : ℕ) → a ≤ k → has_tail k tails ≡ false → note_at theory canon session old new rows k ≡ [])
          → rest a ≡ flat_map (λ (tail : Tail T). note_at theory canon session old new rows tail.place) tails
      spread [] a placed from none =
          skip (length rows) a (λ k first to. none k first refl)
          ∙ ap (flat_map (row_note theory canon session old new)) (drop_all (a + length rows) rows (omega arith))
      spread (tail ∷ tails) a placed from none =
          let here = and-left (nat_lt a (suc tail.place)) (list_all (λ (t : Tail T). nat_lt a (suc t.place)) tails) from in
          let first : a ≤ tail.place = at_least a tail.place here in
          let reach : a + (tail.place - a) ≡ tail.place = omega (arith, first) in
          let later = ascending-first (λ (s t : Tail T). nat_lt s.place t.place) tail tails placed in
          skip (tail.place - a) a (λ k low high. none k low (ap₂ (λ x y. x || y) (apart tail.place k (omega (arith, high, reach))) (behind tails k (omega (arith, high, reach)) later)))
          ∙ ap rest reach ∙ step rows tail.place
          ∙ ap (λ text. note_at theory canon session old new rows tail.place ++ text)
          (spread tails (suc tail.place) (ascending-rest (λ (s t : Tail T). nat_lt s.place t.place) tail tails placed) (next tails later)
          (λ k low absent. none k (omega (arith, low, first)) (ap₂ (λ x y. x || y) (apart_above tail.place k (omega (arith, low))) absent)))
        where
          at_least : (n m : ℕ) → nat_lt n (suc m) ≡ true → n ≤ m
          at_least n m is = grind (arith, nat_tests)

          apart : (n k : ℕ) → k < n → (n == k) ≡ false
          apart n k below = grind (arith, nat_tests)

          apart_above : (n k : ℕ) → n < k → (n == k) ≡ false
          apart_above n k above = grind (arith, nat_tests)

          more : (n m : ℕ) → nat_lt n m ≡ true → nat_lt (suc n) (suc m) ≡ true
          more n m is = grind (arith, nat_tests)

          below : (n m k : ℕ) → nat_lt n m ≡ true → k < n → (m == k) ≡ false
          below n m k is low = grind (arith, nat_tests)

          behind : (ts : List (Tail T)) (k : ℕ) → k < tail.place → list_all (λ (t : Tail T). nat_lt tail.place t.place) ts ≡ true → has_tail k ts ≡ false
          behind [] k low all = refl
          behind (t ∷ ts) k low all =
              ap₂ (λ x y. x || y) (below tail.place t.place k (and-left (nat_lt tail.place t.place) (list_all (λ (s : Tail T). nat_lt tail.place s.place) ts) all) low)
              (behind ts k low (and-right (nat_lt tail.place t.place) (list_all (λ (s : Tail T). nat_lt tail.place s.place) ts) all))

          next : (ts : List (Tail T)) → list_all (λ (t : Tail T). nat_lt tail.place t.place) ts ≡ true → list_all (λ (t : Tail T). nat_lt (suc tail.place) (suc t.place)) ts ≡ true
          next [] all = refl
          next (t ∷ ts) all =
              ap₂ (λ x y. x && y) (more tail.place t.place (and-left (nat_lt tail.place t.place) (list_all (λ (s : Tail T). nat_lt tail.place s.place) ts) all))
              (next ts (and-right (nat_lt tail.place t.place) (list_all (λ (s : Tail T). nat_lt tail.place s.place) ts) all))

      from_zero : (tails : List (Tail T)) → list_all (λ (tail : Tail T). nat_lt 0 (suc tail.place)) tails ≡ true
      from_zero [] = refl
      from_zero (tail ∷ tails) = ap₂ (λ x y. x && y) (positive tail.place) (from_zero tails)
        where
          positive : (n : ℕ) → nat_lt 0 (suc n) ≡ true
          positive n = grind (arith, nat_tests)

      -- a property without a tail has no note
      unmoved : (rank : T → ℤ) (tails : List (Tail T)) → AreTails rank theory old new rows tails → (k : ℕ) → has_tail k tails ≡ false → note_at theory canon session old new rows k ≡ []
      unfolding note_between
      unmoved rank tails are k absent = by_row (slice_get rows k) refl
        where
          either : (b : Bool) (text : List ℕ) → text ≡ [] → cond b text [] ≡ []
          either true text none = none
          either false text none = refl

          by_row : (found : Option Row) → slice_get rows k ≡ found → note_of theory canon session old new found ≡ []
          by_row None is = refl
          by_row (Some row) is =
              either (is_watched_by session row) (note_between theory canon session row.prop old new)
              (cond-false (has_other_intervals theory old new row.prop) _ _ ((OtherIntervalsDiffer-law theory old new row.prop).1 (are.others k row is absent)))

      -- the notes of a session are those on the properties of tails
      pub session-tails : (rank : T → ℤ) (tails : List (Tail T)) → AreTails rank theory old new rows tails
          → session_notes theory canon session (watched_by session rows) old new ≡ flat_map (λ (tail : Tail T). note_at theory canon session old new rows tail.place) tails
      session-tails rank tails are = by-rows rows ∙ spread tails 0 are.placed (from_zero tails) (λ k from absent. unmoved rank tails are k absent)

-- ---- all sessions

module _ (theory : Theory) (canon : Canon) (old new : List PlainEvent) where
  -- the notes of a session, and those of the sessions behind it
  pub notes-next : (rows : List Row) (k : ℕ) → k < SESSIONS
      → notes_from theory canon k (drop k (watched_by_each rows)) old new
      ≡ session_notes theory canon k (watched_by k rows) old new ++ notes_from theory canon (k + 1) (drop (k + 1) (watched_by_each rows)) old new
  unfolding notes_from
  notes-next rows k within =
      let next : suc k ≡ k + 1 = omega arith in
      let all = length-each rows in
      ap (λ watches. notes_from theory canon k watches old new)
      (drop-slice_get (watched_by_each rows) k (watched_by k rows) (slice_get-get_or (watched_by_each rows) k [] (omega (arith, all, within)) ∙ ap Some (watched_in-each rows k within)))
      ∙ ap (λ n. session_notes theory canon k (watched_by k rows) old new ++ notes_from theory canon (k + 1) (drop n (watched_by_each rows)) old new) next

  pub notes-end : (rows : List Row) (k : ℕ) → SESSIONS ≤ k → notes_from theory canon k (drop k (watched_by_each rows)) old new ≡ []
  unfolding notes_from
  notes-end rows k end = let all = length-each rows in ap (λ watches. notes_from theory canon k watches old new) (drop_all k (watched_by_each rows) (omega (arith, all, end)))

-- the members of a list from a place on, as texts
pub texts-next : {X : Type 0} (f : X → List ℕ) (xs : List X) (k : ℕ) (x : X) → slice_get xs k ≡ Some x → flat_map f (drop k xs) ≡ f x ++ flat_map f (drop (k + 1) xs)
texts-next f xs k x read =
    let next : suc k ≡ k + 1 = omega arith in
    ap (flat_map f) (drop-slice_get xs k x read) ∙ ap (λ n. f x ++ flat_map f (drop n xs)) next
