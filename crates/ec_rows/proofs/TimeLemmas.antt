-- Rows of times: the order of entries, what a search for an entry finds, and what edits leave.
use Rattle.std.proofs.Common.{◌≡◌, ℕ, ◌<◌, ◌≤◌, ℤ, Bool, true, false, not, ◌&&◌, List, [], refl, sym, subst, length, get_or, ap, ap₂, ◌∙◌, Contains, arith}
use Rattle.std.specs.Prelude.{int_lt, bytes_eq}
use Rattle.std.specs.Cmp.{IsTotalOrder}
use Rattle.std.specs.Cmp.Lexicographic.{texts_ties}
use Rattle.std.specs.List.{list_any, insert, remove}
use Rattle.std.specs.List.Sorted.{IsPartitionedBy, IsPartitionPoint}
use Rattle.std.specs.declared.cmp.Ordering.{Ordering}
use Rattle.std.specs.Ordering.{int_cmp, int_eq, is_lt, ordering_then}
use Rattle.std.proofs.lemmas.Cmp.{int_cmp_total, nat_list_cmp_total, on_total, then_total}
use Rattle.std.proofs.lemmas.Int.{ints}
use Rattle.std.proofs.lemmas.List.{get_or_read}
use Rattle.std.proofs.lemmas.List.Elements.{filter_agree}
use Rattle.std.proofs.lemmas.Slice.Eq.{bytes_eq-Decides}
use Rattle.ec_terms.specs.Term.{name_cmp}
use Rattle.ec_rows.specs.Ordered.{is_ascending}
use Rattle.ec_rows.specs.Times.{Entry, IsTimeRow, place_of, place_cmp, entry_before, entries_before, is_entry, has_entry, with_entry, without_entry}
use Rattle.ec_rows.proofs.OrderedLemmas.{IsPlace-by_key, IsOrder-by_key, is_at, is_eq-is_at, IsPartitionedBy-ascending, take-partition, length-partition, filter-behind_free, free-from_none, filter-not_at, at-from_any, is_ascending-with_member, is_ascending-remove, with_member-free}
use Rattle.ec_lists.proofs.Integers.{int_eq-is}
use Rattle.ec_lists.proofs.Orderings.{is_eq-then}
use Rattle.ec_lists.proofs.Tests.{list_any-same}
use Rattle.ec_lists.proofs.Booleans.{and-left, and-right}

-- places are in a total order
pub place_cmp-total : IsTotalOrder place_cmp
place_cmp-total = then_total (on_total (λ (p : ℤ × List ℕ). p.0) int_cmp_total) (on_total (λ (p : ℤ × List ℕ). p.1) nat_list_cmp_total)

-- what comes no later than what is before t is before t
pub before_too-then : (a b t : ℤ) (o : Ordering) → is_lt (ordering_then (int_cmp a b) o) ≡ true → int_lt b t ≡ true → int_lt a t ≡ true
before_too-then a b t o = grind (arith, ints)

module _ {T : Type 0} (rank : T → ℤ) where
  -- no entries
  pub IsTimeRow-nil : (times : List (Entry T)) → times ≡ [] → IsTimeRow rank times
  unfolding is_ascending
  IsTimeRow-nil times empty = subst (IsTimeRow rank) (sym empty) refl

  -- an entry stands before a place, or behind it
  abbrev pub is_before : ℤ × List ℕ → Entry T → Bool
  is_before place entry = is_lt (place_cmp (place_of rank entry) place)

  abbrev pub is_behind : ℤ × List ℕ → Entry T → Bool
  is_behind place entry = is_lt (place_cmp place (place_of rank entry))

  -- the row is cut where its entries stop to stand before a place
  abbrev pub IsCutAt : ℤ × List ℕ → List (Entry T) → ℕ → Type 0
  IsCutAt place times i = IsPartitionPoint (λ entry. is_before place entry ≡ true) (λ entry. is_before place entry ≡ false) times i

  -- ---- searches

  pub IsPartitionedBy-place : (place : ℤ × List ℕ) (times : List (Entry T)) → IsTimeRow rank times → IsPartitionedBy (is_before place) times
  IsPartitionedBy-place place times row =
      IsPartitionedBy-ascending (entry_before rank) (is_before place) (IsPlace-by_key place_cmp place_cmp-total (place_of rank) place).keeps times row

  pub IsPartitionedBy-time : (t : ℤ) (times : List (Entry T)) → IsTimeRow rank times → IsPartitionedBy (λ entry. int_lt (rank entry.0) t) times
  IsPartitionedBy-time t times row =
      IsPartitionedBy-ascending (entry_before rank) (λ entry. int_lt (rank entry.0) t)
      (λ x y. before_too-then (rank x.0) (rank y.0) t (name_cmp x.1 y.1)) times row

  pub length-entries_before : (t : ℤ) (times : List (Entry T)) (i : ℕ) → i ≤ length times →
      IsPartitionPoint (λ entry. int_lt (rank entry.0) t ≡ true) (λ entry. int_lt (rank entry.0) t ≡ false) times i → i ≡ length (entries_before rank t times)
  length-entries_before t times i within cut = length-partition (λ entry. int_lt (rank entry.0) t) times i within cut

  -- an entry is that of a time and an identity where it stands at their place
  is_entry-is_at : (t : ℤ) (id : List ℕ) (entry : Entry T) → is_entry rank t id entry ≡ is_at (is_before (t, id)) (is_behind (t, id)) entry
  is_entry-is_at t id entry =
      ap (λ b. int_eq (rank entry.0) t && b) (texts_ties entry.1 id) ∙ sym (is_eq-then (int_cmp (rank entry.0) t) (name_cmp entry.1 id))
      ∙ is_eq-is_at place_cmp place_cmp-total (place_of rank) (t, id) entry

  any-is_at : (t : ℤ) (id : List ℕ) (times : List (Entry T)) → has_entry rank t id times ≡ list_any (is_at (is_before (t, id)) (is_behind (t, id))) times
  any-is_at t id times = list_any-same (is_entry rank t id) (is_at (is_before (t, id)) (is_behind (t, id))) (is_entry-is_at t id) times

  -- ---- an entry more

  pub with_entry-free : (entry : Entry T) (times searched : List (Entry T)) (i : ℕ) → searched ≡ times → IsTimeRow rank searched → IsCutAt (place_of rank entry) searched i →
      has_entry rank (rank entry.0) entry.1 searched ≡ false → insert times i entry ≡ with_entry rank entry times
  with_entry-free entry times searched i is row cut absent =
      let free : (d : Entry T) → i < length searched → is_behind (place_of rank entry) (get_or searched i d) ≡ true =
      free-from_none (is_before (place_of rank entry)) (is_behind (place_of rank entry)) searched i cut (sym (any-is_at (rank entry.0) entry.1 searched) ∙ absent) in
      subst (λ xs. insert xs i entry ≡ with_entry rank entry xs) is
      (with_member-free (entry_before rank) entry searched i (take-partition (is_before (place_of rank entry)) searched i cut)
      (sym (filter-behind_free (entry_before rank) (is_before (place_of rank entry)) (is_behind (place_of rank entry))
      (IsPlace-by_key place_cmp place_cmp-total (place_of rank) (place_of rank entry)) searched i row cut free)))

  pub IsTimeRow-with_entry : (entry : Entry T) (times new : List (Entry T)) → IsTimeRow rank times → new ≡ with_entry rank entry times → IsTimeRow rank new
  IsTimeRow-with_entry entry times new row is =
      subst (IsTimeRow rank) (sym is)
      (is_ascending-with_member (entry_before rank) (IsOrder-by_key place_cmp place_cmp-total (place_of rank)) entry times row)

  -- ---- an entry less

  -- a search for an entry that is there finds it
  pub found : (t : ℤ) (id : List ℕ) (times : List (Entry T)) (i : ℕ) → IsTimeRow rank times → IsCutAt (t, id) times i → has_entry rank t id times ≡ true →
      (i < length times) × ((d : Entry T) → is_behind (t, id) (get_or times i d) ≡ false)
  found t id times i row cut present =
      at-from_any (entry_before rank) (is_before (t, id)) (is_behind (t, id)) (IsPlace-by_key place_cmp place_cmp-total (place_of rank) (t, id)) times i row cut
      (sym (any-is_at t id times) ∙ present)

  pub remove-without_entry : (t : ℤ) (id : List ℕ) (times : List (Entry T)) (i : ℕ) (d : Entry T) → IsTimeRow rank times → IsCutAt (t, id) times i →
      has_entry rank t id times ≡ true → remove times i ≡ without_entry rank t id times
  remove-without_entry t id times i d row cut present =
      let there = found t id times i row cut present in
      sym (filter-not_at (entry_before rank) (is_before (t, id)) (is_behind (t, id)) (IsPlace-by_key place_cmp place_cmp-total (place_of rank) (t, id))
      times i d row cut there.0 (there.1 d))
      ∙ sym (filter_agree (λ entry. not (is_entry rank t id entry)) (λ entry. not (is_at (is_before (t, id)) (is_behind (t, id)) entry))
      (λ entry. ap not (is_entry-is_at t id entry)) times)

  pub IsTimeRow-remove : (times new : List (Entry T)) (i : ℕ) → IsTimeRow rank times → new ≡ remove times i → IsTimeRow rank new
  IsTimeRow-remove times new i row is = subst (IsTimeRow rank) (sym is) (is_ascending-remove (entry_before rank) times i row)

  -- the entry that is taken out
  pub Contains-found : ((a b : T) → rank a ≡ rank b → a ≡ b) → (at : T) (id : List ℕ) (times : List (Entry T)) (i : ℕ) (entry : Entry T) →
      IsTimeRow rank times → IsCutAt (rank at, id) times i → has_entry rank (rank at) id times ≡ true → entry ≡ get_or times i entry →
      Contains times (at, id, entry.2)
  Contains-found same_moment at id times i entry row cut present is =
      let there = found (rank at) id times i row cut present in
      let not_behind : is_behind (rank at, id) entry ≡ false = ap (is_behind (rank at, id)) is ∙ there.1 entry in
      let not_before : is_before (rank at, id) entry ≡ false = ap (is_before (rank at, id)) is ∙ cut.1 i entry (omega arith) there.0 in
      let here : is_entry rank (rank at) id entry ≡ true =
      is_entry-is_at (rank at) id entry ∙ ap₂ (λ a b. not a && not b) not_before not_behind in
      let same_time : entry.0 ≡ at = same_moment entry.0 at (int_eq-is (rank entry.0) (rank at) (and-left (int_eq (rank entry.0) (rank at)) (bytes_eq entry.1 id) here)) in
      let same_id : entry.1 ≡ id = (bytes_eq-Decides entry.1 id).0 (and-right (int_eq (rank entry.0) (rank at)) (bytes_eq entry.1 id) here) in
      (i, there.0, sym (get_or_read times i entry there.0 is (at, id, entry.2)) ∙ ap₂ (λ a b. (a, b, entry.2)) same_time same_id)
