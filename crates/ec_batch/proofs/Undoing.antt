-- The lists on the way back from a walk.
use Rattle.std.proofs.Common.{◌≡◌, ◌≤◌, ◌+◌, ℕ, ℤ, zero, suc, Bool, true, false, not, cond, ◌&&◌, ◌||◌, List, [], ◌∷◌, ◌++◌, length, take, drop, Option, Some, None, is_some, IsTrue, IsFalse, refl, sym, ap, ap₂, subst, ◌∙◌, arith, length-append}
use Rattle.std.specs.Prelude.{bytes_eq, find, flat_map, option_map, slice_get}
use Rattle.std.specs.List.{AllByRecursion, IsDistinct}
use Rattle.std.specs.Map.{keys_of, lookup}
use Rattle.std.proofs.lemmas.Bool.{cond-false, false≢true}
use Rattle.std.proofs.lemmas.List.{take_more}
use Rattle.std.proofs.lemmas.Map.Keys.{IsDistinct-head, IsDistinct-tail}
use Rattle.std.proofs.lemmas.List.Folds.{list_any-append}
use Rattle.std.proofs.lemmas.Option.{get_or_from_slice_get, slice_get_within}
use Rattle.std.proofs.lemmas.Slice.Eq.{bytes_eq-Decides}
use Rattle.std.proofs.Math.Numerals.{suc-eq-add-one}
use Rattle.ec_lists.proofs.Booleans.{not-or_turned}
use Rattle.ec_lists.proofs.Filters.{filter-filter, filter-each}
use Rattle.ec_lists.proofs.Finds.{find-map}
use Rattle.ec_lists.proofs.Fronts.{drop-slice_get}
use Rattle.ec_lists.proofs.Options.{None-from_is_some, None-from_option_map}
use Rattle.ec_lists.proofs.Numbers.{bytes_eq-turned}
use Rattle.ec_terms.specs.declared.ids.Slot.{Slot}
use Rattle.ec_terms.specs.declared.theory.Theory.{Theory}
use Rattle.ec_axioms.specs.Calculus.{PlainEvent}
use Rattle.ec_axioms.specs.Changes.{is_history, with_event, without_event}
use Rattle.ec_axioms.specs.Links.{event_mentions, mentions_of, most_mentions}
use Rattle.ec_axioms.proofs.OrderedEvents.{is_history-filter}
use Rattle.ec_store.specs.Store.{Kept, Store, history_of, plain_of, slot_of}
use Rattle.ec_parts.specs.declared.tally.Tally.{Tally}
use Rattle.ec_parts.specs.StandFor.{StandForBoth, View}
use Rattle.ec_store.specs.Table.{term_at}
use Rattle.ec_batch.specs.declared.net.Net.{Net}
use Rattle.ec_batch.specs.Undo.{IsHalfway, IsReleasable, LeadTo, MayRestore, is_touched, put_back, untouched}
use Rattle.ec_changes.specs.Found.{event_with}
use Rattle.ec_changes.proofs.FoundEvents.{found-id, has_id-found, same_found, with-without_event, without_event-absent}
use Rattle.ec_batch.proofs.WalkSteps.{IsNet-moved}

-- ---- what is touched

module _ {N : Type 0} where
  -- no identity stands there twice
  first_apart : (x k : List ℕ) (n : N) (xs : List (List ℕ × N)) (i : ℕ) → AllByRecursion (λ y. bytes_eq x y ≡ false) (keys_of xs) → slice_get xs i ≡ Some (k, n) → bytes_eq x k ≡ false
  first_apart x k n [] i apart there = cc
  first_apart x k n (y ∷ ys) zero apart there = let same : y ≡ (k, n) = cc in ap (λ (e : List ℕ × N). bytes_eq x e.0) (sym same) ∙ apart.0
  first_apart x k n (y ∷ ys) (suc i) apart there = first_apart x k n ys i apart.1 there

  rest_apart : (x : List ℕ) (xs : List (List ℕ × N)) → AllByRecursion (λ y. bytes_eq x y ≡ false) (keys_of xs) → is_touched x xs ≡ false
  rest_apart x [] apart = refl
  rest_apart x (y ∷ ys) apart = ap₂ (λ a b. a || b) apart.0 (rest_apart x ys apart.1)

  -- an identity does not stand before its own place, nor behind
  pub apart_before : (xs : List (List ℕ × N)) (i : ℕ) (k : List ℕ) (n : N) → IsDistinct bytes_eq (keys_of xs) → slice_get xs i ≡ Some (k, n) → is_touched k (take i xs) ≡ false
  apart_before [] i k n apart there = cc
  apart_before (x ∷ xs) zero k n apart there = refl
  apart_before (x ∷ xs) (suc i) k n apart there = ap₂ (λ a b. a || b) (bytes_eq-turned x.0 k (first_apart x.0 k n xs i (IsDistinct-head bytes_eq x.0 (keys_of xs) apart) there)) (apart_before xs i k n (IsDistinct-tail bytes_eq x.0 (keys_of xs) apart) there)

  pub apart_behind : (xs : List (List ℕ × N)) (i : ℕ) (k : List ℕ) (n : N) → IsDistinct bytes_eq (keys_of xs) → slice_get xs i ≡ Some (k, n) → is_touched k (drop (suc i) xs) ≡ false
  apart_behind [] i k n apart there = cc
  apart_behind (x ∷ xs) zero k n apart there = let same : x ≡ (k, n) = cc in ap (λ (e : List ℕ × N). is_touched e.0 xs) (sym same) ∙ rest_apart x.0 xs (IsDistinct-head bytes_eq x.0 (keys_of xs) apart)
  apart_behind (x ∷ xs) (suc i) k n apart there = apart_behind xs i k n (IsDistinct-tail bytes_eq x.0 (keys_of xs) apart) there

  -- an identity is touched where something is found under it
  pub is_touched-found : (id : List ℕ) (xs : List (List ℕ × N)) → is_touched id xs ≡ is_some (lookup (bytes_eq id) xs)
  is_touched-found id [] = refl
  is_touched-found id (x ∷ xs) = by_test (bytes_eq id x.0) (is_touched-found id xs)
    where
      by_test : (own : Bool) → is_touched id xs ≡ is_some (lookup (bytes_eq id) xs) → (own || is_touched id xs) ≡ is_some (cond own (Some x.1) (lookup (bytes_eq id) xs))
      by_test true rest = refl
      by_test false rest = rest

  -- ---- the events that are not touched

  -- one identity more
  untouched-more : (front : List (List ℕ × N)) (k : List ℕ) (n : N) (events : List PlainEvent) → without_event k (untouched front events) ≡ untouched (front ++ (k, n) ∷ []) events
  unfolding without_event
  untouched-more front k n events =
      filter-filter (λ (e : PlainEvent). not (bytes_eq e.id k)) (λ (e : PlainEvent). not (is_touched e.id front)) (λ (e : PlainEvent). not (is_touched e.id (front ++ (k, n) ∷ []))) events
      (λ e. ap not (list_any-append (λ (entry : List ℕ × N). bytes_eq e.id entry.0) front ((k, n) ∷ [])) ∙ both (is_touched e.id front) (bytes_eq e.id k))
    where
      both : (a b : Bool) → not (a || (b || false)) ≡ (not a && not b)
      both true b = refl
      both false true = refl
      both false false = refl

  -- those of the front up to the place behind one
  pub untouched-next : (xs : List (List ℕ × N)) (i : ℕ) (k : List ℕ) (n : N) (events : List PlainEvent) → slice_get xs i ≡ Some (k, n)
      → without_event k (untouched (take i xs) events) ≡ untouched (take (i + 1) xs) events
  untouched-next xs i k n events there =
      untouched-more (take i xs) k n events
      ∙ ap (λ front. untouched front events)
      (sym (take_more xs i (k, n) (slice_get_within xs i (k, n) there) ∙ ap (λ entry. take i xs ++ entry ∷ []) (get_or_from_slice_get xs i (k, n) (k, n) there)))

  pub untouched-before : (k : List ℕ) (n : N) (rest : List (List ℕ × N)) (events : List PlainEvent) → without_event k (untouched rest events) ≡ untouched ((k, n) ∷ rest) events
  unfolding without_event
  untouched-before k n rest events =
      filter-filter (λ (e : PlainEvent). not (bytes_eq e.id k)) (λ (e : PlainEvent). not (is_touched e.id rest)) (λ (e : PlainEvent). not (is_touched e.id ((k, n) ∷ rest))) events
      (λ e. not-or_turned (bytes_eq e.id k) (is_touched e.id rest))

  -- what is found there
  pub event_with-untouched : (id : List ℕ) (touched : List (List ℕ × N)) (events : List PlainEvent) → event_with id (untouched touched events) ≡ cond (is_touched id touched) None (event_with id events)
  event_with-untouched id touched [] = same (is_touched id touched)
    where
      same : (b : Bool) → event_with id [] ≡ cond b None (event_with id [])
      same true = refl
      same false = refl
  event_with-untouched id touched (f ∷ events) = by_test (bytes_eq f.id id) (is_touched f.id touched) (is_touched id touched) refl refl refl (event_with-untouched id touched events)
    where
      by_test : (own gone asked : Bool) → bytes_eq f.id id ≡ own → is_touched f.id touched ≡ gone → is_touched id touched ≡ asked
          → event_with id (untouched touched events) ≡ cond asked None (event_with id events)
          → event_with id (cond (not gone) (f ∷ untouched touched events) (untouched touched events)) ≡ cond asked None (cond own (Some f) (event_with id events))
      by_test true true true o g a rest = rest
      by_test true false false o g a rest = ap (λ b. cond b (Some f) (event_with id (untouched touched events))) o
      by_test true true false o g a rest = absurd (false≢true (sym a ∙ ap (λ i. is_touched i touched) (sym ((bytes_eq-Decides f.id id).0 o)) ∙ g))
      by_test true false true o g a rest = absurd (false≢true (sym g ∙ ap (λ i. is_touched i touched) ((bytes_eq-Decides f.id id).0 o) ∙ a))
      by_test false true asked o g a rest = rest
      by_test false false asked o g a rest = ap (λ b. cond b (Some f) (event_with id (untouched touched events))) o ∙ rest

  pub history-untouched : (touched : List (List ℕ × N)) (events : List PlainEvent) → IsTrue (is_history events) → IsTrue (is_history (untouched touched events))
  history-untouched touched events history = is_history-filter (λ e. not (is_touched e.id touched)) events history

  -- lists in which the same is found under other identities
  pub same_untouched : (touched : List (List ℕ × N)) (these those : List PlainEvent) → IsTrue (is_history these) → IsTrue (is_history those)
      → ((id : List ℕ) → is_touched id touched ≡ false → event_with id these ≡ event_with id those) → untouched touched these ≡ untouched touched those
  same_untouched touched these those history_these history_those same =
      same_found (untouched touched these) (untouched touched those) (history-untouched touched these history_these) (history-untouched touched those history_those)
      (λ id. event_with-untouched id touched these ∙ by_test id (is_touched id touched) refl ∙ sym (event_with-untouched id touched those))
    where
      by_test : (id : List ℕ) (b : Bool) → is_touched id touched ≡ b → cond b None (event_with id these) ≡ cond b None (event_with id those)
      by_test id true is = refl
      by_test id false is = same id is

  -- fewer events mention no more
  pub length-mentions_untouched : (theory : Theory) (touched : List (List ℕ × N)) (events : List PlainEvent) → length (mentions_of theory (untouched touched events)) ≤ length (mentions_of theory events)
  unfolding mentions_of
  length-mentions_untouched theory touched [] = omega arith
  length-mentions_untouched theory touched (e ∷ events) = by_test (is_touched e.id touched) (length-mentions_untouched theory touched events)
    where
      by_test : (gone : Bool) → length (flat_map (event_mentions theory) (untouched touched events)) ≤ length (flat_map (event_mentions theory) events) → length (flat_map (event_mentions theory) (cond (not gone) (e ∷ untouched touched events) (untouched touched events))) ≤ length (event_mentions theory e ++ flat_map (event_mentions theory) events)
      by_test true rest =
          let all = length-append (event_mentions theory e) (flat_map (event_mentions theory) events) in omega arith
      by_test false rest =
          let fewer = length-append (event_mentions theory e) (flat_map (event_mentions theory) (untouched touched events)) in
          let all = length-append (event_mentions theory e) (flat_map (event_mentions theory) events) in omega arith

-- where no identity is touched
pub untouched-none : (N : Type 0) (events : List PlainEvent) → untouched {N = N} [] events ≡ events
untouched-none N events = filter-each events

-- ---- what was taken out is put back

-- a list without an identity that is not found there
pub without_event-not_found : (id : List ℕ) (events : List PlainEvent) → event_with id events ≡ None → without_event id events ≡ events
without_event-not_found id events none = without_event-absent id events (has_id-found id events ∙ ap is_some none)

-- what was found under an identity is put back
pub put_back-without : (id : List ℕ) (events : List PlainEvent) → IsTrue (is_history events) → put_back (event_with id events) (without_event id events) ≡ events
put_back-without id events history = by_found (event_with id events) refl
  where
    by_found : (o : Option PlainEvent) → event_with id events ≡ o → put_back o (without_event id events) ≡ events
    by_found None none = without_event-not_found id events none
    by_found (Some e) found =
        let own : e.id ≡ id = found-id id e events found in
        ap (λ i. with_event e (without_event i events)) (sym own) ∙ with-without_event e events history (ap (λ i. event_with i events) own ∙ found)

-- where a store has no slot of an identity, its list has no event of it
pub not_stored : {T : Type 0} (rank : T → ℤ) (id : List ℕ) (events : List (Kept T)) → slot_of id events ≡ None → event_with id (history_of rank events) ≡ None
not_stored rank id events none =
    find-map (λ (e : PlainEvent). bytes_eq e.id id) (plain_of rank) events
    ∙ ap (option_map (plain_of rank)) (None-from_option_map (λ kept. kept.0) (find (λ kept. bytes_eq kept.1.id id) events) none)

-- the list on the way, one place further
pub put_back_next : {N : Type 0} (xs : List (List ℕ × N)) (i : ℕ) (k : List ℕ) (n : N) (events : List PlainEvent) → IsTrue (is_history events) → IsDistinct bytes_eq (keys_of xs) → slice_get xs i ≡ Some (k, n)
    → put_back (event_with k events) (untouched (drop i xs) events) ≡ untouched (drop (i + 1) xs) events
put_back_next xs i k n events history apart there =
    let rest = drop (suc i) xs in
    ap (λ ys. put_back (event_with k events) (untouched ys events)) (drop-slice_get xs i (k, n) there)
    ∙ ap (λ es. put_back (event_with k events) es) (sym (untouched-before k n rest events))
    ∙ ap (λ o. put_back o (without_event k (untouched rest events))) (sym (event_with-untouched k rest events ∙ cond-false (is_touched k rest) _ _ (apart_behind xs i k n apart there)))
    ∙ put_back-without k (untouched rest events) (history-untouched rest events history)
    ∙ ap (λ m. untouched (drop m xs) events) (suc-eq-add-one i)

-- what mentions no more than the whole list is within the limit
pub few_back : {N : Type 0} (theory : Theory) (xs : List (List ℕ × N)) (i limit : ℕ) (events next : List PlainEvent) → next ≡ untouched (drop (i + 1) xs) events → length (mentions_of theory events) ≤ limit
    → length (mentions_of theory next) ≤ limit
few_back theory xs i limit events next is few =
    let fewer = length-mentions_untouched theory (drop (i + 1) xs) events in
    subst (λ es. length (mentions_of theory es) ≤ limit) (sym is) (omega arith)

-- what stood under the identity at a place may come back there, in parts of the same theory and store
pub may_restore_at : {T N : Type 0} (rank : T → ℤ) (theory later : Theory) (view : View T) (tally : Tally) (stored : Store T) (entries : List (List ℕ × N)) (i : ℕ) (k : List ℕ) (n : N) (slot : Option Slot)
    → later ≡ theory → view.store ≡ stored → IsTrue (is_history (history_of rank stored.events)) → IsDistinct bytes_eq (keys_of entries) → slice_get entries i ≡ Some (k, n) → slot ≡ slot_of k stored.events
    → length (mentions_of theory (history_of rank stored.events)) ≤ most_mentions
    → StandForBoth rank theory (history_of rank stored.events) (untouched (drop i entries) (history_of rank stored.events)) view tally → MayRestore rank later view tally slot
may_restore_at {T} rank theory later view tally stored entries i k n slot theories stores history apart there old few both =
    let hist = history_of rank stored.events in
    let before = untouched (drop i entries) hist in
    let back : length (mentions_of theory (put_back (event_with k hist) before)) ≤ most_mentions =
    few_back theory entries i most_mentions hist _ (put_back_next entries i k n hist history apart there) few in
    subst (λ t. MayRestore rank t view tally slot) (sym theories)
    (record {
      soon = before;
      id = k;
      restorable = record {
        both = subst (λ (s : Store T). StandForBoth rank theory (history_of rank s.events) before view tally) (sym stores) both;
        old = old ∙ ap (λ (s : Store T). slot_of k s.events) (sym stores);
        few = subst (λ (s : Store T). length (mentions_of theory (put_back (event_with k (history_of rank s.events)) before)) ≤ most_mentions) (sym stores) back;
      };
    })

-- ---- from end to end

module _ {T : Type 0} {rank : T → ℤ} {theory : Theory} {view : View T} {tally : Tally} {found : List ℕ → Option (Net T)} {soon : List PlainEvent} (lead : LeadTo rank theory view tally found soon) where
  -- what stands under the identity at a place may be released there
  pub releasable_at : (entries : List (List ℕ × Net T)) (i : ℕ) (k : List ℕ) (n : Net T) → IsDistinct bytes_eq (keys_of entries) → slice_get entries i ≡ Some (k, n) → found k ≡ Some n
      → (later : View T) (counted : Tally) → ((id : ℕ) → term_at id later.table ≡ term_at id view.table) → StandForBoth rank theory (history_of rank view.store.events) (untouched (take i entries) soon) later counted
      → IsReleasable rank theory later counted n (history_of rank view.store.events) (untouched (take i entries) soon) k
  releasable_at entries i k n apart there is later counted terms both =
      let net = IsNet-moved {rank = rank} {theory = theory} {events = view.store.events} {before = view.table} {after = later.table} (λ id p was. terms id ∙ was) soon soon k n refl (lead.net_to.touched k n is) in
      record {
        both = both;
        history = history-untouched (take i entries) soon lead.history;
        new = net.new ∙ sym (event_with-untouched k (take i entries) soon ∙ cond-false (is_touched k (take i entries)) _ _ (apart_before entries i k n apart there));
        entries = net.entries;
      }

  -- once all is released, the tables are those of what is not touched
  pub halfway_at_end : (entries : List (List ℕ × Net T)) → ((id : List ℕ) → is_touched id entries ≡ is_some (found id)) → (later : View T) (counted : Tally) → later.store ≡ view.store
      → StandForBoth rank theory (history_of rank view.store.events) (untouched entries soon) later counted → IsHalfway rank theory later counted found entries
  halfway_at_end entries touched later counted store both =
      let same = same_untouched entries soon (history_of rank view.store.events) lead.history lead.both.caches.history
      (λ id free. lead.net_to.untouched id (None-from_is_some (found id) (sym (touched id) ∙ free))) in
      record {
        both = subst (λ (s : Store T). StandForBoth rank theory (history_of rank s.events) (untouched entries (history_of rank s.events)) later counted) (sym store)
            (subst (λ es. StandForBoth rank theory (history_of rank view.store.events) es later counted) same both);
        old = λ id n is. (lead.net_to.touched id n is).old ∙ ap (λ (s : Store T). slot_of id s.events) (sym store);
      }
