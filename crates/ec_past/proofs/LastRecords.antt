-- The last record that an identity is in, and what it tells of the list behind the records.
use Rattle.std.proofs.Common.{◌≡◌, ℕ, Bool, true, false, cond, List, [], ◌∷◌, ◌++◌, Option, Some, None, refl, sym, ap, ◌∙◌}
use Rattle.std.specs.Prelude.{bytes_eq}
use Rattle.std.proofs.lemmas.Bool.{cond-true, cond-false}
use Rattle.ec_terms.specs.declared.theory.Theory.{Theory}
use Rattle.ec_axioms.specs.Calculus.{PlainEvent}
use Rattle.ec_changes.specs.Found.{event_with}
use Rattle.ec_changes.proofs.FoundEvents.{event_with-put, event_with-taken}
use Rattle.ec_past.specs.Logged.{found_after, last_with, or_else}
use Rattle.ec_past.specs.Records.{AreMade, PlainRecord, added, event_in, redone, redone_one, removed}
use Rattle.ec_past.proofs.Redone.{absent-asserted}

-- ---- the last of some records

or_else-none : {X : Type 0} (o : Option X) → or_else o None ≡ o
or_else-none None = refl
or_else-none (Some x) = refl

or_else-assoc : {X : Type 0} (a b c : Option X) → or_else (or_else a b) c ≡ or_else a (or_else b c)
or_else-assoc None b c = refl
or_else-assoc (Some x) b c = refl

-- the last of more records is the last of those behind, or else of those before
last_with-append : (id : List ℕ) (records more : List PlainRecord) → last_with id (records ++ more) ≡ or_else (last_with id more) (last_with id records)
last_with-append id [] more = sym (or_else-none (last_with id more))
last_with-append id (first ∷ records) more =
    ap (λ o. or_else o (cond (bytes_eq (event_in first).id id) (Some first) None)) (last_with-append id records more)
    ∙ or_else-assoc (last_with id more) (last_with id records) (cond (bytes_eq (event_in first).id id) (Some first) None)

-- one that has the identity, where none behind it has it, is the last
pub last_with-found : (id : List ℕ) (records behind : List PlainRecord) (here : PlainRecord) → last_with id behind ≡ None → bytes_eq (event_in here).id id ≡ true
    → last_with id (records ++ here ∷ behind) ≡ Some here
last_with-found id records behind here none own =
    last_with-append id records (here ∷ behind)
    ∙ ap (λ o. or_else (or_else o (cond (bytes_eq (event_in here).id id) (Some here) None)) (last_with id records)) none
    ∙ ap (λ o. or_else o (last_with id records)) (cond-true (bytes_eq (event_in here).id id) (Some here) None own)

-- and where it has another, there is still none
pub last_with-other : (id : List ℕ) (behind : List PlainRecord) (here : PlainRecord) → last_with id behind ≡ None → bytes_eq (event_in here).id id ≡ false
    → last_with id (here ∷ behind) ≡ None
last_with-other id behind here none other =
    ap (λ o. or_else o (cond (bytes_eq (event_in here).id id) (Some here) None)) none ∙ cond-false (bytes_eq (event_in here).id id) (Some here) None other

-- ---- what is found behind them

-- what is found behind one update
found-one : (theory : Theory) (id : List ℕ) (before : List PlainEvent) (first : PlainRecord) → AreMade theory before (first ∷ [])
    → event_with id (redone_one first before) ≡ found_after (cond (bytes_eq (event_in first).id id) (Some first) None) (event_with id before)
found-one theory id before (added e) made =
    event_with-put id e before (absent-asserted theory before (redone_one (added e) before) e made.0.accepted) ∙ by_test (bytes_eq e.id id)
  where
    by_test : (own : Bool) → cond own (Some e) (event_with id before) ≡ found_after (cond own (Some (added e)) None) (event_with id before)
    by_test true = refl
    by_test false = refl
found-one theory id before (removed e) made = event_with-taken id e.id before ∙ by_test (bytes_eq e.id id)
  where
    by_test : (own : Bool) → cond own None (event_with id before) ≡ found_after (cond own (Some (removed e)) None) (event_with id before)
    by_test true = refl
    by_test false = refl

-- and behind several
pub found-redone : (theory : Theory) (id : List ℕ) (before : List PlainEvent) (records : List PlainRecord) → AreMade theory before records
    → event_with id (redone records before) ≡ found_after (last_with id records) (event_with id before)
found-redone theory id before [] made = refl
found-redone theory id before (first ∷ records) made =
    found-redone theory id (redone_one first before) records made.1
    ∙ ap (found_after (last_with id records)) (found-one theory id before first (made.0, tt))
    ∙ by_last (last_with id records) (cond (bytes_eq (event_in first).id id) (Some first) None)
  where
    by_last : (last here : Option PlainRecord) → found_after last (found_after here (event_with id before)) ≡ found_after (or_else last here) (event_with id before)
    by_last (Some r) here = refl
    by_last None here = refl
