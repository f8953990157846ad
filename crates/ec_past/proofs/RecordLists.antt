-- What is recorded of the updates of a batch, one behind the other.
use Rattle.std.proofs.Common.{◌≡◌, ◌<◌, ◌+◌, ℕ, ℤ, true, false, List, [], ◌∷◌, ◌++◌, length, map, take, drop, get_or, suc, Option, Some, None, Result, Ok, Err, is_some, refl, sym, ap, ap₂, subst, ◌∙◌}
use Rattle.std.specs.Prelude.{bytes_eq, IfOk}
use Rattle.std.proofs.Math.Seq.{drop-cons}
use Rattle.std.proofs.lemmas.Bool.{false≢true}
use Rattle.std.proofs.lemmas.List.{map-append, take-append-drop, take_more}
use Rattle.ec_terms.specs.declared.theory.Theory.{Theory}
use Rattle.ec_axioms.specs.Calculus.{PlainEvent}
use Rattle.ec_axioms.specs.Changes.{PlainUpdate, asserting, retracting}
use Rattle.ec_changes.specs.Found.{event_with}
use Rattle.ec_changes.proofs.FoundEvents.{found-id, has_id-found}
use Rattle.ec_replies.specs.Updates.{asserted, updated, updated_by}
use Rattle.ec_store.specs.Store.{Kept, history_of, slot_of}
use Rattle.ec_store.proofs.EventLemmas.{has_id-slot_of}
use Rattle.ec_past.specs.Logged.{found_after, last_with, plain_record, plain_records}
use Rattle.ec_past.specs.Records.{AreMade, AreRecordsOf, IsMade, IsRecordOf, PlainRecord, added, event_in, redo_of, redone, redone_one, removed}
use Rattle.ec_past.specs.declared.log_record.LogRecord.{LogRecord}
use Rattle.ec_past.proofs.LastRecords.{found-redone, last_with-found}
use Rattle.ec_past.proofs.Redone.{Leads, Leads-behind, Leads-redone, Leads-updated_from, absent-retracted, with-asserted, without-retracted}

-- ---- the last record

module _ {T : Type 0} (rank : T → ℤ) (id : List ℕ) (records : List (LogRecord T)) (place next : ℕ) (here : LogRecord T) where
  -- the record at a place, where none behind it has the identity
  pub last_of-here : next ≡ suc place → place < length records → here ≡ get_or records place here → last_with id (plain_records rank (drop next records)) ≡ None
      → bytes_eq (event_in (plain_record rank here)).id id ≡ true → Some (plain_record rank here) ≡ last_with id (plain_records rank records)
  last_of-here counted inside is none own =
      let front = plain_records rank (take place records) in
      let behind = plain_records rank (drop (suc place) records) in
      let cut : drop place records ≡ here ∷ drop (suc place) records = drop-cons records place here inside ∙ ap (λ r. r ∷ drop (suc place) records) (sym is) in
      let all : plain_records rank records ≡ front ++ plain_record rank here ∷ behind =
      ap (plain_records rank) (sym (take-append-drop place records)) ∙ map-append (plain_record rank) (take place records) (drop place records) ∙ ap (λ rs. front ++ plain_records rank rs) cut in
      sym (ap (last_with id) all ∙ last_with-found id front behind (plain_record rank here) (ap (λ n. last_with id (plain_records rank (drop n records))) (sym counted) ∙ none) own)

-- what is found behind records, by the last of them
pub found-by : (theory : Theory) (id : List ℕ) (before : List PlainEvent) (records : List PlainRecord) (last : Option PlainRecord) → last ≡ last_with id records → AreMade theory before records
    → found_after last (event_with id before) ≡ event_with id (redone records before)
found-by theory id before records last is made = ap (λ o. found_after o (event_with id before)) is ∙ sym (found-redone theory id before records made)

-- an identity that the store has no slot for is not found
pub none-stored : {T : Type 0} (rank : T → ℤ) (id : List ℕ) (events : List (Kept T)) → slot_of id events ≡ None → None ≡ event_with id (history_of rank events)
none-stored rank id events absent = none_from (event_with id (history_of rank events)) (sym (has_id-found id (history_of rank events)) ∙ has_id-slot_of rank id events ∙ ap is_some absent)
  where
    none_from : (o : Option PlainEvent) → is_some o ≡ false → None ≡ o
    none_from None is = refl
    none_from (Some x) is = absurd (false≢true (sym is))

-- ---- one update

-- an event that is asserted is recorded
pub recorded-assert : (theory : Theory) (before : List PlainEvent) (e copy : PlainEvent) → copy ≡ e → IsRecordOf theory before (asserting e) (Some (added copy))
recorded-assert theory before e copy same = (
  λ after is.
      let done : asserted theory before copy ≡ Ok after = ap (asserted theory before) same ∙ is in
      record { accepted = done ∙ ap Ok (with-asserted theory before after copy done); there = tt },
  ap asserting same,
)

-- an event that is retracted is recorded, where it is there
pub recorded-retract : (theory : Theory) (before : List PlainEvent) (id : List ℕ) (e copy : PlainEvent) → copy ≡ e → Some e ≡ event_with id before → IsRecordOf theory before (retracting id) (Some (removed copy))
recorded-retract theory before id e copy same found = (
  λ after is. record { accepted = without-retracted before copy.id (has_id-found copy.id before ∙ ap is_some there); there = there },
  ap retracting own,
)
  where
    own : copy.id ≡ id
    own = ap (λ (x : PlainEvent). x.id) same ∙ found-id id e before (sym found)

    there : event_with copy.id before ≡ Some copy
    there = ap (λ i. event_with i before) own ∙ sym found ∙ ap Some (sym same)

-- and where it is not, it is refused
pub recorded-none : (theory : Theory) (before : List PlainEvent) (id : List ℕ) → None ≡ event_with id before → IsRecordOf theory before (retracting id) None
recorded-none theory before id none = λ after is. absent-retracted before after id (has_id-found id before ∙ ap is_some (sym none)) is

-- ---- several updates

-- one record more
AreMade-more : (theory : Theory) (before : List PlainEvent) (records : List PlainRecord) (last : PlainRecord) → AreMade theory before records → IsMade theory (redone records before) last
    → AreMade theory before (records ++ last ∷ [])
AreMade-more theory before [] last made here = (here, tt)
AreMade-more theory before (first ∷ records) last made here = (made.0, AreMade-more theory (redone_one first before) records last made.1 here)

module _ {U : Type 0} (f : U → PlainUpdate) (theory : Theory) (before after : List PlainEvent) (batch : List U) (place : ℕ) (item : U) (records : List PlainRecord)
    (accepted : updated_by theory before (map f batch) ≡ Ok after) (so_far : AreRecordsOf theory before (map f (take place batch)) records)
    (inside : place < length batch) (is : item ≡ get_or batch place item) where
  -- the next update of a batch that is accepted is accepted
  next_accepted : (next : List PlainEvent) × (updated theory (redone records before) (f item) ≡ Ok next)
  next_accepted =
      let cut : drop place batch ≡ item ∷ drop (suc place) batch = drop-cons batch place item inside ∙ ap (λ u. u ∷ drop (suc place) batch) (sym is) in
      let all : map f batch ≡ map redo_of records ++ f item ∷ map f (drop (suc place) batch) =
      ap (map f) (sym (take-append-drop place batch)) ∙ map-append f (take place batch) (drop place batch)
      ∙ ap₂ (λ front rest. front ++ map f rest) (sym so_far.redo) cut in
      let rest = Leads-behind theory before (redone records before) after (map redo_of records) (f item ∷ map f (drop (suc place) batch)) (Leads-redone theory before records so_far.made)
      (subst (λ (us : List PlainUpdate). Leads theory before us after) all (Leads-updated_from theory 1 before after (map f batch) accepted)) in
      (rest.0, rest.1)

  -- so its record is one more
  pub recorded-more : (found : PlainRecord) → IsRecordOf theory (redone records before) (f item) (Some found) → AreRecordsOf theory before (map f (take (place + 1) batch)) (records ++ found ∷ [])
  recorded-more found here =
      let next = next_accepted in
      let front : take (place + 1) batch ≡ take place batch ++ item ∷ [] = take_more batch place item inside ∙ ap (λ u. take place batch ++ u ∷ []) (sym is) in
      record {
        made = AreMade-more theory before records found so_far.made (here.0 next.0 next.1);
        redo = map-append redo_of records (found ∷ []) ∙ ap₂ (λ us u. us ++ u ∷ []) so_far.redo here.1 ∙ sym (ap (map f) front ∙ map-append f (take place batch) (item ∷ []));
      }

  -- and it can't be refused
  pub recorded-never : IsRecordOf theory (redone records before) (f item) None → ⊥
  recorded-never here = let next = next_accepted in here next.0 next.1

-- records of the list of a store are those of the list that it is
pub records-stored : {T E : Type 0} (rank : T → ℤ) (theory : Theory) (stored events : List PlainEvent) (updates : List PlainUpdate) (made : Result (List (LogRecord T)) E) → stored ≡ events
    → IfOk made (λ records. (theory : Theory) (after : List PlainEvent) → updated_by theory stored updates ≡ Ok after → AreRecordsOf theory stored updates (plain_records rank records))
    → IfOk made (λ records. (after : List PlainEvent) → updated_by theory events updates ≡ Ok after → AreRecordsOf theory events updates (plain_records rank records))
records-stored rank theory stored events updates (Ok records) same recorded =
    subst (λ (es : List PlainEvent). (after : List PlainEvent) → updated_by theory es updates ≡ Ok after → AreRecordsOf theory es updates (plain_records rank records)) same (recorded theory)
records-stored rank theory stored events updates (Err none) same recorded = tt
