-- What is kept of the updates that led to a list, and how one update more is kept.
use Rattle.std.proofs.Common.{◌≡◌, ◌≤◌, ◌+◌, ◌-◌, ℕ, ℤ, Bool, true, false, cond, List, [], ◌∷◌, length, map, suc, zero, Option, Some, None, Ok, Err, Result, refl, sym, ap, subst, ◌∙◌, leb, eqb, arith}
use Rattle.std.specs.Prelude.{slice_get, option_map, IfSome}
use Rattle.std.proofs.lemmas.Bool.{cond-false, cond-true, le-leb, leb-true, or_right}
use Rattle.std.proofs.lemmas.List.{length-map}
use Rattle.ec_terms.specs.declared.theory.Theory.{Theory}
use Rattle.ec_axioms.specs.declared.event.Seen.{Seen}
use Rattle.ec_axioms.specs.declared.event.Update.{Update as Asked}
use Rattle.ec_axioms.specs.Calculus.{PlainEvent}
use Rattle.ec_axioms.specs.Changes.{PlainUpdate, asserting}
use Rattle.ec_axioms.specs.Events.{plain_update}
use Rattle.ec_commands.specs.declared.limits.TheConstants.{MOST_PAST}
use Rattle.ec_replies.specs.Past.{Accepted, Past, commit_weight, first_kept, list_back, with_accepted, within_window}
use Rattle.ec_replies.specs.RunLaws.{IsListWithinLimits}
use Rattle.ec_replies.specs.Runs.{batch_may_want_memory}
use Rattle.ec_replies.specs.Updates.{updated_by}
use Rattle.ec_batch.specs.declared.refusal.Refusal.{Refusal}
use Rattle.ec_batch.specs.declared.refusal.Refusal.TheVariants.{Update, Memory}
use Rattle.ec_engine.specs.Revise.{IsRevised}
use Rattle.ec_past.specs.Chronicles.{IsChronicle, IsCommitted, IsPastAfter, IsViewing, journal_after, kept_view}
use Rattle.ec_past.specs.Journals.{AreSteps, IsStep, PlainJournal, kept_from, latest_within, past_of, weight_of}
use Rattle.ec_past.specs.Records.{AreRecordsOf, PlainRecord, added, redo_of, redone, undone}
use Rattle.ec_past.proofs.Redone.{Leads-redone, Leads-updated_from, redone-within, undone-redone, updated_from-Leads}
use Rattle.ec_past.proofs.RecordLists.{recorded-assert}
use Rattle.ec_past.specs.Viewing.{IsViewOf, PlainView, still_kept}
use Rattle.ec_past.proofs.WayLemmas.{list_back-more, list_back-none}
use Rattle.ec_past.proofs.Windows.{within_window-kept_from}

-- each kept update has a list before it
pub length-kept_from : (after : List PlainEvent) (kept : List (List PlainRecord)) → length (kept_from after kept) ≡ length kept
length-kept_from after [] = refl
length-kept_from after (records ∷ kept) = ap (λ n. suc n) (length-kept_from (undone records after) kept)

-- the latest of some steps are steps
AreSteps-latest : (theory : Theory) (room : ℕ) (after : List PlainEvent) (kept : List (List PlainRecord)) → AreSteps theory after kept → AreSteps theory after (latest_within room kept)
unfolding latest_within
AreSteps-latest theory room after [] steps = tt
AreSteps-latest theory room after (records ∷ kept) steps =
    by_test (leb (weight_of records) room) (AreSteps-latest theory (room - weight_of records) (undone records after) kept steps.1)
  where
    by_test : (fits : Bool) → AreSteps theory (undone records after) (latest_within (room - weight_of records) kept)
        → AreSteps theory after (cond fits (records ∷ latest_within (room - weight_of records) kept) [])
    by_test true rest = (steps.0, rest)
    by_test false rest = tt

-- what a window begins with
within-nothing : (room : ℕ) → within_window room [] ≡ []
unfolding within_window
within-nothing room = refl

within-fits : (room : ℕ) (update : Accepted) (kept : List Accepted) → leb update.weight room ≡ true → within_window room (update ∷ kept) ≡ update ∷ within_window (room - update.weight) kept
unfolding within_window
within-fits room update kept is = cond-true (leb update.weight room) (update ∷ within_window (room - update.weight) kept) [] is

within-not : (room : ℕ) (update : Accepted) (kept : List Accepted) → leb update.weight room ≡ false → within_window room (update ∷ kept) ≡ []
unfolding within_window
within-not room update kept is = cond-false (leb update.weight room) (update ∷ within_window (room - update.weight) kept) [] is

-- a window is a front of its list, so that what lies within it is found in both
list_back-window : (n room : ℕ) (events : List PlainEvent) (kept : List Accepted) → n ≤ length (within_window room kept) → list_back n events (within_window room kept) ≡ list_back n events kept
list_back-window zero room events kept inside = list_back-none events (within_window room kept) ∙ sym (list_back-none events kept)
list_back-window (suc n) room events [] inside = ap (list_back (suc n) events) (within-nothing room)
list_back-window (suc n) room events (update ∷ kept) inside =
    by_test (leb update.weight room) refl (list_back-window n (room - update.weight) update.before kept)
  where
    by_test : (fits : Bool) → leb update.weight room ≡ fits
        → (n ≤ length (within_window (room - update.weight) kept) → list_back n update.before (within_window (room - update.weight) kept) ≡ list_back n update.before kept)
        → list_back (suc n) events (within_window room (update ∷ kept)) ≡ list_back (suc n) events (update ∷ kept)
    by_test true is rest =
        let same = within-fits room update kept is in
        ap (list_back (suc n) events) same ∙ list_back-more n events update (within_window (room - update.weight) kept)
        ∙ rest (omega (arith, ap length same)) ∙ sym (list_back-more n events update kept)
    by_test false is rest =
        let none = ap length (within-not room update kept is) in
        let never : ⊥ = omega arith in absurd never

module _ (theory : Theory) (before after : List PlainEvent) (updates : List PlainUpdate) (records : List PlainRecord) (kept : List (List PlainRecord))
    (chronicle : IsChronicle theory before kept) (recorded : AreRecordsOf theory before updates records) (accepted : updated_by theory before updates ≡ Ok after) where
  -- the records lead to the list after the update
  leads : redone records before ≡ after
  leads =
      let way = updated_from-Leads theory 1 before (redone records before) (map redo_of records) (Leads-redone theory before records recorded.made) in
      let both : Ok (redone records before) ≡ Ok after = sym way ∙ ap (updated_by theory before) recorded.redo ∙ accepted in
      cc

  -- and back
  back : undone records after ≡ before
  back = ap (undone records) (sym leads) ∙ undone-redone theory before records chronicle.within recorded.made

  -- the update is the latest step
  IsChronicle-accepted : IsChronicle theory after (latest_within MOST_PAST (records ∷ kept))
  IsChronicle-accepted = record {
    within = subst (IsListWithinLimits theory) leads (redone-within theory before records chronicle.within recorded.made);
    steps =
        AreSteps-latest theory MOST_PAST after (records ∷ kept)
        (subst (λ (b : List PlainEvent). IsStep theory b records after × AreSteps theory b kept) (sym back)
        (record { within = chronicle.within; made = recorded.made; leads = leads }, chronicle.steps));
  }

  -- and the latest of the past
  kept_from-accepted : kept_from after (latest_within MOST_PAST (records ∷ kept)) ≡ within_window MOST_PAST (record { before = before; weight = commit_weight updates } ∷ kept_from before kept)
  kept_from-accepted =
      let counted : length records ≡ length updates = sym (length-map records redo_of) ∙ ap length recorded.redo in
      sym (within_window-kept_from MOST_PAST after (records ∷ kept))
      ∙ ap (λ (b : List PlainEvent). within_window MOST_PAST (record { before = b; weight = weight_of records } ∷ kept_from b kept)) back
      ∙ ap (λ n. within_window MOST_PAST (record { before = before; weight = cond (eqb n 0) 1 n } ∷ kept_from before kept)) counted

module _ (theory : Theory) (before after : List PlainEvent) (updates : List PlainUpdate) (records : List PlainRecord) (journal : PlainJournal) where
  -- behind an update the chronicle is one, whatever came of it
  IsChronicle-after : (made : Result Seen Refusal) → IsChronicle theory before journal.kept → ((later : List PlainEvent) → updated_by theory before updates ≡ Ok later → AreRecordsOf theory before updates records)
      → IsRevised theory before updates made after → IsChronicle theory after (journal_after records made journal).kept
  IsChronicle-after (Ok seen) chronicle recorded revised = IsChronicle-accepted theory before after updates records journal.kept chronicle (recorded after revised.0) revised.0
  IsChronicle-after (Err (Update place cut)) chronicle recorded revised = subst (λ (es : List PlainEvent). IsChronicle theory es journal.kept) (sym revised.1) chronicle
  IsChronicle-after (Err (Memory none)) chronicle recorded revised = subst (λ (es : List PlainEvent). IsChronicle theory es journal.kept) (sym revised.1) chronicle

  -- and its past has the update, if it was accepted
  IsPastAfter-made : (made : Result Seen Refusal) → IsChronicle theory before journal.kept → ((later : List PlainEvent) → updated_by theory before updates ≡ Ok later → AreRecordsOf theory before updates records)
      → IsRevised theory before updates made after → IsPastAfter (commit_weight updates) before (past_of before journal) made (past_of after (journal_after records made journal))
  unfolding with_accepted
  IsPastAfter-made (Ok seen) chronicle recorded revised =
      ap latest (kept_from-accepted theory before after updates records journal.kept chronicle (recorded after revised.0) revised.0)
    where
      latest : List Accepted → Past
      latest kept = record { count = journal.count + 1; kept = kept }
  IsPastAfter-made (Err (Update place cut)) chronicle recorded revised = ap (λ es. past_of es journal) revised.1
  IsPastAfter-made (Err (Memory none)) chronicle recorded revised = ap (λ es. past_of es journal) revised.1

  -- a view of what is still kept stays one
  IsViewOf-after : (made : Result Seen Refusal) (view : PlainView) → IsChronicle theory before journal.kept
      → ((later : List PlainEvent) → updated_by theory before updates ≡ Ok later → AreRecordsOf theory before updates records) → IsRevised theory before updates made after
      → IsViewOf theory before (past_of before journal) view → first_kept (past_of after (journal_after records made journal)) ≤ view.at
      → IsViewOf theory after (past_of after (journal_after records made journal)) view
  IsViewOf-after (Ok seen) view chronicle recorded revised viewed kept =
      let update : Accepted = record { before = before; weight = commit_weight updates } in
      let earlier = kept_from before journal.kept in
      let same = kept_from-accepted theory before after updates records journal.kept chronicle (recorded after revised.0) revised.0 in
      let in_past = viewed.in_past in
      let more : journal.count + 1 - view.at ≡ suc (journal.count - view.at) = omega arith in
      let inside : suc (journal.count - view.at) ≤ length (within_window MOST_PAST (update ∷ earlier)) = omega (arith, ap length same, kept, in_past) in
      record {
        kept = kept;
        in_past = omega (arith, in_past);
        same = viewed.same;
        list =
            viewed.list ∙ sym (list_back-more (journal.count - view.at) after update earlier) ∙ sym (list_back-window (suc (journal.count - view.at)) MOST_PAST after (update ∷ earlier) inside)
            ∙ ap (list_back (suc (journal.count - view.at)) after) (sym same) ∙ ap (λ n. list_back n after (kept_from after (latest_within MOST_PAST (records ∷ journal.kept)))) (sym more);
      }
  IsViewOf-after (Err (Update place cut)) view chronicle recorded revised viewed kept = subst (λ (es : List PlainEvent). IsViewOf theory es (past_of es journal) view) (sym revised.1) viewed
  IsViewOf-after (Err (Memory none)) view chronicle recorded revised viewed kept = subst (λ (es : List PlainEvent). IsViewOf theory es (past_of es journal) view) (sym revised.1) viewed

-- the same of the journal and the theory that are there then
pub IsChronicle-settled : (theory later : Theory) (before after : List PlainEvent) (updates : List PlainUpdate) (records : List PlainRecord) (journal settled : PlainJournal) (made : Result Seen Refusal)
    → later ≡ theory → settled ≡ journal_after records made journal → IsChronicle theory before journal.kept
    → ((soon : List PlainEvent) → updated_by theory before updates ≡ Ok soon → AreRecordsOf theory before updates records) → IsRevised theory before updates made after
    → IsChronicle later after settled.kept
IsChronicle-settled theory later before after updates records journal settled made theories is chronicle recorded revised =
    subst (λ (t : Theory). IsChronicle t after settled.kept) (sym theories)
    (subst (λ (j : PlainJournal). IsChronicle theory after j.kept) (sym is) (IsChronicle-after theory before after updates records journal made chronicle recorded revised))

pub IsPastAfter-settled : (theory : Theory) (before after : List PlainEvent) (updates : List PlainUpdate) (records : List PlainRecord) (journal settled : PlainJournal) (made : Result Seen Refusal)
    → settled ≡ journal_after records made journal → IsChronicle theory before journal.kept
    → ((soon : List PlainEvent) → updated_by theory before updates ≡ Ok soon → AreRecordsOf theory before updates records) → IsRevised theory before updates made after
    → IsPastAfter (commit_weight updates) before (past_of before journal) made (past_of after settled)
IsPastAfter-settled theory before after updates records journal settled made is chronicle recorded revised =
    subst (λ (j : PlainJournal). IsPastAfter (commit_weight updates) before (past_of before journal) made (past_of after j)) (sym is)
    (IsPastAfter-made theory before after updates records journal made chronicle recorded revised)

-- and so with what is viewed
pub IsViewing-settled : {V : Type 0} (view : V → PlainView) (theory later : Theory) (before after : List PlainEvent) (updates : List PlainUpdate) (records : List PlainRecord) (journal settled : PlainJournal) (made : Result Seen Refusal)
    (viewed left : Option V) (first : ℕ) → later ≡ theory → settled ≡ journal_after records made journal → first ≡ settled.count - length settled.kept → left ≡ kept_view (λ v. (view v).at) first viewed
    → IsViewing theory before journal (option_map view viewed)
    → ((soon : List PlainEvent) → updated_by theory before updates ≡ Ok soon → AreRecordsOf theory before updates records) → IsRevised theory before updates made after
    → IsViewing later after settled (option_map view left)
IsViewing-settled {V} view theory later before after updates records journal settled made viewed left first theories is counted gone viewing recorded revised = record {
  chronicle = IsChronicle-settled theory later before after updates records journal settled made theories is viewing.chronicle recorded revised;
  viewed = subst (λ (o : Option V). IfSome (option_map view o) (IsViewOf later after (past_of after settled))) (sym gone) (by_view viewed viewing.viewed);
}
  where
    moved : (v : V) → IsViewOf theory before (past_of before journal) (view v) → first ≤ (view v).at → IsViewOf later after (past_of after settled) (view v)
    moved v was kept =
        let least : first_kept (past_of after (journal_after records made journal)) ≤ (view v).at =
        subst (λ (j : PlainJournal). first_kept (past_of after j) ≤ (view v).at) is (omega (arith, length-kept_from after settled.kept, counted, kept)) in
        subst (λ (t : Theory). IsViewOf t after (past_of after settled) (view v)) (sym theories)
        (subst (λ (j : PlainJournal). IsViewOf theory after (past_of after j) (view v)) (sym is)
        (IsViewOf-after theory before after updates records journal made (view v) viewing.chronicle recorded revised was least))

    by_view : (o : Option V) → IfSome (option_map view o) (IsViewOf theory before (past_of before journal)) → IfSome (option_map view (kept_view (λ v. (view v).at) first o)) (IsViewOf later after (past_of after settled))
    by_view None was = tt
    by_view (Some v) was = by_test (leb first (view v).at) refl
      where
        by_test : (fits : Bool) → leb first (view v).at ≡ fits → IfSome (option_map view (cond fits (Some v) None)) (IsViewOf later after (past_of after settled))
        by_test true is = moved v was (leb-true first (view v).at is)
        by_test false is = tt

-- what is viewed is what is still kept of it
pub viewed-settled : {V : Type 0} (at : V → ℕ) (after : List PlainEvent) (settled : PlainJournal) (viewed left : Option V) (first : ℕ) → first ≡ settled.count - length settled.kept → left ≡ kept_view at first viewed
    → option_map at left ≡ still_kept (past_of after settled) (option_map at viewed)
viewed-settled at after settled None left first counted gone = ap (option_map at) gone
viewed-settled at after settled (Some v) left first counted gone =
    ap (option_map at) gone ∙ by_test (leb first (at v))
    ∙ ap (λ n. cond (leb n (at v)) (Some (at v)) None) (counted ∙ ap (λ n. settled.count - n) (sym (length-kept_from after settled.kept)))
  where
    by_test : (fits : Bool) → option_map at (cond fits (Some v) None) ≡ cond fits (Some (at v)) None
    by_test true = refl
    by_test false = refl

-- what is still kept stays
pub kept_view-kept : {V : Type 0} (at : V → ℕ) (first : ℕ) (view : V) → first ≤ at view → kept_view at first (Some view) ≡ Some view
kept_view-kept at first view kept = cond-true (leb first (at view)) (Some view) None (le-leb first (at view) kept)

-- one event that is asserted is recorded as this
pub AreRecordsOf-assert : (theory : Theory) (before after : List PlainEvent) (e : PlainEvent) (records : List PlainRecord) → records ≡ added e ∷ [] → updated_by theory before (asserting e ∷ []) ≡ Ok after
    → AreRecordsOf theory before (asserting e ∷ []) records
AreRecordsOf-assert theory before after e records is accepted =
    let way = Leads-updated_from theory 1 before after (asserting e ∷ []) accepted in
    subst (AreRecordsOf theory before (asserting e ∷ [])) (sym is)
    (record { made = ((recorded-assert theory before e e refl).0 way.0 way.1, tt); redo = refl })

-- what is applied is committed
pub IsCommitted-revised : (theory : Theory) (before after : List PlainEvent) (updates : List PlainUpdate) (made : Result Seen Refusal) → IsRevised theory before updates made after
    → IsCommitted theory before updates made after
IsCommitted-revised theory before after updates (Ok seen) revised = revised
IsCommitted-revised theory before after updates (Err (Update place cut)) revised = revised
IsCommitted-revised theory before after updates (Err (Memory none)) revised = (or_right (eqb (length updates) 0) (batch_may_want_memory theory before updates) revised.0, revised.1)

-- a batch is refused as its first update is
pub IsCommitted-first : {T : Type 0} (rank : T → ℤ) (theory : Theory) (events : List PlainEvent) (batch : List (Asked T)) (first : Asked T) (refusal : Refusal) → Some first ≡ slice_get batch 0
    → ((rest : List PlainUpdate) → IsRevised theory events (plain_update rank first ∷ rest) (Err refusal) events) → IsCommitted theory events (map (plain_update rank) batch) (Err refusal) events
IsCommitted-first rank theory events [] first refusal is refused = cc
IsCommitted-first rank theory events (update ∷ batch) first refusal is refused =
    let same : first ≡ update = cc in
    IsCommitted-revised theory events events (map (plain_update rank) (update ∷ batch)) (Err refusal)
    (subst (λ (u : Asked _). IsRevised theory events (plain_update rank u ∷ map (plain_update rank) batch) (Err refusal) events) same (refused (map (plain_update rank) batch)))
