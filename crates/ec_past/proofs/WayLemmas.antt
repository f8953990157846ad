-- The ways between the lists of a past: each is accepted, and leads where it should.
use Rattle.std.proofs.Common.{◌≡◌, ◌<◌, ◌≤◌, ◌+◌, ◌-◌, ℕ, ℤ, suc, zero, Bool, true, false, cond, List, [], ◌∷◌, ◌++◌, length, map, take, drop, get_or, Some, Ok, Err, Result, IfOk, refl, sym, ap, ap₂, subst, ◌∙◌, eqb, leb, length-append, arith}
use Rattle.std.specs.Prelude.{slice_get}
use Rattle.std.proofs.Math.Seq.{drop-cons}
use Rattle.std.proofs.lemmas.Bool.{cond-false, ne_eqb, leb-true, leb-false}
use Rattle.std.proofs.lemmas.List.{append_assoc, map-append, length-map, take_more}
use Rattle.ec_terms.specs.declared.theory.Theory.{Theory}
use Rattle.ec_axioms.specs.declared.event.Update.{Update}
use Rattle.ec_axioms.specs.Calculus.{PlainEvent}
use Rattle.ec_commands.specs.declared.limits.TheConstants.{MOST_PAST}
use Rattle.ec_axioms.specs.Changes.{PlainUpdate}
use Rattle.ec_axioms.specs.Events.{plain_update}
use Rattle.ec_replies.specs.Past.{Accepted, list_back, list_after, total_weight}
use Rattle.ec_replies.specs.Updates.{updated_by}
use Rattle.ec_past.specs.declared.log_record.LogRecord.{LogRecord}
use Rattle.ec_past.specs.Journals.{AreSteps, PlainJournal, kept_from, past_of, weight_of, weights_of}
use Rattle.ec_past.specs.Logged.{plain_record, plain_records}
use Rattle.ec_past.specs.Records.{PlainRecord, redo_of, undo_of, undone, undos_of}
use Rattle.ec_past.specs.Ways.{redos_of_all, undos_of_all, way_between, weight_between}
use Rattle.ec_past.proofs.Redone.{Leads, Leads-append, Leads-redone, Leads-undone, updated_from-Leads}

-- ---- members from one place to another

module _ {X : Type 0} where
  -- the first of them
  pub places-first : (low high : ℕ) (xs : List X) (x : X) → slice_get xs low ≡ Some x → low < high → drop low (take high xs) ≡ x ∷ drop (suc low) (take high xs)
  places-first low high [] x there inside = cc
  places-first low zero (y ∷ ys) x there inside = let never : ⊥ = omega arith in absurd never
  places-first zero (suc high) (y ∷ ys) x there inside = let same : y ≡ x = cc in ap (λ z. z ∷ take high ys) same
  places-first (suc low) (suc high) (y ∷ ys) x there inside = places-first low high ys x there (omega arith)

  -- the last of them
  pub places-last : (low high : ℕ) (xs : List X) (x : X) → slice_get xs high ≡ Some x → low ≤ high → drop low (take (suc high) xs) ≡ drop low (take high xs) ++ x ∷ []
  places-last low high [] x there order = cc
  places-last zero zero (y ∷ ys) x there order = let same : y ≡ x = cc in ap (λ z. z ∷ []) same
  places-last zero (suc high) (y ∷ ys) x there order = ap (λ zs. y ∷ zs) (places-last zero high ys x there (omega arith))
  places-last (suc low) zero (y ∷ ys) x there order = let never : ⊥ = omega arith in absurd never
  places-last (suc low) (suc high) (y ∷ ys) x there order = places-last low high ys x there (omega arith)

  -- none of them
  pub places-none : (low : ℕ) (xs : List X) → drop low (take low xs) ≡ []
  places-none zero xs = refl
  places-none (suc low) [] = refl
  places-none (suc low) (x ∷ xs) = places-none low xs

-- ---- what makes and takes back

-- a record more is taken back before those behind it
pub undos_of-first : {T : Type 0} (rank : T → ℤ) (records : List (LogRecord T)) (place next : ℕ) (here : LogRecord T) (update : Update T) (way pushed : List (Update T)) (front : List PlainUpdate) → next ≡ suc place
    → place < length records → here ≡ get_or records place here → plain_update rank update ≡ undo_of (plain_record rank here) → pushed ≡ way ++ update ∷ []
    → map (plain_update rank) way ≡ front ++ undos_of (plain_records rank (drop next records)) → map (plain_update rank) pushed ≡ front ++ undos_of (plain_records rank (drop place records))
undos_of-first rank records place next here update way pushed front counted inside is undo more so_far =
    let cut : drop place records ≡ here ∷ drop (suc place) records = drop-cons records place here inside ∙ ap (λ r. r ∷ drop (suc place) records) (sym is) in
    let behind = undos_of (plain_records rank (drop (suc place) records)) in
    ap (map (plain_update rank)) more ∙ map-append (plain_update rank) way (update ∷ [])
    ∙ ap₂ (λ us u. us ++ u ∷ []) (so_far ∙ ap (λ n. front ++ undos_of (plain_records rank (drop n records))) counted) undo
    ∙ append_assoc front behind (undo_of (plain_record rank here) ∷ []) ∙ ap (λ rs. front ++ undos_of (plain_records rank rs)) (sym cut)

-- and made again behind those before it
pub redos_of-last : {T : Type 0} (rank : T → ℤ) (records : List (LogRecord T)) (place : ℕ) (here : LogRecord T) (update : Update T) (way pushed : List (Update T)) (front : List PlainUpdate)
    → place < length records → here ≡ get_or records place here → plain_update rank update ≡ redo_of (plain_record rank here) → pushed ≡ way ++ update ∷ []
    → map (plain_update rank) way ≡ front ++ map redo_of (plain_records rank (take place records)) → map (plain_update rank) pushed ≡ front ++ map redo_of (plain_records rank (take (place + 1) records))
redos_of-last rank records place here update way pushed front inside is redo more so_far =
    let before = map redo_of (plain_records rank (take place records)) in
    let one : take (place + 1) records ≡ take place records ++ here ∷ [] = take_more records place here inside ∙ ap (λ r. take place records ++ r ∷ []) (sym is) in
    let all : map redo_of (plain_records rank (take (place + 1) records)) ≡ before ++ redo_of (plain_record rank here) ∷ [] =
    ap (λ rs. map redo_of (plain_records rank rs)) one ∙ ap (map redo_of) (map-append (plain_record rank) (take place records) (here ∷ []))
    ∙ map-append redo_of (plain_records rank (take place records)) (plain_record rank here ∷ []) in
    ap (map (plain_update rank)) more ∙ map-append (plain_update rank) way (update ∷ []) ∙ ap₂ (λ us u. us ++ u ∷ []) so_far redo
    ∙ append_assoc front before (redo_of (plain_record rank here) ∷ []) ∙ ap (λ us. front ++ us) (sym all)

-- one update more is taken back at last
pub undos_of_all-last : (kept : List (List PlainRecord)) (oldest : List PlainRecord) → undos_of_all (kept ++ oldest ∷ []) ≡ undos_of_all kept ++ undos_of oldest
undos_of_all-last [] oldest = append_nil (undos_of oldest)
  where
    append_nil : (us : List PlainUpdate) → us ++ [] ≡ us
    append_nil [] = refl
    append_nil (u ∷ us) = ap (λ vs. u ∷ vs) (append_nil us)
undos_of_all-last (records ∷ kept) oldest =
    ap (λ us. undos_of records ++ us) (undos_of_all-last kept oldest) ∙ sym (append_assoc (undos_of records) (undos_of_all kept) (undos_of oldest))

-- ---- lists back

-- the present one
pub list_back-none : (events : List PlainEvent) (kept : List Accepted) → list_back 0 events kept ≡ events
unfolding list_back
list_back-none events [] = refl
list_back-none events (update ∷ kept) = refl

-- one further back
pub list_back-more : (n : ℕ) (events : List PlainEvent) (update : Accepted) (kept : List Accepted) → list_back (suc n) events (update ∷ kept) ≡ list_back n update.before kept
unfolding list_back
list_back-more n events update kept =
    let less : suc n - 1 ≡ n = omega arith in
    cond-false (eqb (suc n) 0) events (list_back (suc n - 1) update.before kept) (ne_eqb (suc n) 0 (λ same. omega (arith, same))) ∙ ap (λ m. list_back m update.before kept) less

-- what is kept at a place is taken back at last
pub undos-last : (low place next : ℕ) (kept : List (List PlainRecord)) (records : List PlainRecord) (way pushed : List PlainUpdate) → next ≡ suc place → slice_get kept place ≡ Some records → low ≤ place
    → way ≡ undos_of_all (drop low (take place kept)) → pushed ≡ way ++ undos_of records → pushed ≡ undos_of_all (drop low (take next kept))
undos-last low place next kept records way pushed counted there order so_far more =
    more ∙ ap (λ us. us ++ undos_of records) so_far ∙ sym (undos_of_all-last (drop low (take place kept)) records)
    ∙ ap undos_of_all (sym (places-last low place kept records there order) ∙ ap (λ n. drop low (take n kept)) (sym counted))

-- and made again at last, where it comes before all that was
pub redos-last : (place next high : ℕ) (kept : List (List PlainRecord)) (records : List PlainRecord) (way pushed : List PlainUpdate) → next ≡ suc place → slice_get kept place ≡ Some records → place < high
    → way ≡ redos_of_all (drop next (take high kept)) → pushed ≡ way ++ map redo_of records → pushed ≡ redos_of_all (drop place (take high kept))
redos-last place next high kept records way pushed counted there order so_far more =
    more ∙ ap (λ us. us ++ map redo_of records) (so_far ∙ ap (λ n. redos_of_all (drop n (take high kept))) counted)
    ∙ ap redos_of_all (sym (places-first place high kept records there order))

-- a way back is accepted
Leads-back : (theory : Theory) (after : List PlainEvent) (kept : List (List PlainRecord)) (low high : ℕ) → AreSteps theory after kept → low ≤ high → high ≤ length kept
    → Leads theory (list_back low after (kept_from after kept)) (undos_of_all (drop low (take high kept))) (list_back high after (kept_from after kept))
Leads-back theory after kept zero zero steps order inside = refl
Leads-back theory after kept (suc low) zero steps order inside = let never : ⊥ = omega arith in absurd never
Leads-back theory after [] low (suc high) steps order inside = let never : ⊥ = omega arith in absurd never
Leads-back theory after (records ∷ kept) zero (suc high) steps order inside =
    let before = undone records after in
    let first = kept_from after (records ∷ kept) in
    let back = subst (λ (es : List PlainEvent). Leads theory es (undos_of records) before) steps.0.leads (Leads-undone theory before records steps.0.within steps.0.made) in
    let rest = Leads-back theory before kept zero high steps.1 (omega arith) (omega arith) in
    subst (λ (es : List PlainEvent). Leads theory es (undos_of records ++ undos_of_all (take high kept)) (list_back (suc high) after first)) (sym (list_back-none after first))
    (subst (λ (es : List PlainEvent). Leads theory after (undos_of records ++ undos_of_all (take high kept)) es)
    (sym (list_back-more high after (record { before = before; weight = weight_of records }) (kept_from before kept)))
    (Leads-append theory after before (list_back high before (kept_from before kept)) (undos_of records) (undos_of_all (take high kept)) back
    (subst (λ (es : List PlainEvent). Leads theory es (undos_of_all (take high kept)) (list_back high before (kept_from before kept))) (list_back-none before (kept_from before kept)) rest)))
Leads-back theory after (records ∷ kept) (suc low) (suc high) steps order inside =
    let before = undone records after in
    let update : Accepted = record { before = before; weight = weight_of records } in
    subst (λ (es : List PlainEvent). Leads theory es (undos_of_all (drop low (take high kept))) (list_back (suc high) after (update ∷ kept_from before kept))) (sym (list_back-more low after update (kept_from before kept)))
    (subst (λ (es : List PlainEvent). Leads theory (list_back low before (kept_from before kept)) (undos_of_all (drop low (take high kept))) es) (sym (list_back-more high after update (kept_from before kept)))
    (Leads-back theory before kept low high steps.1 (omega arith) (omega arith)))

-- and so is a way forth
Leads-forth : (theory : Theory) (after : List PlainEvent) (kept : List (List PlainRecord)) (low high : ℕ) → AreSteps theory after kept → low ≤ high → high ≤ length kept
    → Leads theory (list_back high after (kept_from after kept)) (redos_of_all (drop low (take high kept))) (list_back low after (kept_from after kept))
Leads-forth theory after kept zero zero steps order inside = refl
Leads-forth theory after kept (suc low) zero steps order inside = let never : ⊥ = omega arith in absurd never
Leads-forth theory after [] low (suc high) steps order inside = let never : ⊥ = omega arith in absurd never
Leads-forth theory after (records ∷ kept) zero (suc high) steps order inside =
    let before = undone records after in
    let update : Accepted = record { before = before; weight = weight_of records } in
    let forth = subst (λ (es : List PlainEvent). Leads theory before (map redo_of records) es) steps.0.leads (Leads-redone theory before records steps.0.made) in
    let rest = Leads-forth theory before kept zero high steps.1 (omega arith) (omega arith) in
    subst (λ (es : List PlainEvent). Leads theory es (redos_of_all (take high kept) ++ map redo_of records) (list_back zero after (update ∷ kept_from before kept)))
    (sym (list_back-more high after update (kept_from before kept)))
    (subst (λ (es : List PlainEvent). Leads theory (list_back high before (kept_from before kept)) (redos_of_all (take high kept) ++ map redo_of records) es) (sym (list_back-none after (update ∷ kept_from before kept)))
    (Leads-append theory (list_back high before (kept_from before kept)) before after (redos_of_all (take high kept)) (map redo_of records)
    (subst (λ (es : List PlainEvent). Leads theory (list_back high before (kept_from before kept)) (redos_of_all (take high kept)) es) (list_back-none before (kept_from before kept)) rest) forth))
Leads-forth theory after (records ∷ kept) (suc low) (suc high) steps order inside =
    let before = undone records after in
    let update : Accepted = record { before = before; weight = weight_of records } in
    subst (λ (es : List PlainEvent). Leads theory es (redos_of_all (drop low (take high kept))) (list_back (suc low) after (update ∷ kept_from before kept))) (sym (list_back-more high after update (kept_from before kept)))
    (subst (λ (es : List PlainEvent). Leads theory (list_back high before (kept_from before kept)) (redos_of_all (drop low (take high kept))) es) (sym (list_back-more low after update (kept_from before kept)))
    (Leads-forth theory before kept low high steps.1 (omega arith) (omega arith)))

-- ---- the way between two lists

-- it is accepted, and leads there
pub way-accepted : (theory : Theory) (events : List PlainEvent) (journal : PlainJournal) (from to : ℕ) → AreSteps theory events journal.kept
    → journal.count - length journal.kept ≤ from → from ≤ journal.count → journal.count - length journal.kept ≤ to → to ≤ journal.count
    → updated_by theory (list_after from events (past_of events journal)) (way_between journal from to) ≡ Ok (list_after to events (past_of events journal))
way-accepted theory events journal from to steps from_kept from_past to_kept to_past = by_order (leb to from) refl
  where
    by_order : (back : Bool) → leb to from ≡ back
        → updated_by theory (list_after from events (past_of events journal))
        (cond back (undos_of_all (drop (journal.count - from) (take (journal.count - to) journal.kept))) (redos_of_all (drop (journal.count - to) (take (journal.count - from) journal.kept))))
        ≡ Ok (list_after to events (past_of events journal))
    by_order true is =
        let order = leb-true to from is in
        updated_from-Leads theory 1 _ _ _ (Leads-back theory events journal.kept (journal.count - from) (journal.count - to) steps (omega arith) (omega arith))
    by_order false is =
        let order = leb-false to from is in
        updated_from-Leads theory 1 _ _ _ (Leads-forth theory events journal.kept (journal.count - to) (journal.count - from) steps (omega arith) (omega arith))

-- ---- how many updates it has

length-undos_of : (records : List PlainRecord) → length (undos_of records) ≡ length records
length-undos_of [] = refl
length-undos_of (first ∷ records) =
    let rest = length-undos_of records in
    let both = length-append (undos_of records) (undo_of first ∷ []) in
    omega arith

weighs-more : {X : Type 0} (records : List X) → length records ≤ weight_of records
weighs-more [] = omega arith
weighs-more (x ∷ records) = at_least (length records)
  where
    at_least : (n : ℕ) → suc n ≤ cond (eqb (suc n) 0) 1 (suc n)
    at_least n =
        let is = cond-false (eqb (suc n) 0) 1 (suc n) (ne_eqb (suc n) 0 (λ same. omega (arith, same))) in
        omega (arith, is)

length-undos_of_all : (kept : List (List PlainRecord)) → length (undos_of_all kept) ≤ weights_of kept
length-undos_of_all [] = omega arith
length-undos_of_all (records ∷ kept) =
    let rest = length-undos_of_all kept in
    let here = length-undos_of records in
    let more = weighs-more records in
    let both = length-append (undos_of records) (undos_of_all kept) in
    omega arith

length-redos_of_all : (kept : List (List PlainRecord)) → length (redos_of_all kept) ≤ weights_of kept
length-redos_of_all [] = omega arith
length-redos_of_all (records ∷ kept) =
    let rest = length-redos_of_all kept in
    let here = length-map records redo_of in
    let more = weighs-more records in
    let both = length-append (redos_of_all kept) (map redo_of records) in
    omega arith

-- the weights of a past are those of its journal
weights-places : (after : List PlainEvent) (kept : List (List PlainRecord)) (low high : ℕ) → total_weight (drop low (take high (kept_from after kept))) ≡ weights_of (drop low (take high kept))
weights-places after [] low high = by_cases low high
  where
    by_cases : (low high : ℕ) → total_weight (drop low (take high [])) ≡ weights_of {X = PlainRecord} (drop low (take high []))
    by_cases zero zero = refl
    by_cases zero (suc high) = refl
    by_cases (suc low) zero = refl
    by_cases (suc low) (suc high) = refl
weights-places after (records ∷ kept) zero zero = refl
weights-places after (records ∷ kept) (suc low) zero = refl
weights-places after (records ∷ kept) zero (suc high) = ap (λ n. weight_of records + n) (weights-places (undone records after) kept zero high)
weights-places after (records ∷ kept) (suc low) (suc high) = weights-places (undone records after) kept low high

-- part of it weighs no more
pub weights_of-places : {X : Type 0} (low high : ℕ) (kept : List (List X)) → weights_of (drop low (take high kept)) ≤ weights_of kept
weights_of-places zero zero kept = omega arith
weights_of-places (suc low) zero kept = omega arith
weights_of-places zero (suc high) [] = omega arith
weights_of-places (suc low) (suc high) [] = omega arith
weights_of-places zero (suc high) (records ∷ kept) = let rest = weights_of-places zero high kept in omega arith
weights_of-places (suc low) (suc high) (records ∷ kept) = let rest = weights_of-places low high kept in omega arith

-- a way has no more updates than what lies between weighs, which is no more than all that is kept
pub length-way : (events : List PlainEvent) (journal : PlainJournal) (from to : ℕ)
    → (length (way_between journal from to) ≤ weight_between (past_of events journal) from to) × (length (way_between journal from to) ≤ weights_of journal.kept)
length-way events journal from to = by_order (leb to from)
  where
    by_order : (back : Bool) → (length (cond back (undos_of_all (drop (journal.count - from) (take (journal.count - to) journal.kept))) (redos_of_all (drop (journal.count - to) (take (journal.count - from) journal.kept))))
        ≤ cond back (total_weight (drop (journal.count - from) (take (journal.count - to) (kept_from events journal.kept)))) (total_weight (drop (journal.count - to) (take (journal.count - from) (kept_from events journal.kept)))))
        × (length (cond back (undos_of_all (drop (journal.count - from) (take (journal.count - to) journal.kept))) (redos_of_all (drop (journal.count - to) (take (journal.count - from) journal.kept)))) ≤ weights_of journal.kept)
    by_order true =
        let few = length-undos_of_all (drop (journal.count - from) (take (journal.count - to) journal.kept)) in
        let same = weights-places events journal.kept (journal.count - from) (journal.count - to) in
        let part = weights_of-places (journal.count - from) (journal.count - to) journal.kept in
        (omega arith, omega arith)
    by_order false =
        let few = length-redos_of_all (drop (journal.count - to) (take (journal.count - from) journal.kept)) in
        let same = weights-places events journal.kept (journal.count - to) (journal.count - from) in
        let part = weights_of-places (journal.count - to) (journal.count - from) journal.kept in
        (omega arith, omega arith)

-- a way that is made has no more updates than may be kept
pub few-undos : {U E : Type 0} (plain : U → PlainUpdate) (made : Result (List U) E) (low high : ℕ) (kept : List (List PlainRecord)) → weights_of kept ≤ MOST_PAST
    → IfOk made (λ way. map plain way ≡ undos_of_all (drop low (take high kept))) → IfOk made (λ way. length way ≤ MOST_PAST)
few-undos plain (Ok way) low high kept few is =
    let own = length-map way plain in
    let all = ap length is in
    let rest = length-undos_of_all (drop low (take high kept)) in
    let part = weights_of-places low high kept in
    omega arith
few-undos plain (Err none) low high kept few is = tt

pub few-redos : {U E : Type 0} (plain : U → PlainUpdate) (made : Result (List U) E) (low high : ℕ) (kept : List (List PlainRecord)) → weights_of kept ≤ MOST_PAST
    → IfOk made (λ way. map plain way ≡ redos_of_all (drop low (take high kept))) → IfOk made (λ way. length way ≤ MOST_PAST)
few-redos plain (Ok way) low high kept few is =
    let own = length-map way plain in
    let all = ap length is in
    let rest = length-redos_of_all (drop low (take high kept)) in
    let part = weights_of-places low high kept in
    omega arith
few-redos plain (Err none) low high kept few is = tt
