-- What notes tell: nothing where nothing differs, and else the way from the old intervals to the new ones.
use Rattle.std.proofs.Common.{◌≡◌, ◌⊎◌, ℕ, ◌+◌, zero, suc, not, List, [], ◌∷◌, ◌++◌, replicate, IsTrue, refl, sym, ap₂, subst, ◌∙◌, inl, inr, ⊎_elim}
use Rattle.std.specs.List.{list_any, fold}
use Rattle.std.proofs.lemmas.Bool.{cond-false, cases_Bool, false≢true, not_from_false, not-true}
use Rattle.ec_terms.specs.declared.ground.Ground.{Ground}
use Rattle.ec_terms.specs.declared.theory.Theory.{Theory}
use Rattle.ec_axioms.specs.Timeline.{Interval}
use Rattle.ec_axioms.specs.Calculus.{PlainEvent, intervals_of}
use Rattle.ec_axioms.specs.Changes.{interval_eq, has_other_intervals}
use Rattle.ec_axioms.proofs.Members.{IsMember, IsMember-filter, IsMember-from_filter, IsPairwise, IsPairwise-filter, list_any-member, member-list_any}
use Rattle.ec_changes.proofs.KeptEvents.{same_from_members}
use Rattle.ec_changes.proofs.OtherIntervals.{interval_eq-Decides}
use Rattle.ec_changes.proofs.SameList.{has_other_intervals-none}
use Rattle.ec_commands.specs.QueryTexts.{Canon}
use Rattle.ec_replies.specs.Notes.{missing_from, note_between, session_notes, notes_from, with_interval, with_note}
use Rattle.ec_replies.specs.NoteLaws.{SameEventsHaveNoNote, NoWatchHasNoNote, NotesTellTheIntervals}
use Rattle.ec_replies.proofs.BeginOrder.{Precedes, Precedes-itself, Precedes-one_way, Precedes-cases, IsPairwise-intervals_of, IsMember-from_with_interval, IsMember-with_interval, IsPairwise-with_interval}

-- ---- no note

-- no property has a note between a list and itself
note_between-none : (theory : Theory) (canon : Canon) (session : ℕ) (p : Ground) (events : List PlainEvent) → note_between theory canon session p events events ≡ []
unfolding note_between
note_between-none theory canon session p events = cond-false (has_other_intervals theory events events p) _ _ (has_other_intervals-none theory events p)

session_notes-none : (theory : Theory) (canon : Canon) (session : ℕ) (watched : List Ground) (events : List PlainEvent) → session_notes theory canon session watched events events ≡ []
unfolding session_notes
session_notes-none theory canon session [] events = refl
session_notes-none theory canon session (p ∷ watched) events = ap₂ (λ a b. a ++ b) (note_between-none theory canon session p events) (session_notes-none theory canon session watched events)

pub notes_from-none : (theory : Theory) (canon : Canon) (session : ℕ) (watches : List (List Ground)) (events : List PlainEvent) → notes_from theory canon session watches events events ≡ []
unfolding notes_from
notes_from-none theory canon session [] events = refl
notes_from-none theory canon session (watched ∷ watches) events =
    ap₂ (λ a b. a ++ b) (session_notes-none theory canon session watched events) (notes_from-none theory canon (session + 1) watches events)

-- the law
pub SameEventsHaveNoNote-law : SameEventsHaveNoNote
SameEventsHaveNoNote-law theory canon watches events = notes_from-none theory canon 0 watches events

-- nor is there one where no session watches anything
pub notes_from-unwatched : (theory : Theory) (canon : Canon) (session sessions : ℕ) (old new : List PlainEvent)
    → notes_from theory canon session (replicate sessions []) old new ≡ []
unfolding notes_from session_notes
notes_from-unwatched theory canon session zero old new = refl
notes_from-unwatched theory canon session (suc sessions) old new = notes_from-unwatched theory canon (session + 1) sessions old new

-- the law
pub NoWatchHasNoNote-law : NoWatchHasNoNote
NoWatchHasNoNote-law theory canon sessions old new = notes_from-unwatched theory canon 0 sessions old new

-- ---- what is missing

-- an interval stands in a list where the test says so, and only there
IsMember-from_some : (intervals : List Interval) (i : Interval) → IsTrue (list_any (interval_eq i) intervals) → IsMember intervals i
IsMember-from_some intervals i there =
    let found = list_any-member (interval_eq i) intervals there in subst (IsMember intervals) (sym ((interval_eq-Decides i found.0).0 found.2)) found.1

some-from_IsMember : (intervals : List Interval) (i : Interval) → IsMember intervals i → IsTrue (list_any (interval_eq i) intervals)
some-from_IsMember intervals i member = member-list_any (interval_eq i) intervals i member ((interval_eq-Decides i i).1 refl)

-- what is missing from a list stands in the other and not in it
IsMember-from_missing : (those these : List Interval) (i : Interval) → IsMember (missing_from those these) i → IsMember these i × (IsMember those i → ⊥)
unfolding missing_from
IsMember-from_missing those these i member =
    let kept = IsMember-from_filter (λ j. not (list_any (interval_eq j) those)) these i member in
    (kept.0, λ there. false≢true (sym (not-true _ kept.1) ∙ some-from_IsMember those i there))

-- what stands in a list stands in another or is missing from it
missing-cases : (those these : List Interval) (i : Interval) → IsMember these i → IsMember those i ⊎ IsMember (missing_from those these) i
unfolding missing_from
missing-cases those these i member =
    ⊎_elim (λ there. inl (IsMember-from_some those i there))
    (λ absent. inr (IsMember-filter (λ j. not (list_any (interval_eq j) those)) these i member (not_from_false (list_any (interval_eq i) those) absent)))
    (cases_Bool (list_any (interval_eq i) those))

-- what is missing ascends where all do
IsPairwise-missing : (these those : List Interval) → IsPairwise Precedes these → IsPairwise Precedes (missing_from those these)
unfolding missing_from
IsPairwise-missing these those order = IsPairwise-filter Precedes (λ i. not (list_any (interval_eq i) those)) these order

-- ---- a note

-- what comes of intervals of a list where some more of that list are put in
record IsJoined (held gained joined : List Interval) : Type 0 where
  ascend : IsPairwise Precedes joined
  all : (i : Interval) → IsMember held i ⊎ IsMember gained i → IsMember joined i
  only : (i : Interval) → IsMember joined i → IsMember held i ⊎ IsMember gained i

module _ (whole : List Interval) (ascending : IsPairwise Precedes whole) where
  joined : (gained held : List Interval) → IsPairwise Precedes gained → IsPairwise Precedes held
      → ((i : Interval) → IsMember gained i → IsMember whole i) → ((i : Interval) → IsMember held i → IsMember whole i)
      → ((i : Interval) → IsMember gained i → IsMember held i → ⊥) → IsJoined held gained (fold with_interval held gained)
  joined [] held gains holds in_gained in_held apart = record {
    ascend = holds;
    all = λ i. ⊎_elim (λ old. old) (λ none. absurd none);
    only = λ i member. inl member;
  }
  joined (g ∷ gained) held gains holds in_gained in_held apart =
      let more = joined gained (with_interval held g) gains.1 next_holds (λ i member. in_gained i (inr member)) next_in next_apart in record {
        ascend = more.ascend;
        all = λ i. ⊎_elim (λ old. more.all i (inl (IsMember-with_interval held g i (inr old))))
            (⊎_elim (λ new. more.all i (inl (IsMember-with_interval held g i (inl new)))) (λ later. more.all i (inr later)));
        only = λ i member. ⊎_elim (λ here. ⊎_elim (λ new. inr (inl new)) (λ old. inl old) (IsMember-from_with_interval held g i here)) (λ later. inr (inr later)) (more.only i member);
      }
    where
      next_holds : IsPairwise Precedes (with_interval held g)
      next_holds =
          IsPairwise-with_interval held g holds
          (λ j member. ⊎_elim (λ same. absurd (apart j (inl same) member)) (λ order. order)
          (Precedes-cases whole g j ascending (in_gained g (inl refl)) (in_held j member)))

      next_in : (i : Interval) → IsMember (with_interval held g) i → IsMember whole i
      next_in i member = ⊎_elim (λ new. in_gained i (inl new)) (λ old. in_held i old) (IsMember-from_with_interval held g i member)

      next_apart : (i : Interval) → IsMember gained i → IsMember (with_interval held g) i → ⊥
      next_apart i later member =
          ⊎_elim (λ new. Precedes-itself g (subst (Precedes g) (sym new) (gains.0 i later))) (λ old. apart i (inr later) old) (IsMember-from_with_interval held g i member)

-- a note leads from ascending intervals to others
pub with_note-new : (old new : List Interval) → IsPairwise Precedes old → IsPairwise Precedes new
    → with_note (missing_from new old) (missing_from old new) old ≡ new
unfolding with_note
with_note-new old new ascend_old ascend_new =
    same_from_members Precedes Precedes-itself Precedes-one_way (fold with_interval kept gained) new all.ascend ascend_new
    (λ i member. ⊎_elim (λ here. stays i here) (λ came. (IsMember-from_missing old new i came).0) (all.only i member))
    (λ i member. all.all i (⊎_elim (λ was. inl (kept_from i was member)) inr (missing-cases old new i member)))
  where
    lost : List Interval
    lost = missing_from new old

    gained : List Interval
    gained = missing_from old new

    kept : List Interval
    kept = missing_from lost old

    stays : (i : Interval) → IsMember kept i → IsMember new i
    stays i member =
        let was = IsMember-from_missing lost old i member in
        ⊎_elim (λ there. there) (λ gone. absurd (was.1 gone)) (missing-cases new old i was.0)

    kept_from : (i : Interval) → IsMember old i → IsMember new i → IsMember kept i
    kept_from i was is = ⊎_elim (λ gone. absurd ((IsMember-from_missing new old i gone).1 is)) (λ stays. stays) (missing-cases lost old i was)

    all : IsJoined kept gained (fold with_interval kept gained)
    all =
        joined new ascend_new gained kept (IsPairwise-missing new old ascend_new) (IsPairwise-missing old lost ascend_old)
        (λ i came. (IsMember-from_missing old new i came).0) stays
        (λ i came here. (IsMember-from_missing old new i came).1 (IsMember-from_missing lost old i here).0)

-- the law
pub NotesTellTheIntervals-law : NotesTellTheIntervals
NotesTellTheIntervals-law theory p old new history_old history_new =
    with_note-new (intervals_of theory old p) (intervals_of theory new p) (IsPairwise-intervals_of theory old p history_old) (IsPairwise-intervals_of theory new p history_new)
