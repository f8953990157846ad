-- The draft of a session, before the first line and after another draft was put in its place.
use Rattle.std.proofs.Common.{◌≡◌, ℕ, ◌<◌, ◌≤◌, ◌⊎◌, inl, inr, List, length, get_or, None, sym, ◌∙◌, arith}
use Rattle.std.proofs.lemmas.List.{get_or_past, length-set, get_or-set_same}
use Rattle.std.proofs.lemmas.Bool.{cases_lt}
use Rattle.std.specs.Prelude.{slice_set}
use Rattle.ec_lists.proofs.Places.{get_or-copies}
use Rattle.ec_commands.specs.declared.limits.TheConstants.{SESSIONS}
use Rattle.ec_replies.specs.State.{Draft, empty_state, draft_of}

-- before the first line each draft is closed
pub draft_of-empty_state : (session : ℕ) → draft_of session empty_state ≡ None
unfolding empty_state
draft_of-empty_state session = get_or-copies SESSIONS session None

-- the same value put at the same place of lists that are as long and agree there: they agree there after it
pub get_or-set_both : {A : Type 0} (xs ys : List A) (i : ℕ) (a d : A) → length xs ≡ length ys → get_or (slice_set xs i a) i d ≡ get_or (slice_set ys i a) i d
get_or-set_both xs ys i a d as_long = by_place (cases_lt i (length xs))
  where
    by_place : (i < length xs) ⊎ (length xs ≤ i) → get_or (slice_set xs i a) i d ≡ get_or (slice_set ys i a) i d
    by_place (inl within) = get_or-set_same xs i a d within ∙ sym (get_or-set_same ys i a d (omega arith))
    by_place (inr past) =
        get_or_past (slice_set xs i a) i d (omega (arith, length-set xs i a)) ∙ sym (get_or_past (slice_set ys i a) i d (omega (arith, length-set ys i a)))

-- a draft that was closed is closed
pub draft_of-closed : (session : ℕ) (drafts : List Draft) → get_or (slice_set drafts session None) session None ≡ None
draft_of-closed session drafts = by_place (cases_lt session (length drafts))
  where
    by_place : (session < length drafts) ⊎ (length drafts ≤ session) → get_or (slice_set drafts session None) session None ≡ None
    by_place (inl within) = get_or-set_same drafts session None None within
    by_place (inr past) = get_or_past (slice_set drafts session None) session None (omega (arith, length-set drafts session None))
