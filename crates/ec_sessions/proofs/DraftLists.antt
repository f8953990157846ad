-- The drafts of all sessions as a list: read at a session, and with another draft in its place.
use Rattle.std.proofs.Common.{◌≡◌, ℕ, ◌+◌, ◌<◌, ◌≤◌, ◌≢◌, ◌⊎◌, inl, inr, List, [], ◌∷◌, ◌++◌, length, map, get_or, replicate, Option, Some, None, sym, ap, ◌∙◌, subst, arith, length-append}
use Rattle.std.proofs.lemmas.List.{map-set, get_or-map, get_or-set_same, get_or-set_other, length-set, length-map, length-replicate, map-append, replicate-append-replicate}
use Rattle.std.proofs.lemmas.Bool.{cases_eq}
use Rattle.std.specs.Prelude.{ℤ, slice_set}
use Rattle.ec_axioms.specs.declared.event.Update.{Update}
use Rattle.ec_commands.specs.declared.limits.TheConstants.{MOST_DRAFTED, SESSIONS}
use Rattle.ec_axioms.specs.Changes.{PlainUpdate}
use Rattle.ec_axioms.specs.Events.{plain_update}
use Rattle.ec_replies.specs.State.{Draft, empty_state}
use Rattle.ec_replies.specs.RunLaws.{held_count}
use Rattle.ec_replies.proofs.Drafts.{draft_of-empty_state}
use Rattle.ec_sessions.specs.Drafts.{AreDrafts, IsOpenWithRoom, draft_in, plain_draft}

-- ---- one draft in place of another

AreDrafts-set : (drafts : List Draft) (session : ℕ) (draft : Draft) → AreDrafts drafts → session < SESSIONS → held_count draft ≤ MOST_DRAFTED
    → AreDrafts (slice_set drafts session draft)
AreDrafts-set drafts session draft are within few = record {
  sessions = length-set drafts session draft ∙ are.sessions;
  few = λ other. by_place other (cases_eq other session);
}
  where
    by_place : (other : ℕ) → (other ≡ session) ⊎ (other ≢ session) → held_count (draft_in (slice_set drafts session draft) other) ≤ MOST_DRAFTED
    by_place other (inl same) =
        let here : draft_in (slice_set drafts session draft) session ≡ draft = get_or-set_same drafts session draft None (omega (arith, are.sessions)) in
        subst (λ (d : Draft). held_count d ≤ MOST_DRAFTED) (sym (ap (draft_in (slice_set drafts session draft)) same ∙ here)) few
    by_place other (inr apart) = subst (λ (d : Draft). held_count d ≤ MOST_DRAFTED) (sym (get_or-set_other drafts session other draft None apart)) (are.few other)

module _ {T : Type 0} (rank : T → ℤ) where
  -- the kept drafts as they are shown
  abbrev shown : List (Option (List (Update T))) → List Draft
  shown places = map (plain_draft rank) places

  -- a kept draft that is put in place of another is shown there
  pub AreDrafts-put : (places : List (Option (List (Update T)))) (session : ℕ) (draft : Option (List (Update T))) → AreDrafts (shown places) → session < SESSIONS
      → held_count (plain_draft rank draft) ≤ MOST_DRAFTED → AreDrafts (shown (slice_set places session draft))
  AreDrafts-put places session draft are within few =
      subst AreDrafts (sym (map-set (plain_draft rank) places session draft)) (AreDrafts-set (shown places) session (plain_draft rank draft) are within few)

  -- what is kept for a session is shown for it
  pub draft_in-shown : (places : List (Option (List (Update T)))) (session : ℕ) (draft : Option (List (Update T))) → AreDrafts (shown places) → session < SESSIONS
      → draft ≡ get_or places session draft → draft_in (shown places) session ≡ plain_draft rank draft
  draft_in-shown places session draft are within is =
      get_or-map (plain_draft rank) places session draft None (omega (arith, are.sessions, length-map places (plain_draft rank))) ∙ ap (plain_draft rank) (sym is)

  -- the same, where it is open
  pub draft_in-open : (places : List (Option (List (Update T)))) (session : ℕ) (draft : Option (List (Update T))) (held : List (Update T)) → AreDrafts (shown places) → session < SESSIONS
      → draft ≡ get_or places session draft → draft ≡ Some held → draft_in (shown places) session ≡ Some (map (plain_update rank) held)
  draft_in-open places session draft held are within is opened = draft_in-shown places session draft are within is ∙ ap (plain_draft rank) opened

  -- no draft holds more than it may
  pub held-few : (places : List (Option (List (Update T)))) (session : ℕ) (draft : Option (List (Update T))) (held : List (Update T)) → AreDrafts (shown places) → session < SESSIONS
      → draft ≡ get_or places session draft → draft ≡ Some held → length held ≤ MOST_DRAFTED
  held-few places session draft held are within is opened =
      let few = subst (λ (d : Draft). held_count d ≤ MOST_DRAFTED) (draft_in-open places session draft held are within is opened) (are.few session) in
      omega (arith, few, length-map held (plain_update rank))

  -- an update more is shown behind those that were held
  pub shown-pushed : (places : List (Option (List (Update T)))) (session : ℕ) (draft : Option (List (Update T))) (before after : List (Update T)) (update : Update T) (held : List PlainUpdate)
      → AreDrafts (shown places) → session < SESSIONS → draft ≡ get_or places session draft → draft ≡ Some before → after ≡ before ++ update ∷ []
      → draft_in (shown places) session ≡ Some held
      → (shown (slice_set places session (Some after)) ≡ slice_set (shown places) session (Some (held ++ plain_update rank update ∷ []))) × (length after ≡ length held + 1)
  shown-pushed places session draft before after update held are within is opened pushed holds =
      let both : Some (map (plain_update rank) before) ≡ Some held = sym (draft_in-open places session draft before are within is opened) ∙ holds in
      let same : map (plain_update rank) before ≡ held = cc in
      let all : map (plain_update rank) after ≡ held ++ plain_update rank update ∷ [] =
      ap (map (plain_update rank)) pushed ∙ map-append (plain_update rank) before (update ∷ []) ∙ ap (λ us. us ++ plain_update rank update ∷ []) same in (
        map-set (plain_draft rank) places session (Some after) ∙ ap (λ us. slice_set (shown places) session (Some us)) all,
        sym (length-map after (plain_update rank)) ∙ ap length all ∙ length-append held (plain_update rank update ∷ []),
      )

  -- and they are no more than it may hold
  pub pushed-few : (places : List (Option (List (Update T)))) (session : ℕ) (draft : Option (List (Update T))) (before after : List (Update T)) (update : Update T)
      → AreDrafts (shown places) → session < SESSIONS → draft ≡ get_or places session draft → draft ≡ Some before → after ≡ before ++ update ∷ []
      → IsOpenWithRoom (draft_in (shown places) session) → AreDrafts (shown (slice_set places session (Some after)))
  pushed-few places session draft before after update are within is opened pushed room =
      let pushes = shown-pushed places session draft before after update room.0 are within is opened pushed room.1 in
      AreDrafts-put places session (Some after) are within (omega (arith, pushes.1, room.2, length-map after (plain_update rank)))

  -- one closed draft more
  pub shown-one_more : (places : List (Option (List (Update T)))) (n : ℕ) → shown places ≡ replicate n None → shown (places ++ None ∷ []) ≡ replicate (n + 1) None
  shown-one_more places n are = map-append (plain_draft rank) places (None ∷ []) ∙ ap (λ (ds : List Draft). ds ++ None ∷ []) are ∙ replicate-append-replicate n 1 None

-- drafts that are all closed
pub AreDrafts-closed : AreDrafts (replicate SESSIONS None)
unfolding empty_state
AreDrafts-closed = record { sessions = length-replicate {A = Draft} SESSIONS None; few = closed_few }
  where
    closed_few : (session : ℕ) → held_count (draft_in (replicate SESSIONS None) session) ≤ MOST_DRAFTED
    closed_few session = subst (λ (d : Draft). held_count d ≤ MOST_DRAFTED) (sym (draft_of-empty_state session)) (omega arith)
