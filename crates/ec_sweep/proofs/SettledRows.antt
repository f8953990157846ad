-- Properties are settled one after the other, each once.
use Rattle.std.proofs.Common.{◌≡◌, ℕ, ◌+◌, ℤ, Bool, true, false, List, [], take, Option, Some, None, IsTrue, refl, sym, ap, subst, ◌∙◌, inl, inr, ⊎_elim}
use Rattle.std.specs.Prelude.{◌==◌, slice_get, is_some, if◌then◌else◌}
use Rattle.std.specs.Option.{option_or}
use Rattle.std.proofs.lemmas.Bool.{cases_Bool, cond-false, cond-true, false≢true}
use Rattle.std.proofs.lemmas.Option.{none-some}
use Rattle.ec_terms.specs.declared.ids.PropId.{PropId}
use Rattle.ec_numbered.specs.Due.{Due}
use Rattle.ec_exclusive.specs.Neighbours.{Neighbourhoods}
use Rattle.ec_numbered.proofs.Numbers.{same_prop}
use Rattle.ec_points.specs.Table.{PointTable}
use Rattle.ec_revise.specs.declared.settled.Tallied.{Tallied}
use Rattle.ec_revise.specs.TurnCounts.{row_at}
use Rattle.ec_sweep.specs.Hits.{Slots}
use Rattle.ec_sweep.specs.Settling.{AddsDue, IsSettledBy, LeavesNumber, Noted, SettlesNumber, SettlesRows, currencies_at, old_mark, starts_of, touch_of, touched_if, with_if}
use Rattle.ec_sweep.proofs.TallyPlaces.{AreRowsApart, row_at-before, row_at-more}
use Rattle.ec_sweep.proofs.OwnChanges.{option_or-idle}

-- what is left alone twice is left alone
LeavesNumber-then : {T : Type 0} (n : ℕ) (first before after : Noted T) → LeavesNumber n first before → LeavesNumber n before after → LeavesNumber n first after
LeavesNumber-then n first before after left later = record {
  dirty = later.dirty ∙ left.dirty;
  marks = later.marks ∙ left.marks;
  initiations = later.initiations ∙ left.initiations;
  touched = later.touched ∙ left.touched;
}

-- and what is left alone at all is
LeavesNumber-same : {T : Type 0} (n : ℕ) (noted : Noted T) → LeavesNumber n noted noted
LeavesNumber-same n noted = record { dirty = refl; marks = refl; initiations = refl; touched = refl }

module _ {T : Type 0} (rank : T → ℤ) (around : Neighbourhoods) (points : PointTable T) (slots : Slots T) (at : T) where
  -- what becomes due in two steps is of either
  AddsDue-then : (some more all : ℕ → Bool) (first before after : List (Due T)) → ((n : ℕ) → IsTrue (some n) → IsTrue (all n)) → ((n : ℕ) → IsTrue (more n) → IsTrue (all n))
      → AddsDue rank points slots (rank at) some first before → AddsDue rank points slots (rank at) more before after → AddsDue rank points slots (rank at) all first after
  AddsDue-then some more all first before after wide_some wide_more adds later = record {
    still = λ n u due. later.still n u (adds.still n u due);
    only = λ n u due.
        ⊎_elim
        (λ earlier. ⊎_elim (λ was. inl was) (λ new. inr (wide_some n new.0, new.1, new.2)) (adds.only n u earlier))
        (λ new. inr (wide_more n new.0, new.1, new.2))
        (later.only n u due);
  }

  -- a property that was left alone before it is settled
  SettlesNumber-late : (p : PropId) (tallied : Tallied) (first before after : Noted T) → LeavesNumber p.0 first before
      → SettlesNumber rank around points slots at p tallied before after → SettlesNumber rank around points slots at p tallied first after
  SettlesNumber-late p tallied first before after left settles = record {
    settled = settles.settled;
    starts = settles.starts;
    starts_if = settles.starts_if;
    is = subst (λ found. IsSettledBy rank (old_mark rank points at p.0) tallied (currencies_at rank points at p.0 found) settles.settled) left.dirty settles.is;
    dirty = settles.dirty;
    marks = settles.marks ∙ ap (with_if settles.settled.is_changed (p, settles.settled.mark)) left.marks;
    initiations = settles.initiations ∙ ap (with_if settles.starts (p, starts_of settles.settled.mark)) left.initiations;
    touched = settles.touched ∙ ap (touched_if settles.settled.is_changed (touch_of settles.starts (old_mark rank points at p.0) settles.settled)) left.touched;
    due = settles.due;
  }

  -- and one that is left alone from then on
  SettlesNumber-early : (p : PropId) (tallied : Tallied) (among : ℕ → Bool) (first before after : Noted T) → SettlesNumber rank around points slots at p tallied first before
      → LeavesNumber p.0 before after → AddsDue rank points slots (rank at) among before.agenda after.agenda → SettlesNumber rank around points slots at p tallied first after
  SettlesNumber-early p tallied among first before after settles left adds = record {
    settled = settles.settled;
    starts = settles.starts;
    starts_if = settles.starts_if;
    is = settles.is;
    dirty = left.dirty ∙ settles.dirty;
    marks = left.marks ∙ settles.marks;
    initiations = left.initiations ∙ settles.initiations;
    touched = left.touched ∙ settles.touched;
    due = λ u dirty later bears.
        let found = settles.due u dirty later bears in
        record { time = found.time; after = found.after; by = found.by; due = adds.still p.0 found.time found.due };
  }

  -- no rows are settled
  pub SettlesRows-none : (noted : Noted T) → SettlesRows rank around points slots at [] noted noted
  SettlesRows-none noted = record {
    each = λ p tallied there. absurd (none-some tallied there);
    others = λ n none. LeavesNumber-same n noted;
    dues = record { still = λ n u due. due; only = λ n u due. inl due };
  }

  module _ (rows : List (ℕ × Tallied)) (i : ℕ) (p : PropId) (tallied : Tallied) (apart : AreRowsApart rows) (there : slice_get rows i ≡ Some (p.0, tallied))
      (first before after : Noted T) (done : SettlesRows rank around points slots at (take i rows) first before) where
    -- the property of the next row is not settled yet
    pub LeavesNumber-next : LeavesNumber p.0 first before
    LeavesNumber-next = done.others p.0 (row_at-before rows i p.0 tallied apart there)

    module _ (settles : SettlesNumber rank around points slots at p tallied before after) (leaves : (n : ℕ) → (p.0 == n) ≡ false → LeavesNumber n before after)
        (adds : AddsDue rank points slots (rank at) (λ n. p.0 == n) before.agenda after.agenda) where
      more : (n : ℕ) → row_at n (take (i + 1) rows) ≡ option_or (row_at n (take i rows)) (if p.0 == n then Some tallied else None)
      more n = row_at-more rows i p.0 tallied n there

      -- its row is the one more
      here : (n : ℕ) → (p.0 == n) ≡ true → row_at n (take (i + 1) rows) ≡ Some tallied
      here n same =
          more n ∙ ap (option_or (row_at n (take i rows))) (cond-true (p.0 == n) (Some tallied) None same)
          ∙ ap (λ o. option_or o (Some tallied)) (subst (λ m. row_at m (take i rows) ≡ None) (ap (λ (q : PropId). q.0) (same_prop p (record { 0 = n }) same)) (row_at-before rows i p.0 tallied apart there))

      -- and all other rows are those before
      elsewhere : (n : ℕ) → (p.0 == n) ≡ false → row_at n (take (i + 1) rows) ≡ row_at n (take i rows)
      elsewhere n other = more n ∙ option_or-idle (row_at n (take i rows)) (if p.0 == n then Some tallied else None) (cond-false (p.0 == n) (Some tallied) None other)

      each : (q : PropId) (known : Tallied) → row_at q.0 (take (i + 1) rows) ≡ Some known → SettlesNumber rank around points slots at q known first after
      each q known stands =
          ⊎_elim
          (λ same.
          let tallies : tallied ≡ known = let both : Some tallied ≡ Some known = sym (here q.0 same) ∙ stands in cc in
          subst (λ (x : PropId). SettlesNumber rank around points slots at x known first after) (same_prop p q same)
          (subst (λ k. SettlesNumber rank around points slots at p k first after) tallies (SettlesNumber-late p tallied first before after LeavesNumber-next settles)))
          (λ other.
          SettlesNumber-early q known (λ n. p.0 == n) first before after (done.each q known (sym (elsewhere q.0 other) ∙ stands)) (leaves q.0 other) adds)
          (cases_Bool (p.0 == q.0))

      others : (n : ℕ) → row_at n (take (i + 1) rows) ≡ None → LeavesNumber n first after
      others n none =
          ⊎_elim
          (λ same. absurd (none-some tallied (sym none ∙ here n same)))
          (λ other. LeavesNumber-then n first before after (done.others n (sym (elsewhere n other) ∙ none)) (leaves n other))
          (cases_Bool (p.0 == n))

      -- the rows with one more are settled
      pub SettlesRows-more : SettlesRows rank around points slots at (take (i + 1) rows) first after
      SettlesRows-more = record {
        each = each;
        others = others;
        dues = AddsDue-then (λ n. is_some (row_at n (take i rows))) (λ n. p.0 == n) (λ n. is_some (row_at n (take (i + 1) rows))) first.agenda before.agenda after.agenda
            (λ n is. ap is_some (more n) ∙ either (row_at n (take i rows)) _ is)
            (λ n same. ap is_some (here n same))
            done.dues adds;
      }
        where
          either : (o q : Option Tallied) → is_some o ≡ true → is_some (option_or o q) ≡ true
          either (Some x) q is = refl
          either None q is = absurd (false≢true is)
