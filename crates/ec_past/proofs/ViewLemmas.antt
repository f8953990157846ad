-- An engine of a list of the past goes to another list of it.
use Rattle.std.proofs.Common.{◌≡◌, ◌≤◌, ◌+◌, ◌-◌, ◌*◌, ℕ, cond, eqb, inl, inr, List, length, None, Option, Some, refl, Ok, Err, Result, sym, ap, ap₂, subst, ◌∙◌, arith}
use Rattle.std.proofs.lemmas.Bool.{cond-false, ne_eqb}
use Rattle.ec_terms.specs.declared.theory.Theory.{Theory}
use Rattle.ec_axioms.specs.Calculus.{PlainEvent}
use Rattle.ec_axioms.specs.Changes.{PlacedCut, PlainUpdate, entry_count, work_between}
use Rattle.ec_replies.specs.Past.{Past, list_after, list_back}
use Rattle.ec_replies.specs.RunLaws.{IsListWithinLimits}
use Rattle.ec_replies.specs.Updates.{updated_by}
use Rattle.ec_batch.specs.Build.{HaveOwnIds, history_from}
use Rattle.ec_batch.specs.Limits.{IsWithinLimits}
use Rattle.ec_engine.specs.Revise.{most_steps}
use Rattle.ec_engine.specs.Standing.{Standing}
use Rattle.ec_past.specs.Chronicles.{IsReadyAt, PlainChronicle}
use Rattle.ec_past.specs.Journals.{AreSteps, PlainJournal, past_of}
use Rattle.ec_past.specs.Viewing.{IsViewOf, PlainView, steps_on_the_way, way_steps}
use Rattle.ec_past.specs.Ways.{way_between}
use Rattle.ec_past.proofs.HistoryLemmas.{HaveOwnIds-history, IsWithinLimits-list, history_from-history, most_steps-accepted}
use Rattle.ec_past.proofs.Kept.{length-kept_from}
use Rattle.ec_past.proofs.WayLemmas.{length-way, list_back-none, way-accepted}

-- what the present list is built of once more
pub record IsBuiltOf (theory checked : Theory) (events listed : List PlainEvent) : Type 0 where
  pub own : HaveOwnIds listed
  pub within : IsWithinLimits checked (history_from listed)
  pub is : history_from listed ≡ events
  pub same : checked ≡ theory

pub IsBuiltOf-present : (theory checked : Theory) (events listed : List PlainEvent) → checked ≡ theory → listed ≡ events → IsListWithinLimits theory events → IsBuiltOf theory checked events listed
IsBuiltOf-present theory checked events listed same all within =
    let built = ap history_from all ∙ history_from-history events within.history in
    record {
      own = subst (λ (es : List PlainEvent). HaveOwnIds es) (sym all) (HaveOwnIds-history events within.history);
      within = subst (λ (t : Theory). IsWithinLimits t (history_from listed)) (sym same) (subst (λ (es : List PlainEvent). IsWithinLimits theory es) (sym built) (IsWithinLimits-list theory events within));
      is = built;
      same = same;
    }

module _ (theory : Theory) (events : List PlainEvent) (journal : PlainJournal) (led : AreSteps theory events journal.kept) (view : PlainView) (viewed : IsViewOf theory events (past_of events journal) view)
    (k : ℕ) (kept : journal.count - length journal.kept ≤ k) (in_past : k ≤ journal.count) where
  -- the list that is viewed is one that the journal leads to
  pub from_kept : journal.count - length journal.kept ≤ view.at
  from_kept =
      let counted = length-kept_from events journal.kept in
      let least = viewed.kept in
      omega arith

  module _ (way : List PlainUpdate) (is : way ≡ way_between journal view.at k) where
    -- the way is accepted on the list that is viewed
    way-viewed : updated_by view.standing.theory view.standing.events way ≡ Ok (list_after k events (past_of events journal))
    way-viewed =
        ap₂ (λ (t : Theory) (es : List PlainEvent). updated_by t es way) viewed.same viewed.list
        ∙ ap (updated_by theory (list_after view.at events (past_of events journal))) is ∙ way-accepted theory events journal view.at k led from_kept viewed.in_past kept in_past

    pub way-never : (placed : PlacedCut) → updated_by view.standing.theory view.standing.events way ≡ Err placed → ⊥
    way-never placed refused = let both = sym way-viewed ∙ refused in cc

    -- so the engine stands for the list that was asked for
    pub IsViewOf-gone : (after : Standing) → after.theory ≡ view.standing.theory → updated_by view.standing.theory view.standing.events way ≡ Ok after.events
        → IsViewOf theory events (past_of events journal) (record { at = k; standing = after })
    IsViewOf-gone after same accepted =
        let there : ◌≡◌ {A = Result (List PlainEvent) PlacedCut} (Ok (list_after k events (past_of events journal))) (Ok after.events) = sym way-viewed ∙ accepted in
        let counted = length-kept_from events journal.kept in
        record { kept = omega arith; in_past = in_past; same = same ∙ viewed.same; list = cc }

    -- in no more steps than the way may take
    pub most_steps-way : most_steps view.standing.theory view.standing.events way ≤ steps_on_the_way theory events (past_of events journal) view.at k
    most_steps-way =
        let steps = most_steps-accepted view.standing.theory view.standing.events (list_after k events (past_of events journal)) way way-viewed in
        let work = ap₂ (λ (t : Theory) (es : List PlainEvent). work_between t es (list_after k events (past_of events journal))) viewed.same viewed.list in
        let few = (length-way events journal view.at k).0 in
        let long = ap length is in
        omega (arith, steps, work, few, long)

-- a list that is ready is the present one where another one is viewed
pub ready-present : (chronicle : PlainChronicle) (k : ℕ) → IsReadyAt k chronicle → (chronicle.viewed ≡ Some k → ⊥) → chronicle.events ≡ list_after k chronicle.events chronicle.past
ready-present chronicle k (inl present) other =
    let none : chronicle.past.count - k ≡ 0 = omega (arith, present) in
    sym (ap (λ n. list_back n chronicle.events chronicle.past.kept) none ∙ list_back-none chronicle.events chronicle.past.kept)
ready-present chronicle k (inr viewed) other = absurd (other viewed)

-- the present list once more
pub IsViewOf-present : (theory : Theory) (events : List PlainEvent) (past : Past) → IsViewOf theory events past (record { at = past.count; standing = record { theory = theory; events = events } })
IsViewOf-present theory events past =
    let none : past.count - past.count ≡ 0 = omega arith in
    record {
      kept = omega arith;
      in_past = omega arith;
      same = refl;
      list = sym (ap (λ n. list_back n events past.kept) none ∙ list_back-none events past.kept);
    }

-- steps that are needed elsewhere alone
pub within-otherwise : (at k after before most : ℕ) → (at ≡ k → ⊥) → after ≤ before + most → after ≤ before + cond (eqb at k) 0 most
within-otherwise at k after before most other few =
    let is = cond-false (eqb at k) 0 most (ne_eqb at k other) in
    omega (arith, is, few)

module _ (theory : Theory) (events : List PlainEvent) (past : Past) (k : ℕ) (other : k ≡ past.count → ⊥) where
  -- the steps to another list, where none is viewed
  pub way_steps-none : way_steps theory events past None k ≡ entry_count theory events + 2 * length events + steps_on_the_way theory events past past.count k
  unfolding way_steps
  way_steps-none = cond-false (eqb past.count k) 0 (entry_count theory events + 2 * length events + steps_on_the_way theory events past past.count k) (ne_eqb past.count k (λ same. other (sym same)))

  -- and where one is
  pub way_steps-viewed : (at : ℕ) → way_steps theory events past (Some at) k ≡ cond (eqb at k) 0 (steps_on_the_way theory events past at k)
  unfolding way_steps
  way_steps-viewed at = cond-false (eqb past.count k) 0 (cond (eqb at k) 0 (steps_on_the_way theory events past at k)) (ne_eqb past.count k (λ same. other (sym same)))

module _ (here : PlainChronicle) (k after : ℕ) where
  -- the steps to it from what is viewed are those of the way
  pub few-viewed : (before at : ℕ) → (k ≡ here.past.count → ⊥) → here.viewed ≡ Some at → after ≤ before + cond (eqb at k) 0 (steps_on_the_way here.theory here.events here.past at k)
      → after ≤ before + way_steps here.theory here.events here.past here.viewed k
  few-viewed before at other viewed few =
      let way = ap (λ (o : Option ℕ). way_steps here.theory here.events here.past o k) viewed ∙ way_steps-viewed here.theory here.events here.past k other at in
      omega (arith, way, few)

  -- and those to the present list once more come first where nothing is
  pub few-first : (before : ℕ) → (k ≡ here.past.count → ⊥) → here.viewed ≡ None → after ≤ before + entry_count here.theory here.events + 2 * length here.events
      → after ≤ before + way_steps here.theory here.events here.past here.viewed k
  few-first before other viewed few =
      let way = ap (λ (o : Option ℕ). way_steps here.theory here.events here.past o k) viewed ∙ way_steps-none here.theory here.events here.past k other in
      omega (arith, way, few)

  pub few-present : (between before at : ℕ) → (k ≡ here.past.count → ⊥) → here.viewed ≡ None → at ≡ here.past.count → between ≤ before + entry_count here.theory here.events + 2 * length here.events
      → after ≤ between + cond (eqb at k) 0 (steps_on_the_way here.theory here.events here.past at k) → after ≤ before + way_steps here.theory here.events here.past here.viewed k
  few-present between before at other viewed present built few =
      let way = ap (λ (o : Option ℕ). way_steps here.theory here.events here.past o k) viewed ∙ way_steps-none here.theory here.events here.past k other in
      let gone : after ≤ between + cond (eqb here.past.count k) 0 (steps_on_the_way here.theory here.events here.past here.past.count k) =
      subst (λ (n : ℕ). after ≤ between + cond (eqb n k) 0 (steps_on_the_way here.theory here.events here.past n k)) present few in
      let test = cond-false (eqb here.past.count k) 0 (steps_on_the_way here.theory here.events here.past here.past.count k) (ne_eqb here.past.count k (λ same. other (sym same))) in
      omega (arith, way, gone, test, built)
