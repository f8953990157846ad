-- A pass, from one instant to the next and from one event to the next.
use Rattle.std.proofs.Common.{◌≡◌, ◌⊎◌, ℤ, Bool, true, false, not, ◌&&◌, ◌||◌, List, [], ◌∷◌, ◌++◌, Some, is_some, refl, sym, ap, ap₂, subst, ◌∙◌, inl, inr, ⊎_elim, arith}
use Rattle.std.specs.Prelude.{int_le, int_lt, IsFalse}
use Rattle.std.specs.List.{list_all, list_any}
use Rattle.std.specs.Ordering.{int_eq}
use Rattle.std.proofs.lemmas.Bool.{and_from, and_parts, cases_Bool, false≢true, or_from, or_left, or_right}
use Rattle.std.proofs.lemmas.Int.{ints}
use Rattle.std.proofs.lemmas.List.{append-nil, append_assoc}
use Rattle.std.proofs.lemmas.List.Folds.{list_any-append}
use Rattle.ec_lists.proofs.Integers.{int_eq-is, int_eq-same, int_le-from, int_le-same, int_lt-same}
use Rattle.ec_lists.proofs.Tests.{list_all-push, list_all-weaker}
use Rattle.ec_axioms.specs.Changes.{comes_before, is_history}
use Rattle.ec_axioms.proofs.OrderedEvents.{comes_before-rank}
use Rattle.ec_context.specs.Widened.{KeepsAll}
use Rattle.ec_context.proofs.Shown.{term_at-kept}
use Rattle.ec_pass.specs.declared.present.Present.{Present}
use Rattle.ec_terms.specs.declared.ground.Ground.{Ground}
use Rattle.ec_terms.specs.declared.ids.PropId.{PropId}
use Rattle.ec_terms.specs.declared.theory.Theory.{Theory}
use Rattle.ec_terms.specs.Domain.{GroundEntry, is_strong}
use Rattle.ec_axioms.specs.Calculus.{Currency, PlainEvent, has_break, has_effect, holds_at, is_clashing, is_current, is_initiated, is_initiating, is_terminated, is_terminating}
use Rattle.ec_axioms.specs.Plain.{IsLastBefore}
use Rattle.ec_store.specs.Table.{term_at}
use Rattle.ec_numbered.specs.PropSet.{has_number}
use Rattle.ec_exclusive.specs.CurrentProps.{HasForms, is_in}
use Rattle.ec_pass.specs.declared.holding.Holding.{Holding}
use Rattle.ec_pass.specs.declared.pass.Pass.{Pass}
use Rattle.ec_pass.specs.Holdings.{IsKnown, held_at_end, judged, looked_up}
use Rattle.ec_pass.specs.Outcomes.{outcome_of}
use Rattle.ec_pass.specs.Passing.{IsComing, IsPassing, is_instant}
use Rattle.ec_pass.specs.Present.{IsAt, IsReady}
use Rattle.ec_pass.specs.Settled.{excludes_any, is_settled}
use Rattle.ec_pass.proofs.EffectLemmas.{has_effect-among, has_effect-elsewhere}
use Rattle.ec_pass.proofs.Knowing.{IsJudged, IsJudged-known, IsKnown-looked_up, holds-ended}
use Rattle.ec_pass.proofs.NumberLemmas.{is_some-term}
use Rattle.ec_pass.proofs.SettledTerms.{IsAt-settled, clashes-number}

-- events of which none is at an instant, as all are later or all are earlier
none_later : (s t : ℤ) (es : List PlainEvent) → int_lt s t ≡ true → list_all (λ (e : PlainEvent). int_le t e.rank) es ≡ true → list_any (λ (e : PlainEvent). int_eq e.rank s) es ≡ false
none_later s t [] lt all = refl
none_later s t (e ∷ es) lt all =
    let parts = and_parts (int_le t e.rank) (list_all (λ (f : PlainEvent). int_le t f.rank) es) all in
    let le : int_le t e.rank ≡ true = parts.0 in
    let rest : list_any (λ (f : PlainEvent). int_eq f.rank s) es ≡ false = none_later s t es lt parts.1 in
    let here : int_eq e.rank s ≡ false = grind (arith, ints) in or_from _ _ here rest

none_earlier : (s t : ℤ) (es : List PlainEvent) → int_lt s t ≡ true → list_all (λ (e : PlainEvent). int_le e.rank s) es ≡ true → list_any (λ (e : PlainEvent). int_eq e.rank t) es ≡ false
none_earlier s t [] lt all = refl
none_earlier s t (e ∷ es) lt all =
    let parts = and_parts (int_le e.rank s) (list_all (λ (f : PlainEvent). int_le f.rank s) es) all in
    let le : int_le e.rank s ≡ true = parts.0 in
    let rest : list_any (λ (f : PlainEvent). int_eq f.rank t) es ≡ false = none_earlier s t es lt parts.1 in
    let here : int_eq e.rank t ≡ false = grind (arith, ints) in or_from _ _ here rest

-- events up to one time and events from another on
either : (s t : ℤ) (xs ys : List PlainEvent) → list_all (λ (e : PlainEvent). int_le e.rank s) xs ≡ true → list_all (λ (e : PlainEvent). int_le t e.rank) ys ≡ true
    → list_all (λ (e : PlainEvent). int_le e.rank s || int_le t e.rank) (xs ++ ys) ≡ true
either s t [] [] before behind = refl
either s t [] (e ∷ ys) before behind =
    let parts = and_parts (int_le t e.rank) (list_all (λ (f : PlainEvent). int_le t f.rank) ys) behind in
    and_from _ _ (or_right (int_le e.rank s) (int_le t e.rank) parts.0) (either s t [] ys refl parts.1)
either s t (e ∷ xs) ys before behind =
    let parts = and_parts (int_le e.rank s) (list_all (λ (f : PlainEvent). int_le f.rank s) xs) before in
    and_from _ _ (or_left (int_le e.rank s) (int_le t e.rank) parts.0) (either s t xs ys parts.1 behind)

-- what is before one time is before a later one
list_all-later : (s t : ℤ) (es : List PlainEvent) → int_lt s t ≡ true → list_all (λ (e : PlainEvent). int_le e.rank s) es ≡ true → list_all (λ (e : PlainEvent). int_le e.rank t) es ≡ true
list_all-later s t [] lt all = refl
list_all-later s t (e ∷ es) lt all =
    let parts = and_parts (int_le e.rank s) (list_all (λ (f : PlainEvent). int_le f.rank s) es) all in
    let le : int_le e.rank s ≡ true = parts.0 in
    let here : int_le e.rank t ≡ true = grind (arith, ints) in and_from _ _ here (list_all-later s t es lt parts.1)

-- what is looked up, by parts that are the same
pub looked_up-by : (h k : Holding) (a b c d : Bool) → h ≡ k → a ≡ b → c ≡ d → looked_up h (not a) c ≡ looked_up k (not b) d
looked_up-by h k a b c d first second third =
    ap (λ x. looked_up x (not a) c) first ∙ ap (λ x. looked_up k (not x) c) second ∙ ap (λ x. looked_up k (not b) x) third

module _ {T : Type 0} (rank : T → ℤ) (theory : Theory) (events done left : List PlainEvent) (q : Ground) (before : Pass T) (passing : IsPassing rank theory events done left q before) where
  abbrev current : Currency
  current = is_current theory events

  abbrev s : ℤ
  s = rank before.instant

  abbrev asked : ℤ
  asked = rank before.at

  -- what the present instant does to the property
  abbrev terminated : Bool
  terminated = has_number before.p.0 before.present.ended.items

  abbrev broken : Bool
  broken = excludes_any theory before.present.props before.present.started.items before.p || (is_strong theory q && has_number before.p.0 before.present.started.items)

  -- an instant that breaks it has an event
  broken-there : has_break theory events current q s ≡ true → is_instant events s
  unfolding has_break
  broken-there breaks = ⊎_elim (λ yes. yes)
      (λ none. absurd (false≢true (sym (nothing none) ∙ breaks)))
      (cases_Bool (list_any (λ (e : PlainEvent). int_eq e.rank s) events))
    where
      never : (b x y z : Bool) → x ≡ false → y ≡ false → z ≡ false → ((x || y) || (b && z)) ≡ false
      never b x y z first second third = grind arith

      nothing : list_any (λ (e : PlainEvent). int_eq e.rank s) events ≡ false
          → ((is_terminated theory events current q s || has_effect theory events current (is_clashing theory q) s) || (is_strong theory q && is_initiated theory events current q s)) ≡ false
      nothing none =
          never (is_strong theory q) _ _ _ (has_effect-elsewhere theory events current (is_terminating q) s none)
          (has_effect-elsewhere theory events current (is_clashing theory q) s none) (has_effect-elsewhere theory events current (is_initiating q) s none)

  module _ (all : (wanted : GroundEntry → Bool) → has_effect theory events current wanted s ≡ has_effect theory done current wanted s) where
    joined : (t x b i : Bool) → (t || (x || (b && i))) ≡ ((t || x) || (b && i))
    joined t x b i = grind arith

    broken-by_term : (terminated || broken) ≡ has_break theory events current q s
    unfolding has_break
    broken-by_term =
        ap₂ (λ t x. t || (x || (is_strong theory q && has_number before.p.0 before.present.started.items)))
        (passing.at.ended.same before.p.0 q passing.number ∙ sym (all (is_terminating q)))
        (clashes-number theory events done s before.present passing.at all before.p.0 q passing.number ∙ sym (all (is_clashing theory q)))
        ∙ ap (λ i. is_terminated theory events current q s || (has_effect theory events current (is_clashing theory q) s || (is_strong theory q && i)))
        (passing.at.started.same before.p.0 q passing.number ∙ sym (all (is_initiating q)))
        ∙ joined (is_terminated theory events current q s) (has_effect theory events current (is_clashing theory q) s) (is_strong theory q) (is_initiated theory events current q s)

    pub judged-passing : IsJudged theory events q asked s passing.history (judged before.holding (outcome_of terminated broken))
    judged-passing =
        IsJudged-known theory events q asked s passing.history before.holding terminated broken passing.known
        (passing.at.ended.same before.p.0 q passing.number ∙ sym (all (is_terminating q))) broken-by_term broken-there

  -- ---- the end

  -- where no event is left and the time is reached, it is known whether the property holds
  pub held-passed : left ≡ [] → int_lt s asked ≡ false → held_at_end (judged before.holding (outcome_of terminated broken)) ≡ holds_at theory events q asked
  held-passed none reached =
      let whole : events ≡ done = passing.parts ∙ ap (λ es. done ++ es) none ∙ append-nil done in
      holds-ended theory events q asked s passing.history (judged before.holding (outcome_of terminated broken))
      (judged-passing (λ wanted. ap (λ es. has_effect theory es current wanted s) whole)) reached
      (ap (list_all (λ (e : PlainEvent). int_le e.rank s)) whole ∙ passing.before)

  pub IsComing-end : left ≡ [] → IsComing events left asked s asked
  IsComing-end none = record {
    behind = ap (list_all (λ (e : PlainEvent). int_le asked e.rank)) none;
    leaves = λ earlier. ⊎_elim (λ there. there) (λ end. absurd (false≢true (sym end.1 ∙ earlier))) passing.place;
    place = inr (none, int_lt-same asked);
  }

  -- ---- the next instant

  module _ (after : Pass T) (later : int_lt s (rank after.instant) ≡ true) (coming : IsComing events left asked s (rank after.instant)) where
    abbrev t : ℤ
    t = rank after.instant

    all_done : (wanted : GroundEntry → Bool) → has_effect theory events current wanted s ≡ has_effect theory done current wanted s
    all_done wanted =
        ap (λ es. has_effect theory es current wanted s) passing.parts
        ∙ has_effect-among theory done left current wanted s (none_later s t left later coming.behind)

    last : IsLastBefore events t s
    last = record {
      before = later;
      instant = coming.leaves later;
      last = ap (list_all (λ (e : PlainEvent). int_le e.rank s || int_le t e.rank)) passing.parts ∙ either s t done left passing.before coming.behind;
    }

    pub IsPassing-left : (settled : (r : PropId) → is_in r.0 after.present.current ≡ is_settled theory before.present.props before.present.current before.present.started.items before.present.ended.items r)
        → HasForms theory after.present.props after.present.current → after.present.props ≡ before.present.props → after.present.started.items ≡ [] → after.present.ended.items ≡ []
        → after.p ≡ before.p → after.at ≡ before.at
        → after.holding ≡ looked_up (judged before.holding (outcome_of terminated broken)) (not (int_lt t asked)) (is_in before.p.0 after.present.current)
        → IsPassing rank theory events done left q after
    IsPassing-left settled forms props no_start no_end p at holding =
        let next : IsAt theory events done t after.present =
        IsAt-settled theory events done s before.present passing.at all_done after.present.current settled t after.present last (none_earlier s t done later passing.before) props refl forms no_start no_end in
        let there : term_at before.p.0 after.present.props ≡ Some q = ap (term_at before.p.0) props ∙ passing.number in
        record {
          history = passing.history;
          parts = passing.parts;
          at = next;
          before = list_all-later s t done later passing.before;
          behind = coming.behind;
          place = subst (λ a. is_instant events t ⊎ ((left ≡ []) × IsFalse (int_lt t (rank a)))) (sym at) coming.place;
          number = ap (λ (r : PropId). term_at r.0 after.present.props) p ∙ there;
          known = subst (IsKnown theory events q (rank after.at) t) (sym holding)
              (subst (λ a. IsKnown theory events q (rank a) t (looked_up (judged before.holding (outcome_of terminated broken)) (not (int_lt t asked)) (is_in before.p.0 after.present.current))) (sym at)
              (IsKnown-looked_up theory events q asked s passing.history t last (judged before.holding (outcome_of terminated broken)) (not (int_lt t asked)) (is_in before.p.0 after.present.current)
              (judged-passing all_done) refl (next.current.same before.p.0 q there)));
        }

-- ---- the next event

-- the events behind some of a history are one
is_history-behind : (done left : List PlainEvent) → is_history (done ++ left) ≡ true → is_history left ≡ true
unfolding is_history
is_history-behind [] left ordered = ordered
is_history-behind (e ∷ done) left ordered = is_history-behind done left (and_parts _ _ ordered).1

-- and its first is not behind the others
pub not-behind : (e : PlainEvent) (left : List PlainEvent) → is_history (e ∷ left) ≡ true → list_all (λ (f : PlainEvent). int_le e.rank f.rank) (e ∷ left) ≡ true
unfolding is_history
not-behind e left ordered =
    let both = and_parts _ _ ordered in
    let parts = and_parts (list_all (comes_before e) left) _ both.0 in
    and_from _ _ (int_le-same e.rank)
    (list_all-weaker (comes_before e) (λ (f : PlainEvent). int_le e.rank f.rank) (λ f before. int_le-from e.rank f.rank (comes_before-rank e f before)) left parts.0)

module _ {T : Type 0} (rank : T → ℤ) (theory : Theory) (events done left : List PlainEvent) (e : PlainEvent) (q : Ground) (before : Pass T)
    (passing : IsPassing rank theory events done (e ∷ left) q before) where
  event-there : is_instant events e.rank
  event-there =
      ap (list_any (λ (f : PlainEvent). int_eq f.rank e.rank)) passing.parts ∙ list_any-append (λ (f : PlainEvent). int_eq f.rank e.rank) done (e ∷ left)
      ∙ or_right _ _ (or_left _ _ (int_eq-same e.rank))

  -- it is at the next instant
  pub IsComing-next : IsComing events (e ∷ left) (rank before.at) (rank before.instant) e.rank
  IsComing-next = record {
    behind = not-behind e left (is_history-behind done (e ∷ left) (ap is_history (sym passing.parts) ∙ passing.history));
    leaves = λ earlier. ⊎_elim (λ there. there) (λ end. let none = end.0 in cc) passing.place;
    place = inl event-there;
  }

  -- where the pass has come to it
  pub instant-next : int_lt (rank before.instant) e.rank ≡ false → rank before.instant ≡ e.rank
  instant-next reached =
      let le : int_le (rank before.instant) e.rank ≡ true = (and_parts _ _ passing.behind).0 in
      let same : int_eq (rank before.instant) e.rank ≡ true = grind (arith, ints) in int_eq-is (rank before.instant) e.rank same

  -- it is done
  pub IsPassing-taken : (present : Present) → rank before.instant ≡ e.rank → IsAt theory events (done ++ e ∷ []) e.rank present → KeepsAll before.present.props present.props
      → IsPassing rank theory events (done ++ e ∷ []) left q (record { p = before.p; at = before.at; instant = before.instant; present = present; holding = before.holding })
  IsPassing-taken present here at kept = record {
    history = passing.history;
    parts = passing.parts ∙ sym (append_assoc done (e ∷ []) left);
    at = subst (λ t. IsAt theory events (done ++ e ∷ []) t present) (sym here) at;
    before = list_all-push (λ (f : PlainEvent). int_le f.rank (rank before.instant)) done e passing.before (ap (int_le e.rank) here ∙ int_le-same e.rank);
    behind = (and_parts _ _ passing.behind).1;
    place = inl (subst (is_instant events) (sym here) event-there);
    number = term_at-kept before.present.props present.props kept before.p.0 q passing.number;
    known = passing.known;
  }

-- a pass can be gone on from
pub IsReady-passing : {T : Type 0} (rank : T → ℤ) (theory : Theory) (events done left : List PlainEvent) (q : Ground) (pass : Pass T) → IsPassing rank theory events done left q pass
    → IsReady theory pass.present pass.p
IsReady-passing rank theory events done left q pass passing = record {
  kept = sym (is_some-term pass.p.0 pass.present.props) ∙ ap is_some passing.number;
  started = λ n there. sym (is_some-term n pass.present.props) ∙ passing.at.started.numbers n there;
  forms = passing.at.forms;
}
