-- Behind an instant the numbers that are settled are those of the properties that are current there.
use Rattle.std.proofs.Common.{◌≡◌, ℕ, ℤ, Bool, true, false, not, ◌&&◌, ◌||◌, List, [], Some, sym, ap, ap₂, subst, ◌∙◌, ⊎_elim, arith}
use Rattle.std.specs.Prelude.{◌==◌}
use Rattle.std.specs.List.{list_any}
use Rattle.std.specs.Ordering.{int_eq}
use Rattle.std.proofs.lemmas.Bool.{and_parts, eqb-true, or_cases}
use Rattle.ec_lists.proofs.Booleans.{Bool-from_both}
use Rattle.ec_lists.proofs.Options.{Some-from_is_some}
use Rattle.ec_terms.specs.declared.ground.Ground.{Ground}
use Rattle.ec_terms.specs.declared.ids.PropId.{PropId}
use Rattle.ec_terms.specs.declared.theory.Theory.{Theory}
use Rattle.ec_terms.specs.Domain.{GroundEntry, is_strong}
use Rattle.ec_terms.proofs.DomainLemmas.{are_exclusive-comm}
use Rattle.ec_axioms.specs.Calculus.{Currency, PlainEvent, has_break, has_effect, is_clashing, is_current, is_initiated, is_initiating, is_terminated, is_terminating}
use Rattle.ec_axioms.specs.Plain.{IsLastBefore}
use Rattle.ec_axioms.proofs.LastInstant.{is_current-last}
use Rattle.ec_axioms.proofs.Members.{list_any-member, member-list_any}
use Rattle.ec_store.specs.Table.{KeptProp, term_at}
use Rattle.ec_numbered.specs.PropSet.{has_number}
use Rattle.ec_numbered.proofs.Numbers.{itself}
use Rattle.ec_exclusive.specs.CurrentProps.{HasForms, MemberForms, is_in}
use Rattle.ec_exclusive.specs.Neighbours.{both_exclusive, exclusive_at}
use Rattle.ec_exclusive.proofs.KeptLists.{numbered}
use Rattle.ec_pass.specs.declared.present.Present.{Present}
use Rattle.ec_pass.specs.Numbers.{AreNumbersOf}
use Rattle.ec_pass.specs.Present.{IsAt}
use Rattle.ec_pass.specs.Settled.{excludes_any, is_settled}
use Rattle.ec_pass.proofs.EffectLemmas.{clash_from, clash_to, has_effect-elsewhere}
use Rattle.ec_pass.proofs.NumberLemmas.{AreNumbersOf-none, AreNumbersOf-same}

module _ (theory : Theory) (events done : List PlainEvent) (s : ℤ) (present : Present) (at : IsAt theory events done s present)
    (all : (wanted : GroundEntry → Bool) → has_effect theory events (is_current theory events) wanted s ≡ has_effect theory done (is_current theory events) wanted s) where
  abbrev current : Currency
  current = is_current theory events

  abbrev table : List KeptProp
  table = present.props

  abbrev started : List PropId
  started = present.started.items

  -- a kept property clashes with something that started
  pub clashes-number : (n : ℕ) (q : Ground) → term_at n table ≡ Some q
      → excludes_any theory table started (numbered n) ≡ has_effect theory done current (is_clashing theory q) s
  clashes-number n q there =
      Bool-from_both (excludes_any theory table started (numbered n)) (has_effect theory done current (is_clashing theory q) s)
      (λ excluded.
      let found = list_any-member (λ p. exclusive_at theory table p (numbered n)) started excluded in
      let p = found.0 in
      let has : has_number p.0 started ≡ true = member-list_any (λ (r : PropId). r.0 == p.0) started p found.1 (itself p) in
      let term = Some-from_is_some (term_at p.0 table) (at.started.numbers p.0 has) in
      clash_to theory done current q s term.0 (sym (at.started.same p.0 term.0 term.1) ∙ has)
      (are_exclusive-comm theory q term.0 ∙ sym (ap₂ (both_exclusive theory) term.1 there) ∙ found.2))
      (λ clashes.
      let found = clash_from theory done current q s clashes in
      let own = at.started.terms found.0 found.1 in
      let has : has_number own.0 started ≡ true = at.started.same own.0 found.0 own.1 ∙ found.1 in
      let member = list_any-member (λ (r : PropId). r.0 == own.0) started has in
      let number : term_at member.0.0 table ≡ Some found.0 = ap (λ m. term_at m table) (eqb-true member.0.0 own.0 member.2) ∙ own.1 in
      member-list_any (λ p. exclusive_at theory table p (numbered n)) started member.0 member.1
      (ap₂ (both_exclusive theory) number there ∙ are_exclusive-comm theory found.0 q ∙ found.2))

  -- what is current behind the instant
  abbrev current_behind : Ground → Bool
  current_behind q = is_initiated theory events current q s || (current q s && not (has_break theory events current q s))

  joined : (c e x i b : Bool) → (((c && not e) && not x) || i) ≡ (i || (c && not ((e || x) || (b && i))))
  joined c e x true b = grind arith
  joined c e x false b = grind arith

  settled-term : (n : ℕ) (q : Ground) → term_at n table ≡ Some q → is_settled theory table present.current started present.ended.items (numbered n) ≡ current_behind q
  unfolding has_break
  settled-term n q there =
      ap₂ (λ c e. ((c && not e) && not (excludes_any theory table started (numbered n))) || has_number n started)
      (at.current.same n q there) (at.ended.same n q there ∙ sym (all (is_terminating q)))
      ∙ ap₂ (λ x i. ((current q s && not (is_terminated theory events current q s)) && not x) || i)
      (clashes-number n q there ∙ sym (all (is_clashing theory q))) (at.started.same n q there ∙ sym (all (is_initiating q)))
      ∙ joined (current q s) (is_terminated theory events current q s) (has_effect theory events current (is_clashing theory q) s) (is_initiated theory events current q s) (is_strong theory q)

  module _ (after : MemberForms) (settled : (q : PropId) → is_in q.0 after ≡ is_settled theory table present.current started present.ended.items q) where
    settled-numbers : AreNumbersOf table (λ n. is_in n after) current_behind
    settled-numbers = record {
      same = λ n q there. settled (numbered n) ∙ settled-term n q there;
      numbers = λ n passes. ⊎_elim
          (λ stays. at.current.numbers n (and_parts _ _ (and_parts _ _ stays).0).0)
          (at.started.numbers n)
          (or_cases _ (has_number n started) (sym (settled (numbered n)) ∙ passes));
      terms = λ q passes. ⊎_elim
          (λ initiated. at.started.terms q (sym (all (is_initiating q)) ∙ initiated))
          (λ stays. at.current.terms q (and_parts _ _ stays).0)
          (or_cases (is_initiated theory events current q s) _ passes);
    }

    -- the present at the next time
    pub IsAt-settled : (t : ℤ) (next : Present) → IsLastBefore events t s → list_any (λ (e : PlainEvent). int_eq e.rank t) done ≡ false → next.props ≡ table
        → next.current ≡ after → HasForms theory next.props next.current → next.started.items ≡ [] → next.ended.items ≡ [] → IsAt theory events done t next
    IsAt-settled t next last none props now forms no_start no_end = record {
      forms = forms;
      current = subst (λ rows. AreNumbersOf rows (λ n. is_in n next.current) (λ q. current q t)) (sym props)
          (AreNumbersOf-same (λ n. ap (is_in n) now) (λ q. is_current-last theory events q t s last) settled-numbers);
      started = AreNumbersOf-same (λ n. ap (has_number n) no_start) (λ q. has_effect-elsewhere theory done current (is_initiating q) t none) AreNumbersOf-none;
      ended = AreNumbersOf-same (λ n. ap (has_number n) no_end) (λ q. has_effect-elsewhere theory done current (is_terminating q) t none) AreNumbersOf-none;
    }
