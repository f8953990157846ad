-- One event more of the present instant.
use Rattle.std.proofs.Common.{◌≡◌, ℕ, Bool, true, ◌&&◌, ◌||◌, List, [], ◌∷◌, ◌++◌, Some, flat_map, map, refl, sym, ap, subst, ◌∙◌}
use Rattle.std.specs.Prelude.{◌==◌}
use Rattle.std.proofs.lemmas.List.Folds.{list_any-append}
use Rattle.ec_lists.proofs.Integers.{int_eq-same}
use Rattle.ec_terms.specs.declared.ground.Ground.{Ground}
use Rattle.ec_terms.specs.declared.ids.PropId.{PropId}
use Rattle.ec_terms.specs.declared.theory.Theory.{Theory}
use Rattle.ec_terms.specs.Domain.{GroundEntry, entries_of}
use Rattle.ec_terms.specs.Matchable.{IsMatchable}
use Rattle.ec_axioms.specs.Calculus.{Currency, PlainEvent, effects_of, has_effect, is_current, is_initiated, is_initiating, is_terminated, is_terminating}
use Rattle.ec_axioms.proofs.Members.{Contains-from_member}
use Rattle.ec_store.specs.Table.{KeptProp, is_in_order}
use Rattle.ec_numbered.specs.PropSet.{has_number}
use Rattle.ec_exclusive.specs.CurrentProps.{HasForms, is_in}
use Rattle.ec_context.specs.Activity.{IsCurrencyOfTerms}
use Rattle.ec_context.specs.Entries.{shown_entries}
use Rattle.ec_context.specs.Widened.{KeepsAll}
use Rattle.ec_context.specs.declared.entry.Entry.{Entry}
use Rattle.ec_cone.specs.Cone.{cone_effects, cone_rules, is_cone_entry, has_number as has_rule}
use Rattle.ec_cone.specs.Label.{bit_of}
use Rattle.ec_cone.proofs.ConeClosed.{ConeGoesByRules-law}
use Rattle.ec_pass.specs.declared.present.Present.{Present}
use Rattle.ec_pass.specs.Looked.{HasLooked, bits_by, ended_by, started_by}
use Rattle.ec_pass.specs.Numbers.{AreNumbersOf}
use Rattle.ec_pass.specs.Present.{IsAt}
use Rattle.ec_pass.proofs.EffectLemmas.{acts_by, has_effect-more}
use Rattle.ec_pass.proofs.EntryNumbers.{bits-shown, ended-numbers, started-numbers}
use Rattle.ec_pass.proofs.NumberLemmas.{AreNumbersOf-or, AreNumbersOf-same, AreNumbersOf-widened, HasForms-widened}

module _ (theory : Theory) (events done : List PlainEvent) (e : PlainEvent) (before wider after : Present) (at : IsAt theory events done e.rank before)
    (entries : List Entry) (cone : List Bool) (bits_before bits : List ℕ)
    (kept : KeepsAll before.props wider.props) (order : is_in_order wider.props ≡ true) (now : wider.current ≡ before.current)
    (started : wider.started.items ≡ before.started.items) (ended : wider.ended.items ≡ before.ended.items)
    (shown : shown_entries wider.props entries ≡ Some (entries_of theory e.term))
    (looked : HasLooked wider after cone e.rank entries bits_before bits) where
  abbrev current : Currency
  current = is_current theory events

  abbrev table : List KeptProp
  table = wider.props

  current-wider : AreNumbersOf table (λ n. is_in n wider.current) (λ q. current q e.rank)
  current-wider =
      AreNumbersOf-widened before.props table kept order (AreNumbersOf-same (λ n. ap (is_in n) now) (λ q. refl) at.current)

  says : IsCurrencyOfTerms table (λ n _. is_in n wider.current) current e.rank
  says n q there = current-wider.same n q there

  -- one event more, by term
  more : (wanted : GroundEntry → Bool) → has_effect theory (done ++ e ∷ []) current wanted e.rank ≡ (has_effect theory done current wanted e.rank || acts_by theory current wanted e)
  more wanted =
      has_effect-more theory done e current wanted e.rank
      ∙ ap (λ b. has_effect theory done current wanted e.rank || (b && acts_by theory current wanted e)) (int_eq-same e.rank)

  pub IsAt-taken : IsAt theory events (done ++ e ∷ []) e.rank after
  IsAt-taken = record {
    forms = subst (λ rows. HasForms theory rows after.current) (sym looked.props)
        (subst (HasForms theory table) (sym (looked.current ∙ now)) (HasForms-widened before.props table kept theory before.current at.forms));
    current = subst (λ rows. AreNumbersOf rows (λ n. is_in n after.current) (λ q. current q e.rank)) (sym looked.props)
        (AreNumbersOf-same (λ n. ap (is_in n) looked.current) (λ q. refl) current-wider);
    started = subst (λ rows. AreNumbersOf rows (λ n. has_number n after.started.items) (λ q. is_initiated theory (done ++ e ∷ []) current q e.rank)) (sym looked.props)
        (AreNumbersOf-same
        (λ n. ap (has_number n) (looked.started ∙ ap (λ ps. ps ++ flat_map (started_by wider.current e.rank) entries) started)
        ∙ list_any-append (λ (p : PropId). p.0 == n) before.started.items (flat_map (started_by wider.current e.rank) entries))
        (λ q. more (is_initiating q))
        (AreNumbersOf-or (AreNumbersOf-widened before.props table kept order at.started)
        (started-numbers table order wider.current current e says entries (entries_of theory e.term) shown)));
    ended = subst (λ rows. AreNumbersOf rows (λ n. has_number n after.ended.items) (λ q. is_terminated theory (done ++ e ∷ []) current q e.rank)) (sym looked.props)
        (AreNumbersOf-same
        (λ n. ap (has_number n) (looked.ended ∙ ap (λ ps. ps ++ flat_map (ended_by wider.current e.rank) entries) ended)
        ∙ list_any-append (λ (p : PropId). p.0 == n) before.ended.items (flat_map (ended_by wider.current e.rank) entries))
        (λ q. more (is_terminating q))
        (AreNumbersOf-or (AreNumbersOf-widened before.props table kept order at.ended)
        (ended-numbers table order wider.current current e says entries (entries_of theory e.term) shown)));
  }

  pub bits-taken : (p : Ground) → cone ≡ cone_rules theory p → IsMatchable theory → bits_before ≡ [] → bits ≡ map (bit_of current) (cone_effects theory p e)
  unfolding cone_effects effects_of
  bits-taken p is matchable none =
      looked.bits ∙ ap (λ bs. bs ++ flat_map (bits_by cone wider.current e.rank) entries) none
      ∙ bits-shown table order wider.current current e says cone (is_cone_entry theory p) entries (entries_of theory e.term) shown
      (λ g member. ap (λ rules. has_rule rules g.rule) is
      ∙ ConeGoesByRules-law theory p e.term g matchable (Contains-from_member (entries_of theory e.term) g member))
