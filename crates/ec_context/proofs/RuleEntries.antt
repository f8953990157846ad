-- The entries of an event under rules: where it meets a rule, and under the rules at places.
use Rattle.std.proofs.Common.{◌≡◌, ◌<◌, ◌≤◌, ◌+◌, ℕ, true, false, cond, List, [], ◌∷◌, ◌++◌, length, take, drop, get_or, Option, Some, None, option_map, refl, sym, ap, ap₂, subst, ◌∙◌, ⊎_elim, arith}
use Rattle.std.specs.Prelude.{option_and_then}
use Rattle.std.specs.List.{list_all, cons_option, slice_get}
use Rattle.std.specs.Option.{option_to_list}
use Rattle.std.proofs.lemmas.Bool.{cases_Bool}
use Rattle.std.proofs.lemmas.List.{append_assoc, append-nil, length-append, take-append-drop, take_all, take_more}
use Rattle.std.proofs.lemmas.Option.{slice_get_read}
use Rattle.std.proofs.Math.Seq.{get_or-append_seam}
use Rattle.ec_terms.specs.declared.ground.Ground.{Ground}
use Rattle.ec_terms.specs.declared.theory.Rule.{Rule}
use Rattle.ec_terms.specs.Matching.{Values, binding_of, fits_some, test_holds}
use Rattle.ec_terms.specs.Domain.{GroundEntry, entries_from, entry_of, meets}
use Rattle.ec_store.specs.Table.{KeptProp}
use Rattle.ec_context.specs.declared.entry.Entry.{Entry}
use Rattle.ec_context.specs.Entries.{entry_filled, shown_entries, shown_entry}
use Rattle.ec_context.specs.RulePlaces.{ArePlacesFor, is_for, places_from}
use Rattle.ec_context.specs.Widened.{KeepsAll}
use Rattle.ec_lists.proofs.Options.{cons_option-is_append}
use Rattle.ec_context.proofs.PlaceLemmas.{fits_some-not_for}
use Rattle.ec_context.proofs.EachOf.{each_of-push}
use Rattle.ec_context.proofs.Shown.{shown_entries-kept}

-- ---- one rule

module _ (number : ℕ) (rule : Rule) (event : Ground) where
  -- an event that does not fit has no entry
  pub entry_of-no_fit : fits_some rule.event event ≡ false → entry_of number rule event ≡ None
  unfolding entry_of meets
  entry_of-no_fit not = rw not refl

  -- nor has one of which a test fails
  pub entry_of-no_tests : (values : Values) → values ≡ binding_of rule.event event → fits_some rule.event event ≡ true → list_all (test_holds values) rule.tests ≡ false →
      entry_of number rule event ≡ None
  unfolding entry_of meets
  entry_of-no_tests values same fit fail =
      let failed : list_all (test_holds (binding_of rule.event event)) rule.tests ≡ false = subst (λ vs. list_all (test_holds vs) rule.tests ≡ false) same fail in
      rw (fit, failed) refl

  -- an event that fits, and of which the tests hold, has the rule's entry
  pub entry_of-met : (values : Values) → values ≡ binding_of rule.event event → fits_some rule.event event ≡ true → list_all (test_holds values) rule.tests ≡ true →
      entry_of number rule event ≡ Some (entry_filled number rule values)
  unfolding entry_of meets
  entry_of-met values same fit pass =
      let passed : list_all (test_holds (binding_of rule.event event)) rule.tests ≡ true = subst (λ vs. list_all (test_holds vs) rule.tests ≡ true) same pass in
      subst (λ vs. entry_of number rule event ≡ Some (entry_filled number rule vs)) (sym same) (rw (fit, passed) refl)

-- ---- the rules at places

-- a rule for other events gives no entry
entry_of-not_for : (number : ℕ) (rule : Rule) (event : Ground) → is_for event.name (length event.args) rule ≡ false → entry_of number rule event ≡ None
entry_of-not_for number rule event other = entry_of-no_fit number rule event (fits_some-not_for rule event other)

-- the entry under the rule at a place, if a rule stands there and the event meets it
abbrev entry_at : List Rule → Ground → ℕ → Option GroundEntry
entry_at rules event place = option_and_then (λ rule. entry_of (place + 1) rule event) (slice_get rules place)

-- the entries under the rules at places
unfoldable pub entries_at : List Rule → Ground → List ℕ → List GroundEntry
entries_at rules event [] = []
entries_at rules event (place ∷ places) = cons_option (entry_at rules event place) (entries_at rules event places)

entries_at-append : (rules : List Rule) (event : Ground) (places others : List ℕ) →
    entries_at rules event (places ++ others) ≡ entries_at rules event places ++ entries_at rules event others
unfolding entries_at
entries_at-append rules event [] others = refl
entries_at-append rules event (p ∷ places) others =
    ap (cons_option (entry_at rules event p)) (entries_at-append rules event places others)
    ∙ cons_option-is_append (entry_at rules event p) _
    ∙ sym (append_assoc (option_to_list (entry_at rules event p)) (entries_at rules event places) _)
    ∙ ap (λ es. es ++ entries_at rules event others) (sym (cons_option-is_append (entry_at rules event p) (entries_at rules event places)))

-- the first of the rules behind others
rule_behind : (rules front rest : List Rule) (rule : Rule) (place : ℕ) → front ++ rule ∷ rest ≡ rules → length front ≡ place → slice_get rules place ≡ Some rule
rule_behind rules front rest rule place is same =
    let counted = ap length (sym is) ∙ length-append front (rule ∷ rest) in
    slice_get_read rules (length rules) place rule refl (omega (arith, counted, same))
    (sym (get_or-append_seam front rule rest rule) ∙ ap₂ (λ (rs : List Rule) (n : ℕ). get_or rs n rule) is same)

entries_at-behind : (event : Ground) (rules front rest : List Rule) (place : ℕ) → front ++ rest ≡ rules → length front ≡ place →
    entries_at rules event (places_from place event.name (length event.args) rest) ≡ entries_from (place + 1) rest event
unfolding entries_at entries_from places_from
entries_at-behind event rules front [] place is same = refl
entries_at-behind event rules front (rule ∷ rest) place is same =
    let one_more = length-append front (rule ∷ []) in
    let later = entries_at-behind event rules (front ++ rule ∷ []) rest (place + 1) (append_assoc front (rule ∷ []) rest ∙ is) (omega (arith, one_more, same)) in
    ⊎_elim
    (λ same_event. ap (λ b. entries_at rules event (cond b (place ∷ places_from (place + 1) event.name (length event.args) rest) (places_from (place + 1) event.name (length event.args) rest))) same_event
    ∙ ap₂ (λ (o : Option GroundEntry) (es : List GroundEntry). cons_option o es)
    (ap (option_and_then (λ r. entry_of (place + 1) r event)) (rule_behind rules front rest rule place is same)) later)
    (λ other. ap (λ b. entries_at rules event (cond b (place ∷ places_from (place + 1) event.name (length event.args) rest) (places_from (place + 1) event.name (length event.args) rest))) other
    ∙ later
    ∙ ap (λ o. cons_option o (entries_from (place + 1 + 1) rest event)) (sym (entry_of-not_for (place + 1) rule event other)))
    (cases_Bool (is_for event.name (length event.args) rule))

module _ (event : Ground) (rules : List Rule) (places : List ℕ) (are : ArePlacesFor event rules places) where
  -- the entries under the rules at the first places and at the others are all
  pub entries_at-rest : (n : ℕ) → entries_at rules event (take n places) ++ entries_at rules event (drop n places) ≡ entries_from 1 rules event
  entries_at-rest n =
      sym (entries_at-append rules event (take n places) (drop n places))
      ∙ ap (entries_at rules event) (take-append-drop n places ∙ are)
      ∙ entries_at-behind event rules [] rules 0 refl refl

  pub entries_at-all : (n : ℕ) → length places ≤ n → entries_at rules event (take n places) ≡ entries_from 1 rules event
  entries_at-all n past = ap (entries_at rules event) (take_all n places past ∙ are) ∙ entries_at-behind event rules [] rules 0 refl refl

pub entries_at-none : (rules : List Rule) (event : Ground) → entries_at rules event [] ≡ []
unfolding entries_at
entries_at-none rules event = refl

-- one place more
pub entries_at-more : (rules : List Rule) (event : Ground) (places : List ℕ) (i : ℕ) (rule : Rule) (number : ℕ) → i < length places →
    slice_get rules (get_or places i 0) ≡ Some rule → number ≡ get_or places i 0 + 1 →
    entries_at rules event (take (i + 1) places) ≡ entries_at rules event (take i places) ++ option_to_list (entry_of number rule event)
unfolding entries_at
entries_at-more rules event places i rule number within here numbered =
    ap (entries_at rules event) (take_more places i 0 within)
    ∙ entries_at-append rules event (take i places) (get_or places i 0 ∷ [])
    ∙ ap (λ es. entries_at rules event (take i places) ++ es)
    (cons_option-is_append (entry_at rules event (get_or places i 0)) []
    ∙ append-nil (option_to_list (entry_at rules event (get_or places i 0)))
    ∙ ap (λ o. option_to_list (option_and_then (λ r. entry_of (get_or places i 0 + 1) r event) o)) here
    ∙ ap (λ n. option_to_list (entry_of n rule event)) (sym numbered))

module _ (before after : List KeptProp) (kept : KeepsAll before after) (entries : List Entry) (number : ℕ) (rule : Rule) (event : Ground) (front more : List GroundEntry)
    (grows : more ≡ front ++ option_to_list (entry_of number rule event)) (shown : shown_entries before entries ≡ Some front) where
  -- an entry more
  pub shown_entries-met : (met : Option Entry) (entry : Entry) (longer : List Entry) → met ≡ Some entry →
      option_map (shown_entry after) met ≡ option_map Some (entry_of number rule event) → longer ≡ entries ++ entry ∷ [] → shown_entries after longer ≡ Some more
  shown_entries-met met entry longer there same is = of (entry_of number rule event) refl (ap (option_map (shown_entry after)) (sym there) ∙ same)
    where
      of : (o : Option GroundEntry) → entry_of number rule event ≡ o → Some (shown_entry after entry) ≡ option_map Some o → shown_entries after longer ≡ Some more
      of None found both = cc
      of (Some e) found both =
          let last : shown_entry after entry ≡ Some e = cc in
          ap (shown_entries after) is
          ∙ each_of-push (shown_entry after) entries entry front e (shown_entries-kept before after kept entries _ shown) last
          ∙ ap Some (sym (grows ∙ ap (λ o. front ++ option_to_list o) found))

  -- no entry more
  pub shown_entries-not_met : (met : Option Entry) → met ≡ None → option_map (shown_entry after) met ≡ option_map Some (entry_of number rule event) →
      shown_entries after entries ≡ Some more
  shown_entries-not_met met none same = of (entry_of number rule event) refl (ap (option_map (shown_entry after)) (sym none) ∙ same)
    where
      of : (o : Option GroundEntry) → entry_of number rule event ≡ o → None ≡ option_map Some o → shown_entries after entries ≡ Some more
      of None found both =
          shown_entries-kept before after kept entries _ shown ∙ ap Some (sym (grows ∙ ap (λ o. front ++ option_to_list o) found ∙ append-nil front))
      of (Some e) found both = cc
