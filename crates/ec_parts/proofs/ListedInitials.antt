-- A well-formed theory lists its initial properties, and has few.
use Rattle.std.proofs.Common.{◌≡◌, ℕ, ◌+◌, ◌<◌, ◌≤◌, true, false, not, List, [], ◌∷◌, ◌++◌, length, get_or, None, refl, sym, ap, ◌∙◌, arith, length-append}
use Rattle.std.specs.Prelude.{◌==◌, nat_le, nat_lt}
use Rattle.std.specs.List.{list_any, list_all, All}
use Rattle.std.proofs.lemmas.Bool.{and_parts, and_from, false≢true, eq-eqb, or_parts}
use Rattle.std.proofs.lemmas.List.Elements.{All-head, All-tail}
use Rattle.ec_lists.proofs.Booleans.{cond-None}
use Rattle.ec_lists.proofs.Tests.{list_any-none, list_all-weaker, list_all-get_or}
use Rattle.ec_lists.proofs.Options.{None-from_option_map}
use Rattle.ec_terms.specs.declared.pattern.PatArg.{PatArg}
use Rattle.ec_terms.specs.declared.pattern.PatArg.TheVariants.{Var, Any, Fixed}
use Rattle.ec_terms.specs.declared.theory.Initial.{Initial}
use Rattle.ec_terms.specs.declared.theory.Theory.{Theory}
use Rattle.ec_terms.specs.Binding.{stands_at, stands_in, is_small_place, is_open_place, no_values, IsSmall}
use Rattle.ec_terms.specs.Matchable.{IsMatchable}
use Rattle.ec_check.specs.Faults.{first_fault, initial_fault, is_narrow, has_few_variables, is_no_any, least_variable, first_wrong}
use Rattle.ec_check.specs.WellFormed.{IsWellFormed}
use Rattle.ec_check.specs.declared.limits.TheConstants.{MOST_INITIALS}
use Rattle.ec_check.proofs.Matchable.{first_from-none, first_of-none, earlier_fault-none}
use Rattle.ec_changes.specs.LiveLaws.{is_fixed, ListsInitials}
use Rattle.ec_parts.specs.Initials.{IsPlainInitial}
use Rattle.ec_changes.proofs.LiveLists.{FixedInitialsAreListed-law}

-- what an initial property without a fault keeps to
record IsWithin (earlier : List Initial) (i : Initial) : Type 0 where
  before : length earlier < MOST_INITIALS
  no_any : list_all is_no_any i.prop.args ≡ true
  no_variable : (v : ℕ) → v < 16 → stands_in v i.prop ≡ false

IsWithin-no_fault : (earlier : List Initial) (i : Initial) → initial_fault earlier i ≡ None → IsWithin earlier i
unfolding initial_fault least_variable
IsWithin-no_fault earlier i none =
    let full = cond-None (nat_le MOST_INITIALS (length earlier)) _ _ none in
    let narrow = cond-None (not (is_narrow i.prop)) _ _ full.1 in
    let variables = cond-None (not (has_few_variables i.prop.args)) _ _ narrow.1 in
    let any = cond-None (not (list_all is_no_any i.prop.args)) _ _ variables.1 in
    let least = None-from_option_map _ _ any.1 in
    record {
      before = grind (arith, full.0);
      no_any = grind (arith, any.0);
      no_variable = λ v below. first_from-none (λ w. stands_in w i.prop) 16 0 v least (omega arith) (omega arith);
    }

-- places that are no variable and no `_` are fixed
fixed_places : (args : List PatArg) → list_all is_no_any args ≡ true → list_all is_small_place args ≡ true → ((v : ℕ) → v < 16 → list_any (stands_at v) args ≡ false) → list_all is_fixed args ≡ true
fixed_places [] no_any small absent = refl
fixed_places (Fixed a ∷ args) no_any small absent = fixed_places args no_any small absent
fixed_places (Any ∷ args) no_any small absent = absurd (false≢true no_any)
fixed_places (Var v ∷ args) no_any small absent =
    let parts = and_parts (nat_lt v 16) (list_all is_small_place args) small in
    let below : v < 16 = grind (arith, parts.0) in
    let none = or_parts (v == v) (list_any (stands_at v) args) (absent v below) in
    absurd (false≢true (sym none.0 ∙ eq-eqb v v refl))

-- so each initial property has fixed places alone, and there are few
within : (earlier initials : List Initial) → first_fault initial_fault earlier initials ≡ None → length earlier ≤ MOST_INITIALS → length earlier + length initials ≤ MOST_INITIALS
unfolding first_fault
within earlier [] none few = omega (arith, few)
within earlier (i ∷ initials) none few =
    let parts = first_of-none _ _ none in
    let here = (IsWithin-no_fault earlier i parts.0).before in
    let one_more = length-append earlier (i ∷ []) in
    let rest = within (earlier ++ i ∷ []) initials parts.1 (omega (arith, here, one_more)) in omega (arith, rest, one_more)

all_fixed : (earlier initials : List Initial) → first_fault initial_fault earlier initials ≡ None → All (λ (i : Initial). IsSmall i.prop) initials
    → list_all (λ (i : Initial). list_all is_fixed i.prop.args) initials ≡ true
unfolding first_fault
all_fixed earlier [] none small = refl
all_fixed earlier (i ∷ initials) none small =
    let parts = first_of-none _ _ none in
    let here = IsWithin-no_fault earlier i parts.0 in
    let own = (All-head (λ (j : Initial). IsSmall j.prop) i initials small).variables in
    and_from _ _ (fixed_places i.prop.args here.no_any own here.no_variable) (all_fixed (earlier ++ i ∷ []) initials parts.1 (All-tail (λ (j : Initial). IsSmall j.prop) i initials small))

-- no initial property has a fault
no_fault : (theory : Theory) → IsWellFormed theory → first_fault initial_fault [] theory.initials ≡ None
unfolding first_wrong
no_fault theory well_formed =
    let rules = earlier_fault-none _ _ well_formed.no_fault in
    let exclusives = earlier_fault-none _ _ rules.1 in
    let strongs = earlier_fault-none _ _ exclusives.1 in
    (earlier_fault-none _ _ strongs.1).0

pub lists_initials : (theory : Theory) → IsWellFormed theory → IsMatchable theory → ListsInitials theory
lists_initials theory well_formed matchable = FixedInitialsAreListed-law theory (all_fixed [] theory.initials (no_fault theory well_formed) matchable.initials)

pub few_initials : (theory : Theory) → IsWellFormed theory → length theory.initials ≤ MOST_INITIALS
few_initials theory well_formed = let all = within [] theory.initials (no_fault theory well_formed) (omega arith) in omega (arith, all)

-- a place that is fixed is not open
fixed-filled : (args : List PatArg) → list_all is_fixed args ≡ true → list_any (is_open_place no_values) args ≡ false
fixed-filled args fixed = list_any-none (is_open_place no_values) args (list_all-weaker is_fixed (λ place. not (is_open_place no_values place)) each args fixed)
  where
    each : (place : PatArg) → is_fixed place ≡ true → not (is_open_place no_values place) ≡ true
    each (Fixed a) is = refl
    each (Var v) is = absurd (false≢true is)
    each Any is = absurd (false≢true is)

-- so each initial property of a well-formed theory has a term
pub plain_initials : (theory : Theory) → IsWellFormed theory → IsMatchable theory → All IsPlainInitial theory.initials
plain_initials theory well_formed matchable k d below = record {
  small = matchable.initials k d below;
  filled_in = ap not (fixed-filled (get_or theory.initials k d).prop.args
      (list_all-get_or (λ (i : Initial). list_all is_fixed i.prop.args) theory.initials k d (all_fixed [] theory.initials (no_fault theory well_formed) matchable.initials) below));
}
