-- The entries of one event: none at first, and what a table shows as a beginning of the entries that an event has.
use Rattle.std.proofs.Common.{◌≡◌, ◌+◌, ◌<◌, ℕ, zero, suc, List, [], ◌∷◌, ◌++◌, length, map, Some, sym, ap, subst, ◌∙◌, arith}
use Rattle.std.specs.List.Sorted.{IsStrictlyIncreasing}
use Rattle.std.proofs.lemmas.List.{get_or_append_left, length-append, map-append}
use Rattle.ec_terms.specs.declared.ground.Ground.{Ground}
use Rattle.ec_terms.specs.declared.theory.Theory.{Theory}
use Rattle.ec_terms.specs.Domain.{GroundEntry, entries_of}
use Rattle.ec_terms.proofs.DomainLemmas.{entries_of-ascend}
use Rattle.ec_check.specs.WellFormed.{IsWellFormed}
use Rattle.ec_store.specs.Table.{KeptProp}
use Rattle.ec_context.specs.declared.entry.Entry.{Entry}
use Rattle.ec_context.specs.Entries.{IsEntryList, shown_entries}
use Rattle.ec_context.proofs.Limits.{few_entries}
use Rattle.ec_context.proofs.Shown.{length-shown, rules-shown}

-- a beginning of numbers that rise
IsStrictlyIncreasing-front : (xs ys : List ℕ) → IsStrictlyIncreasing (xs ++ ys) → IsStrictlyIncreasing xs
IsStrictlyIncreasing-front xs ys rises k within =
    let next = rises k (omega (arith, within, length-append xs ys)) in
    let here = get_or_append_left xs ys 0 k (omega (arith, within)) in
    let there = get_or_append_left xs ys 0 (k + 1) within in
    omega (arith, next, here, there)

-- none
pub IsEntryList-none : (entries : List Entry) → entries ≡ [] → IsEntryList entries
IsEntryList-none entries none =
    subst IsEntryList (sym none) (record { few = omega arith; order = λ k within. absurd (omega (arith, within)) })

-- one, and two by ascending numbers
pub IsEntryList-one : (entry : Entry) → IsEntryList (entry ∷ [])
IsEntryList-one entry = record { few = omega arith; order = λ k within. absurd (omega (arith, within)) }

pub IsEntryList-two : (first second : Entry) → first.rule < second.rule → IsEntryList (first ∷ second ∷ [])
IsEntryList-two first second rises = record { few = omega arith; order = order }
  where
    order : IsStrictlyIncreasing (first.rule ∷ second.rule ∷ [])
    order zero within = rises
    order (suc k) within = absurd (omega (arith, within))

-- a beginning of what an event has by a well-formed theory
pub IsEntryList-shown : (theory : Theory) (event : Ground) → IsWellFormed theory → (table : List KeptProp) (entries : List Entry) (front rest : List GroundEntry) →
    shown_entries table entries ≡ Some front → front ++ rest ≡ entries_of theory event → IsEntryList entries
IsEntryList-shown theory event well_formed table entries front rest shown is =
    let rule_of : GroundEntry → ℕ = λ e. e.rule in
    let same = length-shown table entries front shown in
    let few = few_entries theory event well_formed in
    let both = length-append front rest in
    let all = ap length is in
    let rises : IsStrictlyIncreasing (map rule_of front ++ map rule_of rest) =
    subst IsStrictlyIncreasing (ap (map rule_of) (sym is) ∙ map-append rule_of front rest) (entries_of-ascend theory event) in
    record {
      few = omega (arith, same, few, both, all);
      order = subst IsStrictlyIncreasing (sym (rules-shown table entries front shown)) (IsStrictlyIncreasing-front (map rule_of front) (map rule_of rest) rises);
    }
