-- Rows as they are kept by number, against the lists that contracts see.
use Rattle.std.proofs.Common.{◌≡◌, ◌≢◌, ℕ, zero, suc, true, false, cond, IsTrue, List, [], ◌∷◌, get_or, set, length, Option, Some, None, refl, sym, ap, subst, ◌∙◌, ◌⊎◌, ⊎_elim, arith}
use Rattle.std.specs.Prelude.{◌==◌, option_map}
use Rattle.std.proofs.lemmas.Bool.{cases_Bool, false≢true}
use Rattle.std.proofs.lemmas.List.{map-set, set-get_or, get_or_past, length-map}
use Rattle.ec_terms.specs.declared.ids.PropId.{PropId}
use Rattle.ec_numbered.specs.ByNumber.{kept_at}
use Rattle.ec_numbered.specs.PropSet.{has_number, with_number}
use Rattle.ec_numbered.proofs.Numbers.{same_prop, itself}
use Rattle.ec_exclusive.specs.declared.rows.Row.{Row}
use Rattle.ec_exclusive.specs.Added.{neighbours_of, added_of}
use Rattle.ec_exclusive.specs.Kept.{numbers_in, list_at, lists_of, list_with}
use Rattle.ec_exclusive.proofs.KeptLists.{neighbours_of-added_of, added_of-same}

-- the list of a number
pub get_or-lists_of : (lists : List (Option Row)) (n : ℕ) → get_or (lists_of lists) n None ≡ numbers_in (get_or lists n None)
get_or-lists_of [] n = get_or_past [] n None (omega arith) ∙ sym (ap numbers_in (get_or_past {X = Option Row} [] n None (omega arith)))
get_or-lists_of (list ∷ lists) zero = refl
get_or-lists_of (list ∷ lists) (suc n) = get_or-lists_of lists n

pub get_or-list_at : (lists : List (Option Row)) (p : PropId) → get_or (lists_of lists) p.0 None ≡ list_at p lists
get_or-list_at lists p = get_or-lists_of lists p.0

-- a list with the same numbers in place of one
pub lists_of-set : (lists : List (Option Row)) (n : ℕ) (old new : Row) → get_or lists n None ≡ Some old → new.neighbours.items ≡ old.neighbours.items →
    lists_of (set lists n (Some new)) ≡ lists_of lists
lists_of-set lists n old new is same =
    map-set numbers_in lists n (Some new)
    ∙ ap (set (lists_of lists) n) (ap Some same ∙ sym (ap numbers_in is) ∙ sym (get_or-lists_of lists n))
    ∙ set-get_or (lists_of lists) n None

-- lists with the same rows
pub list_at-same : (lists other : List (Option Row)) (q : PropId) → added_of (lists_of other) ≡ added_of (lists_of lists) → list_at q other ≡ list_at q lists
list_at-same lists other q same =
    sym (neighbours_of-added_of q (lists_of other) ∙ get_or-list_at other q) ∙ ap (neighbours_of q) same ∙ neighbours_of-added_of q (lists_of lists) ∙ get_or-list_at lists q

-- as many lists
pub length-same : (lists other : List (Option Row)) → lists_of other ≡ lists_of lists → length other ≡ length lists
length-same lists other same = sym (length-map other numbers_in) ∙ ap length same ∙ length-map lists numbers_in

-- rows that keep the same have the same lists
pub list_at-kept : (lists other : List (Option Row)) → ((n : ℕ) → kept_at n other ≡ kept_at n lists) → (q : PropId) → list_at q other ≡ list_at q lists
list_at-kept lists other same q = ap numbers_in (same q.0)

-- and are the same rows
pub added_of-kept : (lists other : List (Option Row)) → ((n : ℕ) → kept_at n other ≡ kept_at n lists) → added_of (lists_of other) ≡ added_of (lists_of lists)
added_of-kept lists other same = added_of-same (lists_of lists) (lists_of other) (λ n. get_or-lists_of other n ∙ ap numbers_in (same n) ∙ sym (get_or-lists_of lists n))

-- a list into which a property goes where another is among its own
abbrev put_if : PropId → List PropId → PropId → Option (List PropId) → Option (List PropId)
put_if p own q list = cond (has_number q.0 own) (option_map (with_number p) list) list

-- the lists once a property has its own row, where it stands in those of all that stand in it
pub list_with-set : (start lists new : List (Option Row)) (p : PropId) (own : Row) → kept_at p.0 new ≡ Some own → ((n : ℕ) → n ≢ p.0 → kept_at n new ≡ kept_at n lists) →
    ((q : PropId) → IsTrue (has_number q.0 own.neighbours.items) → list_at q lists ≡ option_map (with_number p) (list_at q start)) →
    ((q : PropId) → has_number q.0 own.neighbours.items ≡ false → list_at q lists ≡ list_at q start) →
    (q : PropId) → list_at q new ≡ list_with p own.neighbours.items q (list_at q start)
list_with-set start lists new p own row stay put others q =
    ⊎_elim
    (λ e. let same : p ≡ q = same_prop p q e in
    subst (λ r. list_at r new ≡ list_with p own.neighbours.items r (list_at r start)) same
    (ap numbers_in row ∙ sym (ap (λ b. cond b (Some own.neighbours.items) (put_if p own.neighbours.items p (list_at p start))) (itself p))))
    (λ e. ap numbers_in (stay q.0 (λ is. absurd (false≢true (sym e ∙ equal is)))) ∙ rest (cases_Bool (has_number q.0 own.neighbours.items))
    ∙ sym (ap (λ b. cond b (Some own.neighbours.items) (put_if p own.neighbours.items q (list_at q start))) e))
    (cases_Bool (p.0 == q.0))
  where
    equal : q.0 ≡ p.0 → (p.0 == q.0) ≡ true
    equal is = grind arith

    rest : (has_number q.0 own.neighbours.items ≡ true) ⊎ (has_number q.0 own.neighbours.items ≡ false) → list_at q lists ≡ put_if p own.neighbours.items q (list_at q start)
    rest = ⊎_elim (λ e. put q e ∙ sym (ap (λ b. cond b (option_map (with_number p) (list_at q start)) (list_at q start)) e))
        (λ e. others q e ∙ sym (ap (λ b. cond b (option_map (with_number p) (list_at q start)) (list_at q start)) e))
