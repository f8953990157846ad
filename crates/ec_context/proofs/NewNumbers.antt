-- Which numbers are new: those of heads and literals, and no others.
use Rattle.std.proofs.Common.{◌≡◌, ℕ, Bool, true, false, ◌||◌, List, [], ◌∷◌, ◌++◌, Option, Some, None, is_some, refl, sym, ap, subst, ◌∙◌, ⊎_elim, arith}
use Rattle.std.specs.Prelude.{◌==◌}
use Rattle.std.specs.List.{list_any}
use Rattle.std.specs.Option.{option_to_list}
use Rattle.std.proofs.lemmas.Bool.{cases_Bool, false≢true, or_left}
use Rattle.std.proofs.Math.Bool.{or-false}
use Rattle.std.proofs.lemmas.List.{append-nil}
use Rattle.std.proofs.lemmas.List.Folds.{list_any-append}
use Rattle.ec_terms.specs.declared.ids.PropId.{PropId}
use Rattle.ec_numbered.specs.PropSet.{has_number}
use Rattle.ec_store.specs.Table.{KeptProp, prop_at}
use Rattle.ec_context.specs.declared.entry.Entry.{Entry}
use Rattle.ec_context.specs.declared.entry.EntryLiteral.{EntryLiteral}
use Rattle.ec_context.specs.Entries.{NamesAllNew, is_named, is_of}
use Rattle.ec_context.specs.Widened.{AddsOnly, HasKept, without_props}
use Rattle.ec_context.proofs.Tables.{has_number-push, prop_at-without_props, without_props-none}

or_three : (a b c d : Bool) → (b ≡ true → (a || c) ≡ true) → (b || d) ≡ true → (a || (c || d)) ≡ true
or_three a true c d first second = let e = first refl in grind arith
or_three a false c d first second = grind arith

-- nothing is new where the list is the same
pub AddsOnly-same : (test : ℕ → Bool) (before after : List PropId) → after ≡ before → AddsOnly test before after
AddsOnly-same test before after same id there = or_left (has_number id before) (test id) (ap (has_number id) (sym same) ∙ there)

-- one number more
pub AddsOnly-push : (before after : List PropId) (p : PropId) → after ≡ before ++ p ∷ [] → AddsOnly (λ id. p.0 == id) before after
AddsOnly-push before after p is id there = sym (has_number-push id before p) ∙ ap (has_number id) (sym is) ∙ there

-- and then others
pub AddsOnly-then : (test next : ℕ → Bool) (first second third : List PropId) → AddsOnly test first second → AddsOnly next second third →
    AddsOnly (λ id. test id || next id) first third
AddsOnly-then test next first second third before after id there = or_three (has_number id first) (has_number id second) (test id) (next id) (before id) (after id there)

-- the same test in other words
AddsOnly-by : (test other : ℕ → Bool) (before after : List PropId) → ((id : ℕ) → test id ≡ other id) → AddsOnly test before after → AddsOnly other before after
AddsOnly-by test other before after same adds id there = ap (λ b. has_number id before || b) (sym (same id)) ∙ adds id there

-- a literal more
pub AddsOnly-literal : (first second third : List PropId) (literals more : List EntryLiteral) (literal : EntryLiteral) → more ≡ literals ++ literal ∷ [] →
    AddsOnly (λ id. list_any (is_of id) literals) first second → AddsOnly (λ id. is_of id literal) second third → AddsOnly (λ id. list_any (is_of id) more) first third
AddsOnly-literal first second third literals more literal is before after =
    AddsOnly-by (λ id. list_any (is_of id) literals || is_of id literal) (λ id. list_any (is_of id) more) first third (λ id. ap (λ b. list_any (is_of id) literals || b) (sym (or-false (is_of id literal))) ∙ sym (list_any-append (is_of id) literals (literal ∷ [])) ∙ ap (list_any (is_of id)) (sym is))
    (AddsOnly-then (λ id. list_any (is_of id) literals) (λ id. is_of id literal) first second third before after)

-- one entry
pub AddsOnly-one : (entry : Entry) (before after : List PropId) → AddsOnly (λ id. is_named id entry) before after →
    AddsOnly (λ id. list_any (is_named id) (option_to_list (Some entry))) before after
AddsOnly-one entry before after adds =
    AddsOnly-by (λ id. is_named id entry) (λ id. list_any (is_named id) (entry ∷ [])) before after (λ id. sym (or-false (is_named id entry))) adds

module _ (first second third : List PropId) (entries : List Entry) (met : Option Entry) where
  entries_then : AddsOnly (λ id. list_any (is_named id) entries) first second → AddsOnly (λ id. list_any (is_named id) (option_to_list met)) second third →
      AddsOnly (λ id. list_any (is_named id) (entries ++ option_to_list met)) first third
  entries_then before after =
      AddsOnly-by (λ id. list_any (is_named id) entries || list_any (is_named id) (option_to_list met)) (λ id. list_any (is_named id) (entries ++ option_to_list met)) first third
      (λ id. sym (list_any-append (is_named id) entries (option_to_list met)))
      (AddsOnly-then (λ id. list_any (is_named id) entries) (λ id. list_any (is_named id) (option_to_list met)) first second third before after)

  -- an entry more
  pub AddsOnly-met : (entry : Entry) (more : List Entry) → met ≡ Some entry → more ≡ entries ++ entry ∷ [] →
      AddsOnly (λ id. list_any (is_named id) entries) first second → AddsOnly (λ id. list_any (is_named id) (option_to_list met)) second third →
      AddsOnly (λ id. list_any (is_named id) more) first third
  AddsOnly-met entry more there is before after =
      subst (λ es. AddsOnly (λ id. list_any (is_named id) es) first third) (ap (λ o. entries ++ option_to_list o) there ∙ sym is) (entries_then before after)

  -- no entry more
  pub AddsOnly-not_met : (more : List Entry) → met ≡ None → more ≡ entries →
      AddsOnly (λ id. list_any (is_named id) entries) first second → AddsOnly (λ id. list_any (is_named id) (option_to_list met)) second third →
      AddsOnly (λ id. list_any (is_named id) more) first third
  AddsOnly-not_met more none is before after =
      subst (λ es. AddsOnly (λ id. list_any (is_named id) es) first third) (ap (λ o. entries ++ option_to_list o) none ∙ append-nil entries ∙ sym is) (entries_then before after)

-- from an empty list of new numbers on, all that is new is named
pub names_all_new : (before after : List KeptProp) (none added : List PropId) (entries : List Entry) → none ≡ [] → HasKept before none after added →
    AddsOnly (λ id. list_any (is_named id) entries) none added → NamesAllNew before after entries
names_all_new before after none added entries empty has adds id absent there =
    ⊎_elim
    (λ among. ap (λ ps. has_number id ps || list_any (is_named id) entries) (sym empty) ∙ adds id among)
    (λ other. let gone : is_some (prop_at id after) ≡ false =
    ap is_some
    (sym (prop_at-without_props added id after other) ∙ ap (prop_at id) (has.back ∙ ap (λ ps. without_props ps before) empty ∙ without_props-none before) ∙ absent) in
    absurd (false≢true (sym gone ∙ there)))
    (cases_Bool (has_number id added))
