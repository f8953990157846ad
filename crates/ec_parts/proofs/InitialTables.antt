-- Tables that keep initial properties alone.
use Rattle.std.proofs.Common.{◌≡◌, ℕ, ◌+◌, true, false, Bool, ◌||◌, ◌<◌, List, [], ◌∷◌, ◌++◌, take, get_or, length, Option, Some, None, is_some, IsTrue, IsSome, IfSome, refl, sym, ap, subst, ◌∙◌, ◌⊎◌, inl, inr, ⊎_elim, arith}
use Rattle.std.specs.Prelude.{◌==◌, option_map, slice_get}
use Rattle.std.proofs.lemmas.List.{take_more}
use Rattle.std.proofs.lemmas.Option.{get_or_from_slice_get, same_Some}
use Rattle.std.specs.List.{list_any}
use Rattle.std.proofs.lemmas.Bool.{cases_Bool, false≢true, eqb-true, eq-eqb, or_left, or_right}
use Rattle.std.proofs.lemmas.List.Folds.{list_any-append}
use Rattle.std.proofs.Math.Bool.{or-false}
use Rattle.ec_lists.proofs.Booleans.{or_first}
use Rattle.ec_lists.proofs.Finds.{is_some-find}
use Rattle.ec_lists.proofs.Options.{is_some-option_map}
use Rattle.ec_terms.specs.declared.ids.PropId.{PropId}
use Rattle.ec_terms.specs.declared.ground.Ground.{Ground}
use Rattle.ec_terms.specs.Term.{term_eq}
use Rattle.ec_terms.proofs.OrderLemmas.{term_eq-Decides}
use Rattle.ec_context.specs.Widened.{KeepsAll}
use Rattle.ec_context.proofs.Tables.{mentions_at-with_prop, without-with_prop}
use Rattle.ec_context.proofs.Shown.{term_at-kept}
use Rattle.ec_numbered.specs.PropSet.{has_number, with_number}
use Rattle.ec_numbered.proofs.Numbers.{has_number-with_number}
use Rattle.ec_store.specs.Table.{KeptProp, prop_at, prop_of, term_at, mentions_at, with_prop, without_prop, with_mentions}
use Rattle.ec_store.proofs.PropLemmas.{term_at-with_mentions, mentions_at-with_mentions, prop_at-with_other_mentions, prop_at-without_other}
use Rattle.ec_parts.specs.Initials.{KeepsOnce}
use Rattle.ec_parts.proofs.LinksByNumber.{IsOneToOne}
use Rattle.ec_parts.proofs.CachesKept.{prop_of-moved}
use Rattle.ec_parts.proofs.OneMention.{prop_of-there}

-- a term more among some
any_more : (p term : Ground) (terms : List Ground) → list_any (term_eq p) (terms ++ term ∷ []) ≡ (list_any (term_eq p) terms || term_eq p term)
any_more p term terms = list_any-append (term_eq p) terms (term ∷ []) ∙ ap (λ b. list_any (term_eq p) terms || b) (or-false (term_eq p term))

-- one term more, which the table keeps already
pub KeepsOnce-known : (terms : List Ground) (term : Ground) (table after : List KeptProp) → after ≡ table → IsSome (prop_of term table) → KeepsOnce terms table → KeepsOnce (terms ++ term ∷ []) after
KeepsOnce-known terms term table after same known once =
    subst (KeepsOnce (terms ++ term ∷ [])) (sym same)
    (record {
      all = λ p any. ⊎_elim (λ own. subst (λ t. IsSome (prop_of t table)) (sym ((term_eq-Decides p term).0 own)) known)
          (λ other. once.all p (or_first (list_any (term_eq p) terms) (term_eq p term) other (sym (any_more p term terms) ∙ any))) (cases_Bool (term_eq p term));
      only = λ id p is. any_more p term terms ∙ or_left _ (term_eq p term) (once.only id p is);
      once = once.once;
    })

-- a known term is mentioned once
pub once-known : (terms : List Ground) (term : Ground) (table : List KeptProp) (id : ℕ) → KeepsOnce terms table → term_at id table ≡ Some term → mentions_at id table ≡ Some 1
once-known terms term table id once is = once.once id term is

module _ (terms : List Ground) (term : Ground) (table more after : List KeptProp) (id : ℕ) (one : IsOneToOne table) (unknown : prop_of term table ≡ None) (free : prop_at id table ≡ None)
    (kept : KeepsAll table more) (own : term_at id more ≡ Some term) (alone : more ≡ with_prop id term table) (is : after ≡ with_mentions id 1 more) where
  -- the new number is the only one
  others-kept : (n : ℕ) → (n ≡ id → ⊥) → prop_at n more ≡ prop_at n table
  others-kept n other = sym (prop_at-without_other id n more other) ∙ ap (prop_at n) (ap (without_prop id) alone ∙ without-with_prop id term table one.in_order unknown free)

  term-after : (n : ℕ) → term_at n after ≡ term_at n more
  term-after n = ap (term_at n) is ∙ term_at-with_mentions id 1 n more

  own_term : (n : ℕ) (p : Ground) → term_at n more ≡ Some p → n ≡ id → p ≡ term
  own_term n p there same = same_Some p term (sym there ∙ ap (λ m. term_at m more) same ∙ own)

  -- one term more, which is new
  pub KeepsOnce-new : KeepsOnce terms table → KeepsOnce (terms ++ term ∷ []) after
  KeepsOnce-new once = record {
    all = λ p any. all p any (cases_Bool (term_eq p term));
    only = λ n p there. only n p (sym (term-after n) ∙ there) (cases_Bool (n == id));
    once = λ n p there. counted n p (sym (term-after n) ∙ there) (cases_Bool (n == id));
  }
    where
      all : (p : Ground) → IsTrue (list_any (term_eq p) (terms ++ term ∷ [])) → (term_eq p term ≡ true) ⊎ (term_eq p term ≡ false) → IsSome (prop_of p after)
      all p any (inl same) = prop_of-there after id p (term-after id ∙ own ∙ ap Some (sym ((term_eq-Decides p term).0 same)))
      all p any (inr other) =
          prop_of-moved table after p one (λ n there. term-after n ∙ term_at-kept table more kept n p there)
          (once.all p (or_first (list_any (term_eq p) terms) (term_eq p term) other (sym (any_more p term terms) ∙ any)))

      only : (n : ℕ) (p : Ground) → term_at n more ≡ Some p → ((n == id) ≡ true) ⊎ ((n == id) ≡ false) → list_any (term_eq p) (terms ++ term ∷ []) ≡ true
      only n p there (inl same) = any_more p term terms ∙ or_right (list_any (term_eq p) terms) _ ((term_eq-Decides p term).1 (own_term n p there (eqb-true n id same)))
      only n p there (inr other) =
          any_more p term terms
          ∙ or_left _ (term_eq p term) (once.only n p (ap (option_map (λ (k : KeptProp). k.term)) (sym (others-kept n (λ same. false≢true (sym other ∙ eq-eqb n id same)))) ∙ there))

      counted : (n : ℕ) (p : Ground) → term_at n more ≡ Some p → ((n == id) ≡ true) ⊎ ((n == id) ≡ false) → mentions_at n after ≡ Some 1
      counted n p there (inl same) =
          ap (λ m. mentions_at m after) (eqb-true n id same) ∙ ap (mentions_at id) is
          ∙ mentions_at-with_mentions id 1 more (sym (is_some-option_map (λ (k : KeptProp). k.term) (prop_at id more)) ∙ ap is_some own)
      counted n p there (inr other) =
          let apart : n ≡ id → ⊥ = λ same. false≢true (sym other ∙ eq-eqb n id same) in
          let before = others-kept n apart in
          ap (mentions_at n) is
          ∙ ap (option_map (λ (k : KeptProp). k.mentions)) (prop_at-with_other_mentions id 1 n more apart ∙ before)
          ∙ once.once n p (ap (option_map (λ (k : KeptProp). k.term)) (sym before) ∙ there)

-- ---- a term that is interned

-- a term is kept in a table, under a number that is counted so often
pub record IsInterned (term : Ground) (table more : List KeptProp) (id count : ℕ) : Type 0 where
  pub one : IsOneToOne table
  pub same : IsSome (prop_of term table) → more ≡ table
  pub free : prop_of term table ≡ None → prop_at id table ≡ None
  pub alone : prop_of term table ≡ None → more ≡ with_prop id term table
  pub kept : KeepsAll table more
  pub own : term_at id more ≡ Some term
  pub counted : mentions_at id more ≡ Some count

module _ (terms : List Ground) (term : Ground) (table more after : List KeptProp) (id count : ℕ) (interned : IsInterned term table more id count) where
  -- a term that was kept is counted once
  known-once : IsSome (prop_of term table) → KeepsOnce terms table → count ≡ 1
  known-once known once =
      let here = once.once id term (ap (term_at id) (sym (interned.same known)) ∙ interned.own) in
      same_Some count 1 (sym interned.counted ∙ ap (mentions_at id) (interned.same known) ∙ here)

  -- counted 0 times it is new, and is counted once from then on
  pub KeepsOnce-counted : count ≡ 0 → IfSome (mentions_at id more) (λ n. after ≡ with_mentions id (n + 1) more) → KeepsOnce terms table → KeepsOnce (terms ++ term ∷ []) after
  KeepsOnce-counted none is once = of (prop_of term table) refl
    where
      differ : (n : ℕ) → n ≡ 0 → n ≡ 1 → ⊥
      differ n a b = omega arith

      of : (o : Option ℕ) → prop_of term table ≡ o → KeepsOnce (terms ++ term ∷ []) after
      of (Some n) there = absurd (differ count none (known-once (ap is_some there) once))
      of None unknown =
          KeepsOnce-new terms term table more after id interned.one unknown (interned.free unknown) interned.kept interned.own (interned.alone unknown)
          (subst (λ o. IfSome o (λ n. after ≡ with_mentions id (n + 1) more)) (interned.counted ∙ ap Some none) is) once

  -- else it was kept
  pub KeepsOnce-uncounted : (count ≡ 0 → ⊥) → after ≡ more → KeepsOnce terms table → KeepsOnce (terms ++ term ∷ []) after
  KeepsOnce-uncounted some is once = of (prop_of term table) refl
    where
      of : (o : Option ℕ) → prop_of term table ≡ o → KeepsOnce (terms ++ term ∷ []) after
      of (Some n) there = KeepsOnce-known terms term table after (is ∙ interned.same (ap is_some there)) (ap is_some there) once
      of None unknown =
          absurd (some (same_Some count 0 (sym interned.counted ∙ ap (mentions_at id) (interned.alone unknown) ∙ mentions_at-with_prop id term table interned.one.in_order unknown (interned.free unknown))))

-- ---- the numbers of a table

-- a table keeps something under a number exactly where one of its members has it
pub kept-any : (table : List KeptProp) (id : ℕ) → is_some (prop_at id table) ≡ list_any (λ (kept : KeptProp). kept.id == id) table
kept-any table id = is_some-find (λ (kept : KeptProp). kept.id == id) table

-- one number more among the first members
pub number-more : (table : List KeptProp) (i : ℕ) (number : PropId) (before after : List PropId) → i < length table → option_map (λ (kept : KeptProp). kept.id) (slice_get table i) ≡ Some number.0
    → after ≡ with_number number before → ((id : ℕ) → has_number id before ≡ list_any (λ (kept : KeptProp). kept.id == id) (take i table))
    → (id : ℕ) → has_number id after ≡ list_any (λ (kept : KeptProp). kept.id == id) (take (i + 1) table)
number-more table i number before after below is with so_far id = of (slice_get table i) refl is
  where
    last : (a b : Bool) → (a || b) ≡ (b || (a || false))
    last a b = grind arith

    of : (o : Option KeptProp) → slice_get table i ≡ o → option_map (λ (kept : KeptProp). kept.id) o ≡ Some number.0 → has_number id after ≡ list_any (λ (kept : KeptProp). kept.id == id) (take (i + 1) table)
    of None there is = cc
    of (Some k) there is =
        let own : k.id ≡ number.0 = cc in
        let item : get_or table i k ≡ k = get_or_from_slice_get table i k k there in
        ap (has_number id) with ∙ has_number-with_number (record { 0 = id }) number before ∙ ap (λ b. (number.0 == id) || b) (so_far id)
        ∙ last (number.0 == id) (list_any (λ (kept : KeptProp). kept.id == id) (take i table))
        ∙ ap (λ n. list_any (λ (kept : KeptProp). kept.id == id) (take i table) || ((n == id) || false)) (sym own ∙ ap (λ (kept : KeptProp). kept.id) (sym item))
        ∙ sym (list_any-append (λ (kept : KeptProp). kept.id == id) (take i table) (get_or table i k ∷ []))
        ∙ ap (list_any (λ (kept : KeptProp). kept.id == id)) (sym (take_more table i k below))
