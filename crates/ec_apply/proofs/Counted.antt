-- The properties with other intervals, counted among the touched ones.
use Rattle.std.proofs.Common.{◌≡◌, ℕ, Bool, true, false, cond, not, List, [], ◌∷◌, length, filter, filter_map, Option, Some, None, IsTrue, IsFalse, refl, sym, ap, subst, ◌∙◌, inl, inr, ⊎_elim, suc}
use Rattle.std.specs.Prelude.{◌==◌}
use Rattle.std.specs.List.{cons_option, list_any, IsDistinct}
use Rattle.std.specs.Option.{option_map_or}
use Rattle.std.proofs.lemmas.Bool.{cases_Bool, false≢true, false_from_ne_true, eq-eqb, eqb-true}
use Rattle.ec_terms.specs.declared.ground.Ground.{Ground}
use Rattle.ec_terms.specs.declared.theory.Theory.{Theory}
use Rattle.ec_terms.specs.Term.{term_eq}
use Rattle.ec_terms.proofs.OrderLemmas.{term_eq-Decides}
use Rattle.ec_axioms.specs.Calculus.{PlainEvent, intervals_of}
use Rattle.ec_axioms.specs.Changes.{change_counts, has_other_intervals}
use Rattle.ec_axioms.proofs.Members.{IsMember, IsPairwise, list_all-member, member-list_any}
use Rattle.ec_changes.specs.LiveLaws.{ListsInitials}
use Rattle.ec_changes.proofs.DistinctLists.{IsDistinct-from_pairwise}
use Rattle.ec_changes.proofs.OtherIntervals.{OtherIntervalsDiffer-law, PropertiesInAnyList-law}
use Rattle.ec_rows.proofs.OrderedLemmas.{ascending-first, ascending-rest}
use Rattle.ec_store.specs.Table.{KeptProp, term_at}
use Rattle.ec_parts.proofs.LinksByNumber.{IsOneToOne, same_number}
use Rattle.ec_delta.specs.declared.touches.Touched.{Touched}
use Rattle.ec_delta.specs.Touched.{Row, are_once, matters_at, touched_at}

module _ {T : Type 0} (theory : Theory) (old new : List PlainEvent) (table : List KeptProp) (one : IsOneToOne table) where
  -- the term of a touched property that matters
  abbrev mattering : Row T → Option Ground
  mattering row = cond row.1.matters (term_at row.0 table) None

  -- the terms of those properties
  abbrev terms_in : List (Row T) → List Ground
  terms_in rows = filter_map mattering rows

  -- what a row that has a term is kept under
  own_term : (row : Row T) (q : Ground) → mattering row ≡ Some q → term_at row.0 table ≡ Some q
  own_term row q is = by_test (term_at row.0 table) row.1.matters is
    where
      by_test : (o : Option Ground) (b : Bool) → cond b o None ≡ Some q → o ≡ Some q
      by_test o true e = e
      by_test o false e = cc

  -- such a term is that of a row
  from_terms : (rows : List (Row T)) (p : Ground) → IsMember (terms_in rows) p → (row : Row T) × IsMember rows row × (term_at row.0 table ≡ Some p)
  from_terms [] p member = absurd member
  from_terms (row ∷ rows) p member = by_term (mattering row) refl (λ there. let later = from_terms rows p there in (later.0, inr later.1, later.2)) member
    where
      by_term : (o : Option Ground) → mattering row ≡ o → (IsMember (terms_in rows) p → (r : Row T) × IsMember (row ∷ rows) r × (term_at r.0 table ≡ Some p))
          → IsMember (cons_option o (terms_in rows)) p → (r : Row T) × IsMember (row ∷ rows) r × (term_at r.0 table ≡ Some p)
      by_term None is later there = later there
      by_term (Some q) is later (inl same) = (row, inl refl, own_term row q is ∙ ap Some same)
      by_term (Some q) is later (inr there) = later there

  -- each term is apart from the later ones
  term-pairs : (rows : List (Row T)) → IsTrue (are_once rows) → IsPairwise (λ x y. IsFalse (term_eq x y)) (terms_in rows)
  term-pairs [] once = tt
  term-pairs (row ∷ rows) once = by_term (mattering row) refl (term-pairs rows (ascending-rest (λ (a b : Row T). not (a.0 == b.0)) row rows once))
    where
      apart : (q p : Ground) → mattering row ≡ Some q → IsMember (terms_in rows) p → IsFalse (term_eq q p)
      apart q p is member =
          let found = from_terms rows p member in
          false_from_ne_true (term_eq q p)
          (λ same.
          let number : row.0 ≡ found.0.0 = same_number table row.0 found.0.0 q one (own_term row q is) (found.2 ∙ ap Some (sym ((term_eq-Decides q p).0 same))) in
          false≢true (sym (ap not (eq-eqb row.0 found.0.0 number)) ∙ list_all-member (λ (s : Row T). not (row.0 == s.0)) rows found.0 (ascending-first (λ (a b : Row T). not (a.0 == b.0)) row rows once) found.1))

      by_term : (o : Option Ground) → mattering row ≡ o → IsPairwise (λ x y. IsFalse (term_eq x y)) (terms_in rows) → IsPairwise (λ x y. IsFalse (term_eq x y)) (cons_option o (terms_in rows))
      by_term None is rest = rest
      by_term (Some q) is rest = (λ p member. apart q p is member, rest)

  -- no term stands there twice
  pub terms-distinct : (rows : List (Row T)) → IsTrue (are_once rows) → IsDistinct term_eq (terms_in rows)
  terms-distinct rows once = IsDistinct-from_pairwise term_eq (terms_in rows) (term-pairs rows once)

  -- a property that matters stands there
  term-member : (n : ℕ) (p : Ground) → term_at n table ≡ Some p → (rows : List (Row T)) → IsTrue (matters_at n rows) → IsMember (terms_in rows) p
  term-member n p kept [] is = absurd (false≢true is)
  term-member n p kept (row ∷ rows) is =
      ⊎_elim
      (λ here.
      let own : row.1.matters ≡ true = sym (ap (λ b. option_map_or (λ (t : Touched T). t.matters) (cond b (Some row.1) (touched_at n rows)) false) here) ∙ is in
      let term : mattering row ≡ Some p = ap (λ b. cond b (term_at row.0 table) None) own ∙ ap (λ m. term_at m table) (sym (eqb-true n row.0 here)) ∙ kept in
      subst (λ o. IsMember (cons_option o (terms_in rows)) p) (sym term) (inl refl))
      (λ elsewhere. later (mattering row)
      (term-member n p kept rows (sym (ap (λ b. option_map_or (λ (t : Touched T). t.matters) (cond b (Some row.1) (touched_at n rows)) false) elsewhere) ∙ is)))
      (cases_Bool (n == row.0))
    where
      later : (o : Option Ground) → IsMember (terms_in rows) p → IsMember (cons_option o (terms_in rows)) p
      later None member = member
      later (Some q) member = inr member

  pub terms-has : (rows : List (Row T)) (n : ℕ) (p : Ground) → term_at n table ≡ Some p → IsTrue (matters_at n rows) → IsTrue (list_any (term_eq p) (terms_in rows))
  terms-has rows n p kept matters = member-list_any (term_eq p) (terms_in rows) p (term-member n p kept rows matters) ((term_eq-Decides p p).1 refl)

  -- counting rows is counting terms
  pub length-terms : (test : Row T → Bool) (rows : List (Row T))
      → ((row : Row T) → IsMember rows row → row.1.matters ≡ false → test row ≡ false)
      → ((row : Row T) → IsMember rows row → row.1.matters ≡ true → (p : Ground) × (term_at row.0 table ≡ Some p) × (test row ≡ has_other_intervals theory old new p))
      → length (filter test rows) ≡ length (filter (has_other_intervals theory old new) (terms_in rows))
  length-terms test [] idle told = refl
  length-terms test (row ∷ rows) idle told =
      let ih = length-terms test rows (λ r member. idle r (inr member)) (λ r member. told r (inr member)) in
      ⊎_elim
      (λ matters.
      let is = told row (inl refl) matters in
      let term : mattering row ≡ Some is.0 = ap (λ b. cond b (term_at row.0 table) None) matters ∙ is.1 in
      ap (λ b. length (cond b (row ∷ filter test rows) (filter test rows))) is.2
      ∙ both (has_other_intervals theory old new is.0) is.0 ih
      ∙ sym (ap (λ o. length (filter (has_other_intervals theory old new) (cons_option o (terms_in rows)))) term))
      (λ idles.
      let term : mattering row ≡ None = ap (λ b. cond b (term_at row.0 table) None) idles in
      ap (λ b. length (cond b (row ∷ filter test rows) (filter test rows))) (idle row (inl refl) idles) ∙ ih
      ∙ sym (ap (λ o. length (filter (has_other_intervals theory old new) (cons_option o (terms_in rows)))) term))
      (cases_Bool row.1.matters)
    where
      both : (b : Bool) (p : Ground) → length (filter test rows) ≡ length (filter (has_other_intervals theory old new) (terms_in rows))
          → length (cond b (row ∷ filter test rows) (filter test rows)) ≡ length (cond b (p ∷ filter (has_other_intervals theory old new) (terms_in rows)) (filter (has_other_intervals theory old new) (terms_in rows)))
      both true p same = ap suc same
      both false p same = same

  -- so the properties with other intervals are counted among the touched ones
  pub props-counted : (test : Row T → Bool) (rows : List (Row T)) → ListsInitials theory → IsTrue (are_once rows)
      → ((p : Ground) → IsTrue (has_other_intervals theory old new p) → (n : ℕ) × (term_at n table ≡ Some p))
      → ((n : ℕ) (p : Ground) → term_at n table ≡ Some p → IsFalse (matters_at n rows) → intervals_of theory old p ≡ intervals_of theory new p)
      → ((row : Row T) → IsMember rows row → row.1.matters ≡ false → test row ≡ false)
      → ((row : Row T) → IsMember rows row → row.1.matters ≡ true → (p : Ground) × (term_at row.0 table ≡ Some p) × (test row ≡ has_other_intervals theory old new p))
      → length (filter test rows) ≡ (change_counts theory old new).props
  props-counted test rows names once kept unmoved idle told =
      length-terms test rows idle told
      ∙ sym (PropertiesInAnyList-law theory old new (terms_in rows) names (terms-distinct rows once)
      (λ p other.
      let under = kept p other in
      ⊎_elim (λ matters. terms-has rows under.0 p under.1 matters)
      (λ idles. absurd (false≢true (sym ((OtherIntervalsDiffer-law theory old new p).1 (unmoved under.0 p under.1 idles)) ∙ other)))
      (cases_Bool (matters_at under.0 rows))))
