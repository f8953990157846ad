-- The marks of a property that is not live are those gathered from the initiations of its neighbours.
use Rattle.std.proofs.Common.{◌≡◌, ℕ, ℤ, ◌+◌, Bool, true, false, cond, List, [], ◌∷◌, filter, Option, Some, None, IsTrue, IsFalse, refl, sym, ap, ap₂, subst, ◌∙◌, arith}
use Rattle.std.specs.Prelude.{nat_lt, flat_map}
use Rattle.std.specs.List.{sum_by, cons_option}
use Rattle.std.specs.Ordering.{int_eq}
use Rattle.std.proofs.lemmas.Bool.{false≢true}
use Rattle.std.proofs.lemmas.List.Elements.{All-contains}
use Rattle.std.proofs.lemmas.List.Sums.{sum_by-cons}
use Rattle.ec_lists.proofs.Integers.{int_lt-same, int_lt-not_after}
use Rattle.ec_terms.specs.declared.ids.PropId.{PropId}
use Rattle.ec_terms.specs.declared.ground.Ground.{Ground}
use Rattle.ec_terms.specs.declared.theory.Theory.{Theory}
use Rattle.ec_terms.specs.Domain.{are_exclusive}
use Rattle.ec_axioms.specs.Calculus.{PlainEvent}
use Rattle.ec_axioms.specs.Changes.{is_history}
use Rattle.ec_axioms.specs.Links.{is_live}
use Rattle.ec_axioms.specs.Marks.{PlainMark, mark_at, marks_of, is_marked}
use Rattle.ec_axioms.proofs.Members.{IsMember, IsMember-from_map, IsPairwise, IsPairwise-map, Contains-from_member, list_all-member}
use Rattle.ec_changes.specs.LiveLaws.{HasLive, neighbour_inits}
use Rattle.ec_changes.proofs.KeptEvents.{same_from_members}
use Rattle.ec_changes.proofs.LiveMarks.{NotLiveIsGathered-law}
use Rattle.ec_changes.proofs.Past.{is_earlier, IsMember-from_marks_of, IsMember-marks_of, IsPairwise-marks_of}
use Rattle.ec_exclusive.specs.Neighbours.{both_exclusive, exclusive_at}
use Rattle.ec_store.specs.Table.{KeptProp, term_at}
use Rattle.ec_points.specs.Table.{PointTable, marks_at}
use Rattle.ec_rows.specs.declared.mark.Mark.{Mark}
use Rattle.ec_rows.specs.Marks.{is_counted, mark_before}
use Rattle.ec_rows.specs.PlainMarks.{plain_mark, plain_marks}
use Rattle.ec_rows.proofs.OrderedPairs.{IsPairwise-ascending}
use Rattle.ec_parts.specs.Caches.{kept_initiations}
use Rattle.ec_parts.specs.Gathered.{initiations_at, clashes_at, CountsClashesAlone, AreGathered}
use Rattle.ec_parts.specs.Mentions.{terms_of}
use Rattle.ec_parts.proofs.KeptInitiations.{kept_initiations-exclusive}
use Rattle.ec_parts.proofs.MarkSums.{sum_by-map, sum_by-flat_map, sum_at, sum_at-member, member-sum_at, sum_at-initiations_of}

module _ {T : Type 0} (rank : T → ℤ) where
  -- what marks count at an instant, they count as plain ones
  pub initiations_at-plain : (t : ℤ) (marks : List (Mark T)) → initiations_at rank t marks ≡ sum_at (λ m. m.inits) t (plain_marks rank marks)
  initiations_at-plain t marks = sym (sum_by-map (λ (m : PlainMark). cond (int_eq m.instant t) m.inits 0) (plain_mark rank) marks)

  clashes_at-plain : (t : ℤ) (marks : List (Mark T)) → clashes_at rank t marks ≡ sum_at (λ m. m.clashes) t (plain_marks rank marks)
  clashes_at-plain t marks = sym (sum_by-map (λ (m : PlainMark). cond (int_eq m.instant t) m.clashes 0) (plain_mark rank) marks)

  -- ---- the initiations of neighbours

  module _ (theory : Theory) (now : List PlainEvent) (history : IsTrue (is_history now)) (table : List KeptProp) (p : PropId) (term : Ground) (own : term_at p.0 table ≡ Some term) (initiations : PointTable T)
      (are : (id : ℕ) (t : Ground) → term_at id table ≡ Some t → plain_marks rank (marks_at id initiations) ≡ kept_initiations theory now t) (t : ℤ) where
    inits_by_term : Ground → ℕ
    inits_by_term q = (mark_at theory now q t).inits

    inits_by_number : PropId → ℕ
    inits_by_number q = initiations_at rank t (marks_at q.0 initiations)

    same_inits : (q : PropId) (u : Ground) → term_at q.0 table ≡ Some u → are_exclusive theory term u ≡ true → inits_by_number q ≡ inits_by_term u
    unfolding inits_by_term inits_by_number
    same_inits q u is exclusive =
        initiations_at-plain t (marks_at q.0 initiations)
        ∙ ap (sum_at (λ m. m.inits) t) (are q.0 u is ∙ kept_initiations-exclusive theory now u term exclusive)
        ∙ sum_at-initiations_of theory now u t history

    abbrev AreTheSame : List PropId → Type 0
    AreTheSame ps = sum_by inits_by_number (filter (λ (q : PropId). both_exclusive theory (Some term) (term_at q.0 table)) ps) ≡ sum_by inits_by_term (filter (are_exclusive theory term) (terms_of table ps))

    by_terms : (ps : List PropId) → AreTheSame ps
    by_terms [] = refl
    by_terms (q ∷ qs) = each (by_terms qs) (term_at q.0 table) refl
      where
        kept : AreTheSame qs → (u : Ground) → term_at q.0 table ≡ Some u → (b : Bool) → are_exclusive theory term u ≡ b
            → sum_by inits_by_number (cond b (q ∷ filter (λ (r : PropId). both_exclusive theory (Some term) (term_at r.0 table)) qs) (filter (λ (r : PropId). both_exclusive theory (Some term) (term_at r.0 table)) qs))
            ≡ sum_by inits_by_term (cond b (u ∷ filter (are_exclusive theory term) (terms_of table qs)) (filter (are_exclusive theory term) (terms_of table qs)))
        kept rest u is true exclusive = sum_by-cons inits_by_number q (filter (λ (r : PropId). both_exclusive theory (Some term) (term_at r.0 table)) qs) ∙ ap₂ (λ a b. a + b) (same_inits q u is exclusive) rest ∙ sym (sum_by-cons inits_by_term u (filter (are_exclusive theory term) (terms_of table qs)))
        kept rest u is false other = rest

        each : AreTheSame qs → (o : Option Ground) → term_at q.0 table ≡ o
            → sum_by inits_by_number (cond (both_exclusive theory (Some term) o) (q ∷ filter (λ (r : PropId). both_exclusive theory (Some term) (term_at r.0 table)) qs) (filter (λ (r : PropId). both_exclusive theory (Some term) (term_at r.0 table)) qs))
            ≡ sum_by inits_by_term (filter (are_exclusive theory term) (cons_option o (terms_of table qs)))
        each rest None is = rest
        each rest (Some u) is = kept rest u is (are_exclusive theory term u) refl

    -- the initiations of the neighbours, one row after the other, are those of the terms that are exclusive
    pub neighbours-inits : (ps : List PropId) → initiations_at rank t (flat_map (λ (q : PropId). marks_at q.0 initiations) (filter (exclusive_at theory table p) ps)) ≡ neighbour_inits theory now (terms_of table ps) term t
    unfolding neighbour_inits inits_by_term inits_by_number
    neighbours-inits ps =
        sum_by-flat_map (λ (m : Mark T). cond (int_eq (rank m.at) t) m.inits 0) (λ (q : PropId). marks_at q.0 initiations) (filter (exclusive_at theory table p) ps)
        ∙ ap (λ o. sum_by (λ (q : PropId). initiations_at rank t (marks_at q.0 initiations)) (filter (λ (q : PropId). both_exclusive theory o (term_at q.0 table)) ps)) own
        ∙ by_terms ps

  -- ---- a row of them

  module _ (theory : Theory) (now : List PlainEvent) (term : Ground) (properties : List Ground) (others marks : List (Mark T)) (history : IsTrue (is_history now)) (not_live : IsFalse (is_live theory now term))
      (has_live : HasLive theory now properties) (gathered : AreGathered rank others marks) (same : (t : ℤ) → initiations_at rank t others ≡ neighbour_inits theory now properties term t) where
    -- the marks ascend
    earlier : IsPairwise is_earlier (plain_marks rank marks)
    earlier = IsPairwise-map is_earlier (plain_mark rank) marks (IsPairwise-ascending (mark_before rank) marks gathered.row.ascending)

    -- each counts clashes alone, and some
    alone : (m : PlainMark) → IsMember (plain_marks rank marks) m → (m.inits ≡ 0) × ((m.terms ≡ 0) × (is_marked m ≡ true))
    alone m member =
        let from = IsMember-from_map (plain_mark rank) marks m member in
        let counts = All-contains CountsClashesAlone marks from.0 gathered.alone (Contains-from_member marks from.0 from.1) in
        (sym (ap (λ (x : PlainMark). x.inits) from.2) ∙ counts.inits, (sym (ap (λ (x : PlainMark). x.terms) from.2) ∙ counts.terms, sym (ap is_marked from.2) ∙ list_all-member is_counted marks from.0 gathered.row.counted from.1))

    -- the mark at each instant
    known : (t : ℤ) → mark_at theory now term t ≡ record { instant = t; inits = 0; terms = 0; clashes = sum_at (λ m. m.clashes) t (plain_marks rank marks) }
    known t =
        NotLiveIsGathered-law theory now properties term t has_live not_live
        ∙ ap (plain t) (sym (same t) ∙ sym (gathered.clashes t) ∙ clashes_at-plain t marks)
      where
        plain : ℤ → ℕ → PlainMark
        plain s n = record { instant = s; inits = 0; terms = 0; clashes = n }

    -- a gathered mark is that at its instant
    known_member : (m : PlainMark) → IsMember (plain_marks rank marks) m → mark_at theory now term m.instant ≡ m
    known_member m member =
        known m.instant ∙ made m.instant m.inits m.terms m.clashes _ (alone m member).0 (alone m member).1.0 (sum_at-member (λ x. x.clashes) (plain_marks rank marks) m earlier member)
      where
        made : (s : ℤ) (a b c n : ℕ) → a ≡ 0 → b ≡ 0 → n ≡ c → (let x : PlainMark = record { instant = s; inits = 0; terms = 0; clashes = n } in x) ≡ record { instant = s; inits = a; terms = b; clashes = c }
        made s a b c n x y z = cc

    pub marks_of-gathered : marks_of theory now term ≡ plain_marks rank marks
    marks_of-gathered =
        same_from_members is_earlier (λ m before. false≢true (sym (int_lt-same m.instant) ∙ before)) (λ m n before after. false≢true (sym (int_lt-not_after m.instant n.instant before) ∙ after))
        (marks_of theory now term) (plain_marks rank marks) (IsPairwise-marks_of theory now term history) earlier into back
      where
        into : (m : PlainMark) → IsMember (marks_of theory now term) m → IsMember (plain_marks rank marks) m
        into m member =
            let is = IsMember-from_marks_of theory now term m member in
            let counted : nat_lt 0 (sum_at (λ x. x.clashes) m.instant (plain_marks rank marks)) ≡ true = clash_alone _ (ap is_marked (sym (known m.instant) ∙ is.0) ∙ is.1) in
            let found = member-sum_at (λ x. x.clashes) m.instant (plain_marks rank marks) counted in
            subst (IsMember (plain_marks rank marks)) (sym (known_member found.0 found.1.0) ∙ ap (mark_at theory now term) found.1.1 ∙ is.0) found.1.0
          where
            clash_alone : (n : ℕ) → nat_lt 0 (0 + 0 + n) ≡ true → nat_lt 0 n ≡ true
            clash_alone n some = grind arith

        back : (m : PlainMark) → IsMember (plain_marks rank marks) m → IsMember (marks_of theory now term) m
        back m member =
            let is = known_member m member in
            subst (IsMember (marks_of theory now term)) is (IsMember-marks_of theory now term m.instant (ap is_marked is ∙ (alone m member).1.1))
