-- What the parts of an engine say of a property by its number.
use Rattle.std.proofs.Common.{◌≡◌, ℕ, ◌==◌, ℤ, Bool, true, false, ◌&&◌, List, [], ◌∷◌, map, filter, find, Option, Some, None, option_map, is_some, refl, sym, ap, ap₂, ◌∙◌, ⊎_elim}
use Rattle.std.proofs.lemmas.Bool.{cases_Bool, eqb-true, eq-eqb, false≢true}
use Rattle.std.proofs.lemmas.Option.{same_Some}
use Rattle.std.proofs.Math.Bool.{and-true}
use Rattle.ec_lists.proofs.Options.{is_some-option_map}
use Rattle.ec_terms.specs.declared.ids.PropId.{PropId}
use Rattle.ec_terms.specs.declared.ground.Ground.{Ground}
use Rattle.ec_terms.specs.declared.theory.Theory.{Theory}
use Rattle.ec_terms.specs.Domain.{are_exclusive, is_strong}
use Rattle.ec_terms.specs.Term.{term_eq}
use Rattle.ec_terms.proofs.DomainLemmas.{term_eq-refl}
use Rattle.ec_terms.proofs.OrderLemmas.{term_eq-Decides}
use Rattle.ec_axioms.specs.Calculus.{PlainEvent, instants_of, is_current, is_initiated, timeline_of}
use Rattle.ec_axioms.specs.Marks.{PlainMark, mark_at, mark_breaks, mark_initiates, marks_of}
use Rattle.ec_axioms.specs.Timeline.{Begin, is_after, last_begin, next_break}
use Rattle.ec_store.specs.Table.{KeptProp, is_in_order, prop_at, term_at}
use Rattle.ec_store.proofs.PropLemmas.{place-prop_at, prop_at-id, same-places}
use Rattle.ec_rows.specs.declared.mark.Mark.{Mark}
use Rattle.ec_rows.specs.PlainMarks.{plain_marks}
use Rattle.ec_numbered.specs.PropSet.{has_number}
use Rattle.ec_numbered.proofs.Numbers.{has_number-filter}
use Rattle.ec_points.specs.Table.{marks_at}
use Rattle.ec_exclusive.specs.Added.{added_props, is_added}
use Rattle.ec_exclusive.specs.Forms.{breaks_by_initiation}
use Rattle.ec_exclusive.specs.Neighbours.{both_exclusive, exclusive_at}
use Rattle.ec_intervals.specs.Table.{last_begin_of, members_at, plain_intervals}
use Rattle.ec_parts.specs.Caches.{initiations_of_mark}
use Rattle.ec_parts.specs.StandFor.{View}
use Rattle.ec_parts.proofs.KeptInitiations.{kept_initiations-all}
use Rattle.ec_query.specs.Standing.{AreOn}
use Rattle.ec_query.proofs.LastBegins.{initiated-instants, instants_in, last_begin-of_intervals}
use Rattle.ec_query.proofs.NextBreaks.{marks_of-next_break}
use Rattle.ec_query.proofs.OnMarks.{times-instants, times_in}

-- ---- numbers and terms

-- a kept term is had from its property
kept-prop : (id : ℕ) (table : List KeptProp) (q : Ground) → term_at id table ≡ Some q → (k : KeptProp) × (prop_at id table ≡ Some k) × (k.term ≡ q)
kept-prop id table q is = of (prop_at id table) refl is
  where
    of : (o : Option KeptProp) → prop_at id table ≡ o → option_map (λ (k : KeptProp). k.term) o ≡ Some q → (k : KeptProp) × (prop_at id table ≡ Some k) × (k.term ≡ q)
    of None there is = absurd (let none = is in cc)
    of (Some k) there is = (k, there, same_Some k.term q is)

-- two kept terms are the same exactly where their numbers are
pub term_eq-numbers : (table : List KeptProp) (a b : ℕ) (q p : Ground) → is_in_order table ≡ true → term_at a table ≡ Some q → term_at b table ≡ Some p → (a == b) ≡ term_eq q p
term_eq-numbers table a b q p order at_a at_b =
    ⊎_elim
    (λ same.
    let one : q ≡ p = same_Some q p (sym at_a ∙ ap (λ n. term_at n table) (eqb-true a b same) ∙ at_b) in
    same ∙ sym (ap (λ r. term_eq r p) one ∙ term_eq-refl p))
    (λ apart.
    ⊎_elim
    (λ alike. absurd (false≢true (sym apart ∙ eq-eqb a b (numbers_same ((term_eq-Decides q p).0 alike)))))
    (λ unlike. apart ∙ sym unlike)
    (cases_Bool (term_eq q p)))
    (cases_Bool (a == b))
  where
    numbers_same : q ≡ p → a ≡ b
    numbers_same one =
        let k = kept-prop a table q at_a in
        let l = kept-prop b table p at_b in
        let i = place-prop_at a table k.0 k.1 in
        let j = place-prop_at b table l.0 l.1 in
        let same = same-places table i.0 j.0 k.0 l.0 order i.1 j.1 (k.2 ∙ one ∙ sym l.2) in
        sym (prop_at-id a table k.0 k.1) ∙ ap (λ (x : KeptProp). x.id) same ∙ prop_at-id b table l.0 l.1

-- the instants of initiations are those of the marks that initiate
initiations-instants : (marks : List PlainMark) → instants_in (map initiations_of_mark marks) ≡ instants_in marks
initiations-instants [] = refl
initiations-instants (m ∷ marks) = ap (λ ts. m.instant ∷ ts) (initiations-instants marks)

-- ---- a property of parts that stand for a list

module _ {T : Type 0} (rank : T → ℤ) (theory : Theory) (events : List PlainEvent) (view : View T) (id : PropId) (p : Ground) (on : AreOn rank theory events view id.0 p) where
  pub on-kept : is_some (prop_at id.0 view.table) ≡ true
  on-kept = sym (is_some-option_map (λ (k : KeptProp). k.term) (prop_at id.0 view.table)) ∙ ap is_some on.kept

  pub on-added : is_added id view.neighbours.rows ≡ true
  on-added = on.stand.both.tables.added.added id ∙ on-kept

  pub on-strong : (answer : Bool) → option_map (is_strong theory) (term_at id.0 view.table) ≡ Some answer → answer ≡ is_strong theory p
  on-strong answer told = sym (same_Some (is_strong theory p) answer (sym (ap (option_map (is_strong theory)) on.kept) ∙ told))

  pub on-neighbour : (head : PropId) (q : Ground) (list : List PropId) → term_at head.0 view.table ≡ Some q → list ≡ filter (exclusive_at theory view.table id) (added_props view.neighbours.rows)
      → has_number head.0 list ≡ are_exclusive theory p q
  on-neighbour head q list there is =
      ap (has_number head.0) is ∙ has_number-filter head (exclusive_at theory view.table id) (added_props view.neighbours.rows)
      ∙ ap₂ (λ a b. a && b) (ap₂ (both_exclusive theory) on.kept there)
      (on.stand.both.tables.added.added head ∙ sym (is_some-option_map (λ (k : KeptProp). k.term) (prop_at head.0 view.table)) ∙ ap is_some there)
      ∙ and-true (are_exclusive theory p q)

  pub on-breaks_by_initiation : (answer is : Bool) → option_map (breaks_by_initiation theory) (term_at id.0 view.table) ≡ Some answer → answer ≡ is → breaks_by_initiation theory p ≡ is
  on-breaks_by_initiation answer is told same =
      same_Some (breaks_by_initiation theory p) answer (sym (ap (option_map (breaks_by_initiation theory)) on.kept) ∙ told) ∙ same

  -- ---- the last begin

  -- of one that an initiation may break the initiations are kept
  pub on-times : breaks_by_initiation theory p ≡ true → times_in rank (marks_at id.0 view.initiations) ≡ filter (is_initiated theory events (is_current theory events) p) (instants_of events)
  on-times breaks =
      times-instants rank (marks_at id.0 view.initiations)
      ∙ ap instants_in (on.stand.both.caches.initiations_of.marks id.0 p on.kept ∙ kept_initiations-all theory events p breaks)
      ∙ initiations-instants (filter mark_initiates (marks_of theory events p))
      ∙ initiated-instants theory events p

  -- the begins of another are those of its intervals
  pub on-begin : breaks_by_initiation theory p ≡ false → (t : ℤ) → last_begin_of (plain_intervals rank (members_at id.0 view.intervals)) t ≡ last_begin (timeline_of theory events p) t
  on-begin never t = ap (λ intervals. last_begin_of intervals t) (on.stand.both.caches.intervals_of.members id.0 p on.kept) ∙ last_begin-of_intervals theory events p t never

  -- ---- the next break

  abbrev next_marks : Begin → List PlainMark → Option PlainMark
  next_marks begin marks = find (mark_breaks (is_strong theory p)) (filter (λ (mark : PlainMark). is_after begin mark.instant) marks)

  -- the first mark behind a begin that breaks is that of the next break
  pub on-break : (begin : Begin) (strong : Bool) (marks : List (Mark T)) (found : Option PlainMark) → strong ≡ is_strong theory p → marks_at id.0 view.points ≡ marks
      → found ≡ find (mark_breaks strong) (filter (λ (mark : PlainMark). is_after begin mark.instant) (plain_marks rank marks))
      → found ≡ option_map (mark_at theory events p) (next_break (timeline_of theory events p) begin)
  on-break begin strong marks found strong_is marks_are is =
      is
      ∙ ap₂ (λ b ms. find (mark_breaks b) (filter (λ (mark : PlainMark). is_after begin mark.instant) (plain_marks rank ms))) strong_is (sym marks_are)
      ∙ ap (next_marks begin) (on.stand.both.caches.marks_of.marks id.0 p on.kept)
      ∙ marks_of-next_break theory events p begin
