-- What is tallied by the numbers of properties is what is counted by their terms.
use Rattle.std.proofs.Common.{◌≡◌, ℕ, Bool, true, not, ◌&&◌, List, [], ◌∷◌, Option, Some, None, IsTrue, refl, sym, ap, ap₂, subst, ◌∙◌, ⊎_elim, arith}
use Rattle.std.specs.Prelude.{◌==◌, is_some, unwrap_or}
use Rattle.std.proofs.lemmas.Bool.{cases_Bool, eq-eqb, eqb-true, false≢true, false_from_ne_true}
use Rattle.std.proofs.Math.Bool.{and-true}
use Rattle.ec_terms.specs.declared.ids.PropId.{PropId}
use Rattle.ec_terms.specs.declared.ground.Ground.{Ground}
use Rattle.ec_terms.specs.declared.theory.Kind.{Kind}
use Rattle.ec_terms.specs.declared.theory.Kind.TheVariants.{Initiates, Terminates}
use Rattle.ec_terms.specs.declared.theory.Theory.{Theory}
use Rattle.ec_terms.specs.Term.{term_eq}
use Rattle.ec_terms.specs.Domain.{GroundEntry, are_exclusive}
use Rattle.ec_terms.proofs.DomainLemmas.{are_exclusive-comm, term_eq-refl}
use Rattle.ec_terms.proofs.OrderLemmas.{term_eq-Decides}
use Rattle.ec_axioms.specs.Calculus.{is_initiating, is_terminating, is_clashing}
use Rattle.ec_store.specs.Table.{KeptProp, prop_of, term_at}
use Rattle.ec_numbered.proofs.Numbers.{has_number-filter}
use Rattle.ec_exclusive.specs.Added.{added_props, is_added, neighbours_of, stands_in_list}
use Rattle.ec_exclusive.specs.Neighbours.{Neighbourhoods, AreNeighbours, both_exclusive, exclusive_at}
use Rattle.ec_exclusive.proofs.KeptLists.{is_added-neighbours_of}
use Rattle.ec_exclusive.proofs.RowLemmas.{neighbours-exclusive}
use Rattle.ec_revise.specs.declared.turn.Turn.{Turn}
use Rattle.ec_revise.specs.ShownTurns.{AreShown, FindsItsTerms, IsShown, TalliesGoByTerm}
use Rattle.ec_revise.specs.TurnCounts.{clashes_at, down_count, initiates_at, is_initiation, terminates_at, up_count}
use Rattle.ec_revise.specs.Visit.{PlainTurn, bare_entry, downs, ups}

-- numbers are the same where their terms are
pub number-term : (table : List KeptProp) (m n : ℕ) (p q : Ground) → FindsItsTerms table → term_at m table ≡ Some p → term_at n table ≡ Some q → (m == n) ≡ term_eq p q
number-term table m n p q finds first second =
    ⊎_elim
    (λ same.
    let terms : p ≡ q = ap (λ o. unwrap_or o p) (sym first ∙ ap (λ k. term_at k table) (eqb-true m n same) ∙ second) in
    same ∙ sym (subst (λ t. term_eq p t ≡ true) terms (term_eq-refl p)))
    (λ apart.
    apart
    ∙ sym (false_from_ne_true (term_eq p q)
    (λ same.
    let terms : p ≡ q = (term_eq-Decides p q).0 same in
    let numbers : m ≡ n = ap (λ o. unwrap_or o m) (sym (finds m p first) ∙ ap (λ t. prop_of t table) terms ∙ finds n q second) in
    absurd (false≢true (sym apart ∙ eq-eqb m n numbers)))))
    (cases_Bool (m == n))

module _ (theory : Theory) (table : List KeptProp) (neighbours : Neighbourhoods) (id : PropId) (p : Ground) (finds : FindsItsTerms table)
    (are : AreNeighbours theory table neighbours) (kept : term_at id.0 table ≡ Some p) (added : IsTrue (is_added id neighbours.rows)) where
  -- a property is a neighbour of an added one where their terms are exclusive
  stands-exclusive : (head : PropId) (term : Ground) → term_at head.0 table ≡ Some term → IsTrue (is_added head neighbours.rows)
      → stands_in_list id (neighbours_of head neighbours.rows) ≡ are_exclusive theory p term
  stands-exclusive head term shown in_rows = of_list (neighbours_of head neighbours.rows) refl
    where
      of_list : (o : Option (List PropId)) → neighbours_of head neighbours.rows ≡ o → stands_in_list id o ≡ are_exclusive theory p term
      of_list None none = absurd (false≢true (sym (ap is_some none) ∙ sym (is_added-neighbours_of head neighbours.rows) ∙ in_rows))
      of_list (Some list) some =
          ap (λ ps. stands_in_list id (Some ps)) (neighbours-exclusive theory table neighbours head list are some)
          ∙ has_number-filter id (exclusive_at theory table head) (added_props neighbours.rows)
          ∙ ap (λ b. exclusive_at theory table head id && b) added
          ∙ and-true (exclusive_at theory table head id)
          ∙ ap₂ (both_exclusive theory) shown kept
          ∙ are_exclusive-comm theory term p

  -- the tests by number are those by term
  initiates-term : (turn : Turn) (plain : PlainTurn) → IsShown table neighbours.rows turn plain → initiates_at id turn ≡ is_initiating p (bare_entry plain.kind plain.head)
  unfolding is_initiating
  initiates-term turn plain shown =
      ap₂ (λ k b. is_initiation k && b) shown.kind (number-term table turn.head.0 id.0 plain.head p finds shown.head kept) ∙ by_kind plain.kind plain.head
    where
      by_kind : (kind : Kind) (head : Ground) → (is_initiation kind && term_eq head p) ≡ is_initiating p (bare_entry kind head)
      by_kind Initiates head = refl
      by_kind Terminates head = refl

  terminates-term : (turn : Turn) (plain : PlainTurn) → IsShown table neighbours.rows turn plain → terminates_at id turn ≡ is_terminating p (bare_entry plain.kind plain.head)
  unfolding is_terminating
  terminates-term turn plain shown =
      ap₂ (λ k b. not (is_initiation k) && b) shown.kind (number-term table turn.head.0 id.0 plain.head p finds shown.head kept) ∙ by_kind plain.kind plain.head
    where
      by_kind : (kind : Kind) (head : Ground) → (not (is_initiation kind) && term_eq head p) ≡ is_terminating p (bare_entry kind head)
      by_kind Initiates head = refl
      by_kind Terminates head = refl

  clashes-term : (turn : Turn) (plain : PlainTurn) → IsShown table neighbours.rows turn plain → clashes_at neighbours.rows id turn ≡ is_clashing theory p (bare_entry plain.kind plain.head)
  unfolding is_clashing is_initiating
  clashes-term turn plain shown =
      ap₂ (λ k b. is_initiation k && b) shown.kind (stands-exclusive turn.head plain.head shown.head shown.added) ∙ by_kind plain.kind plain.head
    where
      by_kind : (kind : Kind) (head : Ground) → (is_initiation kind && are_exclusive theory p head) ≡ is_clashing theory p (bare_entry kind head)
      by_kind Initiates head = ap (λ b. b && are_exclusive theory p head) (sym (term_eq-refl head))
      by_kind Terminates head = refl

  -- so they count alike
  up-term : (test : Turn → Bool) (wanted : GroundEntry → Bool) → ((turn : Turn) (plain : PlainTurn) → IsShown table neighbours.rows turn plain → test turn ≡ wanted (bare_entry plain.kind plain.head))
      → (turns : List Turn) (plains : List PlainTurn) → AreShown table neighbours.rows turns plains → up_count test turns ≡ ups wanted plains
  up-term test wanted alike [] [] shown = refl
  up-term test wanted alike [] (plain ∷ plains) shown = absurd shown
  up-term test wanted alike (turn ∷ turns) [] shown = absurd shown
  up-term test wanted alike (turn ∷ turns) (plain ∷ plains) shown =
      let rest = up-term test wanted alike turns plains shown.1 in
      let here : (turn.up && test turn) ≡ (plain.up && wanted (bare_entry plain.kind plain.head)) = ap₂ (λ b c. b && c) shown.0.up (alike turn plain shown.0) in
      grind arith

  down-term : (test : Turn → Bool) (wanted : GroundEntry → Bool) → ((turn : Turn) (plain : PlainTurn) → IsShown table neighbours.rows turn plain → test turn ≡ wanted (bare_entry plain.kind plain.head))
      → (turns : List Turn) (plains : List PlainTurn) → AreShown table neighbours.rows turns plains → down_count test turns ≡ downs wanted plains
  down-term test wanted alike [] [] shown = refl
  down-term test wanted alike [] (plain ∷ plains) shown = absurd shown
  down-term test wanted alike (turn ∷ turns) [] shown = absurd shown
  down-term test wanted alike (turn ∷ turns) (plain ∷ plains) shown =
      let rest = down-term test wanted alike turns plains shown.1 in
      let here : (not turn.up && test turn) ≡ (not plain.up && wanted (bare_entry plain.kind plain.head)) = ap₂ (λ b c. not b && c) shown.0.up (alike turn plain shown.0) in
      grind arith

-- the law
pub TalliesGoByTerm-law : TalliesGoByTerm
TalliesGoByTerm-law theory table neighbours turns plains id p tallied finds are shown kept added is = record {
  inits_up = is.inits_up ∙ up-term theory table neighbours id p finds are kept added (initiates_at id) (is_initiating p)
      (initiates-term theory table neighbours id p finds are kept added) turns plains shown;
  terms_up = is.terms_up ∙ up-term theory table neighbours id p finds are kept added (terminates_at id) (is_terminating p)
      (terminates-term theory table neighbours id p finds are kept added) turns plains shown;
  clashes_up = is.clashes_up ∙ up-term theory table neighbours id p finds are kept added (clashes_at neighbours.rows id) (is_clashing theory p)
      (clashes-term theory table neighbours id p finds are kept added) turns plains shown;
  inits_down = is.inits_down ∙ down-term theory table neighbours id p finds are kept added (initiates_at id) (is_initiating p)
      (initiates-term theory table neighbours id p finds are kept added) turns plains shown;
  terms_down = is.terms_down ∙ down-term theory table neighbours id p finds are kept added (terminates_at id) (is_terminating p)
      (terminates-term theory table neighbours id p finds are kept added) turns plains shown;
  clashes_down = is.clashes_down ∙ down-term theory table neighbours id p finds are kept added (clashes_at neighbours.rows id) (is_clashing theory p)
      (clashes-term theory table neighbours id p finds are kept added) turns plains shown;
}
