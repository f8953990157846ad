-- What turned for a property, by its number in a table and by its term.
use Rattle.std.proofs.Common.{◌≡◌, ℕ, ◌+◌, ◌-◌, ◌≤◌, ◌<◌, ◌*◌, ◌^◌, ℤ, Bool, true, false, not, ◌&&◌, ◌||◌, List, [], ◌∷◌, suc, length, filter, Some, IsTrue, refl, sym, ap, ap₂, ◌∙◌, arith}
use Rattle.std.specs.Prelude.{◌==◌, if◌then◌else◌}
use Rattle.std.specs.List.{All, list_any}
use Rattle.std.proofs.lemmas.Bool.{or_parts}
use Rattle.std.proofs.lemmas.List.Elements.{All-cons, All-nil}
use Rattle.std.proofs.Math.Bool.{and-false}
use Rattle.ec_lists.proofs.Tests.{list_any-or}
use Rattle.ec_terms.specs.declared.ids.PropId.{PropId}
use Rattle.ec_terms.specs.declared.ground.Ground.{Ground}
use Rattle.ec_terms.specs.declared.theory.Theory.{Theory}
use Rattle.ec_terms.specs.Domain.{GroundEntry}
use Rattle.ec_axioms.specs.declared.limits.TheConstants.{MOST_MENTIONS}
use Rattle.ec_axioms.specs.Calculus.{PlainEvent, is_initiating, is_terminating, is_clashing}
use Rattle.ec_axioms.specs.Changes.{is_history}
use Rattle.ec_axioms.specs.Links.{mentions_of}
use Rattle.ec_axioms.specs.Marks.{PlainMark, mark_at}
use Rattle.ec_changes.proofs.LiveMarks.{MarksAreSmall-law, mark_same}
use Rattle.ec_changes.proofs.TurnAccounts.{MarksFollowTurns-law}
use Rattle.ec_store.specs.Table.{KeptProp, term_at}
use Rattle.ec_exclusive.specs.Added.{Added, is_added}
use Rattle.ec_exclusive.specs.Neighbours.{Neighbourhoods, AreNeighbours}
use Rattle.ec_rows.specs.declared.mark.Mark.{Mark}
use Rattle.ec_rows.specs.PlainMarks.{plain_mark}
use Rattle.ec_revise.specs.declared.settled.Tallied.{Tallied}
use Rattle.ec_revise.specs.declared.turn.Turn.{Turn}
use Rattle.ec_revise.specs.ShownTurns.{AreShown, FindsItsTerms}
use Rattle.ec_revise.specs.Tallied.{HasRoomFor, IsTallyOf, mark_tallied}
use Rattle.ec_revise.specs.TurnCounts.{IsTallyAt, clashes_at, counts_at, down_count, initiates_at, is_initiation, terminates_at, up_count}
use Rattle.ec_revise.specs.Visit.{AreTurnsAt, PlainTurn, bare_entry, downs, is_turned, mark_after, ups}
use Rattle.ec_revise.specs.declared.tally.Part.TheVariants.{Inits, Terms, Clashes}
use Rattle.ec_revise.proofs.ByTerm.{TalliesGoByTerm-law}
use Rattle.ec_revise.proofs.TurnTallies.{count_in-few}
use Rattle.ec_sweep.proofs.FewEntries.{gained-few, lost-few}

-- ---- turns that count

-- what passes no wider test passes none
list_any-narrower : {X : Type 0} (p q : X → Bool) → ((x : X) → p x ≡ false → q x ≡ false) → (xs : List X) → list_any p xs ≡ false → list_any q xs ≡ false
list_any-narrower p q narrower [] none = refl
list_any-narrower p q narrower (x ∷ xs) none =
    let parts = or_parts (p x) (list_any p xs) none in
    ap₂ (λ a b. a || b) (narrower x parts.0) (list_any-narrower p q narrower xs parts.1)

-- and none of those of one direction does
length-none : (way test : Turn → Bool) (turns : List Turn) → list_any test turns ≡ false → length (filter (λ turn. way turn && test turn) turns) ≡ 0
length-none way test [] none = refl
length-none way test (turn ∷ turns) none =
    let parts = or_parts (test turn) (list_any test turns) none in
    let rest = length-none way test turns parts.1 in
    let fails = parts.0 in
    grind arith

-- where a test counts no turn, none passes it
none-counted : (wanted : GroundEntry → Bool) (turns : List PlainTurn) → ups wanted turns ≡ 0 → downs wanted turns ≡ 0
    → list_any (λ (turn : PlainTurn). wanted (bare_entry turn.kind turn.head)) turns ≡ false
none-counted wanted [] up down = refl
none-counted wanted (turn ∷ turns) up down = by (λ u d. none-counted wanted turns u d) turn.up (wanted (bare_entry turn.kind turn.head)) refl refl up down
  where
    by : (ups wanted turns ≡ 0 → downs wanted turns ≡ 0 → list_any (λ (x : PlainTurn). wanted (bare_entry x.kind x.head)) turns ≡ false) → (b c : Bool) → turn.up ≡ b → wanted (bare_entry turn.kind turn.head) ≡ c
        → length (if b && c then turn ∷ filter (λ (x : PlainTurn). x.up && wanted (bare_entry x.kind x.head)) turns else filter (λ (x : PlainTurn). x.up && wanted (bare_entry x.kind x.head)) turns) ≡ 0
        → length (if not b && c then turn ∷ filter (λ (x : PlainTurn). not x.up && wanted (bare_entry x.kind x.head)) turns else filter (λ (x : PlainTurn). not x.up && wanted (bare_entry x.kind x.head)) turns) ≡ 0
        → (c || list_any (λ (x : PlainTurn). wanted (bare_entry x.kind x.head)) turns) ≡ false
    by rest true true is wants up down = absurd (omega arith)
    by rest false true is wants up down = absurd (omega arith)
    by rest true false is wants up down = rest up down
    by rest false false is wants up down = rest up down

module _ (theory : Theory) (table : List KeptProp) (neighbours : Neighbourhoods) (turns : List Turn) (plains : List PlainTurn) (id : PropId) (p : Ground)
    (finds : FindsItsTerms table) (are : AreNeighbours theory table neighbours) (shown : AreShown table neighbours.rows turns plains)
    (kept : term_at id.0 table ≡ Some p) (added : IsTrue (is_added id neighbours.rows)) where
  -- what the turns count of the property of the number
  counted : Tallied
  counted = record {
    up = record { inits = up_count (initiates_at id) turns; terms = up_count (terminates_at id) turns; clashes = up_count (clashes_at neighbours.rows id) turns };
    down = record { inits = down_count (initiates_at id) turns; terms = down_count (terminates_at id) turns; clashes = down_count (clashes_at neighbours.rows id) turns };
  }

  counted-is : IsTallyOf theory plains p counted
  unfolding counted
  counted-is =
      TalliesGoByTerm-law theory table neighbours turns plains id p counted finds are shown kept added
      (record { inits_up = refl; terms_up = refl; clashes_up = refl; inits_down = refl; terms_down = refl; clashes_down = refl })

  -- where no turn counts for the number, none does for its term
  pub is_turned-none : list_any (counts_at neighbours.rows id) turns ≡ false → is_turned theory plains p ≡ false
  unfolding counted
  is_turned-none none =
      let inits = list_any-narrower (counts_at neighbours.rows id) (initiates_at id) inits_narrower turns none in
      let terms = list_any-narrower (counts_at neighbours.rows id) (terminates_at id) terms_narrower turns none in
      let clashes = list_any-narrower (counts_at neighbours.rows id) (clashes_at neighbours.rows id) (λ turn fails. (or_parts _ (clashes_at neighbours.rows id turn) fails).1) turns none in
      sym (ap (λ b. b || test (is_clashing theory p)) (list_any-or (λ (x : PlainTurn). is_initiating p (bare_entry x.kind x.head)) (λ x. is_terminating p (bare_entry x.kind x.head)) plains)
      ∙ list_any-or (λ (x : PlainTurn). is_initiating p (bare_entry x.kind x.head) || is_terminating p (bare_entry x.kind x.head)) (λ x. is_clashing theory p (bare_entry x.kind x.head)) plains)
      ∙ ap₂ (λ a b. a || b)
      (ap₂ (λ a b. a || b)
      (none-counted (is_initiating p) plains (sym counted-is.inits_up ∙ length-none (λ t. t.up) (initiates_at id) turns inits) (sym counted-is.inits_down ∙ length-none (λ t. not t.up) (initiates_at id) turns inits))
      (none-counted (is_terminating p) plains (sym counted-is.terms_up ∙ length-none (λ t. t.up) (terminates_at id) turns terms) (sym counted-is.terms_down ∙ length-none (λ t. not t.up) (terminates_at id) turns terms)))
      (none-counted (is_clashing theory p) plains (sym counted-is.clashes_up ∙ length-none (λ t. t.up) (clashes_at neighbours.rows id) turns clashes)
      (sym counted-is.clashes_down ∙ length-none (λ t. not t.up) (clashes_at neighbours.rows id) turns clashes))
    where
      test : (GroundEntry → Bool) → Bool
      test wanted = list_any (λ (x : PlainTurn). wanted (bare_entry x.kind x.head)) plains

      inits_narrower : (turn : Turn) → counts_at neighbours.rows id turn ≡ false → initiates_at id turn ≡ false
      inits_narrower turn fails = let parts = or_parts (turn.head.0 == id.0) (clashes_at neighbours.rows id turn) fails in ap (λ b. is_initiation turn.kind && b) parts.0 ∙ and-false (is_initiation turn.kind)

      terms_narrower : (turn : Turn) → counts_at neighbours.rows id turn ≡ false → terminates_at id turn ≡ false
      terms_narrower turn fails = let parts = or_parts (turn.head.0 == id.0) (clashes_at neighbours.rows id turn) fails in ap (λ b. not (is_initiation turn.kind) && b) parts.0 ∙ and-false (not (is_initiation turn.kind))

-- ---- the mark after turns

-- the mark with what is tallied is the one after the turns
pub mark_tallied-after : {T : Type 0} (rank : T → ℤ) (theory : Theory) (turns : List PlainTurn) (p : Ground) (mark : Mark T) (tallied : Tallied) → IsTallyOf theory turns p tallied
    → plain_mark rank (mark_tallied mark tallied) ≡ mark_after theory turns p (plain_mark rank mark)
mark_tallied-after rank theory turns p mark tallied is =
    mark_same _ _ refl
    (ap₂ (λ up down. mark.inits + up - down) is.inits_up is.inits_down)
    (ap₂ (λ up down. mark.terms + up - down) is.terms_up is.terms_down)
    (ap₂ (λ up down. mark.clashes + up - down) is.clashes_up is.clashes_down)

-- ---- how many turns

-- every turn is up or down
length-turns : (turns : List PlainTurn) → length turns ≡ ups (λ entry. true) turns + downs (λ entry. true) turns
length-turns [] = refl
length-turns (turn ∷ turns) = by (length-turns turns) turn.up
  where
    by : length turns ≡ ups (λ entry. true) turns + downs (λ entry. true) turns → (b : Bool) → suc (length turns)
        ≡ length (if b && true then turn ∷ filter (λ (x : PlainTurn). x.up && true) turns else filter (λ (x : PlainTurn). x.up && true) turns)
        + length (if not b && true then turn ∷ filter (λ (x : PlainTurn). not x.up && true) turns else filter (λ (x : PlainTurn). not x.up && true) turns)
    by rest true = omega arith
    by rest false = omega arith

length-shown : (table : List KeptProp) (neighbours : List Added) (turns : List Turn) (plains : List PlainTurn) → AreShown table neighbours turns plains → length turns ≡ length plains
length-shown table neighbours [] [] shown = refl
length-shown table neighbours [] (plain ∷ plains) shown = absurd shown
length-shown table neighbours (turn ∷ turns) [] shown = absurd shown
length-shown table neighbours (turn ∷ turns) (plain ∷ plains) shown = ap suc (length-shown table neighbours turns plains shown.1)

-- the turns between two lists with few mentions are few
pub length-turns_few : (theory : Theory) (old new : List PlainEvent) (t : ℤ) (table : List KeptProp) (neighbours : List Added) (turns : List Turn) (plains : List PlainTurn)
    → AreShown table neighbours turns plains → AreTurnsAt theory old new t plains → length (mentions_of theory old) ≤ MOST_MENTIONS → length (mentions_of theory new) ≤ MOST_MENTIONS
    → length turns ≤ 4 * MOST_MENTIONS
length-turns_few theory old new t table neighbours turns plains shown are few_old few_new =
    let same = length-shown table neighbours turns plains shown in
    let all = length-turns plains in
    let gain = are.gained_by (λ entry. true) in
    let loss = are.lost_by (λ entry. true) in
    let few_gained = gained-few theory old new (λ entry. true) t in
    let few_lost = lost-few theory old new (λ entry. true) t in
    omega arith

-- the head of each turn that is shown is added to the neighbours
pub AreShown-added : (table : List KeptProp) (neighbours : List Added) (turns : List Turn) (plains : List PlainTurn) → AreShown table neighbours turns plains
    → All (λ (turn : Turn). IsTrue (is_added turn.head neighbours)) turns
AreShown-added table neighbours [] plains shown = All-nil (λ (turn : Turn). IsTrue (is_added turn.head neighbours))
AreShown-added table neighbours (turn ∷ turns) [] shown = absurd shown
AreShown-added table neighbours (turn ∷ turns) (plain ∷ plains) shown =
    All-cons (λ (t : Turn). IsTrue (is_added t.head neighbours)) turn turns shown.0.added (AreShown-added table neighbours turns plains shown.1)

-- ---- room

-- a mark has room for what is tallied of the turns between two lists with few mentions
pub HasRoomFor-turns : {T : Type 0} (rank : T → ℤ) (theory : Theory) (old new : List PlainEvent) (t : ℤ) (p : Ground) (turns : List Turn) (plains : List PlainTurn) (neighbours : List Added)
    (id : PropId) (mark : Mark T) (tallied : Tallied)
    → IsTrue (is_history old) → IsTrue (is_history new) → AreTurnsAt theory old new t plains → length turns ≤ 4 * MOST_MENTIONS → length (mentions_of theory old) ≤ MOST_MENTIONS
    → plain_mark rank mark ≡ mark_at theory old p t → IsTallyAt neighbours turns id tallied → IsTallyOf theory plains p tallied → HasRoomFor mark tallied
unfolding mark_at is_initiating is_terminating is_clashing
HasRoomFor-turns rank theory old new t p turns plains neighbours id mark tallied old_history new_history are few few_old is at_number of_term =
    let small = MarksAreSmall-law theory old p t in
    let follows = MarksFollowTurns-law theory old new p t old_history new_history in
    let inits : mark.inits ≡ (mark_at theory old p t).inits = ap (λ (m : PlainMark). m.inits) is in
    let terms : mark.terms ≡ (mark_at theory old p t).terms = ap (λ (m : PlainMark). m.terms) is in
    let clashes : mark.clashes ≡ (mark_at theory old p t).clashes = ap (λ (m : PlainMark). m.clashes) is in
    record {
      inits_fit = fit _ _ _ inits small.inits (count_in-few neighbours turns id tallied Inits true at_number);
      terms_fit = fit _ _ _ terms small.terms (count_in-few neighbours turns id tallied Terms true at_number);
      clashes_fit = fit _ _ _ clashes small.clashes (count_in-few neighbours turns id tallied Clashes true at_number);
      inits_left = left _ _ _ _ _ _ _ _ _ inits follows.inits (are.gained_by (is_initiating p)) (are.lost_by (is_initiating p)) of_term.inits_up of_term.inits_down;
      terms_left = left _ _ _ _ _ _ _ _ _ terms follows.terms (are.gained_by (is_terminating p)) (are.lost_by (is_terminating p)) of_term.terms_up of_term.terms_down;
      clashes_left = left _ _ _ _ _ _ _ _ _ clashes follows.clashes (are.gained_by (is_clashing theory p)) (are.lost_by (is_clashing theory p)) of_term.clashes_up of_term.clashes_down;
    }
  where
    fit : (count mark_count up : ℕ) → count ≡ mark_count → mark_count ≤ length (mentions_of theory old) → up ≤ length turns → count + up < 2 ^ 32
    fit count mark_count up same small within = omega arith

    left : (count before after gains losses u d up down : ℕ) → count ≡ before → after + losses ≡ before + gains → gains ≡ u → losses ≡ d → up ≡ u → down ≡ d → down ≤ count + up
    left count before after gains losses u d up down same account gain loss ups_are downs_are = omega arith
