-- The marks at an instant after its turns.
use Rattle.std.proofs.Common.{◌≡◌, ℕ, ◌+◌, ◌-◌, Bool, true, false, not, ◌&&◌, ◌||◌, List, length, IsFalse, refl, ap, arith}
use Rattle.std.proofs.lemmas.Bool.{or_parts}
use Rattle.ec_terms.specs.declared.ground.Ground.{Ground}
use Rattle.ec_terms.specs.declared.theory.Theory.{Theory}
use Rattle.ec_terms.specs.Domain.{GroundEntry}
use Rattle.ec_axioms.specs.Calculus.{is_initiating, is_terminating, is_clashing}
use Rattle.ec_axioms.specs.Marks.{PlainMark, mark_at}
use Rattle.ec_axioms.proofs.Members.{filter_none, list_any-false}
use Rattle.ec_changes.proofs.LiveMarks.{mark_same}
use Rattle.ec_changes.proofs.TurnAccounts.{MarksFollowTurns-law}
use Rattle.ec_revise.specs.Visit.{PlainTurn, bare_entry, counts_for, downs, is_turned, mark_after, ups}
use Rattle.ec_revise.specs.SweepLaws.{MarksAreAfterTurns}

-- a count with what was gained and without what was lost
counted : (before after up down gains losses : ℕ) → after + losses ≡ before + gains → gains ≡ up → losses ≡ down → after ≡ before + up - down
counted before after up down gains losses account gain loss = omega arith

-- the law
pub MarksAreAfterTurns-law : MarksAreAfterTurns
unfolding mark_at is_initiating is_terminating is_clashing
MarksAreAfterTurns-law theory old new kept t turns p compared turned =
    let follows = MarksFollowTurns-law theory old new p t compared.old_history compared.new_history in
    mark_same (mark_at theory new p t) (mark_after theory turns p (mark_at theory old p t)) refl
    (counted _ _ _ _ _ _ follows.inits (turned.gained_by (is_initiating p)) (turned.lost_by (is_initiating p)))
    (counted _ _ _ _ _ _ follows.terms (turned.gained_by (is_terminating p)) (turned.lost_by (is_terminating p)))
    (counted _ _ _ _ _ _ follows.clashes (turned.gained_by (is_clashing theory p)) (turned.lost_by (is_clashing theory p)))

module _ (theory : Theory) (turns : List PlainTurn) (p : Ground) (none : IsFalse (is_turned theory turns p)) where
  -- where no turn counts for a property, no turn passes a test that is one of its counts
  none_up : (wanted : GroundEntry → Bool) → ((entry : GroundEntry) → counts_for theory p entry ≡ false → wanted entry ≡ false) → ups wanted turns ≡ 0
  none_up wanted wider =
      ap length (filter_none (λ (turn : PlainTurn). turn.up && wanted (bare_entry turn.kind turn.head)) turns
      (λ turn member. never turn.up _ (wider _ (list_any-false (λ (turn : PlainTurn). counts_for theory p (bare_entry turn.kind turn.head)) turns turn none member))))
    where
      never : (b c : Bool) → c ≡ false → (b && c) ≡ false
      never true c fails = fails
      never false c fails = refl

  none_down : (wanted : GroundEntry → Bool) → ((entry : GroundEntry) → counts_for theory p entry ≡ false → wanted entry ≡ false) → downs wanted turns ≡ 0
  none_down wanted wider =
      ap length (filter_none (λ (turn : PlainTurn). not turn.up && wanted (bare_entry turn.kind turn.head)) turns
      (λ turn member. never turn.up _ (wider _ (list_any-false (λ (turn : PlainTurn). counts_for theory p (bare_entry turn.kind turn.head)) turns turn none member))))
    where
      never : (b c : Bool) → c ≡ false → (not b && c) ≡ false
      never true c fails = refl
      never false c fails = fails

  unchanged : (n up down : ℕ) → up ≡ 0 → down ≡ 0 → n + up - down ≡ n
  unchanged n up down no_up no_down = omega arith

  -- so its mark stays
  pub mark_after-none : (mark : PlainMark) → mark_after theory turns p mark ≡ mark
  mark_after-none mark =
      mark_same (mark_after theory turns p mark) mark refl
      (unchanged _ _ _ (none_up (is_initiating p) (λ entry fails. (first entry fails).0)) (none_down (is_initiating p) (λ entry fails. (first entry fails).0)))
      (unchanged _ _ _ (none_up (is_terminating p) (λ entry fails. (first entry fails).1)) (none_down (is_terminating p) (λ entry fails. (first entry fails).1)))
      (unchanged _ _ _ (none_up (is_clashing theory p) last) (none_down (is_clashing theory p) last))
    where
      last : (entry : GroundEntry) → counts_for theory p entry ≡ false → is_clashing theory p entry ≡ false
      last entry fails = (or_parts (is_initiating p entry || is_terminating p entry) (is_clashing theory p entry) fails).1

      first : (entry : GroundEntry) → counts_for theory p entry ≡ false → (is_initiating p entry ≡ false) × (is_terminating p entry ≡ false)
      first entry fails =
          or_parts (is_initiating p entry) (is_terminating p entry) (or_parts (is_initiating p entry || is_terminating p entry) (is_clashing theory p entry) fails).0
