-- What the replies say of kept properties, and of those that are not kept.
use Rattle.std.proofs.Common.{◌≡◌, ℕ, ℤ, List, [], Some, None, find, sym, ap, ap₂, subst, ◌∙◌}
use Rattle.ec_terms.specs.declared.ground.Ground.{Ground}
use Rattle.ec_terms.specs.declared.theory.Theory.{Theory}
use Rattle.ec_axioms.specs.Calculus.{PlainEvent, intervals_of}
use Rattle.ec_axioms.specs.Timeline.{covers}
use Rattle.ec_commands.specs.QueryTexts.{interval_at}
use Rattle.ec_commands.specs.Relations.{pairs_of}
use Rattle.ec_commands.specs.declared.relation.Relation.{Relation}
use Rattle.ec_store.specs.Table.{KeptProp, prop_of, term_at}
use Rattle.ec_intervals.specs.Steps.{IsIntervalRow}
use Rattle.ec_intervals.specs.Table.{IntervalTable, members_at, plain_intervals}
use Rattle.ec_intervals.proofs.HistoryRows.{IsIntervalRow-intervals_of}
use Rattle.ec_query.specs.Held.{AreHeldOf}
use Rattle.ec_query.proofs.HeldLemmas.{intervals_of-kept, intervals_of-unkept}
use Rattle.ec_compare.specs.Stretches.{pairs_between}
use Rattle.ec_compare.proofs.Loops.{pairs-none}

module _ {T : Type 0} (rank : T → ℤ) (theory : Theory) (events : List PlainEvent) (table : List KeptProp) (intervals : IntervalTable T) (held : AreHeldOf rank theory events table intervals) where
  -- the intervals of a kept property are a row
  pub IsIntervalRow-kept : (id : ℕ) (p : Ground) → term_at id table ≡ Some p → IsIntervalRow (plain_intervals rank (members_at id intervals))
  IsIntervalRow-kept id p kept =
      subst IsIntervalRow (sym (intervals_of-kept rank theory events table intervals held id p kept)) (IsIntervalRow-intervals_of theory events p held.history)

  -- the interval that covers a time
  pub interval_at-kept : (id : ℕ) (p : Ground) (t : ℤ) → term_at id table ≡ Some p → find (covers t) (plain_intervals rank (members_at id intervals)) ≡ interval_at theory events p t
  unfolding interval_at
  interval_at-kept id p t kept = ap (find (covers t)) (intervals_of-kept rank theory events table intervals held id p kept)

  pub interval_at-unkept : (p : Ground) (t : ℤ) → prop_of p table ≡ None → interval_at theory events p t ≡ None
  unfolding interval_at
  interval_at-unkept p t absent = ap (find (covers t)) (intervals_of-unkept rank theory events table intervals held p absent)

  -- the pairs of two kept properties, and of one that is not kept
  pub pairs_of-kept : (id other : ℕ) (p q : Ground) (r : Relation) → term_at id table ≡ Some p → term_at other table ≡ Some q
      → pairs_between r (plain_intervals rank (members_at id intervals)) (plain_intervals rank (members_at other intervals)) ≡ pairs_of theory events p r q
  pairs_of-kept id other p q r kept kept_too =
      ap₂ (pairs_between r) (intervals_of-kept rank theory events table intervals held id p kept) (intervals_of-kept rank theory events table intervals held other q kept_too)

  pub pairs_of-unkept_left : (p q : Ground) (r : Relation) → prop_of p table ≡ None → pairs_of theory events p r q ≡ []
  pairs_of-unkept_left p q r absent =
      ap (λ is. pairs_between r is (intervals_of theory events q)) (intervals_of-unkept rank theory events table intervals held p absent)

  pub pairs_of-unkept_right : (p q : Ground) (r : Relation) → prop_of q table ≡ None → pairs_of theory events p r q ≡ []
  pairs_of-unkept_right p q r absent =
      ap (pairs_between r (intervals_of theory events p)) (intervals_of-unkept rank theory events table intervals held q absent) ∙ pairs-none r (intervals_of theory events p)
