-- What is settled by turns is settled by the same turns in another order.
use Rattle.std.proofs.Common.{◌≡◌, ℤ, Bool, true, not, ◌&&◌, ◌||◌, List, length, filter, nat_lt, sym, ap, ◌∙◌, ⊎_elim}
use Rattle.std.specs.List.{list_any}
use Rattle.std.proofs.lemmas.Bool.{and_from, and_parts, cases_Bool}
use Rattle.ec_terms.specs.declared.ground.Ground.{Ground}
use Rattle.ec_terms.specs.declared.theory.Theory.{Theory}
use Rattle.ec_axioms.specs.Calculus.{PlainEvent, is_current}
use Rattle.ec_axioms.specs.Marks.{mark_at}
use Rattle.ec_axioms.proofs.Members.{IsMember, IsMember-filter, IsMember-from_filter, length_member, list_any-member, member-list_any, member_length}
use Rattle.ec_changes.specs.QuietLaws.{current_behind}
use Rattle.ec_revise.specs.Sweep.{Found, other_currency}
use Rattle.ec_revise.specs.Visit.{PlainTurn, Settles, SettlesOne, bare_entry, counts_for, currency_found, is_turned, mark_after, mark_matters, mark_planned}
use Rattle.ec_sweep.specs.Visiting.{AreSameTurns}
use Rattle.ec_sweep.proofs.SameTurns.{mark_after-same}

-- where as many members of two lists pass a test and another, one that passes both has one beside it
passes_too : (test wanted : PlainTurn → Bool) (turns others : List PlainTurn) → length (filter (λ turn. test turn && wanted turn) turns) ≡ length (filter (λ turn. test turn && wanted turn) others)
    → (turn : PlainTurn) → IsMember turns turn → test turn ≡ true → wanted turn ≡ true → list_any wanted others ≡ true
passes_too test wanted turns others same turn member passes counts =
    let some = length_member (filter (λ x. test x && wanted x) turns) turn (IsMember-filter (λ x. test x && wanted x) turns turn member (and_from (test turn) (wanted turn) passes counts)) in
    let other = member_length (filter (λ x. test x && wanted x) others) (sym (ap (nat_lt 0) same) ∙ some) in
    let found = IsMember-from_filter (λ x. test x && wanted x) others other.0 other.1 in
    member-list_any wanted others other.0 found.0 (and_parts (test other.0) (wanted other.0) found.1).1

module _ (turns others : List PlainTurn) (same : AreSameTurns turns others) where
  -- where one of the others counts for a property, one of the turns does
  pub is_turned-same : (theory : Theory) (p : Ground) → is_turned theory others p ≡ true → is_turned theory turns p ≡ true
  is_turned-same theory p turned =
      let wanted : PlainTurn → Bool = λ turn. counts_for theory p (bare_entry turn.kind turn.head) in
      let found = list_any-member wanted others turned in
      ⊎_elim
      (λ up. passes_too (λ turn. turn.up) wanted others turns (sym (same.ups_same (counts_for theory p))) found.0 found.1 up found.2)
      (λ down. passes_too (λ turn. not turn.up) wanted others turns (sym (same.downs_same (counts_for theory p))) found.0 found.1 (ap not down) found.2)
      (cases_Bool found.0.up)

  -- a property is settled by the others as by the turns
  SettlesOne-same : (theory : Theory) (old : List PlainEvent) (t : ℤ) (before after : Found) (p : Ground) → SettlesOne theory old t turns before after p → SettlesOne theory old t others before after p
  SettlesOne-same theory old t before after p one =
      let mark = mark_at theory old p t in
      let made : mark_after theory turns p mark ≡ mark_after theory others p mark = mark_after-same turns others same theory p mark in
      record {
        planned = one.planned ∙ ap (mark_planned mark) made;
        dirty = one.dirty ∙ ap (λ m. other_currency (current_behind (is_current theory old p t) mark) (current_behind (currency_found theory old before p t) m)) made;
        matters = one.matters ∙ ap (λ m. before.matters p || mark_matters (is_current theory old p t) (currency_found theory old before p t) mark m) made;
        due = one.due;
      }

  -- and so are all
  pub Settles-same : (theory : Theory) (old : List PlainEvent) (kept : Ground → Bool) (t : ℤ) (settled : Ground → Bool) (before after : Found)
      → Settles theory old kept t turns settled before after → Settles theory old kept t others settled before after
  Settles-same theory old kept t settled before after all = record {
    turned = λ p keeps turned. all.turned p keeps (is_turned-same theory p turned);
    due = all.due;
    each = λ p is. SettlesOne-same theory old t before after p (all.each p is);
    others = all.others;
    elsewhere = all.elsewhere;
    later = all.later;
    still_due = all.still_due;
  }
