-- The reason for a property at a time, by its last begin before the time and the next break behind that.
use Rattle.std.proofs.Common.{◌≡◌, ℕ, ℤ, Bool, true, false, cond, ◌&&◌, List, Some, None, option_map, IsTrue, refl, sym, ap, ◌∙◌, arith}
use Rattle.std.specs.Prelude.{int_le, nat_lt}
use Rattle.std.specs.List.{last_or}
use Rattle.std.specs.Option.{option_or}
use Rattle.std.proofs.lemmas.Bool.Decides.{nat_tests}
use Rattle.ec_terms.specs.declared.ground.Ground.{Ground}
use Rattle.ec_terms.specs.declared.theory.Theory.{Theory}
use Rattle.ec_terms.specs.Domain.{is_initial}
use Rattle.ec_axioms.specs.Calculus.{PlainEvent, has_effect, is_breaking, is_current, is_initiated, is_terminated, reason_of, timeline_by, timeline_of}
use Rattle.ec_axioms.specs.Marks.{PlainMark, mark_at}
use Rattle.ec_axioms.specs.Timeline.{Begin, begin_at, reason_yes, reason_never, reason_ended, reason_broken, Timeline, initial_begins, instants_before, is_start, last_begin, next_break, reason_by, reason_from}
use Rattle.ec_axioms.proofs.Members.{filter_none}
use Rattle.ec_axioms.proofs.TimelineLaws.{next_break-is}
use Rattle.ec_query.proofs.FirstCauses.{has_break-breaking}
use Rattle.ec_query.proofs.LastBegins.{last_begin-by_start, last_begin-initiated}

module _ (theory : Theory) (events : List PlainEvent) (p : Ground) (t : ℤ) where
  abbrev pub line : Timeline
  line = timeline_of theory events p

  pub reason_of-never : last_begin (timeline_of theory events p) t ≡ None → reason_never ≡ reason_of theory events p t
  unfolding reason_of
  reason_of-never none = sym (ap (reason_by (timeline_of theory events p) t) none)

  module _ (begin : Begin) (last : last_begin (timeline_of theory events p) t ≡ Some begin) where
    pub reason_of-from : reason_from (timeline_of theory events p) t begin (next_break (timeline_of theory events p) begin) ≡ reason_of theory events p t
    unfolding reason_of
    reason_of-from = sym (ap (reason_by (timeline_of theory events p) t) last)

    pub reason_of-lasting : next_break (timeline_of theory events p) begin ≡ None → reason_yes begin None ≡ reason_of theory events p t
    reason_of-lasting none = sym (ap (reason_from (timeline_of theory events p) t begin) none) ∙ reason_of-from

    module _ (x : ℤ) (next : next_break (timeline_of theory events p) begin ≡ Some x) where
      by_end : (b : Bool) → is_terminated theory events (is_current theory events) p x ≡ b
          → cond b (cond (int_le t x) (reason_yes begin (Some x)) (reason_ended begin x)) (reason_broken begin x) ≡ reason_of theory events p t
      unfolding timeline_of timeline_by
      by_end b is =
          ap (λ c. cond c (cond (int_le t x) (reason_yes begin (Some x)) (reason_ended begin x)) (reason_broken begin x)) (sym is)
          ∙ sym (ap (reason_from (timeline_of theory events p) t begin) next) ∙ reason_of-from

      pub reason_of-broken : is_terminated theory events (is_current theory events) p x ≡ false → reason_broken begin x ≡ reason_of theory events p t
      reason_of-broken not_ended = by_end false not_ended

      pub reason_of-ending : is_terminated theory events (is_current theory events) p x ≡ true → int_le t x ≡ true → reason_yes begin (Some x) ≡ reason_of theory events p t
      reason_of-ending ended within = ap (λ b. cond b (reason_yes begin (Some x)) (reason_ended begin x)) (sym within) ∙ by_end true ended

      pub reason_of-ended : is_terminated theory events (is_current theory events) p x ≡ true → int_le t x ≡ false → reason_ended begin x ≡ reason_of theory events p t
      reason_of-ended ended after = ap (λ b. cond b (reason_yes begin (Some x)) (reason_ended begin x)) (sym after) ∙ by_end true ended

      -- the next break breaks the property
      pub broken-there : is_terminated theory events (is_current theory events) p x ≡ false → IsTrue (has_effect theory events (is_current theory events) (is_breaking theory p) x)
      unfolding timeline_of timeline_by
      broken-there not_ended = has_break-breaking theory events p x (next_break-is (timeline_of theory events p) begin x next).2 not_ended

  -- a begin at an instant initiates the property
  pub begun-there : (s : ℤ) → last_begin (timeline_of theory events p) t ≡ Some (begin_at s) → IsTrue (is_initiated theory events (is_current theory events) p s)
  unfolding timeline_of timeline_by
  begun-there s last = last_begin-initiated (timeline_of theory events p) t s last

  -- a property that is not initial and is never initiated has no begin
  pub last_begin-none : is_initial theory p ≡ false → ((s : ℤ) → (mark_at theory events p s).inits ≡ 0) → last_begin (timeline_of theory events p) t ≡ None
  unfolding timeline_of timeline_by mark_at has_effect
  last_begin-none not_initial never =
      last_begin-by_start (timeline_of theory events p) t
      ∙ ap (λ (starts : List ℤ). option_or (option_map begin_at (last_or None starts)) (last_or None (initial_begins (is_initial theory p))))
      (filter_none (is_start (timeline_of theory events p)) (instants_before (timeline_of theory events p) t) (λ s member. not_started s))
      ∙ ap (λ b. last_or None (initial_begins b)) not_initial
    where
      no_start : (initiated rest : Bool) (n : ℕ) → initiated ≡ nat_lt 0 n → n ≡ 0 → (initiated && rest) ≡ false
      no_start initiated rest n is none = grind (arith, nat_tests)

      not_started : (s : ℤ) → is_start (timeline_of theory events p) s ≡ false
      not_started s = no_start (is_initiated theory events (is_current theory events) p s) _ (mark_at theory events p s).inits refl (never s)

-- what a mark counts at an instant says whether the property is terminated there
pub terms-terminated : (theory : Theory) (events : List PlainEvent) (p : Ground) (x : ℤ) (mark : PlainMark) → mark ≡ mark_at theory events p x
    → nat_lt 0 mark.terms ≡ is_terminated theory events (is_current theory events) p x
unfolding mark_at has_effect
terms-terminated theory events p x mark is = ap (λ (m : PlainMark). nat_lt 0 m.terms) is
