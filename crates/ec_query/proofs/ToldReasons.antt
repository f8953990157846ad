-- A reason with its causes: what it is made of, what it may cost, and how it is told.
use Rattle.std.proofs.Common.{◌≡◌, ◌≤◌, ℕ, ◌+◌, ◌*◌, ℤ, Bool, true, false, List, ◌++◌, Option, Some, None, option_map, refl, sym, ap, ap₂, subst, ◌∙◌, arith}
use Rattle.std.specs.Prelude.{codes, nat_lt}
use Rattle.std.proofs.lemmas.Bool.{or_parts}
use Rattle.std.proofs.lemmas.Bool.Decides.{nat_tests}
use Rattle.std.proofs.lemmas.Option.{same_Some}
use Rattle.ec_terms.specs.declared.ground.Ground.{Ground}
use Rattle.ec_terms.specs.declared.theory.Theory.{Theory}
use Rattle.ec_terms.specs.Domain.{is_initial}
use Rattle.ec_axioms.specs.Calculus.{PlainEvent, is_current, is_terminated, reason_of, timeline_of}
use Rattle.ec_axioms.specs.Links.{is_live}
use Rattle.ec_axioms.specs.Marks.{PlainMark, mark_at}
use Rattle.ec_commands.specs.QueryTexts.{Canon, begin_text, cause_text, origin_text, reason_text, why_reply}
use Rattle.ec_axioms.specs.Timeline.{Begin, before_all, begin_at, Reason as PlainReason, last_begin, next_break}
use Rattle.ec_axioms.proofs.HistoryMarks.{instant-mark_at}
use Rattle.ec_intervals.specs.Table.{plain_begin}
use Rattle.ec_store.specs.Table.{prop_of}
use Rattle.ec_rows.specs.declared.mark.Mark.{Mark}
use Rattle.ec_rows.specs.PlainMarks.{plain_mark}
use Rattle.ec_parts.specs.StandFor.{View}
use Rattle.ec_query.specs.declared.reason.Origin.{Origin}
use Rattle.ec_query.specs.declared.reason.Origin.TheVariants.{Initial, At}
use Rattle.ec_query.specs.declared.reason.Reason.{Reason}
use Rattle.ec_query.specs.declared.reason.Reason.TheVariants.{Yes, Never, Ended, Broken}
use Rattle.ec_query.specs.ReasonSteps.{reason_count, why_steps}
use Rattle.ec_query.specs.Reasons.{HasFirstCauses, HasOriginCause, IsReasonFor, plain_origin, plain_reason}
use Rattle.ec_query.specs.Standing.{IsBegun, IsBrokenAt, StandForList}
use Rattle.ec_query.specs.ReasonTexts.{told_origin, told_reason}
use Rattle.ec_query.proofs.HeldLemmas.{IsUnknown-unkept, is_live-unkept}
use Rattle.ec_query.proofs.ReasonCases.{begun-there, last_begin-none, reason_of-never, terms-terminated}

-- ---- the last begin and the break behind it

module _ (theory : Theory) (events : List PlainEvent) (p : Ground) (t : ℤ) where
  -- a last begin is one at which the property is initiated
  pub last_begin-begun : (begin : Begin) → last_begin (timeline_of theory events p) t ≡ Some begin → IsBegun theory events p begin
  last_begin-begun before_all last = tt
  last_begin-begun (begin_at s) last = begun-there theory events p t s last

  -- so many steps a reason may take
  pub why_steps-of : (reason : PlainReason) → reason ≡ reason_of theory events p t → 2 * reason_count events reason ≡ why_steps theory events p t
  unfolding why_steps
  why_steps-of reason is = ap (λ r. 2 * reason_count events r) is

  -- and no more were taken
  pub why_steps-within : (steps now : ℕ) (reason : PlainReason) → reason ≡ reason_of theory events p t → steps ≤ now + 2 * reason_count events reason → steps ≤ now + why_steps theory events p t
  why_steps-within steps now reason is read = subst (λ n. steps ≤ now + n) (why_steps-of reason is) read

-- steps for the begin alone, for the end alone, and for both
pub begin_read : (steps now begun : ℕ) → steps ≤ now + 2 * begun → steps ≤ now + 2 * (begun + 0)
begin_read steps now begun read = omega (arith, read)

pub end_read : (steps now begun ended : ℕ) → steps ≤ now + 2 * ended → steps ≤ now + 2 * (begun + ended)
end_read steps now begun ended read = omega (arith, read)

pub both_read : (steps middle now begun ended : ℕ) → middle ≤ now + 2 * ended → steps ≤ middle + 2 * begun → steps ≤ now + 2 * (begun + ended)
both_read steps middle now begun ended first second = omega (arith, first, second)

-- what takes no step takes none too many
pub no_more_steps : (steps count : ℕ) → steps ≤ steps + 2 * count
no_more_steps steps count = omega arith

module _ {T : Type 0} (rank : T → ℤ) (theory : Theory) (events : List PlainEvent) (p : Ground) where
  -- the mark at the next break
  pub broken-at : (at : T) (begin : Begin) (mark : Mark T) → last_begin (timeline_of theory events p) (rank at) ≡ Some begin
      → Some (plain_mark rank mark) ≡ option_map (mark_at theory events p) (next_break (timeline_of theory events p) begin) → IsBrokenAt rank theory events p at begin mark
  broken-at at begin mark last is = of (next_break (timeline_of theory events p) begin) refl is
    where
      of : (o : Option ℤ) → next_break (timeline_of theory events p) begin ≡ o → Some (plain_mark rank mark) ≡ option_map (mark_at theory events p) o → IsBrokenAt rank theory events p at begin mark
      of None next is = absurd (let none = is in cc)
      of (Some x) next is =
          let same = same_Some (plain_mark rank mark) (mark_at theory events p x) is in
          let here : rank mark.at ≡ x = ap (λ (m : PlainMark). m.instant) same ∙ instant-mark_at theory events p x in
          record { last = last; break = next ∙ ap Some (sym here); counted = same ∙ ap (mark_at theory events p) (sym here) }

  module _ (at : T) (begin : Begin) (mark : Mark T) (broken : IsBrokenAt rank theory events p at begin mark) where
    zero_terms : (n : ℕ) (b : Bool) → nat_lt 0 n ≡ b → n ≡ 0 → b ≡ false
    zero_terms n b is none = grind (arith, nat_tests)

    some_terms : (n : ℕ) (b : Bool) → nat_lt 0 n ≡ b → (n ≡ 0 → ⊥) → b ≡ true
    some_terms n b is some = grind (arith, nat_tests)

    -- whether it terminates
    pub not_terminated : mark.terms ≡ 0 → is_terminated theory events (is_current theory events) p (rank mark.at) ≡ false
    not_terminated none = zero_terms mark.terms _ (terms-terminated theory events p (rank mark.at) (plain_mark rank mark) broken.counted) none

    pub terminated : (mark.terms ≡ 0 → ⊥) → is_terminated theory events (is_current theory events) p (rank mark.at) ≡ true
    terminated some = some_terms mark.terms _ (terms-terminated theory events p (rank mark.at) (plain_mark rank mark) broken.counted) some

-- ---- what is not kept

module _ {T : Type 0} (rank : T → ℤ) (theory : Theory) (events : List PlainEvent) (view : View T) (stand : StandForList rank theory events view) (p : Ground) (t : ℤ) (unkept : prop_of p view.table ≡ None) where
  not_initial : is_initial theory p ≡ false
  unfolding is_live
  not_initial = (or_parts (is_initial theory p) _ (is_live-unkept theory events view.table p stand.both.live unkept)).0

  -- has no reason
  pub reason_of-unkept : IsReasonFor rank theory events p t Never
  reason_of-unkept = record {
    same = reason_of-never theory events p t (last_begin-none theory events p t not_initial (IsUnknown-unkept theory events view.table p stand.both.live unkept).no_inits);
    causes = tt;
  }

-- ---- texts

module _ {T : Type 0} (rank : T → ℤ) (canon : Canon) (theory : Theory) (events : List PlainEvent) (p : Ground) where
  told_origin-text : (origin : Origin T) → HasOriginCause rank theory events p origin → told_origin origin ≡ origin_text theory events p (plain_origin rank origin)
  told_origin-text Initial cause = refl
  told_origin-text (At t cause) first = ap (λ o. codes "by " ++ cause_text o) (sym first)

  told-text : (reason : Reason T) → HasFirstCauses rank theory events p reason → told_reason rank canon reason ≡ reason_text theory events canon p (plain_reason rank reason)
  unfolding reason_text
  told-text (Yes from None) causes = ap (λ text. codes "yes " ++ begin_text canon (plain_origin rank from) ++ codes " inf " ++ text) (told_origin-text from causes.0)
  told-text (Yes from (Some until)) causes =
      ap₂ (λ text o. codes "yes " ++ begin_text canon (plain_origin rank from) ++ codes " " ++ canon (rank until.0) ++ codes " " ++ text ++ codes " until " ++ cause_text o)
      (told_origin-text from causes.0) (sym causes.1)
  told-text Never causes = refl
  told-text (Ended from until by) first =
      ap (λ o. codes "no ended " ++ begin_text canon (plain_begin rank from) ++ codes " " ++ canon (rank until) ++ codes " by " ++ cause_text o) (sym first)
  told-text (Broken from until by) first =
      ap (λ o. codes "no broken " ++ begin_text canon (plain_begin rank from) ++ codes " " ++ canon (rank until) ++ codes " by " ++ cause_text o) (sym first)

  -- the reason for a property at a time is told as the reply
  pub told-reply : (t : ℤ) (reason : Reason T) → IsReasonFor rank theory events p t reason → told_reason rank canon reason ≡ why_reply theory events canon p t
  unfolding why_reply
  told-reply t reason is = told-text reason is.causes ∙ ap (reason_text theory events canon p) is.same
