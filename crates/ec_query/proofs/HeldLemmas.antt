-- The intervals of a property, whether it is kept or not, and what they say of it.
use Rattle.std.proofs.Common.{◌≡◌, ℕ, ℤ, List, [], false, Some, None, is_some, map, sym, ap, ◌∙◌, append-nil}
use Rattle.std.specs.Prelude.{decimal}
use Rattle.ec_commands.specs.QueryTexts.{Canon, counted_text, interval_text, intervals_reply}
use Rattle.std.proofs.lemmas.Bool.{false≢true, false_from_ne_true}
use Rattle.ec_terms.specs.declared.ground.Ground.{Ground}
use Rattle.ec_terms.specs.declared.theory.Theory.{Theory}
use Rattle.ec_axioms.specs.Calculus.{PlainEvent, intervals_of, holds_at, holds_through}
use Rattle.ec_axioms.specs.Timeline.{is_held_at, is_held_through}
use Rattle.ec_axioms.specs.Links.{is_live}
use Rattle.ec_changes.specs.LiveLaws.{IsUnknown}
use Rattle.ec_changes.proofs.LiveMarks.{NotLiveIsUnknown-law}
use Rattle.ec_store.specs.Table.{KeptProp, prop_of, term_at}
use Rattle.ec_intervals.specs.Table.{IntervalTable, members_at, plain_intervals}
use Rattle.ec_query.specs.Held.{AreHeldOf, KeepsLive}

module _ (theory : Theory) (events : List PlainEvent) (table : List KeptProp) (p : Ground) (live : KeepsLive theory events table) (absent : prop_of p table ≡ None) where
  -- a property that is not kept is not live
  pub is_live-unkept : is_live theory events p ≡ false
  is_live-unkept = false_from_ne_true (is_live theory events p) (λ lives. false≢true (sym (ap is_some absent) ∙ live p lives))

  -- and nothing is known of it
  pub IsUnknown-unkept : IsUnknown theory events p
  IsUnknown-unkept = NotLiveIsUnknown-law theory events p is_live-unkept

module _ {T : Type 0} (rank : T → ℤ) (theory : Theory) (events : List PlainEvent) (table : List KeptProp) (intervals : IntervalTable T) (held : AreHeldOf rank theory events table intervals) where
  -- the intervals of a kept property are those under its number
  pub intervals_of-kept : (id : ℕ) (p : Ground) → term_at id table ≡ Some p → plain_intervals rank (members_at id intervals) ≡ intervals_of theory events p
  intervals_of-kept id p kept = held.intervals_of.members id p kept

  -- one that is not kept has none
  pub intervals_of-unkept : (p : Ground) → prop_of p table ≡ None → intervals_of theory events p ≡ []
  intervals_of-unkept p absent = (IsUnknown-unkept theory events table p held.live absent).no_interval

  pub holds_at-kept : (id : ℕ) (p : Ground) (t : ℤ) → term_at id table ≡ Some p → is_held_at (plain_intervals rank (members_at id intervals)) t ≡ holds_at theory events p t
  unfolding holds_at
  holds_at-kept id p t kept = ap (λ is. is_held_at is t) (intervals_of-kept id p kept)

  pub holds_at-unkept : (p : Ground) (t : ℤ) → prop_of p table ≡ None → holds_at theory events p t ≡ false
  unfolding holds_at
  holds_at-unkept p t absent = ap (λ is. is_held_at is t) (intervals_of-unkept p absent)

  pub holds_through-kept : (id : ℕ) (p : Ground) (a b : ℤ) → term_at id table ≡ Some p → is_held_through (plain_intervals rank (members_at id intervals)) a b ≡ holds_through theory events p a b
  unfolding holds_through
  holds_through-kept id p a b kept = ap (λ is. is_held_through is a b) (intervals_of-kept id p kept)

  pub holds_through-unkept : (p : Ground) (a b : ℤ) → prop_of p table ≡ None → holds_through theory events p a b ≡ false
  unfolding holds_through
  holds_through-unkept p a b absent = ap (λ is. is_held_through is a b) (intervals_of-unkept p absent)

  -- ---- what the replies say

  pub intervals_reply-kept : (canon : Canon) (id : ℕ) (p : Ground) → term_at id table ≡ Some p
      → counted_text (map (interval_text canon) (plain_intervals rank (members_at id intervals))) ≡ intervals_reply theory events canon p
  unfolding intervals_reply
  intervals_reply-kept canon id p kept = ap (λ is. counted_text (map (interval_text canon) is)) (intervals_of-kept id p kept)

  pub intervals_reply-unkept : (canon : Canon) (p : Ground) → prop_of p table ≡ None → decimal 0 ≡ intervals_reply theory events canon p
  unfolding intervals_reply
  intervals_reply-unkept canon p absent = sym (ap (λ is. counted_text (map (interval_text canon) is)) (intervals_of-unkept p absent) ∙ append-nil (decimal 0))
