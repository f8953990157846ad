-- What a sweep does at one instant: it looks at the entries that see a change, at removed and at added events, and settles the
-- properties that are due or that something which turned bears on.
use Rattle.std.specs.Prelude.{Contains, ◌≡◌, ◌≢◌, ℕ, ◌+◌, ◌-◌, ◌==◌, Bool, true, false, not, ◌&&◌, ◌||◌, if◌then◌else◌, List, [], ◌++◌, length, map, filter, ℤ, ◌<ℤ◌, Option, Some, None, unwrap_or, is_some, IsTrue, IsFalse}
use Rattle.std.specs.Bool.{beq}
use Rattle.std.specs.List.{list_any}
use Rattle.ec_terms.specs.declared.ground.Ground.{Ground}
use Rattle.ec_terms.specs.declared.theory.Kind.{Kind}
use Rattle.ec_terms.specs.declared.theory.Theory.{Theory}
use Rattle.ec_terms.specs.Domain.{GroundEntry}
use Rattle.ec_axioms.specs.Calculus.{PlainEvent, Effect, Currency, is_active, is_current, is_initiating, is_terminating, is_clashing}
use Rattle.ec_axioms.specs.Marks.{PlainMark, mark_at, mark_initiates}
use Rattle.ec_axioms.specs.Changes.{kept_events, events_only_in}
use Rattle.ec_changes.specs.Differences.{entries_at}
use Rattle.ec_changes.specs.QuietLaws.{current_behind}
use Rattle.ec_changes.specs.Turns.{gained, lost, same_entry, ListsSeen}
use Rattle.ec_revise.specs.Sweep.{Found, IsDueBy, bears_on, other_currency}

-- ---- what turns

-- an entry that came to act, or ceased to, by its kind and its head alone
pub record PlainTurn : Type 0 where
  pub up : Bool
  pub kind : Kind
  pub head : Ground

-- an entry of which only the kind and the head are known
abbrev pub bare_entry : Kind → Ground → GroundEntry
bare_entry kind head = record { rule = 0; kind = kind; head = head; literals = [] }

-- how many turns up are of entries that pass a test
abbrev pub ups : (GroundEntry → Bool) → List PlainTurn → ℕ
ups wanted turns = length (filter (λ turn. turn.up && wanted (bare_entry turn.kind turn.head)) turns)

-- how many turns down are
abbrev pub downs : (GroundEntry → Bool) → List PlainTurn → ℕ
downs wanted turns = length (filter (λ turn. not turn.up && wanted (bare_entry turn.kind turn.head)) turns)

-- The turns at an instant are what was gained and lost there, for any test of kind and head.
pub record AreTurnsAt (theory : Theory) (old new : List PlainEvent) (t : ℤ) (turns : List PlainTurn) : Type 0 where
  pub gained_by : (wanted : GroundEntry → Bool) → gained theory old new (λ entry. wanted (bare_entry entry.kind entry.head)) t ≡ ups wanted turns
  pub lost_by : (wanted : GroundEntry → Bool) → lost theory old new (λ entry. wanted (bare_entry entry.kind entry.head)) t ≡ downs wanted turns

-- an entry counts in the marks of a property: it initiates it, terminates it, or initiates one that is exclusive to it
abbrev pub counts_for : Theory → Ground → GroundEntry → Bool
counts_for theory p entry = is_initiating p entry || is_terminating p entry || is_clashing theory p entry

-- some turn counts in the marks of a property
abbrev pub is_turned : Theory → List PlainTurn → Ground → Bool
is_turned theory turns p = list_any (λ (turn : PlainTurn). counts_for theory p (bare_entry turn.kind turn.head)) turns

-- a mark of a property after some turns: each count with the turns up and without the turns down
abbrev pub mark_after : Theory → List PlainTurn → Ground → PlainMark → PlainMark
mark_after theory turns p mark = record {
  instant = mark.instant;
  inits = mark.inits + ups (is_initiating p) turns - downs (is_initiating p) turns;
  terms = mark.terms + ups (is_terminating p) turns - downs (is_terminating p) turns;
  clashes = mark.clashes + ups (is_clashing theory p) turns - downs (is_clashing theory p) turns;
}

-- ---- entries

-- the currency that the new list has at the next instant: that of a dirty property, and else the old one
abbrev pub currency_found : Theory → List PlainEvent → Found → Currency
currency_found theory old found p t = unwrap_or (found.dirty p) (is_current theory old p t)

-- the turn of an entry, to what is active now
abbrev pub turn_to : (Effect → Bool) → Effect → PlainTurn
turn_to active effect = record { up = active effect; kind = effect.entry.kind; head = effect.entry.head }

-- The turns of a visit: of the entries that were looked at, those whose activity is not what it was; the active entries of the
-- removed events, down; and those of the added events, up.
abbrev pub turns_between : Theory → List PlainEvent → List PlainEvent → ℤ → List Effect → Found → Found → List PlainTurn
turns_between theory old new t seen before after =
    map (turn_to after.active) (filter (λ effect. not (beq (before.active effect) (after.active effect))) seen)
    ++ map (turn_to (λ _. false)) (filter before.active (entries_at theory (events_only_in old new) t))
    ++ map (turn_to (λ _. true)) (filter after.active (entries_at theory (events_only_in new old) t))

-- An instant is looked at: the kept entries there that see a change, and those of added events, are evaluated by the new
-- currency, and counted; no other entry of a kept event has another activity than before.
pub record LooksAt (theory : Theory) (old new : List PlainEvent) (t : ℤ) (seen : List Effect) (before after : Found) : Type 0 where
  pub listed : ListsSeen theory old new t seen
  pub evaluated : (effect : Effect) → Contains (entries_at theory (kept_events old new) t) effect → IsTrue (list_any (same_entry effect) seen)
      → after.active effect ≡ is_active (currency_found theory old before) effect
  pub unseen : (effect : Effect) → Contains (entries_at theory (kept_events old new) t) effect → IsFalse (list_any (same_entry effect) seen)
      → after.active effect ≡ before.active effect
  pub added : (effect : Effect) → Contains (entries_at theory (events_only_in new old) t) effect → after.active effect ≡ is_active (currency_found theory old before) effect
  pub elsewhere : (effect : Effect) → effect.event.rank ≢ t → after.active effect ≡ before.active effect
  pub seen_more : after.seen ≡ before.seen + length seen
  pub on_more : after.on ≡ before.on + length (filter (λ effect. not (before.active effect) && after.active effect) seen)
  pub off_more : after.off ≡ before.off + length (filter (λ effect. before.active effect && not (after.active effect)) seen)

-- ---- properties

-- two marks count the same
abbrev pub counts_same : PlainMark → PlainMark → Bool
counts_same mark other = mark.inits == other.inits && mark.terms == other.terms && mark.clashes == other.clashes

-- the mark to plan in place of an old one: none, where the counts are the same
abbrev pub mark_planned : PlainMark → PlainMark → Option PlainMark
mark_planned mark other = if counts_same mark other then None else Some other

-- a change of a mark may change intervals: the property is current before it in a list, or a mark initiates it
abbrev pub mark_matters : Bool → Bool → PlainMark → PlainMark → Bool
mark_matters before after mark other = not (counts_same mark other) && (before || after || mark_initiates mark || mark_initiates other)

-- A property is settled at an instant: its mark is planned, and whether it is dirty behind the instant; if it is, it is due by
-- the time that anything bears on it.
pub record SettlesOne (theory : Theory) (old : List PlainEvent) (t : ℤ) (turns : List PlainTurn) (before after : Found) (p : Ground) : Type 0 where
  pub planned : let mark = mark_at theory old p t in after.planned p t ≡ mark_planned mark (mark_after theory turns p mark)
  pub dirty : let mark = mark_at theory old p t in
      after.dirty p ≡ other_currency (current_behind (is_current theory old p t) mark) (current_behind (currency_found theory old before p t) (mark_after theory turns p mark))
  pub matters : let mark = mark_at theory old p t in
      after.matters p ≡ (before.matters p || mark_matters (is_current theory old p t) (currency_found theory old before p t) mark (mark_after theory turns p mark))
  pub due : (u : ℤ) → IsTrue (is_some (after.dirty p)) → t <ℤ u → IsTrue (bears_on theory old p u) → IsDueBy after.agenda p t u

-- a property is left alone at an instant
pub record LeavesOne (t : ℤ) (before after : Found) (p : Ground) : Type 0 where
  pub planned : after.planned p t ≡ before.planned p t
  pub dirty : after.dirty p ≡ before.dirty p
  pub matters : after.matters p ≡ before.matters p

-- Properties are settled at an instant: all those kept for which a turn counts, and all dirty ones that are due there. The
-- others are left alone; no mark of another instant is planned anew; and what is due later stays so.
pub record Settles (theory : Theory) (old : List PlainEvent) (kept : Ground → Bool) (t : ℤ) (turns : List PlainTurn) (settled : Ground → Bool) (before after : Found) : Type 0 where
  pub turned : (p : Ground) → IsTrue (kept p) → IsTrue (is_turned theory turns p) → IsTrue (settled p)
  pub due : (p : Ground) → IsTrue (is_some (before.dirty p)) → IsTrue (before.agenda t p) → IsTrue (settled p)
  pub each : (p : Ground) → IsTrue (settled p) → SettlesOne theory old t turns before after p
  pub others : (p : Ground) → IsFalse (settled p) → LeavesOne t before after p
  pub elsewhere : (p : Ground) (u : ℤ) → u ≢ t → after.planned p u ≡ before.planned p u
  pub later : (p : Ground) (u : ℤ) → IsTrue (after.agenda u p) → t <ℤ u
  pub still_due : (p : Ground) (u : ℤ) → t <ℤ u → IsTrue (before.agenda u p) → IsTrue (after.agenda u p)

-- A visit of an instant, with the entries that were looked at and the properties that were settled.
pub record Visits (theory : Theory) (old new : List PlainEvent) (kept : Ground → Bool) (t : ℤ) (seen : List Effect) (settled : Ground → Bool) (before after : Found) : Type 0 where
  pub looks : LooksAt theory old new t seen before after
  pub settles : Settles theory old kept t (turns_between theory old new t seen before after) settled before after
