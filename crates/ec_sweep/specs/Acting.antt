-- Which entries are active by the numbers of properties, and what turned, for the entries of the three kinds that a visit meets:
-- those that are looked at, those of events to be taken out, and those of events to be put in.
use Rattle.std.specs.Prelude.{◌≡◌, ◌+◌, ℕ, ℤ, ◌==◌, Bool, true, false, if◌then◌else◌, List, [], ◌∷◌, ◌++◌, map, filter, flat_map, Option, Some, None, option_map, option_and_then, unwrap_or, slice_get, IsTrue, IsSome}
use Rattle.std.specs.Bool.{beq}
use Rattle.std.specs.List.{list_any}
use Rattle.std.specs.Option.{option_map_or}
use Rattle.ec_terms.specs.declared.ids.Slot.{Slot}
use Rattle.ec_numbered.specs.ByNumber.{kept_at}
use Rattle.ec_context.specs.declared.entry.Entry.{Entry}
use Rattle.ec_context.specs.Activity.{NumberCurrency, literals_agree}
use Rattle.ec_entries.specs.declared.event_entries.EventEntries.{EventEntries}
use Rattle.ec_parts.specs.Activity.{is_bit_set}
use Rattle.ec_revise.specs.declared.change.Removal.{Removal}
use Rattle.ec_revise.specs.declared.turn.Turn.{Turn}
use Rattle.ec_delta.specs.declared.flips.Flip.{Flip}
use Rattle.ec_delta.specs.Looked.{active_of, active_found, are_apart, flip_at}
use Rattle.ec_sweep.specs.declared.hits.Hit.{Hit}
use Rattle.ec_sweep.specs.Hits.{Slots, has_hit}
use Rattle.ec_sweep.specs.Words.{word_at}

-- an entry is active at t
abbrev pub acts : NumberCurrency → ℤ → Entry → Bool
acts current t entry = literals_agree current t entry.literals

-- the turn of an entry, up or down
abbrev pub turn_of : Bool → Entry → Turn
turn_of up entry = record { up = up; kind = entry.kind; head = entry.head }

-- ---- entries that are looked at

-- the entry at a place of a slot
abbrev pub entry_at : {T : Type 0} → Slots T → Hit → Option Entry
entry_at slots hit = option_and_then (λ kept. slice_get kept.list hit.place) (kept_at hit.slot.0 slots)

-- it was active by the bits that are kept
abbrev pub was_active : {T : Type 0} → Slots T → Hit → Bool
was_active slots hit = is_bit_set (active_of (kept_at hit.slot.0 slots)) hit.place

-- it is active at t
abbrev pub acts_at : {T : Type 0} → NumberCurrency → ℤ → Slots T → Hit → Bool
acts_at current t slots hit = option_map_or (acts current t) (entry_at slots hit) false

-- its turn, if it was not as it is
abbrev pub turn_at : {T : Type 0} → NumberCurrency → ℤ → Slots T → Hit → Option Turn
turn_at current t slots hit =
    if beq (was_active slots hit) (acts_at current t slots hit) then None else option_map (turn_of (acts_at current t slots hit)) (entry_at slots hit)

-- the word of a slot: a new one, or else the one that is kept
abbrev pub word_found : {T : Type 0} → Slots T → List (ℕ × ℕ) → ℕ → ℕ
word_found slots words n = unwrap_or (word_at n words) (active_of (kept_at n slots))

-- some hit is in the slot
abbrev pub has_hit_in : ℕ → List Hit → Bool
has_hit_in slot hits = list_any (λ (hit : Hit). hit.slot.0 == slot) hits

-- The words say of each hit whether it acts, and of every other entry what they said.
pub record WordsHit {T : Type 0} (current : NumberCurrency) (t : ℤ) (slots : Slots T) (hits : List Hit) (before after : List (ℕ × ℕ)) : Type 0 where
  pub bits : (slot k : ℕ) → is_bit_set (word_found slots after slot) k
      ≡ (if has_hit slot k hits then acts_at current t slots (record { slot = record { 0 = slot }; place = k }) else is_bit_set (word_found slots before slot) k)
  pub others : (slot : ℕ) → has_hit_in slot hits ≡ false → word_at slot after ≡ word_at slot before

-- New bits of slots stand behind the old ones: those of the slots of hits whose bits differ, each once; by them each hit is
-- active as it acts, and every other entry is as it is kept.
pub record FlipsHits {T : Type 0} (current : NumberCurrency) (t : ℤ) (slots : Slots T) (hits : List Hit) (before after : List Flip) : Type 0 where
  pub added : List Flip
  pub are : after ≡ before ++ added
  pub apart : IsTrue (are_apart added)
  pub of_hits : (slot : Slot) → IsSome (flip_at slot added) → IsTrue (has_hit_in slot.0 hits)
  pub bits : (slot : Slot) (k : ℕ) → is_bit_set (active_found slot added (kept_at slot.0 slots)) k
      ≡ (if has_hit slot.0 k hits then acts_at current t slots (record { slot = slot; place = k }) else is_bit_set (active_of (kept_at slot.0 slots)) k)

-- ---- entries of events to be taken out

-- the turns down of the entries of a list whose bits are set, where the list goes on from a place
abbrev pub turns_from : ℕ → ℕ → List Entry → List Turn
turns_from word place [] = []
turns_from word place (entry ∷ list) = if is_bit_set word place then turn_of false entry ∷ turns_from word (place + 1) list else turns_from word (place + 1) list

-- the turns down of an event
abbrev pub down_turns : {T : Type 0} → Option (EventEntries T) → List Turn
down_turns None = []
down_turns (Some kept) = turns_from kept.active 0 kept.list

-- the turns down of the events to be taken out
abbrev pub removed_turns : {T : Type 0} → Slots T → List (Removal T) → List Turn
removed_turns slots removals = flat_map (λ removal. down_turns (kept_at removal.slot.0 slots)) removals

-- ---- entries of events to be put in

-- the turns up of an event: of its entries that act
abbrev pub up_turns : NumberCurrency → ℤ → List Entry → List Turn
up_turns current t list = map (turn_of true) (filter (acts current t) list)

-- the turns up of several
abbrev pub added_turns : NumberCurrency → ℤ → List (List Entry) → List Turn
added_turns current t lists = flat_map (up_turns current t) lists

-- the bits of a word say which entries of a list act; none is set behind them
abbrev pub IsWordOf : NumberCurrency → ℤ → List Entry → ℕ → Type 0
IsWordOf current t list word = (k : ℕ) → is_bit_set word k ≡ option_map_or (acts current t) (slice_get list k) false

-- each list has its word at its place
abbrev pub AreWordsOf : NumberCurrency → ℤ → List (List Entry) → List ℕ → Type 0
AreWordsOf current t [] [] = Unit {0}
AreWordsOf current t [] (word ∷ words) = ⊥
AreWordsOf current t (list ∷ lists) [] = ⊥
AreWordsOf current t (list ∷ lists) (word ∷ words) = IsWordOf current t list word × AreWordsOf current t lists words

-- words of some lists came behind what stood there
pub record AddsWords (current : NumberCurrency) (t : ℤ) (lists : List (List Entry)) (before after : List ℕ) : Type 0 where
  pub words : List ℕ
  pub are : after ≡ before ++ words
  pub of_lists : AreWordsOf current t lists words
