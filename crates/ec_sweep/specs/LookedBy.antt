-- What the look at an instant does, by slots and the numbers of properties.
use Rattle.std.specs.Prelude.{◌≡◌, ◌⊎◌, ◌+◌, ◌*◌, ◌≤◌, ℕ, ℤ, not, List, ◌++◌, filter_map, flat_map, count_by, length}
use Rattle.ec_terms.specs.declared.ids.PropId.{PropId}
use Rattle.ec_context.specs.declared.entry.Entry.{Entry}
use Rattle.ec_context.specs.Activity.{NumberCurrency}
use Rattle.ec_revise.specs.declared.change.Removal.{Removal}
use Rattle.ec_revise.specs.declared.turn.Turn.{Turn}
use Rattle.ec_delta.specs.declared.delta.Looked.{Looked}
use Rattle.ec_sweep.specs.declared.hits.Hit.{Hit}
use Rattle.ec_sweep.specs.State.{DirtyRows}
use Rattle.ec_sweep.specs.Hits.{AreHits, Slots}
use Rattle.ec_sweep.specs.Acting.{AddsWords, FlipsHits, added_turns, removed_turns, turn_at}

-- The look at an instant, where these events are to be taken out, and events with these lists of entries put in: there are the
-- hits, what is counted of them, the new bits, and what turned.
pub record HasLookedBy {T : Type 0} (rank : T → ℤ) (current : NumberCurrency) (slots : Slots T) (t : ℤ) (dirty : DirtyRows) (due : List PropId)
    (removals : List (Removal T)) (lists : List (List Entry)) (before after : Looked) (turns : List Turn) : Type 0 where
  pub hits : List Hit
  pub are_hits : AreHits rank slots t dirty due removals hits
  pub seen : after.seen ≡ before.seen + length hits
  pub on : after.on ≡ before.on + count_by (λ (turn : Turn). turn.up) (filter_map (turn_at current t slots) hits)
  pub off : after.off ≡ before.off + count_by (λ (turn : Turn). not turn.up) (filter_map (turn_at current t slots) hits)
  pub flips : FlipsHits current t slots hits before.flips after.flips
  pub bits : AddsWords current t lists before.bits after.bits
  pub turned : turns ≡ filter_map (turn_at current t slots) hits ++ removed_turns slots removals ++ added_turns current t lists

-- What the look may take of steps, whether it ends or not: none, where the hits are not found; else there are the hits, and at
-- most two steps for each, one for each removed event, and one for each entry of an added event.
abbrev pub TakesSteps : {T : Type 0} → (T → ℤ) → Slots T → ℤ → DirtyRows → List PropId → List (Removal T) → List (List Entry) → ℕ → ℕ → Type 0
TakesSteps rank slots t dirty due removals lists before after =
    (after ≡ before)
    ⊎ ((hits : List Hit) × AreHits rank slots t dirty due removals hits × (after ≤ before + 2 * length hits + length removals + length (flat_map (λ list. list) lists)))
