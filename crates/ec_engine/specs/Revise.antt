-- What it is to apply a batch of updates to a list of events, all of it or nothing; and how many steps that may take.
use Rattle.std.specs.Prelude.{◌≡◌, ℕ, ℤ, ◌+◌, ◌*◌, List, [], length, Result, Ok, Err, IsTrue}
use Rattle.ec_terms.specs.declared.theory.Theory.{Theory}
use Rattle.ec_axioms.specs.declared.event.Seen.{Seen}
use Rattle.ec_axioms.specs.Calculus.{PlainEvent}
use Rattle.ec_axioms.specs.Changes.{PlainUpdate, PlacedCut, change_counts, entry_count, events_only_in, work_between}
use Rattle.ec_replies.specs.Runs.{batch_may_want_memory}
use Rattle.ec_replies.specs.Updates.{updated_by}
use Rattle.ec_batch.specs.declared.refusal.Refusal.{Refusal}
use Rattle.ec_batch.specs.declared.refusal.Refusal.TheVariants.{Update, Memory}
use Rattle.ec_watch.specs.declared.row.Row.{Row}
use Rattle.ec_watch.specs.declared.tails.Tail.{Tail}
use Rattle.ec_watch.specs.Tails.{AreTails}

-- What applying a batch comes to: the list after all updates, and what changed between the two lists; or the first refusal
-- with its place, or memory ran out, and then the list is as it was.
abbrev pub IsRevised : Theory → List PlainEvent → List PlainUpdate → Result Seen Refusal → List PlainEvent → Type 0
IsRevised theory before updates (Ok seen) after = (updated_by theory before updates ≡ Ok after) × (seen ≡ change_counts theory before after)
IsRevised theory before updates (Err (Update place cut)) after = (updated_by theory before updates ≡ Err (place, cut)) × (after ≡ before)
IsRevised theory before updates (Err (Memory none)) after = IsTrue (batch_may_want_memory theory before updates) × (after ≡ before)

-- What is left of tails by updates of a list: where they are applied, those of what is watched, and else none.
abbrev pub HasTails : {T E : Type 0} → (T → ℤ) → Theory → List PlainEvent → List PlainEvent → List Row → List (Tail T) → Result Seen E → Type 0
HasTails rank theory before after watched tails (Ok seen) = AreTails rank theory before after watched tails
HasTails rank theory before after watched tails (Err refusal) = tails ≡ []

-- how many steps updates may take that come to this
abbrev pub steps_by : Theory → List PlainEvent → List PlainUpdate → Result (List PlainEvent) PlacedCut → ℕ
steps_by theory before updates (Ok after) = 3 * work_between theory before after + 2 * length updates
steps_by theory before updates (Err placed) = 2 * length updates

-- How many steps a batch may take: three times the work between the lists and twice the updates where it is accepted, and
-- twice the updates where it is refused.
unfoldable pub most_steps : Theory → List PlainEvent → List PlainUpdate → ℕ
most_steps theory before updates = steps_by theory before updates (updated_by theory before updates)

-- How many steps it may take to carry out a change between two lists: two for each entry that sees a change, one for each entry
-- of an added event, and two for each removed event.
unfoldable pub steps_between : Theory → List PlainEvent → List PlainEvent → ℕ
steps_between theory old new = 2 * (change_counts theory old new).seen + entry_count theory (events_only_in new old) + 2 * length (events_only_in old new)
