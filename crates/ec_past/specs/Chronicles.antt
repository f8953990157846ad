-- What a chronicle stands for: a list of events under a theory, and its past; and what an update makes of the past.
use Rattle.std.specs.Prelude.{◌≡◌, ℕ, ◌⊎◌, ◌==◌, ◌||◌, nat_le, if◌then◌else◌, List, length, Option, Some, None, Result, Ok, Err, IsTrue, IfSome}
use Rattle.ec_terms.specs.declared.theory.Theory.{Theory}
use Rattle.ec_axioms.specs.declared.event.Seen.{Seen}
use Rattle.ec_axioms.specs.Calculus.{PlainEvent}
use Rattle.ec_axioms.specs.Changes.{PlainUpdate}
use Rattle.ec_replies.specs.Past.{Past, with_accepted}
use Rattle.ec_replies.specs.RunLaws.{IsListWithinLimits}
use Rattle.ec_replies.specs.Runs.{batch_may_want_memory}
use Rattle.ec_batch.specs.declared.refusal.Refusal.{Refusal}
use Rattle.ec_batch.specs.declared.refusal.Refusal.TheVariants.{Update, Memory}
use Rattle.ec_engine.specs.Revise.{IsRevised}
use Rattle.ec_past.specs.Records.{PlainRecord}
use Rattle.ec_past.specs.Journals.{AreSteps, PlainJournal, past_of, with_records}
use Rattle.ec_past.specs.Viewing.{IsViewOf, PlainView}

-- a theory, a list of events, the past of the list, and the list of the past that is viewed, if there is one
pub record PlainChronicle : Type 0 where
  pub theory : Theory
  pub events : List PlainEvent
  pub past : Past
  pub viewed : Option ℕ

-- a list of the past is ready to be asked: it is the present one, or the one that is viewed
abbrev pub IsReadyAt : ℕ → PlainChronicle → Type 0
IsReadyAt k chronicle = (k ≡ chronicle.past.count) ⊎ (chronicle.viewed ≡ Some k)

-- The fields of a chronicle: the list is within the limits, and the updates that the journal keeps led to it.
pub record IsChronicle (theory : Theory) (events : List PlainEvent) (kept : List (List PlainRecord)) : Type 0 where
  pub within : IsListWithinLimits theory events
  pub steps : AreSteps theory events kept

-- and what is viewed is a list of the past
pub record IsViewing (theory : Theory) (events : List PlainEvent) (journal : PlainJournal) (view : Option PlainView) : Type 0 where
  pub chronicle : IsChronicle theory events journal.kept
  pub viewed : IfSome view (IsViewOf theory events (past_of events journal))

-- what is viewed, where it was the present list after no fewer accepted updates than this
abbrev pub kept_view : {V : Type 0} → (V → ℕ) → ℕ → Option V → Option V
kept_view at first None = None
kept_view at first (Some view) = if nat_le first (at view) then Some view else None

-- the journal behind an update with these records: they are kept if it was accepted
abbrev pub journal_after : List PlainRecord → Result Seen Refusal → PlainJournal → PlainJournal
journal_after records (Ok seen) journal = with_records records journal
journal_after records (Err refusal) journal = journal

-- what becomes of a past by an update of a weight: it is the latest if it was accepted, and the past stays if it was refused
abbrev pub IsPastAfter : ℕ → List PlainEvent → Past → Result Seen Refusal → Past → Type 0
IsPastAfter weight before past (Ok seen) after = after ≡ with_accepted (record { before = before; weight = weight }) past
IsPastAfter weight before past (Err refusal) after = after ≡ past

-- What committing a batch comes to, which is what applying it does; but memory may be wanting for a batch of no update too, which is
-- counted as an accepted update.
abbrev pub IsCommitted : Theory → List PlainEvent → List PlainUpdate → Result Seen Refusal → List PlainEvent → Type 0
IsCommitted theory before updates (Ok seen) after = IsRevised theory before updates (Ok seen) after
IsCommitted theory before updates (Err (Update place cut)) after = IsRevised theory before updates (Err (Update place cut)) after
IsCommitted theory before updates (Err (Memory none)) after = IsTrue (length updates == 0 || batch_may_want_memory theory before updates) × (after ≡ before)
