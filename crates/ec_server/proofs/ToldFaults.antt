-- That a call failed is told by the status of a serving.
use Rattle.std.proofs.Common.{◌≡◌, ◌⊎◌, ℕ, List, Option, ap, inl, inr, refl}
use Rattle.ec_terms.specs.declared.theory.Theory.{Theory}
use Rattle.ec_outside.specs.Files.{Files}
use Rattle.ec_replies.specs.Replies.{Language}
use Rattle.ec_files.specs.declared.status.Status.{Status}
use Rattle.ec_files.specs.declared.status.Status.TheVariants as status
use Rattle.ec_files.specs.Languages.{language_of}
use Rattle.ec_files.proofs.StatusCodes.{second_of_two}
use Rattle.ec_files.proofs.ToldFaults.{unread_told}
use Rattle.ec_server.specs.declared.ending.Ending.{Ending}
use Rattle.ec_server.specs.declared.ending.Ending.TheVariants as ending
use Rattle.ec_server.specs.CommandEnds.{SaysBytes, SaysReplayed}
use Rattle.ec_server.specs.Ending.{HasEnded, SaysServed}

module _ {S K : Type 0} (left : S → Option (List ℕ)) (read_faults : S → ℕ) (stands : K → List ℕ → Type 0) (write_faults : K → ℕ) (language : Language) (limit : ℕ)
    (input_before input : S) (output_before output : K) where
  abbrev Ended : Ending → Type 0
  Ended e = HasEnded left read_faults stands write_faults language limit input_before input output_before output e

  -- an ending at which no read failed, and one at which no write did
  reads_quiet : (e : Ending) → (e ≡ ending.ReadFault → ⊥) → Ended e → read_faults input ≡ read_faults input_before
  reads_quiet e other has = second_of_two has.read_told other

  writes_quiet : (e : Ending) → (e ≡ ending.WriteFault → ⊥) → Ended e → write_faults output ≡ write_faults output_before
  writes_quiet e other has = second_of_two has.write_told other

  -- the serving of an input tells both
  pub read_told : (s : Status) → SaysServed left read_faults stands write_faults language limit input_before input output_before output s
      → (s ≡ status.ReadFault) ⊎ (read_faults input ≡ read_faults input_before)
  read_told status.Done (inl has) = inr (reads_quiet ending.End (λ same. cc) has)
  read_told status.Done (inr has) = inr (reads_quiet ending.Quit (λ same. cc) has)
  read_told status.NoShape says = absurd says
  read_told status.BadTheory says = absurd says
  read_told status.ReadFault has = inl refl
  read_told status.WriteFault has = inr (reads_quiet ending.WriteFault (λ same. cc) has)
  read_told status.NoMemory says = inr (ap read_faults says.1)
  read_told status.FolderFault says = absurd says
  read_told status.LimitReached has = inr (reads_quiet ending.Limit (λ same. cc) has)
  read_told status.LongLines says = absurd says
  read_told status.BadEvents says = absurd says

  pub write_told : (s : Status) → SaysServed left read_faults stands write_faults language limit input_before input output_before output s
      → (s ≡ status.WriteFault) ⊎ (write_faults output ≡ write_faults output_before)
  write_told status.Done (inl has) = inr (writes_quiet ending.End (λ same. cc) has)
  write_told status.Done (inr has) = inr (writes_quiet ending.Quit (λ same. cc) has)
  write_told status.NoShape says = absurd says
  write_told status.BadTheory says = absurd says
  write_told status.ReadFault has = inr (writes_quiet ending.ReadFault (λ same. cc) has)
  write_told status.WriteFault has = inl refl
  write_told status.NoMemory says = inr (ap write_faults says.0)
  write_told status.FolderFault says = absurd says
  write_told status.LimitReached has = inr (writes_quiet ending.Limit (λ same. cc) has)
  write_told status.LongLines says = absurd says
  write_told status.BadEvents says = absurd says

module _ {K : Type 0} (stands : K → List ℕ → Type 0) (faults : K → ℕ) (old new : K) where
  bytes_told : (language : Language) (bytes : List ℕ) (s : Status) → SaysBytes stands faults language old new bytes s → (s ≡ status.WriteFault) ⊎ (faults new ≡ faults old)
  bytes_told language bytes status.Done says = inr says.1
  bytes_told language bytes status.NoShape says = absurd says
  bytes_told language bytes status.BadTheory says = absurd says
  bytes_told language bytes status.ReadFault says = absurd says
  bytes_told language bytes status.WriteFault says = inl refl
  bytes_told language bytes status.NoMemory says = inr (ap faults says)
  bytes_told language bytes status.FolderFault says = absurd says
  bytes_told language bytes status.LimitReached says = absurd says
  bytes_told language bytes status.LongLines says = absurd says
  bytes_told language bytes status.BadEvents says = absurd says

  module _ (told : Option Files) (name : List ℕ) (before after : ℕ) where
    -- the lines of a file
    pub replay_told : (theory : Theory) (s : Status) → SaysReplayed stands faults told name before after old new theory s → (s ≡ status.WriteFault) ⊎ (faults new ≡ faults old)
    replay_told theory s (inl read) = bytes_told (language_of theory) read.0 s read.2
    replay_told theory s (inr unread) = inr (unread_told stands faults old new told name before after s unread)
