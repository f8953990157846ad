-- That a call failed is told by the status.
use Rattle.std.proofs.Common.{◌≡◌, ◌⊎◌, ℕ, List, Option, ap, inl, inr, refl}
use Rattle.ec_outside.specs.Files.{Files}
use Rattle.ec_files.specs.declared.status.Status.{Status}
use Rattle.ec_files.specs.declared.status.Status.TheVariants as status
use Rattle.ec_files.specs.CommandEnds.{SaysLine, SaysRefused, SaysUnread}

module _ {K : Type 0} (stands : K → List ℕ → Type 0) (faults : K → ℕ) (old new : K) where
  -- so does the writing of one line
  pub line_told : (IsLine : List ℕ → Type 0) (s : Status) → SaysLine stands faults old new IsLine s → (s ≡ status.WriteFault) ⊎ (faults new ≡ faults old)
  line_told IsLine status.Done says = inr says.3
  line_told IsLine status.NoShape says = absurd says
  line_told IsLine status.BadTheory says = absurd says
  line_told IsLine status.ReadFault says = absurd says
  line_told IsLine status.WriteFault says = inl refl
  line_told IsLine status.NoMemory says = inr (ap faults says)
  line_told IsLine status.FolderFault says = absurd says
  line_told IsLine status.LimitReached says = absurd says
  line_told IsLine status.LongLines says = absurd says
  line_told IsLine status.BadEvents says = absurd says

  module _ (told : Option Files) (name : List ℕ) (before after : ℕ) where
    -- nothing is written where the file of lines was not read
    pub unread_told : (s : Status) → SaysUnread stands faults told name before after old new s → faults new ≡ faults old
    unread_told status.Done says = absurd says
    unread_told status.NoShape says = absurd says
    unread_told status.BadTheory says = absurd says
    unread_told status.ReadFault says = absurd says
    unread_told status.WriteFault says = absurd says
    unread_told status.NoMemory says = ap faults says
    unread_told status.FolderFault says = ap faults says.0
    unread_told status.LimitReached says = absurd says
    unread_told status.LongLines says = ap faults says.0
    unread_told status.BadEvents says = absurd says

    -- without a theory only the one line about it is written
    pub refusal_told : (s : Status) → SaysRefused stands faults told name before after old new s → (s ≡ status.BadTheory) ⊎ (faults new ≡ faults old)
    refusal_told status.Done says = absurd says
    refusal_told status.NoShape says = absurd says
    refusal_told status.BadTheory says = inl refl
    refusal_told status.ReadFault says = absurd says
    refusal_told status.WriteFault says = absurd says
    refusal_told status.NoMemory says = inr (ap faults says)
    refusal_told status.FolderFault says = inr (ap faults says.0)
    refusal_told status.LimitReached says = absurd says
    refusal_told status.LongLines says = absurd says
    refusal_told status.BadEvents says = absurd says
