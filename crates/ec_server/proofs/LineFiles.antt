-- What is said of a file of lines that is read behind another file.
use Rattle.std.proofs.Common.{◌≡◌, ◌≤◌, ◌⊎◌, ℕ, List, Option, subst, inl, inr}
use Rattle.ec_terms.specs.declared.theory.Theory.{Theory}
use Rattle.ec_outside.specs.Counts.{Rose}
use Rattle.ec_outside.specs.Files.{Files, IsMissing}
use Rattle.ec_outside.proofs.Counts.{Rose-earlier}
use Rattle.ec_files.specs.declared.status.Status.{Status}
use Rattle.ec_files.specs.declared.status.Status.TheVariants as status
use Rattle.ec_files.specs.CommandEnds.{SaysUnread}
use Rattle.ec_server.specs.CommandEnds.{SaysReplayed}

module _ {K : Type 0} (stands : K → List ℕ → Type 0) (faults : K → ℕ) (name : List ℕ) (old new : K) (told : Option Files) (before middle after : ℕ) (on : before ≤ middle) where
  unread_earlier : (s : Status) → SaysUnread stands faults told name middle after old new s → SaysUnread stands faults told name before after old new s
  unread_earlier status.Done says = says
  unread_earlier status.NoShape says = says
  unread_earlier status.BadTheory says = says
  unread_earlier status.ReadFault says = says
  unread_earlier status.WriteFault says = says
  unread_earlier status.NoMemory says = says
  unread_earlier status.FolderFault says = (says.0, by_cause says.1)
    where
      by_cause : Rose middle after ⊎ IsMissing told name → Rose before after ⊎ IsMissing told name
      by_cause (inl rose) = inl (Rose-earlier on rose)
      by_cause (inr missing) = inr missing
  unread_earlier status.LimitReached says = says
  unread_earlier status.LongLines says = says
  unread_earlier status.BadEvents says = says

  same_folder : (theory : Theory) (s : Status) → SaysReplayed stands faults told name middle after old new theory s → SaysReplayed stands faults told name before after old new theory s
  same_folder theory s (inl read) = inl read
  same_folder theory s (inr unread) = inr (unread_earlier s unread)

-- what is said since a call on the folder is said since an earlier one that changed no file
pub SaysReplayed-earlier : {K : Type 0} (stands : K → List ℕ → Type 0) (faults : K → ℕ) (name : List ℕ) (after : ℕ) (old new : K) (theory : Theory) (s : Status)
    (told seen : Option Files) (before middle : ℕ) → seen ≡ told → before ≤ middle → SaysReplayed stands faults seen name middle after old new theory s
    → SaysReplayed stands faults told name before after old new theory s
SaysReplayed-earlier stands faults name after old new theory s told seen before middle same on says =
    subst (λ (t : Option Files). SaysReplayed stands faults t name before after old new theory s) same (same_folder stands faults name old new seen before middle after on theory s says)
