use Rattle.std.proofs.Common.{◌≡◌, ◌∙◌, sym, ap, inl, inr, true, is_some, Result, Ok, Err, rules, arith}
use Rattle.std.proofs.lemmas.Grind.{common_steps}
use Rattle.std.specs.Option.{option_copied}
use Rattle.std.specs.FinMap.{get}
use Rattle.ec_outside.specs.Calls.{next_fails}
use Rattle.ec_outside.specs.Counts.{next_count}
use Rattle.ec_outside.specs.FolderState.{FolderState}
use Rattle.ec_outside.specs.declared.folder.FolderAnswer.{FolderAnswer}
use Rattle.ec_outside.specs.declared.folder.FolderAnswer.TheVariants.{Failed, Long, Memory}
use Rattle.ec_outside.proofs.Counts.{next_count-Rose}
use Rattle.ec_outside.proofs.FoundFiles.{HasFile-told, IsMissing-told, IsTooLong-told}
use Rattle.ec_outside.proofs.mem_folder.MemFolderFolder.read_whole.Goals as goal
use Rattle.ec_outside.proofs.mem_folder.MemFolderFolder.read_whole.Goals.{in-None, in-Some, in-Some-2, in-Some-3+in-Ok, in-Some-3+in-Err}

-- what a read came to is one thing alone
no_refusal : (r : Result (Unit {0}) FolderAnswer) (answer : FolderAnswer) → r ≡ Ok tt → r ≡ Err answer → ⊥
no_refusal r answer well refused = cc

long_not_failed : (r : Result (Unit {0}) FolderAnswer) → r ≡ Err Long → r ≡ Err Failed → ⊥
long_not_failed r long failed = cc

memory_not_failed : (r : Result (Unit {0}) FolderAnswer) → r ≡ Err Memory → r ≡ Err Failed → ⊥
memory_not_failed r memory failed = cc

memory_not_long : (r : Result (Unit {0}) FolderAnswer) → r ≡ Err Memory → r ≡ Err Long → ⊥
memory_not_long r memory long = cc

pub returns-clause-exact : goal.returns-clause-exact
returns-clause-exact c =
    let looked_up = ap (λ (f : FolderState). get f.files c.args.name.now) (sym c.self.view_is) ∙ sym c.get-file.ensures in
    elim c.match-file.branch [
      | in-None w ↦ rw w.result-is tt
      | in-Some w ↦ rw w.result-is tt
      | in-Some-2 w ↦ rw w.result-is tt
      | in-Some-3+in-Ok w ↦ rw (w.result-is, w.into-is, w.extend_from_slice.ensures.items, w.in-Ok.is, c.requires)
          (λ _. HasFile-told c.args.self.now.files c.args.name.now w.in-Some-3.bytes.now (looked_up ∙ ap option_copied w.in-Some-3.is))
      | in-Some-3+in-Err w ↦ rw w.result-is tt
    ]

pub returns-clause-failed : goal.returns-clause-failed
returns-clause-failed c =
    let looked_up = ap (λ (f : FolderState). get f.files c.args.name.now) (sym c.self.view_is) ∙ sym c.get-file.ensures in
    elim c.match-file.branch [
      | in-None w ↦ rw w.result-is (λ _. inr (IsMissing-told c.args.self.now.files c.args.name.now (looked_up ∙ ap option_copied w.in-None.is)))
      | in-Some w ↦
          let fails : next_fails c.self.inside.reads.calls ≡ true = sym c.next_fails-fails.ensures.fails ∙ w.if-fails.true in
          let present : c.is_some.result ≡ true = c.is_some.ensures ∙ ap is_some w.in-Some.is in
          let counted : c.next_fails-fails.new.self.faults ≡ next_count c.self.inside.reads.faults = rw (fails, present) at c.next_fails-fails.ensures.faults in
          rw (w.result-is, w.self-inside-is, counted, ← c.self.view_is) (λ _. inl (next_count-Rose c.self.inside.reads.faults))
      | in-Some-2 w ↦ λ e. absurd (long_not_failed _ w.result-is e)
      | in-Some-3+in-Ok w ↦ λ e. absurd (no_refusal _ Failed w.result-is e)
      | in-Some-3+in-Err w ↦ λ e. absurd (memory_not_failed _ w.result-is e)
    ]

pub returns-clause-long : goal.returns-clause-long
returns-clause-long c =
    let looked_up = ap (λ (f : FolderState). get f.files c.args.name.now) (sym c.self.view_is) ∙ sym c.get-file.ensures in
    elim c.match-file.branch [
      | in-None w ↦ λ e. absurd (long_not_failed _ e w.result-is)
      | in-Some w ↦ λ e. absurd (long_not_failed _ e w.result-is)
      | in-Some-2 w ↦ rw w.result-is
          (λ _ _. IsTooLong-told c.args.self.now.files c.args.name.now w.in-Some-2.bytes.now c.args.most (looked_up ∙ ap option_copied w.in-Some-2.is) w.if-bytes-most.true)
      | in-Some-3+in-Ok w ↦ λ e. absurd (no_refusal _ Long w.result-is e)
      | in-Some-3+in-Err w ↦ λ e. absurd (memory_not_long _ w.result-is e)
    ]

pub returns-clause-missing : goal.returns-clause-missing
returns-clause-missing c = search rules

pub returns-clause-faults : goal.returns-clause-faults
returns-clause-faults c = search rules

pub returns-clause-quiet : goal.returns-clause-quiet
returns-clause-quiet c = grind (arith, common_steps)

pub returns-clause-long_without_fault : goal.returns-clause-long_without_fault
returns-clause-long_without_fault c = grind (arith, common_steps)

pub returns-clause-too_long : goal.returns-clause-too_long
returns-clause-too_long c = grind (arith, common_steps)

pub returns-clause-bounded : goal.returns-clause-bounded
returns-clause-bounded c = grind (arith, common_steps)

pub returns-clause-counted : goal.returns-clause-counted
returns-clause-counted c = grind (arith, common_steps)

pub returns-clause-within : goal.returns-clause-within
returns-clause-within c = grind (arith, common_steps)

pub returns-clause-unchanged : goal.returns-clause-unchanged
returns-clause-unchanged c = grind (arith, common_steps)
