-- What is said of the bytes of the file is said of the file.
use Rattle.std.proofs.Common.{◌≤◌, List, ℕ, length, Err, IsSome, sym, ap, subst, arith}
use Rattle.std.proofs.lemmas.Result.{IfErr-weaker}
use Rattle.ec_outside.specs.Files.{HasFile}
use Rattle.ec_files.specs.TheoryFiles.{IsNoTheory, most_theory_bytes, too_long}
use Rattle.ec_files.proofs.TheoryTexts.{HasFile-told, IsReason-bytes}
use Rattle.ec_files.proofs.theory_file.load.Goals as goal

pub returns-in-Ok-clause-reason : goal.returns-in-Ok-clause-reason
returns-in-Ok-clause-reason g c =
    let same = sym c.deref.ensures.value in
    let file = subst (λ (bytes : List ℕ). IsSome (g.F.Folder.files c.args.files.now) → HasFile (g.F.Folder.files c.args.files.now) c.args.name.now bytes) same c.in-Ok.ensures.exact in
    let fits = subst (λ (bytes : List ℕ). length bytes ≤ most_theory_bytes) same c.in-Ok.ensures.within in
    IfErr-weaker c.read_bytes.result _ _ (IsReason-bytes (g.F.Folder.files c.args.files.now) c.args.name.now c.deref.result.now (g.F.Folder.faults c.args.files.now) _ file fits) c.read_bytes.ensures.reason

pub returns-clause-reason : goal.returns-clause-reason
returns-clause-reason g c = (
  (λ told. subst (λ (text : List ℕ). IsNoTheory (g.F.Folder.files c.args.files.now) c.args.name.now text) (sym c.said.ensures) (too_long (c.in-Err-Long.ensures.long (ap (λ e. Err e) c.in-Err-Long.field-0-is) told))),
  (λ long. c.in-Err-Long.ensures.long_without_fault (ap (λ e. Err e) c.in-Err-Long.field-0-is) (HasFile-told long.file)),
  subst (λ (text : List ℕ). length text ≤ 62) (sym c.said.ensures) (omega arith),
)
