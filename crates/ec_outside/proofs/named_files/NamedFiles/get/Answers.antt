use Rattle.std.proofs.Common.{◌≡◌, ◌∙◌, sym, ap, Some, true, false, nat_eq, string_bytes, arith}
use Rattle.std.proofs.lemmas.Grind.{common_steps}
use lib.Pointwise.{pointwise}
use Rattle.std.specs.Ordering.{nat_cmp}
use Rattle.std.specs.Cmp.Lexicographic.{slice_cmp, nat_list_cmp_total}
use Rattle.std.specs.FinMap.{find, get, get-from_entries}
use Rattle.ec_outside.specs.Entries.{entries_of}
use Rattle.ec_outside.proofs.FoundFiles.{find-drop}
use Rattle.ec_outside.proofs.named_files.NamedFiles.get.Goals as goal

pub loop-file-init : goal.loop-file-init
loop-file-init c =
    ap (λ files. get files c.args.name.now) (sym c.self.view_is)
    ∙ get-from_entries nat_list_cmp_total _ c.args.name.now
    ∙ ap (λ files. find (slice_cmp nat_cmp) c.args.name.now (entries_of files)) (sym c.deref-file-items.ensures.value)

pub returns-then-eq : goal.returns-then-eq
returns-then-eq c =
    let hit : pointwise nat_eq c.args.name.now (string_bytes c.file-item.result.name) ≡ true = rw c.as_str.ensures.value at (sym (c.if-eq.ensures {u = tt})) in
    let here = find-drop _ c.loop-file.file-index c.file-item.result c.args.name.now c.loop-file-test.true c.file-item.is in
    ap Some c.as_slice.ensures.value ∙ sym (c.loop-file.invariant ∙ (rw hit at here))

pub loop-file-preserved : goal.loop-file-preserved
loop-file-preserved c =
    let miss : pointwise nat_eq c.args.name.now (string_bytes c.file-item.result.name) ≡ false = rw c.as_str.ensures.value at (sym (c.if-eq.ensures {u = tt})) in
    let here = find-drop _ c.loop-file.file-index c.file-item.result c.args.name.now c.loop-file-test.true c.file-item.is in
    c.loop-file.invariant ∙ (rw miss at here)

pub returns : goal.returns
returns c = grind (arith, common_steps)
