use Rattle.std.proofs.Common.{◌≡◌, drop}
use Rattle.std.specs.Ordering.{nat_cmp}
use Rattle.std.specs.Cmp.Lexicographic.{slice_cmp}
use Rattle.std.specs.FinMap.{find, get}
use Rattle.ec_outside.specs.Entries.{entries_of}
use Rattle.ec_outside.proofs.named_files.NamedFiles.get.Given as goal

abbrev pub invariant-loop-file : goal.invariant-loop-file
invariant-loop-file l = get l.self l.name ≡ find (slice_cmp nat_cmp) l.name (entries_of (drop l.file-index l.file-items))
