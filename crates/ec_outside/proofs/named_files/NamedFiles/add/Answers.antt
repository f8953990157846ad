use Rattle.std.proofs.Common.{sym}
use Rattle.ec_outside.proofs.FoundFiles.{from_entries-push}
use Rattle.ec_outside.proofs.named_files.NamedFiles.add.Goals as goal

pub returns-clause-ok : goal.returns-clause-ok
returns-clause-ok c =
    let pushed = rw c.in_ok-push.was at c.push.ensures.items in
    from_entries-push c.self.inside.files.items _ _ c.args.self.now _ _ (sym c.self.view_is) pushed c.in_ok-name.ensures.ok c.in_ok-bytes.ensures.items c.requires
