-- Of the accepted updates those before the kept ones.
use Rattle.std.proofs.Common.{◌-◌, ℕ, length, sym, ap, ◌∙◌}
use Rattle.ec_replies.specs.Past.{first_kept}
use Rattle.ec_past.specs.Chronicles.{PlainChronicle}
use Rattle.ec_past.specs.Journals.{PlainJournal}
use Rattle.ec_past.proofs.Kept.{length-kept_from}
use Rattle.ec_past.proofs.chronicle.Chronicle.first.Goals as goal

pub returns : goal.returns
returns g c =
    let journal = c.self.inside.journal.value in
    c.first.ensures ∙ ap (λ (j : PlainJournal). j.count - length j.kept) c.deref.ensures
    ∙ ap (λ (n : ℕ). journal.count - n) (sym (length-kept_from c.self.inside.engine.events journal.kept))
    ∙ ap (λ (s : PlainChronicle). first_kept s.past) c.self.view_is
