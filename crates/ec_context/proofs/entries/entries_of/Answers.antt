-- From no new numbers on: what is new is unmentioned, and without it the table is as it was.
use Rattle.std.proofs.Common.{[], sym, ap, subst, ◌∙◌}
use Rattle.std.proofs.lemmas.List.{append-nil}
use Rattle.ec_context.proofs.Keepings.{AreUnmentioned-none, HasKept-first, IsWidened-kept, IsWidened-same, forgotten}
use Rattle.ec_terms.specs.declared.theory.Theory.{Theory}
use Rattle.ec_terms.specs.Domain.{entries_of}
use Rattle.ec_terms.specs.Term.{ground_of}
use Rattle.ec_check.specs.WellFormed.{IsWellFormed}
use Rattle.ec_context.proofs.EntryLists.{IsEntryList-shown}
use Rattle.ec_context.proofs.PlaceLemmas.{ArePlacesFor-named}
use Rattle.ec_context.proofs.Shown.{IsKeptEntry-shown}
use Rattle.ec_context.proofs.NewNumbers.{names_all_new}
use Rattle.ec_context.proofs.entries.entries_of.Goals as goal

pub gather-requires-clause-places : goal.gather-requires-clause-places
gather-requires-clause-places g c =
    ArePlacesFor-named (ground_of c.borrow.result) c.args.event.now.term c.as_bytes.result.now c.len.result c.args.rules.now.rules c.theory.result.now.rules
    c.places_for-places.result.now c.places_for-places.ensures.places c.as_bytes.ensures.bytes c.len.ensures.count c.borrow.ensures.same
    (ap (λ (t : Theory). t.rules) c.theory.ensures.theory)

pub gather-requires-clause-unmentioned : goal.gather-requires-clause-unmentioned
gather-requires-clause-unmentioned g c = AreUnmentioned-none c.clear.new.self.items c.args.props.now c.clear.ensures.items

pub returns-in-Ok-clause-widened : goal.returns-in-Ok-clause-widened
returns-in-Ok-clause-widened g c =
    IsWidened-kept c.args.props.now c.gather.new.props c.gather.new.added.items
    (HasKept-first c.args.props.now c.gather.new.props c.clear.new.self.items c.gather.new.added.items c.clear.ensures.items c.gather.ensures.kept)

pub returns-in-Err-clause-err : goal.returns-in-Err-clause-err
returns-in-Err-clause-err g c =
    c.forget_each.ensures
    ∙ forgotten c.args.props.now c.gather.new.props c.gather.new.added.items
    (HasKept-first c.args.props.now c.gather.new.props c.clear.new.self.items c.gather.new.added.items c.clear.ensures.items c.gather.ensures.kept)

pub returns-in-Err-clause-widened : goal.returns-in-Err-clause-widened
returns-in-Err-clause-widened g c = IsWidened-same c.args.props.now c.forget_each.new.props (returns-in-Err-clause-err g c)

pub returns-in-Ok-clause-kept : goal.returns-in-Ok-clause-kept
returns-in-Ok-clause-kept g c = IsKeptEntry-shown c.gather.new.props c.in-Ok.entries _ c.in-Ok.ensures.shown

pub returns-in-Ok-clause-list : goal.returns-in-Ok-clause-list
returns-in-Ok-clause-list g c =
    IsEntryList-shown c.theory.result.now (ground_of c.borrow.result) (subst IsWellFormed (sym c.theory.ensures.theory) c.theory.ensures.well_formed) c.gather.new.props
    c.in-Ok.entries (entries_of c.theory.result.now (ground_of c.borrow.result)) [] c.in-Ok.ensures.shown (append-nil (entries_of c.theory.result.now (ground_of c.borrow.result)))

pub returns-in-Ok-clause-named : goal.returns-in-Ok-clause-named
returns-in-Ok-clause-named g c =
    names_all_new c.args.props.now c.gather.new.props c.clear.new.self.items c.gather.new.added.items c.in-Ok.entries c.clear.ensures.items c.gather.ensures.kept c.in-Ok.ensures.added

pub returns-in-Ok-clause-new : goal.returns-in-Ok-clause-new
returns-in-Ok-clause-new g c =
    HasKept-first c.args.props.now c.gather.new.props c.clear.new.self.items c.gather.new.added.items c.clear.ensures.items c.gather.ensures.kept
