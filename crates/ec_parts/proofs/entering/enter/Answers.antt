-- Without the new numbers the table is what it was, so the parts stood without them.
use Rattle.std.proofs.Common.{◌≡◌, ℕ, true, List, None, is_some, IsSome, IsTrue, sym, ap, subst, ◌∙◌, ⊎_elim, arith}
use Rattle.std.proofs.lemmas.Grind.{common_steps}
use Rattle.std.specs.Prelude.{◌==◌}
use Rattle.std.specs.List.{All}
use Rattle.std.proofs.lemmas.Bool.{cases_Bool, false≢true, or_right}
use Rattle.std.proofs.lemmas.List.Folds.{list_any-append}
use Rattle.ec_terms.specs.declared.ids.PropId.{PropId}
use Rattle.ec_context.specs.Entries.{IsKeptEntry}
use Rattle.ec_context.proofs.Keepings.{forgotten, IsWidened-kept}
use Rattle.ec_context.proofs.Tables.{prop_at-without_props}
use Rattle.ec_numbered.specs.PropSet.{has_number}
use Rattle.ec_store.specs.Table.{KeptProp, prop_at}
use Rattle.ec_parts.specs.Adoption.{HasEntered}
use Rattle.ec_parts.specs.StandFor.{StandForBoth, view_of}
use Rattle.ec_parts.proofs.Entered.{HasEntered-none}
use Rattle.ec_parts.proofs.entering.enter.Goals as goal

-- what is kept besides stands among the numbers
fresh-has : (before after : List KeptProp) (old new : List PropId) → HasEntered before old after new → (id : ℕ) → IsSome (prop_at id after) → prop_at id before ≡ None → IsTrue (has_number id new)
fresh-has before after old new entered id there none =
    ap (has_number id) entered.behind ∙ list_any-append (λ (p : PropId). p.0 == id) old entered.fresh ∙ or_right (has_number id old) (has_number id entered.fresh) among
  where
    among : has_number id entered.fresh ≡ true
    among =
        ⊎_elim (λ yes_there. yes_there)
        (λ apart. absurd (false≢true (sym (ap is_some none) ∙ ap (λ ks. is_some (prop_at id ks)) (sym (forgotten before after entered.fresh entered.kept)) ∙ ap is_some (prop_at-without_props entered.fresh id after apart) ∙ there)))
        (cases_Bool (has_number id entered.fresh))

pub returns-in_err-list-clause-entered : goal.returns-in_err-list-clause-entered
returns-in_err-list-clause-entered g c =
    subst (λ ks. HasEntered c.args.parts.now.props c.args.fresh.now.items ks c.args.fresh.now.items) (sym c.in_err-list.ensures.err) (HasEntered-none c.args.parts.now.props c.args.fresh.now.items)

pub adopt-requires-clause-stand : goal.adopt-requires-clause-stand
adopt-requires-clause-stand g c =
    let back = forgotten c.args.parts.now.props c.entries_of.new.props c.entries_of.new.added.items c.in_ok-list.ensures.new in
    record {
      now = c.requires.stand.now;
      soon = c.requires.stand.soon;
      tally = c.requires.stand.tally;
      few = c.requires.stand.few;
      stand = subst (λ ks. StandForBoth g.T.Moment.rank c.args.parts.now.checked c.requires.stand.now c.requires.stand.soon (record (view_of c.args.parts.now) { table = ks }) c.requires.stand.tally) (sym back)
          c.requires.stand.stand;
    }

pub returns-in_err-adopt-clause-both : goal.returns-in_err-adopt-clause-both
returns-in_err-adopt-clause-both g c now soon tally few stand =
    let back = forgotten c.args.parts.now.props c.entries_of.new.props c.entries_of.new.added.items c.in_ok-list.ensures.new in
    c.adopt.ensures.both now soon tally few (subst (λ ks. StandForBoth g.T.Moment.rank c.args.parts.now.checked now soon (record (view_of c.args.parts.now) { table = ks }) tally) (sym back) stand)

pub returns-in_err-adopt-clause-entered : goal.returns-in_err-adopt-clause-entered
returns-in_err-adopt-clause-entered g c =
    subst (λ ks. HasEntered ks c.args.fresh.now.items c.adopt.new.parts.props c.adopt.new.fresh.items) (forgotten c.args.parts.now.props c.entries_of.new.props c.entries_of.new.added.items c.in_ok-list.ensures.new) c.adopt.ensures.entered

pub returns-in_err-adopt-clause-widened : goal.returns-in_err-adopt-clause-widened
returns-in_err-adopt-clause-widened g c = let entered = returns-in_err-adopt-clause-entered g c in IsWidened-kept c.args.parts.now.props c.adopt.new.parts.props entered.fresh entered.kept

pub returns-in_err-adopt-clause-before : goal.returns-in_err-adopt-clause-before
returns-in_err-adopt-clause-before g c = let entered = returns-in_err-adopt-clause-entered g c in entered.kept.kept

pub returns-in_err-adopt-clause-fresh : goal.returns-in_err-adopt-clause-fresh
returns-in_err-adopt-clause-fresh g c = fresh-has c.args.parts.now.props c.adopt.new.parts.props c.args.fresh.now.items c.adopt.new.fresh.items (returns-in_err-adopt-clause-entered g c)

pub returns-clause-kept : goal.returns-clause-kept
returns-clause-kept g c = subst (λ ks. All (IsKeptEntry ks) c.in_ok-list.list) (sym c.in_ok-adopt.ensures.table) c.in_ok-list.ensures.kept

pub returns-clause-both : goal.returns-clause-both
returns-clause-both g c now soon tally few stand =
    let back = forgotten c.args.parts.now.props c.entries_of.new.props c.entries_of.new.added.items c.in_ok-list.ensures.new in
    c.adopt.ensures.both now soon tally few (subst (λ ks. StandForBoth g.T.Moment.rank c.args.parts.now.checked now soon (record (view_of c.args.parts.now) { table = ks }) tally) (sym back) stand)

pub returns-clause-entered : goal.returns-clause-entered
returns-clause-entered g c =
    subst (λ ks. HasEntered ks c.args.fresh.now.items c.adopt.new.parts.props c.adopt.new.fresh.items) (forgotten c.args.parts.now.props c.entries_of.new.props c.entries_of.new.added.items c.in_ok-list.ensures.new) c.adopt.ensures.entered

pub returns-clause-fresh : goal.returns-clause-fresh
returns-clause-fresh g c = fresh-has c.args.parts.now.props c.adopt.new.parts.props c.args.fresh.now.items c.adopt.new.fresh.items (returns-clause-entered g c)

pub returns-clause-more : goal.returns-clause-more
returns-clause-more c = grind (arith, common_steps)

pub returns-clause-theory : goal.returns-clause-theory
returns-clause-theory c = grind (arith, common_steps)

pub returns-in_err-adopt-clause-events : goal.returns-in_err-adopt-clause-events
returns-in_err-adopt-clause-events c = grind (arith, common_steps)

pub returns-in_err-adopt-clause-theory : goal.returns-in_err-adopt-clause-theory
returns-in_err-adopt-clause-theory c = grind (arith, common_steps)

pub returns-clause-events : goal.returns-clause-events
returns-clause-events c = grind (arith, common_steps)

pub adopt-requires-clause-unmentioned : goal.adopt-requires-clause-unmentioned
adopt-requires-clause-unmentioned c = grind (arith, common_steps)

pub returns-in_err-list-clause-fresh : goal.returns-in_err-list-clause-fresh
returns-in_err-list-clause-fresh c = grind (arith, common_steps)

pub returns-in_err-adopt-clause-more : goal.returns-in_err-adopt-clause-more
returns-in_err-adopt-clause-more c = grind (arith, common_steps)

pub returns-clause-widened : goal.returns-clause-widened
returns-clause-widened c = grind (arith, common_steps)

pub returns-in_err-list-clause-both : goal.returns-in_err-list-clause-both
returns-in_err-list-clause-both c = grind (arith, common_steps)
