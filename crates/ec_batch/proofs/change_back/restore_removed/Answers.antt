-- Place by place, a removed event comes back.
use Rattle.std.proofs.Common.{◌≡◌, ◌≤◌, ◌+◌, ℕ, List, Some, length, drop, refl, sym, ap, subst, ◌∙◌, le-add_right}
use Rattle.std.specs.Prelude.{slice_get}
use Rattle.std.proofs.lemmas.List.{drop_all, length-map}
use Rattle.std.proofs.lemmas.Option.{slice_get-get_or}
use Rattle.ec_lists.proofs.Places.{slice_get-map_at}
use Rattle.ec_axioms.specs.Links.{most_mentions}
use Rattle.ec_axioms.proofs.Members.{IsMember-slice_get}
use Rattle.ec_store.specs.Store.{history_of}
use Rattle.ec_parts.specs.declared.parts.Parts.{Parts}
use Rattle.ec_parts.specs.StandFor.{StandForBoth, view_of}
use Rattle.ec_revise.specs.declared.change.Removal.{Removal}
use Rattle.ec_batch.specs.Undo.{Restores, untouched}
use Rattle.ec_batch.specs.UndoChange.{id_in, removals_by_id}
use Rattle.ec_batch.proofs.Counts.{count-more}
use Rattle.ec_batch.proofs.Undoing.{few_back, may_restore_at, put_back_next, untouched-none}
use Rattle.ec_batch.proofs.UndoingChange.{removals_distinct, slot_of-removal}
use Rattle.ec_batch.proofs.change_back.restore_removed.Goals as goal

pub loop-removal-init : goal.loop-removal-init
loop-removal-init g c =
    let rank = g.T.Moment.rank in
    let parts = c.args.parts.now in
    let events = parts.store.events in
    let removals = c.args.removals.now in
    let apart = removals_distinct rank events c.len.ensures.history removals c.requires.times c.requires.order in
    record {
      so_far = c.requires.stay;
      may = λ removal within is.
          let there : slice_get removals 0 ≡ Some removal = slice_get-get_or removals 0 removal within ∙ ap Some (sym is) in
          may_restore_at rank parts.checked parts.checked (view_of parts) c.args.tally.now parts.store (removals_by_id events removals) 0 (id_in events removal.slot) removal (Some removal.slot) refl refl c.len.ensures.history apart
          (slice_get-map_at (λ (r : Removal _). (id_in events r.slot, r)) removals 0 removal there)
          (slot_of-removal rank events c.len.ensures.history removals c.requires.times removal (IsMember-slice_get removals 0 removal there)) c.requires.within.few_mentions c.requires.stay;
      terms = λ id. refl;
      rest = refl;
      steps = le-add_right _ 0;
    }

pub loop-removal-preserved : goal.loop-removal-preserved
loop-removal-preserved g c =
    let inv = c.loop-removal.invariant in
    let rank = g.T.Moment.rank in
    let theory = c.args.parts.now.checked in
    let events = c.args.parts.now.store.events in
    let hist = history_of rank events in
    let removals = c.args.removals.now in
    let keyed = removals_by_id events removals in
    let i = c.loop-removal.removal-index in
    let removal = c.removal-item.result in
    let k = id_in events removal.slot in
    let there : slice_get removals i ≡ Some removal = slice_get-get_or removals i removal c.loop-removal-test.true ∙ ap Some (sym c.removal-item.is) in
    let here : slice_get keyed i ≡ Some (k, removal) = slice_get-map_at (λ (r : Removal _). (id_in events r.slot, r)) removals i removal there in
    let apart = removals_distinct rank events c.len.ensures.history removals c.requires.times c.requires.order in
    let before = untouched (drop i keyed) hist in
    let both = subst (λ (p : Parts _ _ _ _). StandForBoth rank theory hist before (view_of p) c.loop-removal.tally) inv.rest inv.so_far in
    let next = put_back_next keyed i k removal hist c.len.ensures.history apart here in
    let back = subst (λ (p : Parts _ _ _ _). Restores rank p.checked (Some removal.slot) (view_of p) c.loop-removal.tally (view_of c.restore_old.new.parts) c.restore_old.new.tally) inv.rest c.restore_old.ensures.back in
    let last = c.restore_old.new.parts in
    let so_far = subst (λ es. StandForBoth rank theory hist es (view_of last) c.restore_old.new.tally) next
    (back before k
    (record {
      both = both;
      old = slot_of-removal rank events c.len.ensures.history removals c.requires.times removal (IsMember-slice_get removals i removal there);
      few = few_back theory keyed i most_mentions hist _ next c.requires.within.few_mentions;
    })) in
    let rest : last ≡ record c.args.parts.now { props = last.props } = c.restore_old.ensures.rest ∙ ap (λ (p : Parts _ _ _ _). record p { props = last.props }) inv.rest in
    record {
      so_far = so_far;
      may = λ other within is.
          let at : slice_get removals (i + 1) ≡ Some other = slice_get-get_or removals (i + 1) other within ∙ ap Some (sym is) in
          may_restore_at rank theory last.checked (view_of last) c.restore_old.new.tally c.args.parts.now.store keyed (i + 1) (id_in events other.slot) other (Some other.slot)
          (ap (λ (p : Parts _ _ _ _). p.checked) rest) (ap (λ (p : Parts _ _ _ _). p.store) rest) c.len.ensures.history apart
          (slice_get-map_at (λ (r : Removal _). (id_in events r.slot, r)) removals (i + 1) other at)
          (slot_of-removal rank events c.len.ensures.history removals c.requires.times other (IsMember-slice_get removals (i + 1) other at)) c.requires.within.few_mentions so_far;
      terms = λ id. c.restore_old.ensures.terms id ∙ inv.terms id;
      rest = rest;
      steps = count-more _ _ _ c.restore_old.ensures.steps inv.steps;
    }

pub returns-clause-back : goal.returns-clause-back
returns-clause-back g c =
    let inv = c.loop-removal.invariant in
    let rank = g.T.Moment.rank in
    let hist = history_of rank c.args.parts.now.store.events in
    let keyed = removals_by_id c.args.parts.now.store.events c.args.removals.now in
    let many = length-map {B = List ℕ × Removal g.row.T.Denot} c.args.removals.now (λ (r : Removal g.row.T.Denot). (id_in c.args.parts.now.store.events r.slot, r)) in
    let end : length keyed ≤ c.loop-removal.removal-index = subst (λ n. n ≤ c.loop-removal.removal-index) (sym many) c.loop-removal-test.false in
    subst (λ es. StandForBoth rank c.args.parts.now.checked hist es (view_of c.loop-removal.parts) c.loop-removal.tally)
    (ap (λ xs. untouched xs hist) (drop_all c.loop-removal.removal-index keyed end) ∙ untouched-none (Removal g.row.T.Denot) hist) inv.so_far
