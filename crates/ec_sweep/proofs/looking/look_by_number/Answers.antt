-- Each hit has an entry; and the steps so far are within those of the hits, the removed events and the added entries.
use Rattle.std.proofs.Common.{◌+◌, not, ◌++◌, refl, ap, subst, ◌∙◌, inl, inr, arith}
use Rattle.std.proofs.lemmas.Grind.{common_steps}
use Rattle.std.specs.Prelude.{count_by}
use Rattle.ec_revise.specs.declared.turn.Turn.{Turn}
use Rattle.ec_sweep.specs.Acting.{AddsWords, added_turns, removed_turns}
use Rattle.ec_sweep.proofs.HitEntries.{hits-have_entries}
use Rattle.ec_sweep.proofs.StepBound.{steps-added, steps-hits, steps-removed}
use Rattle.ec_sweep.proofs.looking.look_by_number.Goals as goal

pub look_at_hits-requires : goal.look_at_hits-requires
look_at_hits-requires g c =
    hits-have_entries g.T.Moment.rank c.args.entries.now.slots (g.T.Moment.rank c.args.at) c.args.dirty.now c.args.due.now c.args.here.now.removals.now c.in_ok-hits.hits c.in_ok-hits.ensures

pub returns-in_err-hits-clause-most : goal.returns-in_err-hits-clause-most
returns-in_err-hits-clause-most g c = inl refl

pub returns-in_err-turns-clause-most : goal.returns-in_err-turns-clause-most
returns-in_err-turns-clause-most g c = inr (c.in_ok-hits.hits, c.in_ok-hits.ensures, steps-hits _ _ _ _ c.look_at_hits.ensures.most)

pub returns-in_err-turn_down_removed-clause-most : goal.returns-in_err-turn_down_removed-clause-most
returns-in_err-turn_down_removed-clause-most g c = inr (c.in_ok-hits.hits, c.in_ok-hits.ensures, steps-removed _ _ _ _ c.look_at_hits.ensures.most c.turn_down_removed.ensures.most)

pub returns-in_err-turn_up_added-clause-most : goal.returns-in_err-turn_up_added-clause-most
returns-in_err-turn_up_added-clause-most g c = inr (c.in_ok-hits.hits, c.in_ok-hits.ensures, steps-added _ _ _ _ c.look_at_hits.ensures.most c.turn_down_removed.ensures.most c.turn_up_added.ensures.most)

pub returns-clause-most : goal.returns-clause-most
returns-clause-most g c = inr (c.in_ok-hits.hits, c.in_ok-hits.ensures, steps-added _ _ _ _ c.look_at_hits.ensures.most c.turn_down_removed.ensures.most c.turn_up_added.ensures.most)

pub same-hits : goal.same-hits
same-hits c = grind (arith, common_steps)

pub returns-clause-looked : goal.returns-clause-looked
returns-clause-looked g c =
    let current = g.C.Current.is_current c.args.current.now in
    let t = g.T.Moment.rank c.args.at in
    record {
      hits = c.in_ok-hits.hits;
      are_hits = c.in_ok-hits.ensures;
      seen = c.in_ok-turns.ensures.seen;
      on = c.in_ok-turns.ensures.on ∙ ap (λ ts. c.args.looked.now.on + count_by (λ (turn : Turn). turn.up) ts) c.in_ok-turns.ensures.turns;
      off = c.in_ok-turns.ensures.off ∙ ap (λ ts. c.args.looked.now.off + count_by (λ (turn : Turn). not turn.up) ts) c.in_ok-turns.ensures.turns;
      flips = c.in_ok-turns.ensures.flips;
      bits = subst (λ words. AddsWords current t c.args.here.now.lists.now words c.turn_up_added.new.bits) c.in_ok-turns.ensures.bits c.in_ok-turn_up_added.ensures.bits;
      turned =
          c.in_ok-turn_up_added.ensures.turns
          ∙ ap (λ ts. ts ++ added_turns current t c.args.here.now.lists.now)
          (c.in_ok-turn_down_removed.ensures.turns ∙ ap (λ ts. ts ++ removed_turns c.args.entries.now.slots c.args.here.now.removals.now) c.in_ok-turns.ensures.turns);
    }
