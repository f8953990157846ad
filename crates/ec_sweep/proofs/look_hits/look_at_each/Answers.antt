-- One hit more is looked at.
use Rattle.std.proofs.Common.{◌++◌, IsSome, refl, sym, subst, arith}
use Rattle.std.proofs.lemmas.Grind.{common_steps}
use Rattle.std.proofs.lemmas.Option.{get_or_from_slice_get, slice_get_within}
use Rattle.std.specs.Prelude.{filter_map}
use Rattle.ec_sweep.specs.Acting.{entry_at, turn_at}
use Rattle.ec_sweep.proofs.HitLemmas.{WordsHit-next}
use Rattle.ec_sweep.proofs.Turning.{filter_map-next}
use Rattle.ec_sweep.proofs.look_hits.look_at_each.Goals as goal

pub loop-i-preserved : goal.loop-i-preserved
loop-i-preserved g c = record {
  told =
      filter_map-next c.args.hits.now c.loop-i.i c.get.result (slice_get_within c.args.hits.now c.loop-i.i c.get.result c.get.ensures)
      (sym (get_or_from_slice_get c.args.hits.now c.loop-i.i c.get.result c.get.result c.get.ensures))
      (turn_at (g.C.Current.is_current c.args.current.now) (g.T.Moment.rank c.args.at) c.args.entries.now.slots)
      (c.args.turns.now.items ++ filter_map (turn_at (g.C.Current.is_current c.args.current.now) (g.T.Moment.rank c.args.at) c.args.entries.now.slots) c.args.hits.now)
      c.loop-i.turns.items c.look_at.new.turns.items c.loop-i.invariant.told c.in_ok-look_at.ensures.turns;
  words =
      WordsHit-next (g.C.Current.is_current c.args.current.now) (g.T.Moment.rank c.args.at) c.args.entries.now.slots c.args.hits.now c.loop-i.i c.get.result c.args.words.now c.loop-i.words
      c.look_at.new.words c.get.ensures c.loop-i.invariant.words c.in_ok-look_at.ensures.words;
  counted = let more = c.in_ok-look_at.ensures.steps in let before = c.loop-i.invariant.counted in omega (arith, more, before);
  there = c.loop-i.invariant.there;
}

pub loop-i-init : goal.loop-i-init
loop-i-init g c = record {
  told = refl;
  words = record { bits = λ slot k. refl; others = λ slot none. refl };
  counted = omega arith;
  there = λ n hit is.
      subst (λ h. IsSome (entry_at c.args.entries.now.slots h)) (get_or_from_slice_get c.args.hits.now n hit hit is)
      (c.requires n hit (slice_get_within c.args.hits.now n hit is));
}

pub returns-in_err-look_at-clause-most : goal.returns-in_err-look_at-clause-most
returns-in_err-look_at-clause-most c = grind (arith, common_steps)

pub returns-clause-turns : goal.returns-clause-turns
returns-clause-turns c = grind (arith, common_steps)

pub returns-clause-words : goal.returns-clause-words
returns-clause-words c = grind (arith, common_steps)
