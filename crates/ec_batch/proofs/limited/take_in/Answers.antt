-- The limits are asked in their order, and what they refuse is released again.
use Rattle.std.proofs.Common.{sym, subst, ap, arith}
use Rattle.ec_context.proofs.Shown.{IsKeptEntry-shown}
use Rattle.ec_axioms.specs.Changes.{with_event}
use Rattle.ec_parts.specs.declared.parts.Parts.{Parts}
use Rattle.ec_parts.specs.Mentions.{AreOfEventsWith, TakeEventOut}
use Rattle.ec_parts.specs.StandFor.{view_of}
use Rattle.ec_batch.proofs.LetIn.{many_mentions, many_links, few_of_both, AreOfEventsWith-in, back_out, history_with, shown_after, stands_in}
use Rattle.ec_batch.proofs.limited.take_in.Goals as goal

pub mention_all-requires-clause-kept : goal.mention_all-requires-clause-kept
mention_all-requires-clause-kept g c = IsKeptEntry-shown c.args.parts.now.props c.args.list.now _ c.requires.coming.comes.shown

pub mention_all-requires-clause-tables : goal.mention_all-requires-clause-tables
mention_all-requires-clause-tables g c = record { events = c.requires.coming.soon; tables = c.requires.coming.comes.both.tables }

pub returns-then-tally-mention_count-gt-MOST_MENTIONS-clause-limits : goal.returns-then-tally-mention_count-gt-MOST_MENTIONS-clause-limits
returns-then-tally-mention_count-gt-MOST_MENTIONS-clause-limits g c now soon event comes = (many_mentions comes (omega arith), comes.both)

pub release_all-requires-clause-kept : goal.release_all-requires-clause-kept
release_all-requires-clause-kept g c = IsKeptEntry-shown c.mention_all.new.parts.props c.args.list.now _ (shown_after c.requires.coming.comes c.mention_all.new.parts.props c.mention_all.ensures.mentioned.terms)

pub release_all-requires-clause-tables : goal.release_all-requires-clause-tables
release_all-requires-clause-tables g c =
    subst (λ theory. AreOfEventsWith theory c.args.list.now c.mention_all.new.parts.props c.mention_all.new.parts.neighbours c.mention_all.new.parts.points c.mention_all.new.tally)
    (sym (ap (λ (p : Parts _ _ _ _). p.checked) c.mention_all.ensures.rest))
    (AreOfEventsWith-in c.requires.coming.comes (view_of c.mention_all.new.parts) c.mention_all.new.tally c.mention_all.ensures.mentioned.terms
    (c.mention_all.ensures.both c.requires.coming.now c.requires.coming.soon c.requires.coming.event c.requires.coming.comes.shown c.requires.coming.comes.both))

pub returns-then-tally-gt-MOST_LINKS-clause-limits : goal.returns-then-tally-gt-MOST_LINKS-clause-limits
returns-then-tally-gt-MOST_LINKS-clause-limits g c now soon event comes =
    let stand = c.mention_all.ensures.both now soon event comes.shown comes.both in
    let more = c.mention_all.ensures.mentioned.more in
    let out = subst (λ theory. TakeEventOut g.T.Moment.rank theory c.args.list.now (view_of c.mention_all.new.parts) c.mention_all.new.tally (view_of c.release_all.new.parts) c.release_all.new.tally)
    (ap (λ (p : Parts _ _ _ _). p.checked) c.mention_all.ensures.rest) c.release_all.ensures.both in (
      many_links comes (view_of c.mention_all.new.parts) c.mention_all.new.tally stand (omega arith) (omega arith),
      back_out comes (view_of c.release_all.new.parts) c.release_all.new.tally
          (out now (with_event event soon) event (shown_after comes c.mention_all.new.parts.props c.mention_all.ensures.mentioned.terms) (history_with comes) (stands_in comes) stand),
    )

pub returns-clause-limits : goal.returns-clause-limits
returns-clause-limits g c now soon event comes =
    let stand = c.mention_all.ensures.both now soon event comes.shown comes.both in
    let more = c.mention_all.ensures.mentioned.more in
    (few_of_both comes (view_of c.mention_all.new.parts) c.mention_all.new.tally stand (omega arith) (omega arith), stand)
