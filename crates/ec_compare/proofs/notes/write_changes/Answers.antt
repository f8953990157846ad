-- The parts of the note follow one another.
use Rattle.std.proofs.Common.{◌++◌, ◌∷◌, [], map, refl}
use Rattle.std.specs.Prelude.{codes, decimal}
use Rattle.ec_lists.proofs.Results.{OnErr-anyway}
use Rattle.ec_terms.specs.Term.{ground_of, term_text}
use Rattle.ec_commands.specs.Lines.{line_feed}
use Rattle.ec_commands.specs.QueryTexts.{counted_text, interval_text}
use Rattle.ec_intervals.specs.Table.{plain_intervals}
use Rattle.ec_query.proofs.WritingLemmas.{IsLeft-start, IsLeft-next, IsLeft-part, IsLeft-last, IsLeft-last_part}
use Rattle.ec_compare.specs.Lists.{changes_text, missing_behind}
use Rattle.ec_compare.proofs.notes.write_changes.Goals as goal

pub returns-in_err-write_head-clause-part : goal.returns-in_err-write_head-clause-part
returns-in_err-write_head-clause-part g c = λ row_before row_after.
    let before = plain_intervals g.T.Moment.rank (g.A.Listed.members c.args.before.now) in
    let after = plain_intervals g.T.Moment.rank (g.B.Listed.members c.args.after.now) in
    let canon = g.T.Moment.canon in
    let p = ground_of c.args.p.now in
    let lost = missing_behind 0 after before in
    let gained = missing_behind c.args.skipped before after in
    let head = ((codes "note " ++ decimal c.args.session) ++ codes " ") ++ term_text p in
    let losses = codes " lost " ++ counted_text (map (interval_text canon) lost) in
    let gains = codes " gained " ++ counted_text (map (interval_text canon) gained) in
    let whole = changes_text canon c.args.session p lost gained in
    let start = IsLeft-start {faults = g.K.Sink.faults} c.args.out.now whole whole refl in
    OnErr-anyway c.from_residual.result (IsLeft-part head (losses ++ (gains ++ line_feed ∷ [])) start refl c.in_err-write_head.ensures.part)

pub returns-in_err-write_counted_missing-clause-part : goal.returns-in_err-write_counted_missing-clause-part
returns-in_err-write_counted_missing-clause-part g c = λ row_before row_after.
    let before = plain_intervals g.T.Moment.rank (g.A.Listed.members c.args.before.now) in
    let after = plain_intervals g.T.Moment.rank (g.B.Listed.members c.args.after.now) in
    let canon = g.T.Moment.canon in
    let p = ground_of c.args.p.now in
    let lost = missing_behind 0 after before in
    let gained = missing_behind c.args.skipped before after in
    let head = ((codes "note " ++ decimal c.args.session) ++ codes " ") ++ term_text p in
    let losses = codes " lost " ++ counted_text (map (interval_text canon) lost) in
    let gains = codes " gained " ++ counted_text (map (interval_text canon) gained) in
    let whole = changes_text canon c.args.session p lost gained in
    let start = IsLeft-start {faults = g.K.Sink.faults} c.args.out.now whole whole refl in
    let first = IsLeft-next head (losses ++ (gains ++ line_feed ∷ [])) start refl c.in_ok-write_head.ensures.written c.in_ok-write_head.ensures.quiet in
    OnErr-anyway c.from_residual-in_err-write_counted_missing.result (IsLeft-part losses (gains ++ line_feed ∷ []) first refl (c.in_err-write_counted_missing.ensures.part row_after))

pub returns-in_err-write_counted_missing-2-clause-part : goal.returns-in_err-write_counted_missing-2-clause-part
returns-in_err-write_counted_missing-2-clause-part g c = λ row_before row_after.
    let before = plain_intervals g.T.Moment.rank (g.A.Listed.members c.args.before.now) in
    let after = plain_intervals g.T.Moment.rank (g.B.Listed.members c.args.after.now) in
    let canon = g.T.Moment.canon in
    let p = ground_of c.args.p.now in
    let lost = missing_behind 0 after before in
    let gained = missing_behind c.args.skipped before after in
    let head = ((codes "note " ++ decimal c.args.session) ++ codes " ") ++ term_text p in
    let losses = codes " lost " ++ counted_text (map (interval_text canon) lost) in
    let gains = codes " gained " ++ counted_text (map (interval_text canon) gained) in
    let whole = changes_text canon c.args.session p lost gained in
    let start = IsLeft-start {faults = g.K.Sink.faults} c.args.out.now whole whole refl in
    let first = IsLeft-next head (losses ++ (gains ++ line_feed ∷ [])) start refl c.in_ok-write_head.ensures.written c.in_ok-write_head.ensures.quiet in
    let second = IsLeft-next losses (gains ++ line_feed ∷ []) first refl (c.in_ok-write_counted_missing.ensures.written row_after) c.in_ok-write_counted_missing.ensures.quiet in
    OnErr-anyway c.from_residual-in_err-write_counted_missing-2.result (IsLeft-part gains (line_feed ∷ []) second refl (c.in_err-write_counted_missing-2.ensures.part row_before))

pub returns-clause-written : goal.returns-clause-written
returns-clause-written g c = λ row_before row_after.
    let before = plain_intervals g.T.Moment.rank (g.A.Listed.members c.args.before.now) in
    let after = plain_intervals g.T.Moment.rank (g.B.Listed.members c.args.after.now) in
    let canon = g.T.Moment.canon in
    let p = ground_of c.args.p.now in
    let lost = missing_behind 0 after before in
    let gained = missing_behind c.args.skipped before after in
    let head = ((codes "note " ++ decimal c.args.session) ++ codes " ") ++ term_text p in
    let losses = codes " lost " ++ counted_text (map (interval_text canon) lost) in
    let gains = codes " gained " ++ counted_text (map (interval_text canon) gained) in
    let whole = changes_text canon c.args.session p lost gained in
    let start = IsLeft-start {faults = g.K.Sink.faults} c.args.out.now whole whole refl in
    let first = IsLeft-next head (losses ++ (gains ++ line_feed ∷ [])) start refl c.in_ok-write_head.ensures.written c.in_ok-write_head.ensures.quiet in
    let second = IsLeft-next losses (gains ++ line_feed ∷ []) first refl (c.in_ok-write_counted_missing.ensures.written row_after) c.in_ok-write_counted_missing.ensures.quiet in
    let third = IsLeft-next gains (line_feed ∷ []) second refl (c.in_ok-write_counted_missing-2.ensures.written row_before) c.in_ok-write_counted_missing-2.ensures.quiet in
    IsLeft-last c.write_all.new.out c.write_all.result (line_feed ∷ []) third refl c.write_all.ensures.written

pub returns-clause-part : goal.returns-clause-part
returns-clause-part g c = λ row_before row_after.
    let before = plain_intervals g.T.Moment.rank (g.A.Listed.members c.args.before.now) in
    let after = plain_intervals g.T.Moment.rank (g.B.Listed.members c.args.after.now) in
    let canon = g.T.Moment.canon in
    let p = ground_of c.args.p.now in
    let lost = missing_behind 0 after before in
    let gained = missing_behind c.args.skipped before after in
    let head = ((codes "note " ++ decimal c.args.session) ++ codes " ") ++ term_text p in
    let losses = codes " lost " ++ counted_text (map (interval_text canon) lost) in
    let gains = codes " gained " ++ counted_text (map (interval_text canon) gained) in
    let whole = changes_text canon c.args.session p lost gained in
    let start = IsLeft-start {faults = g.K.Sink.faults} c.args.out.now whole whole refl in
    let first = IsLeft-next head (losses ++ (gains ++ line_feed ∷ [])) start refl c.in_ok-write_head.ensures.written c.in_ok-write_head.ensures.quiet in
    let second = IsLeft-next losses (gains ++ line_feed ∷ []) first refl (c.in_ok-write_counted_missing.ensures.written row_after) c.in_ok-write_counted_missing.ensures.quiet in
    let third = IsLeft-next gains (line_feed ∷ []) second refl (c.in_ok-write_counted_missing-2.ensures.written row_before) c.in_ok-write_counted_missing-2.ensures.quiet in
    IsLeft-last_part c.write_all.new.out c.write_all.result (line_feed ∷ []) third refl c.write_all.ensures.part
