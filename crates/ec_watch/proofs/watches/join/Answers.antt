-- The row's place is set.
use Rattle.std.proofs.Common.{arith, rules, sym, ◌∙◌, ap, true, slice_set}
use Rattle.ec_watch.specs.declared.row.Row.{Row}
use Rattle.ec_watch.proofs.Cuts.{has_property-at, joined_at, row_same}
use Rattle.ec_watch.proofs.watches.join.Goals as goal

pub returns-then-is_watched_by-clause-refused : goal.returns-then-is_watched_by-clause-refused
returns-then-is_watched_by-clause-refused c = λ p there. has_property-at p c.args.session c.args.rows.now.items c.args.place c.index.result.now there c.index.ensures ∙ sym (c.if-is_watched_by.ensures)

pub returns-then-count-ge-MOST_WATCHED-clause-refused : goal.returns-then-count-ge-MOST_WATCHED-clause-refused
returns-then-count-ge-MOST_WATCHED-clause-refused c = λ p there. (has_property-at p c.args.session c.args.rows.now.items c.args.place c.index.result.now there c.index.ensures ∙ sym (c.if-is_watched_by.ensures), search rules)

pub returns-clause-ok : goal.returns-clause-ok
returns-clause-ok c = λ p there.
    joined_at p c.args.session c.args.rows.now.items c.args.place c.index.result.now c.set.new.self c.requires.session there c.index.ensures (c.set.ensures.prop ∙ ap (λ (r : Row). r.prop) (row_same c.args.rows.now.items c.args.place c.index.result.now c.index_mut.result.now c.requires.within c.index.ensures c.index_mut.ensures.value))
    (c.set.ensures.sessions ∙ ap (λ (r : Row). slice_set r.sessions c.args.session true) (row_same c.args.rows.now.items c.args.place c.index.result.now c.index_mut.result.now c.requires.within c.index.ensures c.index_mut.ensures.value))
    c.requires.rows (sym (c.if-is_watched_by.ensures)) (grind arith)
