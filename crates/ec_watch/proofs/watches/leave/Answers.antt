-- The row's place is cleared, and the row goes where no place is set.
use Rattle.std.proofs.Common.{arith, sym, ◌∙◌, ◌≡◌, ap, true, false, slice_set}
use Rattle.std.specs.List.{list_any}
use Rattle.std.proofs.lemmas.List.{get_or-set_same}
use Rattle.ec_watch.specs.declared.row.Row.{Row}
use Rattle.ec_watch.specs.Watched.{is_watched_by}
use Rattle.ec_watch.proofs.Cuts.{gone_at, has_property-at, left_at, row_same}
use Rattle.ec_watch.proofs.watches.leave.Goals as goal

pub returns-then-not-is_watched_by-clause-unwatched : goal.returns-then-not-is_watched_by-clause-unwatched
returns-then-not-is_watched_by-clause-unwatched c = λ is p there.
    let unwatched : is_watched_by c.args.session c.index.result.now ≡ false = grind arith in
    has_property-at p c.args.session c.args.rows.now.items c.args.place c.index.result.now there c.index.ensures ∙ unwatched

pub returns-then-not-is_used-clause-left : goal.returns-then-not-is_used-clause-left
returns-then-not-is_used-clause-left c = λ is p there.
    let same = row_same c.args.rows.now.items c.args.place c.index.result.now c.index_mut.result.now c.requires.within c.index.ensures c.index_mut.ensures.value in
    let watched : is_watched_by c.args.session c.index.result.now ≡ true = grind arith in
    let now : c.index-2.result.now ≡ c.set.new.self = c.index-2.ensures ∙ get_or-set_same c.args.rows.now.items c.args.place c.set.new.self c.index-2.result.now c.requires.within in
    let clear : list_any (λ watches. watches) c.index-2.result.now.sessions ≡ false = grind arith in
    let done = gone_at p c.args.session c.args.rows.now.items c.args.place c.index.result.now c.set.new.self c.requires.session there c.index.ensures
    (c.set.ensures.sessions ∙ ap (λ (r : Row). slice_set r.sessions c.args.session false) same)
    c.requires.rows watched (ap (λ (r : Row). list_any (λ watches. watches) r.sessions) (sym now) ∙ clear) in grind (arith, done)

pub returns-else-not-is_used-clause-left : goal.returns-else-not-is_used-clause-left
returns-else-not-is_used-clause-left c = λ is p there.
    let same = row_same c.args.rows.now.items c.args.place c.index.result.now c.index_mut.result.now c.requires.within c.index.ensures c.index_mut.ensures.value in
    let watched : is_watched_by c.args.session c.index.result.now ≡ true = grind arith in
    let now : c.index-2.result.now ≡ c.set.new.self = c.index-2.ensures ∙ get_or-set_same c.args.rows.now.items c.args.place c.set.new.self c.index-2.result.now c.requires.within in
    let used : list_any (λ watches. watches) c.index-2.result.now.sessions ≡ true = grind arith in
    left_at p c.args.session c.args.rows.now.items c.args.place c.index.result.now c.set.new.self c.requires.session there c.index.ensures
    (c.set.ensures.prop ∙ ap (λ (r : Row). r.prop) same)
    (c.set.ensures.sessions ∙ ap (λ (r : Row). slice_set r.sessions c.args.session false) same)
    c.requires.rows watched (ap (λ (r : Row). list_any (λ watches. watches) r.sessions) (sym now) ∙ used)
