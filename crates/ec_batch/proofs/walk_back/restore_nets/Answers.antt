-- Place by place, what stood under a touched identity comes back.
use Rattle.std.proofs.Common.{◌≡◌, ◌+◌, ◌≤◌, Some, length, drop, refl, sym, ap, subst, ◌∙◌, le-add_right}
use Rattle.std.specs.Prelude.{slice_get}
use Rattle.std.proofs.lemmas.List.{drop_all}
use Rattle.ec_axioms.specs.Links.{most_mentions}
use Rattle.ec_store.specs.Store.{history_of}
use Rattle.ec_parts.specs.declared.parts.Parts.{Parts}
use Rattle.ec_parts.specs.StandFor.{StandForBoth, view_of}
use Rattle.ec_batch.specs.declared.net.Net.{Net}
use Rattle.ec_batch.specs.Undo.{Restores, untouched}
use Rattle.ec_batch.proofs.Counts.{count-more}
use Rattle.ec_batch.proofs.Undoing.{few_back, may_restore_at, put_back_next, untouched-none}
use Rattle.ec_batch.proofs.walk_back.restore_nets.Goals as goal

pub loop-i-init : goal.loop-i-init
loop-i-init g c =
    let rank = g.T.Moment.rank in
    let parts = c.args.parts.now in
    let halfway = c.requires.halfway in
    record {
      so_far = halfway.both;
      may = λ k n there is.
          may_restore_at rank parts.checked parts.checked (view_of parts) c.args.tally.now parts.store c.args.nets.now.entries 0 k n n.old refl refl halfway.both.caches.history c.len-2.ensures.unique (sym there)
          (halfway.old k n is) c.requires.within.few_mentions halfway.both;
      terms = λ id. refl;
      rest = refl;
      steps = le-add_right _ 0;
    }

pub loop-i-preserved : goal.loop-i-preserved
loop-i-preserved g c =
    let inv = c.loop-i.invariant in
    let entries = c.args.nets.now.entries in
    let rank = g.T.Moment.rank in
    let theory = c.args.parts.now.checked in
    let hist = history_of rank c.args.parts.now.store.events in
    let k = c.in-Some.field-0-0.now in
    let n = c.in-Some.net.now in
    let i = c.loop-i.i in
    let last = c.restore_old.new.parts in
    let there : slice_get entries i ≡ Some (k, n) = sym c.in-Some.ensures.entry in
    let before = untouched (drop i entries) hist in
    let both = subst (λ (p : Parts _ _ _ _). StandForBoth rank theory hist before (view_of p) c.loop-i.tally) inv.rest inv.so_far in
    let next = put_back_next entries i k n hist both.caches.history c.len-2.ensures.unique there in
    let back = subst (λ (p : Parts _ _ _ _). Restores rank p.checked n.old (view_of p) c.loop-i.tally (view_of last) c.restore_old.new.tally) inv.rest c.restore_old.ensures.back in
    let so_far = subst (λ es. StandForBoth rank theory hist es (view_of last) c.restore_old.new.tally) next
    (back before k (record { both = both; old = c.requires.halfway.old k n c.in-Some.ensures.value; few = few_back theory entries i most_mentions hist _ next c.requires.within.few_mentions })) in
    let rest : last ≡ record c.args.parts.now { props = last.props } = c.restore_old.ensures.rest ∙ ap (λ (p : Parts _ _ _ _). record p { props = last.props }) inv.rest in
    record {
      so_far = so_far;
      may = λ l m at is.
          may_restore_at rank theory last.checked (view_of last) c.restore_old.new.tally c.args.parts.now.store entries (i + 1) l m m.old (ap (λ (p : Parts _ _ _ _). p.checked) rest) (ap (λ (p : Parts _ _ _ _). p.store) rest)
          both.caches.history c.len-2.ensures.unique (sym at) (c.requires.halfway.old l m is) c.requires.within.few_mentions so_far;
      terms = λ id. c.restore_old.ensures.terms id ∙ inv.terms id;
      rest = rest;
      steps = count-more _ _ _ c.restore_old.ensures.steps inv.steps;
    }

pub returns-clause-back : goal.returns-clause-back
returns-clause-back g c =
    let inv = c.loop-i.invariant in
    let entries = c.args.nets.now.entries in
    let rank = g.T.Moment.rank in
    let hist = history_of rank c.args.parts.now.store.events in
    let end : length entries ≤ c.loop-i.i = subst (λ n. n ≤ c.loop-i.i) c.len-i-end.ensures.len c.loop-i-test.false in
    subst (λ es. StandForBoth rank c.args.parts.now.checked hist es (view_of c.loop-i.parts) c.loop-i.tally)
    (ap (λ xs. untouched xs hist) (drop_all c.loop-i.i entries end) ∙ untouched-none (Net g.row.T.Denot) hist) inv.so_far
