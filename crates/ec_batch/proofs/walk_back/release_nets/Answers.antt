-- Place by place, what stands under a touched identity goes.
use Rattle.std.proofs.Common.{◌≡◌, ◌+◌, ◌≤◌, ℕ, List, Some, length, take, refl, sym, ap, subst, ◌∙◌}
use Rattle.std.specs.Prelude.{slice_get}
use Rattle.std.proofs.lemmas.List.{take_all}
use Rattle.ec_axioms.specs.Calculus.{PlainEvent}
use Rattle.ec_store.specs.Store.{history_of}
use Rattle.ec_store.specs.Table.{term_at}
use Rattle.ec_parts.specs.declared.parts.Parts.{Parts}
use Rattle.ec_parts.specs.StandFor.{StandForBoth, view_of}
use Rattle.ec_batch.specs.declared.net.Net.{Net}
use Rattle.ec_batch.specs.Net.{net_in}
use Rattle.ec_batch.specs.Undo.{LeadTo, MayRelease, Releases, untouched}
use Rattle.ec_batch.proofs.Undoing.{halfway_at_end, is_touched-found, releasable_at, untouched-next, untouched-none}
use Rattle.ec_batch.proofs.walk_back.release_nets.Goals as goal

pub loop-i-init : goal.loop-i-init
loop-i-init g c =
    let rank = g.T.Moment.rank in
    let parts = c.args.parts.now in
    let soon = c.requires.soon in
    let Stands : List PlainEvent → Type 0 = λ es. StandForBoth rank parts.checked (history_of rank parts.store.events) es (view_of parts) c.args.tally.now in
    record {
      so_far = λ events lead. subst Stands (sym (untouched-none (Net g.row.T.Denot) events)) lead.both;
      may = λ k n there is. record {
        now = history_of rank parts.store.events;
        soon = untouched (take 0 c.args.nets.now.entries) soon;
        id = k;
        releasable = releasable_at c.requires.to c.args.nets.now.entries 0 k n c.len.ensures.unique (sym there) is (view_of parts) c.args.tally.now (λ id. refl)
            (subst Stands (sym (untouched-none (Net g.row.T.Denot) soon)) c.requires.to.both);
      };
      terms = λ id. refl;
      rest = refl;
    }

pub loop-i-preserved : goal.loop-i-preserved
loop-i-preserved g c =
    let inv = c.loop-i.invariant in
    let entries = c.args.nets.now.entries in
    let rank = g.T.Moment.rank in
    let theory = c.args.parts.now.checked in
    let hist = history_of rank c.args.parts.now.store.events in
    let k = c.in-Some.field-0-0.now in
    let n = c.in-Some.net.now in
    let i = c.loop-i.i in
    let last = c.release_new.new.parts in
    let there : slice_get entries i ≡ Some (k, n) = sym c.in-Some.ensures.entry in
    let out = subst (λ t. Releases rank t n (view_of c.loop-i.parts) c.loop-i.tally (view_of last) c.release_new.new.tally) (ap (λ (p : Parts _ _ _ _). p.checked) inv.rest) c.release_new.ensures.out in
    let so_far : (soon : List PlainEvent) → LeadTo rank theory (view_of c.args.parts.now) c.args.tally.now (λ id. net_in id c.args.nets.now) soon
    → StandForBoth rank theory hist (untouched (take (i + 1) entries) soon) (view_of last) c.release_new.new.tally = λ soon lead.
    subst (λ es. StandForBoth rank theory hist es (view_of last) c.release_new.new.tally) (untouched-next entries i k n soon there)
    (out hist (untouched (take i entries) soon) k (releasable_at lead entries i k n c.len.ensures.unique there c.in-Some.ensures.value _ c.loop-i.tally inv.terms (inv.so_far soon lead))) in
    let terms : (id : ℕ) → term_at id last.props ≡ term_at id c.args.parts.now.props = λ id. c.release_new.ensures.terms id ∙ inv.terms id in
    let rest : last ≡ record c.args.parts.now { props = last.props } = c.release_new.ensures.rest ∙ ap (λ (p : Parts _ _ _ _). record p { props = last.props }) inv.rest in
    record {
      so_far = so_far;
      may = λ l m at is.
          subst (λ t. MayRelease rank t (view_of last) c.release_new.new.tally m) (sym (ap (λ (p : Parts _ _ _ _). p.checked) rest))
          (record {
            now = hist;
            soon = untouched (take (i + 1) entries) c.requires.soon;
            id = l;
            releasable = releasable_at c.requires.to entries (i + 1) l m c.len.ensures.unique (sym at) is (view_of last) c.release_new.new.tally terms (so_far c.requires.soon c.requires.to);
          });
      terms = terms;
      rest = rest;
    }

pub returns-clause-halfway : goal.returns-clause-halfway
returns-clause-halfway g c soon lead =
    let inv = c.loop-i.invariant in
    let entries = c.args.nets.now.entries in
    let rank = g.T.Moment.rank in
    let end : length entries ≤ c.loop-i.i = subst (λ n. n ≤ c.loop-i.i) c.len-i-end.ensures.len c.loop-i-test.false in
    halfway_at_end lead entries (λ id. is_touched-found id entries) (view_of c.loop-i.parts) c.loop-i.tally (ap (λ (p : Parts _ _ _ _). p.store) inv.rest)
    (subst (λ xs. StandForBoth rank c.args.parts.now.checked (history_of rank c.args.parts.now.store.events) (untouched xs soon) (view_of c.loop-i.parts) c.loop-i.tally) (take_all c.loop-i.i entries end) (inv.so_far soon lead))
