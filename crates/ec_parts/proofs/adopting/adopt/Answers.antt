-- The last of those that wait joins, or it and the others that wait are forgotten.
use Rattle.std.proofs.Common.{◌≡◌, [], refl, sym, ap, subst, ◌∙◌, rules, arith}
use Rattle.std.proofs.lemmas.Grind.{common_steps}
use Rattle.ec_terms.specs.declared.theory.Theory.{Theory}
use Rattle.ec_context.specs.Widened.{without_props}
use Rattle.ec_context.proofs.Keepings.{unmentioned-last, AreUnmentioned-pop}
use Rattle.ec_store.specs.Table.{mentions_at, prop_at}
use Rattle.ec_parts.specs.declared.parts.Parts.{Parts}
use Rattle.ec_parts.specs.Adoption.{MayJoin, HasJoined, HasStayed}
use Rattle.ec_parts.specs.StandFor.{view_of}
use Rattle.ec_parts.proofs.Adoptions.{AreAdopted, AreAdopted-none, AreAdopted-more, AreDone-all, AreDone-less}
use Rattle.ec_parts.proofs.Waiting.{MayJoin-waiting}
use Rattle.ec_parts.proofs.adopting.adopt.Goals as goal

pub loop-p-init : goal.loop-p-init
loop-p-init g c = record {
  theory = refl;
  adopted = AreAdopted-none g.T.Moment.rank c.args.parts.now.checked c.args.waiting.now.items (view_of c.args.parts.now) c.args.fresh.now.items c.requires.unmentioned c.requires.stand;
}

pub adopt_one-requires : goal.adopt_one-requires
adopt_one-requires g c =
    let so_far =
    subst (λ ps. AreAdopted g.T.Moment.rank c.args.parts.now.checked c.args.waiting.now.items (view_of c.args.parts.now) c.args.fresh.now.items ps (view_of c.loop-p.parts) c.loop-p.fresh.items) c.in-Some.ensures.items
    c.loop-p.invariant.adopted in
    record {
      may = subst (λ (theory : Theory). MayJoin g.T.Moment.rank theory c.in-Some.p (view_of c.loop-p.parts)) (sym c.loop-p.invariant.theory)
          (MayJoin-waiting g.T.Moment.rank c.args.parts.now.checked c.pop.new.self.items c.in-Some.p (view_of c.loop-p.parts) (record { in_order = c.len.ensures.order; numbers = c.len.ensures.numbers }) so_far.unmentioned
          c.is_added.ensures.order so_far.some);
    }

pub forget-requires : goal.forget-requires
forget-requires g c =
    let so_far =
    subst (λ ps. AreAdopted g.T.Moment.rank c.args.parts.now.checked c.args.waiting.now.items (view_of c.args.parts.now) c.args.fresh.now.items ps (view_of c.loop-p.parts) c.loop-p.fresh.items) c.in-Some.ensures.items
    c.loop-p.invariant.adopted in
    ap (λ (parts : Parts _ _ _ _). mentions_at c.in-Some.p.0 parts.props) c.adopt_one.ensures.rest ∙ unmentioned-last c.pop.new.self.items c.in-Some.p c.loop-p.parts.props so_far.unmentioned

pub forget_each-requires : goal.forget_each-requires
forget_each-requires g c =
    let so_far =
    subst (λ ps. AreAdopted g.T.Moment.rank c.args.parts.now.checked c.args.waiting.now.items (view_of c.args.parts.now) c.args.fresh.now.items ps (view_of c.loop-p.parts) c.loop-p.fresh.items) c.in-Some.ensures.items
    c.loop-p.invariant.adopted in
    AreUnmentioned-pop c.pop.new.self.items c.in-Some.p c.loop-p.parts.props c.forget.new.self so_far.unmentioned
    (λ id other. c.forget.ensures.others id other ∙ ap (λ (parts : Parts _ _ _ _). prop_at id parts.props) c.adopt_one.ensures.rest)

pub returns-in-Err-clause-both : goal.returns-in-Err-clause-both
returns-in-Err-clause-both g c =
    let so_far =
    subst (λ ps. AreAdopted g.T.Moment.rank c.args.parts.now.checked c.args.waiting.now.items (view_of c.args.parts.now) c.args.fresh.now.items ps (view_of c.loop-p.parts) c.loop-p.fresh.items) c.in-Some.ensures.items
    c.loop-p.invariant.adopted in
    (AreDone-less g.T.Moment.rank c.args.parts.now.checked c.args.waiting.now.items (view_of c.args.parts.now) c.args.fresh.now.items c.pop.new.self.items c.in-Some.p (view_of c.loop-p.parts)
    (view_of c.adopt_one.new.parts) c.forget_each.new.props c.loop-p.fresh.items c.adopt_one.new.fresh.items so_far (ap view_of c.adopt_one.ensures.rest)
    (subst (λ (theory : Theory). HasStayed theory (view_of c.loop-p.parts) (view_of c.adopt_one.new.parts)) c.loop-p.invariant.theory c.in-Err.ensures.stayed)
    (c.forget_each.ensures ∙ ap (without_props c.pop.new.self.items) c.forget.ensures.props) c.in-Err.ensures.err).both

pub returns-in-Err-clause-entered : goal.returns-in-Err-clause-entered
returns-in-Err-clause-entered g c =
    let so_far =
    subst (λ ps. AreAdopted g.T.Moment.rank c.args.parts.now.checked c.args.waiting.now.items (view_of c.args.parts.now) c.args.fresh.now.items ps (view_of c.loop-p.parts) c.loop-p.fresh.items) c.in-Some.ensures.items
    c.loop-p.invariant.adopted in
    (AreDone-less g.T.Moment.rank c.args.parts.now.checked c.args.waiting.now.items (view_of c.args.parts.now) c.args.fresh.now.items c.pop.new.self.items c.in-Some.p (view_of c.loop-p.parts)
    (view_of c.adopt_one.new.parts) c.forget_each.new.props c.loop-p.fresh.items c.adopt_one.new.fresh.items so_far (ap view_of c.adopt_one.ensures.rest)
    (subst (λ (theory : Theory). HasStayed theory (view_of c.loop-p.parts) (view_of c.adopt_one.new.parts)) c.loop-p.invariant.theory c.in-Err.ensures.stayed)
    (c.forget_each.ensures ∙ ap (without_props c.pop.new.self.items) c.forget.ensures.props) c.in-Err.ensures.err).entered

pub loop-p-preserved : goal.loop-p-preserved
loop-p-preserved g c =
    let so_far =
    subst (λ ps. AreAdopted g.T.Moment.rank c.args.parts.now.checked c.args.waiting.now.items (view_of c.args.parts.now) c.args.fresh.now.items ps (view_of c.loop-p.parts) c.loop-p.fresh.items) c.in-Some.ensures.items
    c.loop-p.invariant.adopted in
    record {
      theory = ap (λ (parts : Parts _ _ _ _). parts.checked) c.adopt_one.ensures.rest ∙ c.loop-p.invariant.theory;
      adopted = AreAdopted-more g.T.Moment.rank c.args.parts.now.checked c.args.waiting.now.items (view_of c.args.parts.now) c.args.fresh.now.items c.pop.new.self.items c.in-Some.p (view_of c.loop-p.parts)
          (view_of c.adopt_one.new.parts) c.loop-p.fresh.items c.adopt_one.new.fresh.items (record { in_order = c.len.ensures.order; numbers = c.len.ensures.numbers }) c.is_added.ensures.order so_far
          (ap view_of c.adopt_one.ensures.rest)
          (subst (λ (theory : Theory). HasJoined g.T.Moment.rank theory c.in-Some.p (view_of c.loop-p.parts) (view_of c.adopt_one.new.parts)) c.loop-p.invariant.theory c.in-Ok.ensures.joined) c.in-Ok.ensures.fresh;
    }

pub returns-clause-both : goal.returns-clause-both
returns-clause-both g c =
    let none : c.loop-p.waiting.items ≡ [] = search rules in
    (AreDone-all g.T.Moment.rank c.args.parts.now.checked c.args.waiting.now.items (view_of c.args.parts.now) c.args.fresh.now.items c.loop-p.waiting.items (view_of c.loop-p.parts) c.loop-p.fresh.items none
    c.loop-p.invariant.adopted).both

pub returns-clause-entered : goal.returns-clause-entered
returns-clause-entered g c =
    let none : c.loop-p.waiting.items ≡ [] = search rules in
    (AreDone-all g.T.Moment.rank c.args.parts.now.checked c.args.waiting.now.items (view_of c.args.parts.now) c.args.fresh.now.items c.loop-p.waiting.items (view_of c.loop-p.parts) c.loop-p.fresh.items none
    c.loop-p.invariant.adopted).entered

pub returns-clause-store : goal.returns-clause-store
returns-clause-store c = grind (arith, common_steps)

pub returns-clause-table : goal.returns-clause-table
returns-clause-table c = grind (arith, common_steps)

pub returns-in-Err-clause-store : goal.returns-in-Err-clause-store
returns-in-Err-clause-store c = grind (arith, common_steps)

pub returns-clause-theory : goal.returns-clause-theory
returns-clause-theory c = grind (arith, common_steps)

pub returns-in-Err-clause-table : goal.returns-in-Err-clause-table
returns-in-Err-clause-table c = grind (arith, common_steps)

pub returns-in-Err-clause-theory : goal.returns-in-Err-clause-theory
returns-in-Err-clause-theory c = grind (arith, common_steps)

pub loop-p-smaller : goal.loop-p-smaller
loop-p-smaller c = grind (arith, common_steps)
