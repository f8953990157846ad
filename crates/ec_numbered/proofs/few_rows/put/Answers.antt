-- The row of the key gets the value, or a new row is added behind the others.
use Rattle.std.proofs.Common.{ap, subst, sym, ◌∙◌}
use Rattle.std.specs.List.{IsDistinct}
use Rattle.std.specs.Map.{keys_of, lookup}
use Rattle.ec_numbered.specs.KeyedRows.{IsFirst}
use Rattle.ec_numbered.proofs.KeyedRowLemmas.{IsDistinct-push, IsDistinct-set, lookup-push, lookup-set}
use Rattle.ec_numbered.proofs.few_rows.put.Goals as goal

pub returns-in-Some-clause-ok : goal.returns-in-Some-clause-ok
returns-in-Some-clause-ok g c = λ k.
    lookup-set g.K.PartialEq.eq g.met.K.Eq.laws c.args.key c.args.value c.args.rows.now.items c.in-Some.place
    (subst (λ rows. IsFirst (g.K.PartialEq.eq c.args.key) rows c.in-Some.place) c.deref.ensures.value c.in-Some.ensures.some) k

pub returns-in-Some-clause-once : goal.returns-in-Some-clause-once
returns-in-Some-clause-once g c =
    IsDistinct-set g.K.PartialEq.eq g.met.K.Eq.laws c.args.key c.args.value c.args.rows.now.items c.in-Some.place
    (subst (λ rows. IsFirst (g.K.PartialEq.eq c.args.key) rows c.in-Some.place) c.deref.ensures.value c.in-Some.ensures.some) c.requires

pub returns-in_ok-push-in-None-clause-ok : goal.returns-in_ok-push-in-None-clause-ok
returns-in_ok-push-in-None-clause-ok g c = λ k.
    ap (lookup (g.K.PartialEq.eq k)) c.in_ok-push-in-None.ensures.items
    ∙ lookup-push g.K.PartialEq.eq g.met.K.Eq.laws c.args.key c.args.value c.args.rows.now.items
    (sym (ap (lookup (g.K.PartialEq.eq c.args.key)) c.deref.ensures.value) ∙ c.in-None.ensures.none) k

pub returns-in_ok-push-in-None-clause-once : goal.returns-in_ok-push-in-None-clause-once
returns-in_ok-push-in-None-clause-once g c =
    subst (λ rows. IsDistinct g.K.PartialEq.eq (keys_of rows)) (sym c.in_ok-push-in-None.ensures.items)
    (IsDistinct-push g.K.PartialEq.eq g.met.K.Eq.laws c.args.key c.args.value c.args.rows.now.items c.requires
    (sym (ap (lookup (g.K.PartialEq.eq c.args.key)) c.deref.ensures.value) ∙ c.in-None.ensures.none))
