-- What stands at the place of the number tells whether it has a row.
use Rattle.std.proofs.Common.{rules, ◌≡◌, None, IfNone, sym, refl, ap, subst, ◌∙◌, arith, nat_eq}
use Rattle.std.proofs.lemmas.Grind.{common_steps}
use Rattle.std.specs.Map.{lookup}
use Rattle.std.proofs.lemmas.Option.{slice_get_past, slice_get_read}
use Rattle.ec_numbered.proofs.NumberPlaceLemmas.{IsFirst-at, lookup-behind, lookup-no_place, lookup-other}
use Rattle.ec_numbered.proofs.number_places.place_of.Goals as goal

pub returns-in_err-place-clause-none : goal.returns-in_err-place-clause-none
returns-in_err-place-clause-none g c =
    subst (λ o. IfNone o (lookup (nat_eq c.args.n) c.args.rows.now ≡ None)) (sym c.from_residual.ensures)
    (lookup-no_place c.args.places.now c.args.rows.now c.requires c.args.n (slice_get_past c.args.places.now c.args.n (omega (arith, c.in_err-place.ensures.lookup))))

pub returns-in_err-row-clause-none : goal.returns-in_err-row-clause-none
returns-in_err-row-clause-none g c =
    subst (λ o. IfNone o (lookup (nat_eq c.args.n) c.args.rows.now ≡ None)) (sym c.from_residual-in_err-row.ensures)
    (lookup-behind c.args.places.now c.args.rows.now c.requires c.args.n c.in_ok-place.field-0.now
    (slice_get_read c.args.places.now _ c.args.n _ refl c.in_ok-place.ensures.lookup.3.0 c.in_ok-place.ensures.lookup.1) (omega (arith, c.in_err-row.ensures.lookup)))

pub returns-then-row-n-clause-some : goal.returns-then-row-n-clause-some
returns-then-row-n-clause-some g c =
    IsFirst-at c.args.places.now c.args.rows.now c.requires c.args.n c.in_ok-place.field-0.now
    (slice_get_read c.args.places.now _ c.args.n _ refl c.in_ok-place.ensures.lookup.3.0 c.in_ok-place.ensures.lookup.1) c.in_ok-row.ensures.lookup.3.0
    (λ d. ap (λ row. nat_eq c.args.n row.0) (sym (c.in_ok-row.ensures.lookup.3.1 d)) ∙ grind arith)

pub returns-else-row-n-clause-none : goal.returns-else-row-n-clause-none
returns-else-row-n-clause-none g c =
    lookup-other c.args.places.now c.args.rows.now c.requires c.args.n c.in_ok-place.field-0.now
    (slice_get_read c.args.places.now _ c.args.n _ refl c.in_ok-place.ensures.lookup.3.0 c.in_ok-place.ensures.lookup.1)
    (λ d. ap (λ row. nat_eq c.args.n row.0) (sym (c.in_ok-row.ensures.lookup.3.1 d)) ∙ grind arith)

pub returns-else-row-n-clause-some : goal.returns-else-row-n-clause-some
returns-else-row-n-clause-some g c = search rules

pub returns-in_err-row-clause-some : goal.returns-in_err-row-clause-some
returns-in_err-row-clause-some c = grind (arith, common_steps)
