-- The row is behind the others, and its number gets its place.
use Rattle.std.proofs.Common.{◌∷◌, [], ◌++◌, length, ap, subst, sym, ◌∙◌, slice_set, nat_eq}
use Rattle.std.specs.Map.{lookup}
use Rattle.std.proofs.lemmas.Cmp.{nat_eq_equiv}
use Rattle.ec_numbered.specs.NumberPlaces.{ArePlaces}
use Rattle.ec_numbered.proofs.NumberPlaceLemmas.{ArePlaces-push}
use Rattle.ec_numbered.proofs.KeyedRowLemmas.{lookup-push}
use Rattle.ec_numbered.proofs.number_places.add_row.Goals as goal

pub returns-clause-places : goal.returns-clause-places
returns-clause-places g c =
    let places = c.make_place.new.places.items in
    let rows = c.args.rows.now.items in
    let made = subst (λ rows. ArePlaces places rows) c.deref.ensures.value c.make_place.ensures.places in
    subst (λ rows. ArePlaces (slice_set places c.args.n c.len-place.result) rows) (sym c.in_ok-push.ensures.items)
    (subst (λ place. ArePlaces (slice_set places c.args.n place) (rows ++ (c.args.n, c.args.value) ∷ [])) (sym (c.len-place.ensures ∙ sym c.deref.ensures.len ∙ ap length c.deref.ensures.value))
    (ArePlaces-push places rows c.args.n c.args.value made c.in_ok-make_place.ensures.place c.requires.new))

pub returns-clause-ok : goal.returns-clause-ok
returns-clause-ok g c = λ k.
    ap (lookup (nat_eq k)) c.in_ok-push.ensures.items ∙ lookup-push nat_eq nat_eq_equiv c.args.n c.args.value c.args.rows.now.items c.requires.new k
