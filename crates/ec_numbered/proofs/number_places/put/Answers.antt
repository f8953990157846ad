-- The row of the number is set, or a new one is added.
use Rattle.std.proofs.Common.{subst, arith}
use Rattle.std.proofs.lemmas.Grind.{common_steps}
use Rattle.std.specs.Prelude.{nat_eq}
use Rattle.std.proofs.lemmas.Cmp.{nat_eq_equiv}
use Rattle.ec_numbered.specs.KeyedRows.{IsFirst}
use Rattle.ec_numbered.proofs.NumberPlaceLemmas.{ArePlaces-set}
use Rattle.ec_numbered.proofs.KeyedRowLemmas.{lookup-set}
use Rattle.ec_numbered.proofs.number_places.put.Goals as goal

pub returns-in-Some-clause-places : goal.returns-in-Some-clause-places
returns-in-Some-clause-places g c =
    ArePlaces-set c.args.places.now.items c.args.rows.now.items c.args.n c.args.value c.requires.places c.in-Some.place
    (subst (λ rows. IsFirst (nat_eq c.args.n) rows c.in-Some.place) c.deref.ensures.value c.in-Some.ensures.some)

pub returns-in-Some-clause-ok : goal.returns-in-Some-clause-ok
returns-in-Some-clause-ok g c = λ k.
    lookup-set nat_eq nat_eq_equiv c.args.n c.args.value c.args.rows.now.items c.in-Some.place
    (subst (λ rows. IsFirst (nat_eq c.args.n) rows c.in-Some.place) c.deref.ensures.value c.in-Some.ensures.some) k

pub place_of-requires : goal.place_of-requires
place_of-requires c = grind (arith, common_steps)

pub add_row-requires-clause-new : goal.add_row-requires-clause-new
add_row-requires-clause-new c = grind (arith, common_steps)
