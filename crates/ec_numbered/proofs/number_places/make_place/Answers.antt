-- Places behind the others change none.
use Rattle.std.proofs.Common.{arith}
use Rattle.ec_numbered.proofs.NumberPlaceLemmas.{ArePlaces-resized}
use Rattle.ec_numbered.proofs.number_places.make_place.Goals as goal

pub returns-clause-places : goal.returns-clause-places
returns-clause-places g c =
    ArePlaces-resized c.args.places.now.items _ c.resize.new.self.items c.args.rows.now c.in_ok-count.count c.in_ok-resize.ensures.items
    (omega (arith, c.len.ensures, c.if-n-len.false, c.in_ok-count.ensures.sum, c.args.places.now.ok.0)) c.requires
