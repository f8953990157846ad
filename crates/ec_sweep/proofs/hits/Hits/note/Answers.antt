-- The hit is put in its own place.
use Rattle.std.proofs.Common.{◌≡◌, ◌||◌, subst}
use Rattle.std.specs.Map.{keys_of}
use Rattle.ec_sweep.specs.Hits.{has_hit, is_hit}
use Rattle.ec_sweep.proofs.NotedHits.{has_hit-noted}
use Rattle.ec_sweep.proofs.hits.Hits.note.Goals as goal

pub returns-clause-noted : goal.returns-clause-noted
returns-clause-noted c = λ slot place.
    subst (λ hits. has_hit slot place (keys_of c.insert.new.self) ≡ (is_hit slot place c.args.hit || has_hit slot place hits)) c.self.view_is
    (has_hit-noted c.args.hit _ c.self.inside.items c.insert.new.self c.in_ok-insert.ensures.ok slot place)
