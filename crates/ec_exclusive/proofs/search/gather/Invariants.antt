-- Those so far that are exclusive to the term are found.
use Rattle.std.proofs.Common.{◌≡◌, ◌&&◌, ◌||◌, take}
use Rattle.ec_terms.specs.declared.ids.PropId.{PropId}
use Rattle.ec_terms.specs.Term.{ground_of}
use Rattle.ec_numbered.specs.PropSet.{has_number}
use Rattle.ec_exclusive.specs.Neighbours.{excludes_at}
use Rattle.ec_exclusive.proofs.search.gather.Given as goal

abbrev pub invariant-loop-q : goal.invariant-loop-q
invariant-loop-q l = (q : PropId) → has_number q.0 l.found.items ≡
    (has_number q.0 l.initial.found.items || (excludes_at l.theory l.props (ground_of l.term) q && has_number q.0 (take l.q-index l.candidates)))
