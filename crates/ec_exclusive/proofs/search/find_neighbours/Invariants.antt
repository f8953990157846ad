-- Those in the groups of the keys of the declarations so far that are exclusive to the term are found.
use Rattle.std.proofs.Common.{◌≡◌, ◌&&◌, take}
use Rattle.std.specs.List.{list_any}
use Rattle.ec_terms.specs.declared.ids.PropId.{PropId}
use Rattle.ec_terms.specs.Term.{ground_of}
use Rattle.ec_numbered.specs.PropSet.{has_number}
use Rattle.ec_exclusive.specs.Groups.{in_group}
use Rattle.ec_exclusive.specs.Keys.{keys_from}
use Rattle.ec_exclusive.specs.Neighbours.{excludes_at}
use Rattle.ec_exclusive.proofs.search.find_neighbours.Given as goal

abbrev pub invariant-loop-i : goal.invariant-loop-i
invariant-loop-i l = (q : PropId) → has_number q.0 l.found.items ≡
    (excludes_at l.theory l.props (ground_of l.term) q && list_any (λ key. in_group l.groups key q.0) (keys_from 1 0 0 (take l.i l.theory.exclusives) (ground_of l.term)))
