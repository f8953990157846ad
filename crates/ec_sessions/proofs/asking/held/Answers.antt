-- A checked theory lists its initial properties.
use Rattle.std.proofs.Common.{subst}
use Rattle.ec_terms.specs.declared.theory.Theory.{Theory}
use Rattle.ec_changes.specs.LiveLaws.{ListsInitials}
use Rattle.ec_parts.proofs.ListedInitials.{lists_initials}
use Rattle.ec_sessions.proofs.asking.held.Goals as goal

pub returns-clause-initials : goal.returns-clause-initials
returns-clause-initials g c =
    subst (λ (t : Theory). ListsInitials t) c.parts-parts.ensures.theory (lists_initials c.parts-parts.result.now.checked c.theory.ensures.well_formed c.theory.ensures.matchable)
