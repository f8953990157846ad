-- What turned at an instant for one property, and its mark after that.
use Rattle.std.specs.Prelude.{◌≡◌, ◌+◌, ◌-◌, ◌<◌, ◌≤◌, ◌^◌, List}
use Rattle.ec_terms.specs.declared.ground.Ground.{Ground}
use Rattle.ec_terms.specs.declared.theory.Theory.{Theory}
use Rattle.ec_axioms.specs.Calculus.{is_initiating, is_terminating, is_clashing}
use Rattle.ec_rows.specs.declared.mark.Mark.{Mark}
use Rattle.ec_revise.specs.declared.settled.Tallied.{Tallied}
use Rattle.ec_revise.specs.Visit.{PlainTurn, downs, ups}

-- what is tallied for a property counts the turns that count in its marks
pub record IsTallyOf (theory : Theory) (turns : List PlainTurn) (p : Ground) (tallied : Tallied) : Type 0 where
  pub inits_up : tallied.up.inits ≡ ups (is_initiating p) turns
  pub terms_up : tallied.up.terms ≡ ups (is_terminating p) turns
  pub clashes_up : tallied.up.clashes ≡ ups (is_clashing theory p) turns
  pub inits_down : tallied.down.inits ≡ downs (is_initiating p) turns
  pub terms_down : tallied.down.terms ≡ downs (is_terminating p) turns
  pub clashes_down : tallied.down.clashes ≡ downs (is_clashing theory p) turns

-- each count of a mark fits with what came, and what went is not more
pub record HasRoomFor {T : Type 0} (mark : Mark T) (tallied : Tallied) : Type 0 where
  pub inits_fit : mark.inits + tallied.up.inits < 2 ^ 32
  pub terms_fit : mark.terms + tallied.up.terms < 2 ^ 32
  pub clashes_fit : mark.clashes + tallied.up.clashes < 2 ^ 32
  pub inits_left : tallied.down.inits ≤ mark.inits + tallied.up.inits
  pub terms_left : tallied.down.terms ≤ mark.terms + tallied.up.terms
  pub clashes_left : tallied.down.clashes ≤ mark.clashes + tallied.up.clashes

-- the mark with what came and without what went
abbrev pub mark_tallied : {T : Type 0} → Mark T → Tallied → Mark T
mark_tallied mark tallied = record {
  at = mark.at;
  inits = mark.inits + tallied.up.inits - tallied.down.inits;
  terms = mark.terms + tallied.up.terms - tallied.down.terms;
  clashes = mark.clashes + tallied.up.clashes - tallied.down.clashes;
}
