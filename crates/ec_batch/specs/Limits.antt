-- The limits on a list of events.
use Rattle.std.specs.Prelude.{◌≤◌, List, length}
use Rattle.ec_terms.specs.declared.theory.Theory.{Theory}
use Rattle.ec_axioms.specs.Calculus.{PlainEvent}
use Rattle.ec_axioms.specs.Links.{link_count, mentions_of, most_events, most_links, most_mentions}

-- a list has no more events, mentions and links than there may be
pub record IsWithinLimits (theory : Theory) (events : List PlainEvent) : Type 0 where
  pub few_events : length events ≤ most_events
  pub few_mentions : length (mentions_of theory events) ≤ most_mentions
  pub few_links : link_count theory events ≤ most_links
