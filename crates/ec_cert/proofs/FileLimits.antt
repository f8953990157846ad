-- The limits on mentions and links, by the names that they have in an event file.
use Rattle.std.proofs.Common.{◌≡◌, ◌≤◌, ℤ, Bool, true, false, cond, List, [], length, refl, sym, ap, arith}
use Rattle.std.specs.Prelude.{nat_lt, Ok, Err, IsTrue, IsFalse}
use Rattle.ec_terms.specs.declared.theory.Theory.{Theory}
use Rattle.ec_axioms.specs.declared.event.Cut.{Cut}
use Rattle.ec_axioms.specs.declared.event.Cut.TheVariants.{FullMentions, FullLinks}
use Rattle.ec_axioms.specs.Calculus.{PlainEvent}
use Rattle.ec_axioms.specs.Changes.{has_id, is_history}
use Rattle.ec_axioms.specs.Links.{link_count, mentions_of, most_links, most_mentions}
use Rattle.ec_parts.specs.Adoption.{HasFewMentions}
use Rattle.ec_parts.specs.declared.tally.Tally.{Tally}
use Rattle.ec_parts.specs.StandFor.{StandForBoth, View}
use Rattle.ec_replies.specs.Updates.{with_few_mentions}
use Rattle.ec_batch.specs.ComingIn.{IsAhead}
use Rattle.ec_cert.specs.declared.event_fault.EventName.TheVariants as name
use Rattle.ec_cert.specs.EventFile.{few_mentions}
use Rattle.ec_cert.specs.Reading.{is_limit}

-- ---- the same limits

-- too many mentions
pub few_mentions-mentions : (theory : Theory) (events : List PlainEvent) → with_few_mentions theory events ≡ Err FullMentions → few_mentions theory events ≡ Err name.FullMentions
unfolding with_few_mentions few_mentions
few_mentions-mentions theory events is = by_tests (nat_lt most_mentions (length (mentions_of theory events))) (nat_lt most_links (link_count theory events)) is
  where
    by_tests : (many linked : Bool) → cond many (Err FullMentions) (cond linked (Err FullLinks) (Ok events)) ≡ Err FullMentions
        → cond many (Err name.FullMentions) (cond linked (Err name.FullLinks) (Ok events)) ≡ Err name.FullMentions
    by_tests true linked is = refl
    by_tests false true is = cc
    by_tests false false is = cc

-- too many links
pub few_mentions-links : (theory : Theory) (events : List PlainEvent) → with_few_mentions theory events ≡ Err FullLinks → few_mentions theory events ≡ Err name.FullLinks
unfolding with_few_mentions few_mentions
few_mentions-links theory events is = by_tests (nat_lt most_mentions (length (mentions_of theory events))) (nat_lt most_links (link_count theory events)) is
  where
    by_tests : (many linked : Bool) → cond many (Err FullMentions) (cond linked (Err FullLinks) (Ok events)) ≡ Err FullLinks
        → cond many (Err name.FullMentions) (cond linked (Err name.FullLinks) (Ok events)) ≡ Err name.FullLinks
    by_tests true linked is = cc
    by_tests false true is = refl
    by_tests false false is = cc

-- neither
pub few_mentions-ok : (theory : Theory) (events after : List PlainEvent) → with_few_mentions theory events ≡ Ok after → few_mentions theory events ≡ Ok events
unfolding with_few_mentions few_mentions
few_mentions-ok theory events after is = by_tests (nat_lt most_mentions (length (mentions_of theory events))) (nat_lt most_links (link_count theory events)) is
  where
    by_tests : (many linked : Bool) → cond many (Err FullMentions) (cond linked (Err FullLinks) (Ok events)) ≡ Ok after
        → cond many (Err name.FullMentions) (cond linked (Err name.FullLinks) (Ok events)) ≡ Ok events
    by_tests true linked is = cc
    by_tests false true is = cc
    by_tests false false is = refl

-- nothing else is refused so
pub refused-limit : (theory : Theory) (events : List PlainEvent) (cut : Cut) → with_few_mentions theory events ≡ Err cut → is_limit cut ≡ true
unfolding with_few_mentions
refused-limit theory events cut is = by_tests (nat_lt most_mentions (length (mentions_of theory events))) (nat_lt most_links (link_count theory events)) is
  where
    by_tests : (many linked : Bool) → cond many (Err FullMentions) (cond linked (Err FullLinks) (Ok events)) ≡ Err cut → is_limit cut ≡ true
    by_tests true linked is = let same : FullMentions ≡ cut = cc in ap is_limit (sym same)
    by_tests false true is = let same : FullLinks ≡ cut = cc in ap is_limit (sym same)
    by_tests false false is = cc

-- ---- tables

-- no event mentions anything
few_none : (theory : Theory) → HasFewMentions theory []
unfolding mentions_of
few_none theory = omega arith

-- tables of a history are ahead of the store of no event
pub ahead_of_none : {T : Type 0} {rank : T → ℤ} {theory : Theory} {event : PlainEvent} {view : View T} {tally : Tally} {events : List PlainEvent} → StandForBoth rank theory [] events view tally
    → length (mentions_of theory events) ≤ most_mentions → IsTrue (is_history events) → IsFalse (has_id event.id events) → IsAhead rank theory event view tally [] events
ahead_of_none {T} {rank} {theory} both few history absent = record { both = both; few_now = few_none theory; history = history; few = few; absent = absent }
