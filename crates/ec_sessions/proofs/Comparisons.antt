-- The text of pairs, by whether a reply lists so many.
use Rattle.std.proofs.Common.{◌≡◌, ◌<◌, ◌≤◌, true, false, length, List, map, refl, arith}
use Rattle.std.specs.Prelude.{nat_lt}
use Rattle.ec_terms.specs.declared.ground.Ground.{Ground}
use Rattle.ec_terms.specs.declared.theory.Theory.{Theory}
use Rattle.ec_axioms.specs.Calculus.{PlainEvent}
use Rattle.ec_commands.specs.Answers.{answer_text, refused_full_pairs}
use Rattle.ec_commands.specs.QueryTexts.{Canon, counted_text, pair_text, pairs_reply}
use Rattle.ec_commands.specs.Relations.{pairs_of}
use Rattle.ec_commands.specs.declared.limits.TheConstants.{MOST_PAIRS}
use Rattle.ec_commands.specs.declared.relation.Relation.{Relation}

module _ (theory : Theory) (events : List PlainEvent) (canon : Canon) (p : Ground) (r : Relation) (q : Ground) where
  -- few pairs are listed
  pub pairs_reply-few : length (pairs_of theory events p r q) ≤ MOST_PAIRS → counted_text (map (pair_text canon) (pairs_of theory events p r q)) ≡ pairs_reply theory events canon p r q
  unfolding pairs_reply
  pairs_reply-few few = rw (not_before few) refl
    where
      not_before : length (pairs_of theory events p r q) ≤ MOST_PAIRS → nat_lt MOST_PAIRS (length (pairs_of theory events p r q)) ≡ false
      not_before within = grind arith

  -- and more are refused
  pub pairs_reply-many : MOST_PAIRS < length (pairs_of theory events p r q) → answer_text refused_full_pairs ≡ pairs_reply theory events canon p r q
  unfolding pairs_reply
  pairs_reply-many many = rw (before many) refl
    where
      before : MOST_PAIRS < length (pairs_of theory events p r q) → nat_lt MOST_PAIRS (length (pairs_of theory events p r q)) ≡ true
      before over = grind arith
