-- A declaration of two small patterns can be matched.
use Rattle.std.proofs.Common.{subst, sym}
use Rattle.std.specs.List.{All}
use Rattle.std.proofs.lemmas.List.Elements.{All-push}
use Rattle.ec_terms.specs.declared.theory.Exclusive.{Exclusive}
use Rattle.ec_terms.specs.Matchable.{IsMatchableExclusive}
use Rattle.ec_caches.proofs.exclusive.declare.Goals as goal

pub returns : goal.returns
returns c =
    let declaration : Exclusive = record { clause = 1; left = c.args.left; right = c.args.right } in
    record {
      rules = c.requires.theory.rules;
      exclusives = subst (All IsMatchableExclusive) (sym c.in_ok-push.ensures.ok)
          (All-push IsMatchableExclusive c.args.theory.now.exclusives declaration c.requires.theory.exclusives (record { left = c.requires.left; right = c.requires.right }));
      initials = c.requires.theory.initials;
    }
