use Rattle.std.proofs.Common.{◌<◌, length, map, sym, subst, arith}
use Rattle.std.proofs.lemmas.Grind.{common_steps}
use Rattle.std.proofs.lemmas.List.{length-map}
use Rattle.ec_theory.specs.Lexeme.{Lexemes, lexeme_of, is_spelt}
use Rattle.ec_lists.proofs.Tests.{list_all-map_get_or}
use Rattle.ec_theory.proofs.token_list.TokenList.get.Goals as goal

pub returns-clause-spelling : goal.returns-clause-spelling
returns-clause-spelling c =
    let below : c.args.i < length (map lexeme_of c.self.inside.items.items) = subst (λ (l : Lexemes). c.args.i < length l.tokens) (sym c.self.view_is) c.requires in
    rw c.index.ensures (list_all-map_get_or is_spelt lexeme_of c.self.inside.items.items c.args.i c.index.result.now c.self.invariant.1
    (omega (arith, simp length-map at below)))

pub index-requires : goal.index-requires
index-requires c = grind (arith, common_steps)
