-- What is taken leaves fewer tokens.
use Rattle.std.proofs.Common.{◌≡◌, ℕ, ◌<◌, List, length, map, arith}
use Rattle.std.proofs.lemmas.List.{length-map}
use Rattle.ec_terms.specs.declared.pattern.PatArg.{PatArg}
use Rattle.ec_terms.specs.declared.pattern.Pattern.{Pattern}
use Rattle.ec_theory.specs.declared.token.Token.{Token}
use Rattle.ec_theory.specs.Lexeme.{lexeme_of}
use Rattle.ec_theory.specs.declared.condition.Condition.{Condition}
use Rattle.ec_theory.specs.Sign.{Sign, sign_of}
use Rattle.ec_theory.specs.Grammar.{TakesArguments, last, more, TakesPattern, alone, applied, TakesCondition, current, not_current, test}

pub arguments_shorter : {names : List (List ℕ)} {signs : List Sign} {args : List PatArg} {rest : List Sign} → TakesArguments names signs args rest → length rest < length signs
arguments_shorter (last e) = omega arith
arguments_shorter (more e t) = omega (arith, arguments_shorter t)

pub pattern_shorter : {names : List (List ℕ)} {signs : List Sign} {p : Pattern} {rest : List Sign} → TakesPattern names signs p rest → length rest < length signs
pattern_shorter alone = omega arith
pattern_shorter (applied t) = omega (arith, arguments_shorter t)

pub condition_shorter : {names : List (List ℕ)} {signs : List Sign} {c : Condition} {rest : List Sign} → TakesCondition names signs c rest → length rest < length signs
condition_shorter (current t) = pattern_shorter t
condition_shorter (not_current t) = omega (arith, pattern_shorter t)
condition_shorter (test e f) = omega arith

-- the tokens are as many as their signs
pub signs_length : (tokens : List Token) → length (map sign_of (map lexeme_of tokens)) ≡ length tokens
signs_length tokens = omega (arith, length-map (map lexeme_of tokens) sign_of, length-map tokens lexeme_of)
