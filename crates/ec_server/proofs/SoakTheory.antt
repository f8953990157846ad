-- The text of the theory for generated lines is read as that theory.
use Rattle.std.proofs.Common.{◌≡◌, true, false, List, [], ◌∷◌, Result, Ok, Err, None, pos, refl}
use Rattle.std.specs.Prelude.{codes}
use Rattle.ec_terms.specs.declared.pattern.PatArg.TheVariants.{Var}
use Rattle.ec_terms.specs.declared.theory.Exclusive.{Exclusive}
use Rattle.ec_terms.specs.declared.theory.Kind.TheVariants.{Initiates, Terminates}
use Rattle.ec_terms.specs.declared.theory.Rule.{Rule}
use Rattle.ec_terms.specs.declared.theory.Strong.{Strong}
use Rattle.ec_terms.specs.declared.theory.Theory.{Theory}
use Rattle.ec_terms.specs.Spelling.{is_lower, is_upper, is_name_byte}
use Rattle.ec_moment.specs.Number.{number_value}
use Rattle.ec_axioms.specs.Examples.{lamp_rules, lit_second, literal, one_place, pattern, powered_second, push_lamp, rule as plain_rule, theory_b}
use Rattle.ec_theory.specs.declared.token_fault.TokenFault.{TokenFault}
use Rattle.ec_theory.specs.Lexeme.{Lexemes}
use Rattle.ec_theory.specs.Tokens.{mark_piece, name_piece, number_piece, piece_length, piece_of, place_behind, start, tokens_from, tokens_of, with_end, with_front, with_piece}
use Rattle.ec_check.specs.Faults.{each_open, earlier_fault, exclusive_fault, first_fault, first_from, first_wrong, has_few_variables, initial_fault, is_narrow_rule, is_unbound, least_unbound, rule_fault, rule_places, same_event, strong_fault, time_fault, variables_in}
use Rattle.ec_theory.specs.declared.clause.Clause.TheVariants as clause
use Rattle.ec_theory.specs.declared.condition.Condition.TheVariants as condition
use Rattle.ec_theory.specs.Accepted.{IsAccepted}
use Rattle.ec_theory.specs.Grammar.{applied, conditions, current, empty, exclusive, final, further, last, literals_of, more, no_more, not_current, one_more, rule, strong, tests_of, with_clause}
use Rattle.ec_theory.specs.Reading.{Reads}
use Rattle.ec_theory.specs.Sign.{argument_of, keyword_of, mark_sign, name_sign, sign_of, variables_from, with_sign, with_variable}
use Rattle.ec_theory.proofs.NumberedReadings.{reads_numbered}
use Rattle.ec_server.specs.Soaking.{soak_text}

-- the tokens of the text
abbrev lexemes_or : Result Lexemes TokenFault → Lexemes
lexemes_or (Ok lexemes) = lexemes
lexemes_or (Err fault) = record { tokens = []; end = start }

abbrev soak_lexemes : Lexemes
soak_lexemes = lexemes_or (tokens_of soak_text)

-- a theory without initial properties, whose times are whole numbers
abbrev of_clauses : List Rule → List Exclusive → List Strong → Theory
of_clauses rules exclusives strongs = record { rules = rules; exclusives = exclusives; strongs = strongs; initials = []; times = [] }

abbrev at_one_place : Exclusive
at_one_place = record { clause = 8; left = pattern (codes "at") (Var 0 ∷ Var 1 ∷ []); right = pattern (codes "at") (Var 0 ∷ Var 2 ∷ []) }

abbrev at_is_strong : Strong
at_is_strong = record { clause = 9; name = codes "at"; arity = pos 2 }

abbrev rule_1 : Rule
rule_1 = plain_rule 1 Initiates (push_lamp) (lit_second) (literal true powered_second ∷ literal false lit_second ∷ [])

abbrev rule_2 : Rule
rule_2 = plain_rule 2 Terminates (push_lamp) (lit_second) (literal true lit_second ∷ [])

abbrev rule_3 : Rule
rule_3 = plain_rule 3 Initiates (pattern (codes "plug") (Var 0 ∷ [])) (pattern (codes "powered") (Var 0 ∷ [])) ([])

abbrev rule_4 : Rule
rule_4 = plain_rule 4 Terminates (pattern (codes "unplug") (Var 0 ∷ [])) (pattern (codes "powered") (Var 0 ∷ [])) ([])

abbrev rule_5 : Rule
rule_5 = plain_rule 5 Terminates (pattern (codes "unplug") (Var 0 ∷ [])) (pattern (codes "lit") (Var 0 ∷ [])) ([])

abbrev rule_6 : Rule
rule_6 = plain_rule 6 Initiates (pattern (codes "move") (Var 0 ∷ Var 1 ∷ [])) (pattern (codes "at") (Var 0 ∷ Var 1 ∷ [])) ([])

abbrev rule_7 : Rule
rule_7 = plain_rule 7 Terminates (pattern (codes "leave") (Var 0 ∷ Var 1 ∷ [])) (pattern (codes "at") (Var 0 ∷ Var 1 ∷ [])) ([])

soak_reads : Reads soak_lexemes theory_b
unfolding soak_text tokens_of with_end tokens_from with_piece with_front piece_of name_piece number_piece mark_piece piece_length place_behind is_lower is_upper is_name_byte number_value sign_of name_sign mark_sign keyword_of variables_from with_sign with_variable argument_of tests_of literals_of with_clause theory_b lamp_rules one_place
soak_reads =
    one_more {c = clause.Rule rule_1} {theory = of_clauses (rule_2 ∷ rule_3 ∷ rule_4 ∷ rule_5 ∷ rule_6 ∷ rule_7 ∷ []) (at_one_place ∷ []) (at_is_strong ∷ [])} (rule {cs = (condition.Literal (literal true powered_second) ∷ condition.Literal (literal false lit_second) ∷ [])} refl (applied (more refl (last refl))) (applied (last refl)) (conditions (further (current (applied (last refl))) (final (not_current (applied (last refl)))))))
    (one_more {c = clause.Rule rule_2} {theory = of_clauses (rule_3 ∷ rule_4 ∷ rule_5 ∷ rule_6 ∷ rule_7 ∷ []) (at_one_place ∷ []) (at_is_strong ∷ [])} (rule {cs = (condition.Literal (literal true lit_second) ∷ [])} refl (applied (more refl (last refl))) (applied (last refl)) (conditions (final (current (applied (last refl))))))
    (one_more {c = clause.Rule rule_3} {theory = of_clauses (rule_4 ∷ rule_5 ∷ rule_6 ∷ rule_7 ∷ []) (at_one_place ∷ []) (at_is_strong ∷ [])} (rule {cs = []} refl (applied (last refl)) (applied (last refl)) empty)
    (one_more {c = clause.Rule rule_4} {theory = of_clauses (rule_5 ∷ rule_6 ∷ rule_7 ∷ []) (at_one_place ∷ []) (at_is_strong ∷ [])} (rule {cs = []} refl (applied (last refl)) (applied (last refl)) empty)
    (one_more {c = clause.Rule rule_5} {theory = of_clauses (rule_6 ∷ rule_7 ∷ []) (at_one_place ∷ []) (at_is_strong ∷ [])} (rule {cs = []} refl (applied (last refl)) (applied (last refl)) empty)
    (one_more {c = clause.Rule rule_6} {theory = of_clauses (rule_7 ∷ []) (at_one_place ∷ []) (at_is_strong ∷ [])} (rule {cs = []} refl (applied (more refl (last refl))) (applied (more refl (last refl))) empty)
    (one_more {c = clause.Rule rule_7} {theory = of_clauses ([]) (at_one_place ∷ []) (at_is_strong ∷ [])} (rule {cs = []} refl (applied (more refl (last refl))) (applied (more refl (last refl))) empty)
    (one_more {c = clause.Exclusive at_one_place} {theory = of_clauses [] [] (at_is_strong ∷ [])} (exclusive refl (applied (more refl (last refl))) (applied (more refl (last refl))))
    (one_more {c = clause.Strong at_is_strong} {theory = of_clauses [] [] []} (strong refl) no_more))))))))

no_fault : first_wrong theory_b ≡ None
unfolding first_wrong earlier_fault first_fault rule_fault exclusive_fault strong_fault initial_fault time_fault each_open is_narrow_rule same_event rule_places variables_in has_few_variables is_unbound first_from least_unbound theory_b lamp_rules one_place
no_fault = refl

cut : tokens_of soak_text ≡ Ok soak_lexemes
unfolding soak_text tokens_of with_end tokens_from with_piece with_front piece_of name_piece number_piece mark_piece piece_length place_behind is_lower is_upper is_name_byte number_value
cut = refl

-- the text is accepted
pub soak_accepted : IsAccepted soak_text theory_b
soak_accepted = record {
  tokens = soak_lexemes;
  cut = cut;
  reads = soak_reads;
  well_formed = record { numbered = reads_numbered soak_lexemes theory_b soak_reads; no_fault = no_fault };
}
