-- The file of a theory: when it is taken, and what is said of it where it is not.
use Rattle.std.specs.Prelude.{◌≡◌, ◌≤◌, ℕ, ◌==◌, if◌then◌else◌, List, [], ◌∷◌, ◌++◌, length, Option, Some, None, codes, decimal}
use Rattle.ec_terms.specs.declared.theory.Theory.{Theory}
use Rattle.ec_theory.specs.declared.place.Place.{Place}
use Rattle.ec_theory.specs.declared.token_list.TheConstants.{MOST_BYTES}
use Rattle.ec_theory.specs.declared.token_fault.TokenFault.{TokenFault}
use Rattle.ec_theory.specs.declared.token_fault.TokenFault.TheVariants as token
use Rattle.ec_check.specs.declared.fault.Many.{Many}
use Rattle.ec_check.specs.declared.fault.Many.TheVariants as many
use Rattle.ec_check.specs.declared.fault.CheckFault.{CheckFault}
use Rattle.ec_check.specs.declared.fault.CheckFault.TheVariants as wrong
use Rattle.ec_theory.specs.declared.syntax_fault.SyntaxFault.{SyntaxFault}
use Rattle.ec_theory.specs.declared.syntax_fault.SyntaxFault.TheVariants as syntax_fault
use Rattle.ec_theory.specs.declared.text.Refused.{Refused}
use Rattle.ec_theory.specs.declared.text.Refused.TheVariants as refused
use Rattle.ec_theory.specs.Accepted.{IsAccepted, HasFault}
use Rattle.ec_outside.specs.Files.{Files, HasFile, IsTooLong}

-- the most bytes that the file of a theory has
abbrev pub most_theory_bytes : ℕ
most_theory_bytes = MOST_BYTES

-- ---- what is said of a text that is no theory

-- a line and a column
unfoldable pub place_text : Place → List ℕ
place_text place = decimal place.line ++ codes " " ++ decimal place.col

-- a fault at a place
unfoldable pub at_place : Place → List ℕ → List ℕ
at_place place name = place_text place ++ codes " " ++ name

-- a fault in a clause
unfoldable pub in_clause : ℕ → List ℕ → List ℕ
in_clause clause name = decimal clause ++ codes " " ++ name

-- a fault of the tokens; none if memory ran out
unfoldable pub token_text : TokenFault → Option (List ℕ)
token_text (token.BadByte place) = Some (at_place place (codes "byte"))
token_text (token.LongName place) = Some (at_place place (codes "long-name"))
token_text (token.BigNumber place) = Some (at_place place (codes "number"))
token_text token.Memory = None

-- a fault of the syntax; none if memory ran out
unfoldable pub syntax_text : SyntaxFault → Option (List ℕ)
syntax_text (syntax_fault.Syntax place) = Some (at_place place (codes "syntax"))
syntax_text syntax_fault.Memory = None

-- of what there is too much
unfoldable pub many_text : Many → List ℕ
many_text many.Rules = codes "many-rules"
many_text many.EventRules = codes "many-event-rules"
many_text many.Tests = codes "many-tests"
many_text many.Literals = codes "many-literals"
many_text many.Variables = codes "many-variables"
many_text many.Exclusives = codes "many-exclusives"
many_text many.Strongs = codes "many-strongs"
many_text many.Initials = codes "many-initials"
many_text many.Times = codes "many-times"

-- a fault of a clause
unfoldable pub wrong_text : CheckFault → List ℕ
wrong_text (wrong.Arity clause) = in_clause clause (codes "arity")
wrong_text (wrong.TooMany what clause) = in_clause clause (many_text what)
wrong_text (wrong.AnyInHead clause) = in_clause clause (codes "any")
wrong_text (wrong.Unbound clause v) = in_clause clause (codes "unbound")

-- what is said of bytes with a fault; none if memory ran out
unfoldable pub fault_text : Refused → Option (List ℕ)
fault_text (refused.Tokens fault) = token_text fault
fault_text (refused.Syntax fault) = syntax_text fault
fault_text (refused.Wrong fault) = Some (wrong_text fault)

-- the line about a theory
unfoldable pub theory_line : List ℕ → List ℕ
theory_line text = codes "theory " ++ text ++ 10 ∷ []

-- how many rules, exclusive and strong declarations a theory has
unfoldable pub counts_text : Theory → List ℕ
counts_text theory =
    codes "rules " ++ decimal (length theory.rules) ++ codes " exclusives " ++ decimal (length theory.exclusives) ++ codes " strongs " ++ decimal (length theory.strongs)

-- how many initial properties there are, told only where there are any
unfoldable pub initials_text : ℕ → List ℕ
initials_text n = if n == 0 then [] else codes " initials " ++ decimal n

-- the line about a theory that is accepted: how many rules and declarations it has
unfoldable pub accepted_line : Theory → List ℕ
accepted_line theory = codes "accepted " ++ counts_text theory ++ initials_text (length theory.initials) ++ 10 ∷ []

-- ---- files

-- the folder tells its files, and the file of that name is the text of the theory
pub record HasTheory (told : Option Files) (name : List ℕ) (theory : Theory) : Type 0 where
  pub bytes : List ℕ
  pub file : HasFile told name bytes
  pub fits : length bytes ≤ most_theory_bytes
  pub accepted : IsAccepted bytes theory

-- the folder tells its files, and the file of that name is too long for a theory, or its bytes have a fault; so this is said of it
pub data IsNoTheory (told : Option Files) (name : List ℕ) : List ℕ → Type 0 where
  too_long : IsTooLong told name most_theory_bytes → IsNoTheory told name (codes "too-long")
  faulty : (bytes text : List ℕ) (fault : Refused) → HasFile told name bytes → length bytes ≤ most_theory_bytes → HasFault bytes fault → fault_text fault ≡ Some text → IsNoTheory told name text
