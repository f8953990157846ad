-- When the bytes of a text are a theory, and what is said of them where they are none.
use Rattle.std.specs.Prelude.{◌≡◌, ℕ, List, Ok, Some}
use Rattle.ec_terms.specs.declared.theory.Theory.{Theory}
use Rattle.ec_theory.specs.Lexeme.{Lexemes}
use Rattle.ec_theory.specs.Tokens.{tokens_of, IsTokenFault}
use Rattle.ec_check.specs.Faults.{first_wrong}
use Rattle.ec_check.specs.WellFormed.{IsWellFormed}
use Rattle.ec_check.specs.declared.fault.CheckFault.{CheckFault}
use Rattle.ec_theory.specs.declared.syntax_fault.SyntaxFault.{SyntaxFault}
use Rattle.ec_theory.specs.declared.text.Refused.{Refused}
use Rattle.ec_theory.specs.declared.text.Refused.TheVariants as refused
use Rattle.ec_theory.specs.Reading.{Reads, IsSyntaxFault}

-- the bytes are cut into tokens that read as the theory, and it is well formed
pub record IsAccepted (bytes : List ℕ) (theory : Theory) : Type 0 where
  pub tokens : Lexemes
  pub cut : tokens_of bytes ≡ Ok tokens
  pub reads : Reads tokens theory
  pub well_formed : IsWellFormed theory

-- the bytes are cut into tokens, which have this fault of syntax
pub record IsUnreadable (bytes : List ℕ) (fault : SyntaxFault) : Type 0 where
  pub tokens : Lexemes
  pub cut : tokens_of bytes ≡ Ok tokens
  pub syntax : IsSyntaxFault fault tokens

-- the bytes read as a theory that has this fault
pub record IsWrong (bytes : List ℕ) (fault : CheckFault) : Type 0 where
  pub tokens : Lexemes
  pub theory : Theory
  pub cut : tokens_of bytes ≡ Ok tokens
  pub reads : Reads tokens theory
  pub wrong : first_wrong theory ≡ Some fault

-- the one fault of bytes that are no theory: that of their tokens, then that of syntax, then that of a clause
abbrev pub HasFault : List ℕ → Refused → Type 0
HasFault bytes (refused.Tokens fault) = IsTokenFault fault bytes
HasFault bytes (refused.Syntax fault) = IsUnreadable bytes fault
HasFault bytes (refused.Wrong fault) = IsWrong bytes fault
