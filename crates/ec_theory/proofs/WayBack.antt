-- From every place within a clause some tokens lead back to a clause's beginning.
use Rattle.std.proofs.Common.{ℕ, List, [], ◌∷◌, refl}
use Rattle.std.specs.Prelude.{codes}
use Rattle.ec_moment.specs.Number.{number_value}
use Rattle.ec_terms.specs.Spelling.{is_lower, is_name_byte, begins_with, is_name}
use Rattle.ec_theory.specs.declared.token.TokenKind.{TokenKind}
use Rattle.ec_theory.specs.declared.token.TokenKind.TheVariants as kind
use Rattle.ec_theory.specs.Lexeme.{Lexeme, is_spelt, is_spelling}
use Rattle.ec_theory.specs.Sign.{sign_of, name_sign, mark_sign, time_kind_of}
use Rattle.ec_theory.specs.Walk.{Part, Event, Head, Left, Right, Condition, Initial, Spot, Beginning, PatternAt, AfterName, ArgumentAt, AfterArgument, AfterPattern, ConditionAt, AfterConditionName, CompareAt, RightSideAt, StrongNameAt, SlashAt, ArityAt, AfterArity, TimeKindAt, AfterTimeKind, LeadsBack, walk, moves, moves_behind, first_move}

-- a token, wherever it stands
abbrev token : TokenKind → List ℕ → Lexeme
token kind text = record { kind = kind; text = text; place = record { line = 1; col = 1 } }

abbrev name : Lexeme
name = token kind.Name (codes "a")

abbrev zero_number : Lexeme
zero_number = token kind.Number (codes "0")

abbrev time_kind : Lexeme
time_kind = token kind.Name (codes "civil")

abbrev mark : List ℕ → Lexeme
mark text = token kind.Mark text

-- from behind a pattern
behind_back : (part : Part) → LeadsBack (AfterPattern part)
unfolding walk moves moves_behind first_move sign_of name_sign mark_sign is_spelt is_spelling is_name begins_with is_lower is_name_byte
behind_back Event = record { tokens = name ∷ mark (codes ".") ∷ []; spelt = refl; back = refl }
behind_back Head = record { tokens = mark (codes ".") ∷ []; spelt = refl; back = refl }
behind_back Left = record { tokens = name ∷ mark (codes ".") ∷ []; spelt = refl; back = refl }
behind_back Right = record { tokens = mark (codes ".") ∷ []; spelt = refl; back = refl }
behind_back Condition = record { tokens = mark (codes ".") ∷ []; spelt = refl; back = refl }
behind_back Initial = record { tokens = mark (codes ".") ∷ []; spelt = refl; back = refl }

name_back : (part : Part) → LeadsBack (AfterName part)
unfolding walk moves moves_behind first_move sign_of name_sign mark_sign is_spelt is_spelling is_name begins_with is_lower is_name_byte
name_back Event = record { tokens = name ∷ mark (codes ".") ∷ []; spelt = refl; back = refl }
name_back Head = record { tokens = mark (codes ".") ∷ []; spelt = refl; back = refl }
name_back Left = record { tokens = name ∷ mark (codes ".") ∷ []; spelt = refl; back = refl }
name_back Right = record { tokens = mark (codes ".") ∷ []; spelt = refl; back = refl }
name_back Condition = record { tokens = mark (codes ".") ∷ []; spelt = refl; back = refl }
name_back Initial = record { tokens = mark (codes ".") ∷ []; spelt = refl; back = refl }

pub way_back : (spot : Spot) → LeadsBack spot
unfolding walk moves moves_behind first_move sign_of name_sign mark_sign is_spelt is_spelling is_name begins_with is_lower is_name_byte number_value time_kind_of
way_back Beginning = record { tokens = []; spelt = refl; back = refl }
way_back (PatternAt part) = let b = name_back part in record { tokens = name ∷ b.tokens; spelt = b.spelt; back = b.back }
way_back (AfterName part) = name_back part
way_back (ArgumentAt part) = let b = behind_back part in record { tokens = name ∷ mark (codes ")") ∷ b.tokens; spelt = b.spelt; back = b.back }
way_back (AfterArgument part) = let b = behind_back part in record { tokens = mark (codes ")") ∷ b.tokens; spelt = b.spelt; back = b.back }
way_back (AfterPattern part) = behind_back part
way_back ConditionAt = record { tokens = name ∷ mark (codes ".") ∷ []; spelt = refl; back = refl }
way_back AfterConditionName = record { tokens = mark (codes ".") ∷ []; spelt = refl; back = refl }
way_back CompareAt = record { tokens = mark (codes "=") ∷ name ∷ mark (codes ".") ∷ []; spelt = refl; back = refl }
way_back RightSideAt = record { tokens = name ∷ mark (codes ".") ∷ []; spelt = refl; back = refl }
way_back StrongNameAt = record { tokens = name ∷ mark (codes "/") ∷ zero_number ∷ mark (codes ".") ∷ []; spelt = refl; back = refl }
way_back SlashAt = record { tokens = mark (codes "/") ∷ zero_number ∷ mark (codes ".") ∷ []; spelt = refl; back = refl }
way_back ArityAt = record { tokens = zero_number ∷ mark (codes ".") ∷ []; spelt = refl; back = refl }
way_back AfterArity = record { tokens = mark (codes ".") ∷ []; spelt = refl; back = refl }
way_back TimeKindAt = record { tokens = time_kind ∷ mark (codes ".") ∷ []; spelt = refl; back = refl }
way_back AfterTimeKind = record { tokens = mark (codes ".") ∷ []; spelt = refl; back = refl }
