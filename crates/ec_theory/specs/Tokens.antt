-- The tokens of a theory's text with their places, or the first fault that keeps the text from being cut into tokens.
use Rattle.std.specs.Prelude.{ℕ, ◌≡◌, ◌+◌, ◌-◌, suc, zero, Bool, ◌&&◌, ◌||◌, ◌==◌, not, nat_le, if◌then◌else◌, List, [], ◌∷◌, take, drop, Result, Ok, Err, is_some, slice_index}
use Rattle.std.specs.List.{prefix_len}
use Rattle.std.specs.Char.{is_ascii_digit}
use Rattle.ec_moment.specs.Number.{number_value}
use Rattle.ec_terms.specs.Spelling.{is_lower, is_upper, is_name_byte, longest_name}
use Rattle.ec_theory.specs.declared.place.Place.{Place}
use Rattle.ec_theory.specs.declared.token.TokenKind.{TokenKind}
use Rattle.ec_theory.specs.declared.token.TokenKind.TheVariants.{Name, Variable, Number, Mark}
use Rattle.ec_theory.specs.declared.token_fault.TokenFault.{TokenFault}
use Rattle.ec_theory.specs.declared.token_fault.TokenFault.TheVariants.{BadByte, LongName, BigNumber, Memory}
use Rattle.ec_theory.specs.declared.piece.Piece.{Piece}
use Rattle.ec_theory.specs.declared.piece.Piece.TheVariants as piece
use Rattle.ec_theory.specs.Lexeme.{Lexeme, Lexemes}

-- ---- places

-- the place of the first byte of a text
abbrev pub start : Place
start = record { line = 1; col = 1 }

-- the place behind a byte that stands at a place: a line feed begins the next line
abbrev pub place_behind_byte : Place → ℕ → Place
place_behind_byte place b = if b == 10 then record { line = place.line + 1; col = 1 } else record { line = place.line; col = place.col + 1 }

-- the place behind bytes that begin at a place
unfoldable pub place_behind : Place → List ℕ → Place
place_behind place [] = place
place_behind place (b ∷ bytes) = place_behind (place_behind_byte place b) bytes

-- ---- pieces

-- space, tab, carriage return and line feed
abbrev pub is_blank : ℕ → Bool
is_blank b = b == 32 || b == 9 || b == 13 || b == 10

-- a byte that is a mark by itself: _ ( ) , . / =
abbrev pub is_mark_byte : ℕ → Bool
is_mark_byte b = b == 95 || b == 40 || b == 41 || b == 44 || b == 46 || b == 47 || b == 61

-- the first byte of a text, or 0, with which nothing begins, where the text is empty
abbrev pub first_byte : List ℕ → ℕ
first_byte bytes = slice_index bytes 0

-- the name or variable at the front: its first letter, and the name bytes behind it. It must not be too long
unfoldable pub name_piece : TokenKind → List ℕ → Piece
name_piece kind behind =
    let n = 1 + prefix_len is_name_byte behind in
    if nat_le n longest_name then piece.Token kind n else piece.LongName

-- the number at the front: a digit or a minus, and the digits behind it. It must have a value
unfoldable pub number_piece : List ℕ → Piece
number_piece bytes =
    let n = 1 + prefix_len is_ascii_digit (drop 1 bytes) in
    if is_some (number_value (take n bytes)) then piece.Token Number n else piece.BigNumber

-- the mark that begins with a byte, behind which other bytes stand
unfoldable pub mark_piece : ℕ → List ℕ → Piece
mark_piece b behind =
    if is_mark_byte b then piece.Token Mark 1
    else (if b == 60 then piece.Token Mark (if first_byte behind == 61 then 2 else 1)
    else (if b == 33 && first_byte behind == 61 then piece.Token Mark 2
    else piece.BadByte))

-- the longest piece at the front of a text that is not empty: a blank, a comment up to the next line feed, a token, or a fault
unfoldable pub piece_of : List ℕ → Piece
piece_of bytes =
    let b = first_byte bytes in
    let behind = drop 1 bytes in
    if is_blank b then piece.Gap 1
    else (if b == 37 then piece.Gap (1 + prefix_len (λ c. not (c == 10)) behind)
    else (if is_lower b then name_piece Name behind
    else (if is_upper b then name_piece Variable behind
    else (if is_ascii_digit b || (b == 45 && is_ascii_digit (first_byte behind)) then number_piece bytes
    else mark_piece b behind))))

-- how many bytes a piece has
unfoldable pub piece_length : Piece → ℕ
piece_length (piece.Gap n) = n
piece_length (piece.Token kind n) = n
piece_length piece.BadByte = 1
piece_length piece.LongName = 1
piece_length piece.BigNumber = 1

-- ---- tokens

-- a token before the tokens behind it; a fault stays
unfoldable pub with_front : Lexeme → Result (List Lexeme) TokenFault → Result (List Lexeme) TokenFault
with_front lexeme (Ok lexemes) = Ok (lexeme ∷ lexemes)
with_front lexeme (Err fault) = Err fault

-- what a piece at a place at the front of a text gives, before what comes behind it
unfoldable pub with_piece : Piece → Place → List ℕ → Result (List Lexeme) TokenFault → Result (List Lexeme) TokenFault
with_piece (piece.Gap n) place bytes behind = behind
with_piece (piece.Token kind n) place bytes behind = with_front (record { kind = kind; text = take n bytes; place = place }) behind
with_piece piece.BadByte place bytes behind = Err (BadByte place)
with_piece piece.LongName place bytes behind = Err (LongName place)
with_piece piece.BigNumber place bytes behind = Err (BigNumber place)

-- The tokens of a text whose first byte is at a place, and whose first `within` bytes still belong to the piece
-- that was read last. At each other byte the longest piece is taken.
unfoldable pub tokens_from : ℕ → Place → List ℕ → Result (List Lexeme) TokenFault
tokens_from within place [] = Ok []
tokens_from (suc within) place (b ∷ bytes) = tokens_from within (place_behind_byte place b) bytes
tokens_from zero place (b ∷ bytes) =
    with_piece (piece_of (b ∷ bytes)) place (b ∷ bytes)
    (tokens_from (piece_length (piece_of (b ∷ bytes)) - 1) (place_behind_byte place b) bytes)

-- the tokens and the end of a text
unfoldable pub with_end : List ℕ → Result (List Lexeme) TokenFault → Result Lexemes TokenFault
with_end bytes (Ok lexemes) = Ok (record { tokens = lexemes; end = place_behind start bytes })
with_end bytes (Err fault) = Err fault

-- the tokens of a whole text and its end, or the first fault from the left
unfoldable pub tokens_of : List ℕ → Result Lexemes TokenFault
tokens_of bytes = with_end bytes (tokens_from 0 start bytes)

-- the answer that a text has no tokens, for this fault; want of memory says nothing of the text
abbrev pub IsTokenFault : TokenFault → List ℕ → Type 0
IsTokenFault Memory bytes = Unit {0}
IsTokenFault (BadByte place) bytes = tokens_of bytes ≡ Err (BadByte place)
IsTokenFault (LongName place) bytes = tokens_of bytes ≡ Err (LongName place)
IsTokenFault (BigNumber place) bytes = tokens_of bytes ≡ Err (BigNumber place)
