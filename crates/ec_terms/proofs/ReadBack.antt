-- The canonical text of a term, read from the front.
use Rattle.std.proofs.Common.{◌≡◌, ℕ, ◌<◌, ◌≤◌, ◌+◌, ◌⊎◌, true, false, ◌==◌, List, [], ◌∷◌, ◌++◌, length, drop, map, cond, arith, refl, ap, sym, ◌∙◌, inl, inr, append_assoc, append-nil, length-append, eq-eqb, Option, Some, None, option_map, option_and_then}
use Rattle.std.specs.List.{list_all, join_with_byte}
use Rattle.std.specs.Option.{unwrap_or}
use Rattle.std.proofs.Math.Seq.{drop-append_seam}
use Rattle.std.proofs.lemmas.Bool.{cond-true, or_parts, and_parts}
use Rattle.ec_moment.specs.Number.{number_text}
use Rattle.ec_moment.proofs.NumberLemmas.{number_value-number_text, IsNumber-from_true}
use Rattle.ec_terms.specs.declared.limits.TheConstants.{MOST_ARGS}
use Rattle.ec_terms.specs.declared.ground.Arg.{Arg}
use Rattle.ec_terms.specs.declared.ground.Arg.TheVariants.{Int, Word}
use Rattle.ec_terms.specs.declared.ground.Ground.{Ground}
use Rattle.ec_terms.specs.Spelling.{is_name_byte, is_lower, is_upper, begins_with, is_name, name_run}
use Rattle.ec_terms.specs.Term.{arg_text, args_text, term_text, arg_value, is_argument, term_front, term_value}
use Rattle.ec_terms.specs.Front.{name_front, args_front}
use Rattle.ec_terms.specs.TextLaws.{has_size, goes_on, IsReadInFront, IsReadBack, IsTextFaithful}
use Rattle.ec_terms.proofs.Names.{is_name-bytes}
use Rattle.ec_terms.proofs.Runs.{take_while-append}
use Rattle.ec_terms.proofs.Arguments.{is_plain, plain_arg_run, arg_run-all, arg_value-no_letter, begins_lower-number, is_digit_run-from_value}
use Rattle.ec_terms.proofs.Pieces.{args_from, args_from-front, args_from-comma, args_from-close}
use Rattle.ec_terms.proofs.Terms.{with_args, term_front-plain, term_front-args}
use Rattle.ec_terms.proofs.Texts.{names-name, names-args}

arg_value-word : (w : List ℕ) → is_name w ≡ true → arg_value w ≡ Some (Word w)
unfolding arg_value
arg_value-word w h = cond-true _ _ _ h

-- the text of an argument spells it
pub arg_value-arg_text : (a : Arg) → is_argument a ≡ true → has_size a ≡ true → arg_value (arg_text a) ≡ Some a
unfolding is_argument has_size arg_text
arg_value-arg_text (Word w) h k = arg_value-word w h
arg_value-arg_text (Int z) h k =
    let e = number_value-number_text z (IsNumber-from_true z k) in
    arg_value-no_letter (number_text z) (begins_lower-number (number_text z) (is_digit_run-from_value (number_text z) z e)) ∙ ap (option_map Int) e

-- and holds no `,` and no `)`
pub plain-arg_text : (a : Arg) → is_argument a ≡ true → has_size a ≡ true → list_all is_plain (arg_text a) ≡ true
plain-arg_text a h k =
    let run = arg_run-all (arg_text a) a (arg_value-arg_text a h k) in
    ap (list_all is_plain) (sym run) ∙ plain_arg_run (arg_text a)

-- the arguments between the parentheses are read back
pub args_from-text : (before : List Arg) (at : ℕ) (a : Arg) (args : List Arg) (rest : List ℕ) →
    list_all is_argument (a ∷ args) ≡ true → list_all has_size (a ∷ args) ≡ true → length before + length (a ∷ args) ≤ MOST_ARGS →
    args_from before at (join_with_byte 44 (map arg_text (a ∷ args)) ++ 41 ∷ rest)
    ≡ Some (before ++ a ∷ args, at + length (join_with_byte 44 (map arg_text (a ∷ args))) + 1)
args_from-text before at a [] rest h k few =
    args_from-close before at (arg_text a) rest a (plain-arg_text a (and_parts _ _ h).0 (and_parts _ _ k).0) (arg_value-arg_text a (and_parts _ _ h).0 (and_parts _ _ k).0) (omega arith)
args_from-text before at a (b ∷ args) rest h k few =
    let joined : List ℕ = join_with_byte 44 (map arg_text (b ∷ args)) in
    let count : length (before ++ a ∷ []) + length (b ∷ args) ≤ MOST_ARGS = omega (arith, length-append before (a ∷ [])) in
    let len : at + length (arg_text a) + 1 + length joined + 1 ≡ at + length (arg_text a ++ 44 ∷ joined) + 1 = omega (arith, length-append (arg_text a) (44 ∷ joined)) in
    ap (args_from before at) (append_assoc (arg_text a) (44 ∷ joined) (41 ∷ rest))
    ∙ args_from-comma before at (arg_text a) (joined ++ 41 ∷ rest) a (plain-arg_text a (and_parts _ _ h).0 (and_parts _ _ k).0) (arg_value-arg_text a (and_parts _ _ h).0 (and_parts _ _ k).0)
    ∙ args_from-text (before ++ a ∷ []) (at + length (arg_text a) + 1) b args rest (and_parts _ _ h).1 (and_parts _ _ k).1 count
    ∙ ap (λ (xs : List Arg). Some (xs, at + length (arg_text a) + 1 + length joined + 1)) (append_assoc before (a ∷ []) (b ∷ args))
    ∙ ap (λ (n : ℕ). Some (before ++ a ∷ b ∷ args, n)) len

-- a name with another byte behind it is read back
pub name_front-append : (name tail : List ℕ) → is_name name ≡ true → begins_with is_name_byte tail ≡ false → name_front (name ++ tail) ≡ Some (name, length name)
unfolding name_front name_run
name_front-append name tail h e =
    let run : name_run (name ++ tail) ≡ name = take_while-append is_name_byte name tail (is_name-bytes name h) e in
    ap (λ (x : List ℕ). cond {A = Option (List ℕ × ℕ)} (is_name x) (Some (x, length x)) None) run ∙ cond-true (is_name name) _ _ h

open_no_name_byte : (tail : List ℕ) → begins_with is_name_byte (40 ∷ tail) ≡ false
unfolding begins_with is_name_byte is_lower is_upper
open_no_name_byte tail = refl

begins_open : (tail : List ℕ) → begins_with (λ b. b == 40) (40 ∷ tail) ≡ true
unfolding begins_with
begins_open tail = refl

-- a term with no arguments
plain_back : (name rest : List ℕ) → is_name name ≡ true → goes_on rest ≡ false → term_front (name ++ rest) ≡ Some (record { name = name; args = [] }, length name)
plain_back name rest h stops =
    let parts = or_parts (begins_with is_name_byte rest) (begins_with (λ b. b == 40) rest) stops in
    term_front-plain (name ++ rest) name (length name) (name_front-append name rest h parts.0)
    (ap (begins_with (λ b. b == 40)) (drop-append_seam name rest) ∙ parts.1)

-- a term with arguments
args_back : (name : List ℕ) (a : Arg) (args : List Arg) (rest : List ℕ) → is_name name ≡ true →
    list_all is_argument (a ∷ args) ≡ true → list_all has_size (a ∷ args) ≡ true → length (a ∷ args) ≤ MOST_ARGS →
    term_front (name ++ (40 ∷ (join_with_byte 44 (map arg_text (a ∷ args)) ++ 41 ∷ rest)))
    ≡ Some (record { name = name; args = a ∷ args }, length name + 1 + (0 + length (join_with_byte 44 (map arg_text (a ∷ args))) + 1))
args_back name a args rest h k l few =
    let tail : List ℕ = join_with_byte 44 (map arg_text (a ∷ args)) ++ 41 ∷ rest in
    term_front-args (name ++ 40 ∷ tail) name (length name) (name_front-append name (40 ∷ tail) h (open_no_name_byte tail))
    (ap (begins_with (λ b. b == 40)) (drop-append_seam name (40 ∷ tail)) ∙ begins_open tail)
    ∙ ap (λ xs. with_args name (length name) (args_front (drop 1 xs))) (drop-append_seam name (40 ∷ tail))
    ∙ ap (with_args name (length name)) (args_from-front tail ∙ args_from-text [] 0 a args rest k l (omega arith))

-- the text of a term with what stands behind it
front_of : (name : List ℕ) (args : List Arg) (rest : List ℕ) → is_name name ≡ true →
    list_all is_argument args ≡ true → list_all has_size args ≡ true → length args ≤ MOST_ARGS → (0 < length args) ⊎ (goes_on rest ≡ false) →
    term_front ((name ++ args_text args) ++ rest) ≡ Some (record { name = name; args = args }, length (name ++ args_text args))
unfolding args_text
front_of name [] rest h k l few (inl some) = absurd (omega arith)
front_of name [] rest h k l few (inr stops) =
    ap (λ t. term_front (t ++ rest)) (append-nil name) ∙ plain_back name rest h stops
    ∙ ap (λ (t : List ℕ). Some (record { name = name; args = [] }, length t)) (sym (append-nil name))
front_of name (a ∷ args) rest h k l few more =
    let joined : List ℕ = join_with_byte 44 (map arg_text (a ∷ args)) in
    let len : length name + 1 + (0 + length joined + 1) ≡ length (name ++ ((40 ∷ joined) ++ 41 ∷ [])) =
    omega (arith, length-append name ((40 ∷ joined) ++ 41 ∷ []), length-append (40 ∷ joined) (41 ∷ [])) in
    ap term_front (append_assoc name ((40 ∷ joined) ++ 41 ∷ []) rest ∙ ap (λ t. name ++ t) (append_assoc (40 ∷ joined) (41 ∷ []) rest))
    ∙ args_back name a args rest h k l few
    ∙ ap (λ (n : ℕ). Some (record { name = name; args = a ∷ args }, n)) len

pub read_in_front : IsReadInFront
unfolding term_text
read_in_front g rest t more = front_of g.name g.args rest (names-name g.name g.args t.names) (names-args g.name g.args t.names) t.sizes t.few more

no_more : goes_on [] ≡ false
unfolding begins_with
no_more = refl

pub read_back : IsReadBack
unfolding term_value
read_back g t =
    let front = ap term_front (sym (append-nil (term_text g))) ∙ read_in_front g [] t (inr no_more) in
    ap (option_and_then (λ found. cond {A = Option Ground} (found.1 == length (term_text g)) (Some found.0) None)) front
    ∙ cond-true _ _ _ (eq-eqb (length (term_text g)) (length (term_text g)) refl)

pub text_faithful : IsTextFaithful
text_faithful g h t u e =
    let same : Some g ≡ Some h = sym (read_back g t) ∙ ap term_value e ∙ read_back h u in
    ap (λ (o : Option Ground). unwrap_or o g) same
