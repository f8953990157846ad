-- The text of a term as it grows, argument by argument.
use Rattle.std.proofs.Common.{◌≤◌, ◌≡◌, ℕ, ℤ, pos, negsuc, SFits, w64, ◌<◌, ◌+◌, true, List, [], ◌∷◌, ◌++◌, length, take, get_or, map, arith, refl, ap, sym, ◌∙◌, append_assoc, append-nil}
use Rattle.std.specs.List.{list_all, join_with_byte}
use Rattle.std.specs.Str.{IsAscii}
use Rattle.std.proofs.lemmas.List.{map-append, take_more}
use Rattle.ec_moment.specs.Number.{number_text}
use Rattle.ec_terms.specs.declared.limits.TheConstants.{MOST_ARGS}
use Rattle.ec_terms.specs.declared.ground.Arg.{Arg}
use Rattle.ec_terms.specs.declared.ground.Arg.TheVariants.{Int, Word}
use Rattle.ec_terms.specs.declared.ground.ArgRef.{ArgRef}
use Rattle.ec_terms.specs.Spelling.{is_name}
use Rattle.ec_terms.specs.Term.{arg_of, arg_text, args_text, term_text, is_argument, names_are_names}
use Rattle.std.proofs.lemmas.Bool.{and_from, and_parts}
use Rattle.std.proofs.lemmas.Int.{ints}
use Rattle.std.proofs.lemmas.List.Folds.{list_all-append}
use Rattle.ec_moment.specs.Number.{IsNumber}
use Rattle.ec_moment.proofs.NumberLemmas.{is_number-true}
use Rattle.ec_terms.specs.TextLaws.{has_size, IsTerm}
use Rattle.ec_terms.proofs.Names.{IsAscii-from_name_bytes, is_name-bytes}

-- the mark before the next argument: `(` before the first, `,` before the others
abbrev pub mark_before : List Arg → ℕ
mark_before [] = 40
mark_before (a ∷ args) = 44

-- the arguments so far behind their `(`, with no `)` yet
abbrev pub opened_text : List Arg → List ℕ
opened_text [] = []
opened_text (a ∷ args) = 40 ∷ join_with_byte 44 (map arg_text (a ∷ args))

-- one more part behind a separator
join-push : (c : ℕ) (x : List ℕ) (xs : List (List ℕ)) (y : List ℕ) → join_with_byte c ((x ∷ xs) ++ y ∷ []) ≡ join_with_byte c (x ∷ xs) ++ c ∷ y
join-push c x [] y = refl
join-push c x (z ∷ xs) y = ap (λ rest. x ++ c ∷ rest) (join-push c z xs y) ∙ sym (append_assoc x (c ∷ join_with_byte c (z ∷ xs)) (c ∷ y))

-- one more argument behind its mark
pub opened_text-push : (args : List Arg) (a : Arg) → opened_text (args ++ a ∷ []) ≡ (opened_text args ++ mark_before args ∷ []) ++ arg_text a
opened_text-push [] a = refl
opened_text-push (x ∷ args) a =
    ap (λ (texts : List (List ℕ)). 40 ∷ join_with_byte 44 (arg_text x ∷ texts)) (map-append arg_text args (a ∷ []))
    ∙ ap (λ ys. 40 ∷ ys) (join-push 44 (arg_text x) (map arg_text args) (arg_text a))
    ∙ sym (append_assoc (opened_text (x ∷ args)) (44 ∷ []) (arg_text a))

pub mark_before-push : (args : List Arg) (a : Arg) → mark_before (args ++ a ∷ []) ≡ 44
mark_before-push [] a = refl
mark_before-push (x ∷ args) a = refl

-- a text with no argument is complete, and one with arguments wants its `)`
pub args_text-none : (args : List Arg) → (mark_before args ≡ 44 → ⊥) → opened_text args ≡ args_text args
unfolding args_text
args_text-none [] h = refl
args_text-none (a ∷ args) h = absurd (h refl)

pub args_text-some : (args : List Arg) → mark_before args ≡ 44 → opened_text args ++ 41 ∷ [] ≡ args_text args
unfolding args_text
args_text-some [] h = absurd (omega arith)
args_text-some (a ∷ args) h = refl

-- the arguments so far, and one more
pub taken-push : (items : List ArgRef) (i : ℕ) (d : ArgRef) → i < length items →
    map arg_of (take (i + 1) items) ≡ map arg_of (take i items) ++ arg_of (get_or items i d) ∷ []
taken-push items i d within = ap (map arg_of) (take_more items i d within) ∙ map-append arg_of (take i items) (get_or items i d ∷ [])

-- the name and the arguments of a term
pub names-name : (name : List ℕ) (args : List Arg) → names_are_names (record { name = name; args = args }) ≡ true → is_name name ≡ true
unfolding names_are_names
names-name name args h = (and_parts _ _ h).0

pub names-args : (name : List ℕ) (args : List Arg) → names_are_names (record { name = name; args = args }) ≡ true → list_all is_argument args ≡ true
unfolding names_are_names
names-args name args h = (and_parts _ _ h).1

pub IsAscii-from_name : (bs : List ℕ) → is_name bs ≡ true → IsAscii bs
IsAscii-from_name bs h = IsAscii-from_name_bytes bs (is_name-bytes bs h)

-- a word that is an argument is a name
pub is_name-word : (w : List ℕ) → is_argument (Word w) ≡ true → is_name w ≡ true
unfolding is_argument
is_name-word w h = h

pub arg_text-int : (z : ℤ) → arg_text (Int z) ≡ number_text z
unfolding arg_text
arg_text-int z = refl

pub arg_text-word : (w : List ℕ) → arg_text (Word w) ≡ w
unfolding arg_text
arg_text-word w = refl

pub term_text-is : (name : List ℕ) (args : List Arg) → term_text (record { name = name; args = args }) ≡ name ++ args_text args
unfolding term_text
term_text-is name args = refl

-- ---- the writer's steps

pub text-first : (name before text : List ℕ) → before ≡ [] → text ≡ before ++ name → text ≡ name ++ []
text-first name before text none e = e ∙ ap (λ t. t ++ name) none ∙ sym (append-nil name)

pub text-more : (name text marked next : List ℕ) (mark : ℕ) (args more : List Arg) (a : Arg) → text ≡ name ++ opened_text args → mark ≡ mark_before args →
    marked ≡ text ++ mark ∷ [] → next ≡ marked ++ arg_text a → more ≡ args ++ a ∷ [] → next ≡ name ++ opened_text more
text-more name text marked next mark args more a so_far m e k l =
    k ∙ ap (λ t. t ++ arg_text a) (e ∙ ap (λ t. t ++ mark ∷ []) so_far ∙ ap (λ (b : ℕ). (name ++ opened_text args) ++ b ∷ []) m)
    ∙ ap (λ t. t ++ arg_text a) (append_assoc name (opened_text args) (mark_before args ∷ []))
    ∙ append_assoc name (opened_text args ++ mark_before args ∷ []) (arg_text a)
    ∙ ap (λ t. name ++ t) (sym (opened_text-push args a) ∙ ap opened_text (sym l))

pub mark-more : (args more : List Arg) (a : Arg) → more ≡ args ++ a ∷ [] → 44 ≡ mark_before more
mark-more args more a e = sym (ap mark_before e ∙ mark_before-push args a)

pub text-plain : (name text : List ℕ) (mark : ℕ) (args all : List Arg) → text ≡ name ++ opened_text args → mark ≡ mark_before args → args ≡ all →
    (mark ≡ 44 → ⊥) → text ≡ term_text (record { name = name; args = all })
text-plain name text mark args all so_far m whole none =
    so_far ∙ ap (λ t. name ++ t) (args_text-none args (λ e. none (m ∙ e)) ∙ ap args_text whole) ∙ sym (term_text-is name all)

pub text-closed : (name text closed : List ℕ) (mark : ℕ) (args all : List Arg) → text ≡ name ++ opened_text args → mark ≡ mark_before args → args ≡ all →
    mark ≡ 44 → closed ≡ text ++ 41 ∷ [] → closed ≡ term_text (record { name = name; args = all })
text-closed name text closed mark args all so_far m whole some e =
    e ∙ ap (λ t. t ++ 41 ∷ []) so_far ∙ append_assoc name (opened_text args) (41 ∷ [])
    ∙ ap (λ t. name ++ t) (args_text-some args (sym m ∙ some) ∙ ap args_text whole) ∙ sym (term_text-is name all)

-- each number so far, and one more
pub sizes-more : (args more : List Arg) (a : Arg) → more ≡ args ++ a ∷ [] → list_all has_size args ≡ true → has_size a ≡ true → list_all has_size more ≡ true
sizes-more args more a e h k = ap (list_all has_size) e ∙ list_all-append has_size args (a ∷ []) ∙ and_from _ _ h (and_from _ _ k refl)

pub has_size-word : (w : List ℕ) → has_size (Word w) ≡ true
unfolding has_size
has_size-word w = refl

pub has_size-int : (z : ℤ) → SFits w64 z → has_size (Int z) ≡ true
unfolding has_size
has_size-int z h = is_number-true z (IsNumber-from_fits z h)
  where
    IsNumber-from_fits : (z : ℤ) → SFits w64 z → IsNumber z
    IsNumber-from_fits (pos n) h = let small = h.sfits in grind (arith, ints)
    IsNumber-from_fits (negsuc n) h = let small = h.sfits in grind (arith, ints)

-- a term in hand
pub IsTerm-from : (name : List ℕ) (args : List Arg) → names_are_names (record { name = name; args = args }) ≡ true → length args ≤ MOST_ARGS → list_all has_size args ≡ true →
    IsTerm (record { name = name; args = args })
IsTerm-from name args h few k = record { names = h; few = few; sizes = k }
