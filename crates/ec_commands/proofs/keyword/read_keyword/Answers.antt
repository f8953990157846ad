-- The keyword that a word spells, where it is none of those before it.
use Rattle.std.proofs.Common.{◌≡◌, ℕ, true, false, List, [], ◌∷◌, Option, Some, None, sym, refl, ◌∙◌}
use Rattle.std.specs.Prelude.{option_map, bytes_eq, find}
use Rattle.ec_commands.specs.declared.keyword.Keyword.{Keyword}
use Rattle.ec_commands.specs.Commands.{keyword_of, keywords}
use Rattle.ec_commands.proofs.keyword.read_keyword.Goals as goal

-- the keyword that a word spells among these
keyword_in : List (List ℕ × Keyword) → List ℕ → Option Keyword
keyword_in known word = option_map (λ (spelt : List ℕ × Keyword). spelt.1) (find (λ (spelt : List ℕ × Keyword). bytes_eq spelt.0 word) known)

among_all : (word : List ℕ) → keyword_of word ≡ keyword_in keywords word
unfolding keyword_of keyword_in
among_all word = refl

passed : (spelling : List ℕ) (keyword : Keyword) (known : List (List ℕ × Keyword)) (word : List ℕ) → bytes_eq spelling word ≡ false → keyword_in ((spelling, keyword) ∷ known) word ≡ keyword_in known word
unfolding keyword_in
passed spelling keyword known word other = rw other refl

found : (spelling : List ℕ) (keyword : Keyword) (known : List (List ℕ × Keyword)) (word : List ℕ) → bytes_eq spelling word ≡ true → keyword_in ((spelling, keyword) ∷ known) word ≡ Some keyword
unfolding keyword_in
found spelling keyword known word same = rw same refl

none_left : (word : List ℕ) → keyword_in [] word ≡ None
unfolding keyword_in
none_left word = refl

pub returns-then-is-5 : goal.returns-then-is-5
unfolding keywords
returns-then-is-5 c =
    sym (
    among_all _
    ∙ passed _ _ _ _ (sym (c.if-is.ensures {u = tt}))
    ∙ passed _ _ _ _ (sym (c.if-is-2.ensures {u = tt}))
    ∙ passed _ _ _ _ (sym (c.if-is-3.ensures {u = tt}))
    ∙ passed _ _ _ _ (sym (c.if-is-4.ensures {u = tt}))
    ∙ found _ _ _ _ (sym (c.if-is-5.ensures {u = tt}))
    )

pub returns-then-is-6 : goal.returns-then-is-6
unfolding keywords
returns-then-is-6 c =
    sym (
    among_all _
    ∙ passed _ _ _ _ (sym (c.if-is.ensures {u = tt}))
    ∙ passed _ _ _ _ (sym (c.if-is-2.ensures {u = tt}))
    ∙ passed _ _ _ _ (sym (c.if-is-3.ensures {u = tt}))
    ∙ passed _ _ _ _ (sym (c.if-is-4.ensures {u = tt}))
    ∙ passed _ _ _ _ (sym (c.if-is-5.ensures {u = tt}))
    ∙ found _ _ _ _ (sym (c.if-is-6.ensures {u = tt}))
    )

pub returns-then-is-7 : goal.returns-then-is-7
unfolding keywords
returns-then-is-7 c =
    sym (
    among_all _
    ∙ passed _ _ _ _ (sym (c.if-is.ensures {u = tt}))
    ∙ passed _ _ _ _ (sym (c.if-is-2.ensures {u = tt}))
    ∙ passed _ _ _ _ (sym (c.if-is-3.ensures {u = tt}))
    ∙ passed _ _ _ _ (sym (c.if-is-4.ensures {u = tt}))
    ∙ passed _ _ _ _ (sym (c.if-is-5.ensures {u = tt}))
    ∙ passed _ _ _ _ (sym (c.if-is-6.ensures {u = tt}))
    ∙ found _ _ _ _ (sym (c.if-is-7.ensures {u = tt}))
    )

pub returns-then-is-8 : goal.returns-then-is-8
unfolding keywords
returns-then-is-8 c =
    sym (
    among_all _
    ∙ passed _ _ _ _ (sym (c.if-is.ensures {u = tt}))
    ∙ passed _ _ _ _ (sym (c.if-is-2.ensures {u = tt}))
    ∙ passed _ _ _ _ (sym (c.if-is-3.ensures {u = tt}))
    ∙ passed _ _ _ _ (sym (c.if-is-4.ensures {u = tt}))
    ∙ passed _ _ _ _ (sym (c.if-is-5.ensures {u = tt}))
    ∙ passed _ _ _ _ (sym (c.if-is-6.ensures {u = tt}))
    ∙ passed _ _ _ _ (sym (c.if-is-7.ensures {u = tt}))
    ∙ found _ _ _ _ (sym (c.if-is-8.ensures {u = tt}))
    )

pub returns-then-is-9 : goal.returns-then-is-9
unfolding keywords
returns-then-is-9 c =
    sym (
    among_all _
    ∙ passed _ _ _ _ (sym (c.if-is.ensures {u = tt}))
    ∙ passed _ _ _ _ (sym (c.if-is-2.ensures {u = tt}))
    ∙ passed _ _ _ _ (sym (c.if-is-3.ensures {u = tt}))
    ∙ passed _ _ _ _ (sym (c.if-is-4.ensures {u = tt}))
    ∙ passed _ _ _ _ (sym (c.if-is-5.ensures {u = tt}))
    ∙ passed _ _ _ _ (sym (c.if-is-6.ensures {u = tt}))
    ∙ passed _ _ _ _ (sym (c.if-is-7.ensures {u = tt}))
    ∙ passed _ _ _ _ (sym (c.if-is-8.ensures {u = tt}))
    ∙ found _ _ _ _ (sym (c.if-is-9.ensures {u = tt}))
    )

pub returns-then-is-10 : goal.returns-then-is-10
unfolding keywords
returns-then-is-10 c =
    sym (
    among_all _
    ∙ passed _ _ _ _ (sym (c.if-is.ensures {u = tt}))
    ∙ passed _ _ _ _ (sym (c.if-is-2.ensures {u = tt}))
    ∙ passed _ _ _ _ (sym (c.if-is-3.ensures {u = tt}))
    ∙ passed _ _ _ _ (sym (c.if-is-4.ensures {u = tt}))
    ∙ passed _ _ _ _ (sym (c.if-is-5.ensures {u = tt}))
    ∙ passed _ _ _ _ (sym (c.if-is-6.ensures {u = tt}))
    ∙ passed _ _ _ _ (sym (c.if-is-7.ensures {u = tt}))
    ∙ passed _ _ _ _ (sym (c.if-is-8.ensures {u = tt}))
    ∙ passed _ _ _ _ (sym (c.if-is-9.ensures {u = tt}))
    ∙ found _ _ _ _ (sym (c.if-is-10.ensures {u = tt}))
    )

pub returns-then-is-11 : goal.returns-then-is-11
unfolding keywords
returns-then-is-11 c =
    sym (
    among_all _
    ∙ passed _ _ _ _ (sym (c.if-is.ensures {u = tt}))
    ∙ passed _ _ _ _ (sym (c.if-is-2.ensures {u = tt}))
    ∙ passed _ _ _ _ (sym (c.if-is-3.ensures {u = tt}))
    ∙ passed _ _ _ _ (sym (c.if-is-4.ensures {u = tt}))
    ∙ passed _ _ _ _ (sym (c.if-is-5.ensures {u = tt}))
    ∙ passed _ _ _ _ (sym (c.if-is-6.ensures {u = tt}))
    ∙ passed _ _ _ _ (sym (c.if-is-7.ensures {u = tt}))
    ∙ passed _ _ _ _ (sym (c.if-is-8.ensures {u = tt}))
    ∙ passed _ _ _ _ (sym (c.if-is-9.ensures {u = tt}))
    ∙ passed _ _ _ _ (sym (c.if-is-10.ensures {u = tt}))
    ∙ found _ _ _ _ (sym (c.if-is-11.ensures {u = tt}))
    )

pub returns-then-is-12 : goal.returns-then-is-12
unfolding keywords
returns-then-is-12 c =
    sym (
    among_all _
    ∙ passed _ _ _ _ (sym (c.if-is.ensures {u = tt}))
    ∙ passed _ _ _ _ (sym (c.if-is-2.ensures {u = tt}))
    ∙ passed _ _ _ _ (sym (c.if-is-3.ensures {u = tt}))
    ∙ passed _ _ _ _ (sym (c.if-is-4.ensures {u = tt}))
    ∙ passed _ _ _ _ (sym (c.if-is-5.ensures {u = tt}))
    ∙ passed _ _ _ _ (sym (c.if-is-6.ensures {u = tt}))
    ∙ passed _ _ _ _ (sym (c.if-is-7.ensures {u = tt}))
    ∙ passed _ _ _ _ (sym (c.if-is-8.ensures {u = tt}))
    ∙ passed _ _ _ _ (sym (c.if-is-9.ensures {u = tt}))
    ∙ passed _ _ _ _ (sym (c.if-is-10.ensures {u = tt}))
    ∙ passed _ _ _ _ (sym (c.if-is-11.ensures {u = tt}))
    ∙ found _ _ _ _ (sym (c.if-is-12.ensures {u = tt}))
    )

pub returns-then-is-13 : goal.returns-then-is-13
unfolding keywords
returns-then-is-13 c =
    sym (
    among_all _
    ∙ passed _ _ _ _ (sym (c.if-is.ensures {u = tt}))
    ∙ passed _ _ _ _ (sym (c.if-is-2.ensures {u = tt}))
    ∙ passed _ _ _ _ (sym (c.if-is-3.ensures {u = tt}))
    ∙ passed _ _ _ _ (sym (c.if-is-4.ensures {u = tt}))
    ∙ passed _ _ _ _ (sym (c.if-is-5.ensures {u = tt}))
    ∙ passed _ _ _ _ (sym (c.if-is-6.ensures {u = tt}))
    ∙ passed _ _ _ _ (sym (c.if-is-7.ensures {u = tt}))
    ∙ passed _ _ _ _ (sym (c.if-is-8.ensures {u = tt}))
    ∙ passed _ _ _ _ (sym (c.if-is-9.ensures {u = tt}))
    ∙ passed _ _ _ _ (sym (c.if-is-10.ensures {u = tt}))
    ∙ passed _ _ _ _ (sym (c.if-is-11.ensures {u = tt}))
    ∙ passed _ _ _ _ (sym (c.if-is-12.ensures {u = tt}))
    ∙ found _ _ _ _ (sym (c.if-is-13.ensures {u = tt}))
    )

pub returns-then-is-14 : goal.returns-then-is-14
unfolding keywords
returns-then-is-14 c =
    sym (
    among_all _
    ∙ passed _ _ _ _ (sym (c.if-is.ensures {u = tt}))
    ∙ passed _ _ _ _ (sym (c.if-is-2.ensures {u = tt}))
    ∙ passed _ _ _ _ (sym (c.if-is-3.ensures {u = tt}))
    ∙ passed _ _ _ _ (sym (c.if-is-4.ensures {u = tt}))
    ∙ passed _ _ _ _ (sym (c.if-is-5.ensures {u = tt}))
    ∙ passed _ _ _ _ (sym (c.if-is-6.ensures {u = tt}))
    ∙ passed _ _ _ _ (sym (c.if-is-7.ensures {u = tt}))
    ∙ passed _ _ _ _ (sym (c.if-is-8.ensures {u = tt}))
    ∙ passed _ _ _ _ (sym (c.if-is-9.ensures {u = tt}))
    ∙ passed _ _ _ _ (sym (c.if-is-10.ensures {u = tt}))
    ∙ passed _ _ _ _ (sym (c.if-is-11.ensures {u = tt}))
    ∙ passed _ _ _ _ (sym (c.if-is-12.ensures {u = tt}))
    ∙ passed _ _ _ _ (sym (c.if-is-13.ensures {u = tt}))
    ∙ found _ _ _ _ (sym (c.if-is-14.ensures {u = tt}))
    )

pub returns-then-is-15 : goal.returns-then-is-15
unfolding keywords
returns-then-is-15 c =
    sym (
    among_all _
    ∙ passed _ _ _ _ (sym (c.if-is.ensures {u = tt}))
    ∙ passed _ _ _ _ (sym (c.if-is-2.ensures {u = tt}))
    ∙ passed _ _ _ _ (sym (c.if-is-3.ensures {u = tt}))
    ∙ passed _ _ _ _ (sym (c.if-is-4.ensures {u = tt}))
    ∙ passed _ _ _ _ (sym (c.if-is-5.ensures {u = tt}))
    ∙ passed _ _ _ _ (sym (c.if-is-6.ensures {u = tt}))
    ∙ passed _ _ _ _ (sym (c.if-is-7.ensures {u = tt}))
    ∙ passed _ _ _ _ (sym (c.if-is-8.ensures {u = tt}))
    ∙ passed _ _ _ _ (sym (c.if-is-9.ensures {u = tt}))
    ∙ passed _ _ _ _ (sym (c.if-is-10.ensures {u = tt}))
    ∙ passed _ _ _ _ (sym (c.if-is-11.ensures {u = tt}))
    ∙ passed _ _ _ _ (sym (c.if-is-12.ensures {u = tt}))
    ∙ passed _ _ _ _ (sym (c.if-is-13.ensures {u = tt}))
    ∙ passed _ _ _ _ (sym (c.if-is-14.ensures {u = tt}))
    ∙ found _ _ _ _ (sym (c.if-is-15.ensures {u = tt}))
    )

pub returns-then-is-16 : goal.returns-then-is-16
unfolding keywords
returns-then-is-16 c =
    sym (
    among_all _
    ∙ passed _ _ _ _ (sym (c.if-is.ensures {u = tt}))
    ∙ passed _ _ _ _ (sym (c.if-is-2.ensures {u = tt}))
    ∙ passed _ _ _ _ (sym (c.if-is-3.ensures {u = tt}))
    ∙ passed _ _ _ _ (sym (c.if-is-4.ensures {u = tt}))
    ∙ passed _ _ _ _ (sym (c.if-is-5.ensures {u = tt}))
    ∙ passed _ _ _ _ (sym (c.if-is-6.ensures {u = tt}))
    ∙ passed _ _ _ _ (sym (c.if-is-7.ensures {u = tt}))
    ∙ passed _ _ _ _ (sym (c.if-is-8.ensures {u = tt}))
    ∙ passed _ _ _ _ (sym (c.if-is-9.ensures {u = tt}))
    ∙ passed _ _ _ _ (sym (c.if-is-10.ensures {u = tt}))
    ∙ passed _ _ _ _ (sym (c.if-is-11.ensures {u = tt}))
    ∙ passed _ _ _ _ (sym (c.if-is-12.ensures {u = tt}))
    ∙ passed _ _ _ _ (sym (c.if-is-13.ensures {u = tt}))
    ∙ passed _ _ _ _ (sym (c.if-is-14.ensures {u = tt}))
    ∙ passed _ _ _ _ (sym (c.if-is-15.ensures {u = tt}))
    ∙ found _ _ _ _ (sym (c.if-is-16.ensures {u = tt}))
    )

pub returns-then-is-17 : goal.returns-then-is-17
unfolding keywords
returns-then-is-17 c =
    sym (
    among_all _
    ∙ passed _ _ _ _ (sym (c.if-is.ensures {u = tt}))
    ∙ passed _ _ _ _ (sym (c.if-is-2.ensures {u = tt}))
    ∙ passed _ _ _ _ (sym (c.if-is-3.ensures {u = tt}))
    ∙ passed _ _ _ _ (sym (c.if-is-4.ensures {u = tt}))
    ∙ passed _ _ _ _ (sym (c.if-is-5.ensures {u = tt}))
    ∙ passed _ _ _ _ (sym (c.if-is-6.ensures {u = tt}))
    ∙ passed _ _ _ _ (sym (c.if-is-7.ensures {u = tt}))
    ∙ passed _ _ _ _ (sym (c.if-is-8.ensures {u = tt}))
    ∙ passed _ _ _ _ (sym (c.if-is-9.ensures {u = tt}))
    ∙ passed _ _ _ _ (sym (c.if-is-10.ensures {u = tt}))
    ∙ passed _ _ _ _ (sym (c.if-is-11.ensures {u = tt}))
    ∙ passed _ _ _ _ (sym (c.if-is-12.ensures {u = tt}))
    ∙ passed _ _ _ _ (sym (c.if-is-13.ensures {u = tt}))
    ∙ passed _ _ _ _ (sym (c.if-is-14.ensures {u = tt}))
    ∙ passed _ _ _ _ (sym (c.if-is-15.ensures {u = tt}))
    ∙ passed _ _ _ _ (sym (c.if-is-16.ensures {u = tt}))
    ∙ found _ _ _ _ (sym (c.if-is-17.ensures {u = tt}))
    )

pub returns-else-is-17 : goal.returns-else-is-17
unfolding keywords
returns-else-is-17 c =
    sym (
    among_all _
    ∙ passed _ _ _ _ (sym (c.if-is.ensures {u = tt}))
    ∙ passed _ _ _ _ (sym (c.if-is-2.ensures {u = tt}))
    ∙ passed _ _ _ _ (sym (c.if-is-3.ensures {u = tt}))
    ∙ passed _ _ _ _ (sym (c.if-is-4.ensures {u = tt}))
    ∙ passed _ _ _ _ (sym (c.if-is-5.ensures {u = tt}))
    ∙ passed _ _ _ _ (sym (c.if-is-6.ensures {u = tt}))
    ∙ passed _ _ _ _ (sym (c.if-is-7.ensures {u = tt}))
    ∙ passed _ _ _ _ (sym (c.if-is-8.ensures {u = tt}))
    ∙ passed _ _ _ _ (sym (c.if-is-9.ensures {u = tt}))
    ∙ passed _ _ _ _ (sym (c.if-is-10.ensures {u = tt}))
    ∙ passed _ _ _ _ (sym (c.if-is-11.ensures {u = tt}))
    ∙ passed _ _ _ _ (sym (c.if-is-12.ensures {u = tt}))
    ∙ passed _ _ _ _ (sym (c.if-is-13.ensures {u = tt}))
    ∙ passed _ _ _ _ (sym (c.if-is-14.ensures {u = tt}))
    ∙ passed _ _ _ _ (sym (c.if-is-15.ensures {u = tt}))
    ∙ passed _ _ _ _ (sym (c.if-is-16.ensures {u = tt}))
    ∙ passed _ _ _ _ (sym (c.if-is-17.ensures {u = tt}))
    ∙ none_left _
    )
