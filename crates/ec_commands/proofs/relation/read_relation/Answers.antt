-- The relation that a word spells, where it is none of those before it.
use Rattle.std.proofs.Common.{◌≡◌, ℕ, true, false, List, [], ◌∷◌, Option, Some, None, sym, refl, ◌∙◌}
use Rattle.std.specs.Prelude.{option_map, bytes_eq, find}
use Rattle.ec_commands.specs.declared.relation.Relation.{Relation}
use Rattle.ec_commands.specs.Relations.{relation_spelt, relation_words}
use Rattle.ec_commands.proofs.relation.read_relation.Goals as goal

-- the relation that a word spells among these
relation_in : List (List ℕ × Relation) → List ℕ → Option Relation
relation_in known word = option_map (λ (spelt : List ℕ × Relation). spelt.1) (find (λ (spelt : List ℕ × Relation). bytes_eq spelt.0 word) known)

among_all : (word : List ℕ) → relation_spelt word ≡ relation_in relation_words word
unfolding relation_spelt relation_in
among_all word = refl

passed : (spelling : List ℕ) (relation : Relation) (known : List (List ℕ × Relation)) (word : List ℕ) → bytes_eq spelling word ≡ false → relation_in ((spelling, relation) ∷ known) word ≡ relation_in known word
unfolding relation_in
passed spelling relation known word other = rw other refl

found : (spelling : List ℕ) (relation : Relation) (known : List (List ℕ × Relation)) (word : List ℕ) → bytes_eq spelling word ≡ true → relation_in ((spelling, relation) ∷ known) word ≡ Some relation
unfolding relation_in
found spelling relation known word same = rw same refl

none_left : (word : List ℕ) → relation_in [] word ≡ None
unfolding relation_in
none_left word = refl

pub returns-then-is-5 : goal.returns-then-is-5
unfolding relation_words
returns-then-is-5 c =
    sym (
    among_all _
    ∙ passed _ _ _ _ (sym (c.if-is.ensures {u = tt}))
    ∙ passed _ _ _ _ (sym (c.if-is-2.ensures {u = tt}))
    ∙ passed _ _ _ _ (sym (c.if-is-3.ensures {u = tt}))
    ∙ passed _ _ _ _ (sym (c.if-is-4.ensures {u = tt}))
    ∙ found _ _ _ _ (sym (c.if-is-5.ensures {u = tt}))
    )

pub returns-then-is-6 : goal.returns-then-is-6
unfolding relation_words
returns-then-is-6 c =
    sym (
    among_all _
    ∙ passed _ _ _ _ (sym (c.if-is.ensures {u = tt}))
    ∙ passed _ _ _ _ (sym (c.if-is-2.ensures {u = tt}))
    ∙ passed _ _ _ _ (sym (c.if-is-3.ensures {u = tt}))
    ∙ passed _ _ _ _ (sym (c.if-is-4.ensures {u = tt}))
    ∙ passed _ _ _ _ (sym (c.if-is-5.ensures {u = tt}))
    ∙ found _ _ _ _ (sym (c.if-is-6.ensures {u = tt}))
    )

pub returns-then-is-7 : goal.returns-then-is-7
unfolding relation_words
returns-then-is-7 c =
    sym (
    among_all _
    ∙ passed _ _ _ _ (sym (c.if-is.ensures {u = tt}))
    ∙ passed _ _ _ _ (sym (c.if-is-2.ensures {u = tt}))
    ∙ passed _ _ _ _ (sym (c.if-is-3.ensures {u = tt}))
    ∙ passed _ _ _ _ (sym (c.if-is-4.ensures {u = tt}))
    ∙ passed _ _ _ _ (sym (c.if-is-5.ensures {u = tt}))
    ∙ passed _ _ _ _ (sym (c.if-is-6.ensures {u = tt}))
    ∙ found _ _ _ _ (sym (c.if-is-7.ensures {u = tt}))
    )

pub returns-then-is-8 : goal.returns-then-is-8
unfolding relation_words
returns-then-is-8 c =
    sym (
    among_all _
    ∙ passed _ _ _ _ (sym (c.if-is.ensures {u = tt}))
    ∙ passed _ _ _ _ (sym (c.if-is-2.ensures {u = tt}))
    ∙ passed _ _ _ _ (sym (c.if-is-3.ensures {u = tt}))
    ∙ passed _ _ _ _ (sym (c.if-is-4.ensures {u = tt}))
    ∙ passed _ _ _ _ (sym (c.if-is-5.ensures {u = tt}))
    ∙ passed _ _ _ _ (sym (c.if-is-6.ensures {u = tt}))
    ∙ passed _ _ _ _ (sym (c.if-is-7.ensures {u = tt}))
    ∙ found _ _ _ _ (sym (c.if-is-8.ensures {u = tt}))
    )

pub returns-then-is-9 : goal.returns-then-is-9
unfolding relation_words
returns-then-is-9 c =
    sym (
    among_all _
    ∙ passed _ _ _ _ (sym (c.if-is.ensures {u = tt}))
    ∙ passed _ _ _ _ (sym (c.if-is-2.ensures {u = tt}))
    ∙ passed _ _ _ _ (sym (c.if-is-3.ensures {u = tt}))
    ∙ passed _ _ _ _ (sym (c.if-is-4.ensures {u = tt}))
    ∙ passed _ _ _ _ (sym (c.if-is-5.ensures {u = tt}))
    ∙ passed _ _ _ _ (sym (c.if-is-6.ensures {u = tt}))
    ∙ passed _ _ _ _ (sym (c.if-is-7.ensures {u = tt}))
    ∙ passed _ _ _ _ (sym (c.if-is-8.ensures {u = tt}))
    ∙ found _ _ _ _ (sym (c.if-is-9.ensures {u = tt}))
    )

pub returns-then-is-10 : goal.returns-then-is-10
unfolding relation_words
returns-then-is-10 c =
    sym (
    among_all _
    ∙ passed _ _ _ _ (sym (c.if-is.ensures {u = tt}))
    ∙ passed _ _ _ _ (sym (c.if-is-2.ensures {u = tt}))
    ∙ passed _ _ _ _ (sym (c.if-is-3.ensures {u = tt}))
    ∙ passed _ _ _ _ (sym (c.if-is-4.ensures {u = tt}))
    ∙ passed _ _ _ _ (sym (c.if-is-5.ensures {u = tt}))
    ∙ passed _ _ _ _ (sym (c.if-is-6.ensures {u = tt}))
    ∙ passed _ _ _ _ (sym (c.if-is-7.ensures {u = tt}))
    ∙ passed _ _ _ _ (sym (c.if-is-8.ensures {u = tt}))
    ∙ passed _ _ _ _ (sym (c.if-is-9.ensures {u = tt}))
    ∙ found _ _ _ _ (sym (c.if-is-10.ensures {u = tt}))
    )

pub returns-then-is-11 : goal.returns-then-is-11
unfolding relation_words
returns-then-is-11 c =
    sym (
    among_all _
    ∙ passed _ _ _ _ (sym (c.if-is.ensures {u = tt}))
    ∙ passed _ _ _ _ (sym (c.if-is-2.ensures {u = tt}))
    ∙ passed _ _ _ _ (sym (c.if-is-3.ensures {u = tt}))
    ∙ passed _ _ _ _ (sym (c.if-is-4.ensures {u = tt}))
    ∙ passed _ _ _ _ (sym (c.if-is-5.ensures {u = tt}))
    ∙ passed _ _ _ _ (sym (c.if-is-6.ensures {u = tt}))
    ∙ passed _ _ _ _ (sym (c.if-is-7.ensures {u = tt}))
    ∙ passed _ _ _ _ (sym (c.if-is-8.ensures {u = tt}))
    ∙ passed _ _ _ _ (sym (c.if-is-9.ensures {u = tt}))
    ∙ passed _ _ _ _ (sym (c.if-is-10.ensures {u = tt}))
    ∙ found _ _ _ _ (sym (c.if-is-11.ensures {u = tt}))
    )

pub returns-then-is-12 : goal.returns-then-is-12
unfolding relation_words
returns-then-is-12 c =
    sym (
    among_all _
    ∙ passed _ _ _ _ (sym (c.if-is.ensures {u = tt}))
    ∙ passed _ _ _ _ (sym (c.if-is-2.ensures {u = tt}))
    ∙ passed _ _ _ _ (sym (c.if-is-3.ensures {u = tt}))
    ∙ passed _ _ _ _ (sym (c.if-is-4.ensures {u = tt}))
    ∙ passed _ _ _ _ (sym (c.if-is-5.ensures {u = tt}))
    ∙ passed _ _ _ _ (sym (c.if-is-6.ensures {u = tt}))
    ∙ passed _ _ _ _ (sym (c.if-is-7.ensures {u = tt}))
    ∙ passed _ _ _ _ (sym (c.if-is-8.ensures {u = tt}))
    ∙ passed _ _ _ _ (sym (c.if-is-9.ensures {u = tt}))
    ∙ passed _ _ _ _ (sym (c.if-is-10.ensures {u = tt}))
    ∙ passed _ _ _ _ (sym (c.if-is-11.ensures {u = tt}))
    ∙ found _ _ _ _ (sym (c.if-is-12.ensures {u = tt}))
    )

pub returns-then-is-13 : goal.returns-then-is-13
unfolding relation_words
returns-then-is-13 c =
    sym (
    among_all _
    ∙ passed _ _ _ _ (sym (c.if-is.ensures {u = tt}))
    ∙ passed _ _ _ _ (sym (c.if-is-2.ensures {u = tt}))
    ∙ passed _ _ _ _ (sym (c.if-is-3.ensures {u = tt}))
    ∙ passed _ _ _ _ (sym (c.if-is-4.ensures {u = tt}))
    ∙ passed _ _ _ _ (sym (c.if-is-5.ensures {u = tt}))
    ∙ passed _ _ _ _ (sym (c.if-is-6.ensures {u = tt}))
    ∙ passed _ _ _ _ (sym (c.if-is-7.ensures {u = tt}))
    ∙ passed _ _ _ _ (sym (c.if-is-8.ensures {u = tt}))
    ∙ passed _ _ _ _ (sym (c.if-is-9.ensures {u = tt}))
    ∙ passed _ _ _ _ (sym (c.if-is-10.ensures {u = tt}))
    ∙ passed _ _ _ _ (sym (c.if-is-11.ensures {u = tt}))
    ∙ passed _ _ _ _ (sym (c.if-is-12.ensures {u = tt}))
    ∙ found _ _ _ _ (sym (c.if-is-13.ensures {u = tt}))
    )

pub returns-else-is-13 : goal.returns-else-is-13
unfolding relation_words
returns-else-is-13 c =
    sym (
    among_all _
    ∙ passed _ _ _ _ (sym (c.if-is.ensures {u = tt}))
    ∙ passed _ _ _ _ (sym (c.if-is-2.ensures {u = tt}))
    ∙ passed _ _ _ _ (sym (c.if-is-3.ensures {u = tt}))
    ∙ passed _ _ _ _ (sym (c.if-is-4.ensures {u = tt}))
    ∙ passed _ _ _ _ (sym (c.if-is-5.ensures {u = tt}))
    ∙ passed _ _ _ _ (sym (c.if-is-6.ensures {u = tt}))
    ∙ passed _ _ _ _ (sym (c.if-is-7.ensures {u = tt}))
    ∙ passed _ _ _ _ (sym (c.if-is-8.ensures {u = tt}))
    ∙ passed _ _ _ _ (sym (c.if-is-9.ensures {u = tt}))
    ∙ passed _ _ _ _ (sym (c.if-is-10.ensures {u = tt}))
    ∙ passed _ _ _ _ (sym (c.if-is-11.ensures {u = tt}))
    ∙ passed _ _ _ _ (sym (c.if-is-12.ensures {u = tt}))
    ∙ passed _ _ _ _ (sym (c.if-is-13.ensures {u = tt}))
    ∙ none_left _
    )
