-- How the texts of replies are put together.
use Rattle.std.proofs.Common.{◌≡◌, ℕ, List, ◌++◌, append_assoc, ap, ◌∙◌, refl}
use Rattle.std.specs.Prelude.{codes, decimal}
use Rattle.ec_axioms.specs.declared.event.Cut.{Cut}
use Rattle.ec_commands.specs.Answers.{refused_commit, answer_text, cut_text}

-- two parts that are added one after another
pub two_parts : (start a b : List ℕ) {first all : List ℕ} → first ≡ start ++ a → all ≡ first ++ b → all ≡ start ++ (a ++ b)
two_parts start a b one two = two ∙ ap (λ all. all ++ b) one ∙ append_assoc start a b

-- four parts that are added one after another
pub four_parts : (start a b c d : List ℕ) {first second third all : List ℕ}
    → first ≡ start ++ a → second ≡ first ++ b → third ≡ second ++ c → all ≡ third ++ d → all ≡ start ++ (((a ++ b) ++ c) ++ d)
four_parts start a b c d one two three four =
    four ∙ ap (λ all. all ++ d) (three ∙ ap (λ all. all ++ c) (two ∙ ap (λ all. all ++ b) one)) ∙ simp append_assoc

-- the text of a refused draft
pub answer_text-commit : (place : ℕ) (cut : Cut)
    → answer_text (refused_commit place cut) ≡ ((codes "refused commit " ++ decimal place) ++ codes " ") ++ cut_text cut
unfolding answer_text
answer_text-commit place cut = refl
